-- What the judgement of encoded words answers, 9 to 13. Only the crate's own helpers promise this.
-- Assumes nothing.
use Rattle.std.specs.Prelude.{ℕ, ◌+◌, ◌≤◌, ◌<◌, ◌≡◌, Bool, true, false, List, length, take, drop}
use Rattle.basis.specs.Limits.{max_text_bytes, max_weight, table_words}
use Rattle.theory.specs.Lookahead.{EmptyBody}
use Rattle.table_layout.specs.Places.{construct_count}
use Rattle.table_layout.specs.Held.{held}
use Rattle.table_conflicts.specs.Conflicts.{Conflicting, Answered}
use Rattle.table_conflicts.specs.declared.Clash.{Clash}
use Rattle.table_reach.specs.Reaching.{AllReached, FirstUnreached}
use Rattle.table_judge.specs.Judged.{Passed9, Passed10, Least, None, Weighing, Light, Valueless}
use Rattle.table_judge.specs.Sound.{Sound}
use Rattle.table_hypotheses.specs.OneTable.{Alike}
use Rattle.text_store.specs.Words.{place_of, second_place, mark_place, named_at}
use Rattle.text_admission.specs.declared.Admission.{Admission}

-- p is the least mark of the constructs with a body that may be empty, where there is one
pub record Marks (ns ws : List ℕ) (n p : ℕ) : Type 0 where
  pub below : (i : ℕ) → i < n → EmptyBody (held ws) i → p ≤ mark_place ns i
  pub found : (i : ℕ) → i < n → EmptyBody (held ws) i → (j : ℕ) × (j < n) × EmptyBody (held ws) j × (p ≡ mark_place ns j)

-- 9 at the least mark, 11 at the start rule, 12 at the rule and 13 at the uint; `base` is where the rules begin
pub data LateRefused (ns rs : List ℕ) (base : ℕ) (ws : List ℕ) : (number place : ℕ) → Type 0 where
  empty_body : {p i place : ℕ} → i < construct_count ws → EmptyBody (held ws) i → Marks ns ws (construct_count ws) p → place ≡ base + p → LateRefused ns rs base ws 9 place
  overweight : {place : ℕ} → Passed10 ws → Weighing ws (λ n. max_weight < n) → place ≡ base + named_at rs 0 → LateRefused ns rs base ws 11 place
  unreached : {rule place : ℕ} → Passed10 ws → Light ws → FirstUnreached ws rule → place ≡ base + named_at rs rule → LateRefused ns rs base ws 12 place
  no_value : {i place : ℕ} → Passed10 ws → Light ws → AllReached ws → Least ws (Valueless ws) i → place ≡ base + place_of ns i → LateRefused ns rs base ws 13 place

-- 10, as `Admitted.Clashes` has it
pub record LateClash (ns : List ℕ) (base : ℕ) (ws : List ℕ) (place construct : ℕ) (clash : Clash) : Type 0 where
  pub passed : Passed9 ws
  pub first : Least ws (Conflicting ws) construct
  pub answered : Answered ws construct clash
  pub at : place ≡ base + place_of ns construct

-- neither: the words were completed to a sound table of the same grammar
pub record LatePass (weight : ℕ) (old new : List ℕ) : Type 0 where
  pub judged : Passed10 old
  pub weighs : Weighing old (λ n. n ≡ weight)
  pub limited : weight ≤ max_weight
  pub reached : AllReached old
  pub valued : None (Valueless old)
  pub sound : Sound new
  pub same : Alike old new

-- the answer to encoded words that have passed up to 8
abbrev pub Late : (ns rs : List ℕ) → (base : ℕ) → (old new : List ℕ) → Admission → Type 0
Late ns rs base old new (Admission.Admitted weight) = LatePass weight old new
Late ns rs base old new (Admission.Refused number place) = LateRefused ns rs base old number place
Late ns rs base old new (Admission.Conflict place construct clash) = LateClash ns base old place construct clash

-- the table goes to the caller
abbrev pub is_admitted : Admission → Bool
is_admitted (Admission.Admitted weight) = true
is_admitted (Admission.Refused number place) = false
is_admitted (Admission.Conflict place construct clash) = false

-- an admitted grammar's table is the first 16,384 words, and nothing else changes
abbrev pub HandedOver : Admission → (words old new : List ℕ) → Type 0
HandedOver (Admission.Admitted weight) words old new = (take table_words new ≡ words) × (drop table_words new ≡ drop table_words old) × (length new ≡ length old)
HandedOver (Admission.Refused number place) words old new = new ≡ old
HandedOver (Admission.Conflict place construct clash) words old new = new ≡ old

-- places that are stored are within the largest text
pub record Within (ns rs : List ℕ) : Type 0 where
  pub nodes : (i : ℕ) → (place_of ns i ≤ max_text_bytes) × (second_place ns i ≤ max_text_bytes)
  pub rules : (k : ℕ) → named_at rs k ≤ max_text_bytes
