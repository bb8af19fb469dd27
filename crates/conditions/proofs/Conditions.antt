-- Conditions 2 and 3, from `run_matcher`'s of the table: its grammar is the text's, and its weight is the admitted one.
-- Assumes nothing.
use Prim.Native.Nat.{ℕ, ◌+◌, ◌*◌, ◌≤◌}
use mathlib.Core.Path.{◌≡◌, refl, subst}
use mathlib.Core.Logic.{◌↔◌}
use mathlib.Core.List.{List}
use native.Mathlib.Omega.{arith}
use lib.ListN.{length}
use Rattle.basis.specs.Limits.{max_frame_bytes}
use Rattle.basis.specs.Bits.{Bits, frame_bits}
use Rattle.theory.specs.Grammar.{Grammar}
use Rattle.theory.specs.Derivation.{Tree, Derivation}
use Rattle.table_layout.specs.Places.{table_of, weight_of}
use Rattle.table_layout.specs.Held.{Context, Values, held}
use Rattle.run_actions.specs.Acts.{bits_of}
use Rattle.table_judge.specs.Sound.{SoundTable}
use Rattle.run_matcher.specs.Opening.{Answered, Opened}
use Rattle.run_matcher.specs.declared.Answer.{Answer}
use Rattle.run_matcher.specs.Conditions.{Grant, Kept, OthersRefused, start, here, grammar_of}
use Rattle.run_matcher.proofs.Conditions.{condition_2 as table-condition-2, condition_3 as table-condition-3, at_most_one as table-at-most-one, never_broken}
use Rattle.tree_meaning.specs.Local.{local_grammar}
use Rattle.admission.specs.Texts.{TreeOf}
use Rattle.conditions.specs.Conditions.{HasTable, Exact, AtMostOne, Claim, Condition2, Condition3}
use Rattle.conditions.proofs.Tables.{text_table, same_local, copy_sound, copy_weight, copy_local, copy_steps}

module _ (ws fs rs : List ℕ) (o : Opened ws fs rs) where
  exact : (gs : List Grant) → OthersRefused ws fs gs (start rs) → Exact (grammar_of ws) fs rs (here ws fs rs gs)
  exact gs a = let e = table-condition-2 ws fs rs o gs a in record { match_iff = e.match_iff; no_match_iff = e.no_match_iff; fields = e.fields }

  claim : (weight : ℕ) → weight_of (table_of ws) ≡ weight → Claim (held (table_of ws)) weight ws fs rs
  claim weight e =
      let c = table-condition-3 ws fs rs o in
      record {
        needed = c.needed;
        within_bound = subst (λ (k : ℕ). c.needed ≤ k * (bits_of fs + 1)) e c.within_bound;
        granting = c.granting;
        by_steps = c.by_steps;
        unbroken = never_broken.listed ws fs rs o;
        any_reading = never_broken.any_reading ws fs rs o;
      }

-- the same of another grammar with the same derivations
exact_same : {g h : Grammar Context Values} {fs rs : List ℕ} {k : Kept} → ((s : Bits) (d : Tree) (v : Values) → Derivation g s d v ↔ Derivation h s d v) → Exact g fs rs k → Exact h fs rs k
exact_same {fs = fs} same e =
    record {
      match_iff = λ d. (λ z. (let x = (e.match_iff d).0 z in (x.0, x.1, (same (frame_bits fs) x.0 x.1).0 x.2)), λ x. (e.match_iff d).1 (x.0, x.1, (same (frame_bits fs) x.0 x.1).1 x.2));
      no_match_iff = λ d. (
        λ z x. (e.no_match_iff d).0 z (x.0, x.1, (same (frame_bits fs) x.0 x.1).1 x.2),
        λ n. (e.no_match_iff d).1 (λ x. n (x.0, x.1, (same (frame_bits fs) x.0 x.1).0 x.2)),
      );
      fields = λ z t v d. e.fields z t v ((same (frame_bits fs) t v).1 d);
    }

matching : (text table : List ℕ) (weight : ℕ) → HasTable text table weight → (x : TreeOf text)
    → (fs rs : List ℕ) → Opened table fs rs → (gs : List Grant) → OthersRefused table fs gs (start rs) → Exact (local_grammar x.tree) fs rs (here table fs rs gs)
matching text table weight a x fs rs o gs r = exact_same (copy_local text table weight a x) (exact table fs rs o gs r)

-- one answer, of a sound table
opens : (ws fs rs : List ℕ) (answer : Answer) → SoundTable ws → Answered ws fs rs answer → (answer ≡ Answer.Opened) ↔ ((length fs ≤ max_frame_bytes) × (2 * bits_of fs ≤ length rs))
opens ws fs rs Answer.Unsound s a = absurd (a s)
opens ws fs rs Answer.LongFrame s a = (λ e. (let z : ◌≡◌ {A = ℕ} 0 1 = cc in absurd (omega arith)), λ h. absurd (omega (arith, a.1, h.0)))
opens ws fs rs Answer.SmallReading s a = (λ e. (let z : ◌≡◌ {A = ℕ} 0 1 = cc in absurd (omega arith)), λ h. absurd (omega (arith, a.2, h.1)))
opens ws fs rs Answer.Opened s a = (λ e. (a.1, a.2), λ h. refl)

pub condition_2 : Condition2
condition_2 =
    record {
      admitting = λ text old new answer a. a.exactly;
      opened = λ text table weight a fs rs answer. opens table fs rs answer (copy_sound text table weight a);
      matching = matching;
    }

pub at_most_one : AtMostOne
at_most_one text old table weight a x s t t' v v' d d' =
    let same = same_local text old table weight a x in
    table-at-most-one table (text_table text old table weight a).sound s t t' v v' ((same s t v).1 d) ((same s t' v').1 d')

pub condition_3 : Condition3
condition_3 text table weight a x fs rs o =
    let c = claim table fs rs o weight (copy_weight text table weight a) in
    record {
      needed = c.needed;
      within_bound = c.within_bound;
      granting = c.granting;
      by_steps = λ gs r. (copy_steps text table weight a x fs rs gs).0 (c.by_steps gs r);
      unbroken = c.unbroken;
      any_reading = c.any_reading;
    }
