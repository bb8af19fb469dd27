-- A field that a step takes has the width of its construct.
-- Assumes nothing.
use Prim.Native.Nat.{ℕ, ◌+◌, ◌*◌, ◌-◌}
use mathlib.Core.Path.{◌≡◌, refl}
use mathlib.Core.Bool.{Bool, true, false, cond, ◌&&◌}
use mathlib.Core.List.{List}
use lib.Dec.{leb, ltb, eqb}
use lib.IntN.{ℤ}
use lib.ListN.{take, drop}
use Rattle.basis.specs.Bits.{value, frame_bits}
use Rattle.basis.proofs.Booleans.{either_way}
use Rattle.term_evaluation.specs.Meaning.{membership}
use Rattle.table_layout.specs.Places.{rule_word, rule_count}
use Rattle.table_layout.specs.Constructs.{construct_at}
use Rattle.table_layout.specs.Held.{terms_of, opening}
use Rattle.table_layout.specs.declared.Construct.{Construct}
use Rattle.run_actions.specs.Stored.{stored, prediction_at, follow_at}
use Rattle.run_actions.specs.Acts.{in_table, whole_in_table, terms_in_table, binder_in_table, known_values, enter, open_rule, ahead_at, bits_of, by_branch, branch_act, case_test, by_case, case_act, members_act, by_lookahead, choice_act, turn_act, counted, literal_holds, kept, by_set, number_at, construct_act, act_of}
use Rattle.run_actions.specs.declared.Act.{Act}
use Rattle.run_actions.proofs.Doing.{walk_keeps}
use Rattle.run_fields.specs.Fields.{field_width}
use Rattle.std.specs.Prelude.{Result, Ok, Err}
use Rattle.term_words.specs.declared.TermError.{TermError}
use Rattle.term_evaluation.specs.declared.Allowed.{Allowed}

-- an act that takes a field takes w bits
abbrev pub Wide : ℕ → Act → Type 0
Wide w Act.Broken = Unit {0}
Wide w Act.Fail = Unit {0}
Wide w (Act.Enter b) = Unit {0}
Wide w (Act.Members start end n) = Unit {0}
Wide w (Act.Again b) = Unit {0}
Wide w Act.Leave = Unit {0}
Wide w (Act.Take width binder n) = w ≡ width

module _ (w : ℕ) (ws fs : List ℕ) (vs : List ℤ) (p : ℕ) where
  open_wide : (rule : ℕ) → Wide w (open_rule ws rule)
  open_wide rule = either_way (Wide w) (ltb rule (rule_count ws)) (either_way (Wide w) (in_table ws (rule_word ws rule 0)) tt tt) tt

  branch_wide : (n j end : ℕ) → Wide w (branch_act ws n j end)
  branch_wide n j end = walk_keeps (Wide w) (λ i rest. by_branch (stored ws (prediction_at i) n) i rest) Act.Fail Act.Broken ws end tt tt (λ i rest m h. visit i rest (stored ws (prediction_at i) n) h) (end - j) j
    where
      visit : (i : ℕ) (rest : Act) (t : Bool) → Wide w rest → Wide w (by_branch t i rest)
      visit i rest true h = tt
      visit i rest false h = h

  case_wide : (j end : ℕ) → Wide w (case_act ws vs j end)
  case_wide j end = walk_keeps (Wide w) (λ i rest. by_case (case_test ws vs i) i rest) Act.Leave Act.Broken ws end tt tt (λ i rest m h. visit i rest (case_test ws vs i) h) (end - j) j
    where
      visit : (i : ℕ) (rest : Act) (t : Result Bool TermError) → Wide w rest → Wide w (by_case t i rest)
      visit i rest (Ok true) h = tt
      visit i rest (Ok false) h = h
      visit i rest (Err e) h = tt

  members_wide : (start end : ℕ) → Wide w (members_act ws start end)
  members_wide start end =
      walk_keeps {A = ℕ → Act} (λ (f : ℕ → Act). (n : ℕ) → Wide w (f n)) (λ i rest n. rest (n + 1)) (λ n. Act.Members start end n) (λ n. Act.Broken) ws end (λ n. tt) (λ n. tt) (λ i rest m h n. h (n + 1))
      (end - start) start 0

  choice_wide : (n i : ℕ) → Wide w (choice_act ws n i)
  choice_wide n i = by (stored ws (prediction_at (i + 1)) n) (stored ws (follow_at i) n)
    where
      by : (c e : Bool) → Wide w (by_lookahead c e (i + 1))
      by true e = tt
      by false true = tt
      by false false = tt

  turn_wide : (n i k : ℕ) (c : Result Allowed TermError) → Wide w (turn_act ws n i k c)
  turn_wide n i k (Ok Allowed.None) = tt
  turn_wide n i k (Ok (Allowed.From low)) = either_way (Wide w) (ltb k low) tt (choice_wide n i)
  turn_wide n i k (Ok (Allowed.Within low more)) = either_way (Wide w) (ltb k low) tt (either_way (Wide w) (leb (low + more) k) tt (choice_wide n i))
  turn_wide n i k (Err e) = tt

set_wide : (w binder : ℕ) (n : ℤ) (t : Result Bool TermError) → Wide w (by_set t w binder n)
set_wide w binder n (Ok true) = refl
set_wide w binder n (Ok false) = tt
set_wide w binder n (Err e) = tt

-- by what the construct is
construct_wide : (ws fs : List ℕ) (vs : List ℤ) (p i k : ℕ) (c : Construct) → Wide (field_width c) (construct_act ws fs vs p i k c)
construct_wide ws fs vs p i k Construct.Missing = tt
construct_wide ws fs vs p i k (Construct.Alternative size) = branch_wide 0 ws fs vs p (ahead_at fs p) (i + 1) (i + size)
construct_wide ws fs vs p i k (Construct.Concatenation size) = members_wide 0 ws fs vs p (i + 1) (i + size)
construct_wide ws fs vs p i k (Construct.Repetition size passes) = turn_wide 0 ws fs vs p (ahead_at fs p) i k (counted ws vs passes)
construct_wide ws fs vs p i k (Construct.Switch size) = case_wide 0 ws fs vs p (i + 1) (i + size)
construct_wide ws fs vs p i k (Construct.Use rule) = open_wide 0 ws fs vs p rule
construct_wide ws fs vs p i k (Construct.Literal n) =
    either_way (Wide (8 * n)) (leb (p + 8 * n) (bits_of fs)) (either_way (Wide (8 * n)) (literal_holds ws fs p i 0 n) refl tt) tt
construct_wide ws fs vs p i k (Construct.Range low high) =
    let v = value (take 8 (drop p (frame_bits fs))) in
    either_way (Wide 8) (leb (p + 8) (bits_of fs)) (either_way (Wide 8) (leb low v && leb v high) refl tt) tt
construct_wide ws fs vs p i k (Construct.Uint signed width start end binder) =
    let v : ℤ = number_at fs p signed width in
    either_way (Wide width) (terms_in_table ws end && binder_in_table ws binder)
    (either_way (Wide width) (leb (p + width) (bits_of fs)) (set_wide width binder (kept binder v) (membership vs v start (terms_of ws start end))) tt)
    tt
construct_wide ws fs vs p i k Construct.Eod = either_way (Wide 0) (eqb p (bits_of fs)) tt tt

-- of every act that is decided
pub act_wide : (ws fs : List ℕ) (vs : List ℤ) (p i k : ℕ) → Wide (field_width (construct_at ws i)) (act_of ws fs vs p i k)
unfolding act_of
act_wide ws fs vs p i k =
    let w : ℕ = field_width (construct_at ws i) in
    either_way (Wide w) (eqb i opening) (open_wide w ws fs vs p 0)
    (either_way (Wide w) (whole_in_table ws i) (construct_wide ws fs (known_values ws vs) p i k (construct_at ws i)) tt)
