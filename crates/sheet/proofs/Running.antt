-- A run on the table of a text, from what the theory's machine makes of the text's grammar.
-- Assumes nothing.
use Prim.Native.Nat.{ℕ, ◌+◌, ◌*◌, ◌-◌, ◌≤◌}
use mathlib.Core.Path.{◌≡◌, refl, sym, ap, ap₂, subst, ◌∙◌}
use mathlib.Core.List.{List, [], ◌∷◌, ◌++◌, map}
use native.Mathlib.Omega.{arith}
use lib.IntN.{pos}
use lib.ListN.{length, drop, replicate}
use Rattle.basis.specs.Limits.{max_variables}
use Rattle.basis.specs.Bits.{frame_bits}
use Rattle.theory.specs.Grammar.{Grammar}
use Rattle.theory.specs.Derivation.{Capture}
use Rattle.theory.specs.Machine.{Tests, captures_of, Verdict, matched, unmatched, verdict_of, state_of, taken_of, opened, granted}
use Rattle.table_layout.specs.Places.{table_of}
use Rattle.table_layout.specs.Held.{Context, Values}
use Rattle.run_steps.specs.Steps.{Whole}
use Rattle.run_refinement.specs.Runs.{HeldRun, recorded, words_of, verdict_as, head_of as head_in, values_of, reading_of, run_of}
use Rattle.run_refinement.proofs.Pending.{recorded_length}
use Rattle.run_refinement.proofs.Verdicts.{matched_as, unmatched_as}
use Rattle.run_refinement.proofs.Readings.{reading_is}
use Rattle.run_refinement.proofs.Steady.{state_values}
use Rattle.run_refinement.proofs.Openings.{opening_fits}
use Rattle.run_refinement.proofs.Fitting.{captures_held, values_held}
use Rattle.run_grants.specs.Runs.{whole_of, opened_run}
use Rattle.run_matcher.specs.Opening.{Opened}
use Rattle.run_matcher.specs.Windows.{Tells}
use Rattle.run_matcher.specs.Conditions.{Grant, own, granted as granted-in, run_kept, reading_kept, OthersRefused, start, here}
use Rattle.run_matcher.proofs.Moments.{begun, at, fits_at, at_rest}
use Rattle.conditions.specs.Conditions.{Claim}
use Rattle.sheet.specs.Sheet.{Verdict as Said, match, no_match, stored, Ended}

abbrev pub said : Said → Verdict
said match = matched
said no_match = unmatched

-- the words of fields are two for each
words_length : (cs : List Capture) → length (words_of cs) ≡ 2 * length cs
unfolding words_of
words_length [] = refl
words_length (c ∷ cs) = omega (arith, words_length cs)

stored_as : (d : ℕ) (v : Said) → d ≤ 2 → verdict_as d ≡ said v → d ≡ stored v
stored_as d match l e = (matched_as d).1 e
stored_as d no_match l e = (unmatched_as d l).1 e

not_stored : (v : Said) → stored v ≡ 0 → ⊥
not_stored match e = omega arith
not_stored no_match e = omega arith

-- the theory's run after n steps, and what the sheet says of it
abbrev pub made : Grammar Context Values → Tests → List ℕ → ℕ → HeldRun
made g tests fs n = granted g tests n (opened g tests (frame_bits fs))

pub record Makes (g : Grammar Context Values) (tests : Tests) (fs : List ℕ) (d : Said) (n : ℕ) (values : List ℕ) (cs : List Capture) : Type 0 where
  pub verdict : verdict_of (made g tests fs n) ≡ said d
  pub steps : taken_of (made g tests fs n) ≡ n
  pub values_are : state_values (state_of (made g tests fs n)) ≡ map pos values ++ replicate (max_variables - length values) (pos 0)
  pub captures : captures_of (state_of (made g tests fs n)) ≡ cs

pub makes : {g : Grammar Context Values} {tests : Tests} {fs : List ℕ} {d : Said} {n : ℕ} {values : List ℕ} {cs : List Capture}
    → verdict_of (made g tests fs n) ≡ said d → taken_of (made g tests fs n) ≡ n
    → state_values (state_of (made g tests fs n)) ≡ map pos values ++ replicate (max_variables - length values) (pos 0) → captures_of (state_of (made g tests fs n)) ≡ cs
    → Makes g tests fs d n values cs
makes a b c d = record { verdict = a; steps = b; values_are = c; captures = d }

-- the table of a text with the grammar g, and tests that tell its windows
module _ (ws fs rs : List ℕ) (o : Opened ws fs rs) (g : Grammar Context Values) (weight : ℕ) (claim : Claim g weight ws fs rs) (tests : Tests) (told : Tells g tests) where
  abbrev table : List ℕ
  table = table_of ws

  granted_own : (n : ℕ) → granted-in (own n ∷ []) ≡ n
  unfolding granted-in
  granted_own n = omega arith

  own_turned : (n : ℕ) → OthersRefused ws fs (own n ∷ []) (start rs)
  unfolding OthersRefused
  own_turned n = (tt, tt)

  module _ (d : Said) (n : ℕ) (values : List ℕ) (cs : List Capture) (m : Makes g tests fs d n values cs) where
    abbrev w : Whole
    w = at ws fs rs o n

    -- the words' run is the theory's, on the text's grammar: it is what one grant leaves
    same_run : run_of fs w ≡ made g tests fs n
    same_run =
        let gs : List Grant = own n ∷ [] in
        subst (λ (k : ℕ). run_of fs (at ws fs rs o k) ≡ made g tests fs k) (granted_own n)
        (sym (ap (run_of fs) (claim.granting gs (own_turned n)).state) ∙ (claim.by_steps gs (own_turned n)).made tests told)

    verdict_at : (head_in w).verdict ≡ stored d
    verdict_at = stored_as (head_in w).verdict d (fits_at ws fs rs o n).verdict (ap verdict_of same_run ∙ m.verdict)

    recorded_at : recorded (reading_of w) (head_in w).captures ≡ cs
    recorded_at = sym (captures_held fs w) ∙ (ap (λ (x : HeldRun). captures_of (state_of x)) same_run ∙ m.captures)

    captures_at : (head_in w).captures ≡ length cs
    captures_at = sym (recorded_length (reading_of w) (head_in w).captures) ∙ ap length recorded_at

    reading_at : reading_of w ≡ words_of cs ++ drop (length (words_of cs)) rs
    reading_at =
        reading_is table fs n (whole_of rs opened_run) (opening_fits table fs opened_run.constructs opened_run.passes rs (begun ws fs rs o))
        ∙ (ap₂ (λ (x : List Capture) (k : ℕ). words_of x ++ drop (2 * k) rs) recorded_at captures_at
        ∙ ap (λ (k : ℕ). words_of cs ++ drop k rs) (sym (words_length cs)))

    -- and so it stays, however many more steps are granted
    kept_as : (gs : List Grant) → OthersRefused ws fs gs (start rs) → n ≤ granted-in gs → whole_of (reading_kept (here ws fs rs gs)) (run_kept (here ws fs rs gs)) ≡ w
    kept_as gs r l =
        (claim.granting gs r).state
        ∙ (ap (at ws fs rs o) (let z : granted-in gs ≡ n + (granted-in gs - n) = omega arith in z)
        ∙ at_rest ws fs rs o n (granted-in gs - n) (λ z. not_stored d (sym verdict_at ∙ z)))

    pub ended : (gs : List Grant) → OthersRefused ws fs gs (start rs) → n ≤ granted-in gs → Ended (here ws fs rs gs) rs d n values (words_of cs)
    ended gs r l =
        let k = kept_as gs r l in
        record {
          verdict_is = ap (λ (x : Whole). (head_in x).verdict) k ∙ verdict_at;
          steps_are = ap (λ (x : Whole). (head_in x).steps) k ∙ (ap taken_of same_run ∙ m.steps);
          values_are = ap values_of k ∙ (sym (values_held fs w) ∙ (ap (λ (x : HeldRun). state_values (state_of x)) same_run ∙ m.values_are));
          fields_are = ap (λ (x : Whole). 2 * (head_in x).captures) k ∙ (ap (λ (m : ℕ). 2 * m) captures_at ∙ sym (words_length cs));
          reading_is = ap reading_of k ∙ reading_at;
        }
