-- The mission's conditions, proved of every run that was opened.
-- Assumes nothing.
use Prim.Native.Nat.{ℕ, zero, suc, ◌+◌, ◌*◌, ◌-◌, ◌≤◌, ◌<◌, min}
use native.Mathlib.Omega.{arith}
use mathlib.Core.Path.{◌≡◌, refl, sym, ap, ap₂, subst, ◌∙◌}
use mathlib.Core.Logic.{◌⊎◌, ◌↔◌, inl, inr}
use mathlib.Core.List.{List, [], ◌∷◌}
use mathlib.Core.Option.{none, some}
use lib.ListN.{drop}
use Rattle.basis.specs.Bits.{frame_bits}
use Rattle.theory.specs.Theorems.{Derivable}
use Rattle.theory.proofs.Theorems.{exact_local}
use Rattle.table_layout.specs.Places.{table_of}
use Rattle.table_layout.specs.Held.{held}
use Rattle.table_scope.specs.Scope.{store, scope_of, fresh}
use Rattle.table_weights.proofs.Heights.{weight_at}
use Rattle.run_actions.specs.Stored.{tests_of}
use Rattle.table_hypotheses.proofs.Reliability.{reliable}
use Rattle.table_hypotheses.proofs.Trust.{trusted}
use Rattle.run_steps.specs.Steps.{Whole, whole, steps_of}
use Rattle.run_refinement.specs.Runs.{reading_of, head_of as head_in, run_of}
use Rattle.run_refinement.proofs.Readings.{steps_record}
use Rattle.run_grants.specs.Runs.{whole_of, opened_run, After, run_in, reading_in, answer_in, after_steps, grant_of, number_of}
use Rattle.run_grants.specs.declared.Run.{Run}
use Rattle.run_grants.specs.declared.Answer.{Answer}
use Rattle.run_grants.proofs.Taken.{steps_add}
use Rattle.run_grants.proofs.Grants.{Unchanged, made, refusal_told, refused as refused-law, granted as granted-law}
use Rattle.run_matcher.specs.Opening.{Opened}
use Rattle.run_matcher.specs.Conditions.{Grant, own, other, given, granted, Kept, run_kept, reading_kept, TurnedAway, Counts, call, next, after_grants, OthersRefused, EachCounts, grammar_of, start, Decided, here, Unbroken, Exact, Granted, BySteps, Claim, AtMostOne, NeverBroken, Condition2, Condition3}
use Rattle.run_matcher.proofs.Moments.{at, fits_at, run_at, own_admitted, course, match_at, no_match_at, fields_at}
use Rattle.run_matcher.proofs.AnyReading.{any_reading}
use Rattle.run_matcher.proofs.Telling.{tells, same_run}

-- the answer counts the steps
answer_made : (before : ℕ) (w : Whole) → answer_in (after_steps before w) ≡ Answer.Taken ((head_in w).steps - before)
answer_made before (whole cs ps vs rs h) = refl

-- one of three verdicts: the second or the third, where it is not the first
decided_by : (d : ℕ) → d ≤ 2 → (d ≡ 0 → ⊥) → (d ≡ 1) ⊎ (d ≡ 2)
decided_by zero l h = absurd (h refl)
decided_by (suc zero) l h = inl refl
decided_by (suc (suc zero)) l h = inr refl
decided_by (suc (suc (suc d))) l h = absurd (omega arith)

undecided_not : (d : ℕ) → (d ≡ 1) ⊎ (d ≡ 2) → d ≡ 0 → ⊥
undecided_not d (inl e) z = omega arith
undecided_not d (inr e) z = omega arith

-- a grant that is turned away changes nothing
turned_away : (ws fs rs : List ℕ) (run : Run) (n : ℕ) → (number_of (answer_in (grant_of ws fs rs run n)) ≡ 21) ⊎ (number_of (answer_in (grant_of ws fs rs run n)) ≡ 24)
    → Unchanged run rs (grant_of ws fs rs run n)
turned_away ws fs rs run n e = refused-law ws fs rs run n (λ z. not_both (number_of (answer_in (grant_of ws fs rs run n))) e (refusal_told ws fs rs run n ∙ z))
  where
    not_both : (k : ℕ) → (k ≡ 21) ⊎ (k ≡ 24) → k ≡ 0 → ⊥
    not_both k (inl a) z = omega arith
    not_both k (inr a) z = omega arith

module _ (ws fs rs : List ℕ) (o : Opened ws fs rs) where
  abbrev needs : ℕ
  needs = (course ws fs rs o).needed

  -- what is kept is what m steps make
  abbrev Along : ℕ → Kept → Type 0
  Along m k = whole_of (reading_kept k) (run_kept k) ≡ at ws fs rs o m

  -- one grant
  own_grant : (m n : ℕ) (k : Kept) → Along m k → Along (m + n) (next ws fs k (own n)) × Counts needs m k (own n) (call ws fs k (own n))
  own_grant m n k e =
      let t : List ℕ = table_of ws in
      let run : Run = run_kept k in
      let w : Whole = steps_of t fs n (whole_of (reading_kept k) run) in
      let g : call ws fs k (own n) ≡ after_steps run.steps w = granted-law t fs (reading_kept k) run n (own_admitted ws fs rs o m run (reading_kept k) e) in
      let f : w ≡ at ws fs rs o (m + n) = ap (steps_of t fs n) e ∙ steps_add t fs m n (whole_of rs opened_run) in
      let before : run.steps ≡ min m needs = ap (λ (x : Whole). (head_in x).steps) e ∙ (course ws fs rs o).steps m in
      let since : (head_in w).steps ≡ min (m + n) needs = ap (λ (x : Whole). (head_in x).steps) f ∙ (course ws fs rs o).steps (m + n) in (
        ap (λ (x : After). whole_of (reading_in x) (run_in x)) g ∙ (made run.steps w ∙ f),
        ap answer_in g ∙ (answer_made run.steps w ∙ ap Answer.Taken (let z : (head_in w).steps - run.steps ≡ min n (needs - m) = omega arith in z)),
      )

  one_grant : (g : Grant) (m : ℕ) (k : Kept) → Along m k → TurnedAway g (call ws fs k g) → Along (m + given g) (next ws fs k g) × Counts needs m k g (call ws fs k g)
  one_grant (own n) m k e a = own_grant m n k e
  one_grant (other table frame none n) m k e a =
      let u = turned_away (table_of table) frame (reading_kept k) (run_kept k) n a in (
        ap₂ (λ (run : Run) (zs : List ℕ). whole_of zs run) u.0 u.1 ∙ (e ∙ ap (at ws fs rs o) (let z : m ≡ m + 0 = omega arith in z)),
        (u.2, u.0, u.1),
      )
  one_grant (other table frame (some zs) n) m k e a =
      let u = turned_away (table_of table) frame zs (run_kept k) n a in (
        ap (whole_of (reading_kept k)) u.0 ∙ (e ∙ ap (at ws fs rs o) (let z : m ≡ m + 0 = omega arith in z)),
        (u.2, u.0, u.1),
      )

  -- the whole list
  grants : (gs : List Grant) (m : ℕ) (k : Kept) → Along m k → OthersRefused ws fs gs k → Along (m + granted gs) (after_grants ws fs gs k) × EachCounts ws fs needs m gs k
  unfolding granted after_grants OthersRefused EachCounts
  grants [] m k e a = (e ∙ ap (at ws fs rs o) (let z : m ≡ m + 0 = omega arith in z), tt)
  grants (g ∷ gs) m k e a =
      let x = one_grant g m k e a.0 in
      let y = grants gs (m + given g) (next ws fs k g) x.0 a.1 in
      (y.0 ∙ ap (at ws fs rs o) (let z : m + given g + granted gs ≡ m + (given g + granted gs) = omega arith in z), (x.1, y.1))

  from_start : (gs : List Grant) → OthersRefused ws fs gs (start rs) → Along (0 + granted gs) (here ws fs rs gs) × EachCounts ws fs needs 0 gs (start rs)
  unfolding steps_of
  from_start gs a = grants gs 0 (start rs) refl a

  module _ (gs : List Grant) (a : OthersRefused ws fs gs (start rs)) where
    abbrev run : Run
    run = run_kept (here ws fs rs gs)

    state : Along (granted gs) (here ws fs rs gs)
    state = (from_start gs a).0 ∙ ap (at ws fs rs o) (let z : 0 + granted gs ≡ granted gs = omega arith in z)

    same_verdict : run.verdict ≡ (head_in (at ws fs rs o (granted gs))).verdict
    same_verdict = ap (λ (x : Whole). (head_in x).verdict) state

    few : run.verdict ≤ 2
    few = omega (arith, same_verdict, (fits_at ws fs rs o (granted gs)).verdict)

    unbroken : Unbroken ws fs rs gs
    unbroken =
        record {
          not_broken = λ e. omega (arith, few, e);
          not_refused = λ n. refusal_told (table_of ws) fs (reading_kept (here ws fs rs gs)) run n ∙ own_admitted ws fs rs o (granted gs) run (reading_kept (here ws fs rs gs)) state;
        }

    undecided_iff : (run.verdict ≡ 0) ↔ (granted gs < needs)
    undecided_iff = subst (λ (d : ℕ). (d ≡ 0) ↔ (granted gs < needs)) (sym same_verdict) ((course ws fs rs o).undecided_iff (granted gs))

    decided : Decided run → (head_in (at ws fs rs o (granted gs))).verdict ≡ 0 → ⊥
    decided d e = undecided_not run.verdict d (same_verdict ∙ e)

    exact : Exact ws fs rs gs
    exact =
        record {
          match_iff = λ d. subst (λ (x : ℕ). (x ≡ 1) ↔ Derivable (grammar_of ws) (frame_bits fs)) (sym same_verdict) (match_at ws fs rs o (granted gs) (decided d));
          no_match_iff = λ d. subst (λ (x : ℕ). (x ≡ 2) ↔ (Derivable (grammar_of ws) (frame_bits fs) → ⊥)) (sym same_verdict) (no_match_at ws fs rs o (granted gs) (decided d));
          fields = λ e t v d. (
              let x = fields_at ws fs rs o (granted gs) (decided (inl e)) t v d in
              (ap (λ (w : Whole). (head_in w).captures) state ∙ x.0, ap reading_of state ∙ x.1)
              );
        }

    granting : Granted ws fs rs gs needs
    granting =
        record {
          state = state;
          steps = ap (λ (x : Whole). (head_in x).steps) state ∙ (course ws fs rs o).steps (granted gs);
          undecided_iff = undecided_iff;
          decided_iff = (λ d. (let h : granted gs < needs → ⊥ = λ l. undecided_not run.verdict d (undecided_iff.1 l) in not_below (granted gs) needs h), λ l. decided_by run.verdict few (λ e. (let m : granted gs < needs = undecided_iff.0 e in omega arith)));
          answers = (from_start gs a).1;
          beyond = subst (λ (w : Whole). drop (2 * (head_in w).captures) (reading_of w) ≡ drop (2 * (head_in w).captures) rs) (sym state) (steps_record (table_of ws) fs (granted gs) (whole_of rs opened_run)).past;
        }
      where
        not_below : (m n : ℕ) → (m < n → ⊥) → n ≤ m
        not_below m n h = omega (arith, h)

    by_steps : BySteps (held (table_of ws)) ws fs rs gs
    by_steps =
        let h = (trusted (table_of ws) o.0.1).hypotheses in
        record {
          verdict = few;
          made = λ tests t. ap (run_of fs) state ∙ (run_at ws fs rs o (granted gs) ∙ same_run (held (table_of ws)) h.static (tests_of (table_of ws)) tests (tells h) t (granted gs) (frame_bits fs));
        }

  claim : Claim ws fs rs
  claim =
      record {
        needed = needs;
        within_bound = (course ws fs rs o).within_bound;
        granting = granting;
        by_steps = by_steps;
      }

pub at_most_one : AtMostOne
at_most_one ws s =
    let t : List ℕ = table_of ws in
    let r = reliable s.1 in
    (exact_local (held t) (tests_of t) (λ c i. weight_at t i) store (scope_of t) fresh r.hypotheses r.weighs (trusted t s.1).lexical).once

pub never_broken : NeverBroken
never_broken = record { listed = unbroken; any_reading = any_reading }

pub condition_2 : Condition2
condition_2 = exact

pub condition_3 : Condition3
condition_3 = claim
