-- What is true of grants, for any words.
-- Assumes nothing.
use Prim.Native.Nat.{ℕ, zero, suc, ◌+◌, ◌*◌, ◌-◌, ◌≤◌}
use native.Mathlib.Omega.{arith}
use borrow.Author.Tests.{le-leb}
use mathlib.Core.Path.{◌≡◌, refl, sym, ap, ap₂, subst, ◌∙◌}
use mathlib.Core.Bool.{Bool, true, false, cond, ◌&&◌}
use mathlib.Core.List.{List}
use lib.Dec.{leb}
use lib.ListN.{length}
use Rattle.basis.specs.Limits.{table_words, max_frame_bytes}
use Rattle.run_actions.specs.Acts.{bits_of}
use Rattle.run_steps.specs.Steps.{Whole, whole, step_of, steps_of}
use Rattle.run_steps.proofs.Running.{steps_stay, steps_none}
use Rattle.run_grants.specs.Runs.{head_of, whole_of, entries_fit, fitting, refusal_of, After, after, run_in, reading_in, answer_in, after_steps, grant_of, number_of, taken_of, opened_run}
use Rattle.run_grants.specs.declared.Run.{Run}
use Rattle.run_grants.specs.declared.Answer.{Answer}
use Rattle.run_grants.specs.Composing.{Arrays, fits, further, ComeTo, GrantsCompose}
use Rattle.run_grants.proofs.Fitting.{Rest, rest_fitting}
use Rattle.run_grants.proofs.Taken.{steps_in, steps_near, steps_add}
use Rattle.run_grants.proofs.Kept.{fitting_kept}

-- "no step is taken and nothing changes"
abbrev pub Unchanged : Run → List ℕ → After → Type 0
Unchanged run rs x = (run_in x ≡ run) × (reading_in x ≡ rs) × (taken_of (answer_in x) ≡ 0)

-- the run and the reading are what steps made, and the answer counts the steps
pub made : (before : ℕ) (w : Whole) → whole_of (reading_in (after_steps before w)) (run_in (after_steps before w)) ≡ w
made before (whole cs ps vs rs h) = refl

pub counted : (before : ℕ) (w : Whole) → taken_of (answer_in (after_steps before w)) ≡ steps_in w - before
counted before (whole cs ps vs rs h) = refl

-- from whichever moment steps are counted, the run and the words are the same
run_alike : (a b : ℕ) (w : Whole) → run_in (after_steps a w) ≡ run_in (after_steps b w)
run_alike a b (whole cs ps vs rs h) = refl

reading_alike : (a b : ℕ) (w : Whole) → reading_in (after_steps a w) ≡ reading_in (after_steps b w)
reading_alike a b (whole cs ps vs rs h) = refl

none_refused : (s t : Bool) → ◌≡◌ {A = ℕ} (cond s (cond t 0 24) 21) 0 → (s ≡ true) × (t ≡ true)
none_refused true true e = (refl, refl)
none_refused true false e = absurd (omega arith)
none_refused false t e = absurd (omega arith)

module _ (ws fs : List ℕ) where
  abbrev fit : List ℕ → Run → Bool
  fit rs run = fitting ws fs (length rs) run.constructs run.passes (head_of run)

  -- the answer's number is the refusal's
  pub refusal_told : (rs : List ℕ) (run : Run) (n : ℕ) → number_of (answer_in (grant_of ws fs rs run n)) ≡ refusal_of ws fs rs run
  unfolding grant_of
  refusal_told rs run n = by (leb (length fs) max_frame_bytes) (fit rs run) (steps_of ws fs n (whole_of rs run))
    where
      by : (s t : Bool) (w : Whole) → number_of (answer_in (cond s (cond t (after_steps run.steps w) (after run rs Answer.Unfit)) (after run rs Answer.LongFrame))) ≡ cond s (cond t 0 24) 21
      by true true (whole cs ps vs zs h) = refl
      by true false w = refl
      by false t w = refl

  -- a refused grant changes nothing and takes no step
  pub refused : (rs : List ℕ) (run : Run) (n : ℕ) → (refusal_of ws fs rs run ≡ 0 → ⊥) → Unchanged run rs (grant_of ws fs rs run n)
  unfolding grant_of
  refused rs run n h = by (leb (length fs) max_frame_bytes) (fit rs run) (after_steps run.steps (steps_of ws fs n (whole_of rs run))) h
    where
      by : (s t : Bool) (x : After) → (◌≡◌ {A = ℕ} (cond s (cond t 0 24) 21) 0 → ⊥) → Unchanged run rs (cond s (cond t x (after run rs Answer.Unfit)) (after run rs Answer.LongFrame))
      by true true x k = absurd (k refl)
      by true false x k = (refl, refl, refl)
      by false t x k = (refl, refl, refl)

  -- not refused, it is so many steps
  pub granted : (rs : List ℕ) (run : Run) (n : ℕ) → refusal_of ws fs rs run ≡ 0 → grant_of ws fs rs run n ≡ after_steps run.steps (steps_of ws fs n (whole_of rs run))
  unfolding grant_of
  granted rs run n ok = let e = none_refused (leb (length fs) max_frame_bytes) (fit rs run) ok in simp (e.0, e.1)

  -- and so is one that was answered with steps taken
  answered : (rs : List ℕ) (run : Run) (n : ℕ) (run' : Run) (rs' : List ℕ) (k : ℕ) → grant_of ws fs rs run n ≡ after run' rs' (Answer.Taken k) → refusal_of ws fs rs run ≡ 0
  answered rs run n run' rs' k e = sym (refusal_told rs run n) ∙ ap (λ (x : After). number_of (answer_in x)) e

  nothing_taken : (rs : List ℕ) (run : Run) (n : ℕ) → refusal_of ws fs rs run ≡ 0 → steps_of ws fs n (whole_of rs run) ≡ whole_of rs run → grant_of ws fs rs run n ≡ after run rs (Answer.Taken 0)
  nothing_taken rs run n ok e = granted rs run n ok ∙ (ap (after_steps run.steps) e ∙ ap (λ (k : ℕ). after run rs (Answer.Taken k)) (let z : run.steps - run.steps ≡ 0 = omega arith in z))

  -- "A decided, closed or broken run takes no more steps."
  pub decided_stays : (rs : List ℕ) (run : Run) (n : ℕ) → refusal_of ws fs rs run ≡ 0 → (run.verdict ≡ 0 → ⊥) → grant_of ws fs rs run n ≡ after run rs (Answer.Taken 0)
  decided_stays rs run n ok h = nothing_taken rs run n ok (steps_stay ws fs n run.constructs run.passes run.values rs (head_of run) h)

  -- "verdict closed, which no grant changes": refused or not, a grant leaves a run that is not undecided as it is
  pub unchanged : (rs : List ℕ) (run : Run) (n : ℕ) → (run.verdict ≡ 0 → ⊥) → Unchanged run rs (grant_of ws fs rs run n)
  unchanged rs run n h = by (refusal_of ws fs rs run) refl
    where
      by : (r : ℕ) → refusal_of ws fs rs run ≡ r → Unchanged run rs (grant_of ws fs rs run n)
      by zero e = subst (Unchanged run rs) (sym (decided_stays rs run n e h)) (refl, refl, refl)
      by (suc k) e = refused rs run n (λ z. absurd (omega (arith, e, z)))

  -- an opened run fits where the table is whole, the frame is not too long and there is room for each of its bits
  pub opened_fits : (rs : List ℕ) → table_words ≤ length ws → length fs ≤ max_frame_bytes → 2 * bits_of fs ≤ length rs → refusal_of ws fs rs opened_run ≡ 0
  unfolding entries_fit
  opened_fits rs table frame room =
      let k : Rest ws fs (length rs) (head_of opened_run) = record { table = table; position = omega arith; verdict = omega arith; count = omega arith; roomy = omega arith } in
      let all : fit rs opened_run ≡ true = rest_fitting ws fs (length rs) opened_run.constructs opened_run.passes (head_of opened_run) k ∙ ap (λ (t : Bool). (t && true) && true) (le-leb 0 (bits_of fs + 1) (omega arith)) in
      simp (le-leb _ _ frame, all)

  -- a grant of one is a step
  pub one_step : (rs : List ℕ) (run : Run) → refusal_of ws fs rs run ≡ 0 → grant_of ws fs rs run 1 ≡ after_steps run.steps (step_of ws fs (whole_of rs run))
  unfolding steps_of
  one_step rs run ok = granted rs run 1 ok

  pub none_granted : (rs : List ℕ) (run : Run) → refusal_of ws fs rs run ≡ 0 → grant_of ws fs rs run 0 ≡ after run rs (Answer.Taken 0)
  none_granted rs run ok = nothing_taken rs run 0 ok (steps_none ws fs 0 (whole_of rs run) refl)

  module _ (rs : List ℕ) (run run₁ : Run) (rs₁ : List ℕ) (m a : ℕ) (first : grant_of ws fs rs run m ≡ after run₁ rs₁ (Answer.Taken a)) where
    abbrev ok : refusal_of ws fs rs run ≡ 0
    ok = answered rs run m run₁ rs₁ a first

    abbrev w₁ : Whole
    w₁ = steps_of ws fs m (whole_of rs run)

    left : after run₁ rs₁ (Answer.Taken a) ≡ after_steps run.steps w₁
    left = sym first ∙ granted rs run m ok

    state : whole_of rs₁ run₁ ≡ w₁
    state = ap (λ (x : After). whole_of (reading_in x) (run_in x)) left ∙ made run.steps w₁

    took : a ≡ steps_in w₁ - run.steps
    took = ap (λ (x : After). taken_of (answer_in x)) left ∙ counted run.steps w₁

    -- a grant takes no more steps than it gives, and the run counts them
    pub within_grant : (a ≤ m) × (run₁.steps ≡ run.steps + a)
    within_grant =
        let near = steps_near ws fs m (whole_of rs run) in
        let low : run.steps ≤ steps_in w₁ = near.0 in
        let high : steps_in w₁ ≤ run.steps + m = near.1 in
        let s : run₁.steps ≡ steps_in w₁ = ap steps_in state in
        let t : a ≡ steps_in w₁ - run.steps = took in
        ((let z : a ≤ m = omega arith in z), (let z : run₁.steps ≡ run.steps + a = omega arith in z))

module _ (ws fs rs : List ℕ) (run : Run) (m n : ℕ) (lengths : Arrays run) where
  abbrev x : After
  x = grant_of ws fs rs run m

  abbrev y : After
  y = further ws fs x n

  abbrev z : After
  z = grant_of ws fs rs run (m + n)

  -- refused, nothing changes, and so is every further grant
  turned_away : (refusal_of ws fs rs run ≡ 0 → ⊥) → ComeTo x y z
  turned_away h =
      let ux = refused ws fs rs run m h in
      let same : refusal_of ws fs (reading_in x) (run_in x) ≡ refusal_of ws fs rs run = λ t. refusal_of ws fs (ux.1 t) (ux.0 t) in
      let uy = refused ws fs (reading_in x) (run_in x) n (λ e. h (sym same ∙ e)) in
      let uz = refused ws fs rs run (m + n) h in
      record {
        run = uy.0 ∙ (ux.0 ∙ sym uz.0);
        reading = uy.1 ∙ (ux.1 ∙ sym uz.1);
        number = refusal_told ws fs (reading_in x) (run_in x) n ∙ (same ∙ sym (refusal_told ws fs rs run (m + n)));
        taken = ap₂ ◌+◌ ux.2 uy.2 ∙ sym uz.2;
      }

  -- granted, the second is granted too
  let_pass : refusal_of ws fs rs run ≡ 0 → ComeTo x y z
  let_pass ok =
      let w₁ : Whole = steps_of ws fs m (whole_of rs run) in
      let w₂ : Whole = steps_of ws fs n w₁ in
      let ex : x ≡ after_steps run.steps w₁ = granted ws fs rs run m ok in
      let state : whole_of (reading_in x) (run_in x) ≡ w₁ = ap (λ (a : After). whole_of (reading_in a) (run_in a)) ex ∙ made run.steps w₁ in
      let e = none_refused (leb (length fs) max_frame_bytes) (fit ws fs rs run) ok in
      let passes : fits ws fs (whole_of (reading_in x) (run_in x)) ≡ true = ap (fits ws fs) state ∙ fitting_kept ws fs rs run m lengths e.1 in
      let ok₁ : refusal_of ws fs (reading_in x) (run_in x) ≡ 0 = simp (e.0, passes) in
      let s : (run_in x).steps ≡ steps_in w₁ = ap steps_in state in
      let ey : y ≡ after_steps (steps_in w₁) w₂ =
      granted ws fs (reading_in x) (run_in x) n ok₁ ∙ (λ t. after_steps (s t) (steps_of ws fs n (state t))) in
      let ez : z ≡ after_steps run.steps w₂ = granted ws fs rs run (m + n) ok ∙ ap (after_steps run.steps) (sym (steps_add ws fs m n (whole_of rs run))) in
      let tx : taken_of (answer_in x) ≡ steps_in w₁ - run.steps = ap (λ (a : After). taken_of (answer_in a)) ex ∙ counted run.steps w₁ in
      let ty : taken_of (answer_in y) ≡ steps_in w₂ - steps_in w₁ = ap (λ (a : After). taken_of (answer_in a)) ey ∙ counted (steps_in w₁) w₂ in
      let tz : taken_of (answer_in z) ≡ steps_in w₂ - run.steps = ap (λ (a : After). taken_of (answer_in a)) ez ∙ counted run.steps w₂ in
      let a : run.steps ≤ steps_in w₁ = (steps_near ws fs m (whole_of rs run)).0 in
      let b : steps_in w₁ ≤ steps_in w₂ = (steps_near ws fs n w₁).0 in
      record {
        run = ap run_in ey ∙ (run_alike (steps_in w₁) run.steps w₂ ∙ sym (ap run_in ez));
        reading = ap reading_in ey ∙ (reading_alike (steps_in w₁) run.steps w₂ ∙ sym (ap reading_in ez));
        number = refusal_told ws fs (reading_in x) (run_in x) n ∙ (ok₁ ∙ (sym ok ∙ sym (refusal_told ws fs rs run (m + n))));
        taken = omega (arith, tx, ty, tz, a, b);
      }

  composed : ComeTo x y z
  composed = by (refusal_of ws fs rs run) refl
    where
      by : (r : ℕ) → refusal_of ws fs rs run ≡ r → ComeTo x y z
      by zero e = let_pass e
      by (suc k) e = turned_away (λ z. absurd (omega (arith, e, z)))

-- grants compose
pub grants_compose : GrantsCompose
grants_compose ws fs rs run m n lengths = composed ws fs rs run m n lengths
