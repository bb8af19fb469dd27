-- A step keeps what 24 asks of a run; a run that is not undecided stays as it is.
-- Assumes nothing.
use Prim.Native.Nat.{ℕ, zero, suc, ◌+◌, ◌*◌, ◌-◌, ◌≤◌, ◌<◌}
use native.Mathlib.Omega.{arith}
use borrow.Author.Tests.{leb-true, ltb-true, ne_eqb, eqb-false}
use mathlib.Core.Path.{◌≡◌, refl, ap, ◌∙◌}
use mathlib.Core.Bool.{Bool, true, false, cond, ◌&&◌}
use mathlib.Core.List.{List}
use lib.Dec.{leb, ltb, eqb}
use lib.IntN.{ℤ}
use lib.ListN.{length, get_or, set, length-set}
use Rattle.table_layout.specs.Held.{opening}
use Rattle.basis.specs.Limits.{max_entries}
use Rattle.basis.proofs.Booleans.{both_true, picked_true}
use Rattle.run_actions.specs.Acts.{bits_of, act_of, Doable}
use Rattle.run_actions.specs.declared.Act.{Act}
use Rattle.run_actions.proofs.Doing.{walk_keeps, doable}
use Rattle.run_steps.specs.Steps.{Whole, whole, break, taken, put, placed, bind, members_done, again_done, take_done, effect, in_bound, first_step, step_of, steps_of, Fits}
use Rattle.run_steps.specs.declared.Head.{Head}

-- putting members keeps a list's length
abbrev Keeps : (ℕ → List ℕ → List ℕ) → Type 0
Keeps f = (k : ℕ) (xs : List ℕ) → length (f k xs) ≡ length xs

put_keeps : (what : ℕ → ℕ) (j : ℕ) (rest : ℕ → List ℕ → List ℕ) → Keeps rest → Keeps (put what j rest)
put_keeps what j rest h k xs = put_by (eqb k 0)
  where
    put_by : (t : Bool) → length (cond t xs (rest (k - 1) (set xs (k - 1) (what j)))) ≡ length xs
    put_by true = refl
    put_by false = h (k - 1) (set xs (k - 1) (what j)) ∙ length-set xs (k - 1) (what j)

placed_length : (what : ℕ → ℕ) (ws : List ℕ) (start end at : ℕ) (xs : List ℕ) → length (placed what ws start end at xs) ≡ length xs
unfolding placed
placed_length what ws start end at xs =
    walk_keeps {A = ℕ → List ℕ → List ℕ} Keeps (put what) (λ k ys. ys) (λ k ys. ys) ws end (λ k ys. refl) (λ k ys. refl) (λ j rest l h. put_keeps what j rest h) (end - start) start at xs

positive : (n : ℕ) → (n ≡ 0 → ⊥) → 0 < n
positive zero h = absurd (h refl)
positive (suc n) h = omega arith

module _ (ws fs : List ℕ) where
  -- what holds after a step, from what holds of the run as it is, broken, and after what was decided for its first entry
  module _ (P : Whole → Type 0) where
    by_test : (t : Bool) (a b : Whole) → (t ≡ true → P a) → (t ≡ false → P b) → P (cond t a b)
    by_test true a b x y = x refl
    by_test false a b x y = y refl

    pub step_by : (cs ps : List ℕ) (vs : List ℤ) (rs : List ℕ) (h : Head) → P (whole cs ps vs rs h) → P (whole cs ps vs rs (break h))
        → (0 < h.count → P (effect ws fs (get_or cs (h.count - 1) 0) (get_or ps (h.count - 1) 0) cs ps vs rs h (act_of ws fs vs h.position (get_or cs (h.count - 1) 0) (get_or ps (h.count - 1) 0))))
        → P (step_of ws fs (whole cs ps vs rs h))
    unfolding step_of
    step_by cs ps vs rs h same broke acts =
        let i : ℕ = get_or cs (h.count - 1) 0 in
        let k : ℕ = get_or ps (h.count - 1) 0 in
        let ended : Whole = whole cs ps vs rs (break h) in
        let first : Whole = first_step ws fs i k cs ps vs rs h in
        let here : Whole = cond (eqb h.count 0) ended first in
        by_test (eqb h.verdict 0) (cond (in_bound ws fs h.steps) here ended) (whole cs ps vs rs h)
        (λ e.
        by_test (in_bound ws fs h.steps) here ended
        (λ b.
        by_test (eqb h.count 0) ended first (λ z. broke)
        (λ z.
        let some : 0 < h.count = positive h.count (eqb-false h.count 0 z) in
        by_test (leb i opening) (effect ws fs i k cs ps vs rs h (act_of ws fs vs h.position i k)) ended (λ l. acts some) (λ l. broke)))
        (λ b. broke))
        (λ e. same)

  module _ (cs ps : List ℕ) (vs : List ℤ) (rs : List ℕ) (h : Head) (f : Fits fs (whole cs ps vs rs h)) (some : 0 < h.count) where
    members_fit : (start end n : ℕ) → Fits fs (members_done ws fs cs ps vs rs h start end n)
    members_fit start end n =
        let at : ℕ = h.count - 1 + n in
        picked_true (Fits fs) (leb (h.count + n) (max_entries + 1))
        (whole (placed (λ j. j) ws start end at cs) (placed (λ j. 0) ws start end at ps) vs rs (taken fs h at h.position h.captures))
        (whole cs ps vs rs (break h))
        (λ e.
        let l : h.count + n ≤ (max_entries + 1) = leb-true (h.count + n) (max_entries + 1) e in
        (f.0, (let z : h.count - 1 + n ≤ max_entries = omega arith in z), f.2, placed_length (λ j. j) ws start end at cs ∙ f.3, placed_length (λ j. 0) ws start end at ps ∙ f.4))
        f

    again_fits : (k b : ℕ) → Fits fs (again_done fs cs ps vs rs h k b)
    again_fits k b =
        picked_true (Fits fs) (ltb h.count max_entries && ltb k (bits_of fs + 1))
        (whole (set cs h.count b) (set (set ps (h.count - 1) (k + 1)) h.count 0) vs rs (taken fs h (h.count + 1) h.position h.captures))
        (whole cs ps vs rs (break h))
        (λ e.
        let l : h.count < max_entries = ltb-true h.count max_entries (both_true (ltb h.count max_entries) (ltb k (bits_of fs + 1)) e).0 in
        (f.0, (let z : h.count + 1 ≤ max_entries = omega arith in z), f.2, length-set cs h.count b ∙ f.3, length-set (set ps (h.count - 1) (k + 1)) h.count 0 ∙ (length-set ps (h.count - 1) (k + 1) ∙ f.4)))
        f

    take_fits : (i width binder : ℕ) (n : ℤ) → h.position + width ≤ bits_of fs → Fits fs (take_done fs cs ps vs rs h i width binder n)
    take_fits i width binder n w =
        picked_true (Fits fs) (leb (2 * h.captures + 2) (length rs))
        (whole cs ps (bind binder n vs) (set (set rs (2 * h.captures) i) (2 * h.captures + 1) h.position) (taken fs h (h.count - 1) (h.position + width) (h.captures + 1)))
        (whole cs ps vs rs (break h))
        (λ e.
        let l : 2 * h.captures + 2 ≤ length rs = leb-true (2 * h.captures + 2) (length rs) e in
        let m : length (set (set rs (2 * h.captures) i) (2 * h.captures + 1) h.position) ≡ length rs = length-set (set rs (2 * h.captures) i) (2 * h.captures + 1) h.position ∙ length-set rs (2 * h.captures) i in
        (w, (let z : h.count - 1 ≤ max_entries = omega (arith, f.1) in z), (let z : 2 * (h.captures + 1) ≤ length (set (set rs (2 * h.captures) i) (2 * h.captures + 1) h.position) = omega arith in z), f.3, f.4))
        f

    effect_fits : (i k : ℕ) (a : Act) → Doable ws fs h.position a → Fits fs (effect ws fs i k cs ps vs rs h a)
    effect_fits i k Act.Broken d = f
    effect_fits i k Act.Fail d = f
    effect_fits i k (Act.Enter b) d = (f.0, f.1, f.2, length-set cs (h.count - 1) b ∙ f.3, length-set ps (h.count - 1) 0 ∙ f.4)
    effect_fits i k (Act.Members start end n) d = members_fit start end n
    effect_fits i k (Act.Again b) d = again_fits k b
    effect_fits i k Act.Leave d = (f.0, (let z : h.count - 1 ≤ max_entries = omega (arith, f.1) in z), f.2, f.3, f.4)
    effect_fits i k (Act.Take width binder n) d = take_fits i width binder n d.0

  pub step_fits : (w : Whole) → Fits fs w → Fits fs (step_of ws fs w)
  step_fits (whole cs ps vs rs h) f =
      let i : ℕ = get_or cs (h.count - 1) 0 in
      let k : ℕ = get_or ps (h.count - 1) 0 in
      step_by (Fits fs) cs ps vs rs h f f (λ some. effect_fits cs ps vs rs h f some i k (act_of ws fs vs h.position i k) (doable ws fs vs h.position i k))

  -- a run that is not undecided stays as it is
  pub step_stays : (cs ps : List ℕ) (vs : List ℤ) (rs : List ℕ) (h : Head) → (h.verdict ≡ 0 → ⊥) → step_of ws fs (whole cs ps vs rs h) ≡ whole cs ps vs rs h
  unfolding step_of
  step_stays cs ps vs rs h n = simp (ne_eqb h.verdict 0 n)

  pub steps_stay : (m : ℕ) (cs ps : List ℕ) (vs : List ℤ) (rs : List ℕ) (h : Head) → (h.verdict ≡ 0 → ⊥) → steps_of ws fs m (whole cs ps vs rs h) ≡ whole cs ps vs rs h
  unfolding steps_of
  steps_stay zero cs ps vs rs h n = refl
  steps_stay (suc m) cs ps vs rs h n = ap (steps_of ws fs m) (step_stays cs ps vs rs h n) ∙ steps_stay m cs ps vs rs h n

  -- one step of those left
  pub steps_next : (m : ℕ) (w : Whole) → 0 < m → steps_of ws fs m w ≡ steps_of ws fs (m - 1) (step_of ws fs w)
  unfolding steps_of
  steps_next zero w l = absurd (omega arith)
  steps_next (suc m) w l = ap (λ (k : ℕ). steps_of ws fs k (step_of ws fs w)) (let z : m ≡ suc m - 1 = omega arith in z)

  pub steps_none : (m : ℕ) (w : Whole) → m ≡ 0 → steps_of ws fs m w ≡ w
  unfolding steps_of
  steps_none zero w e = refl
  steps_none (suc m) w e = absurd (omega arith)

  -- what fits fits after every step
  pub steps_fit : (n : ℕ) (w : Whole) → Fits fs w → Fits fs (steps_of ws fs n w)
  unfolding steps_of
  steps_fit zero w f = f
  steps_fit (suc n) w f = steps_fit n (step_of ws fs w) (step_fits w f)

  -- one step more, at the end
  pub steps_last : (n : ℕ) (w : Whole) → steps_of ws fs (suc n) w ≡ step_of ws fs (steps_of ws fs n w)
  unfolding steps_of
  steps_last zero w = refl
  steps_last (suc n) w = steps_last n (step_of ws fs w)

  -- one grant after another
  pub steps_sum : (m n : ℕ) (w : Whole) → steps_of ws fs (m + n) w ≡ steps_of ws fs n (steps_of ws fs m w)
  unfolding steps_of
  steps_sum zero n w = ap (λ (k : ℕ). steps_of ws fs k w) (let z : 0 + n ≡ n = omega arith in z)
  steps_sum (suc m) n w = ap (λ (k : ℕ). steps_of ws fs k w) (let z : suc m + n ≡ suc (m + n) = omega arith in z) ∙ steps_sum m n (step_of ws fs w)
