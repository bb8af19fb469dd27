-- What holds after a step, from what holds after each thing that a step may do.
-- Assumes nothing.
use Prim.Native.Nat.{ℕ, ◌+◌, ◌*◌, ◌-◌, ◌≤◌}
use mathlib.Core.Bool.{◌&&◌}
use mathlib.Core.List.{List}
use lib.Dec.{leb, ltb}
use lib.IntN.{ℤ}
use lib.ListN.{length, get_or, set}
use Rattle.basis.specs.Limits.{max_entries}
use Rattle.basis.proofs.Booleans.{picked_true}
use Rattle.run_actions.specs.Acts.{act_of, bits_of, Doable}
use Rattle.run_actions.specs.declared.Act.{Act}
use Rattle.run_actions.proofs.Doing.{doable}
use Rattle.run_steps.specs.Steps.{Whole, whole, break, fail, taken, placed, bind, effect, step_of}
use Rattle.run_steps.specs.declared.Head.{Head}
use Rattle.run_steps.proofs.Running.{step_by}

module _ (fs : List ℕ) (P : Whole → Type 0) (cs ps : List ℕ) (vs : List ℤ) (rs : List ℕ) (h : Head) where
  -- nothing, broken, failed, another list, a field recorded: it lies within the frame and takes a bit
  pub record Ways : Type 0 where
    pub same : P (whole cs ps vs rs h)
    pub broke : P (whole cs ps vs rs (break h))
    pub failed : P (whole cs ps vs rs (fail h))
    pub moved : (cs' ps' : List ℕ) (n : ℕ) → P (whole cs' ps' vs rs (taken fs h n h.position h.captures))
    pub took : (i width binder : ℕ) (n : ℤ) → h.position + width ≤ bits_of fs → 1 ≤ width
        → P (whole cs ps (bind binder n vs) (set (set rs (2 * h.captures) i) (2 * h.captures + 1) h.position) (taken fs h (h.count - 1) (h.position + width) (h.captures + 1)))

  module _ (w : Ways) (ws : List ℕ) where
    effected : (i k : ℕ) (a : Act) → Doable ws fs h.position a → P (effect ws fs i k cs ps vs rs h a)
    effected i k Act.Broken d = w.broke
    effected i k Act.Fail d = w.failed
    effected i k (Act.Enter b) d = w.moved (set cs (h.count - 1) b) (set ps (h.count - 1) 0) h.count
    effected i k (Act.Members start end n) d =
        let at : ℕ = h.count - 1 + n in
        let cs' : List ℕ = placed (λ j. j) ws start end at cs in
        let ps' : List ℕ = placed (λ j. 0) ws start end at ps in
        picked_true P (leb (h.count + n) (max_entries + 1)) (whole cs' ps' vs rs (taken fs h at h.position h.captures)) (whole cs ps vs rs (break h)) (λ e. w.moved cs' ps' at) w.broke
    effected i k (Act.Again b) d =
        let cs' : List ℕ = set cs h.count b in
        let ps' : List ℕ = set (set ps (h.count - 1) (k + 1)) h.count 0 in
        picked_true P (ltb h.count max_entries && ltb k (bits_of fs + 1)) (whole cs' ps' vs rs (taken fs h (h.count + 1) h.position h.captures)) (whole cs ps vs rs (break h)) (λ e. w.moved cs' ps' (h.count + 1)) w.broke
    effected i k Act.Leave d = w.moved cs ps (h.count - 1)
    effected i k (Act.Take width binder n) d =
        picked_true P (leb (2 * h.captures + 2) (length rs))
        (whole cs ps (bind binder n vs) (set (set rs (2 * h.captures) i) (2 * h.captures + 1) h.position) (taken fs h (h.count - 1) (h.position + width) (h.captures + 1)))
        (whole cs ps vs rs (break h)) (λ e. w.took i width binder n d.0 d.2) w.broke

    pub stepped : P (step_of ws fs (whole cs ps vs rs h))
    stepped =
        let i : ℕ = get_or cs (h.count - 1) 0 in
        let k : ℕ = get_or ps (h.count - 1) 0 in
        step_by ws fs P cs ps vs rs h w.same w.broke (λ some. effected i k (act_of ws fs vs h.position i k) (doable ws fs vs h.position i k))
