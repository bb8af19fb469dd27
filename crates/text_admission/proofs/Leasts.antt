-- Loops that keep the least of the places found so far.
-- Assumes nothing.
use Prim.Native.Nat.{ℕ, suc, ◌+◌, ◌-◌, ◌≤◌, ◌<◌, min}
use mathlib.Core.Path.{◌≡◌, refl, sym, ap, ◌∙◌}
use native.Mathlib.Omega.{arith}
use Rattle.text_admission.specs.Extents.{lesser, least_found}
use Rattle.text_admission.specs.declared.Found.{Found}

lesser_assoc : (a b c : Found) → lesser (lesser a b) c ≡ lesser a (lesser b c)
lesser_assoc Found.Nothing b c = refl
lesser_assoc (Found.At p) Found.Nothing c = refl
lesser_assoc (Found.At p) (Found.At q) Found.Nothing = refl
lesser_assoc (Found.At p) (Found.At q) (Found.At r) = ap Found.At (let z : min (min p q) r ≡ min p (min q r) = omega arith in z)

lesser_none : (a : Found) → lesser a Found.Nothing ≡ a
lesser_none Found.Nothing = refl
lesser_none (Found.At p) = refl

least_next : (n i : ℕ) (f : ℕ → Found) → i < n → least_found (n - i) i f ≡ lesser (f i) (least_found (n - (i + 1)) (i + 1) f)
unfolding least_found
least_next n i f h = let e : n - i ≡ suc (n - (i + 1)) = omega arith in λ t. least_found (e t) i f

least_none : (n i : ℕ) (f : ℕ → Found) → n ≤ i → least_found (n - i) i f ≡ Found.Nothing
unfolding least_found
least_none n i f h = let e : n - i ≡ 0 = omega arith in λ t. least_found (e t) i f

-- the least so far, and of those to come
pub record LeastYet (n : ℕ) (f : ℕ → Found) (least : Found) (i : ℕ) : Type 0 where
  pub whole : lesser least (least_found (n - i) i f) ≡ least_found n 0 f

pub yet_start : {n : ℕ} {f : ℕ → Found} → LeastYet n f Found.Nothing 0
yet_start {n} {f} = record { whole = let e : n - 0 ≡ n = omega arith in λ t. least_found (e t) 0 f }

pub yet_turn : {n i : ℕ} {f : ℕ → Found} {least here next : Found} → LeastYet n f least i → i < n → here ≡ f i → next ≡ lesser least here → LeastYet n f next (i + 1)
yet_turn {n} {i} {f} {least} {here} {next} h l e g =
    let rest = least_found (n - (i + 1)) (i + 1) f in
    record { whole = ap (λ (a : Found). lesser a rest) (g ∙ ap (lesser least) e) ∙ lesser_assoc least (f i) rest ∙ ap (lesser least) (sym (least_next n i f l)) ∙ h.whole }

pub yet_end : {n i : ℕ} {f : ℕ → Found} {least : Found} → LeastYet n f least i → n ≤ i → least ≡ least_found n 0 f
yet_end {n} {i} {f} {least} h l = sym (ap (lesser least) (least_none n i f l) ∙ lesser_none least) ∙ h.whole
