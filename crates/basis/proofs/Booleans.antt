-- Laws of tests: what a test says, two tests that both hold, one of two, and one of two things by a test.
-- Assumes nothing.
use mathlib.Core.Path.{◌≡◌, refl, sym}
use mathlib.Core.Logic.{◌⊎◌, inl, inr, ◌↔◌}
use mathlib.Core.Bool.{Bool, true, false, cond, not, ◌&&◌, ◌||◌, false≢true}

-- by cases on a test, with what it says
pub which : (b : Bool) → (b ≡ true) ⊎ (b ≡ false)
which true = inl refl
which false = inr refl

-- two tests that decide the same are the same
pub same_test : {A : Type 0} (a b : Bool) → (a ≡ true) ↔ A → (b ≡ true) ↔ A → a ≡ b
same_test true b p q = sym (q.1 (p.0 refl))
same_test false true p q = p.1 (q.0 refl)
same_test false false p q = refl

-- ---- both of two tests hold

pub both_first : (a b : Bool) → (a && b) ≡ true → a ≡ true
both_first true b e = refl
both_first false b e = e

pub both_second : (a b : Bool) → (a && b) ≡ true → b ≡ true
both_second true b e = e
both_second false b e = absurd (false≢true e)

pub both_true : (a b : Bool) → (a && b) ≡ true → (a ≡ true) × (b ≡ true)
both_true a b e = (both_first a b e, both_second a b e)

pub both_pass : {a b : Bool} → a ≡ true → b ≡ true → (a && b) ≡ true
both_pass e f = rw (e, f)

-- where the first holds and not both, the second does not
pub both_rest : (a b : Bool) → a ≡ true → (a && b) ≡ false → b ≡ false
both_rest a b t e = rw t at e

-- ---- one of two tests holds

pub either_first : (a b : Bool) → a ≡ true → (a || b) ≡ true
either_first a b e = rw e

pub either_second : (a b : Bool) → b ≡ true → (a || b) ≡ true
either_second true b e = refl
either_second false b e = e

pub either_cases : (a b : Bool) → (a || b) ≡ true → (a ≡ true) ⊎ (b ≡ true)
either_cases true b e = inl refl
either_cases false b e = inr e

pub either_pass : (a b : Bool) → (a ≡ true) ⊎ (b ≡ true) → (a || b) ≡ true
either_pass a b (inl e) = either_first a b e
either_pass a b (inr e) = either_second a b e

-- neither does
pub neither_first : (a b : Bool) → (a || b) ≡ false → a ≡ false
neither_first true b e = e
neither_first false b e = refl

pub neither_second : (a b : Bool) → (a || b) ≡ false → b ≡ false
neither_second true b e = absurd (false≢true (sym e))
neither_second false b e = e

-- ---- a test that is turned round

pub not_true : (b : Bool) → not b ≡ true → b ≡ false
not_true true e = sym e
not_true false e = refl

pub not_false : (b : Bool) → not b ≡ false → b ≡ true
not_false true e = refl
not_false false e = sym e

-- ---- one of two by a test: what holds of it

-- what holds of both
pub either_way : {A : Type 0} (P : A → Type 0) (b : Bool) {x y : A} → P x → P y → P (cond b x y)
either_way P true p q = p
either_way P false p q = q

-- what holds of each where it is taken
pub picked : {A : Type 0} (P : A → Type 0) (b : Bool) {x y : A} → (b ≡ true → P x) → (b ≡ false → P y) → P (cond b x y)
picked P true f g = f refl
picked P false f g = g refl

-- what holds of the first where the test holds, and of the second in any case
pub picked_true : {A : Type 0} (P : A → Type 0) (b : Bool) (x y : A) → (b ≡ true → P x) → P y → P (cond b x y)
picked_true P true x y f q = f refl
picked_true P false x y f q = q
