-- What every stored node and term has, as the laws of lists and terms ask for it.
-- Assumes nothing.
use Prim.Native.Nat.{ℕ, ◌-◌, ◌^◌, ◌≤◌, ◌<◌}
use mathlib.Core.Path.{◌≡◌}
use mathlib.Core.Logic.{◌⊎◌, inl, inr}
use mathlib.Core.List.{List}
use native.Mathlib.Omega.{arith}
use Rattle.basis.specs.Limits.{max_constructs, max_terms}
use Rattle.text_shapes.specs.Stored.{OwnList, of_field, of_counts, no_list, TermWords, a_number, a_use, a_sign, Stored}
use Rattle.text_store.specs.Words.{term_tag, term_value}
use Rattle.text_encoding.specs.Numbers.{own_length}
use Rattle.text_wellformed.specs.Context.{Quiet}
use Rattle.text_wellformed.proofs.TermsLaid.{Signs}

pub quiet_of : {xs ns ts : List ℕ} {n : ℕ} → Stored xs ns ts → n ≤ max_constructs → Quiet ns n
quiet_of {ns = ns} s h i l f c = from (s.lists i (omega arith))
  where
    from : OwnList ns i → own_length ns i ≡ 0
    from (of_field e) = absurd (f e)
    from (of_counts e w) = absurd (c (e, w))
    from (no_list a b) = omega (arith, a, b)

pub signs_of : {xs ns ts : List ℕ} {t : ℕ} → Stored xs ns ts → t ≤ max_terms → Signs ts t
signs_of {xs} {ts = ts} s h k l a b c d = from (s.terms k (omega arith))
  where
    from : TermWords xs ts k → term_value ts k ≡ 0
    from (a_number (inl e) v) = absurd (a e)
    from (a_number (inr e) v) = absurd (c e)
    from (a_use e z w) = z
    from (a_sign u v z) = z

pub numbers_of : {xs ns ts : List ℕ} {t : ℕ} → Stored xs ns ts → t ≤ max_terms → (k : ℕ) → k < t → (term_tag ts k ≡ 1) ⊎ (term_tag ts k ≡ 33) → term_value ts k < 2 ^ 63
numbers_of {xs} {ts = ts} s h k l o = from (s.terms k (omega arith))
  where
    from : TermWords xs ts k → term_value ts k < 2 ^ 63
    from (a_number e v) = v
    from (a_use e z w) = omega (arith, z)
    from (a_sign u v z) = omega (arith, z)
