-- The first name at fault from place 0 on is refusal 6's.
-- Assumes nothing.
use Prim.Native.Nat.{ℕ, min}
use mathlib.Core.Path.{◌≡◌, refl}
use mathlib.Core.Bool.{true}
use mathlib.Core.List.{List}
use native.Mathlib.Omega.{arith}
use borrow.Author.Tests.{le-leb}
use lib.Dec.{leb}
use Rattle.text_names.specs.Counting.{place_if, least_between}
use Rattle.text_names.specs.Names.{rule_fault, name_place, term_place, refusal_6}
use Rattle.text_store.specs.Words.{own_from, own_end, condition_from, condition_end, named_at, first_node, last_node}
use Rattle.report_further.specs.Further.{not_before, next_fault}

every_place : (p : ℕ) → not_before 0 p ≡ p
every_place p = let t : leb 0 p ≡ true = le-leb 0 p (omega arith) in rw t refl

module _ (xs ns ts rs : List ℕ) (r : ℕ) where
  list_all : (a i f g : ℕ) → least_between f g (λ k. not_before 0 (term_place xs ns ts a i k)) ≡ least_between f g (term_place xs ns ts a i)
  list_all a i f g = λ t. least_between f g (λ k. every_place (term_place xs ns ts a i k) t)

  -- so the names that are listed after refusal 6's are the others
  pub first_fault : next_fault 0 xs ns ts rs r ≡ refusal_6 xs ns ts rs r
  first_fault = λ t.
      least_between 0 r
      (λ k. min (every_place (place_if (rule_fault xs rs k) (named_at rs k)) t)
      (least_between (first_node rs k) (last_node rs k)
      (λ i. min (every_place (name_place xs ns rs r (first_node rs k) (last_node rs k) i) t)
      (min (list_all (first_node rs k) i (condition_from ns i) (condition_end ns i) t) (list_all (first_node rs k) i (own_from ns i) (own_end ns i) t)))))
