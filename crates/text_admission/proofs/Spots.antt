-- Places of refusals stand in the text: each is at most 8,192, or no place.
-- Assumes nothing.
use Prim.Native.Nat.{ℕ, zero, suc, ◌+◌, ◌-◌, ◌≤◌, ◌<◌, min}
use mathlib.Core.Path.{◌≡◌, refl}
use mathlib.Core.Logic.{◌⊎◌, inl, inr}
use mathlib.Core.Bool.{Bool, true, false, cond, ◌&&◌}
use mathlib.Core.List.{List}
use native.Mathlib.Omega.{arith}
use lib.Dec.{eqb}
use Rattle.basis.specs.Limits.{max_text_bytes}
use Rattle.text_names.specs.Counting.{nowhere, place_if, least_of}
use Rattle.text_store.specs.Words.{kind_of, place_of, bound_at, own_from, own_end, condition_from, condition_end, is_binder, term_tag, stored_term_at, is_use, named_at, first_node, last_node}
use Rattle.text_names.specs.Limits.{limit_place, passed_in}
use Rattle.text_names.specs.Names.{rule_fault, use_fault, binder_fault, variable_fault, name_place, term_place, list_place, node_place, nodes_place, rule_place}
use Rattle.text_admission.specs.Late.{Within}

abbrev pub Spot : ℕ → Type 0
Spot p = (p ≤ max_text_bytes) ⊎ (p ≡ nowhere)

both_spots : (a b : ℕ) → Spot a → Spot b → Spot (min a b)
both_spots a b (inl h) q = inl (omega arith)
both_spots a b (inr h) (inl k) = inl (omega arith)
both_spots a b (inr h) (inr k) = inr (omega (arith, h, k))

spot_if : (fault : Bool) (p : ℕ) → p ≤ max_text_bytes → Spot (place_if fault p)
spot_if true p h = inl h
spot_if false p h = inr refl

spot_cond : (t : Bool) (p q : ℕ) → Spot p → Spot q → Spot (cond t p q)
spot_cond true p q a b = a
spot_cond false p q a b = b

least_spot : (n i : ℕ) (f : ℕ → ℕ) → ((j : ℕ) → Spot (f j)) → Spot (least_of n i f)
unfolding least_of
least_spot zero i f h = inr refl
least_spot (suc n) i f h = both_spots (f i) (least_of n (i + 1) f) (h i) (least_spot n (i + 1) f h)

module _ (xs ns ts rs : List ℕ) (r : ℕ) (w : Within ns rs) (terms : (t : ℕ) → stored_term_at ts t ≤ max_text_bytes) where
  limit_spot : (k : ℕ) → Spot (limit_place rs k)
  limit_spot k = spot_if (passed_in rs k) (named_at rs k) (w.rules k)

  pub limits_spot : Spot (Rattle.text_names.specs.Limits.refusal_5 rs r)
  limits_spot = least_spot (r - 0) 0 (limit_place rs) limit_spot

  name_spot : (a e i : ℕ) → Spot (name_place xs ns rs r a e i)
  name_spot a e i =
      spot_cond (eqb (kind_of ns i) 5) _ _ (spot_if (use_fault xs ns rs r a e (place_of ns i)) (place_of ns i) (w.nodes i).0)
      (spot_cond (is_binder ns i) _ _ (spot_if (binder_fault xs ns a i (bound_at ns i)) (bound_at ns i) (w.nodes i).1) (inr refl))

  list_spot : (a i f g : ℕ) → Spot (list_place xs ns ts a i f g)
  list_spot a i f g =
      least_spot (g - f) f (term_place xs ns ts a i) (λ t. spot_if (is_use (term_tag ts t) && variable_fault xs ns a i (stored_term_at ts t)) (stored_term_at ts t) (terms t))

  node_spot : (a e i : ℕ) → Spot (node_place xs ns ts rs r a e i)
  node_spot a e i =
      both_spots (name_place xs ns rs r a e i) _ (name_spot a e i)
      (both_spots (list_place xs ns ts a i (condition_from ns i) (condition_end ns i)) (list_place xs ns ts a i (own_from ns i) (own_end ns i)) (list_spot a i (condition_from ns i) (condition_end ns i)) (list_spot a i (own_from ns i) (own_end ns i)))

  rule_spot : (k : ℕ) → Spot (rule_place xs ns ts rs r k)
  rule_spot k =
      both_spots (place_if (rule_fault xs rs k) (named_at rs k)) (nodes_place xs ns ts rs r (first_node rs k) (last_node rs k)) (spot_if (rule_fault xs rs k) (named_at rs k) (w.rules k))
      (least_spot (last_node rs k - first_node rs k) (first_node rs k) (node_place xs ns ts rs r (first_node rs k) (last_node rs k)) (node_spot (first_node rs k) (last_node rs k)))

  pub names_spot : Spot (Rattle.text_names.specs.Names.refusal_6 xs ns ts rs r)
  names_spot = least_spot (r - 0) 0 (rule_place xs ns ts rs r) rule_spot

pub some_spot : (p : ℕ) → Spot p → p < nowhere → p ≤ max_text_bytes
some_spot p (inl h) l = h
some_spot p (inr h) l = absurd (omega arith)
