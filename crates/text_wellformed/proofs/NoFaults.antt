-- A text without refusal 6: no name is at fault, and each variable's use has its binder before it.
-- Assumes nothing.
use Prim.Native.Nat.{ℕ, ◌+◌, ◌-◌, ◌≤◌, ◌<◌}
use mathlib.Core.Path.{◌≡◌, ap, ◌∙◌, subst}
use mathlib.Core.Bool.{Bool, true, false, not, cond, ◌&&◌}
use mathlib.Core.List.{List}
use native.Mathlib.Omega.{arith}
use borrow.Author.Tests.{not-false}
use Rattle.basis.proofs.Booleans.{both_first, neither_second, neither_first, both_rest}
use Rattle.text_wellformed.proofs.Sums.{sum_below, total_last}
use Rattle.text_wellformed.proofs.LeastLaws.{no_place}
use Rattle.text_wellformed.proofs.Standing.{name_inside}
use Rattle.text_shapes.specs.NodeShapes.{NameAt}
use Rattle.text_names.specs.Counting.{nowhere, place_if}
use Rattle.text_store.specs.Words.{own_from, own_end, condition_from, condition_end, is_binder, term_tag, stored_term_at, is_use, first_node, last_node, kind_of, place_of, named_at}
use Rattle.text_names.specs.Names.{is_reserved, binds, bound_between, variable_fault, list_place, node_place, rule_place, same_name, rule_named, use_fault, name_place}
use Rattle.text_encoding.specs.Numbers.{first_at, binds_one, binders_before, binder_of, variable_of, rule_of}
use Rattle.text_wellformed.specs.Context.{Readable}
use Rattle.text_wellformed.proofs.Counting.{least_all, Found, found}
use Rattle.text_wellformed.proofs.RulesAt.{Owner, first_at_owner, owner}

-- ---- binders before a node

pub binders_mono : (ns : List ℕ) (i j : ℕ) → i ≤ j → binders_before ns i ≤ binders_before ns j
binders_mono ns = sum_below (binds_one ns)

pub binders_next : (ns : List ℕ) (j : ℕ) (t : Bool) → is_binder ns j ≡ t → binders_before ns (j + 1) ≡ binders_before ns j + cond t 1 0
binders_next ns j t e = total_last (binds_one ns) j ∙ ap (λ (b : Bool). binders_before ns j + cond b 1 0) e

-- ---- a use and its binder

pub record Bound (xs ns : List ℕ) (a i p : ℕ) : Type 0 where
  pub from : a ≤ binder_of xs ns a i p
  pub before : binder_of xs ns a i p < i
  pub binder : is_binder ns (binder_of xs ns a i p) ≡ true

-- its variable is one of those before i
pub bound_below : {xs ns : List ℕ} {a i p : ℕ} → Bound xs ns a i p → variable_of xs ns a i p < binders_before ns i
bound_below {xs} {ns} {a} {i} {p} h =
    let l : binder_of xs ns a i p + 1 ≤ i = omega (arith, h.before)
    in omega (arith, binders_next ns (binder_of xs ns a i p) true h.binder, binders_mono ns (binder_of xs ns a i p + 1) i l)

pub bound_from : {xs ns : List ℕ} {a i p : ℕ} → Bound xs ns a i p → binders_before ns a ≤ variable_of xs ns a i p
bound_from {xs} {ns} {a} {i} {p} h = binders_mono ns a (binder_of xs ns a i p) h.from

use_bound : (xs ns ts : List ℕ) (a i f g : ℕ) → nowhere ≤ list_place xs ns ts a i f g → (q : ℕ) → f ≤ q → q < g → is_use (term_tag ts q) ≡ true → stored_term_at ts q < nowhere → Bound xs ns a i (stored_term_at ts q)
use_bound xs ns ts a i f g none q l m used placed =
    let p : ℕ = stored_term_at ts q
    in let u : Bool = is_use (term_tag ts q)
    in let v : Bool = variable_fault xs ns a i p
    in let k : (u && v) ≡ false = no_place (u && v) p (least_all (g - f) f (λ k. place_if (is_use (term_tag ts k) && variable_fault xs ns a i (stored_term_at ts k)) (stored_term_at ts k)) none q l (omega arith)) placed
    in let w : v ≡ false = both_rest u v used k
    in let y : bound_between xs ns a i p ≡ true = not-false (bound_between xs ns a i p) (neither_second (is_reserved xs p) (not (bound_between xs ns a i p)) w)
    in let z : Found (i - a) a (binds xs ns p) (binder_of xs ns a i p) = found (i - a) a (binds xs ns p) y
    in record {
      from = z.from;
      before = omega (arith, z.from, z.below);
      binder = both_first (is_binder ns (binder_of xs ns a i p)) _ z.passes;
    }

module _ {xs ns ts rs : List ℕ} {n t b r : ℕ} (R : Readable xs ns ts rs n t b r) where
  pub no_rule_fault : (k : ℕ) → k < r → nowhere ≤ rule_place xs ns ts rs r k
  no_rule_fault k h = least_all (r - 0) 0 (rule_place xs ns ts rs r) (omega (arith, R.named)) k (omega arith) (omega arith)

  pub no_node_fault : (k i : ℕ) → k < r → first_node rs k ≤ i → i < last_node rs k → nowhere ≤ node_place xs ns ts rs r (first_node rs k) (last_node rs k) i
  no_node_fault k i h l m =
      least_all (last_node rs k - first_node rs k) (first_node rs k) (node_place xs ns ts rs r (first_node rs k) (last_node rs k)) (omega (arith, no_rule_fault k h)) i l
      (omega arith)

  module _ (placed : (k : ℕ) → k < t → is_use (term_tag ts k) ≡ true → stored_term_at ts k < nowhere) (i : ℕ) (h : i < n) (q : ℕ) (m : q < t) (used : is_use (term_tag ts q) ≡ true) where
    o : Owner rs r i
    o = owner R.rules i (omega arith) h

    fault_free : nowhere ≤ node_place xs ns ts rs r (first_node rs o.rule) (last_node rs o.rule) i
    fault_free = no_node_fault o.rule i o.below o.from o.to

    pub condition_use : condition_from ns i ≤ q → q < condition_end ns i → Bound xs ns (first_at rs r i) i (stored_term_at ts q)
    condition_use a c =
        rw (first_at_owner o)
        (use_bound xs ns ts (first_node rs o.rule) i (condition_from ns i) (condition_end ns i) (omega (arith, fault_free)) q a c used (placed q m used))

    pub own_use : own_from ns i ≤ q → q < own_end ns i → Bound xs ns (first_at rs r i) i (stored_term_at ts q)
    own_use a c =
        rw (first_at_owner o)
        (use_bound xs ns ts (first_node rs o.rule) i (own_from ns i) (own_end ns i) (omega (arith, fault_free)) q a c used (placed q m used))

  -- a rule's use is the number of a rule
  pub use_below : (i : ℕ) → i < n → kind_of ns i ≡ 5 → NameAt xs (place_of ns i) → rule_of xs rs r (place_of ns i) < r
  use_below i h k at =
      let o : Owner rs r i = owner R.rules i (omega arith) h
      in let p : ℕ = place_of ns i
      in let f : Bool = use_fault xs ns rs r (first_node rs o.rule) (last_node rs o.rule) p
      in let q : nowhere ≤ name_place xs ns rs r (first_node rs o.rule) (last_node rs o.rule) i = omega (arith, no_node_fault o.rule i o.below o.from o.to)
      in let w : f ≡ false = no_place f p (subst (λ (m : ℕ). nowhere ≤ m) (rw k) q) (omega (arith, name_inside at, R.short))
      in let v : rule_named xs rs r p ≡ true = not-false (rule_named xs rs r p) (neither_first (not (rule_named xs rs r p)) _ (neither_second (is_reserved xs p) _ w))
      in let z : r - 0 ≡ r = omega arith
      in let y : Found r 0 (λ j. same_name xs (named_at rs j) p) (rule_of xs rs r p) = found r 0 (λ j. same_name xs (named_at rs j) p) (rw z at v)
      in omega (arith, y.below)
