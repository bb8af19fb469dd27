-- A node by its kind: what it means is what the tree's construct means, where its words say what the tree says.
-- Assumes nothing.
use Prim.Native.Nat.{ℕ, suc, ◌+◌}
use mathlib.Core.Path.{◌≡◌, refl, sym, ap, ◌∙◌, subst}
use mathlib.Core.Bool.{Bool, true, false, cond, ◌&&◌}
use mathlib.Core.List.{List, []}
use mathlib.Core.Option.{Option, none, some}
use native.Mathlib.Omega.{arith}
use lib.Dec.{leb}
use lib.IntN.{ℤ, pos}
use lib.ListN.{length, get_or, set}
use Rattle.basis.specs.Bits.{Bits, value}
use Rattle.basis.specs.Patterns.{pattern_value}
use Rattle.theory.specs.Grammar.{alternative, concatenation, repetition, switch, field, eod}
use mathlib.Core.Bool.{◌&&◌}
use Rattle.table_layout.specs.Held.{range_node as held-range}
use Rattle.text_literals.specs.Literals.{characters_at}
use Rattle.text_store.specs.Words.{kind_of, place_of, node_mark, last_place, is_binder, first_node}
use Rattle.text_encoding.specs.Numbers.{rule_of, binders_before, width_of, is_signed}
use Rattle.text_meaning.specs.Meaning.{parts_of, own_list, counts_in, static_counts, passes, is_fixed, in_set as in_list, in_static_set, first_true, no_default, meant_node}
use Rattle.tree.specs.Lexemes.{Number}
use Rattle.tree.specs.Tree.{ValueSet, Mark}
use Rattle.tree_meaning.specs.Pieces.{set_parts}
use Rattle.tree_meaning.specs.Values.{in_set}
use Rattle.tree_meaning.specs.Grammar.{Values, TreeNode, Uint, values_at, mentions_variable, literal_node, range_node, use_node, uint_node, mark_passes, mark_static, mark_exact, repetition_node}
use Rattle.tree_meaning.proofs.Agreeing.{SameNode, same_alternative, same_concatenation, same_repetition, same_switch, same_use, same_field, same_eod}

both_and : (a b : Bool) → (a && b) ≡ (a && b)
both_and true b = refl
both_and false b = refl

module _ (P : Values → Type 0) (xs ns ts rs : List ℕ) (r i : ℕ) where
  -- node i means the same as n, at values with the property
  abbrev pub Means : TreeNode → Type 0
  Means n = SameNode P (meant_node xs ns ts rs r i) n

  told : (m n : TreeNode) → meant_node xs ns ts rs r i ≡ m → SameNode P m n → Means n
  told m n e s = subst (λ (z : TreeNode). SameNode P z n) (sym e) s

  -- ---- parts

  pub alternative_means : (is : List ℕ) → kind_of ns i ≡ 1 → parts_of ns i ≡ is → Means (alternative is)
  unfolding meant_node
  alternative_means is k e =
      let q : meant_node xs ns ts rs r i ≡ alternative (parts_of ns i) = rw k refl in told (alternative is) (alternative is) (q ∙ ap alternative e) same_alternative

  pub concatenation_means : (is : List ℕ) → kind_of ns i ≡ 2 → parts_of ns i ≡ is → Means (concatenation is)
  unfolding meant_node
  concatenation_means is k e =
      let q : meant_node xs ns ts rs r i ≡ concatenation (parts_of ns i) = rw k refl in told (concatenation is) (concatenation is) (q ∙ ap concatenation e) same_concatenation

  -- ---- leaves

  pub literal_means : (cs : List ℕ) → kind_of ns i ≡ 6 → characters_at xs (place_of ns i) ≡ cs → Means (literal_node cs)
  unfolding meant_node
  literal_means cs k e =
      let q : meant_node xs ns ts rs r i ≡ literal_node (characters_at xs (place_of ns i)) = rw k refl
      in told (literal_node cs) (literal_node cs) (q ∙ ap literal_node e) (same_field (λ c v bits p. refl) (λ c v bits l p. p))

  pub range_means : (a b : ℕ) → kind_of ns i ≡ 7 → get_or (characters_at xs (place_of ns i)) 0 0 ≡ a → get_or (characters_at xs (last_place ns i)) 0 0 ≡ b → Means (range_node a b)
  unfolding meant_node
  range_means a b k e f =
      let q : meant_node xs ns ts rs r i ≡ held-range (get_or (characters_at xs (place_of ns i)) 0 0) (get_or (characters_at xs (last_place ns i)) 0 0) = rw k refl
      in let z : held-range (get_or (characters_at xs (place_of ns i)) 0 0) (get_or (characters_at xs (last_place ns i)) 0 0) ≡ held-range a b = λ t. held-range (e t) (f t)
      in let y : ◌≡◌ {A = TreeNode} (held-range a b) (range_node a b) = λ t. field (λ bits. 8) (λ c v bits. both_and (leb a (value bits)) (leb (value bits) b) t) (λ bits. both_and (leb a (value bits)) (leb (value bits) b) t) (λ c v bits. v)
      in told (range_node a b) (range_node a b) (q ∙ z ∙ y) (same_field (λ c v bits p. refl) (λ c v bits l p. p))

  pub use_means : (body : ℕ) → kind_of ns i ≡ 5 → first_node rs (rule_of xs rs r (place_of ns i)) ≡ body → Means (use_node body)
  unfolding meant_node
  use_means body k e =
      let q : meant_node xs ns ts rs r i ≡ use_node (first_node rs (rule_of xs rs r (place_of ns i))) = rw k refl
      in told (use_node body) (use_node body) (q ∙ ap use_node e) (same_use (λ c v p. p) (λ v v' p q. q))

  pub eod_means : kind_of ns i ≡ 9 → Means eod
  unfolding meant_node
  eod_means k = let q : meant_node xs ns ts rs r i ≡ eod = rw k refl in told eod eod q same_eod

  -- ---- a uint, a repetition, a switch: what their lists of terms say is what the tree's formulas say

  pub uint_means : (variable : List ℕ → ℕ) {d : ℕ} (signed : Bool) (n : Number) (x : ValueSet d) (binds : Values → ℤ → Values) → kind_of ns i ≡ 8 → is_signed xs ns i ≡ signed → width_of xs ns i ≡ n.value
      → ((v : Values) → P v → (k : ℤ) → in_list (own_list xs ns ts rs r i) v k ≡ in_set (values_at variable v) x k)
      → ((k : ℤ) → in_static_set (own_list xs ns ts rs r i) k ≡ cond (mentions_variable (set_parts x)) true (in_set (values_at variable []) x k))
      → ((v : Values) (k : ℤ) → cond (is_binder ns i) (set v (binders_before ns i) k) v ≡ binds v k) → ((v : Values) (bits : Bits) → length bits ≡ n.value → P v → P (binds v (pattern_value signed bits)))
      → Means (uint_node variable signed n x binds)
  unfolding meant_node
  uint_means variable signed n x binds k sign wide same static bound keeps =
      let list = own_list xs ns ts rs r i
      in let m : TreeNode = field (λ bits. n.value) (λ c v bits. in_list list v (pattern_value signed bits)) (λ bits. cond (mentions_variable (set_parts x)) true (in_set (values_at variable []) x (pattern_value signed bits))) (λ c v bits. binds v (pattern_value signed bits))
      in let q : meant_node xs ns ts rs r i ≡ field (λ bits. width_of xs ns i) (λ c v bits. in_list list v (pattern_value (is_signed xs ns i) bits)) (λ bits. in_static_set list (pattern_value (is_signed xs ns i) bits)) (λ c v bits. cond (is_binder ns i) (set v (binders_before ns i) (pattern_value (is_signed xs ns i) bits)) v) = rw k refl
      in let z : ◌≡◌ {A = TreeNode} (field (λ bits. width_of xs ns i) (λ c v bits. in_list list v (pattern_value (is_signed xs ns i) bits)) (λ bits. in_static_set list (pattern_value (is_signed xs ns i) bits)) (λ c v bits. cond (is_binder ns i) (set v (binders_before ns i) (pattern_value (is_signed xs ns i) bits)) v)) m = λ t. field (λ bits. wide t) (λ c v bits. in_list list v (pattern_value (sign t) bits)) (λ bits. static (pattern_value (sign t) bits) t) (λ c v bits. bound v (pattern_value (sign t) bits) t)
      in told m (uint_node variable signed n x binds) (q ∙ z) (same_field (λ c v bits p. same v p (pattern_value signed bits)) (λ c v bits l p. keeps v bits l p))

  pub repetition_means : (variable : List ℕ → ℕ) (m : Mark) → kind_of ns i ≡ 3 → ((v : Values) → P v → passes (node_mark ns i) (counts_in (own_list xs ns ts rs r i) v) ≡ mark_passes variable m v)
      → passes (node_mark ns i) (static_counts (own_list xs ns ts rs r i)) ≡ mark_static variable m → is_fixed (node_mark ns i) (own_list xs ns ts rs r i) ≡ mark_exact variable m → Means (repetition_node variable m (suc i))
  unfolding meant_node
  repetition_means variable m k same static fixed =
      let list = own_list xs ns ts rs r i
      in let next : i + 1 ≡ suc i = omega arith
      in let n : TreeNode = repetition (λ c v. passes (node_mark ns i) (counts_in list v)) (mark_static variable m) (mark_exact variable m) (suc i)
      in let q : meant_node xs ns ts rs r i ≡ repetition (λ c v. passes (node_mark ns i) (counts_in list v)) (passes (node_mark ns i) (static_counts list)) (is_fixed (node_mark ns i) list) (i + 1) = rw k refl
      in let z : ◌≡◌ {A = TreeNode} (repetition (λ c v. passes (node_mark ns i) (counts_in list v)) (passes (node_mark ns i) (static_counts list)) (is_fixed (node_mark ns i) list) (i + 1)) n = λ t. repetition (λ c v. passes (node_mark ns i) (counts_in list v)) (static t) (fixed t) (next t)
      in told n (repetition_node variable m (suc i)) (q ∙ z) (same_repetition (λ c v p. same v p))

  pub switch_means : (chosen : Values → Option ℕ) (optional : Bool) (is : List ℕ) → kind_of ns i ≡ 4 → parts_of ns i ≡ is → no_default ns is ≡ optional
      → ((v : Values) → P v → first_true xs ns ts rs r v is ≡ chosen v) → Means (switch (λ c v. chosen v) optional is)
  unfolding meant_node
  switch_means chosen optional is k e o same =
      let n : TreeNode = switch (λ c v. first_true xs ns ts rs r v is) optional is
      in let q : meant_node xs ns ts rs r i ≡ switch (λ c v. first_true xs ns ts rs r v (parts_of ns i)) (no_default ns (parts_of ns i)) (parts_of ns i) = rw k refl
      in let z : ◌≡◌ {A = TreeNode} (switch (λ c v. first_true xs ns ts rs r v (parts_of ns i)) (no_default ns (parts_of ns i)) (parts_of ns i)) (switch (λ c v. first_true xs ns ts rs r v is) (no_default ns is) is) = λ t. switch (λ c v. first_true xs ns ts rs r v (e t)) (no_default ns (e t)) (e t)
      in let y : ◌≡◌ {A = TreeNode} (switch (λ c v. first_true xs ns ts rs r v is) (no_default ns is) is) n = λ t. switch (λ c v. first_true xs ns ts rs r v is) (o t) is
      in told n (switch (λ c v. chosen v) optional is) (q ∙ z ∙ y) (same_switch (λ c v p. same v p))

-- node i is a uint exactly where the construct is one; of its width and sign then, and with the same values in its set, all of them where a variable stands in it
module _ (xs ns ts rs : List ℕ) (r i : ℕ) where
  abbrev pub SameUint : Option Uint → Type 0
  SameUint none = kind_of ns i ≡ 8 → ⊥
  SameUint (some u) =
      (kind_of ns i ≡ 8)
      × (width_of xs ns i ≡ u.width.value)
      × ((k : ℤ) → in_static_set (own_list xs ns ts rs r i) k ≡ cond (mentions_variable (set_parts u.values)) true (in_set (λ x. pos 0) u.values k))
      × (is_signed xs ns i ≡ u.signed)

  pub no_uint : (k : ℕ) → kind_of ns i ≡ k → (k ≡ 8 → ⊥) → SameUint none
  no_uint k e n z = n (sym e ∙ z)
