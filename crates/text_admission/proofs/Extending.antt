-- Refusal 8: where nothing is found nothing is outside its limits, and what is found stands in the text.
-- Assumes nothing.
use Prim.Native.Nat.{ℕ, zero, suc, ◌+◌, ◌-◌, ◌≤◌, ◌<◌, min}
use mathlib.Core.Path.{◌≡◌, refl, sym, subst, ◌∙◌}
use mathlib.Core.Logic.{◌⊎◌, inr, ⊎_elim}
use mathlib.Core.Bool.{Bool, true, false, cond, not, ◌&&◌, ◌||◌}
use mathlib.Core.List.{List}
use native.Mathlib.Omega.{arith}
use borrow.Author.Tests.{eq-eqb, eqb-true, lt-ltb, not-false}
use lib.Dec.{leb, eqb}
use lib.ListN.{length}
use Rattle.basis.specs.Limits.{max_text_bytes, max_width, max_bound_width}
use Rattle.basis.proofs.Booleans.{both_rest, both_first}
use Rattle.table_layout.specs.Constructs.{widest_for, construct_at}
use Rattle.table_sizes.specs.Measures.{condition_size, own_size, exceeds, oversized}
use Rattle.text_store.proofs.Numbers.{at_term, at_origin}
use Rattle.text_header.proofs.Tests.{within_low, within_high}
use Rattle.text_shapes.specs.NodeShapes.{tree, Holds, literal_tree, range_tree, use_tree, eod_tree, uint_tree, marked_tree, counted_tree, chain_tree, switch_tree}
use Rattle.text_store.specs.Words.{term_word, kind_of, width_place, own_from, condition_from, is_binder, term_origin}
use Rattle.text_encoding.specs.Numbers.{binders_before, width_of, condition_start, own_start}
use Rattle.text_wellformed.specs.Context.{Nodes}
use Rattle.text_wellformed.proofs.Sums.{side}
use Rattle.text_wellformed.proofs.Standing.{number_inside}
use Rattle.text_admission.specs.Extents.{lesser, found_if, least_found, most_of, width_found, origin_after, list_found, node_found, refusal_8}
use Rattle.text_admission.specs.declared.Found.{Found}
use Rattle.std.specs.Prelude.{Result, Ok, Err, ⊤}
use Rattle.term_sizes.specs.declared.SizeError.{SizeError}

never : {A : Type 0} → true ≡ false → A
never e = let z : ◌≡◌ {A = ℕ} 0 1 = cc in absurd (omega arith)

-- ---- nothing is found

found_never : {A : Type 0} (p : ℕ) → Found.At p ≡ Found.Nothing → A
found_never p e = let z : ◌≡◌ {A = ℕ} 0 1 = cc in absurd (omega arith)

lesser_none : (a b : Found) → lesser a b ≡ Found.Nothing → (a ≡ Found.Nothing) × (b ≡ Found.Nothing)
lesser_none Found.Nothing b e = (refl, e)
lesser_none (Found.At p) Found.Nothing e = found_never p e
lesser_none (Found.At p) (Found.At q) e = found_never (min p q) e

if_none : (fault : Bool) (p : ℕ) → found_if fault p ≡ Found.Nothing → fault ≡ false
if_none true p e = found_never p e
if_none false p e = refl

least_none : (n i : ℕ) (f : ℕ → Found) → least_found n i f ≡ Found.Nothing → (j : ℕ) → i ≤ j → j < i + n → f j ≡ Found.Nothing
unfolding least_found
least_none zero i f e j h l = absurd (omega arith)
least_none (suc n) i f e j h l =
    let z = lesser_none (f i) (least_found n (i + 1) f) e in
    ⊎_elim (λ (q : j < i + 1). let y : j ≡ i = omega arith in rw y z.0) (λ (q : i + 1 ≤ j). least_none n (i + 1) f z.1 j q (omega arith)) (side j (i + 1))

list_none : (ts : List ℕ) (f start : ℕ) (s : Result ⊤ SizeError) → list_found ts f start s ≡ Found.Nothing → exceeds s ≡ false
list_none ts f start (Ok u) e = refl
list_none ts f start (Err SizeError.Malformed) e = refl
list_none ts f start (Err (SizeError.Exceeds at)) e = found_never (origin_after ts f at start) e

either_off : (a b : Bool) → a ≡ false → b ≡ false → (a || b) ≡ true → ⊥
either_off true b p q e = never p
either_off false b p q e = never (sym e ∙ q)

-- the widest is what the decoder asks of the binder's word
bound_widest : (binds : Bool) (x : ℕ) → cond binds max_bound_width max_width ≡ widest_for (cond binds (x + 1) 0)
bound_widest true x = rw (lt-ltb 0 (x + 1) (omega arith)) refl
bound_widest false x = refl

module _ (xs ns ts ws : List ℕ) (n : ℕ) (e : refusal_8 xs ns ts ws n ≡ Found.Nothing) where
  node_none : (i : ℕ) → i < n → node_found xs ns ts ws i ≡ Found.Nothing
  node_none i h = least_none n 0 (node_found xs ns ts ws) e i (omega arith) (omega arith)

  pub widths_right : (i : ℕ) → i < n → kind_of ns i ≡ 8 → (1 ≤ width_of xs ns i) × (width_of xs ns i ≤ widest_for (cond (is_binder ns i) (binders_before ns i + 1) 0))
  widths_right i h z =
      let f : width_found xs ns i ≡ Found.Nothing = (lesser_none (width_found xs ns i) _ (node_none i h)).0 in
      let g : (eqb (kind_of ns i) 8 && not (leb 1 (width_of xs ns i) && leb (width_of xs ns i) (most_of ns i))) ≡ false = if_none _ (width_place ns i) f in
      let w : (leb 1 (width_of xs ns i) && leb (width_of xs ns i) (most_of ns i)) ≡ true = not-false _ (both_rest _ _ (eq-eqb (kind_of ns i) 8 z) g) in
      (within_low 1 (width_of xs ns i) (most_of ns i) w, subst (λ (m : ℕ). width_of xs ns i ≤ m) (bound_widest (is_binder ns i) (binders_before ns i)) (within_high 1 (width_of xs ns i) (most_of ns i) w))

  pub sizes_right : (i : ℕ) → i < n → oversized ws i ≡ true → ⊥
  sizes_right i h z =
      let f = lesser_none (width_found xs ns i) _ (node_none i h) in
      let g = lesser_none (list_found ts (condition_from ns i) (condition_start ns i) (condition_size ws i)) (list_found ts (own_from ns i) (own_start ns i) (own_size ws (construct_at ws i))) f.1 in
      either_off (exceeds (condition_size ws i)) (exceeds (own_size ws (construct_at ws i))) (list_none ts (condition_from ns i) (condition_start ns i) (condition_size ws i) g.0) (list_none ts (own_from ns i) (own_start ns i) (own_size ws (construct_at ws i)) g.1) z

-- ---- what is found

abbrev pub Inside : Found → Type 0
Inside Found.Nothing = Unit {0}
Inside (Found.At p) = p ≤ max_text_bytes

lesser_inside : (a b : Found) → Inside a → Inside b → Inside (lesser a b)
lesser_inside Found.Nothing b h k = k
lesser_inside (Found.At p) Found.Nothing h k = h
lesser_inside (Found.At p) (Found.At q) h k = omega arith

least_inside : (n i : ℕ) (f : ℕ → Found) → ((j : ℕ) → i ≤ j → j < i + n → Inside (f j)) → Inside (least_found n i f)
unfolding least_found
least_inside zero i f h = tt
least_inside (suc n) i f h = lesser_inside (f i) (least_found n (i + 1) f) (h i (omega arith) (omega arith)) (least_inside n (i + 1) f (λ j a b. h j (omega arith) (omega arith)))

if_inside : (fault : Bool) (p : ℕ) → (fault ≡ true → p ≤ max_text_bytes) → Inside (found_if fault p)
if_inside true p h = h refl
if_inside false p h = tt

list_inside : (ts : List ℕ) (f start : ℕ) (s : Result ⊤ SizeError) → ((k : ℕ) → term_origin ts k ≤ max_text_bytes) → Inside (list_found ts f start s)
list_inside ts f start (Ok u) h = tt
list_inside ts f start (Err SizeError.Malformed) h = tt
list_inside ts f start (Err (SizeError.Exceeds at)) h = h (f + (at - start))

-- a uint's width stands in the text
width_inside : {xs ns ts : List ℕ} {i e f g β : ℕ} → Holds xs ns ts tree i e f g β → kind_of ns i ≡ 8 → width_place ns i < length xs
width_inside (literal_tree x a b c) z = absurd (omega (arith, x.kind_is, z))
width_inside (range_tree x a b c d) z = absurd (omega (arith, x.kind_is, z))
width_inside (use_tree x a b c) z = absurd (omega (arith, x.kind_is, z))
width_inside (eod_tree x a b) z = absurd (omega (arith, x.kind_is, z))
width_inside (uint_tree x a c b) z = number_inside c.width
width_inside (marked_tree x a b c d) z = absurd (omega (arith, x.kind_is, z))
width_inside (counted_tree x a b c d) z = absurd (omega (arith, x.kind_is, z))
width_inside (chain_tree x w a b c) z = absurd (⊎_elim (λ k. omega (arith, x.kind_is, z, k)) (λ k. omega (arith, x.kind_is, z, k)) w)
width_inside (switch_tree x a b) z = absurd (omega (arith, x.kind_is, z))

module _ (xs ns ts ws : List ℕ) (n t : ℕ) (nodes : Nodes xs ns ts n t) (h : length xs ≤ max_text_bytes) (terms : (k w : ℕ) → (w ≡ at_term) ⊎ (w ≡ at_origin) → term_word ts k w ≤ max_text_bytes) where
  -- a width that is wrong
  abbrev wrong : ℕ → Bool
  wrong i = not (leb 1 (width_of xs ns i) && leb (width_of xs ns i) (most_of ns i))

  node_inside : (i : ℕ) → i < n → Inside (node_found xs ns ts ws i)
  node_inside i l =
      lesser_inside (width_found xs ns i) _
      (if_inside (eqb (kind_of ns i) 8 && wrong i) (width_place ns i)
      (λ (z : (eqb (kind_of ns i) 8 && wrong i) ≡ true).
      let k : kind_of ns i ≡ 8 = eqb-true (kind_of ns i) 8 (both_first (eqb (kind_of ns i) 8) (wrong i) z) in
      let y : width_place ns i < length xs = width_inside (nodes.trees i l).holds k in
      omega arith))
      (lesser_inside (list_found ts (condition_from ns i) (condition_start ns i) (condition_size ws i)) (list_found ts (own_from ns i) (own_start ns i) (own_size ws (construct_at ws i)))
      (list_inside ts (condition_from ns i) (condition_start ns i) (condition_size ws i) (λ k. terms k at_origin (inr refl))) (list_inside ts (own_from ns i) (own_start ns i) (own_size ws (construct_at ws i)) (λ k. terms k at_origin (inr refl))))

  pub found_inside : Inside (refusal_8 xs ns ts ws n)
  found_inside = least_inside n 0 (node_found xs ns ts ws) (λ j a b. node_inside j (omega arith))
