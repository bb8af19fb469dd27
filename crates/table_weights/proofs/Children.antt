-- What stands directly below a construct of a table: its parts, which lie inside it, or the body of the rule that it uses.
-- Assumes nothing.
use Prim.Native.Nat.{ℕ, zero, suc, ◌+◌, ◌≤◌, ◌<◌}
use native.Mathlib.Decide.{dec_lt}
use native.Mathlib.Omega.{arith}
use mathlib.Core.Path.{◌≡◌, refl, ap}
use mathlib.Core.List.{List, [], ◌∷◌}
use borrow.Author.Tests.{ne_eqb}
use Rattle.theory.specs.Grammar.{alternative, concatenation, repetition, switch, use_of, field, eod}
use Rattle.table_layout.specs.Places.{rule_count, construct_count}
use Rattle.table_layout.specs.Constructs.{construct_at}
use Rattle.table_layout.specs.Held.{HeldNode, size_of, parts, node_of, use_node, held, opening}
use Rattle.table_layout.specs.declared.Construct.{Construct}
use Rattle.table_layout.proofs.Views.{Parted, parted, leaf_node}
use Rattle.table_reach.specs.Reaching.{body_of}
use Rattle.table_weights.specs.Ruled.{size_at, Tiles, Filled, Ruled}
use Rattle.table_weights.proofs.Parts.{parts_past, parts_more}

abbrev pub All : (ℕ → Type 0) → List ℕ → Type 0
All P [] = Unit {0}
All P (i ∷ is) = P i × All P is

-- of each number that a node names
abbrev pub Each : (ℕ → Type 0) → HeldNode → Type 0
Each P (alternative is) = All P is
Each P (concatenation is) = All P is
Each P (repetition counts static fixed b) = P b
Each P (switch chosen optional is) = All P is
Each P (use_of enters opens closes b) = P b
Each P (field w admits static binds) = Unit {0}
Each P eod = Unit {0}

pub data Child (ws : List ℕ) (i k : ℕ) : Type 0 where
  inside : i < k → k + size_at ws k ≤ i + size_at ws i → 1 ≤ size_at ws k → Child ws i k
  opened : (p : ℕ) → construct_at ws i ≡ Construct.Use p → p < rule_count ws → k ≡ body_of ws p → Child ws i k

pub tiles_le : (ws : List ℕ) (end : ℕ) {j : ℕ} → Tiles ws end j → j ≤ end
tiles_le ws end (Tiles.done e) = omega arith
tiles_le ws end {j} (Tiles.more p t) = let l : j + size_at ws j ≤ end = tiles_le ws end t in omega arith

-- the parts of a construct lie inside it, one after the other
pub tiled : (ws : List ℕ) (end : ℕ) (P : ℕ → Type 0) {j : ℕ} → Tiles ws end j → (n : ℕ) → end ≤ j + n → ((k : ℕ) → j ≤ k → k + size_at ws k ≤ end → 1 ≤ size_at ws k → P k) → All P (parts n ws j end)
tiled ws end P {j} (Tiles.done e) n h f = rw (parts_past ws end n j (omega arith)) tt
tiled ws end P {j} (Tiles.more p t) zero h f = let l : j + size_at ws j ≤ end = tiles_le ws end t in absurd (omega arith)
tiled ws end P {j} (Tiles.more p t) (suc n) h f =
    let l : j + size_at ws j ≤ end = tiles_le ws end t in
    rw (parts_more ws end n j (omega arith) (λ e. omega arith)) (f j (omega arith) l p, tiled ws end P t n (omega arith) (λ k a b c. f k (omega arith) b c))

module _ (ws : List ℕ) (i : ℕ) (P : ℕ → Type 0) (child : (k : ℕ) → Child ws i k → P k) where
  below : (size : ℕ) → size_at ws i ≡ size → Tiles ws (i + size) (i + 1) → All P (parts size ws (i + 1) (i + size))
  below size e t = tiled ws (i + size) P t size (omega arith) (λ k a b c. child k (Child.inside (omega arith) (omega arith) c))

  each_of : {x : Construct} → Parted x → construct_at ws i ≡ x → Filled ws i x → Each P (node_of ws i x)
  unfolding node_of
  each_of Parted.missing e f = tt
  each_of (Parted.branches size) e f = below size (ap size_of e) f
  each_of (Parted.members size) e f = below size (ap size_of e) f
  each_of (Parted.body size passes) e f =
      let s : size_at ws i ≡ size = ap size_of e in
      child (i + 1) (Child.inside (omega arith) (omega (arith, f.1)) f.0)
  each_of (Parted.cases size) e f = below size (ap size_of e) f
  each_of (Parted.opens rule) e f = child (body_of ws rule) (Child.opened rule e f refl)
  each_of (Parted.leaf l) e f = leaf_node ws i (Each P) (λ w a s b. tt) tt _ l

  each_missing : construct_at ws i ≡ Construct.Missing → Each P (node_of ws i (construct_at ws i))
  unfolding node_of
  each_missing e = rw (e, node_of) tt

  pub children : Ruled ws → Each P (node_of ws i (construct_at ws i))
  children ruled = elim (dec_lt i (construct_count ws)) [
    | yes h ↦ each_of (parted (construct_at ws i)) refl (ruled.filled i h)
    | no h ↦ each_missing (ruled.none_after i (omega arith))
  ]

-- the nodes of the grammar that the words hold
module _ (ws : List ℕ) where
  pub held_node : (i : ℕ) → (i ≡ opening → ⊥) → (held ws).node i ≡ node_of ws i (construct_at ws i)
  unfolding held
  held_node i h = rw (ne_eqb i opening h)

  pub held_opening : (held ws).node opening ≡ use_node ws 0
  unfolding held
  held_opening = refl

  pub held_children : Ruled ws → (P : ℕ → Type 0) (i : ℕ) → (i ≡ opening → P (body_of ws 0)) → ((k : ℕ) → Child ws i k → P k) → Each P ((held ws).node i)
  held_children ruled P i o child = go (dec_lt i opening) (dec_lt opening i)
    where
      go : Dec (i < opening) → Dec (opening < i) → Each P ((held ws).node i)
      go (yes a) b = rw (held_node i (λ e. omega arith)) (children ws i P child ruled)
      go (no a) (yes b) = rw (held_node i (λ e. omega arith)) (children ws i P child ruled)
      go (no a) (no b) = let e : i ≡ opening = omega arith in rw (e, held_opening) (o e)
