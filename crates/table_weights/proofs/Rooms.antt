-- Room in the list of pending entries. A construct's height is enough, and the start rule's is at most the number of constructs: each
-- stands in the list at most once, because no rule reaches itself.
-- Assumes nothing.
use Prim.Native.Nat.{ℕ, zero, suc, ◌+◌, ◌≤◌, ◌<◌, max}
use native.Mathlib.Decide.{dec_lt}
use native.Mathlib.Omega.{arith}
use native.Mathlib.Numerals.{add-one}
use mathlib.Core.Path.{◌≡◌, refl, ap}
use mathlib.Core.Bool.{cond}
use mathlib.Core.List.{List, [], ◌∷◌}
use borrow.Author.Tests.{lt-ltb, le-ltb, ne_eqb}
use lib.Dec.{eqb}
use lib.ListN.{length}
use Rattle.basis.specs.Limits.{max_constructs, max_entries}
use Rattle.theory.specs.Weight.{largest, members_room, room, HasRoom}
use Rattle.table_layout.specs.Places.{rule_count, construct_count}
use Rattle.table_layout.specs.Constructs.{construct_at}
use Rattle.table_layout.specs.Held.{Context, first_context, size_of, parts, node_of, use_node, held, opening}
use Rattle.table_layout.specs.declared.Construct.{Construct}
use Rattle.table_layout.proofs.Views.{Parted, parted, leaf_node}
use Rattle.table_reach.specs.Reaching.{body_of, rule_end, Acyclic}
use Rattle.table_weights.specs.Ruled.{size_at, Tiles, Filled, Ruled}
use Rattle.table_weights.proofs.Parts.{parts_past, parts_more}
use Rattle.table_weights.proofs.Totals.{total, all}
use Rattle.table_weights.proofs.Depths.{spread, spread_inside, spread_body}
use Rattle.table_weights.proofs.Children.{All, Child, tiles_le, tiled, held_node, held_opening}
use Rattle.table_weights.proofs.Heights.{rule_size, height, child_lower, start_there}

-- room for construct i; the opening use has that of the start rule's body
unfoldable pub rooms : List ℕ → Context → ℕ → ℕ
rooms ws c i = max 1 (cond (eqb i opening) (height ws (body_of ws 0)) (height ws i))

rooms_of : (ws : List ℕ) (c : Context) (i : ℕ) → (i ≡ opening → ⊥) → rooms ws c i ≡ max 1 (height ws i)
unfolding rooms
rooms_of ws c i h = rw (ne_eqb i opening h)

rooms_opening : (ws : List ℕ) (c : Context) → rooms ws c opening ≡ max 1 (height ws (body_of ws 0))
unfolding rooms
rooms_opening ws c = refl

rooms_positive : (ws : List ℕ) (c : Context) (i : ℕ) → 1 ≤ rooms ws c i
unfolding rooms
rooms_positive ws c i = omega arith

largest_most : (f : ℕ → ℕ) (b : ℕ) (is : List ℕ) → All (λ k. f k ≤ b) is → largest f is ≤ b
unfolding largest
largest_most f b [] a = omega arith
largest_most f b (i ∷ is) a = omega (arith, a.0, largest_most f b is a.1)

-- members that lie one after the other: each with those after it has the room from where it begins
members_most : (ws : List ℕ) (end : ℕ) (f : ℕ → ℕ) (b : ℕ) {j : ℕ} → Tiles ws end j → (n : ℕ) → end ≤ j + n
    → ((k : ℕ) → j ≤ k → k + size_at ws k ≤ end → 1 ≤ size_at ws k → f k ≤ size_at ws k + b)
    → (length (parts n ws j end) + j ≤ end) × (members_room f (parts n ws j end) + j ≤ end + b)
unfolding members_room
members_most ws end f b {j} (Tiles.done e) n h g = rw (parts_past ws end n j (omega arith)) (omega arith, omega arith)
members_most ws end f b {j} (Tiles.more p t) zero h g = let l : j + size_at ws j ≤ end = tiles_le ws end t in absurd (omega arith)
members_most ws end f b {j} (Tiles.more p t) (suc n) h g =
    let l : j + size_at ws j ≤ end = tiles_le ws end t in
    let r = members_most ws end f b t n (omega arith) (λ k a c d. g k (omega arith) c d) in
    let here : f j ≤ size_at ws j + b = g j (omega arith) l p in
    rw (parts_more ws end n j (omega arith) (λ e. omega arith)) (omega (arith, r.0), omega (arith, r.0, r.1))

module _ (ws : List ℕ) (ruled : Ruled ws) (acyclic : Acyclic ws) where
  -- the rules' sizes come to the number of constructs
  sizes_before : (r : ℕ) → r < rule_count ws → body_of ws r ≡ total r all (rule_size ws)
  unfolding total
  sizes_before zero h = ruled.first_body
  sizes_before (suc r) h =
      let e : rule_end ws r ≡ body_of ws (r + 1) = rw (lt-ltb (r + 1) (rule_count ws) (omega arith)) refl in
      let b : body_of ws (r + 1) ≡ body_of ws (suc r) = ap (body_of ws) (add-one r) in
      omega (arith, ruled.body_whole r (omega arith), sizes_before r (omega arith))

  sizes_all : total (rule_count ws) all (rule_size ws) ≡ construct_count ws
  unfolding total
  sizes_all = go (rule_count ws) refl
    where
      go : (n : ℕ) → rule_count ws ≡ n → total n all (rule_size ws) ≡ construct_count ws
      go zero e = absurd (omega (arith, ruled.some_rule))
      go (suc r) e =
          let f : rule_end ws r ≡ construct_count ws = rw (le-ltb (r + 1) (rule_count ws) (omega arith)) refl in
          omega (arith, ruled.body_whole r (omega arith), sizes_before r (omega arith))

  module _ (c : Context) (i : ℕ) (here : i < max_constructs) where
    -- a part has less room than its construct
    inside_most : (k : ℕ) → Child ws i k → rooms ws c k ≤ max 1 (height ws i)
    inside_most k ch = let l = child_lower ws ruled acyclic i k ch in omega (arith, l.0, rooms_of ws c k (λ e. omega (arith, l.1)))

    -- its own constructs, and what the whole leads to
    part_most : (k : ℕ) → i < k → k + size_at ws k ≤ i + size_at ws i → 1 ≤ size_at ws k → rooms ws c k ≤ size_at ws k + spread ws (rule_size ws) i
    part_most k a b d =
        let l = child_lower ws ruled acyclic i k (Child.inside a b d) in
        omega (arith, rooms_of ws c k (λ e. omega (arith, l.1)), spread_inside ws ruled (rule_size ws) i k (omega arith) b)

    branches : (size : ℕ) → size_at ws i ≡ size → Tiles ws (i + size) (i + 1) → largest (rooms ws c) (parts size ws (i + 1) (i + size)) ≤ max 1 (height ws i)
    branches size e t =
        largest_most (rooms ws c) (max 1 (height ws i)) (parts size ws (i + 1) (i + size))
        (tiled ws (i + size) (λ k. rooms ws c k ≤ max 1 (height ws i)) t size (omega arith) (λ k a b d. inside_most k (Child.inside (omega arith) (omega arith) d)))

    housed : {x : Construct} → Parted x → construct_at ws i ≡ x → Filled ws i x → room (rooms ws) c (node_of ws i x) ≤ max 1 (height ws i)
    unfolding room node_of largest
    housed Parted.missing e f = omega arith
    housed (Parted.branches size) e f = branches size (ap size_of e) f
    housed (Parted.members size) e f =
        let s : size_at ws i ≡ size = ap size_of e in
        let m = members_most ws (i + size) (rooms ws c) (spread ws (rule_size ws) i) f size (omega arith) (λ k a b d. part_most k (omega arith) (omega arith) d) in
        omega (arith, m.1)
    housed (Parted.body size passes) e f =
        let s : size_at ws i ≡ size = ap size_of e in
        omega (arith, part_most (i + 1) (omega arith) (omega (arith, f.1)) f.0, f.1)
    housed (Parted.cases size) e f = branches size (ap size_of e) f
    housed (Parted.opens rule) e f = inside_most (body_of ws rule) (Child.opened rule e f refl)
    housed (Parted.leaf l) e f = leaf_node ws i (λ n. room (rooms ws) c n ≤ max 1 (height ws i)) (λ w a s b. omega arith) (omega arith) _ l

  housed_missing : (c : Context) (i : ℕ) → construct_at ws i ≡ Construct.Missing → room (rooms ws) c (node_of ws i (construct_at ws i)) ≤ max 1 (height ws i)
  unfolding room node_of largest
  housed_missing c i e = rw (e, node_of) (omega arith)

  housed_there : (c : Context) (i : ℕ) → room (rooms ws) c (node_of ws i (construct_at ws i)) ≤ max 1 (height ws i)
  housed_there c i = elim (dec_lt i (construct_count ws)) [
    | yes h ↦ housed c i (omega (arith, ruled.constructs_most)) (parted (construct_at ws i)) refl (ruled.filled i h)
    | no h ↦ housed_missing c i (ruled.none_after i (omega arith))
  ]

  housed_opening : (c : Context) → room (rooms ws) c (use_node ws 0) ≤ rooms ws c opening
  unfolding room
  housed_opening c = omega (arith, rooms_opening ws c, rooms_of ws c (body_of ws 0) (λ e. omega (arith, start_there ws ruled acyclic)))

  pub has_room : HasRoom (held ws) (rooms ws)
  has_room c i = (rooms_positive ws c i, go (dec_lt i opening) (dec_lt opening i))
    where
      go : Dec (i < opening) → Dec (opening < i) → room (rooms ws) c ((held ws).node i) ≤ rooms ws c i
      go (yes a) b = rw (held_node ws i (λ e. omega arith), rooms_of ws c i (λ e. omega arith)) (housed_there c i)
      go (no a) (yes b) = rw (held_node ws i (λ e. omega arith), rooms_of ws c i (λ e. omega arith)) (housed_there c i)
      go (no a) (no b) = let e : i ≡ opening = omega arith in rw (e, held_opening ws) (housed_opening c)

  -- "the list is longer than 256" never comes from an opening
  pub opening_room : rooms ws first_context opening ≤ max_entries
  opening_room =
      omega (arith, rooms_opening ws first_context, spread_body ws ruled acyclic (rule_size ws) 0 (omega (arith, ruled.some_rule)), sizes_all, ruled.constructs_most)
