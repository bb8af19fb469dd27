-- A height for every construct that falls from a construct to what stands below it: the constructs that it is, and those of all the rules
-- that it leads to. So a grammar in which no rule reaches itself has weights, and room enough is known.
-- Assumes nothing.
use Prim.Native.Nat.{ℕ, zero, suc, ◌+◌, ◌≤◌, ◌<◌}
use native.Mathlib.Decide.{dec_lt}
use native.Mathlib.Omega.{arith}
use mathlib.Core.Path.{◌≡◌, refl, sym, ap, ◌∙◌}
use mathlib.Core.Bool.{cond}
use mathlib.Core.List.{List}
use borrow.Author.Tests.{ne_eqb}
use lib.Dec.{eqb}
use Rattle.basis.specs.Limits.{max_constructs}
use Rattle.theory.specs.Weight.{weigh, Weighs}
use Rattle.table_layout.specs.Places.{rule_count, construct_count}
use Rattle.table_layout.specs.Held.{Context, first_context, size_of, held, opening}
use Rattle.table_reach.specs.Reaching.{body_of, Acyclic}
use Rattle.table_layout.proofs.Bounds.{missing_past}
use Rattle.table_reach.proofs.Constructs.{size_within}
use Rattle.table_weights.specs.Ruled.{size_at, Ruled}
use Rattle.table_weights.proofs.Totals.{total, all}
use Rattle.table_weights.proofs.Depths.{spread, spread_inside, spread_used, spread_most}
use Rattle.table_weights.proofs.Children.{Each, Child, held_children}
use Rattle.table_weights.proofs.Congruence.{each_map, weigh_equal}

-- how many constructs rule q is
abbrev pub rule_size : List ℕ → ℕ → ℕ
rule_size ws q = size_at ws (body_of ws q)

abbrev pub height : List ℕ → ℕ → ℕ
height ws i = size_at ws i + spread ws (rule_size ws) i

-- weights by rounds from nothing
unfoldable pub rounds : List ℕ → ℕ → ℕ → ℕ
unfolding held
rounds ws zero i = 0
rounds ws (suc n) i = weigh (λ c j. rounds ws n j) first_context ((held ws).node i)

-- rounds enough
abbrev pub limit : List ℕ → ℕ
limit ws = max_constructs + 1 + total (rule_count ws) all (rule_size ws)

abbrev pub weight_at : List ℕ → ℕ → ℕ
weight_at ws i = rounds ws (suc (limit ws)) i

module _ (ws : List ℕ) (ruled : Ruled ws) (acyclic : Acyclic ws) where
  -- what stands below is lower, and is a construct
  pub child_lower : (i k : ℕ) → Child ws i k → (height ws k < height ws i) × (k < max_constructs)
  child_lower i k (Child.inside a b c) = (
    omega (arith, spread_inside ws ruled (rule_size ws) i k (omega arith) b),
    elim (dec_lt k max_constructs) [
      | yes h ↦ h
      | no h ↦ let e : size_at ws k ≡ 0 = ap size_of (missing_past ws k (omega arith)) in absurd (omega arith)
    ],
  )
  child_lower i k (Child.opened p e l z) =
      let s : size_at ws i ≡ 1 = ap size_of e in
      let h : height ws k ≡ height ws (body_of ws p) = ap (height ws) z in
      let b : body_of ws p < construct_count ws = ruled.body_there p l in
      (omega (arith, spread_used ws ruled acyclic (rule_size ws) i p e l), omega (arith, ruled.constructs_most))

  -- the opening use stands above the start rule's body
  depth : ℕ → ℕ
  depth i = cond (eqb i opening) (1 + height ws (body_of ws 0)) (height ws i)

  depth_of : (i : ℕ) → (i ≡ opening → ⊥) → depth i ≡ height ws i
  unfolding depth
  depth_of i h = rw (ne_eqb i opening h)

  depth_opening : depth opening ≡ 1 + height ws (body_of ws 0)
  unfolding depth
  depth_opening = refl

  pub start_there : body_of ws 0 < max_constructs
  start_there = omega (arith, ruled.body_there 0 (omega (arith, ruled.some_rule)), ruled.constructs_most)

  child_depth : (i k : ℕ) → Child ws i k → depth k < depth i
  child_depth i k c =
      let l = child_lower i k c in
      let a : depth k ≡ height ws k = depth_of k (λ e. omega (arith, l.1)) in
      let b : depth i ≡ height ws i = depth_of i (λ e. none_there e c) in
      omega (arith, l.0)
    where
      none_there : i ≡ opening → Child ws i k → ⊥
      none_there e (Child.inside a b d) = let s : size_at ws i ≡ 0 = ap size_of (missing_past ws i (omega arith)) in omega arith
      none_there e (Child.opened p u l z) =
          let s : size_at ws i ≡ 0 = ap size_of (missing_past ws i (omega arith)) in
          let t : size_at ws i ≡ 1 = ap size_of u in
          omega arith

  start_depth : (i : ℕ) → i ≡ opening → depth (body_of ws 0) < depth i
  start_depth i e =
      let a : depth (body_of ws 0) ≡ height ws (body_of ws 0) = depth_of (body_of ws 0) (λ z. omega (arith, start_there)) in
      let b : depth i ≡ 1 + height ws (body_of ws 0) = ap depth e ∙ depth_opening in
      omega arith

  -- induction from what stands below
  descend : (P : ℕ → ℕ → Type 0) → ((n i : ℕ) → Each (λ k. (m : ℕ) × (n ≡ suc m) × P m k) ((held ws).node i) → P n i) → (n i : ℕ) → depth i ≤ n → P n i
  descend P step zero i h =
      step zero i
      (held_children ws ruled (λ k. (m : ℕ) × (zero ≡ suc m) × P m k) i (λ e. absurd (omega (arith, start_depth i e))) (λ k c. absurd (omega (arith, child_depth i k c))))
  descend P step (suc n) i h =
      step (suc n) i
      (held_children ws ruled (λ k. (m : ℕ) × (suc n ≡ suc m) × P m k) i (λ e. (n, refl, descend P step n (body_of ws 0) (omega (arith, start_depth i e))))
      (λ k c. (n, refl, descend P step n k (omega (arith, child_depth i k c)))))

  -- after as many rounds as it is deep, a construct's weight stands
  stands : (n i : ℕ) → depth i ≤ n → rounds ws (suc n) i ≡ rounds ws (suc (suc n)) i
  unfolding rounds
  stands =
      descend (λ n i. rounds ws (suc n) i ≡ rounds ws (suc (suc n)) i)
      (λ n i below.
      weigh_equal (λ c j. rounds ws n j) (λ c j. rounds ws (suc n) j) ((held ws).node i)
      (each_map (λ k. (m : ℕ) × (n ≡ suc m) × (rounds ws (suc m) k ≡ rounds ws (suc (suc m)) k)) (λ k. rounds ws n k ≡ rounds ws (suc n) k) (λ k b. rw b.1 b.2) ((held ws).node i) below))

  height_most : (i : ℕ) → i < max_constructs → height ws i ≤ max_constructs + total (rule_count ws) all (rule_size ws)
  height_most i h = omega (arith, size_within ws i h, spread_most ws ruled (rule_size ws) i)

  depth_most : (i : ℕ) → depth i ≤ limit ws
  depth_most i = go (dec_lt i opening) (dec_lt opening i)
    where
      go : Dec (i < opening) → Dec (opening < i) → depth i ≤ limit ws
      go (yes a) b = omega (arith, depth_of i (λ e. omega arith), height_most i a)
      go (no a) (yes b) =
          let s : size_at ws i ≡ 0 = ap size_of (missing_past ws i (omega arith)) in
          omega (arith, depth_of i (λ e. omega arith), spread_most ws ruled (rule_size ws) i)
      go (no a) (no b) =
          let e : i ≡ opening = omega arith in
          let f : depth i ≡ 1 + height ws (body_of ws 0) = ap depth e ∙ depth_opening in
          omega (arith, height_most (body_of ws 0) start_there)

  pub weighs : Weighs (held ws) (λ c i. weight_at ws i)
  unfolding rounds
  weighs c i = stands (limit ws) i (depth_most i)

  -- and no other function gives the weights
  pub unique : (v w : Context → ℕ → ℕ) → Weighs (held ws) v → Weighs (held ws) w → (i : ℕ) → v first_context i ≡ w first_context i
  unique v w a b i =
      descend (λ n i. v first_context i ≡ w first_context i)
      (λ n i below.
      a first_context i
      ∙ weigh_equal v w ((held ws).node i) (each_map (λ k. (m : ℕ) × (n ≡ suc m) × (v first_context k ≡ w first_context k)) (λ k. v first_context k ≡ w first_context k) (λ k b. b.2) ((held ws).node i) below)
      ∙ sym (b first_context i))
      (limit ws) i (depth_most i)
