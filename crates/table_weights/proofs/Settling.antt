-- Sweeps settle the weights: after n of them those of the constructs that lead to fewer than n rules stand.
-- Assumes nothing.
use Prim.Native.Nat.{ℕ, zero, suc, ◌+◌, ◌≤◌, ◌<◌, min}
use native.Mathlib.Decide.{dec_lt}
use native.Mathlib.Omega.{arith}
use native.Mathlib.Nat.{add-zero}
use mathlib.Core.Path.{◌≡◌, sym, ap, ap₂, subst, ◌∙◌}
use mathlib.Core.List.{List}
use lib.ListN.{length, get_or, set, replicate, length-set, length-replicate, get_or-replicate}
use lib.Seq.{get_or-set_same, get_or-set_other}
use Rattle.basis.specs.Limits.{max_rules, max_constructs, max_weight}
use Rattle.theory.specs.Weight.{largest, weigh, Weighs}
use Rattle.table_layout.specs.Places.{rule_count, construct_count}
use Rattle.table_layout.specs.Constructs.{construct_at}
use Rattle.table_layout.specs.Held.{Context, first_context, node_of, held, opening}
use Rattle.table_layout.specs.declared.Construct.{Construct}
use Rattle.table_reach.specs.Reaching.{body_of, Acyclic}
use Rattle.table_reach.proofs.Constructs.{size_within}
use Rattle.table_weights.specs.Ruled.{Ruled}
use Rattle.table_weights.specs.Sweeps.{capped, weighed, swept, settled}
use Rattle.table_weights.specs.Weighed.{Weights, Weight}
use Rattle.table_weights.proofs.Totals.{total_ones}
use Rattle.table_weights.proofs.Depths.{spread, spread_inside, spread_used, spread_most}
use Rattle.table_weights.proofs.Children.{Child, children, held_node, held_opening}
use Rattle.table_weights.proofs.Congruence.{weigh_same}

-- how many rules a construct leads to
abbrev rank : List ℕ → ℕ → ℕ
rank ws i = spread ws (λ q. 1) i

module _ (ws : List ℕ) (ruled : Ruled ws) (acyclic : Acyclic ws) (weight : Context → ℕ → ℕ) (weighs : Weighs (held ws) weight) where
  abbrev Right : List ℕ → ℕ → Type 0
  Right xs i = get_or xs i 0 ≡ capped (weight first_context i)

  weight_node : (i : ℕ) → i < max_constructs → weight first_context i ≡ weigh weight first_context (node_of ws i (construct_at ws i))
  weight_node i h = weighs first_context i ∙ ap (weigh weight first_context) (held_node ws i (λ e. omega arith))

  weight_missing : (i : ℕ) → i < max_constructs → construct_count ws ≤ i → weight first_context i ≡ 1
  unfolding weigh node_of largest
  weight_missing i h l = weight_node i h ∙ ap (λ (x : Construct). weigh weight first_context (node_of ws i x)) (ruled.none_after i l)

  -- during sweep n: constructs from m on are done
  pub record State (n m : ℕ) (xs : List ℕ) : Type 0 where
    pub many : length xs ≡ max_constructs
    pub before : (i : ℕ) → i < max_constructs → rank ws i < n → Right xs i
    pub now : (i : ℕ) → i < max_constructs → m ≤ i → rank ws i ≤ n → Right xs i
    pub rest : (i : ℕ) → i < max_constructs → construct_count ws ≤ i → Right xs i

  module _ (n i : ℕ) (xs : List ℕ) (state : State n (suc i) xs) (here : i < construct_count ws) where
    child_right : rank ws i ≤ n → (k : ℕ) → Child ws i k → Right xs k
    child_right h k (Child.inside a b c) =
        state.now k (omega (arith, ruled.constructs_most, size_within ws i (omega (arith, ruled.constructs_most)))) (omega arith)
        (omega (arith, spread_inside ws ruled (λ q. 1) i k (omega arith) b))
    child_right h k (Child.opened p e l z) =
        let b : body_of ws p < construct_count ws = ruled.body_there p l in
        subst (Right xs) (sym z) (state.before (body_of ws p) (omega (arith, ruled.constructs_most)) (omega (arith, spread_used ws ruled acyclic (λ q. 1) i p e l)))

    weighed_right : rank ws i ≤ n → weighed ws xs i ≡ capped (weight first_context i)
    weighed_right h =
        weigh_same (max_weight + 1) (λ c j. get_or xs j 0) weight (node_of ws i (construct_at ws i))
        (children ws i (λ k. min (max_weight + 1) (get_or xs k 0) ≡ min (max_weight + 1) (weight first_context k)) (λ k c. let r : get_or xs k 0 ≡ min (max_weight + 1) (weight first_context k) = child_right h k c in omega arith) ruled)
        ∙ ap capped (sym (weight_node i (omega (arith, ruled.constructs_most))))

    stored : (j : ℕ) → (j ≡ i → rank ws i ≤ n) → ((j ≡ i → ⊥) → Right xs j) → Right (set xs i (weighed ws xs i)) j
    stored j same other = go (dec_lt j i) (dec_lt i j)
      where
        go : Dec (j < i) → Dec (i < j) → Right (set xs i (weighed ws xs i)) j
        go (yes l) m = get_or-set_other xs i j (weighed ws xs i) 0 (λ e. omega arith) ∙ other (λ e. omega arith)
        go (no l) (yes m) = get_or-set_other xs i j (weighed ws xs i) 0 (λ e. omega arith) ∙ other (λ e. omega arith)
        go (no l) (no m) =
            let e : j ≡ i = omega arith in
            subst (Right (set xs i (weighed ws xs i))) (sym e)
            (get_or-set_same xs i (weighed ws xs i) 0 (omega (arith, state.many, ruled.constructs_most)) ∙ weighed_right (same e))

    state_next : State n i (set xs i (weighed ws xs i))
    state_next =
        record {
          many = length-set xs i (weighed ws xs i) ∙ state.many;
          before = λ j h l. stored j (λ e. let r : rank ws j ≡ rank ws i = ap (rank ws) e in omega arith) (λ z. state.before j h l);
          now = λ j h m l. stored j (λ e. let r : rank ws j ≡ rank ws i = ap (rank ws) e in omega arith) (λ z. state.now j h (omega arith) l);
          rest = λ j h m. stored j (λ e. absurd (omega arith)) (λ z. state.rest j h m);
        }

  sweep_right : (n i : ℕ) (xs : List ℕ) → i ≤ construct_count ws → State n i xs → State n 0 (swept ws i xs)
  unfolding swept
  sweep_right n zero xs h s = s
  sweep_right n (suc i) xs h s = sweep_right n i (set xs i (weighed ws xs i)) (omega arith) (state_next n i xs s (omega arith))

  sweep_done : (n : ℕ) (xs : List ℕ) → State n 0 xs → State (suc n) (construct_count ws) xs
  sweep_done n xs s = record { many = s.many; before = λ i h l. s.now i h (omega arith) (omega arith); now = λ i h m l. s.rest i h m; rest = s.rest }

  settle_right : (k n : ℕ) (xs : List ℕ) → State n (construct_count ws) xs → State (n + k) (construct_count ws) (settled ws (construct_count ws) k xs)
  unfolding settled
  settle_right zero n xs s = rw add-zero s
  settle_right (suc k) n xs s =
      let e : suc n + k ≡ n + suc k = omega arith in
      subst (λ (m : ℕ). State m (construct_count ws) (settled ws (construct_count ws) k (swept ws (construct_count ws) xs))) e
      (settle_right k (suc n) (swept ws (construct_count ws) xs) (sweep_done n (swept ws (construct_count ws) xs) (sweep_right n (construct_count ws) xs (omega arith) s)))

  first_state : State 0 (construct_count ws) (replicate max_constructs 1)
  first_state =
      record {
        many = length-replicate {A = ℕ} max_constructs 1;
        before = λ i h l. absurd (omega arith);
        now = λ i h m l. missing i h m;
        rest = missing;
      }
    where
      missing : (i : ℕ) → i < max_constructs → construct_count ws ≤ i → Right (replicate max_constructs 1) i
      missing i h m = get_or-replicate {A = ℕ} max_constructs i 1 0 h ∙ ap capped (sym (weight_missing i h m))

  final : State (0 + (rule_count ws + 1)) (construct_count ws) (settled ws (construct_count ws) (rule_count ws + 1) (replicate max_constructs 1))
  final = settle_right (rule_count ws + 1) 0 (replicate max_constructs 1) first_state

  all_right : (i : ℕ) → i < max_constructs → Right (settled ws (construct_count ws) (rule_count ws + 1) (replicate max_constructs 1)) i
  all_right i h = final.before i h (omega (arith, spread_most ws ruled (λ q. 1) i, total_ones (rule_count ws)))

  weight_opening : weight first_context opening ≡ 1 + weight first_context (body_of ws 0)
  unfolding weigh
  weight_opening = weighs first_context opening ∙ ap (weigh weight first_context) (held_opening ws)

-- the list that the function makes
abbrev pub made : List ℕ → List ℕ
made ws = settled ws (min max_constructs (construct_count ws)) (min max_rules (rule_count ws) + 1) (replicate max_constructs 1)

pub made_right : (ws : List ℕ) → Weights ws (made ws)
made_right ws ruled acyclic weight weighs i h =
    let a : min max_constructs (construct_count ws) ≡ construct_count ws = omega (arith, ruled.constructs_most) in
    let b : min max_rules (rule_count ws) ≡ rule_count ws = omega (arith, ruled.rules_most) in
    rw (a, b) (all_right ws ruled acyclic weight weighs i h)

pub grammar_right : (ws : List ℕ) (n g : ℕ) → n ≡ get_or (made ws) (body_of ws 0) 0 → g ≡ capped (1 + n) → Weight ws g
grammar_right ws n g e f ruled acyclic weight weighs =
    let b : body_of ws 0 < construct_count ws = ruled.body_there 0 (omega (arith, ruled.some_rule)) in
    let r : get_or (made ws) (body_of ws 0) 0 ≡ capped (weight first_context (body_of ws 0)) = made_right ws ruled acyclic weight weighs (body_of ws 0) (omega (arith, ruled.constructs_most)) in
    let o : weight first_context opening ≡ 1 + weight first_context (body_of ws 0) = weight_opening ws ruled acyclic weight weighs in
    omega arith

pub made_all : (ws xs : List ℕ) (n k b g : ℕ) → xs ≡ settled ws n (k + 1) (replicate max_constructs 1) → n ≡ min max_constructs (construct_count ws) → k ≡ min max_rules (rule_count ws)
    → b ≡ get_or xs (body_of ws 0) 0 → g ≡ capped (1 + b) → Weights ws xs × Weight ws g
made_all ws xs n k b g e f h o p =
    let m : xs ≡ made ws = e ∙ ap₂ (λ (x y : ℕ). settled ws x (y + 1) (replicate max_constructs 1)) f h in
    (subst (Weights ws) (sym m) (made_right ws), grammar_right ws b g (o ∙ ap (λ (l : List ℕ). get_or l (body_of ws 0) 0) m) p)
