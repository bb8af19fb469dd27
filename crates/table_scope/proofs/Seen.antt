-- What a construct sees: the rule that it stands in, and what is bound before it there.
-- Assumes nothing.
use Prim.Native.Nat.{ℕ, zero, suc, ◌+◌, ◌≤◌, ◌<◌}
use mathlib.Core.Path.{◌≡◌, refl, ap, ◌∙◌}
use mathlib.Core.Logic.{inl, inr}
use mathlib.Core.Bool.{Bool, true, ◌&&◌}
use mathlib.Core.List.Memᴰ
use mathlib.Core.List.{List, [], ◌∷◌, ◌++◌, append-nil}
use native.Mathlib.Omega.{arith}
use borrow.Author.Tests.{leb-true, ltb-true, le-leb, lt-leb, lt-ltb, eqb-true, eqb-false}
use lib.Dec.{leb, ltb, eqb}
use Rattle.basis.proofs.Booleans.{which, both_first, both_second, picked}
use Rattle.theory.specs.Grammar.{◌∈◌}
use Rattle.table_layout.specs.Places.{rule_count, construct_count}
use Rattle.table_wellformed.specs.Rules.{body, rule_end}
use Rattle.table_structure.proofs.Facts.{Laid, lt_of_ne}
use Rattle.table_structure.proofs.RuleLaws.{rule_within}
use Rattle.table_structure.proofs.Owners.{one_rule}
use Rattle.table_scope.specs.Scope.{bound_at, bound_before, rule_start, seen_at}

-- ---- what stretches of constructs bind

module _ (ws : List ℕ) (start : ℕ) where
  pub before_none : (i : ℕ) → i ≤ start → bound_before ws start i ≡ []
  unfolding bound_before
  before_none zero h = refl
  before_none (suc i) h = rw (lt-leb start i (omega arith))

  pub before_step : (i : ℕ) → start ≤ i → bound_before ws start (suc i) ≡ bound_before ws start i ++ bound_at ws i
  unfolding bound_before
  before_step i h = rw (le-leb start i h)

  -- where none of n constructs binds
  pub before_quiet : (n i j : ℕ) → j ≡ i + n → start ≤ i → ((k : ℕ) → i ≤ k → k < j → bound_at ws k ≡ []) → bound_before ws start j ≡ bound_before ws start i
  before_quiet zero i j e h q = ap (bound_before ws start) (omega arith)
  before_quiet (suc n) i j e h q =
      let f : j ≡ suc (i + n) = omega arith
      in ap (bound_before ws start) f ∙ before_step (i + n) (omega arith)
      ∙ ap (λ (xs : List ℕ). bound_before ws start (i + n) ++ xs) (q (i + n) (omega arith) (omega arith))
      ∙ append-nil (bound_before ws start (i + n))
      ∙ before_quiet n i (i + n) refl h (λ k a b. q k a (omega arith))

-- construct `binder`, from `start` on and before i, binds x
pub record Earlier (ws : List ℕ) (start i x : ℕ) : Type 0 where
  pub binder : ℕ
  pub from : start ≤ binder
  pub upto : binder < i
  pub binds : x ∈ bound_at ws binder

module _ (ws : List ℕ) (start x : ℕ) where
  pub before_has : (i k : ℕ) → start ≤ k → k < i → x ∈ bound_at ws k → x ∈ bound_before ws start i
  before_has zero k low high m = absurd (omega arith)
  before_has (suc i) k low high m =
      rw (before_step ws start i (omega arith)) (
      elim (which (eqb k i)) [
        | inl t ↦ let e : k ≡ i = eqb-true k i t in Memᴰ.append_right (bound_before ws start i) (rw e at m)
        | inr t ↦ Memᴰ.append_left (bound_at ws i) (before_has i k low (omega (arith, lt_of_ne k i (omega arith) (eqb-false k i t))) m)
      ])

  later : (i : ℕ) → Earlier ws start i x → Earlier ws start (suc i) x
  later i b = record { binder = b.binder; from = b.from; upto = omega (arith, b.upto); binds = b.binds }

  pub before_from : (i : ℕ) → x ∈ bound_before ws start i → Earlier ws start i x
  unfolding bound_before
  before_from zero m = absurd (Memᴰ.not-nil m)
  before_from (suc i) m =
      elim (which (leb start i)) [
        | inl t ↦
            elim (Memᴰ.append_cases (bound_before ws start i) (rw (before_step ws start i (leb-true start i t)) at m)) [
              | inl n ↦ later i (before_from i n)
              | inr n ↦ record { binder = i; from = leb-true start i t; upto = omega arith; binds = n }
            ]
        | inr t ↦ absurd (Memᴰ.not-nil (rw (t, bound_before) at m))
      ]

-- ---- the rule that a construct stands in

module _ {ws : List ℕ} (l : Laid ws) where
  -- a construct of rule r passes rule r's test
  inside : (r i : ℕ) → body ws r ≤ i → i < rule_end ws r 0 → (leb (body ws r) i && ltb i (rule_end ws r 0)) ≡ true
  inside r i low high = rw (le-leb (body ws r) i low, lt-ltb i (rule_end ws r 0) high)

  start_in : (n r i : ℕ) → n ≤ rule_count ws → r < n → body ws r ≤ i → i < rule_end ws r 0 → rule_start n ws i ≡ body ws r
  unfolding rule_start
  start_in zero r i most h low high = absurd (omega arith)
  start_in (suc q) r i most h low high =
      let L : Bool = leb (body ws q) i
      in let H : Bool = ltb i (rule_end ws q 0)
      in picked (λ (s : ℕ). s ≡ body ws r) (L && H)
      (λ t. ap (body ws) (one_rule l q r i (omega arith) (omega arith) (leb-true (body ws q) i (both_first L H t)) (ltb-true i (rule_end ws q 0) (both_second L H t)) low high))
      (λ t. start_in q r i (omega arith) (omega (arith, lt_of_ne r q (omega arith) (λ e. let p : (L && H) ≡ true = rw e at (inside r i low high) in let z : ◌≡◌ {A = ℕ} 0 1 = cc in omega arith))) low high)

  start_none : (n i : ℕ) → n ≤ rule_count ws → construct_count ws ≤ i → rule_start n ws i ≡ i
  unfolding rule_start
  start_none zero i most past = refl
  start_none (suc q) i most past =
      let L : Bool = leb (body ws q) i
      in let H : Bool = ltb i (rule_end ws q 0)
      in picked (λ (s : ℕ). s ≡ i) (L && H)
      (λ t. let high : i < rule_end ws q 0 = ltb-true i (rule_end ws q 0) (both_second L H t) in absurd (omega (arith, rule_within l q (omega arith))))
      (λ t. start_none q i (omega arith) past)

  pub seen_in : (r i : ℕ) → r < rule_count ws → body ws r ≤ i → i < rule_end ws r 0 → seen_at ws i ≡ 0 ∷ bound_before ws (body ws r) i
  seen_in r i h low high = ap (λ (s : ℕ). 0 ∷ bound_before ws s i) (start_in (rule_count ws) r i (omega arith) h low high)

  pub seen_outside : (i : ℕ) → construct_count ws ≤ i → seen_at ws i ≡ 0 ∷ []
  seen_outside i past = ap (λ (s : ℕ). 0 ∷ bound_before ws s i) (start_none (rule_count ws) i (omega arith) past) ∙ ap (λ (xs : List ℕ). 0 ∷ xs) (before_none ws i i (omega arith))

  pub seen_first : (r : ℕ) → r < rule_count ws → body ws r < rule_end ws r 0 → seen_at ws (body ws r) ≡ 0 ∷ []
  seen_first r h some = seen_in r (body ws r) h (omega arith) some ∙ ap (λ (xs : List ℕ). 0 ∷ xs) (before_none ws (body ws r) (body ws r) (omega arith))
