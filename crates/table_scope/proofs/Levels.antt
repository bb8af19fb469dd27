-- A construct's parts see what it sees; of a concatenation, what its members before them bind too.
-- Assumes nothing.
use Prim.Native.Nat.{ℕ, zero, suc, ◌+◌, ◌-◌, ◌≤◌, ◌<◌}
use mathlib.Core.Path.{◌≡◌, refl, sym, subst, ap, ◌∙◌}
use mathlib.Core.Logic.{inl, inr}
use mathlib.Core.Bool.{Bool}
use mathlib.Core.List.Memᴰ
use mathlib.Core.List.{List, [], ◌∷◌, ◌++◌}
use native.Mathlib.Omega.{arith}
use borrow.Author.Tests.{eqb-true, eqb-false}
use lib.Dec.{eqb}
use Rattle.basis.proofs.Booleans.{which, picked}
use Rattle.theory.specs.Grammar.{◌∈◌}
use Rattle.theory.specs.Scope.{Chain}
use Rattle.table_layout.specs.Places.{rule_count, construct_count}
use Rattle.table_layout.specs.Constructs.{construct_at}
use Rattle.table_wellformed.specs.Checks.{size_at}
use Rattle.table_wellformed.specs.Rules.{body, rule_end, binder_of, is_concatenation, members_at}
use Rattle.table_structure.proofs.Tiles.{Tiles, none, more, within, tile_end}
use Rattle.table_structure.proofs.Facts.{Laid, lt_of_ne}
use Rattle.table_structure.proofs.RuleLaws.{rule_of, rule_within}
use Rattle.table_structure.proofs.Owners.{one_rule}
use Rattle.table_structure.proofs.Binding.{top_members, members_of, members_tile, top_binder}
use Rattle.table_structure.proofs.Inside.{quiet}
use Rattle.table_scope.specs.Scope.{bound_by, bound_at, bound_before, seen_at, scope_of}
use Rattle.table_scope.proofs.Seen.{before_step, before_quiet, seen_in}

-- construct i stands in rule r
pub record Stands (ws : List ℕ) (r i : ℕ) : Type 0 where
  pub exists : r < rule_count ws
  pub begins : body ws r ≤ i
  pub ends : i < rule_end ws r 0

silent : (n : ℕ) → (0 < n → ⊥) → bound_by n ≡ []
silent zero h = refl
silent (suc x) h = absurd (h (omega arith))

module _ {ws : List ℕ} (l : Laid ws) where
  pub stands : (i : ℕ) (h : i < construct_count ws) → Stands ws (rule_of l i h).rule i
  stands i h = let r = rule_of l i h in record { exists = r.exists; begins = r.begins; ends = r.ends }

  pub stands_within : (r i : ℕ) → Stands ws r i → i < construct_count ws
  stands_within r i s = omega (arith, rule_within l r s.exists, s.ends)

  pub one_of : (r q i : ℕ) → Stands ws r i → Stands ws q i → r ≡ q
  one_of r q i a b = one_rule l r q i a.exists b.exists a.begins a.ends b.begins b.ends

  -- what may bind stands in its rule
  pub member_stands : (r k : ℕ) → r < rule_count ws → k ∈ members_of ws r → Stands ws r k
  member_stands r k h m =
      let w = within (members_tile l r h) m
      in let first : body ws r ≤ members_at ws r = picked (λ (j : ℕ). body ws r ≤ j) (is_concatenation (construct_at ws (body ws r))) (λ e. omega arith) (λ e. omega arith)
      in record { exists = h; begins = omega (arith, w.after); ends = omega (arith, w.sized, w.ends) }

  -- where a rule's body is no concatenation, it alone binds
  sole : (r k : ℕ) → Stands ws r k → members_of ws r ≡ body ws r ∷ [] → body ws r < k → bound_at ws k ≡ []
  sole r k s e low =
      silent (binder_of (construct_at ws k)) (λ b.
      let t = top_binder l k (stands_within r k s) b
      in let same : t.own.rule ≡ r = one_of t.own.rule r k (member_stands t.own.rule k t.own.exists t.member) s
      in let at : k ≡ body ws r = Memᴰ.eq_of_singleton (rw (same, e) at t.member)
      in omega arith)

  -- nothing strictly within a construct binds that is no rule's body
  inner : (r i k : ℕ) → Stands ws r i → body ws r < i → i < k → k < i + size_at ws i → bound_at ws k ≡ []
  inner r i k s low a b =
      let h : i < construct_count ws = stands_within r i s
      in let same : (rule_of l i h).rule ≡ r = one_of (rule_of l i h).rule r i (stands i h) s
      in let f : body ws (rule_of l i h).rule ≡ body ws r = ap (body ws) same
      in silent (binder_of (construct_at ws k)) (λ c. quiet l i k h (omega arith) a b c)

  -- nothing within a construct binds that is no concatenation and no binder
  hushed : (r i k : ℕ) → Stands ws r i → top_members ws i (construct_at ws i) ≡ i ∷ [] → bound_at ws i ≡ [] → i ≤ k → k < i + size_at ws i → Stands ws r k → bound_at ws k ≡ []
  hushed r i k s top own low high t =
      elim (which (eqb i k)) [
        | inl e ↦ let same : i ≡ k = eqb-true i k e in rw same at own
        | inr e ↦
            let less : i + 1 ≤ k = lt_of_ne i k low (eqb-false i k e)
            in elim (which (eqb (body ws r) i)) [
              | inl f ↦ let same : body ws r ≡ i = eqb-true (body ws r) i f in sole r k t (rw same top) (omega arith)
              | inr f ↦ inner r i k s (omega (arith, lt_of_ne (body ws r) i s.begins (eqb-false (body ws r) i f))) (omega arith) high
            ]
      ]

  -- so all within it sees what it does
  pub level : (r i b : ℕ) → Stands ws r i → top_members ws i (construct_at ws i) ≡ i ∷ [] → bound_at ws i ≡ [] → i < b → b < i + size_at ws i → Stands ws r b → seen_at ws b ≡ seen_at ws i
  level r i b s top own low high t =
      seen_in l r b t.exists t.begins t.ends
      ∙ ap (λ (xs : List ℕ). 0 ∷ xs) (before_quiet ws (body ws r) (b - i) i b (omega arith) s.begins (λ k p q.
      hushed r i k s top own p (omega arith) (record { exists = s.exists; begins = omega (arith, s.begins); ends = omega (arith, t.ends) })))
      ∙ sym (seen_in l r i s.exists s.begins s.ends)

  -- a row of constructs behind a rule's body: each sees what the row's first does, and what the row binds before it
  pub row : (r : ℕ) {check : ℕ → Bool} {end j : ℕ} {js : List ℕ} → Tiles ws check end j js → r < rule_count ws → body ws r < j → end ≤ rule_end ws r 0
      → Chain (scope_of ws) (0 ∷ bound_before ws (body ws r) j) js
  row r (none e) h low high = tt
  row r {end = end} (more {j} {k} {js} some positive c e rest) h low high =
      let ends : k ≤ end = tile_end rest
      in let s : Stands ws r j = record { exists = h; begins = omega arith; ends = omega arith }
      in let next : bound_before ws (body ws r) k ≡ bound_before ws (body ws r) j ++ bound_at ws j =
      before_quiet ws (body ws r) (k - suc j) (suc j) k (omega arith) (omega arith) (λ m p q. inner r j m s low (omega arith) (omega arith))
      ∙ before_step ws (body ws r) j (omega arith)
      in (seen_in l r j h (omega arith) (omega arith), subst (λ (xs : List ℕ). Chain (scope_of ws) (0 ∷ xs) js) next (row r rest h (omega arith) high))

  -- the members of a concatenation
  pub chain : (r i : ℕ) {check : ℕ → Bool} {end : ℕ} {js : List ℕ} → Stands ws r i → bound_at ws i ≡ [] → end ≤ rule_end ws r 0 → Tiles ws check end (i + 1) js
      → Chain (scope_of ws) (seen_at ws i) js
  chain r i {js = js} s own high t =
      let next : bound_before ws (body ws r) (i + 1) ≡ bound_before ws (body ws r) i =
      before_quiet ws (body ws r) 1 i (i + 1) refl s.begins (λ k p q. let e : i ≡ k = omega arith in rw e at own)
      in subst (λ (xs : List ℕ). Chain (scope_of ws) xs js) (ap (λ (xs : List ℕ). 0 ∷ xs) next ∙ sym (seen_in l r i s.exists s.begins s.ends))
      (row r t s.exists (omega (arith, s.begins)) high)
