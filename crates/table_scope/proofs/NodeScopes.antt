-- Each construct of well laid out words reads only what it sees, and binds only its own variable.
-- Assumes nothing.
use Prim.Native.Nat.{ℕ, zero, suc, ◌+◌, ◌≤◌, ◌<◌}
use mathlib.Core.Path.{◌≡◌, refl, sym, ap, ◌∙◌}
use mathlib.Core.Logic.{inl, inr}
use mathlib.Core.List.Memᴰ
use mathlib.Core.List.{List, [], ◌∷◌, ◌++◌}
use native.Mathlib.Omega.{arith}
use native.Mathlib.Numerals.{add-one}
use borrow.Author.Tests.{eqb-true, eqb-false, ltb-true, ltb-false}
use lib.Dec.{eqb, ltb}
use lib.IntN.{ℤ, pos}
use lib.ListN.{length, get_or, get_or-eq_default}
use Rattle.basis.specs.Patterns.{pattern_value}
use Rattle.basis.proofs.Booleans.{which}
use Rattle.theory.specs.Grammar.{◌∈◌}
use Rattle.theory.specs.Scope.{Agree, Scoped}
use Rattle.table_layout.specs.Places.{variable_word}
use Rattle.table_layout.specs.Constructs.{construct_at}
use Rattle.table_layout.specs.Held.{first_context, Values, size_of, parts, bound, first_case, node_of}
use Rattle.table_layout.specs.declared.Construct.{Construct}
use Rattle.table_wellformed.specs.Checks.{size_at}
use Rattle.table_wellformed.specs.Rules.{body, rule_end, binder_of}
use Rattle.table_structure.proofs.Facts.{Laid}
use Rattle.table_structure.proofs.PartLaws.{parts_of}
use Rattle.table_structure.proofs.Tilings.{tiled}
use Rattle.table_structure.proofs.Owners.{part_within}
use Rattle.table_structure.proofs.StaticLaw.{case_listed}
use Rattle.table_structure.proofs.Binding.{Bound, Visible, bound_in, top_members}
use Rattle.table_structure.proofs.Agreement.{Agreeing, set_agrees, passes_agree, condition_agrees, case_agrees, bound_length, bound_other, bound_own}
use Rattle.table_scope.specs.Scope.{value_of, store, bound_by, bound_at, seen_at, scope_of}
use Rattle.table_scope.proofs.Seen.{before_has, seen_in}
use Rattle.table_scope.proofs.Levels.{Stands, stands_within, member_stands, level, chain}

-- ---- what a binder does, by names

length_same : (v v' : Values) → value_of v 0 ≡ value_of v' 0 → length v ≡ length v'
length_same v v' e = cc

own_same : (x : ℕ) (v v' : Values) (n : ℤ) → length v ≡ length v' → get_or (bound (suc x) v n) x (pos 0) ≡ get_or (bound (suc x) v' n) x (pos 0)
own_same x v v' n e =
    elim (which (ltb x (length v))) [
      | inl t ↦ let h : x < length v = ltb-true x (length v) t in bound_own x v n h ∙ sym (bound_own x v' n (omega arith))
      | inr t ↦
          let h : length v ≤ x = ltb-false x (length v) t
          in get_or-eq_default (bound (suc x) v n) (pos 0) (omega (arith, bound_length (suc x) v n)) ∙ sym (get_or-eq_default (bound (suc x) v' n) (pos 0) (omega (arith, bound_length (suc x) v' n)))
    ]

-- of two sets of values that agree on xs, a binder's own too
after_binder : (xs : List ℕ) (b : ℕ) (v v' : Values) (n : ℤ) → length v ≡ length v' → Agree store first_context xs v v' → Agree store first_context (xs ++ bound_by b) (bound b v n) (bound b v' n)
after_binder xs zero v v' n e a x m = elim (Memᴰ.append_cases xs m) [ inl k ↦ a x k | inr k ↦ absurd (Memᴰ.not-nil k) ]
after_binder xs (suc y) v v' n e a zero m = ap pos (bound_length (suc y) v n ∙ e ∙ sym (bound_length (suc y) v' n))
after_binder xs (suc y) v v' n e a (suc x) m =
    elim (which (eqb x y)) [
      | inl t ↦ let same : x ≡ y = eqb-true x y t in rw same (own_same y v v' n e)
      | inr t ↦
          let apart : x ≡ y → ⊥ = eqb-false x y t
          in bound_other y v n x apart
          ∙ elim (Memᴰ.append_cases xs m) [ inl k ↦ a (suc x) k | inr k ↦ let f : suc x ≡ suc y = Memᴰ.eq_of_singleton k in absurd (apart (omega arith)) ]
          ∙ sym (bound_other y v' n x apart)
    ]

-- other values stay
others_stay : (b : ℕ) (v : Values) (n : ℤ) (x : ℕ) → (x ∈ bound_by b → ⊥) → value_of (bound b v n) x ≡ value_of v x
others_stay zero v n x h = refl
others_stay (suc y) v n zero h = ap pos (bound_length (suc y) v n)
others_stay (suc y) v n (suc x) h = bound_other y v n x (λ e. h (Memᴰ.head (ap suc e)))

-- ---- what a construct reads

module _ {ws : List ℕ} (l : Laid ws) where
  -- what it may use it sees
  visible_seen : (r i y : ℕ) → Stands ws r i → Visible ws r i y → suc y ∈ seen_at ws i
  visible_seen r i y s p =
      let b : Bound ws _ y = bound_in l r y s.exists p.first p.last
      in let k : ℕ = variable_word ws y 0
      in let e : binder_of (construct_at ws k) ≡ suc y = b.binder ∙ add-one y
      in let own : suc y ∈ bound_at ws k = rw e (Memᴰ.head refl)
      in let from : body ws r ≤ k = (member_stands l r k s.exists b.listed).begins
      in rw (seen_in l r i s.exists s.begins s.ends) (Memᴰ.tail (before_has ws (body ws r) (suc y) i k from p.earlier own))

  pub agreeing : (r i : ℕ) → Stands ws r i → (v v' : Values) → Agree store first_context (seen_at ws i) v v' → Agreeing (Visible ws r i) v v'
  agreeing r i s v v' a = record { lengths = length_same v v' (a 0 (Memᴰ.head refl)); values = λ y p. a (suc y) (visible_seen r i y s p) }

-- ---- a construct by what it is

own_of : (ws : List ℕ) (i : ℕ) (c : Construct) → construct_at ws i ≡ c → bound_at ws i ≡ bound_by (binder_of c)
own_of ws i c e = ap (λ (d : Construct). bound_by (binder_of d)) e

-- a field that binds nothing
unbinding : (ws : List ℕ) (i : ℕ) → bound_at ws i ≡ [] → (v v' : Values) → Agree store first_context (seen_at ws i) v v' → Agree store first_context (seen_at ws i ++ bound_at ws i) v v'
unbinding ws i e v v' a x m = elim (Memᴰ.append_cases (seen_at ws i) m) [ inl k ↦ a x k | inr k ↦ absurd (Memᴰ.not-nil (rw e at k)) ]

module _ {ws : List ℕ} (l : Laid ws) (r i : ℕ) (s : Stands ws r i) (whole : i + size_at ws i ≤ rule_end ws r 0) where
  inside : (c : Construct) → construct_at ws i ≡ c → (b : ℕ) → b ∈ parts_of ws i c → (i < b) × (b < i + size_at ws i) × Stands ws r b
  inside c e b m =
      let w = part_within l i b (stands_within l r i s) (rw e m)
      in (w.0, omega (arith, w.1, w.2), record { exists = s.exists; begins = omega (arith, s.begins, w.0); ends = omega (arith, w.1, w.2) })

  -- a part of what is neither a concatenation nor a binder
  same_seen : (c : Construct) → construct_at ws i ≡ c → top_members ws i c ≡ i ∷ [] → binder_of c ≡ 0 → (b : ℕ) → b ∈ parts_of ws i c → seen_at ws b ≡ seen_at ws i
  same_seen c e top none b m =
      let w = inside c e b m
      in level l r i b s (rw e top) (own_of ws i c e ∙ ap bound_by none) w.0 w.1 w.2

  -- a switch takes its case by what it sees
  choice : (c : Construct) → construct_at ws i ≡ c → top_members ws i c ≡ i ∷ [] → binder_of c ≡ 0 → (v v' : Values) → Agree store first_context (seen_at ws i) v v'
      → first_case ws v (parts_of ws i c) ≡ first_case ws v' (parts_of ws i c)
  choice c e top none v v' a =
      case_agrees ws v v' (parts_of ws i c) (λ b m.
      let t : Stands ws r b = (inside c e b m).2
      in condition_agrees l r b t.exists t.begins t.ends v v' (agreeing l r b t v v' (rw (same_seen c e top none b m) a)))

  pub scoped_by : (c : Construct) → construct_at ws i ≡ c → Scoped store (scope_of ws) i (node_of ws i c)
  unfolding node_of
  scoped_by Construct.Missing e = (own_of ws i Construct.Missing e, λ b m. absurd (Memᴰ.not-nil m))
  scoped_by (Construct.Alternative size) e = (own_of ws i (Construct.Alternative size) e, same_seen (Construct.Alternative size) e refl refl)
  scoped_by (Construct.Concatenation size) e =
      let own : bound_at ws i ≡ [] = own_of ws i (Construct.Concatenation size) e
      in let f : size_at ws i ≡ size = ap size_of e
      in (own, chain l r i s own (omega arith) (rw e at (tiled l i (stands_within l r i s))))
  scoped_by (Construct.Repetition size passes) e = (
    own_of ws i (Construct.Repetition size passes) e,
    same_seen (Construct.Repetition size passes) e refl refl (i + 1) (Memᴰ.head refl),
    λ c v v' a. passes_agree l r i s.exists s.begins s.ends size passes e v v' (agreeing l r i s v v' a),
  )
  scoped_by (Construct.Switch size) e = (
    own_of ws i (Construct.Switch size) e,
    λ c v b h. same_seen (Construct.Switch size) e refl refl b (case_listed ws v (parts size ws (i + 1) (i + size)) b h),
    λ c v v' a. choice (Construct.Switch size) e refl refl v v' a,
  )
  scoped_by (Construct.Use rule) e = (own_of ws i (Construct.Use rule) e, λ c c' v x z h. refl)
  scoped_by (Construct.Literal n) e = (λ c v v' bits a. refl, λ c v v' bits a. unbinding ws i (own_of ws i (Construct.Literal n) e) v v' a, λ c v bits x h. refl, λ c v v' bits p. refl)
  scoped_by (Construct.Range low high) e = (λ c v v' bits a. refl, λ c v v' bits a. unbinding ws i (own_of ws i (Construct.Range low high) e) v v' a, λ c v bits x h. refl, λ c v v' bits p. refl)
  scoped_by (Construct.Uint signed width start end binder) e =
      let own : bound_at ws i ≡ bound_by binder = own_of ws i (Construct.Uint signed width start end binder) e
      in (
        λ c v v' bits a. set_agrees l r i s.exists s.begins s.ends signed width start end binder e v v' (agreeing l r i s v v' a) (pattern_value signed bits),
        λ c v v' bits a. rw own (after_binder (seen_at ws i) binder v v' (pattern_value signed bits) (agreeing l r i s v v' a).lengths a),
        λ c v bits x h. others_stay binder v (pattern_value signed bits) x (λ m. h x (rw own m) refl),
        λ c v v' bits p. refl,
      )
  scoped_by Construct.Eod e = own_of ws i Construct.Eod e
