-- Whose part a construct is, of laid out words: each is a rule's body or a part of exactly one construct.
-- Assumes nothing.
use Prim.Native.Nat.{ℕ, zero, suc, ◌+◌, ◌-◌, ◌≤◌, ◌<◌}
use mathlib.Core.Path.{◌≡◌, sym, ap}
use mathlib.Core.Logic.{inl, inr}
use mathlib.Core.List.{List}
use native.Mathlib.Omega.{arith}
use borrow.Author.Tests.{eqb-true, eqb-false, ltb-true, ltb-false}
use lib.Dec.{ltb, eqb}
use Rattle.basis.proofs.Booleans.{which}
use Rattle.theory.specs.Grammar.{◌∈◌}
use Rattle.table_layout.specs.Places.{rule_count, construct_count}
use Rattle.table_layout.specs.Constructs.{construct_at}
use Rattle.table_wellformed.specs.Checks.{size_at}
use Rattle.table_wellformed.specs.Rules.{body, rule_end}
use Rattle.table_structure.proofs.Tiles.{Holds, Apart, same, before, behind, within, apart, covered}
use Rattle.table_structure.proofs.Facts.{Laid, lt_of_ne}
use Rattle.table_structure.proofs.PartLaws.{parts_of}
use Rattle.table_structure.proofs.Tilings.{tiled}
use Rattle.table_structure.proofs.RuleLaws.{rule_of, rule_fact, rules_apart}

-- p is a part of construct o
abbrev pub PartOf : List ℕ → ℕ → ℕ → Type 0
PartOf ws o p = p ∈ parts_of ws o (construct_at ws o)

pub data Owner (ws : List ℕ) (i : ℕ) : Type 0 where
  is_body : (r : ℕ) → r < rule_count ws → i ≡ body ws r → Owner ws i
  is_part : (o : ℕ) → o < i → PartOf ws o i → Owner ws i

module _ {ws : List ℕ} (l : Laid ws) where
  -- a part lies behind its owner and within it
  pub part_within : (o p : ℕ) → o < construct_count ws → PartOf ws o p → (o < p) × (0 < size_at ws p) × (p + size_at ws p ≤ o + size_at ws o)
  part_within o p h m = let w = within (tiled l o h) m in (omega (arith, w.after), w.sized, w.ends)

  pub parts_apart : (o p q : ℕ) → o < construct_count ws → PartOf ws o p → PartOf ws o q → Apart ws p q
  parts_apart o p q h m n = apart (tiled l o h) m n

  -- the part of o that i lies in
  pub part_around : (o i : ℕ) → o < construct_count ws → o < i → i < o + size_at ws o → Holds ws (parts_of ws o (construct_at ws o)) i
  part_around o i h low high = covered (tiled l o h) i (omega arith) high

  -- from a construct around i down to i's owner
  descend : (n o i : ℕ) → i ≤ o + n → o ≤ i → i < construct_count ws → i < o + size_at ws o → (i ≡ o → Owner ws i) → Owner ws i
  descend zero o i room low h high found = found (omega arith)
  descend (suc n) o i room low h high found =
      elim (which (eqb o i)) [
        | inl t ↦ found (sym (eqb-true o i t))
        | inr t ↦
            let deeper : o + 1 ≤ i = lt_of_ne o i low (eqb-false o i t)
            in let around : Holds ws (parts_of ws o (construct_at ws o)) i = part_around o i (omega arith) (omega arith) high
            in let after : o < around.tile = (part_within o around.tile (omega arith) around.listed).0
            in descend n around.tile i (omega arith) around.begins h around.ends (λ e. is_part o (omega arith) (rw (sym e) at around.listed))
      ]

  pub owner : (i : ℕ) → i < construct_count ws → Owner ws i
  owner i h =
      let r = rule_of l i h
      in let e : body ws r.rule + size_at ws (body ws r.rule) ≡ rule_end ws r.rule 0 = (rule_fact l r.rule r.exists).ends
      in descend i (body ws r.rule) i (omega arith) r.begins h (omega (arith, r.ends)) (λ f. is_body r.rule r.exists f)

  -- what begins within a construct ends within it
  pub nested : (n o i : ℕ) → i ≤ o + n → o ≤ i → i < construct_count ws → i < o + size_at ws o → i + size_at ws i ≤ o + size_at ws o
  nested zero o i room low h high = let e : i ≡ o = omega arith in let f : size_at ws i ≡ size_at ws o = ap (size_at ws) e in omega arith
  nested (suc n) o i room low h high =
      elim (which (eqb o i)) [
        | inl t ↦ let e : o ≡ i = eqb-true o i t in let f : size_at ws o ≡ size_at ws i = ap (size_at ws) e in omega arith
        | inr t ↦
            let deeper : o + 1 ≤ i = lt_of_ne o i low (eqb-false o i t)
            in let around : Holds ws (parts_of ws o (construct_at ws o)) i = part_around o i (omega arith) (omega arith) high
            in let after : o < around.tile = (part_within o around.tile (omega arith) around.listed).0
            in let ends : around.tile + size_at ws around.tile ≤ o + size_at ws o = (part_within o around.tile (omega arith) around.listed).2
            in let below : i + size_at ws i ≤ around.tile + size_at ws around.tile = nested n around.tile i (omega arith) around.begins h around.ends
            in omega arith
      ]

  owned_later : (o q i : ℕ) → o < construct_count ws → q < construct_count ws → o < q → PartOf ws o i → PartOf ws q i → ⊥
  owned_later o q i h k lt m n =
      let behind-o = part_within o i h m
      in let behind-q = part_within q i k n
      in let around : Holds ws (parts_of ws o (construct_at ws o)) q = part_around o q h lt (omega (arith, behind-o.2, behind-q.0))
      in let below : q + size_at ws q ≤ around.tile + size_at ws around.tile = nested q around.tile q (omega arith) around.begins k around.ends
      in split q i around.tile around.begins behind-q.0 behind-q.1 behind-q.2 below (parts_apart o around.tile i h around.listed m)
    where
      split : (q i p : ℕ) → p ≤ q → q < i → 0 < size_at ws i → i + size_at ws i ≤ q + size_at ws q → q + size_at ws q ≤ p + size_at ws p → Apart ws p i → ⊥
      split q i p a b s c d (same e) = omega arith
      split q i p a b s c d (before e) = omega arith
      split q i p a b s c d (behind e) = omega arith

  -- "exactly one"
  pub one_owner : (o q i : ℕ) → o < construct_count ws → q < construct_count ws → PartOf ws o i → PartOf ws q i → o ≡ q
  one_owner o q i h k m n =
      elim (which (ltb o q)) [
        | inl t ↦ absurd (owned_later o q i h k (ltb-true o q t) m n)
        | inr t ↦
            elim (which (ltb q o)) [
              | inl s ↦ absurd (owned_later q o i k h (ltb-true q o s) n m)
              | inr s ↦ let a : q ≤ o = ltb-false o q t in let b : o ≤ q = ltb-false q o s in omega arith
            ]
      ]

  -- a construct ends within its rule
  pub rule_holds : (i : ℕ) (h : i < construct_count ws) → i + size_at ws i ≤ rule_end ws (rule_of l i h).rule 0
  rule_holds i h =
      let r = rule_of l i h
      in let e : body ws r.rule + size_at ws (body ws r.rule) ≡ rule_end ws r.rule 0 = (rule_fact l r.rule r.exists).ends
      in let n : i + size_at ws i ≤ body ws r.rule + size_at ws (body ws r.rule) = nested i (body ws r.rule) i (omega arith) r.begins h (omega (arith, r.ends))
      in omega arith

  earlier_rule : (r s : ℕ) → s < rule_count ws → r < s → rule_end ws r 0 ≤ body ws s
  earlier_rule r s h lt = let e : r + 1 + (s - (r + 1)) ≡ s = omega arith in rw e at (rules_apart l (s - (r + 1)) r (omega arith))

  -- a construct has one rule
  pub one_rule : (r s i : ℕ) → r < rule_count ws → s < rule_count ws → body ws r ≤ i → i < rule_end ws r 0 → body ws s ≤ i → i < rule_end ws s 0 → r ≡ s
  one_rule r s i h k a b c d =
      elim (which (ltb r s)) [
        | inl t ↦ absurd (omega (arith, earlier_rule r s k (ltb-true r s t)))
        | inr t ↦
            elim (which (ltb s r)) [
              | inl u ↦ absurd (omega (arith, earlier_rule s r h (ltb-true s r u)))
              | inr u ↦ let x : s ≤ r = ltb-false r s t in let y : r ≤ s = ltb-false s r u in omega arith
            ]
      ]

  -- a rule's body is nobody's part
  pub body_unowned : (r o : ℕ) → r < rule_count ws → o < construct_count ws → PartOf ws o (body ws r) → ⊥
  body_unowned r o h k m =
      let p = part_within o (body ws r) k m
      in let s = rule_of l o k
      in let inside : o + size_at ws o ≤ rule_end ws s.rule 0 = rule_holds o k
      in let own : body ws r < rule_end ws r 0 = (rule_fact l r h).some_construct
      in let e : r ≡ s.rule = one_rule r s.rule (body ws r) h s.exists (omega arith) own (omega (arith, s.begins, p.0)) (omega (arith, p.1, p.2))
      in let f : body ws r ≡ body ws s.rule = ap (body ws) e
      in omega (arith, p.0, s.begins)
