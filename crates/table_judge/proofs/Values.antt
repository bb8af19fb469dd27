-- Refusal 13: a uint or sint has no variable and no value left exactly where its FIRST set is empty.
-- Assumes nothing.
use Prim.Native.Nat.{ℕ, ◌<◌}
use mathlib.Core.Path.{◌≡◌, refl, sym, subst, ap, ◌∙◌}
use mathlib.Core.Bool.{Bool, true, false, false≢true}
use mathlib.Core.Logic.{inl, inr, ◌↔◌}
use mathlib.Core.List.{List, []}
use native.Mathlib.Omega.{arith}
use lib.IntN.{ℤ}
use lib.ListN.{length}
use Rattle.basis.specs.Limits.{max_constructs}
use Rattle.basis.specs.Bits.{Bits, bits_of}
use Rattle.basis.specs.Patterns.{pattern_value}
use Rattle.basis.specs.Lookahead.{lookahead}
use Rattle.basis.proofs.Booleans.{which}
use Rattle.basis.proofs.Values.{length_bits_of}
use Rattle.term_evaluation.specs.Variables.{has_variable}
use Rattle.theory.specs.Derivation.{construct}
use Rattle.theory.specs.Lookahead.{First}
use Rattle.theory.proofs.Inversion.{first_by}
use Rattle.table_layout.specs.Constructs.{construct_at}
use Rattle.table_layout.specs.Attributes.{attributes_of}
use Rattle.table_layout.specs.Held.{HeldNode, held, node_of, uint_node, terms_of, in_set, in_static_set}
use Rattle.table_layout.specs.declared.Construct.{Construct}
use Rattle.table_layout.proofs.Views.{Operands, operands}
use Rattle.table_first_follow.specs.Rounds.{strings}
use Rattle.table_first_follow.specs.Sets.{FirstSets}
use Rattle.table_first_follow.proofs.HeldLaws.{node_inside}
use Rattle.table_conflicts.specs.Clashes.{NoValueAt}
use Rattle.table_judge.specs.Judged.{Valueless}

module _ (ws first : List ℕ) (fs : FirstSets ws first) (i : ℕ) (h : i < max_constructs) where
  -- the windows of a uint or sint, both ways
  module _ (signed : Bool) (width start end binder : ℕ) (e : construct_at ws i ≡ Construct.Uint signed width start end binder) where
    node_is : (held ws).node i ≡ uint_node ws signed width start end binder
    unfolding node_of
    node_is = node_inside ws i h ∙ ap (node_of ws i) e

    pattern_of : (x : Bits) → strings first i x → (bits : Bits) × (length bits ≡ width) × (in_static_set ws start end (pattern_value signed bits) ≡ true) × (x ≡ lookahead bits)
    pattern_of x s = first_by (held ws) (subst (λ (n : HeldNode). First (held ws) (construct i n) x) node_is (((fs i (omega arith)).strings x).0 s))

    window_of : (s : Bits) → length s ≡ width → in_static_set ws start end (pattern_value signed s) ≡ true → strings first i (lookahead s)
    window_of s l t =
        ((fs i (omega arith)).strings (lookahead s)).1
        (subst (λ (n : HeldNode). First (held ws) (construct i n) (lookahead s)) (sym node_is) (First.of_field s l t refl))

    with_variable : (v : ℤ) → has_variable (terms_of ws start end) ≡ true → in_static_set ws start end v ≡ true
    with_variable v t = rw t refl

    without : (v : ℤ) → has_variable (terms_of ws start end) ≡ false → in_static_set ws start end v ≡ in_set ws start end [] v
    without v t = rw t refl

    no_windows : ((x : Bits) → strings first i x → ⊥) → Valueless ws i
    no_windows none =
        let some_pattern : Bits = bits_of width 0 in
        let free : has_variable (terms_of ws start end) ≡ false =
        elim (which (has_variable (terms_of ws start end))) [ inl t ↦ absurd (none _ (window_of some_pattern (length_bits_of width 0) (with_variable (pattern_value signed some_pattern) t))) | inr t ↦ t ] in
        record {
          signed = signed;
          width = width;
          start = start;
          end = end;
          binder = binder;
          is_uint = e;
          no_variable = free;
          none_left = λ s l. elim (which (in_set ws start end [] (pattern_value signed s))) [ inl t ↦ absurd (none _ (window_of s l (without (pattern_value signed s) free ∙ t))) | inr t ↦ t ];
        }

  windowless : Valueless ws i → (x : Bits) → strings first i x → ⊥
  windowless n x s =
      let b = pattern_of n.signed n.width n.start n.end n.binder n.is_uint x s in
      false≢true (sym (n.none_left b.0 b.1) ∙ sym (without n.signed n.width n.start n.end n.binder n.is_uint (pattern_value n.signed b.0) n.no_variable) ∙ b.2)

  by_operands : {c : Construct} → Operands c → construct_at ws i ≡ c → NoValueAt (strings first) i c ↔ Valueless ws i
  by_operands (Operands.counts size start end) e = ((λ z. absurd z), (λ n. let q = sym e ∙ n.is_uint in let z : ◌≡◌ {A = ℕ} 0 1 = cc in omega arith))
  by_operands (Operands.characters length) e = ((λ z. absurd z), (λ n. let q = sym e ∙ n.is_uint in let z : ◌≡◌ {A = ℕ} 0 1 = cc in omega arith))
  by_operands (Operands.set signed width start end binder) e = (no_windows signed width start end binder e, windowless)
  by_operands {c} (Operands.plain p) e =
      rw p.own ((λ z. absurd z), (λ n. let q = sym p.own ∙ ap (λ (d : Construct). (attributes_of d).own) (sym e ∙ n.is_uint) in let z : ◌≡◌ {A = ℕ} 0 1 = cc in omega arith))

  -- refusal 13: what `no_value` answers
  pub valueless_iff : NoValueAt (strings first) i (construct_at ws i) ↔ Valueless ws i
  valueless_iff = by_operands (operands (construct_at ws i)) refl
