-- The sheet's grammars in which nothing is chosen by what comes next: they have neither a conflict nor an empty body, and their weights.
-- Assumes nothing.
use Prim.Native.Nat.{ℕ, ◌+◌, ◌*◌, ◌≤◌}
use Prim.Native.String.{String}
use mathlib.Core.Path.{◌≡◌, refl, sym}
use mathlib.Core.Bool.{false≢true}
use mathlib.Core.List.{[], ◌∷◌}
use native.Mathlib.Omega.{arith}
use Rattle.basis.specs.Limits.{max_weight}
use Rattle.basis.specs.Bits.{Bits, bits_of}
use Rattle.theory.specs.Lookahead.{Conflict, EmptyBody}
use Rattle.theory.specs.Weight.{Weighs, weigh, sum, largest}
use Rattle.tree.specs.Tree.{Rules}
use Rattle.tree_meaning.specs.Grammar.{Context, first_context, opening, tree_grammar}
use Rattle.tree_meaning.specs.Reaching.{UnreachedAt}
use Rattle.tree_meaning.specs.Rows.{IsEmpty}
use Rattle.tree_meaning.proofs.Unreached.{one_rule_reached}
use Rattle.tree_meaning.proofs.Valued.{AllValued, all_valued}
use Rattle.tree_meaning.proofs.Sheet as trees
use Rattle.sheet.specs.Sheet.{G, K9, K10}
use Rattle.sheet.proofs.Computing.{grammar}
use Rattle.sheet.proofs.Texts.{Formed, formed_G, formed_K9, formed_K10}
use Rattle.sheet.proofs.Stages.{Bounded, bounded_G, bounded_K9, bounded_K10}
use Rattle.sheet.proofs.Grammars.{quiet_as, filled_as, field_first}

-- the text of these rules passes 1 to 13, and the grammar of its tree has this weight
pub record Passing (rules : String) (t : Rules) (weight : ℕ) : Type 0 where
  pub formed : Formed rules t
  pub bounded : Bounded t
  pub no_empty_body : (i : ℕ) → EmptyBody (tree_grammar t) i → ⊥
  pub no_conflict : (i : ℕ) (x : Bits) → Conflict (tree_grammar t) i x → ⊥
  pub weighs : (w : Context → ℕ → ℕ) → Weighs (tree_grammar t) w → w first_context opening ≡ weight
  pub light : weight ≤ max_weight
  pub reached : (p : ℕ) → UnreachedAt t p → ⊥
  pub valued : (i : ℕ) → IsEmpty t i → ⊥

-- a concatenation of a field and `{n}` of another
weigh_counted : (a b c d e : ℕ) → a ≡ 1 + b → b ≡ 1 + (c + (d + 0)) → c ≡ 1 → d ≡ 2 * e + 1 → e ≡ 1 → a ≡ 6
weigh_counted a b c d e p q r s t = omega arith

pub passing_G : Passing G trees.G 6
unfolding grammar trees.G weigh sum AllValued
passing_G =
    record {
      formed = formed_G;
      bounded = bounded_G;
      no_empty_body = filled_as trees.G 4 refl ((((tt, tt), tt), field_first (tree_grammar trees.G) 3 7), tt);
      no_conflict = quiet_as trees.G 4 refl ((((tt, tt), tt), refl), tt);
      weighs = λ w e. weigh_counted (w first_context opening) (w first_context 0) (w first_context 1) (w first_context 2) (w first_context 3) (e first_context opening) (e first_context 0) (e first_context 1) (e first_context 2) (e first_context 3);
      light = omega arith;
      reached = one_rule_reached _;
      valued = all_valued trees.G (λ e. e, (λ e. false≢true (sym (e.1 (bits_of 8 1) refl)), (λ e. e, (λ e. false≢true (sym (e.1 (bits_of 8 0) refl)), tt))));
    }

pub passing_K9 : Passing K9 trees.K9 6
unfolding grammar trees.K9 weigh sum AllValued
passing_K9 =
    record {
      formed = formed_K9;
      bounded = bounded_K9;
      no_empty_body = filled_as trees.K9 4 refl ((((tt, tt), tt), field_first (tree_grammar trees.K9) 3 7), tt);
      no_conflict = quiet_as trees.K9 4 refl ((((tt, tt), tt), refl), tt);
      weighs = λ w e. weigh_counted (w first_context opening) (w first_context 0) (w first_context 1) (w first_context 2) (w first_context 3) (e first_context opening) (e first_context 0) (e first_context 1) (e first_context 2) (e first_context 3);
      light = omega arith;
      reached = one_rule_reached _;
      valued = all_valued trees.K9 (λ e. e, (λ e. false≢true (sym (e.1 (bits_of 8 0) refl)), (λ e. e, (λ e. false≢true (sym (e.1 (bits_of 8 0) refl)), tt))));
    }

weigh_switched : (a b c d e f : ℕ) → a ≡ 1 + b → b ≡ 1 + (c + (d + 0)) → c ≡ 1 → d ≡ 1 + largest (λ (k : ℕ). k) (e ∷ f ∷ []) → e ≡ 1 → f ≡ 1 → a ≡ 5
unfolding largest
weigh_switched a b c d e f p q r s t u = omega arith

pub passing_K10 : Passing K10 trees.K10 5
unfolding grammar trees.K10 weigh sum largest AllValued
passing_K10 =
    record {
      formed = formed_K10;
      bounded = bounded_K10;
      no_empty_body = filled_as trees.K10 5 refl (((((tt, tt), tt), tt), tt), tt);
      no_conflict = quiet_as trees.K10 5 refl (((((tt, tt), tt), tt), tt), tt);
      weighs = λ w e. weigh_switched (w first_context opening) (w first_context 0) (w first_context 1) (w first_context 2) (w first_context 3) (w first_context 4) (e first_context opening) (e first_context 0) (e first_context 1) (e first_context 2) (e first_context 3) (e first_context 4);
      light = omega arith;
      reached = one_rule_reached _;
      valued = all_valued trees.K10 (λ e. e, (λ e. false≢true (sym (e.1 (bits_of 8 0) refl)), (λ e. e, (λ e. e, (λ e. false≢true (sym (e.1 (bits_of 16 0) refl)), tt)))));
    }
