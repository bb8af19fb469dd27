-- When two grammars are compared by what a derivation or a run can meet: at values with a property, which both begin with and which every node keeps.
-- Assumes nothing.
use Prim.Native.Nat.{ℕ}
use mathlib.Core.Path.{◌≡◌, sym, subst}
use Rattle.theory.specs.Grammar.{Grammar}
use Rattle.tree_meaning.proofs.Agreeing.{SameNode, same_back}

-- the same nodes at values with P, and the same beginning, which has it
pub record SameNodes {Context Values : Type 0} (P : Values → Type 0) (g h : Grammar Context Values) : Type 0 where
  pub nodes : (i : ℕ) → SameNode P (g.node i) (h.node i)
  pub starts : g.start ≡ h.start
  pub contexts : g.context ≡ h.context
  pub values_same : g.values ≡ h.values
  pub begins : P g.values

-- whichever comes first
pub grammar_back : {Context Values : Type 0} {P : Values → Type 0} {g h : Grammar Context Values} → SameNodes P g h → SameNodes P h g
grammar_back {P = P} s =
    record { nodes = λ i. same_back P (s.nodes i); starts = sym s.starts; contexts = sym s.contexts; values_same = sym s.values_same; begins = subst P s.values_same s.begins }
