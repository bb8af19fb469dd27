-- Two grammars whose nodes are the same at values with a property, and that begin alike with such values, have the same derivations.
-- Assumes nothing.
use Prim.Native.Nat.{ℕ}
use mathlib.Core.Path.{subst}
use mathlib.Core.Logic.{◌↔◌}
use mathlib.Core.List.{[]}
use Rattle.basis.specs.Bits.{Bits}
use Rattle.theory.specs.Grammar.{Grammar}
use Rattle.theory.specs.Derivation.{Tree, construct, Derives, Derivation}
use Rattle.theory.specs.Theorems.{Derivable}
use Rattle.tree_meaning.proofs.Agreeing.{same_construct, agree}
use Rattle.tree_agreement.proofs.SameNodes.{SameNodes, grammar_back}

module _ {Context Values : Type 0} {P : Values → Type 0} where
  derivation_agrees : {g h : Grammar Context Values} → SameNodes P g h → (s : Bits) (d : Tree) (v : Values) → Derivation g s d v → Derivation h s d v
  derivation_agrees {g} {h} same s d v x =
      subst (λ (u : Values). Derives h (construct h.start (h.node h.start)) d h.context u s v []) same.values_same
      (subst (λ (c : Context). Derives h (construct h.start (h.node h.start)) d c g.values s v []) same.contexts
      (subst (λ (i : ℕ). Derives h (construct i (h.node i)) d g.context g.values s v []) same.starts
      (agree P g h same.nodes x (same_construct (same.nodes g.start)) same.begins).0))

  -- the same trees, with the same values at the end
  pub same_derivations : {g h : Grammar Context Values} → SameNodes P g h → (s : Bits) (d : Tree) (v : Values) → Derivation g s d v ↔ Derivation h s d v
  same_derivations same s d v = (derivation_agrees same s d v, derivation_agrees (grammar_back same) s d v)

  -- whether there is one
  pub same_derivable : {g h : Grammar Context Values} → SameNodes P g h → (s : Bits) → Derivable g s ↔ Derivable h s
  same_derivable same s =
      (λ x. (x.0, x.1, derivation_agrees same s x.0 x.1 x.2), λ x. (x.0, x.1, derivation_agrees (grammar_back same) s x.0 x.1 x.2))
