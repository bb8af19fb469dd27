-- Where 6 is not given, the values at the end of every derivation of a text's grammar, and of every part of one, are within their widths. So another grammar
-- whose nodes are the same as the tree's at such values has the same derivations.
-- Assumes nothing.
use Prim.Native.Nat.{ℕ, zero, suc}
use mathlib.Core.Path.{◌≡◌, refl}
use mathlib.Core.Bool.{Bool, true, false, cond}
use mathlib.Core.List.{List, [], ◌∷◌}
use mathlib.Core.Option.{none}
use lib.Dec.{eqb}
use lib.ListN.{get_or}
use Rattle.basis.specs.Bits.{Bits}
use Rattle.theory.specs.Grammar.{alternative}
use Rattle.theory.specs.Derivation.{Tree, Derivation}
use Rattle.tree.specs.Tree.{Rules}
use Rattle.tree_meaning.specs.Pieces.{rules_of, variables_of}
use Rattle.tree_meaning.specs.Names.{rule_names, refusal_6}
use Rattle.tree_meaning.specs.Grammar.{Values, TreeNode, Construct, plain_at, use_node, body_of, variable_of, tree_constructs, construct_numbered, opening, tree_grammar}
use Rattle.tree_meaning.proofs.Passing.{named}
use Rattle.tree_meaning.proofs.Inside.{RulesHeld}
use Rattle.tree_meaning.proofs.Every.{AllNodes, Follows, every_rule}
use Rattle.tree_meaning.proofs.Keeping.{BindingKeeps, all_bindings, text_begins}
use Rattle.tree_meaning.proofs.Agreeing.{SameNode, same_alternative, same_concatenation, same_repetition, same_switch, same_use, same_field, same_eod, same_construct, agree}

-- a construct is the same as itself where it keeps the property
selves : (P : Values → Type 0) (body variable : List ℕ → ℕ) → Follows body variable (λ n. SameNode P n n) (BindingKeeps P variable)
selves P body variable =
    record {
      literals = λ bytes. same_field (λ c v bits p. refl) (λ c v bits e p. p);
      ranges = λ low high. same_field (λ c v bits p. refl) (λ c v bits e p. p);
      fields = λ d signed n x a b. same_field (λ c v bits p. refl) (λ c v bits e p. p);
      binders = λ d signed most n x y placed fits a b keeps. same_field (λ c v bits p. refl) (λ c v bits e p. keeps v bits e p);
      rule_uses = λ x a. same_use (λ c v p. p) (λ v v' p q. q);
      ends = same_eod;
      switches = λ which optional is. same_switch (λ c v p. refl);
      repetitions = λ m i a. same_repetition (λ c v p. refl);
      concatenations = λ is. same_concatenation;
      alternatives = λ is. same_alternative;
    }

-- a property of all constructs of a list, and of the one that stands for those past its end, is one of every number
pub at_every : (R : TreeNode → Type 0) (cs : List Construct) (d : Construct) → AllNodes R cs → R d.node → (k : ℕ) → R (get_or cs k d).node
unfolding AllNodes
at_every R [] d h e k = e
at_every R (c ∷ more) d h e zero = h.0
at_every R (c ∷ more) d h e (suc k) = at_every R more d h.1 e k

-- the values of all variables are within their widths
abbrev pub InText : Rules → Values → Type 0
InText t v = RulesHeld 0 v (rules_of t)

pub text_selves : (t : Rules) → refusal_6 t ≡ none → (i : ℕ) → SameNode (InText t) ((tree_grammar t).node i) ((tree_grammar t).node i)
unfolding tree_grammar
text_selves t e i = chosen (eqb i opening)
  where
    nodes : AllNodes (λ n. SameNode (InText t) n n) (tree_constructs t)
    nodes =
        every_rule (rules_of t) (λ n. SameNode (InText t) n n) (λ b r. BindingKeeps (InText t) (variable_of b (variables_of r))) (λ b r. selves (InText t) (body_of 0 (rules_of t)) (variable_of b (variables_of r))) 0 0 (rules_of t)
        (all_bindings (InText t) (rule_names t) [] (λ v. Unit {0}) 0 (rules_of t) (λ v p. (tt, p)) (λ v q p. p) (λ v k a l q. tt) (named t e))

    chosen : (b : Bool) → SameNode (InText t) (cond b (use_node 0) (construct_numbered t i).node) (cond b (use_node 0) (construct_numbered t i).node)
    chosen true = same_use (λ c v p. p) (λ v v' p q. q)
    chosen false = at_every (λ n. SameNode (InText t) n n) (tree_constructs t) (plain_at 0 (alternative [])) nodes same_alternative i

pub met_within : (t : Rules) → refusal_6 t ≡ none → (s : Bits) (d : Tree) (v : Values) → Derivation (tree_grammar t) s d v → InText t v
met_within t e s d v h =
    (agree (InText t) (tree_grammar t) (tree_grammar t) (text_selves t e) h (same_construct (text_selves t e (tree_grammar t).start)) (text_begins t)).1
