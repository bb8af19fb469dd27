-- Variables local to a rule, as the tree has them (`Local`) and as the theory says them of any grammar (`Scope`): the same nodes, where every use opens its rule.
-- And nodes that are the same at values with a property stay so, if values that are all 0 have it.
-- Assumes nothing.
use Prim.Native.Nat.{ℕ}
use mathlib.Core.Path.{◌≡◌, refl, ap}
use mathlib.Core.Bool.{Bool, true}
use lib.IntN.{ℤ, pos}
use lib.ListN.{length, replicate}
use Rattle.theory.specs.Grammar.{alternative, concatenation, repetition, switch, use_of, field, eod}
use Rattle.theory.specs.Scope.{Scope, one_level, local_use, local_node as theory-node, localised}
use Rattle.tree.specs.Tree.{Rules}
use Rattle.tree_meaning.specs.Grammar.{Values, TreeNode, tree_grammar}
use Rattle.tree_meaning.specs.Local.{local_node, local_grammar}
use Rattle.tree_meaning.proofs.Agreeing.{SameNode, same_alternative, same_concatenation, same_repetition, same_switch, same_use, same_field, same_eod}

-- every variable 0
abbrev pub zeros : Values → Values
zeros v = replicate (length v) (pos 0)

module _ (read : Values → ℕ → ℤ) (scope : Scope) where
  -- the theory's node, with one value for each variable and a rule's variables all 0 where it opens
  abbrev pub scoped_node : ℕ → TreeNode → TreeNode
  scoped_node i n = theory-node (one_level read) scope (λ i c v. zeros v) i n

  -- it is the tree's
  pub local_is : (i : ℕ) → scope.opens_rule i ≡ true → (n : TreeNode) → scoped_node i n ≡ local_node n
  unfolding theory-node local_node
  local_is i e (alternative is) = refl
  local_is i e (concatenation is) = refl
  local_is i e (repetition counts static fixed b) = refl
  local_is i e (switch chosen optional is) = refl
  local_is i e (use_of enters opens closes b) = ap (λ (o : Bool). local_use (one_level read) scope (λ i c v. zeros v) o i enters opens closes b) e
  local_is i e (field w admits static binds) = refl
  local_is i e eod = refl

  -- so the theory's grammar of a tree with local variables is the tree's own
  pub local_grammar_is : ((i : ℕ) → scope.opens_rule i ≡ true) → (t : Rules) → localised (one_level read) scope (λ i c v. zeros v) (tree_grammar t) ≡ local_grammar t
  local_grammar_is opens t =
      λ k. record {
        node = λ i. local_is i (opens i) ((tree_grammar t).node i) k;
        start = (tree_grammar t).start;
        context = (tree_grammar t).context;
        values = (tree_grammar t).values;
      }

-- nodes that are the same stay so
pub local_same : (P : Values → Type 0) → ((v : Values) → P v → P (zeros v)) → {n n' : TreeNode} → SameNode P n n' → SameNode P (local_node n) (local_node n')
unfolding local_node
local_same P keeps same_alternative = same_alternative
local_same P keeps same_concatenation = same_concatenation
local_same P keeps (same_repetition e) = same_repetition e
local_same P keeps (same_switch e) = same_switch e
local_same P keeps (same_use o k) = same_use (λ c v p. keeps v p) (λ v v' p q. p)
local_same P keeps (same_field e k) = same_field e k
local_same P keeps same_eod = same_eod
