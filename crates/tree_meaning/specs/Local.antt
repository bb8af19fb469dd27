-- "Variables are local to a rule": the grammar that a tree means, where every use of a rule has variables of its own.
-- Assumes nothing.
use Rattle.std.specs.Prelude.{pos, length, replicate}
use Rattle.theory.specs.Grammar.{alternative, concatenation as sequence, repetition, switch as choice-by, use_of, field as bits_of, eod as frame_end, Grammar}
use Rattle.tree.specs.Tree.{Rules}
use Rattle.tree_meaning.specs.Grammar.{Context, Values, TreeNode, tree_grammar}

-- A use of a rule opens it with all variables 0, whatever they are at the use, and at its end the user's values are as they were. No other
-- construct changes.
unfoldable pub local_node : TreeNode → TreeNode
local_node (alternative is) = alternative is
local_node (sequence is) = sequence is
local_node (repetition counts static fixed body) = repetition counts static fixed body
local_node (choice-by which optional cases) = choice-by which optional cases
local_node (use_of enters opens closes body) = use_of enters (λ c v. replicate (length v) (pos 0)) (λ v v'. v) body
local_node (bits_of width admits static binds) = bits_of width admits static binds
local_node frame_end = frame_end

-- the tree's grammar of such constructs
abbrev pub local_grammar : Rules → Grammar Context Values
local_grammar t =
    record {
      node = λ i. local_node ((tree_grammar t).node i);
      start = (tree_grammar t).start;
      context = (tree_grammar t).context;
      values = (tree_grammar t).values;
    }
