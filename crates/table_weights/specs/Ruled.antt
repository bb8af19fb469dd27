-- What of a well laid out table the laws of weight and room rest on: how its rules and constructs lie (docs/TABLE.md).
-- Assumes nothing.
use Rattle.std.specs.Prelude.{ℕ, ◌+◌, ◌≤◌, ◌<◌, ◌≡◌, List}
use Rattle.basis.specs.Limits.{max_rules, max_constructs}
use Rattle.table_layout.specs.Places.{rule_count, construct_count}
use Rattle.table_layout.specs.Constructs.{construct_at}
use Rattle.table_layout.specs.Attributes.{attributes_of}
use Rattle.table_layout.specs.Held.{size_of}
use Rattle.table_layout.specs.declared.Construct.{Construct}
use Rattle.table_layout.specs.declared.Below.{Below}
use Rattle.table_reach.specs.Reaching.{body_of, rule_end}

-- how many constructs construct i is; 0 where it is missing
abbrev pub size_at : List ℕ → ℕ → ℕ
size_at ws i = size_of (construct_at ws i)

-- constructs from number j on, one after the other, up to number `end`
pub data Tiles (ws : List ℕ) (end : ℕ) : ℕ → Type 0 where
  done : {j : ℕ} → j ≡ end → Tiles ws end j
  more : {j : ℕ} → 1 ≤ size_at ws j → Tiles ws end (j + size_at ws j) → Tiles ws end j

-- what construct i of a size has below it: its parts fill it, a repetition has one; a use names one of the rules
abbrev pub FilledBelow : List ℕ → ℕ → ℕ → ℕ → Below → Type 0
FilledBelow ws i size rule Below.Nothing = Unit {0}
FilledBelow ws i size rule Below.Branches = Tiles ws (i + size) (i + 1)
FilledBelow ws i size rule Below.Members = Tiles ws (i + size) (i + 1)
FilledBelow ws i size rule (Below.Body passes) = (1 ≤ size_at ws (i + 1)) × (i + 1 + size_at ws (i + 1) ≡ i + size)
FilledBelow ws i size rule Below.Cases = Tiles ws (i + size) (i + 1)
FilledBelow ws i size rule Below.Rule = rule < rule_count ws

abbrev pub Filled : List ℕ → ℕ → Construct → Type 0
Filled ws i c = FilledBelow ws i (size_of c) (attributes_of c).rule (attributes_of c).below

-- all that the laws of weight and room ask
pub record Ruled (ws : List ℕ) : Type 0 where
  -- "64 rules, 256 constructs"
  pub some_rule : 1 ≤ rule_count ws
  pub rules_most : rule_count ws ≤ max_rules
  pub constructs_most : construct_count ws ≤ max_constructs
  -- "Rule 0 is the start rule, its body is construct 0"; "The constructs of rule r + 1 follow those of rule r"
  pub first_body : body_of ws 0 ≡ 0
  pub body_there : (r : ℕ) → r < rule_count ws → body_of ws r < construct_count ws
  pub body_whole : (r : ℕ) → r < rule_count ws → body_of ws r + size_at ws (body_of ws r) ≡ rule_end ws r
  -- the constructs that there are, and none after them
  pub filled : (i : ℕ) → i < construct_count ws → Filled ws i (construct_at ws i)
  pub none_after : (i : ℕ) → construct_count ws ≤ i → construct_at ws i ≡ Construct.Missing
