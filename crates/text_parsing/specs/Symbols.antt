-- What may still have to come: the symbols of the grammar of rules. A rule's parts wait on a stack, the next one first. Some symbols carry what is known
-- of the part that they end: d is how many parentheses and brackets are open, p a place, i the number of a part's first node, o the first
-- byte of a calculation, f the number of a list's first term.
-- Assumes nothing.
use Rattle.std.specs.Prelude.{ℕ, Bool}

-- a part of "the form above" that waits
pub data Symbol : Type 0 where
  -- the terminal of a code
  want : ℕ → Symbol
  -- nothing more to read: a term of this tag, place and calculation goes to the list
  sign : ℕ → ℕ → ℕ → Symbol
  -- `(` within depth d
  paren : ℕ → Symbol
  -- calculations
  primary : ℕ → Symbol
  operand : ℕ → Symbol
  factors : ℕ → Symbol
  summands : ℕ → Symbol
  calculation : Symbol
  -- sets
  item : Symbol
  item_tail : Symbol
  -- after `~`: with a calculation and without one it is a term of the one tag or the other
  bound : (some none p : ℕ) → Symbol
  exception : ℕ → Symbol
  excluded : ℕ → Symbol
  alternative : ℕ → Symbol
  alternatives : ℕ → Symbol
  value_set : ℕ → Symbol
  -- counts in braces
  counts : Symbol
  counts_tail : Symbol
  -- conditions
  test : ℕ → Symbol
  comparison : Symbol
  condition : ℕ → Symbol
  joined : ℕ → Symbol
  chain : (code tag d : ℕ) → Symbol
  -- expressions; an atom is a factor without its repetition mark
  atom : ℕ → Symbol
  factor : ℕ → Symbol
  concatenation : ℕ → Symbol
  expression : ℕ → Symbol
  marked : (p i : ℕ) → Symbol
  counts_end : (p i mark f : ℕ) → Symbol
  members : (d p i : ℕ) (many : Bool) → Symbol
  branches : (d p i : ℕ) (many : Bool) → Symbol
  -- ranges of characters
  character_tail : ℕ → Symbol
  last_character : ℕ → Symbol
  -- uint
  width : (d p : ℕ) → Symbol
  field_set : (d p w : ℕ) → Symbol
  bound_name : (d p w : ℕ) → Symbol
  field_end : (p w name how f : ℕ) → Symbol
  -- switches
  colon : (d f : ℕ) → Symbol
  case_end : (i f end : ℕ) → Symbol
  cases : (d p i : ℕ) → Symbol
  switch_end : (p i : ℕ) → Symbol
  -- rules
  rules : (any : Bool) → Symbol
  rule_end : (p i : ℕ) → Symbol
