-- The syntax tree of a text's rules: document 01's "The grammar text we accept", a constructor for each form. Precedence is in the types: a summand is a
-- product, a member a factor. d is how many parentheses and switch brackets are open.
-- Assumes nothing.
use Rattle.std.specs.Prelude.{ℕ, ◌+◌, ◌<◌, ◌≡◌, Bool, false, List, [], ◌∷◌, length}
use Rattle.text_tokens.specs.Names.{is_same}
use Rattle.tree.specs.Lexemes.{Sign, Name, Number, Literal}

-- ---- calculations: "`+ -` from the left, then `*`, then at most one unary minus, no parentheses"

pub data Primary : Type 0 where
  number : Number → Primary
  variable : Name → Primary

pub data Operand : Type 0 where
  plain : Primary → Operand
  opposite : Sign → Primary → Operand

-- what a product has after its first operand
pub data Factors : Type 0 where
  no_factor : Factors
  times : Sign → Operand → Factors → Factors

pub data Product : Type 0 where
  product : Operand → Factors → Product

-- what a sum has after its first product
pub data Summands : Type 0 where
  no_summand : Summands
  plus : Sign → Product → Summands → Summands
  minus : Sign → Product → Summands → Summands

pub data Calculation : Type 0 where
  sum : Product → Summands → Calculation

-- ---- sets: "alternatives of `~`, `a`, `a~b`, `a~`, `~b`, each with at most one `!` and a second item or a set in parentheses after it"

pub data Item : Type 0 where
  everything : Sign → Item
  only : Calculation → Item
  between : Calculation → Sign → Calculation → Item
  from : Calculation → Sign → Item
  up_to_bound : Sign → Calculation → Item

-- a set, or one of its alternatives
pub data SetPart : Type 0 where
  whole : SetPart
  choice : SetPart

pub data Choices : SetPart → ℕ → Type 0 where
  item : {d : ℕ} → Item → Choices choice d
  item_but_item : {d : ℕ} → Item → Sign → Item → Choices choice d
  -- item, `!`, `(`, set, `)`
  item_but_set : {d : ℕ} → d < 16 → Item → Sign → Sign → Choices whole (d + 1) → Sign → Choices choice d
  last_choice : {d : ℕ} → Choices choice d → Choices whole d
  or_choices : {d : ℕ} → Choices choice d → Sign → Choices whole d → Choices whole d

abbrev pub ValueSet : ℕ → Type 0
ValueSet d = Choices whole d

-- ---- counts: "`{n}`, `{a~b}`, `{a~}` or `{~b}`"

pub data Counts : Type 0 where
  exactly : Calculation → Counts
  at_least_count : Calculation → Sign → Counts
  at_most : Sign → Calculation → Counts
  span : Calculation → Sign → Calculation → Counts

-- ---- conditions: "comparisons (`= != < <= > >=`) joined all by `&` or all by `|`; mixing needs parentheses"

pub data Comparison : Type 0 where
  equal : Comparison
  unequal : Comparison
  less : Comparison
  at_most_as : Comparison
  greater : Comparison
  at_least_as : Comparison

-- a condition; one of those that are joined; what is joined by `&`, by `|`
pub data TestPart : Type 0 where
  tests : TestPart
  test : TestPart
  conjuncts : TestPart
  disjuncts : TestPart

pub data Tests : TestPart → ℕ → Type 0 where
  compare : {d : ℕ} → Calculation → Comparison → Sign → Calculation → Tests test d
  test_group : {d : ℕ} → d < 16 → Sign → Tests tests (d + 1) → Sign → Tests test d
  one_test : {d : ℕ} → Tests test d → Tests tests d
  all_of : {d : ℕ} → Tests test d → Sign → Tests conjuncts d → Tests tests d
  any_of : {d : ℕ} → Tests test d → Sign → Tests disjuncts d → Tests tests d
  last_conjunct : {d : ℕ} → Tests test d → Tests conjuncts d
  and_conjuncts : {d : ℕ} → Tests test d → Sign → Tests conjuncts d → Tests conjuncts d
  last_disjunct : {d : ℕ} → Tests test d → Tests disjuncts d
  or_disjuncts : {d : ℕ} → Tests test d → Sign → Tests disjuncts d → Tests disjuncts d

abbrev pub Condition : ℕ → Type 0
Condition d = Tests tests d

-- ---- "Expressions, loosest first (document 001): alternative `|`, concatenation `&`, repetition."

-- "A repetition is `?`, `*`, `+`, `{n}`, …, one to an item"
pub data Mark : Type 0 where
  optional : Sign → Mark
  any_number : Sign → Mark
  one_or_more : Sign → Mark
  -- `{`, counts, `}`
  counted : Sign → Counts → Sign → Mark

-- "eod" is no rule's name
abbrev pub eod_word : List ℕ
eod_word = 101 ∷ 111 ∷ 100 ∷ []

-- a literal of one character
abbrev pub Single : Literal → Type 0
Single l = length l.characters ≡ 1

-- an expression, its branches; a concatenation, its members; an item with its repetition mark, and without; the cases of a switch
pub data Part : Type 0 where
  expression : Part
  concatenation : Part
  factor : Part
  atom : Part
  cases : Part

pub data Tree : Part → ℕ → Type 0 where
  -- "a literal in `"` or `'`"; "`'a'~'z'`, a range of one-character literals"
  literal : {d : ℕ} → Literal → Tree atom d
  range : {d : ℕ} (first : Literal) → Sign → (last : Literal) → Single first → Single last → Tree atom d
  -- "uint(width, set)", signed: "`sint(width, set)`" (Req 10): the word, `(`, width, `,`, set, `)`
  field : {d : ℕ} → (signed : Bool) → d < 16 → Sign → Sign → Number → Sign → ValueSet (d + 1) → Sign → Tree atom d
  -- "uint(width, var(name, set))", or sint: the word, `(`, width, `,`, the word, `(`, name, `,`, set, `)`, `)`
  binder : {d : ℕ} → (signed : Bool) → d + 1 < 16 → Sign → Sign → Number → Sign → Sign → Sign → Name → Sign → ValueSet (d + 1 + 1) → Sign → Sign → Tree atom d
  -- "a rule's name"; "eod"
  rule_use : {d : ℕ} (name : Name) → is_same eod_word name.letters ≡ false → Tree atom d
  eod : {d : ℕ} → Sign → Tree atom d
  -- "Parentheses group"
  group : {d : ℕ} → d < 16 → Sign → Tree expression (d + 1) → Sign → Tree atom d
  -- "a switch `[condition: expression; ... : expression;]`, the default last and optional"
  switch : {d : ℕ} → d < 16 → Sign → Tree cases (d + 1) → Sign → Tree atom d
  -- condition, `:`, expression, `;`, and further cases or the default
  last_case : {d : ℕ} → Condition d → Sign → Tree expression d → Sign → Tree cases d
  case_default : {d : ℕ} → Condition d → Sign → Tree expression d → Sign → Sign → Tree expression d → Sign → Tree cases d
  case_cases : {d : ℕ} → Condition d → Sign → Tree expression d → Sign → Tree cases d → Tree cases d
  once : {d : ℕ} → Tree atom d → Tree factor d
  repeated : {d : ℕ} → Tree atom d → Mark → Tree factor d
  last_member : {d : ℕ} → Tree factor d → Tree concatenation d
  and_members : {d : ℕ} → Tree factor d → Sign → Tree concatenation d → Tree concatenation d
  last_branch : {d : ℕ} → Tree concatenation d → Tree expression d
  or_branches : {d : ℕ} → Tree concatenation d → Sign → Tree expression d → Tree expression d

-- ---- "A rule is `name = expression ;`. The first is the start rule."

pub data Rule : Type 0 where
  rule : Name → Sign → Tree expression 0 → Sign → Rule

pub data Rules : Type 0 where
  last_rule : Rule → Rules
  and_rules : Rule → Rules → Rules
