-- The rules: whose constructs and variables are whose, and which variables a construct may use.
-- Assumes nothing.
use Rattle.std.specs.Prelude.{ℕ, ◌+◌, ◌*◌, ◌-◌, Bool, true, false, cond, ◌&&◌, List, leb, ltb, eqb}
use Rattle.term_words.specs.Words.{term_at}
use Rattle.term_words.specs.declared.Operation.{Operation}
use Rattle.term_words.specs.declared.Term.{Term}
use Rattle.table_layout.specs.Places.{word, variables_at, rule_count, variable_count, rule_word, variable_word, construct_word}
use Rattle.table_layout.specs.Constructs.{construct_at}
use Rattle.table_layout.specs.Attributes.{attributes_of}
use Rattle.table_layout.specs.Held.{term_words}
use Rattle.table_layout.specs.declared.Construct.{Construct}
use Rattle.table_layout.specs.declared.Below.{Below}
use Rattle.table_wellformed.specs.Checks.{from_to, all_zero, size_at, walk}
use Rattle.table_wellformed.specs.Parts.{unconditioned}
use Rattle.table_wellformed.specs.Lists.{own_start, own_end}

-- the construct that is a rule's body
abbrev pub body : List ℕ → ℕ → ℕ
body ws r = rule_word ws r 0

-- where the constructs (k = 0) or the variables (k = 1) of rule r end: where those of the next begin, or at their number
abbrev pub rule_end : List ℕ → ℕ → ℕ → ℕ
rule_end ws r k = cond (ltb (r + 1) (rule_count ws)) (rule_word ws (r + 1) k) (word ws (2 + k))

-- "the constructs of rule r + 1 follow those of rule r", and its variables likewise; a body is no case of a switch
abbrev pub rule_laid : List ℕ → ℕ → Bool
rule_laid ws r =
    (ltb (body ws r) (rule_end ws r 0) && eqb (body ws r + size_at ws (body ws r)) (rule_end ws r 0))
    && (eqb (rule_word ws r 1 + rule_word ws r 2) (rule_end ws r 1) && (eqb (rule_word ws r 3) 0 && unconditioned ws (body ws r)))

-- "The first is the start rule": construct 0 is its body, and its variables come first
abbrev pub rules_laid : List ℕ → Bool
rules_laid ws = (eqb (body ws 0) 0 && eqb (rule_word ws 0 1) 0) && from_to 0 (rule_count ws) (rule_laid ws)

-- ---- binders: "the whole body of a rule or a member of its top concatenation, outside any group"

-- 1 + the variable that a construct binds, or 0
abbrev pub binder_of : Construct → ℕ
binder_of c = (attributes_of c).binder

-- a binder's variable names it back
abbrev pub named_back : List ℕ → ℕ → ℕ → Bool
named_back ws i binder = cond (eqb binder 0) true (leb binder (variable_count ws) && eqb (variable_word ws (binder - 1) 0) i)

-- 1 of a sint, else 0
abbrev pub sign_word : Construct → ℕ
sign_word c = cond (attributes_of c).signed 1 0

-- variable x is bound by construct j
abbrev pub variable_laid : List ℕ → ℕ → ℕ → Bool
variable_laid ws x j =
    (eqb (binder_of (construct_at ws j)) (x + 1) && eqb (variable_word ws x 0) j)
    && ((eqb (variable_word ws x 1) (construct_word ws j 2) && eqb (variable_word ws x 2) (sign_word (construct_at ws j))) && all_zero ws (variables_at + 4 * x + 3) (variables_at + 4 * x + 4))

-- construct j is a binder
abbrev pub binds : List ℕ → ℕ → Bool
binds ws j = ltb 0 (binder_of (construct_at ws j))

-- construct j where the next variable is x: it binds x or none
abbrev pub member_laid : List ℕ → ℕ → ℕ → Bool
member_laid ws j x = cond (binds ws j) (variable_laid ws x j) true

-- the variable that is next after construct j
abbrev pub next_variable : List ℕ → ℕ → ℕ → ℕ
next_variable ws j x = cond (binds ws j) (x + 1) x

-- the constructs from `start` up to `end` bind the variables from `first` up to `last`, in order
abbrev pub binders_from : List ℕ → ℕ → ℕ → ℕ → ℕ → Bool
binders_from ws start end first last = walk (end - start) ws (member_laid ws) (next_variable ws) (λ j x. eqb x last) end start first

-- a body may be a "top concatenation", whose members may bind
abbrev pub has_members : Below → Bool
has_members Below.Nothing = false
has_members Below.Branches = false
has_members Below.Members = true
has_members (Below.Body passes) = false
has_members Below.Cases = false
has_members Below.Rule = false

abbrev pub is_concatenation : Construct → Bool
is_concatenation c = has_members (attributes_of c).below

-- the first of the constructs that may bind: the first member of the top concatenation, or the body
abbrev pub members_at : List ℕ → ℕ → ℕ
members_at ws r = cond (is_concatenation (construct_at ws (body ws r))) (body ws r + 1) (body ws r)

-- the variables of rule r are bound there, in order, and nowhere else in it
abbrev pub binders_laid : List ℕ → ℕ → Bool
binders_laid ws r = binders_from ws (members_at ws r) (rule_end ws r 0) (rule_word ws r 1) (rule_end ws r 1)

-- ---- uses (refusal 6): "Variables are local to a rule ...; uses stand in later members."

-- construct i of a rule with the variables from `first` up to `last` may use y: it is one of them and bound before i
abbrev pub visible : List ℕ → ℕ → ℕ → ℕ → ℕ → Bool
visible ws first last i y = ltb y last && (leb first y && ltb (variable_word ws y 0) i)

-- only a variable's use names something
abbrev pub operation_named : List ℕ → ℕ → ℕ → ℕ → Operation → Bool
operation_named ws first last i (Operation.Number n) = true
operation_named ws first last i (Operation.Variable y) = visible ws first last i y
operation_named ws first last i Operation.Add = true
operation_named ws first last i Operation.Subtract = true
operation_named ws first last i Operation.Multiply = true
operation_named ws first last i Operation.Negate = true
operation_named ws first last i Operation.Unknown = true

-- the same of a term
abbrev pub term_named : List ℕ → ℕ → ℕ → ℕ → Term → Bool
term_named ws first last i (Term.Part o) = operation_named ws first last i o
term_named ws first last i (Term.Single o) = operation_named ws first last i o
term_named ws first last i Term.All = true
term_named ws first last i Term.Range = true
term_named ws first last i Term.From = true
term_named ws first last i Term.UpTo = true
term_named ws first last i Term.Or = true
term_named ws first last i Term.Except = true
term_named ws first last i Term.And = true
term_named ws first last i (Term.Compare k) = true
term_named ws first last i Term.Bad = true

-- the terms from `start` up to `end`
abbrev pub list_named : List ℕ → ℕ → ℕ → ℕ → ℕ → ℕ → Bool
list_named ws first last i start end = from_to start end (λ t. term_named ws first last i (term_at (term_words ws) t))

-- the terms of its condition, and its own
abbrev pub construct_named : List ℕ → ℕ → ℕ → ℕ → Bool
construct_named ws first last i =
    list_named ws first last i (construct_word ws i 6) (construct_word ws i 7) && list_named ws first last i (own_start (construct_at ws i)) (own_end (construct_at ws i))

-- every construct of rule r names only what is visible there
abbrev pub uses_laid : List ℕ → ℕ → Bool
uses_laid ws r = from_to (body ws r) (rule_end ws r 0) (construct_named ws (rule_word ws r 1) (rule_end ws r 1))

-- "name unknown, double, reserved, misplaced or of the wrong kind" (6), as far as words have names
abbrev pub names_laid : List ℕ → Bool
names_laid ws = from_to 0 (rule_count ws) (λ r. binders_laid ws r && uses_laid ws r)
