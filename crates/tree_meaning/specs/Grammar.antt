-- The grammar that a tree means: its constructs "numbered from 0 in text order, the outer before the inner", each with its place.
-- Assumes nothing.
use Rattle.std.specs.Prelude.{ℕ, suc, ◌+◌, ◌*◌, ◌≡◌, Bool, true, false, cond, ◌&&◌, List, [], ◌∷◌, ◌++◌, leb, eqb, ℤ, pos, length, get_or, set, replicate}
use Rattle.std.proofs.Math.Option.{Option, none, some}
use Rattle.basis.specs.Limits.{max_constructs, max_variables}
use Rattle.basis.specs.Bits.{Bits, value as number_of, frame_bits, same}
use Rattle.basis.specs.Patterns.{pattern_value}
use Rattle.basis.specs.Counts.{Counts as Passes, zero_or_one, zero_or_more, one_or_more as one-to-more}
use Rattle.theory.specs.Grammar.{Node, alternative, concatenation as sequence, repetition, switch as choice-by, use_of, field as bits_of, eod as frame_end, Grammar}
use Rattle.text_tokens.specs.Names.{is_same}
use Rattle.tree.specs.Lexemes.{Name, Number}
use Rattle.tree.specs.Tree.{ValueSet, Counts, exactly, at_least_count, at_most, span, Mark, optional, any_number, one_or_more, counted, expression, concatenation, cases, Part, Tree, literal, range, field, binder, rule_use, eod, group, switch, last_case, case_default, case_cases, once, repeated, last_member, and_members, last_branch, or_branches, Rule, Rules}
use Rattle.tree.specs.Spelling.{spell, spell_mark}
use Rattle.tree_meaning.specs.Places.{first_byte}
use Rattle.tree_meaning.specs.Values.{Environment, in_set, passes_in, is_true}
use Rattle.tree_meaning.specs.Pieces.{Component, set_parts, counts_parts, terms_of, uses_in, rules_of, rule_name, rule_body, variables_of}
use Rattle.tree_meaning.specs.Counted.{constructs, rule_constructs}

-- what a pending entry carries: nothing
abbrev pub Context : Type 0
Context = Unit {0}

abbrev pub first_context : Context
first_context = tt

-- the values of the 64 variables, 0 before a binding
abbrev pub Values : Type 0
Values = List ℤ

abbrev pub TreeNode : Type 0
TreeNode = Node Context Values

-- a uint's or sint's width and set
pub record Uint : Type 0 where
  pub signed : Bool
  pub width : Number
  pub depth : ℕ
  pub values : ValueSet depth

-- a construct: "its first byte, parentheses around the whole of it left out", a repetition's mark (0 of others), a uint's width and set (none of others), and what
-- it means
pub record Construct : Type 0 where
  pub place : ℕ
  pub mark : ℕ
  pub uint : Option Uint
  pub node : TreeNode

-- without a mark, and no uint
abbrev pub plain_at : ℕ → TreeNode → Construct
plain_at p n = record { place = p; mark = 0; uint = none; node = n }

-- a uint, or a sint
abbrev pub uint_at : {d : ℕ} → ℕ → Bool → Number → ValueSet d → TreeNode → Construct
uint_at {d} p signed n x node = record { place = p; mark = 0; uint = some (record { signed = signed; width = n; depth = d; values = x }); node = node }

-- ---- fields and rules

-- "8 bits a character": these bits and no others
abbrev pub literal_node : List ℕ → TreeNode
literal_node bytes = bits_of (λ bits. 8 * length bytes) (λ c v bits. same bits (frame_bits bytes)) (λ bits. same bits (frame_bits bytes)) (λ c v bits. v)

-- "a range of one-character literals": 8 bits, a number from the one character to the other
abbrev pub range_node : ℕ → ℕ → TreeNode
range_node low high =
    bits_of (λ bits. 8) (λ c v bits. leb low (number_of bits) && leb (number_of bits) high) (λ bits. leb low (number_of bits) && leb (number_of bits) high) (λ c v bits. v)

-- a use of the rule whose body is this construct: "Values stay as last bound". That variables are local to a rule is said by `local_grammar` (`Local`).
abbrev pub use_node : ℕ → TreeNode
use_node body = use_of (λ c. some c) (λ c v. v) (λ v v'. v') body

-- a variable stands in it
abbrev pub any_name : List Name → Bool
any_name [] = false
any_name (x ∷ more) = true

abbrev pub mentions_variable : List Component → Bool
mentions_variable f = any_name (uses_in (terms_of f))

-- written `{n}`
abbrev pub is_exact_count : Counts → Bool
is_exact_count (exactly n) = true
is_exact_count (at_least_count a s) = false
is_exact_count (at_most s b) = false
is_exact_count (span a s b) = false

-- ---- numbers of parts: those of a chain or of a switch, the first of which is number i

unfoldable pub members : {d : ℕ} → ℕ → Tree concatenation d → List ℕ
members i (last_member x) = i ∷ []
members i (and_members x s more) = i ∷ members (i + constructs false x) more

unfoldable pub branches : {d : ℕ} → ℕ → Tree expression d → List ℕ
branches i (last_branch x) = i ∷ []
branches i (or_branches x s more) = i ∷ branches (i + constructs false x) more

unfoldable pub case_bodies : {d : ℕ} → ℕ → Tree cases d → List ℕ
case_bodies i (last_case c colon x end) = i ∷ []
case_bodies i (case_default c colon x end colon' y end') = i ∷ (i + constructs false x) ∷ []
case_bodies i (case_cases c colon x end more) = i ∷ case_bodies (i + constructs false x) more

-- `variable`: a variable's number, by its letters
module _ (variable : List ℕ → ℕ) where
  abbrev pub values_at : Values → Environment
  values_at v x = get_or v (variable x) (pos 0)

  -- ---- "uint(width, set)": "Values below 0 or above the width drop out silently", since so many bits have no others; "`sint(width, set)` in two's complement, … its set
  -- running from the least to the greatest value of the width, negative values included, and its value bound with its sign" (Req 10)

  -- "a set with a variable counting as `~`" where no values are known; `binds`: the values after it
  abbrev pub uint_node : {d : ℕ} → Bool → Number → ValueSet d → (binds : Values → ℤ → Values) → TreeNode
  uint_node signed n x binds =
      bits_of (λ bits. n.value) (λ c v bits. in_set (values_at v) x (pattern_value signed bits)) (λ bits. cond (mentions_variable (set_parts x)) true (in_set (values_at []) x (pattern_value signed bits)))
      (λ c v bits. binds v (pattern_value signed bits))

  -- ---- repetitions: `?`, `*`, `+`, or counts

  abbrev pub mark_passes : Mark → Values → Passes
  mark_passes (optional s) v = zero_or_one
  mark_passes (any_number s) v = zero_or_more
  mark_passes (one_or_more s) v = one-to-more
  mark_passes (counted opens n closes) v = passes_in (values_at v) n

  -- "counts with a variable allowing all"
  abbrev pub mark_static : Mark → Passes
  mark_static (optional s) = zero_or_one
  mark_static (any_number s) = zero_or_more
  mark_static (one_or_more s) = one-to-more
  mark_static (counted opens n closes) = cond (mentions_variable (counts_parts n)) zero_or_more (passes_in (values_at []) n)

  abbrev pub mark_exact : Mark → Bool
  mark_exact (optional s) = false
  mark_exact (any_number s) = false
  mark_exact (one_or_more s) = false
  mark_exact (counted opens n closes) = is_exact_count n

  -- the repetition of construct i
  abbrev pub repetition_node : Mark → ℕ → TreeNode
  repetition_node m i = repetition (λ c v. mark_passes m v) (mark_static m) (mark_exact m) i

  -- ---- "A switch takes its first true case, else the default": the body of the first case is number i

  unfoldable pub chosen : {d : ℕ} → ℕ → Tree cases d → Values → Option ℕ
  chosen i (last_case c colon x end) v = cond (is_true (values_at v) c) (some i) none
  chosen i (case_default c colon x end colon' y end') v = cond (is_true (values_at v) c) (some i) (some (i + constructs false x))
  chosen i (case_cases c colon x end more) v = cond (is_true (values_at v) c) (some i) (chosen (i + constructs false x) more v)

-- "no default": then "a switch of bits with no true case … takes no bits and goes on" (Req 02)
unfoldable pub no_default : {d : ℕ} → Tree cases d → Bool
no_default (last_case c colon x end) = true
no_default (case_default c colon x end colon' y end') = false
no_default (case_cases c colon x end more) = no_default more

-- all constructs of a tree, the first of which is number i; `begun` as in `constructs`, `body`: the number of a rule's body, by its letters
module _ (body variable : List ℕ → ℕ) where
  unfoldable pub constructs_of : {p : Part} {d : ℕ} → (begun : Bool) → (i : ℕ) → Tree p d → List Construct
  constructs_of begun i (literal l) = plain_at l.start (literal_node l.characters) ∷ []
  constructs_of begun i (range a s b one one') = plain_at a.start (range_node (get_or a.characters 0 0) (get_or b.characters 0 0)) ∷ []
  constructs_of begun i (field signed depth u opens n comma x closes) = uint_at u.start signed n x (uint_node variable signed n x (λ v k. v)) ∷ []
  constructs_of begun i (binder signed depth u opens n comma v opens' x comma' y closes closes') =
      uint_at u.start signed n y (uint_node variable signed n y (λ v k. set v (variable x.letters) k)) ∷ []
  constructs_of begun i (rule_use x other) = plain_at x.start (use_node (body x.letters)) ∷ []
  constructs_of begun i (eod s) = plain_at s.start frame_end ∷ []
  constructs_of begun i (group depth opens x closes) = constructs_of false i x
  constructs_of begun i (switch depth opens x closes) =
      plain_at opens.start (choice-by (λ c v. chosen variable (suc i) x v) (no_default x) (case_bodies (suc i) x)) ∷ constructs_of false (suc i) x
  constructs_of begun i (last_case c colon x end) = constructs_of false i x
  constructs_of begun i (case_default c colon x end colon' y end') = constructs_of false i x ++ constructs_of false (i + constructs false x) y
  constructs_of begun i (case_cases c colon x end more) = constructs_of false i x ++ constructs_of false (i + constructs false x) more
  constructs_of begun i (once x) = constructs_of false i x
  constructs_of begun i (repeated x m) =
      record { place = first_byte (spell x []); mark = first_byte (spell_mark m []); uint = none; node = repetition_node variable m (suc i) } ∷ constructs_of false (suc i) x
  constructs_of begun i (last_member x) = constructs_of false i x
  constructs_of false i (and_members x s more) =
      plain_at (first_byte (spell x [])) (sequence (members (suc i) (and_members x s more))) ∷ (constructs_of false (suc i) x ++ constructs_of true (suc i + constructs false x) more)
  constructs_of true i (and_members x s more) = constructs_of false i x ++ constructs_of true (i + constructs false x) more
  constructs_of begun i (last_branch x) = constructs_of false i x
  constructs_of false i (or_branches x s more) =
      plain_at (first_byte (spell x [])) (alternative (branches (suc i) (or_branches x s more))) ∷ (constructs_of false (suc i) x ++ constructs_of true (suc i + constructs false x) more)
  constructs_of true i (or_branches x s more) = constructs_of false i x ++ constructs_of true (i + constructs false x) more

-- ---- all rules

-- the body of the first rule of a name, of rules whose first body is number i
unfoldable pub body_of : ℕ → List Rule → List ℕ → ℕ
body_of i [] x = i
body_of i (r ∷ more) x = cond (is_same (rule_name r).letters x) i (body_of (i + rule_constructs r) more x)

-- the number of a variable among these, the first of which is number b
unfoldable pub variable_of : ℕ → List Name → List ℕ → ℕ
variable_of b [] x = b
variable_of b (y ∷ more) x = cond (is_same y.letters x) b (variable_of (suc b) more x)

-- of these rules of all; constructs from number i on, variables from number b on
unfoldable pub rules_constructs : (all : List Rule) → (i b : ℕ) → List Rule → List Construct
rules_constructs all i b [] = []
rules_constructs all i b (r ∷ more) =
    constructs_of (body_of 0 all) (variable_of b (variables_of r)) false i (rule_body r) ++ rules_constructs all (i + rule_constructs r) (b + length (variables_of r)) more

abbrev pub tree_constructs : Rules → List Construct
tree_constructs t = rules_constructs (rules_of t) 0 0 (rules_of t)

-- beyond the last nothing derives (but at the number of the opening use, which within the limits is none of theirs)
abbrev pub construct_numbered : Rules → ℕ → Construct
construct_numbered t i = get_or (tree_constructs t) i (plain_at 0 (alternative []))

-- the opening use of the start rule has the first number that no construct has
abbrev pub opening : ℕ
opening = max_constructs

-- "The first is the start rule": its body is number 0
unfoldable pub tree_grammar : Rules → Grammar Context Values
tree_grammar t =
    record {
      node = λ i. cond (eqb i opening) (use_node 0) (construct_numbered t i).node;
      start = opening;
      context = first_context;
      values = replicate max_variables (pos 0);
    }

-- ---- Req 06: "a uint whose set has no variable and no value left"

-- no variable stands in the set, and no pattern of the width has a value that is in it; with no variable, their values do not matter
abbrev pub NoValue : Option Uint → Type 0
NoValue none = ⊥
NoValue (some u) = (mentions_variable (set_parts u.values) ≡ false) × ((s : Bits) → length s ≡ u.width.value → in_set (λ x. pos 0) u.values (pattern_value u.signed s) ≡ false)
