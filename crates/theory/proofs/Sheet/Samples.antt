-- Grammars of document 01's bench sheet as the theory has them, the sets that their runs look up, and what the sheet says of their frames: a witness, which
-- nobody needs to believe, that the hypotheses can be met. Edits of the definitions are tried on it in seconds; crate `sheet` proves the rows of texts.
-- Assumes nothing.
use Prim.Native.Nat.{ℕ, zero, suc, ◌+◌, ◌*◌}
use mathlib.Core.Bool.{Bool, true, false, ◌&&◌}
use mathlib.Core.List.{List, [], ◌∷◌}
use mathlib.Core.Option.{Option, none, some}
use lib.Dec.{leb, eqb}
use lib.IntN.{ℤ, pos, ◌-ℤ◌}
use lib.ListN.{length, get_or}
use Rattle.basis.specs.Bits.{Bits, bits_of, value, frame_bits, same}
use Rattle.basis.specs.Counts.{from, within, exactly}
use Rattle.theory.specs.Grammar.{Node, alternative, concatenation, repetition, switch, use_of, field, Grammar}
use Rattle.theory.specs.Derivation.{Capture}
use Rattle.theory.specs.Scope.{Store, one_level, Scope, Lexical}
use Rattle.theory.specs.Hypotheses.{Hypotheses}
use Rattle.theory.specs.Theorems.{Derivable}
use Rattle.theory.specs.Weight.{Weighs, HasRoom}
use Rattle.theory.specs.Machine.{Tests, state, Verdict, undecided, matched, unmatched, Run, run, opened, granted}

-- the variables' values, by number in text order, 0 before a binding; entries carry nothing
abbrev pub Variables : Type 0
Variables = ℕ → ℕ

-- a variable's value
abbrev pub get : Variables → ℕ → ℕ
get v x = v x

-- no rule reaches itself: one value for each variable
abbrev pub store : Store (Unit {0}) Variables ℕ ℕ (Unit {0})
store = one_level get

-- the values with that of x changed
abbrev pub bind : Variables → ℕ → ℕ → Variables
bind v x n y = elim (eqb y x) [ true ↦ n | false ↦ v y ]

-- nodes and grammars of the sheet
abbrev pub SheetNode : Type 0
SheetNode = Node (Unit {0}) Variables

abbrev pub SheetGrammar : Type 0
SheetGrammar = Grammar (Unit {0}) Variables

-- Numbers. "Constructs … are numbered from 0 in text order, the outer before the inner"; the opening use of the start rule has a number
-- that no construct has.
abbrev pub opening_number : ℕ
opening_number = 256

-- what a number stands for: the opening use, a construct of the list, or neither
unfoldable pub numbered : {A : Type 0} → A → A → List A → ℕ → A
numbered opening neither listed i = elim (eqb i opening_number) [ true ↦ opening | false ↦ get_or listed i neither ]

-- Nodes.

-- "a literal …; 8 bits a character"
abbrev pub literal : List ℕ → SheetNode
literal bytes = field (λ bits. 8 * length bytes) (λ c v bits. same bits (frame_bits bytes)) (λ bits. same bits (frame_bits bytes)) (λ c v bits. v)

-- "`uint(width, set)`, …, most significant bit first", its set without variables
abbrev pub uint : ℕ → (ℕ → Bool) → SheetNode
uint width member = field (λ bits. width) (λ c v bits. member (value bits)) (λ bits. member (value bits)) (λ c v bits. v)

-- "`uint(width, var(name, set))` also binds the value": of the variable numbered x
abbrev pub uint_var : ℕ → ℕ → (ℕ → Bool) → SheetNode
uint_var x width member = field (λ bits. width) (λ c v bits. member (value bits)) (λ bits. member (value bits)) (λ c v bits. bind v x (value bits))

-- the set `~`
abbrev pub any : ℕ → Bool
any n = true

-- the set `n`
abbrev pub only : ℕ → ℕ → Bool
only n k = eqb k n

-- the set `a~b`
abbrev pub range : ℕ → ℕ → ℕ → Bool
range a b n = leb a n && leb n b

-- the value of the variable numbered x
abbrev pub variable : ℕ → Variables → ℤ
variable x v = pos (v x)

-- "`{n}`", where n is a calculation with a variable: "counts with a variable allowing all"
abbrev pub repeated : (Variables → ℤ) → ℕ → SheetNode
repeated n body = repetition (λ c v. exactly (n v)) (from 0) true body

-- "`?`"
abbrev pub optional : ℕ → SheetNode
optional body = repetition (λ c v. within 0 1) (within 0 1) false body

-- "`*`"
abbrev pub starred : ℕ → SheetNode
starred body = repetition (λ c v. from 0) (from 0) false body

-- "A switch takes its first true case": here a case holds where the variable numbered x is its number, and there is no default
pub data Case : Type 0 where
  equals : (n body : ℕ) → Case

-- the body of the first case whose number k is
unfoldable pub first_true : ℕ → List Case → Option ℕ
first_true k [] = none
first_true k (equals n body ∷ cases) = elim (eqb k n) [ true ↦ some body | false ↦ first_true k cases ]

-- all cases, for FIRST
unfoldable pub bodies : List Case → List ℕ
bodies [] = []
bodies (equals n body ∷ cases) = body ∷ bodies cases

-- a switch by the variable numbered x
abbrev pub switch_on : ℕ → List Case → SheetNode
switch_on x cases = switch (λ c v. first_true (v x) cases) true (bodies cases)

-- what no derivation meets: the node of a number that is no construct's
abbrev pub nothing : SheetNode
nothing = alternative []

-- a use of the rule with this body: "Values stay as last bound"
abbrev pub rule_use : ℕ → SheetNode
rule_use body = use_of (λ c. some c) (λ c v. v) (λ v v'. v') body

-- the opening use of the start rule, whose body is construct 0
abbrev pub opening_use : SheetNode
opening_use = rule_use 0

-- a grammar, from its constructs in text order
unfoldable pub grammar_from : List SheetNode → SheetGrammar
unfolding numbered
grammar_from constructs = record { node = numbered opening_use nothing constructs; start = opening_number; context = tt; values = λ x. 0 }

-- A grammar with what its table says of it.
pub record Sample : Type 0 where
  -- in text order
  pub constructs : List SheetNode
  -- how many there are, and by construct those that may be used there and those that it binds
  pub variables : ℕ
  pub sees : List (List ℕ)
  pub binds : List (List ℕ)
  pub tests : Tests
  -- the grammar's weight, and each construct's
  pub weight : ℕ
  pub weights : List ℕ

-- a sample's grammar
unfoldable pub grammar_of : Sample → SheetGrammar
unfolding grammar_from
grammar_of s = grammar_from s.constructs

-- no rule has parameters, and a rule's variables are 0 where it opens
unfoldable pub scope_of : Sample → Scope
unfolding numbered
scope_of s = record { sees = numbered [] [] s.sees; binds = numbered [] [] s.binds; opens_rule = λ i. true; enters_with = λ i. [] }

-- a rule opens with its variables all 0
abbrev pub fresh : ℕ → Unit {0} → Variables → Variables
fresh i c v x = 0

-- a number that is no construct's weighs 1, as its node does
unfoldable pub weight_in : Sample → ℕ → ℕ
unfolding numbered
weight_in s = numbered s.weight 1 s.weights

-- Sets of lookahead strings.

-- x is one of these
unfoldable pub one_of : List Bits → Bits → Bool
unfolding same
one_of [] x = false
one_of (y ∷ ys) x = elim (same x y) [ true ↦ true | false ↦ one_of ys x ]

-- neither an alternative nor a repetition that is not written `{n}`: nothing to look up
abbrev pub no_lookups : Tests
no_lookups = record { predicts = λ b x. false; continues = λ i x. false; exits = λ i x. false }

-- `frame = uint(8, var(x, set)) & uint(8, ~){n};`, where n is a calculation with x
unfoldable pub counted : (ℕ → Bool) → (Variables → ℤ) → Sample
counted member n =
    record {
      constructs = concatenation (1 ∷ 2 ∷ []) ∷ uint_var 0 8 member ∷ repeated n 3 ∷ uint 8 any ∷ [];
      variables = 1;
      sees = [] ∷ [] ∷ (0 ∷ []) ∷ (0 ∷ []) ∷ [];
      binds = [] ∷ (0 ∷ []) ∷ [] ∷ [] ∷ [];
      tests = no_lookups;
      weight = 6;
      weights = 5 ∷ 1 ∷ 3 ∷ 1 ∷ [];
    }

-- G of the bench sheet: `frame = uint(8, var(len, 1~8)) & uint(8, ~){len};`, "weight 6"
unfoldable pub as_many : Sample
unfolding counted
as_many = counted (range 1 8) (variable 0)

-- K9: `frame = uint(8, var(n, ~)) & uint(8, ~){n - 1};`
unfoldable pub one_less : Sample
unfolding counted
one_less = counted any (λ v. variable 0 v -ℤ pos 1)

-- K10: `frame = uint(8, var(t, ~)) & [t = 1: "A"; t = 2: uint(16, ~);];`
unfoldable pub tagged : Sample
unfolding bodies first_true
tagged =
    record {
      constructs =
          concatenation (1 ∷ 2 ∷ []) ∷ uint_var 0 8 any ∷ switch_on 0 (equals 1 3 ∷ equals 2 4 ∷ []) ∷ literal (0x41 ∷ []) ∷ uint 16 any ∷ [];
      variables = 1;
      sees = [] ∷ [] ∷ (0 ∷ []) ∷ (0 ∷ []) ∷ (0 ∷ []) ∷ [];
      binds = [] ∷ (0 ∷ []) ∷ [] ∷ [] ∷ [] ∷ [];
      tests = no_lookups;
      weight = 5;
      weights = 4 ∷ 1 ∷ 2 ∷ 1 ∷ 1 ∷ [];
    }

-- K6: `*` continues at two 1s or at a 1 and a 2, and exits at the 2, which is 4 bits before the frame's end
unfoldable pub ones_tests : Tests
unfolding one_of bits_of
ones_tests =
    record {
      predicts = λ b x. false;
      continues = λ i x. one_of (bits_of 8 0x12 ∷ bits_of 8 0x11 ∷ []) x;
      exits = λ i x. one_of (bits_of 4 2 ∷ []) x;
    }

-- K6: `frame = uint(4,1)* & uint(4,2);`
unfoldable pub ones : Sample
unfolding ones_tests
ones =
    record {
      constructs = concatenation (1 ∷ 3 ∷ []) ∷ starred 2 ∷ uint 4 (only 1) ∷ uint 4 (only 2) ∷ [];
      variables = 0;
      sees = [] ∷ [] ∷ [] ∷ [] ∷ [];
      binds = [] ∷ [] ∷ [] ∷ [] ∷ [];
      tests = ones_tests;
      weight = 6;
      weights = 5 ∷ 3 ∷ 1 ∷ 1 ∷ [];
    }

-- the lookahead strings of the two letters
abbrev pub letter_A : Bits
letter_A = frame_bits (0x41 ∷ [])

abbrev pub letter_B : Bits
letter_B = frame_bits (0x42 ∷ [])

-- the prediction sets of the branches
unfoldable pub lettered_predictions : ℕ → List Bits
unfolding numbered
lettered_predictions = numbered [] [] ([] ∷ [] ∷ [] ∷ [] ∷ [] ∷ [] ∷ (letter_A ∷ []) ∷ (letter_B ∷ []) ∷ [])

-- `*` continues at a letter and exits at the frame's end
unfoldable pub lettered_tests : Tests
unfolding one_of lettered_predictions
lettered_tests =
    record { predicts = λ b x. one_of (lettered_predictions b) x; continues = λ i x. one_of (letter_A ∷ letter_B ∷ []) x; exits = λ i x. one_of ([] ∷ []) x }

-- `frame = uint(8, var(n, 1~8)) & uint(8, ~){n} & ("A" | "B")*;`
unfoldable pub lettered : Sample
unfolding lettered_tests
lettered =
    record {
      constructs =
          concatenation (1 ∷ 2 ∷ 4 ∷ [])
          ∷ uint_var 0 8 (range 1 8)
          ∷ repeated (variable 0) 3
          ∷ uint 8 any
          ∷ starred 5
          ∷ alternative (6 ∷ 7 ∷ [])
          ∷ literal (0x41 ∷ [])
          ∷ literal (0x42 ∷ [])
          ∷ [];
      variables = 1;
      sees = [] ∷ [] ∷ (0 ∷ []) ∷ (0 ∷ []) ∷ (0 ∷ []) ∷ (0 ∷ []) ∷ (0 ∷ []) ∷ (0 ∷ []) ∷ [];
      binds = [] ∷ (0 ∷ []) ∷ [] ∷ [] ∷ [] ∷ [] ∷ [] ∷ [] ∷ [];
      tests = lettered_tests;
      weight = 11;
      weights = 10 ∷ 1 ∷ 3 ∷ 1 ∷ 5 ∷ 2 ∷ 1 ∷ 1 ∷ [];
    }

-- what is shown of each: it has what the theorems ask, weights, room, and names in scope
pub record Meets (s : Sample) : Type 0 where
  pub hypotheses : Hypotheses (grammar_of s) s.tests
  pub weighs : Weighs (grammar_of s) (λ c. weight_in s)
  pub has_room : HasRoom (grammar_of s) (λ c. weight_in s)
  pub lexical : Lexical store (scope_of s) fresh (grammar_of s)

-- The sheet.

-- what a run answers: "match, 8 steps, len 2, reading 1 0 3 8 3 16"
pub data Answer : Type 0 where
  answer : (verdict : Verdict) (steps : ℕ) (values : List ℕ) (captures : List Capture) → Answer

-- the values of so many variables
unfoldable pub first_values : ℕ → Variables → List ℕ
first_values zero v = []
first_values (suc n) v = v 0 ∷ first_values n (λ x. v (suc x))

-- what a run answers, of so many variables
unfoldable pub answered : ℕ → Run (Unit {0}) Variables → Answer
unfolding first_values
answered variables (run (state pending rest position values captures) taken verdict) = answer verdict taken (first_values variables values) captures

-- a field recorded
abbrev pub at : ℕ → ℕ → Capture
at i p = record { construct = i; first_bit = p }

-- a line of the sheet: a grammar, a frame, and what its run answers
pub data Line : Type 0 where
  line : (grammar : Sample) (frame : List ℕ) (expected : Answer) → Line

-- what the sheet says
abbrev pub expected_of : Line → Answer
expected_of (line s bytes a) = a

-- the run of a line, granted its step bound, "weight times one more than the frame's bits"
unfoldable pub result : Line → Answer
unfolding grammar_of answered opened granted frame_bits
result (line s bytes a) =
    answered s.variables (granted (grammar_of s) s.tests (s.weight * (length (frame_bits bytes) + 1)) (opened (grammar_of s) s.tests (frame_bits bytes)))

-- what a line says of derivations: "match" that there is one, "no match" that there is none
abbrev pub Says : Line → Type 0
Says (line s bytes (answer undecided steps values captures)) = ⊥
Says (line s bytes (answer matched steps values captures)) = Derivable (grammar_of s) (frame_bits bytes)
Says (line s bytes (answer unmatched steps values captures)) = Derivable (grammar_of s) (frame_bits bytes) → ⊥

-- the sheet's lines, and three of a grammar with an alternative
unfoldable pub lines : List Line
unfolding as_many ones one_less tagged lettered
lines =
    -- K1 to K4
    line as_many (0x02 ∷ 0x41 ∷ 0x42 ∷ []) (answer matched 8 (2 ∷ []) (at 1 0 ∷ at 3 8 ∷ at 3 16 ∷ []))
    ∷ line as_many (0x02 ∷ 0x41 ∷ []) (answer unmatched 7 (2 ∷ []) (at 1 0 ∷ at 3 8 ∷ []))
    ∷ line as_many (0x02 ∷ 0x41 ∷ 0x42 ∷ 0x43 ∷ []) (answer unmatched 8 (2 ∷ []) (at 1 0 ∷ at 3 8 ∷ at 3 16 ∷ []))
    ∷ line as_many [] (answer unmatched 3 (0 ∷ []) [])
    -- K6, K7
    ∷ line ones (0x12 ∷ []) (answer matched 6 [] (at 2 0 ∷ at 3 4 ∷ []))
    ∷ line ones (0x11 ∷ []) (answer unmatched 5 [] (at 2 0 ∷ []))
    -- K9: "treating a negative `{n}` as `{0}`" is an error
    ∷ line one_less (0x00 ∷ []) (answer unmatched 4 (0 ∷ []) (at 1 0 ∷ []))
    ∷ line one_less (0x01 ∷ []) (answer matched 4 (1 ∷ []) (at 1 0 ∷ []))
    -- K10
    ∷ line tagged (0x01 ∷ 0x41 ∷ []) (answer matched 5 (1 ∷ []) (at 1 0 ∷ at 3 8 ∷ []))
    ∷ line tagged (0x03 ∷ []) (answer matched 4 (3 ∷ []) (at 1 0 ∷ []))
    -- two letters; none; a byte that is neither
    ∷ line lettered (0x01 ∷ 0xff ∷ 0x41 ∷ 0x42 ∷ []) (answer matched 13 (1 ∷ []) (at 1 0 ∷ at 3 8 ∷ at 6 16 ∷ at 7 24 ∷ []))
    ∷ line lettered (0x01 ∷ 0x41 ∷ []) (answer matched 7 (1 ∷ []) (at 1 0 ∷ at 3 8 ∷ []))
    ∷ line lettered (0x01 ∷ 0x41 ∷ 0x43 ∷ []) (answer unmatched 7 (1 ∷ []) (at 1 0 ∷ at 3 8 ∷ []))
    ∷ []

-- Refused grammars.

-- K5: `frame = "AB" | "Ac";`
unfoldable pub ambiguous : SheetGrammar
unfolding grammar_from
ambiguous = grammar_from (alternative (1 ∷ 2 ∷ []) ∷ literal (0x41 ∷ 0x42 ∷ []) ∷ literal (0x41 ∷ 0x43 ∷ []) ∷ [])

-- K8: `frame = ("A"?)*;`
unfoldable pub empty_repeated : SheetGrammar
unfolding grammar_from
empty_repeated = grammar_from (starred 1 ∷ optional 2 ∷ literal (0x41 ∷ []) ∷ [])

-- K11: `a = "x" & b; b = a;`
unfoldable pub cyclic : SheetGrammar
unfolding grammar_from
cyclic = grammar_from (concatenation (1 ∷ 2 ∷ []) ∷ literal (0x78 ∷ []) ∷ rule_use 3 ∷ rule_use 0 ∷ [])
