-- The grammar that a list of words holds: any words at all. A construct that is missing is one that nothing derives.
-- Assumes nothing.
use Rattle.std.specs.Prelude.{ℕ, zero, suc, ◌+◌, ◌*◌, ◌-◌, ◌/◌, ◌%◌, ◌^◌, Bool, true, false, cond, ◌&&◌, List, [], ◌∷◌, leb, ltb, eqb, ℤ, pos, length, take, drop, set, replicate, Result, Ok, Err}
use Rattle.std.proofs.Math.Option.{Option, none, some}
use Rattle.basis.specs.Limits.{max_constructs, max_variables, max_terms}
use Rattle.basis.specs.Bits.{value, frame_bits, same}
use Rattle.basis.specs.Patterns.{pattern_value}
use Rattle.basis.specs.Counts.{Counts, from, within, zero_or_one, zero_or_more, one_or_more}
use Rattle.term_words.specs.Words.{term_at, terms}
use Rattle.term_evaluation.specs.Meaning.{membership, condition}
use Rattle.term_evaluation.specs.Counts.{counts, form_of}
use Rattle.term_evaluation.specs.Variables.{has_variable}
use Rattle.term_evaluation.specs.declared.Form.{Form}
use Rattle.term_words.specs.declared.Term.{Term}
use Rattle.theory.specs.Grammar.{Node, alternative, concatenation, repetition, switch, use_of, field, eod, Grammar}
use Rattle.table_layout.specs.Places.{word, rule_word, construct_word, literals_at, terms_at}
use Rattle.table_layout.specs.Constructs.{construct_at}
use Rattle.table_layout.specs.Attributes.{attributes_of}
use Rattle.table_layout.specs.declared.Construct.{Construct}
use Rattle.table_layout.specs.declared.Passes.{Passes}
use Rattle.term_words.specs.declared.TermError.{TermError}
use Rattle.term_evaluation.specs.declared.Allowed.{Allowed}

-- what a pending entry carries: nothing
abbrev pub Context : Type 0
Context = Unit {0}

-- what the opening use carries
abbrev pub first_context : Context
first_context = tt

-- the values of the 64 variables, 0 before a binding
abbrev pub Values : Type 0
Values = List ℤ

-- a node of such a grammar
abbrev pub HeldNode : Type 0
HeldNode = Node Context Values

-- the words of the terms
abbrev pub term_words : List ℕ → List ℕ
term_words ws = take (3 * max_terms) (drop terms_at ws)

-- the terms from number `start` up to number `end`
abbrev pub terms_of : List ℕ → ℕ → ℕ → List Term
terms_of ws start end = terms (term_words ws) start end

-- how many constructs a construct is; a missing one is none
abbrev pub size_of : Construct → ℕ
size_of c = (attributes_of c).size

-- the parts from number j up to number `end`, each as far after the one before as that one is large; a missing one is the last
unfoldable pub parts : ℕ → List ℕ → ℕ → ℕ → List ℕ
parts zero ws j end = []
parts (suc most) ws j end =
    elim (ltb j end)
    [ true ↦ j ∷ elim (eqb (size_of (construct_at ws j)) 0) [ true ↦ [] | false ↦ parts most ws (j + size_of (construct_at ws j)) end ] | false ↦ [] ]

-- ---- counts, conditions and sets, worked out; where that fails nothing is allowed, true or contained

-- the counts of an answer
abbrev pub allowed : Result Allowed TermError → Counts
allowed (Ok Allowed.None) = Counts.none
allowed (Ok (Allowed.From low)) = from low
allowed (Ok (Allowed.Within low more)) = within low more
allowed (Err e) = Counts.none

-- the test was worked out, and holds
abbrev pub is_yes : Result Bool TermError → Bool
is_yes (Ok false) = false
is_yes (Ok true) = true
is_yes (Err e) = false

-- how many passes a repetition allows at these values
abbrev pub passes_allowed : List ℕ → Passes → Values → Counts
passes_allowed ws Passes.Optional v = zero_or_one
passes_allowed ws Passes.Any v = zero_or_more
passes_allowed ws Passes.Some v = one_or_more
passes_allowed ws (Passes.Counted start end) v = allowed (counts v (term_words ws) start end)

-- "counts with a variable allowing all"
abbrev pub passes_static : List ℕ → Passes → Counts
passes_static ws Passes.Optional = zero_or_one
passes_static ws Passes.Any = zero_or_more
passes_static ws Passes.Some = one_or_more
passes_static ws (Passes.Counted start end) = cond (has_variable (terms_of ws start end)) zero_or_more (allowed (counts [] (term_words ws) start end))

-- only `{n}` has no `~`
abbrev pub is_exact : Form → Bool
is_exact Form.Exact = true
is_exact Form.Open = false
is_exact Form.UpTo = false
is_exact Form.Closed = false

-- written `{n}`
abbrev pub passes_fixed : List ℕ → Passes → Bool
passes_fixed ws Passes.Optional = false
passes_fixed ws Passes.Any = false
passes_fixed ws Passes.Some = false
passes_fixed ws (Passes.Counted start end) = is_exact (form_of (term_at (term_words ws) (end - 1)))

-- "A switch takes its first true case, else the default": a case without a condition
unfoldable pub first_case : List ℕ → Values → List ℕ → Option ℕ
first_case ws v [] = none
first_case ws v (b ∷ bs) =
    elim (ltb (construct_word ws b 6) (construct_word ws b 7)) [
      | true ↦ elim (is_yes (condition v (construct_word ws b 6) (terms_of ws (construct_word ws b 6) (construct_word ws b 7)))) [ true ↦ some b | false ↦ first_case ws v bs ]
      | false ↦ some b
    ]

-- no default: each of these cases has a condition
unfoldable pub no_default : List ℕ → List ℕ → Bool
no_default ws [] = true
no_default ws (b ∷ bs) = elim (ltb (construct_word ws b 6) (construct_word ws b 7)) [ true ↦ no_default ws bs | false ↦ false ]

-- ---- fields

-- byte k of the literal of construct i
abbrev pub literal_byte : List ℕ → ℕ → ℕ → ℕ
literal_byte ws i k = word ws (literals_at + 8 * i + k / 4) / 2 ^ (8 * (k % 4)) % 256

-- n bytes of it from byte k on
unfoldable pub literal_bytes : List ℕ → ℕ → ℕ → ℕ → List ℕ
literal_bytes ws i k zero = []
literal_bytes ws i k (suc n) = literal_byte ws i k ∷ literal_bytes ws i (k + 1) n

-- "8 bits a character": these bits and no others
abbrev pub literal_node : List ℕ → HeldNode
literal_node bytes = field (λ bits. 8 * length bytes) (λ c v bits. same bits (frame_bits bytes)) (λ bits. same bits (frame_bits bytes)) (λ c v bits. v)

-- "a range of one-character literals": 8 bits, a number from the one character to the other
abbrev pub range_node : ℕ → ℕ → HeldNode
range_node low high =
    field (λ bits. 8) (λ c v bits. leb low (value bits) && leb (value bits) high) (λ bits. leb low (value bits) && leb (value bits) high) (λ c v bits. v)

-- the value is in the set of these terms
abbrev pub in_set : List ℕ → ℕ → ℕ → Values → ℤ → Bool
in_set ws start end v n = is_yes (membership v n start (terms_of ws start end))

-- "a set with a variable counting as `~`"
abbrev pub in_static_set : List ℕ → ℕ → ℕ → ℤ → Bool
in_static_set ws start end n = cond (has_variable (terms_of ws start end)) true (in_set ws start end [] n)

-- a binder is 1 + its variable; 0 binds none
abbrev pub bound : ℕ → Values → ℤ → Values
bound zero v n = v
bound (suc x) v n = set v x n

-- "`uint(width, set)`, …, most significant bit first; `uint(width, var(name, set))` also binds the value"; "`sint(width, set)` in two's complement, … its value bound
-- with its sign" (Req 10)
abbrev pub uint_node : List ℕ → Bool → ℕ → ℕ → ℕ → ℕ → HeldNode
uint_node ws signed width start end binder =
    field (λ bits. width) (λ c v bits. in_set ws start end v (pattern_value signed bits)) (λ bits. in_static_set ws start end (pattern_value signed bits))
    (λ c v bits. bound binder v (pattern_value signed bits))

-- ---- nodes

-- a use of rule r: "Values stay as last bound"
abbrev pub use_node : List ℕ → ℕ → HeldNode
use_node ws r = use_of (λ c. some c) (λ c v. v) (λ v v'. v') (rule_word ws r 0)

-- construct i as a node: its parts are the constructs that fill it, of a repetition the one after it
unfoldable pub node_of : List ℕ → ℕ → Construct → HeldNode
unfolding parts first_case no_default literal_bytes
node_of ws i Construct.Missing = alternative []
node_of ws i (Construct.Alternative size) = alternative (parts size ws (i + 1) (i + size))
node_of ws i (Construct.Concatenation size) = concatenation (parts size ws (i + 1) (i + size))
node_of ws i (Construct.Repetition size passes) = repetition (λ c v. passes_allowed ws passes v) (passes_static ws passes) (passes_fixed ws passes) (i + 1)
node_of ws i (Construct.Switch size) =
    switch (λ c v. first_case ws v (parts size ws (i + 1) (i + size))) (no_default ws (parts size ws (i + 1) (i + size))) (parts size ws (i + 1) (i + size))
node_of ws i (Construct.Use rule) = use_node ws rule
node_of ws i (Construct.Literal length) = literal_node (literal_bytes ws i 0 length)
node_of ws i (Construct.Range low high) = range_node low high
node_of ws i (Construct.Uint signed width start end binder) = uint_node ws signed width start end binder
node_of ws i Construct.Eod = eod

-- the opening use of the start rule has the first number past all constructs
abbrev pub opening : ℕ
opening = max_constructs

-- the constructs by number and the opening use; "the rest 0"
unfoldable pub held : List ℕ → Grammar Context Values
unfolding node_of
held ws =
    record {
      node = λ i. cond (eqb i opening) (use_node ws 0) (node_of ws i (construct_at ws i));
      start = opening;
      context = first_context;
      values = replicate max_variables (pos 0);
    }
