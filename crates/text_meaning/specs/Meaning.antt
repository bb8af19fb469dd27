-- The grammar that a text means (document 01, "The grammar text we accept"), from the nodes, terms and rules that are read of it (`text_parsing`
-- `Store`: ten words to a node, nodes in preorder) and without a table.
-- Assumes nothing.
use Rattle.std.specs.Prelude.{ℕ, zero, suc, ◌+◌, ◌-◌, Bool, true, false, List, [], ◌∷◌, map, eqb, ltb, ℤ, pos, length, get_or, take, set, replicate}
use Rattle.std.proofs.Math.Bool.{cond}
use Rattle.std.proofs.Math.Option.{Option, none, some}
use Rattle.basis.specs.Limits.{max_variables}
use Rattle.basis.specs.Patterns.{pattern_value}
use Rattle.basis.specs.Counts.{Counts, zero_or_one, zero_or_more, one_or_more}
use Rattle.text_literals.specs.Literals.{characters_at}
use Rattle.term_words.specs.declared.Kind.{Kind}
use Rattle.term_words.specs.declared.Mode.{Mode}
use Rattle.term_words.specs.declared.Numbers.{Numbers}
use Rattle.term_words.specs.declared.Term.{Term}
use Rattle.term_evaluation.specs.Meaning.{run, membership, condition}
use Rattle.term_evaluation.specs.Counts.{form_of, tally_end}
use Rattle.term_evaluation.specs.Variables.{has_variable}
use Rattle.term_evaluation.specs.declared.Form.{Form}
use Rattle.term_evaluation.specs.declared.Tally.{Tally}
use Rattle.theory.specs.Grammar.{alternative, concatenation, repetition, switch, use_of, field, eod, Grammar}
use Rattle.table_layout.specs.Held.{Context, first_context, Values, HeldNode, allowed, is_yes, is_exact, literal_node, range_node, opening}
use Rattle.text_shapes.specs.TermShapes.{read_terms, rename_term}
use Rattle.text_store.specs.Words.{kind_of, node_size, place_of, node_mark, last_place, own_from, own_end, condition_from, condition_end, is_binder, first_node}
use Rattle.text_encoding.specs.Numbers.{rule_of, first_at, binders_before, variable_of, width_of, is_signed}

-- ---- parts: a node's parts follow it, each as far after the one before as that is large

-- those from node j up to `end`, `most` of them at most
unfoldable pub parts_from : List ℕ → ℕ → ℕ → ℕ → List ℕ
parts_from ns zero j end = []
parts_from ns (suc most) j end = elim (ltb j end) [ true ↦ j ∷ parts_from ns most (j + node_size ns j) end | false ↦ [] ]

-- the parts of node i
abbrev pub parts_of : List ℕ → ℕ → List ℕ
parts_of ns i = parts_from ns (node_size ns i) (i + 1) (i + node_size ns i)

-- ---- counts: "`{n}`, `{a~b}`, `{a~}` or `{~b}`". A `~` stands after the calculations that are its ends.

-- the last term, by which it is seen how counts are written
abbrev pub last_of : List Term → Term
last_of list = get_or list (length list - 1) Term.Bad

-- the terms without that `~`
abbrev pub calculations : Form → List Term → List Term
calculations Form.Exact list = list
calculations Form.Open list = take (length list - 1) list
calculations Form.UpTo list = take (length list - 1) list
calculations Form.Closed list = take (length list - 1) list

-- "exact whole numbers that may go below zero", at the values of the variables or at their sizes
abbrev pub counted : Mode → Values → List Term → Tally
counted m v list = tally_end (form_of (last_of list)) (run Kind.Calculation m v (pos 0) 0 (calculations (form_of (last_of list)) list) Numbers.Zero 1)

-- the counts that the terms allow at these values; none where a calculation passes 2^62, which refusal 8 rules out
abbrev pub counts_in : List Term → Values → Counts
counts_in list v = allowed (counted Mode.Values v list).counted

-- "counts with a variable allowing all"
abbrev pub static_counts : List Term → Counts
static_counts list = cond (has_variable list) zero_or_more (counts_in list [])

-- "A repetition is `?`, `*`, `+`", or has counts; `how` says which
abbrev pub passes : ℕ → Counts → Counts
passes how counts = cond (eqb how 1) zero_or_one (cond (eqb how 2) zero_or_more (cond (eqb how 3) one_or_more counts))

-- it is written `{n}`
abbrev pub is_fixed : ℕ → List Term → Bool
is_fixed how list = cond (eqb how 4) (is_exact (form_of (last_of list))) false

-- ---- sets: "alternatives of `~`, `a`, `a~b`, `a~`, `~b`, each with at most one `!`"

-- n is in the set of these terms, at these values
abbrev pub in_set : List Term → Values → ℤ → Bool
in_set list v n = is_yes (membership v n 0 list)

-- "a set with a variable counting as `~`"
abbrev pub in_static_set : List Term → ℤ → Bool
in_static_set list n = cond (has_variable list) true (in_set list [] n)

-- "Values below 0 or above the width drop out silently": so many bits have no others. It may also bind the value. Of a sint bits are a number "in two's complement".
abbrev pub uint_node : (signed : Bool) → (width : ℕ) → List Term → (binds : Bool) → (variable : ℕ) → HeldNode
uint_node signed width list binds variable =
    field (λ bits. width) (λ c v bits. in_set list v (pattern_value signed bits)) (λ bits. in_static_set list (pattern_value signed bits))
    (λ c v bits. cond binds (set v variable (pattern_value signed bits)) v)

-- ---- rules: "a rule's name" stands for its body

-- a use of a rule: its own values come with `localised` (`conditions`), here they stay as last bound
abbrev pub opened : List ℕ → ℕ → HeldNode
opened rs rule = use_of (λ c. some c) (λ c v. v) (λ v v'. v') (first_node rs rule)

-- ---- cases: the default is the one without a condition

-- node i, as a case, is the default
abbrev pub is_default : List ℕ → ℕ → Bool
is_default ns i = eqb (condition_from ns i) (condition_end ns i)

-- "no default" (Req 02): none of these cases is it
unfoldable pub no_default : List ℕ → List ℕ → Bool
no_default ns [] = true
no_default ns (b ∷ bs) = elim (is_default ns b) [ true ↦ false | false ↦ no_default ns bs ]

module _ (xs ns ts rs : List ℕ) (r : ℕ) where
  -- the terms from number f up to number e, in node i: "Variables are local to a rule", so a name is that of a binder before i in its rule
  abbrev pub list_of : (i f e : ℕ) → List Term
  list_of i f e = map (rename_term (λ p. variable_of xs ns (first_at rs r i) i p)) (read_terms ts f (e - f))

  -- a uint's set or a repetition's counts
  abbrev pub own_list : ℕ → List Term
  own_list i = list_of i (own_from ns i) (own_end ns i)

  -- the condition under which node i is a switch's case
  abbrev pub condition_list : ℕ → List Term
  condition_list i = list_of i (condition_from ns i) (condition_end ns i)

  -- the condition of case i holds
  abbrev pub is_true : Values → ℕ → Bool
  is_true v i = is_yes (condition v 0 (condition_list i))

  -- "A switch takes its first true case, else the default": the default is last
  unfoldable pub first_true : Values → List ℕ → Option ℕ
  first_true v [] = none
  first_true v (b ∷ bs) = elim (is_default ns b) [ true ↦ some b | false ↦ elim (is_true v b) [ true ↦ some b | false ↦ first_true v bs ] ]

  -- A node by its kind: alternative `|`, concatenation `&`, repetition, switch, "a rule's name", "a literal", "a range of one-character
  -- literals", "uint(width, set)", "eod, which takes no bits and holds only at the frame's end".
  unfoldable pub meant_node : ℕ → HeldNode
  unfolding parts_from first_true no_default
  meant_node i =
      cond (eqb (kind_of ns i) 1) (alternative (parts_of ns i))
      (cond (eqb (kind_of ns i) 2) (concatenation (parts_of ns i))
      (cond (eqb (kind_of ns i) 3) (repetition (λ c v. passes (node_mark ns i) (counts_in (own_list i) v)) (passes (node_mark ns i) (static_counts (own_list i))) (is_fixed (node_mark ns i) (own_list i)) (i + 1))
      (cond (eqb (kind_of ns i) 4) (switch (λ c v. first_true v (parts_of ns i)) (no_default ns (parts_of ns i)) (parts_of ns i))
      (cond (eqb (kind_of ns i) 5) (opened rs (rule_of xs rs r (place_of ns i)))
      (cond (eqb (kind_of ns i) 6) (literal_node (characters_at xs (place_of ns i)))
      (cond (eqb (kind_of ns i) 7) (range_node (get_or (characters_at xs (place_of ns i)) 0 0) (get_or (characters_at xs (last_place ns i)) 0 0))
      (cond (eqb (kind_of ns i) 8) (uint_node (is_signed xs ns i) (width_of xs ns i) (own_list i) (is_binder ns i) (binders_before ns i))
      (cond (eqb (kind_of ns i) 9) eod
      (alternative [])))))))))

-- "The first is the start rule": its opening use is number 256. Of n nodes no number from n on is one: nothing derives it.
unfoldable pub grammar_of : (xs ns ts rs : List ℕ) → (n r : ℕ) → Grammar Context Values
unfolding meant_node
grammar_of xs ns ts rs n r =
    record {
      node = λ i. cond (eqb i opening) (opened rs 0) (cond (ltb i n) (meant_node xs ns ts rs r i) (alternative []));
      start = opening;
      context = first_context;
      values = replicate max_variables (pos 0);
    }
