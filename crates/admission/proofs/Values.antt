-- Row 13: a construct of the encoded words is a uint without a value exactly where the tree's is.
-- Assumes nothing.
use Prim.Native.Nat.{ℕ, ◌+◌, ◌≤◌, ◌<◌}
use mathlib.Core.Path.{◌≡◌, refl, sym, ap, subst, ◌∙◌}
use mathlib.Core.Bool.{Bool, true, false, cond, false≢true}
use mathlib.Core.List.{List, []}
use mathlib.Core.Option.{Option, none, some}
use native.Mathlib.Omega.{arith}
use native.Mathlib.Decide.{dec_lt}
use lib.IntN.{pos}
use lib.ListN.{length}
use Rattle.basis.specs.Limits.{max_text_bytes}
use Rattle.basis.specs.Bits.{Bits, bits_of}
use Rattle.basis.specs.Patterns.{pattern_value}
use Rattle.basis.proofs.Values.{length_bits_of}
use Rattle.table_layout.specs.Constructs.{construct_at}
use Rattle.table_layout.specs.Held.{terms_of, in_set}
use Rattle.table_layout.specs.declared.Construct.{Construct}
use Rattle.term_evaluation.specs.Variables.{has_variable}
use Rattle.table_judge.specs.Judged.{Valueless}
use Rattle.text_store.specs.Store.{State, state, node_words, term_words, rule_words, nodes_of, rules_of}
use Rattle.text_store.specs.Words.{kind_of, is_binder}
use Rattle.text_encoding.specs.Numbers.{binders_before, width_of, is_signed, own_length, own_start}
use Rattle.text_meaning.proofs.Uints.{OfNode, uint_below, uint_read, uint_of}
use Rattle.text_admission.specs.Admitted.{words_of, Bounded}
use Rattle.text_admission.proofs.Facts.{facts}
use Rattle.text_admission.proofs.Judging.{readable}
use Rattle.tree_meaning.specs.Pieces.{set_parts}
use Rattle.tree_meaning.specs.Values.{in_set as in_tree}
use Rattle.tree_meaning.specs.Grammar.{Uint, mentions_variable, construct_numbered, NoValue}
use Rattle.tree_grammar.proofs.Nodes.{SameUint}
use Rattle.tree_grammar.proofs.SameGrammar.{same_uint, no_uint_past}
use Rattle.admission.proofs.Stages.{from_stored}
use Rattle.admission.proofs.Holding.{formed, its_tree, spelled, no_5, no_6, no_8}

-- ---- sets of the same values, of which none is left

all_or : (c x : Bool) → cond c true x ≡ false → (c ≡ false) × (x ≡ false)
all_or true x e = absurd (false≢true (sym e))
all_or false x e = (refl, e)

-- `a`, `b`: a variable stands in the set; `f`, `g`: the value of a pattern is in it
empty_both : (a b : Bool) (f g : Bits → Bool) (n : ℕ) → ((s : Bits) → cond a true (f s) ≡ cond b true (g s)) → a ≡ false → ((s : Bits) → length s ≡ n → f s ≡ false)
    → (b ≡ false) × ((s : Bits) → length s ≡ n → g s ≡ false)
empty_both a b f g n same e h =
    let at : (s : Bits) → length s ≡ n → cond b true (g s) ≡ false = λ s m. sym (same s) ∙ (λ t. cond (e t) true (h s m t)) in
    ((all_or b (g (bits_of n 0)) (at (bits_of n 0) (length_bits_of n 0))).0, λ s m. (all_or b (g s) (at s m)).1)

-- ---- what is read of the words, with the state in one piece

uint_node : (xs : List ℕ) (st : State) → Bounded xs st → length xs ≤ max_text_bytes → (i : ℕ) (signed : Bool) (width start end binder : ℕ) → construct_at (words_of xs st) i ≡ Construct.Uint signed width start end binder
    → (i < nodes_of st) × OfNode xs (node_words st) (term_words st) (rule_words st) (words_of xs st) (rules_of st) i signed width start end
uint_node xs (state ns ts rs n t b r) p h i signed width start end binder e =
    let f = facts xs (state ns ts rs n t b r) p.passed.passed.passed h in
    let text = readable xs ns ts rs n t b r p f h in
    let l = uint_below text f.shape.stored f.basics.places i signed width start end binder e in
    (l, uint_of text f.shape.stored f.basics.places i l signed width start end binder e)

uint_words : (xs : List ℕ) (st : State) → Bounded xs st → length xs ≤ max_text_bytes → (i : ℕ) → i < nodes_of st → kind_of (node_words st) i ≡ 8
    → construct_at (words_of xs st) i ≡ Construct.Uint (is_signed xs (node_words st) i) (width_of xs (node_words st) i) (own_start (node_words st) i) (own_start (node_words st) i + own_length (node_words st) i) (cond (is_binder (node_words st) i) (binders_before (node_words st) i + 1) 0)
uint_words xs (state ns ts rs n t b r) p h i l k =
    let f = facts xs (state ns ts rs n t b r) p.passed.passed.passed h in
    uint_read (readable xs ns ts rs n t b r p f h) f.shape.stored f.basics.places i l k

module _ (xs : List ℕ) (short : length xs ≤ max_text_bytes) (st : State) (p : Bounded xs st) where
  abbrev ws : List ℕ
  ws = words_of xs st

  module _ (i : ℕ) where
    -- of node i and a construct of the tree
    abbrev Same : Option Uint → Type 0
    Same = SameUint xs (node_words st) (term_words st) (rule_words st) (rules_of st) i

    same_there : i < nodes_of st → Same (construct_numbered (its_tree xs short st p) i).uint
    same_there =
        from_stored xs short st (formed xs short st p) (λ z. i < nodes_of z → SameUint xs (node_words z) (term_words z) (rule_words z) (rules_of z) i (construct_numbered (its_tree xs short st p) i).uint)
        (same_uint (spelled xs short st p) (no_5 xs short st p) (no_6 xs short st p) (no_8 xs short st p) i)

    none_past : nodes_of st ≤ i → (construct_numbered (its_tree xs short st p) i).uint ≡ none
    none_past =
        from_stored xs short st (formed xs short st p) (λ z. nodes_of z ≤ i → (construct_numbered (its_tree xs short st p) i).uint ≡ none)
        (no_uint_past (spelled xs short st p) (no_5 xs short st p) (no_6 xs short st p) (no_8 xs short st p) i)

    module _ (signed : Bool) (width start end : ℕ) (of : OfNode xs (node_words st) (term_words st) (rule_words st) ws (rules_of st) i signed width start end) (u : Uint) (same : Same (some u)) where
      width_same : width ≡ u.width.value
      width_same = sym of.width_is ∙ same.1

      signed_same : signed ≡ u.signed
      signed_same = sym of.signed_is ∙ same.3

      values_same : (s : Bits) → cond (has_variable (terms_of ws start end)) true (in_set ws start end [] (pattern_value signed s)) ≡ cond (mentions_variable (set_parts u.values)) true (in_tree (λ x. pos 0) u.values (pattern_value u.signed s))
      values_same s =
          (λ t. cond (of.variable_same t) true (of.set_same (pattern_value signed s) t)) ∙ same.2 (pattern_value signed s)
          ∙ ap (λ (c : Bool). cond (mentions_variable (set_parts u.values)) true (in_tree (λ x. pos 0) u.values (pattern_value c s))) signed_same

    -- ---- both ways

    no_value : (u : Option Uint) → Same u → (v : Valueless ws i) → OfNode xs (node_words st) (term_words st) (rule_words st) ws (rules_of st) i v.signed v.width v.start v.end → NoValue u
    no_value none same v of = absurd (same of.kind_is)
    no_value (some u) same v of =
        let z =
        empty_both (has_variable (terms_of ws v.start v.end)) (mentions_variable (set_parts u.values)) (λ s. in_set ws v.start v.end [] (pattern_value v.signed s)) (λ s. in_tree (λ x. pos 0) u.values (pattern_value u.signed s)) v.width
        (values_same v.signed v.width v.start v.end of u same) v.no_variable v.none_left in
        (z.0, λ s l. z.1 s (l ∙ sym (width_same v.signed v.width v.start v.end of u same)))

    pub tree_valueless : Valueless ws i → NoValue (construct_numbered (its_tree xs short st p) i).uint
    tree_valueless v =
        let (l, of) = uint_node xs st p short i v.signed v.width v.start v.end v.binder v.is_uint in no_value (construct_numbered (its_tree xs short st p) i).uint (same_there l) v of

    valueless : i < nodes_of st → (u : Option Uint) → Same u → NoValue u → Valueless ws i
    valueless l none same e = absurd e
    valueless l (some u) same e =
        let q = uint_words xs st p short i l same.0 in
        let signed = is_signed xs (node_words st) i in
        let width = width_of xs (node_words st) i in
        let start = own_start (node_words st) i in
        let end = own_start (node_words st) i + own_length (node_words st) i in
        let of = (uint_node xs st p short i signed width start end _ q).1 in
        let z =
        empty_both (mentions_variable (set_parts u.values)) (has_variable (terms_of ws start end)) (λ s. in_tree (λ x. pos 0) u.values (pattern_value u.signed s)) (λ s. in_set ws start end [] (pattern_value signed s)) width
        (λ s. sym (values_same signed width start end of u same s)) e.0 (λ s l. e.1 s (l ∙ width_same signed width start end of u same)) in
        record { signed = signed; width = width; start = start; end = end; binder = _; is_uint = q; no_variable = z.0; none_left = z.1 }

    pub word_valueless : NoValue (construct_numbered (its_tree xs short st p) i).uint → Valueless ws i
    word_valueless e =
        elim (dec_lt i (nodes_of st)) [
          | yes l ↦ valueless l (construct_numbered (its_tree xs short st p) i).uint (same_there l) e
          | no l ↦ absurd (subst NoValue (none_past (omega arith)) e)
        ]

    -- a uint without a value is a node
    pub valueless_there : Valueless ws i → i < nodes_of st
    valueless_there v = (uint_node xs st p short i v.signed v.width v.start v.end v.binder v.is_uint).0
