-- Sets, counts and conditions of a right text mean what the trees of document 01 mean.
-- Assumes nothing.
use Prim.Native.Nat.{ℕ, ◌+◌, ◌-◌, ◌≤◌, ◌<◌}
use mathlib.Core.Path.{◌≡◌, refl, sym, ap, ◌∙◌}
use mathlib.Core.Bool.{Bool, true, false, cond}
use mathlib.Core.List.Memᴰ
use mathlib.Core.List.{List, [], ◌∷◌, map}
use mathlib.Core.Option.{Option, none, some}
use native.Mathlib.Omega.{arith}
use native.Mathlib.Decide.{dec_lt}
use borrow.Author.Tests.{lt-ltb, eq-eqb, ne_eqb}
use lib.ListN.{length}
use Rattle.basis.specs.Patterns.{pattern_value}
use Rattle.term_words.specs.declared.Kind.{Kind}
use Rattle.term_words.specs.declared.Term.{Term}
use Rattle.term_evaluation.specs.Counts.{form_of}
use Rattle.term_trees.specs.Trees.{ValueSet, Condition, Repeats}
use Rattle.term_trees.specs.Postfix.{set_terms, condition_terms, repeat_terms}
use Rattle.theory.specs.Grammar.{◌∈◌, repetition, switch}
use Rattle.theory.specs.Machine.{choose}
use Rattle.table_layout.specs.Held.{Values, HeldNode, term_words, is_exact, opening}
use Rattle.text_shapes.specs.TermShapes.{read_terms, rename_term, renamed_set, renamed_condition, renamed_repeats, SetShape, CountsShape}
use Rattle.text_shapes.specs.NodeShapes.{Conditioned}
use Rattle.text_shapes.specs.Stored.{Stored}
use Rattle.text_shapes.specs.Placed.{Placed}
use Rattle.text_shapes.proofs.ShapeLaws.{set_renamed, condition_renamed, repeats_renamed}
use Rattle.text_store.specs.Words.{kind_of, node_size, node_mark, own_from, own_end, condition_from, condition_end, is_binder}
use Rattle.text_encoding.specs.Numbers.{first_at, binders_before, variable_of, width_of, is_signed, own_length, own_start}
use Rattle.text_encoding.specs.Encoded.{encoded}
use Rattle.text_wellformed.specs.Context.{Readable, TreeAt, ConditionAt, without, with_one}
use Rattle.text_wellformed.proofs.NodeFacts.{nodes, tree_below, tree_size}
use Rattle.text_wellformed.proofs.TermsListed.{cut_variable}
use Rattle.text_meaning.specs.Meaning.{last_of, passes, uint_node, counts_in, static_counts, in_set, in_static_set, is_fixed, parts_of, own_list, condition_list, is_default, is_true, first_true, no_default, meant_node, grammar_of}
use Rattle.text_meaning.specs.Claims.{ListFits, UintMeans, CountsMean, met, Guards, SwitchMeans, Meanings}
use Rattle.text_meaning.proofs.ListsHeld.{OwnShape, set_shape, counts_shape, own_of_set, own_of_counts, own_under, condition_under, own_held, condition_held}
use Rattle.text_meaning.proofs.PartLists.{part_below, given, default_last}
use Rattle.text_meaning.proofs.TreeLists.{set_has, set_first, condition_has, form_is, counts_has, counts_first}

-- ---- the first of some numbers that passes a test

chosen_same : (p q : ℕ → Bool) (cs : List ℕ) → ((c : ℕ) → c ∈ cs → p c ≡ q c) → choose p cs ≡ choose q cs
unfolding choose
chosen_same p q [] same = refl
chosen_same p q (c ∷ cs) same = λ t. elim (same c (Memᴰ.head refl) t) [ true ↦ some c | false ↦ chosen_same p q cs (λ d m. same d (Memᴰ.tail m)) t ]

module _ (xs ns ts rs : List ℕ) (r : ℕ) where
  -- the default is taken where it stands
  by_tests : (v : Values) (cs : List ℕ) → first_true xs ns ts rs r v cs ≡ choose (λ c. cond (is_default ns c) true (is_true xs ns ts rs r v c)) cs
  unfolding first_true choose
  by_tests v [] = refl
  by_tests v (c ∷ cs) = go (is_default ns c) (is_true xs ns ts rs r v c) (first_true xs ns ts rs r v cs) (choose (λ c. cond (is_default ns c) true (is_true xs ns ts rs r v c)) cs) (by_tests v cs)
    where
      go : (d e : Bool) (x y : Option ℕ) → x ≡ y
          → ◌≡◌ {A = Option ℕ} (elim d [ true ↦ some c | false ↦ elim e [ true ↦ some c | false ↦ x ] ]) (elim (cond d true e) [ true ↦ some c | false ↦ y ])
      go true e x y z = refl
      go false true x y z = refl
      go false false x y z = z

module _ {xs ns ts rs : List ℕ} {n t b r : ℕ} (text : Readable xs ns ts rs n t b r) (stored : Stored xs ns ts) (places : Placed (length xs) ns ts rs) where
  -- a number below n is its node
  node_below : (i : ℕ) → i < n → (grammar_of xs ns ts rs n r).node i ≡ meant_node xs ns ts rs r i
  unfolding grammar_of
  node_below i h = rw (ne_eqb i opening (λ z. omega (arith, text.nodes_limit)), lt-ltb i n h) refl

  module _ (i : ℕ) (h : i < n) where
    -- the numbers of variables at node i
    abbrev own : ℕ → ℕ
    own p = variable_of xs ns (first_at rs r i) i p

    abbrev cut : ℕ → ℕ
    cut p = cut_variable xs ns (first_at rs r i) i p

    own_cut : OwnShape ns ts t i → own_list xs ns ts rs r i ≡ map (rename_term cut) (read_terms ts (own_from ns i) (own_end ns i - own_from ns i))
    own_cut o = sym (own_held text stored places i h o) ∙ own_under text stored places i h cut (λ p l. omega arith) o

    uint_means : kind_of ns i ≡ 8 → UintMeans ((grammar_of xs ns ts rs n r).node i) (is_signed xs ns i) (width_of xs ns i) (own_list xs ns ts rs r i) (is_binder ns i) (binders_before ns i)
    unfolding meant_node
    uint_means k =
        let list : List Term = own_list xs ns ts rs r i in
        let x : SetShape ts (own_from ns i) (own_end ns i) = set_shape text i h k in
        let tree : ValueSet = renamed_set own x.tree in
        let small : ValueSet = renamed_set cut x.tree in
        let is : list ≡ set_terms tree = ap (map (rename_term own)) x.is ∙ sym (set_renamed own x.tree) in
        let is_cut : list ≡ set_terms small = own_cut (own_of_set text i h k) ∙ ap (map (rename_term cut)) x.is ∙ sym (set_renamed cut x.tree) in
        let node_is : meant_node xs ns ts rs r i ≡ uint_node (is_signed xs ns i) (width_of xs ns i) list (is_binder ns i) (binders_before ns i) = rw k refl in
        record {
          admits = λ c v bits. in_set list v (pattern_value (is_signed xs ns i) bits);
          static = λ bits. in_static_set list (pattern_value (is_signed xs ns i) bits);
          node_is = node_below i h ∙ node_is;
          tree = tree;
          list_is = is;
          admitted = λ c v bits f. set_has list tree small is is_cut (x.room cut (λ p. omega arith)) v f (pattern_value (is_signed xs ns i) bits);
          at_first = λ v bits f. set_first list tree small is is_cut (x.room cut (λ p. omega arith)) v f (pattern_value (is_signed xs ns i) bits);
        }

    counts_mean : kind_of ns i ≡ 3 → node_mark ns i ≡ 4 → CountsMean ((grammar_of xs ns ts rs n r).node i) (own_list xs ns ts rs r i) (i + 1)
    unfolding meant_node
    counts_mean k w =
        let list : List Term = own_list xs ns ts rs r i in
        let o : OwnShape ns ts t i = own_of_counts text i h k w in
        let x : CountsShape ts (own_from ns i) (own_end ns i) = counts_shape text i h k w in
        let tree : Repeats = renamed_repeats own x.tree in
        let small : Repeats = renamed_repeats cut x.tree in
        let is : list ≡ repeat_terms tree = ap (map (rename_term own)) x.is ∙ sym (repeats_renamed own x.tree) in
        let is_cut : list ≡ repeat_terms small = own_cut o ∙ ap (map (rename_term cut)) x.is ∙ sym (repeats_renamed cut x.tree) in
        let from : ℕ = own_start ns i in
        let end : ℕ = own_start ns i + own_length ns i in
        let counted : (how : ℕ) → how ≡ 4
        → ◌≡◌ {A = HeldNode} (repetition (λ c v. passes how (counts_in list v)) (passes how (static_counts list)) (is_fixed how list) (i + 1)) (repetition (λ c v. counts_in list v) (static_counts list) (is_fixed 4 list) (i + 1)) =
        λ how z. ap (λ (m : ℕ). repetition (λ c v. passes m (counts_in list v)) (passes m (static_counts list)) (is_fixed m list) (i + 1)) z in
        let node_is : meant_node xs ns ts rs r i ≡ repetition (λ c v. counts_in list v) (static_counts list) (is_fixed 4 list) (i + 1) = rw k (counted (node_mark ns i) w) in
        record {
          counts = λ c v. counts_in list v;
          static = static_counts list;
          fixed = is_fixed 4 list;
          node_is = node_below i h ∙ node_is;
          tree = tree;
          list_is = is;
          allowed = λ c v f. counts_has (term_words (encoded xs ns ts rs n r)) from end (omega (arith, o.some)) list (own_held text stored places i h o) tree small is is_cut (x.room cut (λ p. omega arith)) v f;
          at_first = λ v f. counts_first (term_words (encoded xs ns ts rs n r)) from end (omega (arith, o.some)) list (own_held text stored places i h o) tree small is is_cut (x.room cut (λ p. omega arith)) v f;
          fixed_is = ap (λ (l : List Term). is_exact (form_of (last_of l))) is ∙ form_is tree;
        }

    -- ---- a case

    guard_of : ConditionAt ns ts t i → Option Condition
    guard_of (without u) = none
    guard_of (with_one d l) = some (renamed_condition own d.shape.tree)

    module _ {f e : ℕ} (d : Conditioned ns ts i f e) (l : e ≤ t) where
      read_is : read_terms ts (condition_from ns i) (condition_end ns i - condition_from ns i) ≡ condition_terms d.shape.tree
      read_is = rw (d.from_is, d.end_is) d.shape.is

      condition_is : condition_list xs ns ts rs r i ≡ condition_terms (renamed_condition own d.shape.tree)
      condition_is = ap (map (rename_term own)) read_is ∙ sym (condition_renamed own d.shape.tree)

      condition_cut : condition_list xs ns ts rs r i ≡ condition_terms (renamed_condition cut d.shape.tree)
      condition_cut =
          sym (condition_held text stored places i h d l) ∙ condition_under text stored places i h cut (λ p l. omega arith) d l ∙ ap (map (rename_term cut)) read_is
          ∙ sym (condition_renamed cut d.shape.tree)

    guarded : (a : ConditionAt ns ts t i) → Guards xs ns ts rs r i (guard_of a)
    unfolding guard_of
    guarded (without u) = eq-eqb (condition_from ns i) (condition_end ns i) (u.from_is ∙ sym u.end_is)
    guarded (with_one d l) = (given d, condition_is d l)

    case_met : (a : ConditionAt ns ts t i) (v : Values) → (is_default ns i ≡ false → ListFits Kind.Condition (condition_list xs ns ts rs r i) v) → cond (is_default ns i) true (is_true xs ns ts rs r v i) ≡ met v (guard_of a)
    unfolding guard_of
    case_met (without u) v f = ap (λ (x : Bool). cond x true (is_true xs ns ts rs r v i)) (eq-eqb (condition_from ns i) (condition_end ns i) (u.from_is ∙ sym u.end_is))
    case_met (with_one d l) v f =
        ap (λ (x : Bool). cond x true (is_true xs ns ts rs r v i)) (given d)
        ∙ condition_has (condition_list xs ns ts rs r i) (renamed_condition own d.shape.tree) (renamed_condition cut d.shape.tree) (condition_is d l) (condition_cut d l) (d.shape.room cut (λ p. omega arith)) v (f (given d))

  -- ---- a switch

  guard_by : (c : ℕ) → Dec (c < n) → Option Condition
  guard_by c (yes h) = guard_of c h ((nodes text).conditions c h)
  guard_by c (no l) = none

  guarded_by : (c : ℕ) → c < n → (d : Dec (c < n)) → Guards xs ns ts rs r c (guard_by c d)
  unfolding guard_by
  guarded_by c l (yes h) = guarded c h ((nodes text).conditions c h)
  guarded_by c l (no m) = absurd (m l)

  met_by : (c : ℕ) → c < n → (d : Dec (c < n)) (v : Values) → (is_default ns c ≡ false → ListFits Kind.Condition (condition_list xs ns ts rs r c) v) → cond (is_default ns c) true (is_true xs ns ts rs r v c) ≡ met v (guard_by c d)
  unfolding guard_by
  met_by c l (yes h) v f = case_met c h ((nodes text).conditions c h) v f
  met_by c l (no m) v f = absurd (m l)

  switch_means : (i : ℕ) → i < n → kind_of ns i ≡ 4 → SwitchMeans xs ns ts rs r ((grammar_of xs ns ts rs n r).node i) (parts_of ns i)
  unfolding meant_node
  switch_means i h k =
      let tree_at : TreeAt xs ns ts n t i = (nodes text).trees i h in
      let below : (c : ℕ) → c ∈ parts_of ns i → c < n =
      λ c m. omega (arith, part_below ns (node_size ns i) (i + 1) (i + node_size ns i) c m, tree_size tree_at.holds, tree_below tree_at.holds, tree_at.within) in
      let node_is : meant_node xs ns ts rs r i ≡ switch (λ c v. first_true xs ns ts rs r v (parts_of ns i)) (no_default ns (parts_of ns i)) (parts_of ns i) = rw k refl in
      record {
        chosen = λ c v. first_true xs ns ts rs r v (parts_of ns i);
        node_is = node_below i h ∙ node_is;
        default_last = default_last tree_at.holds k;
        guard = λ c. guard_by c (dec_lt c n);
        guards = λ c m. guarded_by c (below c m) (dec_lt c n);
        takes = λ c v f.
            by_tests xs ns ts rs r v (parts_of ns i)
            ∙ chosen_same (λ c. cond (is_default ns c) true (is_true xs ns ts rs r v c)) (λ c. met v (guard_by c (dec_lt c n))) (parts_of ns i) (λ c m. met_by c (below c m) (dec_lt c n) v (f c m));
      }

  pub meanings : Meanings xs ns ts rs n r
  meanings = record { uints = uint_means; counted_passes = counts_mean; switches = switch_means }
