-- Refusals 7 and 12 of the table's words are those of the tree.
-- Assumes nothing.
use Prim.Native.Nat.{ℕ, zero, suc, ◌+◌, ◌≤◌, ◌<◌, min}
use mathlib.Core.Path.{◌≡◌, refl, sym, ap, subst, ◌∙◌}
use mathlib.Core.Logic.{⊎_elim}
use mathlib.Core.Bool.{Bool, true, false, cond, ◌&&◌}
use mathlib.Core.List.{List, [], ◌∷◌}
use mathlib.Core.Option.{none}
use native.Mathlib.Omega.{arith}
use borrow.Author.Tests.{ltb-true, ltb-false}
use lib.Dec.{ltb, eqb}
use lib.ListN.{length}
use Rattle.basis.proofs.Booleans.{which, picked}
use Rattle.table_layout.specs.Places.{construct_word}
use Rattle.table_layout.specs.Constructs.{construct_at}
use Rattle.table_layout.specs.declared.Construct.{Construct}
use Rattle.table_reach.specs.Reaching.{body_of, rule_end, Uses, Reaches, directly, through, Acyclic, Unreached, AllReached, FirstUnreached}
use Rattle.text_store.specs.Store.{State, blank, node_words, term_words, rule_words, nodes_of, rules_of}
use Rattle.text_store.specs.Words.{kind_of, node_size, place_of, named_at, first_node, last_node}
use Rattle.text_encoding.specs.Lists.{narrow, first_of}
use Rattle.text_encoding.specs.Numbers.{rule_of, is_signed}
use Rattle.text_encoding.specs.Encoded.{kind_word, encoded}
use Rattle.text_names.specs.Names.{same_name}
use Rattle.text_wellformed.specs.Context.{Words}
use Rattle.text_wellformed.proofs.EncodedWords.{encoded_words}
use Rattle.text_wellformed.proofs.Coding.{construct_is}
use Rattle.tree.specs.Tree.{Rule, Rules}
use Rattle.tree_form.specs.Stored.{stored}
use Rattle.tree_meaning.specs.Pieces.{rules_of as rules_in}
use Rattle.tree_meaning.specs.Counted.{Totals, no_rule, with_rule, refusal_5}
use Rattle.tree_meaning.specs.Names.{refusal_6}
use Rattle.tree_meaning.specs.Reaching.{Refusal7, Acyclic as TreeAcyclic, UnreachedAt, Refusal12}
use Rattle.tree_store.proofs.Rows.{NodeRow, totals, tree_nodes, tree_totals}
use Rattle.tree_store.proofs.Holding.{compared}
use Rattle.tree_store.proofs.Storing.{totalled_tree, nodes_read}
use Rattle.tree_store.proofs.Standing.{SpelledBy}
use Rattle.tree_store.proofs.Limits.{Limited, limited, rows_many}
use Rattle.tree_store.proofs.Rowed.{NodesAt, no_nodes, node_then, RulesIn, no_rules, rule_then, Rowed, rowed}
use Rattle.tree_numbers.proofs.Rules.{At, at_first, at_later, at_below, RuleAt, rule_at, first_here, first_later}
use Rattle.tree_numbers.proofs.Reaching.{StoredUses, StoredReaches, by_use, by_way, refused_7, acyclic_7, StoredUnreached, refused_12, reached_12}
use Rattle.tree_numbers.proofs.Sums.{terms_together, binders_together}
use Rattle.tree_reach.proofs.SmallKinds.{Kinds, no_kinds, next_kind, rules_kinds}
use Rattle.tree_reach.proofs.Decoded.{use_back, use_forth}

-- ---- what is known of node i

record NodeKnown (ns : List ℕ) (i : ℕ) : Type 0 where
  small : kind_of ns i < 10
  single : kind_of ns i ≡ 5 → node_size ns i ≡ 1

node_known : {ns : List ℕ} {a : ℕ} {M : List NodeRow} → NodesAt ns a M → Kinds M → (i : ℕ) → a ≤ i → i < a + length M → NodeKnown ns i
node_known no_nodes no_kinds i l h = absurd (omega arith)
node_known {ns} {a} (node_then n more) (next_kind s k) i l h =
    compared i a (λ y. absurd (omega arith))
    (λ (y : i ≡ a).
    record {
      small = omega (arith, ap (kind_of ns) y, n.kind_is, s.small);
      single = λ e. ap (node_size ns) y ∙ n.size_is ∙ s.single (sym n.kind_is ∙ ap (kind_of ns) (sym y) ∙ e);
    })
    (λ y. node_known more k i (omega arith) (omega arith))

-- ---- rules one after the other

-- each ends where the next begins
ends_next : {ws : List ℕ} {n : Totals} {l : List Rule} {i : ℕ} {x y : Rule} → RulesIn ws n l → At l i x → At l (suc i) y → last_node ws (n.rules + i) ≡ first_node ws (n.rules + suc i)
ends_next no_rules x11 _ = elim x11 [ ]
ends_next (rule_then e f g no_rules) at_first (at_later b) = absurd (omega (arith, at_below b))
ends_next {ws} {n} (rule_then e f g (rule_then e' f' g' more)) at_first (at_later at_first) =
    ap (last_node ws) (let q : n.rules + 0 ≡ n.rules = omega arith in q) ∙ g ∙ sym f' ∙ ap (first_node ws) (let q : suc n.rules ≡ n.rules + 1 = omega arith in q)
ends_next {ws} {n} (rule_then e f g more) (at_later {j = i} a) (at_later b) =
    ap (last_node ws) (let q : n.rules + suc i ≡ suc n.rules + i = omega arith in q) ∙ ends_next more a b ∙ ap (first_node ws) (let q : suc n.rules + suc i ≡ n.rules + suc (suc i) = omega arith in q)

-- and the last at the end
ends_last : {ws : List ℕ} {n : Totals} {l : List Rule} {i : ℕ} {x : Rule} → RulesIn ws n l → At l i x → suc i ≡ length l → last_node ws (n.rules + i) ≡ (totals n l).all_constructs
unfolding totals
ends_last no_rules x11 h = elim x11 [ ]
ends_last {ws} {n} (rule_then e f g no_rules) at_first h = ap (last_node ws) (let q : n.rules + 0 ≡ n.rules = omega arith in q) ∙ g
ends_last {ws} {n} (rule_then e f g (rule_then e' f' g' more)) at_first h = absurd (omega arith)
ends_last {ws} {n} (rule_then e f g more) (at_later {j = i} a) h = ap (last_node ws) (let q : n.rules + suc i ≡ suc n.rules + i = omega arith in q) ∙ ends_last more a (omega arith)

grows : (n : Totals) (l : List Rule) → n.all_constructs ≤ (totals n l).all_constructs
unfolding totals
grows n [] = omega arith
grows n (x ∷ l) = omega (arith, grows (with_rule n x) l)

first_within : {ws : List ℕ} {n : Totals} (l : List Rule) {j : ℕ} {x : Rule} → RulesIn ws n l → At l j x → first_node ws (n.rules + j) ≤ (totals n l).all_constructs
unfolding totals
first_within [] _ x5 = elim x5 [ ]
first_within {ws} {n} (x ∷ l) (rule_then e f g more) at_first = omega (arith, ap (first_node ws) (let q : n.rules + 0 ≡ n.rules = omega arith in q), f, grows n (x ∷ l))
first_within {ws} {n} (x ∷ l) (rule_then e f g more) (at_later {j = j} a) = omega (arith, ap (first_node ws) (let q : suc n.rules + j ≡ n.rules + suc j = omega arith in q), first_within {n = with_rule n x} l more a)

last_within : {ws : List ℕ} {n : Totals} (l : List Rule) {j : ℕ} {x : Rule} → RulesIn ws n l → At l j x → last_node ws (n.rules + j) ≤ (totals n l).all_constructs
unfolding totals
last_within [] _ x5 = elim x5 [ ]
last_within {ws} {n} (x ∷ l) (rule_then e f g more) at_first = omega (arith, ap (last_node ws) (let q : n.rules + 0 ≡ n.rules = omega arith in q), g, grows (with_rule n x) l)
last_within {ws} {n} (x ∷ l) (rule_then e f g more) (at_later {j = j} a) = omega (arith, ap (last_node ws) (let q : suc n.rules + j ≡ n.rules + suc j = omega arith in q), last_within {n = with_rule n x} l more a)

first_upto : (n i : ℕ) (f : ℕ → Bool) → first_of n i f ≤ i + n
unfolding first_of
first_upto zero i f = omega arith
first_upto (suc n) i f = ⊎_elim (λ (z : f i ≡ true). omega (arith, first_here n i f z)) (λ (z : f i ≡ false). omega (arith, first_later n i f z, first_upto n (i + 1) f)) (which (f i))

-- ---- a use's kind is 5 in the table too, where a sint's is 12

abbrev coded : ℕ → Bool → ℕ
coded kind signed = cond (eqb kind 8 && signed) 12 kind

kind_small : (kind : ℕ) (signed : Bool) → kind < 10 → coded kind signed < 4294967296
kind_small kind signed h = picked (λ (k : ℕ). k < 4294967296) (eqb kind 8 && signed) (λ e. omega arith) (λ e. omega (arith, h))

kind_use : (kind : ℕ) (signed : Bool) → kind ≡ 5 → coded kind signed ≡ 5
kind_use kind signed e = ap (λ (k : ℕ). coded k signed) e

use_kind : (kind : ℕ) (signed : Bool) → coded kind signed ≡ 5 → kind ≡ 5
use_kind kind signed = picked (λ (k : ℕ). k ≡ 5 → kind ≡ 5) (eqb kind 8 && signed) (λ e f. absurd (omega (arith, f))) (λ e f. f)

-- ---- the table of a tree within the limits

module _ (xs ns ts rs : List ℕ) (r : ℕ) (t : Rules) (w : Rowed t ns ts rs r) (l : Limited t) where
  abbrev pub table : List ℕ
  table = encoded xs ns ts rs (length (tree_nodes t)) r

  few_nodes : length (tree_nodes t) ≤ 256
  few_nodes = omega (arith, (totalled_tree t).in_nodes, l.few_constructs)

  few_rules : r ≤ 64
  few_rules = omega (arith, w.number, (totalled_tree t).in_rules, rows_many no_rule (rules_in t), l.few_rules)

  words : Words xs ns ts rs (length (tree_nodes t)) r (encoded xs ns ts rs (length (tree_nodes t)) r)
  words =
      encoded_words xs ns ts rs (length (tree_nodes t)) r few_nodes few_rules (omega (arith, binders_together w, (totalled_tree t).in_binders, l.few_variables)) (omega (arith, terms_together w, (totalled_tree t).in_terms, l.few_terms))

  known : (i : ℕ) → i < length (tree_nodes t) → NodeKnown ns i
  known i h = node_known w.nodes_are (rules_kinds 0 (rules_in t)) i (omega arith) (omega arith)

  there : (k : ℕ) → k < r → RuleAt (rules_in t) k
  there k h = rule_at (rules_in t) k (omega (arith, w.number))

  body_is : (k : ℕ) → k < r → body_of (encoded xs ns ts rs (length (tree_nodes t)) r) k ≡ first_node rs k
  body_is k h =
      let f : first_node rs (0 + k) ≤ (tree_totals t).all_constructs = first_within (rules_in t) w.rules_are (there k h).there
      in words.rule_at k 0 h (omega arith) ∙ (let z : narrow (first_node rs k) ≡ first_node rs k = omega (arith, f, ap (first_node rs) (let q : 0 + k ≡ k = omega arith in q), l.few_constructs) in z)

  end_is : (k : ℕ) → k < r → rule_end (encoded xs ns ts rs (length (tree_nodes t)) r) k ≡ last_node rs k
  end_is k h =
      rw words.rules_are
      (⊎_elim
      (λ (e : ltb (k + 1) r ≡ true).
      let m : k + 1 < r = ltb-true (k + 1) r e
      in let q : last_node rs (0 + k) ≡ first_node rs (0 + suc k) = ends_next w.rules_are (there k h).there (there (suc k) (omega arith)).there
      in rw e (body_is (k + 1) m ∙ ap (first_node rs) (let z : k + 1 ≡ 0 + suc k = omega arith in z) ∙ sym q ∙ ap (last_node rs) (let z : 0 + k ≡ k = omega arith in z)))
      (λ (e : ltb (k + 1) r ≡ false).
      let m : r ≤ k + 1 = ltb-false (k + 1) r e
      in let q : last_node rs (0 + k) ≡ (tree_totals t).all_constructs = ends_last w.rules_are (there k h).there (omega (arith, w.number))
      in rw e (words.constructs_are ∙ (totalled_tree t).in_nodes ∙ sym q ∙ ap (last_node rs) (let z : 0 + k ≡ k = omega arith in z)))
      (which (ltb (k + 1) r)))

  -- a node of a rule is one of all
  inside : (k i : ℕ) → k < r → i < last_node rs k → i < length (tree_nodes t)
  inside k i h g =
      let f : last_node rs (0 + k) ≤ (tree_totals t).all_constructs = last_within (rules_in t) w.rules_are (there k h).there
      in omega (arith, f, ap (last_node rs) (let q : 0 + k ≡ k = omega arith in q), (totalled_tree t).in_nodes)

  -- ---- uses

  rule_small : (p : ℕ) → rule_of xs rs r p ≤ r
  rule_small p = omega (arith, first_upto r 0 (λ j. same_name xs (named_at rs j) p))

  module _ (i : ℕ) (h : i < length (tree_nodes t)) where
    kind_is : construct_word (encoded xs ns ts rs (length (tree_nodes t)) r) i 0 ≡ kind_word xs ns i
    kind_is = construct_is words i h 0 (kind_word xs ns i) (omega arith) refl (kind_small (kind_of ns i) (is_signed xs ns i) (known i h).small)

    rule_word_is : kind_of ns i ≡ 5 → construct_word (encoded xs ns ts rs (length (tree_nodes t)) r) i 2 ≡ rule_of xs rs r (place_of ns i)
    rule_word_is e = construct_is words i h 2 (rule_of xs rs r (place_of ns i)) (omega arith) (rw e refl) (omega (arith, rule_small (place_of ns i), few_rules))

    size_word : kind_of ns i ≡ 5 → construct_word (encoded xs ns ts rs (length (tree_nodes t)) r) i 1 ≡ 1
    size_word e = construct_is words i h 1 1 (omega arith) ((known i h).single e) (omega arith)

    decoded_back : (q : ℕ) → construct_at (encoded xs ns ts rs (length (tree_nodes t)) r) i ≡ Construct.Use q → (kind_of ns i ≡ 5) × (rule_of xs rs r (place_of ns i) ≡ q)
    decoded_back q e =
        let b : (construct_word (encoded xs ns ts rs (length (tree_nodes t)) r) i 0 ≡ 5) × (construct_word (encoded xs ns ts rs (length (tree_nodes t)) r) i 2 ≡ q) = use_back (encoded xs ns ts rs (length (tree_nodes t)) r) i q e
        in let k : kind_of ns i ≡ 5 = use_kind (kind_of ns i) (is_signed xs ns i) (sym kind_is ∙ b.0)
        in (k, sym (rule_word_is k) ∙ b.1)

    decoded : (q : ℕ) → kind_of ns i ≡ 5 → rule_of xs rs r (place_of ns i) ≡ q → q < r → construct_at (encoded xs ns ts rs (length (tree_nodes t)) r) i ≡ Construct.Use q
    decoded q e f g = use_forth (encoded xs ns ts rs (length (tree_nodes t)) r) i q (omega (arith, few_nodes)) (kind_is ∙ kind_use (kind_of ns i) (is_signed xs ns i) e) (size_word e) (rule_word_is e ∙ f) (omega (arith, few_rules))

  -- ---- reaching

  uses_back : {k q : ℕ} → Uses (encoded xs ns ts rs (length (tree_nodes t)) r) k q → StoredUses xs ns rs r k q
  uses_back {k} {q} u =
      let z : k < r = omega (arith, u.rule, words.rules_are)
      in let o : u.at < last_node rs k = omega (arith, u.upto, end_is k z)
      in let g : u.at < length (tree_nodes t) = inside k u.at z o
      in let d : (kind_of ns u.at ≡ 5) × (rule_of xs rs r (place_of ns u.at) ≡ q) = decoded_back u.at g q u.used
      in record { at = u.at; rule = z; from = omega (arith, u.from, body_is k z); upto = o; is_use = d.0; used = d.1 }

  uses_forth : {k q : ℕ} → StoredUses xs ns rs r k q → q < r → Uses (encoded xs ns ts rs (length (tree_nodes t)) r) k q
  uses_forth {k} {q} u h =
      record {
        at = u.at;
        rule = omega (arith, u.rule, words.rules_are);
        from = omega (arith, u.from, body_is k u.rule);
        upto = omega (arith, u.upto, end_is k u.rule);
        used = decoded u.at (inside k u.at u.rule u.upto) q u.is_use u.used h;
      }

  reaches_back : {k q : ℕ} → Reaches (encoded xs ns ts rs (length (tree_nodes t)) r) k q → StoredReaches xs ns rs r k q
  reaches_back (directly u) = by_use (uses_back u)
  reaches_back (through u more) = by_way (uses_back u) (reaches_back more)

  begins_with : {k q : ℕ} → StoredReaches xs ns rs r k q → k < r
  begins_with (by_use u) = u.rule
  begins_with (by_way u more) = u.rule

  reaches_forth : {k q : ℕ} → StoredReaches xs ns rs r k q → q < r → Reaches (encoded xs ns ts rs (length (tree_nodes t)) r) k q
  reaches_forth (by_use u) h = directly (uses_forth u h)
  reaches_forth (by_way u more) h = through (uses_forth u (begins_with more)) (reaches_forth more h)

  -- ---- refusal 7

  module _ (spelled : SpelledBy xs t) (none-wrong : refusal_6 t ≡ none) where
    -- the first rule of the table that reaches itself is the tree's
    pub table_refused_7 : (k : ℕ) → Reaches (encoded xs ns ts rs (length (tree_nodes t)) r) k k → ((q : ℕ) → q < k → Reaches (encoded xs ns ts rs (length (tree_nodes t)) r) q q → ⊥) → Refusal7 t (named_at rs k)
    table_refused_7 k s least = refused_7 xs ns ts rs r t spelled w none-wrong k (reaches_back s) (λ q z u. least q z (reaches_forth u (begins_with u)))

    -- and where none of the table does, none of the tree does
    pub table_acyclic_7 : Acyclic (encoded xs ns ts rs (length (tree_nodes t)) r) → TreeAcyclic t
    table_acyclic_7 never = acyclic_7 xs ns ts rs r t spelled w none-wrong (λ k u. never k (reaches_forth u (begins_with u)))

    -- ---- refusal 12

    unreached_back : (k : ℕ) → Unreached (encoded xs ns ts rs (length (tree_nodes t)) r) k → StoredUnreached xs ns ts rs r t spelled w none-wrong k
    unreached_back k u =
        let z : k < r = omega (arith, u.there, words.rules_are) in record { there = z; other = u.other; unreached = λ s. u.unreached (reaches_forth s z) }

    unreached_forth : (k : ℕ) → StoredUnreached xs ns ts rs r t spelled w none-wrong k → Unreached (encoded xs ns ts rs (length (tree_nodes t)) r) k
    unreached_forth k u = record { there = omega (arith, u.there, words.rules_are); other = u.other; unreached = λ s. u.unreached (reaches_back s) }

    -- the first rule of the table that is not reached is the tree's
    pub table_refused_12 : (k : ℕ) → FirstUnreached (encoded xs ns ts rs (length (tree_nodes t)) r) k → Refusal12 t (named_at rs k)
    table_refused_12 k (u, least) = refused_12 xs ns ts rs r t spelled w none-wrong k (unreached_back k u) (λ q z s. least q z (unreached_forth q s))

    -- and where all of the table are reached, all of the tree are
    pub table_reached_12 : AllReached (encoded xs ns ts rs (length (tree_nodes t)) r) → (p : ℕ) → UnreachedAt t p → ⊥
    table_reached_12 all = reached_12 xs ns ts rs r t spelled w none-wrong (λ k s. all k (unreached_forth k s))

-- ---- what the reader stores of a text

-- the words that are encoded from it
abbrev pub words_of : List ℕ → State → List ℕ
words_of xs st = encoded xs (node_words st) (term_words st) (rule_words st) (nodes_of st) (rules_of st)

many_nodes : (t : Rules) → Limited t → nodes_of (stored t blank) ≡ length (tree_nodes t)
many_nodes t l = nodes_read t ∙ (let q : min (tree_totals t).all_constructs 257 ≡ (tree_totals t).all_constructs = omega (arith, l.few_constructs) in q) ∙ sym (totalled_tree t).in_nodes

-- Refusal 7 of a text that spells a tree, which 5 and 6 have passed, is refusal 7 of the tree.
pub refused_7_of : {xs : List ℕ} {t : Rules} → SpelledBy xs t → refusal_5 t ≡ none → refusal_6 t ≡ none → (k : ℕ) → Reaches (words_of xs (stored t blank)) k k
    → ((q : ℕ) → q < k → Reaches (words_of xs (stored t blank)) q q → ⊥) → Refusal7 t (named_at (rule_words (stored t blank)) k)
refused_7_of {xs} {t} h five six k s least =
    let l : Limited t = limited t five
    in let e : nodes_of (stored t blank) ≡ length (tree_nodes t) = many_nodes t l
    in table_refused_7 xs (node_words (stored t blank)) (term_words (stored t blank)) (rule_words (stored t blank)) (rules_of (stored t blank)) t (rowed t l) l h six k (subst (λ (n : ℕ). Reaches (of n) k k) e s)
    (λ q z u. least q z (subst (λ (n : ℕ). Reaches (of n) q q) (sym e) u))
  where
    of : ℕ → List ℕ
    of n = encoded xs (node_words (stored t blank)) (term_words (stored t blank)) (rule_words (stored t blank)) n (rules_of (stored t blank))

-- and where no rule of the table reaches itself, none of the tree does
pub acyclic_7_of : {xs : List ℕ} {t : Rules} → SpelledBy xs t → refusal_5 t ≡ none → refusal_6 t ≡ none → Acyclic (words_of xs (stored t blank)) → TreeAcyclic t
acyclic_7_of {xs} {t} h five six never =
    let l : Limited t = limited t five
    in table_acyclic_7 xs (node_words (stored t blank)) (term_words (stored t blank)) (rule_words (stored t blank)) (rules_of (stored t blank)) t (rowed t l) l h six
    (subst (λ (n : ℕ). Acyclic (encoded xs (node_words (stored t blank)) (term_words (stored t blank)) (rule_words (stored t blank)) n (rules_of (stored t blank)))) (many_nodes t l) never)

-- Refusal 12 of such a text is refusal 12 of the tree,
pub refused_12_of : {xs : List ℕ} {t : Rules} → SpelledBy xs t → refusal_5 t ≡ none → refusal_6 t ≡ none → (k : ℕ) → FirstUnreached (words_of xs (stored t blank)) k → Refusal12 t (named_at (rule_words (stored t blank)) k)
refused_12_of {xs} {t} h five six k u =
    let l : Limited t = limited t five
    in table_refused_12 xs (node_words (stored t blank)) (term_words (stored t blank)) (rule_words (stored t blank)) (rules_of (stored t blank)) t (rowed t l) l h six k
    (subst (λ (n : ℕ). FirstUnreached (encoded xs (node_words (stored t blank)) (term_words (stored t blank)) (rule_words (stored t blank)) n (rules_of (stored t blank))) k) (many_nodes t l) u)

-- and where every rule of the table is reached, every rule of the tree is
pub reached_12_of : {xs : List ℕ} {t : Rules} → SpelledBy xs t → refusal_5 t ≡ none → refusal_6 t ≡ none → AllReached (words_of xs (stored t blank)) → (p : ℕ) → UnreachedAt t p → ⊥
reached_12_of {xs} {t} h five six all =
    let l : Limited t = limited t five
    in table_reached_12 xs (node_words (stored t blank)) (term_words (stored t blank)) (rule_words (stored t blank)) (rules_of (stored t blank)) t (rowed t l) l h six
    (subst (λ (n : ℕ). AllReached (encoded xs (node_words (stored t blank)) (term_words (stored t blank)) (rule_words (stored t blank)) n (rules_of (stored t blank)))) (many_nodes t l) all)
