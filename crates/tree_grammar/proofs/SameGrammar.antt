-- The grammar that a text's stored words mean is the tree's: for a text whose tokens spell a tree and for which 5, 6 and 8 are not given, the nodes of every
-- number are the same at all values that a run or a derivation meets (`tree_meaning` `Agreeing`).
-- Assumes nothing.
use Prim.Native.Nat.{ℕ, zero, suc, ◌+◌, ◌≤◌, ◌<◌, min}
use mathlib.Core.Path.{◌≡◌, refl, sym, ap, ◌∙◌, subst}
use mathlib.Core.Logic.{⊎_elim}
use mathlib.Core.Bool.{Bool, true, false, cond}
use mathlib.Core.List.{List, [], ◌∷◌}
use mathlib.Core.Option.{none}
use native.Mathlib.Omega.{arith}
use borrow.Author.Tests.{ltb-true, ltb-false}
use lib.Dec.{eqb, ltb}
use lib.ListN.{length, get_or, length-append, length-set}
use Rattle.basis.proofs.Booleans.{which}
use Rattle.theory.specs.Grammar.{alternative}
use Rattle.text_store.specs.Store.{blank, node_words, term_words, rule_words, nodes_of, rules_of}
use Rattle.text_store.specs.Words.{first_node}
use Rattle.text_encoding.specs.Lists.{sum}
use Rattle.text_meaning.specs.Meaning.{meant_node, opened, grammar_of}
use Rattle.tree.specs.Lexemes.{finish}
use Rattle.tree.specs.Tree.{Rule, Rules, last_rule, and_rules}
use Rattle.tree_form.specs.Stored.{stored}
use Rattle.tree_meaning.specs.Pieces.{rules_of as rules_in, rule_body, variables_of}
use Rattle.tree_meaning.specs.Counted.{no_rule, rule_constructs, refusal_5}
use Rattle.tree_meaning.specs.Names.{rule_names, refusal_6}
use Rattle.tree_meaning.specs.Sizes.{refusal_8}
use Rattle.tree_meaning.specs.Grammar.{Values, Construct, plain_at, use_node, constructs_of, body_of, variable_of, rules_constructs, tree_constructs, construct_numbered, opening, tree_grammar}
use Rattle.tree_meaning.proofs.Agreeing.{SameNode, same_alternative, same_use}
use Rattle.tree_meaning.proofs.Meeting.{InText}
use Rattle.tree_meaning.proofs.Keeping.{all_bindings}
use Rattle.tree_meaning.proofs.Lengths.{as_counted}
use Rattle.tree_meaning.proofs.Passing as Pass
use Rattle.tree_store.proofs.Rows.{node_rows, term_rows, rules_nodes, tree_totals}
use Rattle.tree_store.proofs.Lengths.{nodes_counted}
use Rattle.tree_store.proofs.Limits.{Limited, limited}
use Rattle.tree_store.proofs.Standing.{SpelledBy, spelled_stand}
use Rattle.tree_store.proofs.Storing.{totalled_tree, nodes_read}
use Rattle.tree_store.proofs.Rowed.{RulesIn, rule_then, rowed}
use Rattle.tree_numbers.proofs.Rules.{At}
use Rattle.tree_grammar.proofs.Lists.{text_rows}
use Rattle.tree_grammar.proofs.Nodes.{SameUint}
use Rattle.tree_grammar.proofs.Walk.{AllMeant}
use Rattle.tree_grammar.proofs.AllRules.{rules_meant}

-- 64 values, those of the text's variables within their widths: what every derivation has from its first values on
abbrev pub Kept : Rules → Values → Type 0
Kept t v = InText t v × (length v ≡ 64)

-- as many nodes as constructs
as_many : (all : List Rule) (u i b : ℕ) (l : List Rule) → length (rules_nodes u l) ≡ length (rules_constructs all i b l)
unfolding rules_nodes rules_constructs
as_many all u i b [] = refl
as_many all u i b (x ∷ l) =
    let c = constructs_of (body_of 0 all) (variable_of b (variables_of x)) false i (rule_body x)
    in let cs = rules_constructs all (i + rule_constructs x) (b + length (variables_of x)) l
    in let M = rules_nodes (u + length (term_rows (rule_body x))) l
    in omega (arith, length-append (node_rows false (rule_body x) u) M, length-append c cs, nodes_counted false (rule_body x) u, as_counted (body_of 0 all) (variable_of b (variables_of x)) false i (rule_body x), as_many all (u + length (term_rows (rule_body x))) (i + rule_constructs x) (b + length (variables_of x)) l)

begins_at : {ws : List ℕ} (t : Rules) → RulesIn ws no_rule (rules_in t) → first_node ws 0 ≡ 0
unfolding rules_in
begins_at (last_rule x) (rule_then e f g more) = f
begins_at (and_rules x t) (rule_then e f g more) = f

-- past the end of a list stands what stands for nothing
pub past_end : (cs : List Construct) (k : ℕ) (d : Construct) → length cs ≤ k → get_or cs k d ≡ d
past_end [] k d l = refl
past_end (c ∷ cs) zero d l = absurd (omega arith)
past_end (c ∷ cs) (suc k) d l = past_end cs k d (omega arith)

-- node j, and a construct
abbrev Alike : (P : Values → Type 0) (xs ns ts ws : List ℕ) (r j : ℕ) → Construct → Type 0
Alike P xs ns ts ws r j c = SameNode P (meant_node xs ns ts ws r j) c.node × SameUint xs ns ts ws r j c.uint

at_number : (P : Values → Type 0) (xs ns ts ws : List ℕ) (r i : ℕ) (cs : List Construct) (d : Construct) → AllMeant P xs ns ts ws r i cs → (k : ℕ) → k < length cs → Alike P xs ns ts ws r (i + k) (get_or cs k d)
unfolding AllMeant
at_number P xs ns ts ws r i [] d h k l = absurd (omega arith)
at_number P xs ns ts ws r i (c ∷ cs) d h zero l = subst (λ (j : ℕ). Alike P xs ns ts ws r j c) (let q : i ≡ i + 0 = omega arith in q) (h.0, h.1)
at_number P xs ns ts ws r i (c ∷ cs) d h (suc k) l = subst (λ (j : ℕ). Alike P xs ns ts ws r j (get_or cs k d)) (let q : suc i + k ≡ i + suc k = omega arith in q) (at_number P xs ns ts ws r (suc i) cs d h.2 k (omega arith))

module _ {xs : List ℕ} {t : Rules} (spelled : SpelledBy xs t) (five : refusal_5 t ≡ none) (six : refusal_6 t ≡ none) (eight : refusal_8 t ≡ none) where
  abbrev ns : List ℕ
  ns = node_words (stored t blank)

  abbrev ts : List ℕ
  ts = term_words (stored t blank)

  abbrev ws : List ℕ
  ws = rule_words (stored t blank)

  abbrev r : ℕ
  r = rules_of (stored t blank)

  small : Limited t
  small = limited t five

  pub all_meant : AllMeant (Kept t) xs ns ts ws r 0 (tree_constructs t)
  unfolding sum
  all_meant =
      rules_meant spelled (rowed t small) (λ v p. p.1) t no_rule [] (finish spelled.end ∷ []) (λ j x m. subst (λ (k : ℕ). At (rules_in t) k x) (let q : j ≡ 0 + j = omega arith in q) m)
      (rowed t small).nodes_are (text_rows t small) (rowed t small).rules_are (spelled_stand spelled) refl (omega (arith, (Pass.limited t five).variables_fit)) (Pass.named t six) (Pass.fits t eight)
      (all_bindings (Kept t) (rule_names t) [] (λ v. length v ≡ 64) 0 (rules_in t) (λ v p. (p.1, p.0)) (λ v q p. (p, q)) (λ v k a l q. length-set v k a ∙ q) (Pass.named t six)) (λ v p. p.0)

  abbrev n : ℕ
  n = nodes_of (stored t blank)

  -- as many nodes are stored as the tree has constructs
  pub count : n ≡ length (tree_constructs t)
  count =
      nodes_read t
      ∙ (let q : min (tree_totals t).all_constructs 257 ≡ (tree_totals t).all_constructs = omega (arith, small.few_constructs) in q)
      ∙ sym (totalled_tree t).in_nodes
      ∙ as_many (rules_in t) 0 0 0 (rules_in t)

  alike : (i : ℕ) → i < n → Alike (Kept t) xs ns ts ws r i (construct_numbered t i)
  alike i l =
      subst (λ (j : ℕ). Alike (Kept t) xs ns ts ws r j (construct_numbered t i)) (let q : 0 + i ≡ i = omega arith in q)
      (at_number (Kept t) xs ns ts ws r 0 (tree_constructs t) (plain_at 0 (alternative [])) all_meant i (omega (arith, count)))

  none_past : (i : ℕ) → n ≤ i → construct_numbered t i ≡ plain_at 0 (alternative [])
  none_past i l = past_end (tree_constructs t) i (plain_at 0 (alternative [])) (omega (arith, count))

  inner : (i : ℕ) → SameNode (Kept t) (cond (ltb i n) (meant_node xs ns ts ws r i) (alternative [])) (construct_numbered t i).node
  inner i =
      ⊎_elim
      (λ (e : ltb i n ≡ true). subst (λ (c : Bool). SameNode (Kept t) (cond c (meant_node xs ns ts ws r i) (alternative [])) (construct_numbered t i).node) (sym e) (alike i (ltb-true i n e)).0)
      (λ (e : ltb i n ≡ false).
      subst (λ (c : Bool). SameNode (Kept t) (cond c (meant_node xs ns ts ws r i) (alternative [])) (construct_numbered t i).node) (sym e)
      (subst (λ (c : Construct). SameNode (Kept t) (alternative []) c.node) (sym (none_past i (ltb-false i n e))) same_alternative))
      (which (ltb i n))

  -- uints: of the nodes, and none past them
  pub same_uint : (i : ℕ) → i < n → SameUint xs ns ts ws r i (construct_numbered t i).uint
  same_uint i l = (alike i l).1

  pub no_uint_past : (i : ℕ) → n ≤ i → (construct_numbered t i).uint ≡ none
  no_uint_past i l = ap (λ (c : Construct). c.uint) (none_past i l)

  -- the claim
  pub same_node : (i : ℕ) → SameNode (Kept t) ((grammar_of xs ns ts ws n r).node i) ((tree_grammar t).node i)
  unfolding grammar_of tree_grammar
  same_node i = by (eqb i opening)
    where
      by : (c : Bool) → SameNode (Kept t) (cond c (opened ws 0) (cond (ltb i n) (meant_node xs ns ts ws r i) (alternative []))) (cond c (use_node 0) (construct_numbered t i).node)
      by true = subst (λ (k : ℕ). SameNode (Kept t) (use_node k) (use_node 0)) (sym (begins_at t (rowed t small).rules_are)) (same_use (λ c v p. p) (λ v v' p q. q))
      by false = inner i
