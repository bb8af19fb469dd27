-- Of a text whose tokens spell a tree, and for which 5, 6 and 8 are not given: the grammar of what is stored of it and the tree's have the same sets, weights,
-- derivations and runs, with values threaded through and with variables local to a rule.
-- Assumes nothing.
use Prim.Native.Nat.{ℕ}
use mathlib.Core.Path.{◌≡◌, refl, sym, ◌∙◌, subst}
use mathlib.Core.Logic.{◌↔◌}
use mathlib.Core.Bool.{Bool, true, false, cond}
use mathlib.Core.List.{List, []}
use mathlib.Core.Option.{none}
use lib.Dec.{eqb}
use lib.IntN.{ℤ, pos}
use lib.ListN.{length, take, length-replicate}
use Rattle.basis.specs.Bits.{Bits}
use Rattle.theory.specs.Grammar.{alternative, concatenation, repetition, switch, use_of, field, eod, Grammar}
use Rattle.theory.specs.Derivation.{Tree, Derivation}
use Rattle.theory.specs.Machine.{Tests, opened, granted}
use Rattle.theory.specs.Scope.{Scope, localised}
use Rattle.theory.specs.Theorems.{Derivable}
use Rattle.table_scope.specs.Scope.{value_of, store, fresh}
use Rattle.text_store.specs.Store.{blank, node_words, term_words, rule_words, nodes_of, rules_of}
use Rattle.text_meaning.specs.Meaning.{grammar_of}
use Rattle.tree.specs.Tree.{Rules}
use Rattle.tree_form.specs.Stored.{stored}
use Rattle.tree_meaning.specs.Pieces.{rules_of as rules_in}
use Rattle.tree_meaning.specs.Counted.{refusal_5}
use Rattle.tree_meaning.specs.Names.{refusal_6}
use Rattle.tree_meaning.specs.Sizes.{refusal_8}
use Rattle.tree_meaning.specs.Grammar.{Context, Values, TreeNode, plain_at, use_node, tree_constructs, construct_numbered, opening, tree_grammar}
use Rattle.tree_meaning.specs.Local.{local_node, local_grammar}
use Rattle.tree_meaning.proofs.Agreeing.{SameNode, same_back}
use Rattle.tree_meaning.proofs.Fields.{WideNode, field_widths}
use Rattle.tree_meaning.proofs.Keeping.{rules_first, text_begins}
use Rattle.tree_meaning.proofs.Meeting.{at_every}
use Rattle.tree_meaning.proofs.Localising.{zeros, local_is, local_same}
use Rattle.tree_store.proofs.Standing.{SpelledBy}
use Rattle.tree_grammar.proofs.SameGrammar.{Kept, same_node}
use Rattle.tree_agreement.proofs.SameNodes.{SameNodes, grammar_back}
use Rattle.tree_agreement.proofs.SameSets.{SameSets, same_sets}
use Rattle.tree_agreement.proofs.Derivations.{same_derivations, same_derivable}
use Rattle.tree_agreement.proofs.SameRuns.{OwnWidth, same_run}

-- the grammar of what is stored of a tree that these bytes spell
abbrev pub stored_grammar : List ℕ → Rules → Grammar Context Values
stored_grammar xs t =
    grammar_of xs (node_words (stored t blank)) (term_words (stored t blank)) (rule_words (stored t blank)) (nodes_of (stored t blank)) (rules_of (stored t blank))

-- ---- what the tree's grammar has of itself

-- widths are numbers
own_width : (n : TreeNode) → WideNode n → OwnWidth n
own_width (alternative is) w = tt
own_width (concatenation is) w = tt
own_width (repetition counts static fixed b) w = tt
own_width (switch chosen optional is) w = tt
own_width (use_of enters opens closes b) w = tt
own_width (field wide admits static binds) w = λ s l. w.always (take (wide s) s) ∙ sym (w.always s)
own_width eod w = tt

own_widths : (t : Rules) → refusal_8 t ≡ none → (i : ℕ) → OwnWidth ((tree_grammar t).node i)
unfolding tree_grammar
own_widths t e i = by (eqb i opening)
  where
    by : (c : Bool) → OwnWidth (cond c (use_node 0) (construct_numbered t i).node)
    by true = tt
    by false = own_width (construct_numbered t i).node (at_every WideNode (tree_constructs t) (plain_at 0 (alternative [])) (field_widths t e) tt i)

-- it begins with values that are met
kept_first : (t : Rules) → Kept t (tree_grammar t).values
unfolding tree_grammar
kept_first t = (text_begins t, length-replicate {A = ℤ} 64 (pos 0))

-- values that are all 0 are met too
kept_zeros : (t : Rules) (v : Values) → Kept t v → Kept t (zeros v)
kept_zeros t v k = (rules_first (length v) 0 (rules_in t), length-replicate {A = ℤ} (length v) (pos 0) ∙ k.1)

-- ---- the claims

module _ {xs : List ℕ} {t : Rules} (spelled : SpelledBy xs t) (five : refusal_5 t ≡ none) (six : refusal_6 t ≡ none) (eight : refusal_8 t ≡ none) where
  -- the tree's comes first: it is known to begin with values that are met
  tree_first : SameNodes (Kept t) (tree_grammar t) (stored_grammar xs t)
  unfolding grammar_of tree_grammar
  tree_first =
      record { nodes = λ i. same_back (Kept t) (same_node spelled five six eight i); starts = refl; contexts = refl; values_same = refl; begins = kept_first t }

  -- nodes that are the same at values that are met, from the same beginning
  pub same_text : SameNodes (Kept t) (stored_grammar xs t) (tree_grammar t)
  same_text = grammar_back tree_first

  -- windows, conflicts, empty bodies and weights
  pub text_sets : SameSets (stored_grammar xs t) (tree_grammar t)
  text_sets = same_sets same_text

  -- derivations, values threaded through
  pub text_derivations : (s : Bits) (d : Tree) (v : Values) → Derivation (stored_grammar xs t) s d v ↔ Derivation (tree_grammar t) s d v
  text_derivations = same_derivations same_text

  -- whether there is one
  pub text_derivable : (s : Bits) → Derivable (stored_grammar xs t) s ↔ Derivable (tree_grammar t) s
  text_derivable = same_derivable same_text

  -- steps, however windows are looked up
  pub text_run : (tests : Tests) (n : ℕ) (s : Bits) → granted (stored_grammar xs t) tests n (opened (stored_grammar xs t) tests s) ≡ granted (tree_grammar t) tests n (opened (tree_grammar t) tests s)
  text_run tests n s = sym (same_run (Kept t) (tree_grammar t) (stored_grammar xs t) tests tree_first (own_widths t eight) n s)

  -- variables local to a rule, where every use opens its rule
  module _ (scope : Scope) (opens : (i : ℕ) → scope.opens_rule i ≡ true) where
    -- nodes and beginnings
    pub same_local : SameNodes (Kept t) (localised store scope fresh (stored_grammar xs t)) (local_grammar t)
    same_local =
        record {
          nodes =
              λ i. subst (λ (n : TreeNode). SameNode (Kept t) n (local_node ((tree_grammar t).node i))) (sym (local_is value_of scope i (opens i) ((stored_grammar xs t).node i)))
              (local_same (Kept t) (kept_zeros t) (same_text.nodes i));
          starts = same_text.starts;
          contexts = same_text.contexts;
          values_same = same_text.values_same;
          begins = same_text.begins;
        }

    -- derivations
    pub local_derivations : (s : Bits) (d : Tree) (v : Values) → Derivation (localised store scope fresh (stored_grammar xs t)) s d v ↔ Derivation (local_grammar t) s d v
    local_derivations = same_derivations same_local

    -- whether there is one
    pub local_derivable : (s : Bits) → Derivable (localised store scope fresh (stored_grammar xs t)) s ↔ Derivable (local_grammar t) s
    local_derivable = same_derivable same_local
