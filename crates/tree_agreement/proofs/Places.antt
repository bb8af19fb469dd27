-- Of a text whose tokens spell a tree, and for which 5, 6 and 8 are not given: a construct with an empty body or a conflict is one of the tree's, its place and
-- mark are stored as the tree has them, and so is the start rule's.
-- Assumes nothing.
use Prim.Native.Nat.{ℕ, ◌≤◌, ◌<◌}
use mathlib.Core.Path.{◌≡◌, sym, ap, subst}
use mathlib.Core.Logic.{⊎_elim}
use mathlib.Core.Bool.{Bool, true, false, cond}
use mathlib.Core.List.Memᴰ
use mathlib.Core.List.{List, [], ◌∷◌}
use mathlib.Core.Option.{none}
use native.Mathlib.Omega.{arith}
use borrow.Author.Tests.{ltb-true, ltb-false, eqb-true}
use lib.Dec.{eqb, ltb}
use lib.ListN.{length}
use Rattle.basis.specs.Bits.{Bits}
use Rattle.basis.proofs.Booleans.{picked, which}
use Rattle.theory.specs.Grammar.{alternative, concatenation, repetition, switch, use_of, field, eod, ◌∈◌}
use Rattle.theory.specs.Lookahead.{Conflict, of_branches, of_passes, EmptyBody, empty_body}
use Rattle.text_store.specs.Store.{blank, node_words, term_words, rule_words, nodes_of, rules_of}
use Rattle.text_store.specs.Words.{kind_of, place_of, mark_place, named_at}
use Rattle.text_meaning.specs.Meaning.{meant_node, grammar_of}
use Rattle.tree.specs.Tree.{Rules, last_rule, and_rules}
use Rattle.tree_form.specs.Stored.{stored}
use Rattle.tree_meaning.specs.Pieces.{rules_of as rules_in, rule_name}
use Rattle.tree_meaning.specs.Counted.{no_rule, refusal_5}
use Rattle.tree_meaning.specs.Names.{refusal_6}
use Rattle.tree_meaning.specs.Sizes.{refusal_8}
use Rattle.tree_meaning.specs.Grammar.{TreeNode, Construct, plain_at, use_node, tree_constructs, construct_numbered, opening, tree_grammar}
use Rattle.tree_meaning.specs.Reaching.{start_rule}
use Rattle.tree_store.proofs.Limits.{Limited, limited}
use Rattle.tree_store.proofs.Places.{Stands, stands_at}
use Rattle.tree_store.proofs.Rowed.{RulesIn, rule_then, rowed}
use Rattle.tree_store.proofs.Standing.{SpelledBy}
use Rattle.tree_store.proofs.Storing.{nodes_read}
use Rattle.tree_grammar.proofs.SameGrammar.{past_end, count}
use Rattle.tree_agreement.proofs.Texts.{stored_grammar, text_sets}

-- ---- numbers

-- it has a branch or a body
abbrev Parted : TreeNode → Type 0
Parted (alternative []) = ⊥
Parted (alternative (b ∷ is)) = Unit {0}
Parted (concatenation is) = ⊥
Parted (repetition counts static fixed b) = Unit {0}
Parted (switch chosen optional is) = ⊥
Parted (use_of enters opens closes b) = ⊥
Parted (field w admits static binds) = ⊥
Parted eod = ⊥

with_branch : {b : ℕ} (is : List ℕ) → b ∈ is → Parted (alternative is)
with_branch [] m = Memᴰ.not-nil m
with_branch (c ∷ is) m = tt

-- past the last construct there is only the opening use, and what nothing derives
past_constructs : (t : Rules) (i : ℕ) → length (tree_constructs t) ≤ i → Parted ((tree_grammar t).node i) → ⊥
unfolding tree_grammar
past_constructs t i l = by (eqb i opening)
  where
    by : (c : Bool) → Parted (cond c (use_node 0) (construct_numbered t i).node) → ⊥
    by true p = p
    by false p = subst Parted (ap (λ (c : Construct). c.node) (past_end (tree_constructs t) i (plain_at 0 (alternative [])) l)) p

parted_below : (t : Rules) (i : ℕ) → Parted ((tree_grammar t).node i) → i < length (tree_constructs t)
parted_below t i p =
    ⊎_elim (λ (e : ltb i (length (tree_constructs t)) ≡ true). ltb-true i (length (tree_constructs t)) e)
    (λ (e : ltb i (length (tree_constructs t)) ≡ false). absurd (past_constructs t i (ltb-false i (length (tree_constructs t)) e) p))
    (which (ltb i (length (tree_constructs t))))

empty_parted : (t : Rules) (i : ℕ) → EmptyBody (tree_grammar t) i → Parted ((tree_grammar t).node i)
empty_parted t i (empty_body e d) = subst Parted (sym e) tt

conflict_parted : (t : Rules) (i : ℕ) (x : Bits) → Conflict (tree_grammar t) i x → Parted ((tree_grammar t).node i)
conflict_parted t i x (of_branches {is} e m n d p q) = subst Parted (sym e) (with_branch is m)
conflict_parted t i x (of_passes e c f) = subst Parted (sym e) tt

-- ---- kinds

abbrev Repetition : TreeNode → Type 0
Repetition (alternative is) = ⊥
Repetition (concatenation is) = ⊥
Repetition (repetition counts static fixed b) = Unit {0}
Repetition (switch chosen optional is) = ⊥
Repetition (use_of enters opens closes b) = ⊥
Repetition (field w admits static binds) = ⊥
Repetition eod = ⊥

-- only the stored kind 3 means a repetition
abbrev Third : List ℕ → ℕ → TreeNode → Type 0
Third ns i m = Repetition m → kind_of ns i ≡ 3

repetition_kind : (xs ns ts ws : List ℕ) (n r i : ℕ) → Repetition ((grammar_of xs ns ts ws n r).node i) → kind_of ns i ≡ 3
unfolding grammar_of meant_node
repetition_kind xs ns ts ws n r i =
    picked (Third ns i) (eqb i opening) (λ e z. absurd z)
    (λ e. picked (Third ns i) (ltb i n)
    (λ e. picked (Third ns i) (eqb (kind_of ns i) 1) (λ e z. absurd z)
    (λ e. picked (Third ns i) (eqb (kind_of ns i) 2) (λ e z. absurd z)
    (λ e. picked (Third ns i) (eqb (kind_of ns i) 3) (λ e z. eqb-true (kind_of ns i) 3 e)
    (λ e. picked (Third ns i) (eqb (kind_of ns i) 4) (λ e z. absurd z)
    (λ e. picked (Third ns i) (eqb (kind_of ns i) 5) (λ e z. absurd z)
    (λ e. picked (Third ns i) (eqb (kind_of ns i) 6) (λ e z. absurd z)
    (λ e. picked (Third ns i) (eqb (kind_of ns i) 7) (λ e z. absurd z)
    (λ e. picked (Third ns i) (eqb (kind_of ns i) 8) (λ e z. absurd z)
    (λ e. picked (Third ns i) (eqb (kind_of ns i) 9) (λ e z. absurd z) (λ e z. absurd z))))))))))
    (λ e z. absurd z))

-- ---- the start rule

first_named : {ws : List ℕ} (t : Rules) → RulesIn ws no_rule (rules_in t) → named_at ws 0 ≡ (rule_name (start_rule t)).start
unfolding rules_in
first_named (last_rule x) (rule_then e f g more) = e
first_named (and_rules x t) (rule_then e f g more) = e

-- ---- the claims

module _ {xs : List ℕ} {t : Rules} (spelled : SpelledBy xs t) (five : refusal_5 t ≡ none) (six : refusal_6 t ≡ none) (eight : refusal_8 t ≡ none) where
  small : Limited t
  small = limited t five

  -- a repeated body that may be empty (9) is that of a construct of the text
  pub empty_below : (i : ℕ) → EmptyBody (tree_grammar t) i → i < nodes_of (stored t blank)
  empty_below i d = let l : i < length (tree_constructs t) = parted_below t i (empty_parted t i d) in omega (arith, l, count spelled five six eight)

  -- a clash (10) is that of a construct of the text
  pub conflict_below : (i : ℕ) (x : Bits) → Conflict (tree_grammar t) i x → i < nodes_of (stored t blank)
  conflict_below i x d = let l : i < length (tree_constructs t) = parted_below t i (conflict_parted t i x d) in omega (arith, l, count spelled five six eight)

  stands : (i : ℕ) → i < nodes_of (stored t blank) → Stands t i
  stands i l = stands_at t small i (omega (arith, l, nodes_read t, small.few_constructs))

  -- the place of each construct
  pub place_stored : (i : ℕ) → i < nodes_of (stored t blank) → place_of (node_words (stored t blank)) i ≡ (construct_numbered t i).place
  place_stored i l = (stands i l).place_stands

  repeats_kind : (i : ℕ) → EmptyBody (stored_grammar xs t) i → kind_of (node_words (stored t blank)) i ≡ 3
  repeats_kind i (empty_body e d) =
      repetition_kind xs (node_words (stored t blank)) (term_words (stored t blank)) (rule_words (stored t blank)) (nodes_of (stored t blank)) (rules_of (stored t blank)) i (subst Repetition (sym e) tt)

  -- the mark of a repetition whose body may be empty
  pub mark_stored : (i : ℕ) → EmptyBody (tree_grammar t) i → mark_place (node_words (stored t blank)) i ≡ (construct_numbered t i).mark
  mark_stored i d = (stands i (empty_below i d)).mark_stands (repeats_kind i (((text_sets spelled five six eight).empty_body_iff i).1 d))

  -- the start rule's name
  pub start_stored : named_at (rule_words (stored t blank)) 0 ≡ (rule_name (start_rule t)).start
  start_stored = first_named t (rowed t small).rules_are
