-- Where constructs stand: the place and the mark that are stored of a node are those of the tree's construct of the same number.
-- Assumes nothing.
use Prim.Native.Nat.{ℕ, zero, suc, ◌+◌, ◌<◌}
use mathlib.Core.Path.{◌≡◌, refl, sym, ◌∙◌}
use mathlib.Core.Bool.{Bool, true, false}
use mathlib.Core.List.{List, [], ◌∷◌, ◌++◌}
use native.Mathlib.Omega.{arith}
use lib.ListN.{length, get_or}
use Rattle.theory.specs.Grammar.{alternative}
use Rattle.text_store.specs.Store.{blank, node_words}
use Rattle.text_store.specs.Words.{kind_of, place_of, mark_place}
use Rattle.tree.specs.Lexemes.{Lexeme, sign}
use Rattle.tree.specs.Tree.{Mark, optional, any_number, one_or_more, counted, Part, expression, concatenation, factor, atom, cases, Tree, literal, range, field, binder, rule_use, eod, group, switch, last_case, case_default, case_cases, once, repeated, last_member, and_members, last_branch, or_branches, Rule, Rules}
use Rattle.tree.specs.Spelling.{spell, spell_mark}
use Rattle.tree_form.specs.Stored.{start_of, stored}
use Rattle.tree_meaning.specs.Pieces.{rules_of as rules_in, rule_body, variables_of}
use Rattle.tree_meaning.specs.Counted.{constructs, rule_constructs}
use Rattle.tree_meaning.specs.Places.{first_byte}
use Rattle.tree_meaning.specs.Grammar.{Construct, plain_at, constructs_of, body_of, variable_of, rules_constructs, construct_numbered}
use Rattle.tree_store.proofs.Rows.{NodeRow, no_node, on_first, tests_rows, term_rows, mark_row, node_rows, rules_nodes, tree_nodes, tree_totals}
use Rattle.tree_store.proofs.Storing.{NodeIs, node_read, totalled_tree}
use Rattle.tree_store.proofs.Limits.{Limited}

-- ---- where a part begins

abbrev Begins : Part → ℕ → ℕ → Type 0
Begins expression a b = a ≡ b
Begins concatenation a b = a ≡ b
Begins factor a b = a ≡ b
Begins atom a b = a ≡ b
Begins cases a b = Unit {0}

begins : {p : Part} {d : ℕ} (x : Tree p d) (w : List Lexeme) → Begins p (start_of x) (first_byte (spell x w))
unfolding spell start_of
begins (literal l) w = refl
begins (range a s b one one') w = refl
begins (field signed depth u opens n comma x closes) w = refl
begins (binder signed depth u opens n comma v opens' x comma' y closes closes') w = refl
begins (rule_use x other) w = refl
begins (eod s) w = refl
begins (group depth opens x closes) w = refl
begins (switch depth opens x closes) w = refl
begins (last_case c colon x end) w = tt
begins (case_default c colon x end colon' y end') w = tt
begins (case_cases c colon x end more) w = tt
begins (once x) w = begins x w
begins (repeated x m) w = begins x (spell_mark m w)
begins (last_member x) w = begins x w
begins (and_members x s more) w = begins x (sign _ s ∷ spell more w)
begins (last_branch x) w = begins x w
begins (or_branches x s more) w = begins x (sign _ s ∷ spell more w)

-- ---- rows and constructs

pub data Alike : List NodeRow → List Construct → Type 0 where
  none_alike : Alike [] []
  next_alike : {r : NodeRow} {c : Construct} {M : List NodeRow} {C : List Construct} → r.place ≡ c.place → (r.kind ≡ 3 → r.second ≡ c.mark) → Alike M C → Alike (r ∷ M) (c ∷ C)

alike_two : {M L : List NodeRow} {C D : List Construct} → Alike M C → Alike L D → Alike (M ++ L) (C ++ D)
alike_two none_alike b = b
alike_two (next_alike e f a) b = next_alike e f (alike_two a b)

alike_cased : (f g : ℕ) {M : List NodeRow} {C : List Construct} → Alike M C → Alike (on_first f g M) C
alike_cased f g none_alike = none_alike
alike_cased f g (next_alike e h a) = next_alike e h a

-- a construct of another kind, in front of others
alike_plain : {r : NodeRow} {c : Construct} {M : List NodeRow} {C : List Construct} → (r.kind ≡ 3 → ⊥) → r.place ≡ c.place → Alike M C → Alike (r ∷ M) (c ∷ C)
alike_plain f e a = next_alike e (λ k. absurd (f k)) a

alike_mark : (m : Mark) (size p t : ℕ) {c : Construct} {M : List NodeRow} {C : List Construct} → p ≡ c.place → first_byte (spell_mark m []) ≡ c.mark → Alike M C → Alike (mark_row m size p t ∷ M) (c ∷ C)
unfolding spell_mark
alike_mark (optional s) size p t e f a = next_alike e (λ k. f) a
alike_mark (any_number s) size p t e f a = next_alike e (λ k. f) a
alike_mark (one_or_more s) size p t e f a = next_alike e (λ k. f) a
alike_mark (counted opens n closes) size p t e f a = next_alike e (λ k. f) a

module _ (body variable : List ℕ → ℕ) where
  tree_alike : {p : Part} {d : ℕ} (on : Bool) (x : Tree p d) (t i : ℕ) → Alike (node_rows on x t) (constructs_of body variable on i x)
  unfolding node_rows constructs_of
  tree_alike on (literal l) t i = alike_plain (λ e. omega arith) refl none_alike
  tree_alike on (range a s b one one') t i = alike_plain (λ e. omega arith) refl none_alike
  tree_alike on (field signed depth u opens n comma x closes) t i = alike_plain (λ e. omega arith) refl none_alike
  tree_alike on (binder signed depth u opens n comma v opens' x comma' y closes closes') t i = alike_plain (λ e. omega arith) refl none_alike
  tree_alike on (rule_use x other) t i = alike_plain (λ e. omega arith) refl none_alike
  tree_alike on (eod s) t i = alike_plain (λ e. omega arith) refl none_alike
  tree_alike on (group depth opens x closes) t i = tree_alike false x t i
  tree_alike on (switch depth opens x closes) t i = alike_plain (λ e. omega arith) refl (tree_alike false x t (suc i))
  tree_alike on (last_case c colon x end) t i = alike_cased t (t + length (tests_rows c [])) (tree_alike false x (t + length (tests_rows c [])) i)
  tree_alike on (case_default c colon x end colon' y end') t i =
      alike_two (alike_cased t (t + length (tests_rows c [])) (tree_alike false x (t + length (tests_rows c [])) i)) (tree_alike false y (t + length (tests_rows c [] ++ term_rows x)) (i + constructs false x))
  tree_alike on (case_cases c colon x end more) t i =
      alike_two (alike_cased t (t + length (tests_rows c [])) (tree_alike false x (t + length (tests_rows c [])) i)) (tree_alike false more (t + length (tests_rows c [] ++ term_rows x)) (i + constructs false x))
  tree_alike on (once x) t i = tree_alike false x t i
  tree_alike on (repeated x m) t i = alike_mark m (suc (constructs false x)) (start_of x) (t + length (term_rows x)) (begins x []) refl (tree_alike false x t (suc i))
  tree_alike on (last_member x) t i = tree_alike false x t i
  tree_alike false (and_members x s more) t i =
      alike_plain (λ e. omega arith) (begins x []) (alike_two (tree_alike false x t (suc i)) (tree_alike true more (t + length (term_rows x)) (suc i + constructs false x)))
  tree_alike true (and_members x s more) t i = alike_two (tree_alike false x t i) (tree_alike true more (t + length (term_rows x)) (i + constructs false x))
  tree_alike on (last_branch x) t i = tree_alike false x t i
  tree_alike false (or_branches x s more) t i =
      alike_plain (λ e. omega arith) (begins x []) (alike_two (tree_alike false x t (suc i)) (tree_alike true more (t + length (term_rows x)) (suc i + constructs false x)))
  tree_alike true (or_branches x s more) t i = alike_two (tree_alike false x t i) (tree_alike true more (t + length (term_rows x)) (i + constructs false x))

rules_alike : (all : List Rule) (t i b : ℕ) (l : List Rule) → Alike (rules_nodes t l) (rules_constructs all i b l)
unfolding rules_nodes rules_constructs
rules_alike all t i b [] = none_alike
rules_alike all t i b (r ∷ l) =
    alike_two (tree_alike (body_of 0 all) (variable_of b (variables_of r)) false (rule_body r) t i) (rules_alike all (t + length (term_rows (rule_body r))) (i + rule_constructs r) (b + length (variables_of r)) l)

-- by number
alike_at : {M : List NodeRow} {C : List Construct} (i : ℕ) (c : Construct) → Alike M C → i < length M → ((get_or M i no_node).place ≡ (get_or C i c).place) × ((get_or M i no_node).kind ≡ 3 → (get_or M i no_node).second ≡ (get_or C i c).mark)
alike_at i c none_alike h = absurd (omega arith)
alike_at zero c (next_alike e f a) h = (e, f)
alike_at (suc i) c (next_alike e f a) h = alike_at i c a (omega arith)

-- node i stands where construct i stands, and a repetition's mark where its mark does
pub record Stands (t : Rules) (i : ℕ) : Type 0 where
  pub place_stands : place_of (node_words (stored t blank)) i ≡ (construct_numbered t i).place
  pub mark_stands : kind_of (node_words (stored t blank)) i ≡ 3 → mark_place (node_words (stored t blank)) i ≡ (construct_numbered t i).mark

pub stands_at : (t : Rules) → Limited t → (i : ℕ) → i < (tree_totals t).all_constructs → Stands t i
stands_at t l i h =
    let n : NodeIs (node_words (stored t blank)) i (get_or (tree_nodes t) i no_node) = node_read t l.few_constructs l.few_terms i h
    in let a = alike_at i (plain_at 0 (alternative [])) (rules_alike (rules_in t) 0 0 0 (rules_in t)) (omega (arith, (totalled_tree t).in_nodes))
    in record { place_stands = n.place_is ∙ a.0; mark_stands = λ e. n.second_is ∙ a.1 (sym n.kind_is ∙ e) }
