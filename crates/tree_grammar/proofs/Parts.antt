-- The parts of a node are those that the tree numbers: members of a concatenation, branches of an alternative, bodies of cases.
-- Assumes nothing.
use Prim.Native.Nat.{ℕ, zero, suc, ◌+◌, ◌≤◌}
use mathlib.Core.Path.{◌≡◌, refl, ap, ◌∙◌, subst}
use mathlib.Core.Bool.{true, false}
use mathlib.Core.List.{List, [], ◌∷◌, ◌++◌}
use native.Mathlib.Omega.{arith}
use lib.ListN.{length}
use Rattle.text_store.specs.Words.{node_size}
use Rattle.text_meaning.specs.Meaning.{parts_from}
use Rattle.text_meaning.proofs.PartLists.{parts_next, parts_end}
use Rattle.tree.specs.Tree.{Mark, optional, any_number, one_or_more, counted, Part, expression, concatenation, factor, atom, cases, Tree, literal, range, field, binder, rule_use, eod, group, switch, last_case, case_default, case_cases, once, repeated, last_member, and_members, last_branch, or_branches}
use Rattle.tree_meaning.specs.Counted.{constructs}
use Rattle.tree_meaning.specs.Grammar.{members, branches, case_bodies}
use Rattle.tree_meaning.proofs.Lengths.{some_construct}
use Rattle.tree_store.proofs.Rows.{NodeRow, on_first, mark_row, node_rows, term_rows, tests_rows}
use Rattle.tree_store.proofs.Lengths.{length_first, nodes_counted}
use Rattle.tree_store.proofs.Rowed.{NodesAt, node_then, nodes_left, nodes_right}

-- ---- the size of a tree's first node

-- the first row has this size
abbrev FirstSize : ℕ → List NodeRow → Type 0
FirstSize n [] = Unit {0}
FirstSize n (r ∷ more) = r.size ≡ n

cased : (n f g : ℕ) (M : List NodeRow) → FirstSize n M → FirstSize n (on_first f g M)
cased n f g [] h = tt
cased n f g (r ∷ M) h = h

mark_size : (m : Mark) (size p t : ℕ) → (mark_row m size p t).size ≡ size
mark_size (optional s) size p t = refl
mark_size (any_number s) size p t = refl
mark_size (one_or_more s) size p t = refl
mark_size (counted opens n closes) size p t = refl

-- of all but the cases of a switch, which have no node of their own
abbrev pub Whole : Part → Type 0
Whole expression = Unit {0}
Whole concatenation = Unit {0}
Whole factor = Unit {0}
Whole atom = Unit {0}
Whole cases = ⊥

first_size : {p : Part} {d : ℕ} (x : Tree p d) (t : ℕ) → Whole p → FirstSize (constructs false x) (node_rows false x t)
unfolding node_rows constructs
first_size (literal l) t w = refl
first_size (range a s b one one') t w = refl
first_size (field signed depth u opens n comma x closes) t w = refl
first_size (binder signed depth u opens n comma v opens' x comma' y closes closes') t w = refl
first_size (rule_use x other) t w = refl
first_size (eod s) t w = refl
first_size (group depth opens x closes) t w = first_size x t tt
first_size (switch depth opens x closes) t w = refl
first_size (last_case c colon x end) t w = absurd w
first_size (case_default c colon x end colon' y end') t w = absurd w
first_size (case_cases c colon x end more) t w = absurd w
first_size (once x) t w = first_size x t tt
first_size (repeated x m) t w = mark_size m (suc (constructs false x)) _ _
first_size (last_member x) t w = first_size x t tt
first_size (and_members x s more) t w = refl
first_size (last_branch x) t w = first_size x t tt
first_size (or_branches x s more) t w = refl

size_at : {ns : List ℕ} {i n : ℕ} (M : List NodeRow) → 1 ≤ length M → FirstSize n M → NodesAt ns i M → node_size ns i ≡ n
size_at [] l h a = absurd (omega arith)
size_at (r ∷ M) l h (node_then e more) = e.size_is ∙ h

pub node_sized : {ns : List ℕ} {i : ℕ} {p : Part} {d : ℕ} (x : Tree p d) (t : ℕ) → Whole p → NodesAt ns i (node_rows false x t) → node_size ns i ≡ constructs false x
node_sized x t w h = size_at (node_rows false x t) (omega (arith, nodes_counted false x t, some_construct false x)) (first_size x t w) h

case_sized : {ns : List ℕ} {i : ℕ} {p : Part} {d : ℕ} (x : Tree p d) (t f g : ℕ) → Whole p → NodesAt ns i (on_first f g (node_rows false x t)) → node_size ns i ≡ constructs false x
case_sized x t f g w h =
    size_at (on_first f g (node_rows false x t)) (omega (arith, length_first f g (node_rows false x t), nodes_counted false x t, some_construct false x)) (cased (constructs false x) f g (node_rows false x t) (first_size x t w)) h

-- ---- parts, from the first part's number on

-- one part, and what comes after it
part_then : (ns : List ℕ) (most i size rest : ℕ) (l : List ℕ) → 1 ≤ size → node_size ns i ≡ size → parts_from ns most (i + size) (i + size + rest) ≡ l → parts_from ns (suc most) i (i + (size + rest)) ≡ i ∷ l
part_then ns most i size rest l h e f =
    parts_next ns most i (i + (size + rest)) (omega arith)
    ∙ ap (λ (q : List ℕ). i ∷ q) (ap (λ (k : ℕ). parts_from ns most (i + k) (i + (size + rest))) e ∙ ap (parts_from ns most (i + size)) (let q : i + (size + rest) ≡ i + size + rest = omega arith in q) ∙ f)

last_part : (ns : List ℕ) (most i size : ℕ) → 1 ≤ size → size ≤ most → node_size ns i ≡ size → parts_from ns most i (i + size) ≡ i ∷ []
last_part ns zero i size h l e = absurd (omega arith)
last_part ns (suc most) i size h l e = parts_next ns most i (i + size) (omega arith) ∙ ap (λ (q : List ℕ). i ∷ q) (parts_end ns most (i + node_size ns i) (i + size) (omega arith))

pub member_parts : {ns : List ℕ} {i d : ℕ} (x : Tree concatenation d) (t most : ℕ) → constructs true x ≤ most → NodesAt ns i (node_rows true x t) → parts_from ns most i (i + constructs true x) ≡ members i x
unfolding node_rows constructs members
member_parts {ns} {i} (last_member x) t most l h = last_part ns most i (constructs false x) (some_construct false x) l (node_sized x t tt h)
member_parts {ns} {i} (and_members x s more) t zero l h = absurd (omega (arith, some_construct false x))
member_parts {ns} {i} (and_members x s more) t (suc most) l h =
    part_then ns most i (constructs false x) (constructs true more) _ (some_construct false x) (node_sized x t tt (nodes_left (node_rows false x t) (node_rows true more (t + length (term_rows x))) h))
    (member_parts {i = i + constructs false x} more (t + length (term_rows x)) most (omega (arith, some_construct false x))
    (subst (λ (q : ℕ). NodesAt ns (i + q) (node_rows true more (t + length (term_rows x)))) (nodes_counted false x t) (nodes_right (node_rows false x t) (node_rows true more (t + length (term_rows x))) h)))

pub branch_parts : {ns : List ℕ} {i d : ℕ} (x : Tree expression d) (t most : ℕ) → constructs true x ≤ most → NodesAt ns i (node_rows true x t) → parts_from ns most i (i + constructs true x) ≡ branches i x
unfolding node_rows constructs branches
branch_parts {ns} {i} (last_branch x) t most l h = last_part ns most i (constructs false x) (some_construct false x) l (node_sized x t tt h)
branch_parts {ns} {i} (or_branches x s more) t zero l h = absurd (omega (arith, some_construct false x))
branch_parts {ns} {i} (or_branches x s more) t (suc most) l h =
    part_then ns most i (constructs false x) (constructs true more) _ (some_construct false x) (node_sized x t tt (nodes_left (node_rows false x t) (node_rows true more (t + length (term_rows x))) h))
    (branch_parts {i = i + constructs false x} more (t + length (term_rows x)) most (omega (arith, some_construct false x))
    (subst (λ (q : ℕ). NodesAt ns (i + q) (node_rows true more (t + length (term_rows x)))) (nodes_counted false x t) (nodes_right (node_rows false x t) (node_rows true more (t + length (term_rows x))) h)))

pub case_parts : {ns : List ℕ} {i d : ℕ} (x : Tree cases d) (t most : ℕ) → constructs false x ≤ most → NodesAt ns i (node_rows false x t) → parts_from ns most i (i + constructs false x) ≡ case_bodies i x
unfolding node_rows constructs case_bodies
case_parts {ns} {i} (last_case c colon x end) t most l h = last_part ns most i (constructs false x) (some_construct false x) l (case_sized x _ _ _ tt h)
case_parts {ns} {i} (case_default c colon x end colon' y end') t zero l h = absurd (omega (arith, some_construct false x))
case_parts {ns} {i} (case_default c colon x end colon' y end') t (suc most) l h =
    let M = on_first t (t + length (tests_rows c [])) (node_rows false x (t + length (tests_rows c [])))
    in let L = node_rows false y (t + length (tests_rows c [] ++ term_rows x))
    in part_then ns most i (constructs false x) (constructs false y) _ (some_construct false x) (case_sized x _ _ _ tt (nodes_left M L h))
    (last_part ns most (i + constructs false x) (constructs false y) (some_construct false y) (omega (arith, some_construct false x))
    (node_sized y _ tt (subst (λ (q : ℕ). NodesAt ns (i + q) L) (length_first t (t + length (tests_rows c [])) (node_rows false x (t + length (tests_rows c []))) ∙ nodes_counted false x (t + length (tests_rows c []))) (nodes_right M L h))))
case_parts {ns} {i} (case_cases c colon x end more) t zero l h = absurd (omega (arith, some_construct false x))
case_parts {ns} {i} (case_cases c colon x end more) t (suc most) l h =
    let M = on_first t (t + length (tests_rows c [])) (node_rows false x (t + length (tests_rows c [])))
    in let L = node_rows false more (t + length (tests_rows c [] ++ term_rows x))
    in part_then ns most i (constructs false x) (constructs false more) _ (some_construct false x) (case_sized x _ _ _ tt (nodes_left M L h))
    (case_parts {i = i + constructs false x} more _ most (omega (arith, some_construct false x))
    (subst (λ (q : ℕ). NodesAt ns (i + q) L) (length_first t (t + length (tests_rows c [])) (node_rows false x (t + length (tests_rows c []))) ∙ nodes_counted false x (t + length (tests_rows c []))) (nodes_right M L h)))
