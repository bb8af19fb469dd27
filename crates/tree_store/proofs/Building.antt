-- What a tree adds to the nodes and terms of a store: its rows.
-- Assumes nothing.
use Prim.Native.Nat.{ℕ, suc, ◌+◌, ◌≤◌}
use mathlib.Core.Path.{◌≡◌, refl, sym, ap, ◌∙◌}
use mathlib.Core.Bool.{Bool, true, false}
use mathlib.Core.List.{List, [], ◌∷◌, ◌++◌, append-nil, append_assoc}
use native.Mathlib.Omega.{arith}
use lib.ListN.{length, length-append}
use Rattle.text_store.specs.Store.{State, nodes_of, terms_of, insert, leaf, bind}
use Rattle.tree.specs.Tree.{Mark, optional, any_number, one_or_more, counted, Part, Tree, literal, range, field, binder, rule_use, eod, group, switch, last_case, case_default, case_cases, once, repeated, last_member, and_members, last_branch, or_branches}
use Rattle.tree_form.specs.Stored.{start_of, store_mark, store_case, how_bound, store}
use Rattle.tree_meaning.specs.Counted.{constructs}
use Rattle.tree_store.proofs.Rows.{NodeRow, a_node, on_first, TermRow, RuleRow, mark_rows, term_rows, mark_row, node_rows, binders_in}
use Rattle.tree_store.proofs.Holding.{Holds, held_as, insert_holds, condition_holds, bind_holds}
use Rattle.tree_store.proofs.Lengths.{nodes_counted, chain_long, some_node}
use Rattle.tree_store.proofs.Adding.{Adds, adds_none, set_adds, counts_adds, tests_adds}

-- a step of the reader that adds these nodes (of which the first term has number t), these terms and so many binders
pub record Builds (f : State → State) (M : ℕ → List NodeRow) (A : List TermRow) (c : ℕ) : Type 0 where
  pub builds : (N : List NodeRow) (T : List TermRow) (b : ℕ) (R : List RuleRow) (st : State) → Holds N T b R st → Holds (N ++ M (length T)) (T ++ A) (b + c) R (f st)

-- one step and then another
pub builds_then : {f g : State → State} {M L : ℕ → List NodeRow} {A B : List TermRow} {c e : ℕ} → Builds f M A c → Builds g L B e
    → Builds (λ st. g (f st)) (λ t. M t ++ L (t + length A)) (A ++ B) (c + e)
builds_then {f} {g} {M} {L} {A} {B} {c} {e} x y =
    record {
      builds = λ N T b R st h.
          held_as (append_assoc N (M (length T)) (L (length (T ++ A))) ∙ ap (λ (k : ℕ). N ++ (M (length T) ++ L k)) (length-append T A)) (append_assoc T A B)
          (let q : b + c + e ≡ b + (c + e) = omega arith in q)
          (y.builds (N ++ M (length T)) (T ++ A) (b + c) R (f st) (x.builds N T b R st h));
    }

-- ---- nodes without parts

leaf_holds : (kind place a b c c' d d' e : ℕ) (N : List NodeRow) (T : List TermRow) (u : ℕ) (R : List RuleRow) (st : State) → (length T ≤ 1024 → c ≡ c') → (length T ≤ 1024 → d ≡ d')
    → Holds N T u R st → Holds (N ++ a_node kind 1 place a b c' d' e ∷ []) T u R (leaf kind place a b c d e st)
leaf_holds kind place a b c c' d d' e N T u R st from up_to_lem h =
    insert_holds kind 1 place a b c c' d d' e (nodes_of st) N [] T u R st h.nodes refl from up_to_lem (held_as (sym (append-nil N)) refl refl h)

-- without terms
bare_builds : (kind place a : ℕ) → Builds (λ st. leaf kind place a 0 0 0 0 st) (λ t. a_node kind 1 place a 0 0 0 0 ∷ []) [] 0
bare_builds kind place a =
    record {
      builds = λ N T b R st h.
          held_as refl (sym (append-nil T)) (let q : b ≡ b + 0 = omega arith in q) (leaf_holds kind place a 0 0 0 0 0 0 N T b R st (λ x. refl) (λ x. refl) h);
    }

-- with a set, added by f
field_builds : (place a b e : ℕ) {f : State → State} {A : List TermRow} → Adds f A
    → Builds (λ st. leaf 8 place a b (terms_of st) (terms_of (f st)) e (f st)) (λ t. a_node 8 1 place a b t (t + length A) e ∷ []) A 0
field_builds place a b e {f} {A} x =
    record {
      builds = λ N T u R st h. (
          let k : Holds N (T ++ A) u R (f st) = x.adds N T u R st h
          in let l : length (T ++ A) ≡ length T + length A = length-append T A
          in held_as refl refl (let q : u ≡ u + 0 = omega arith in q)
          (leaf_holds 8 place a b (terms_of st) (length T) (terms_of (f st)) (length T + length A) e N (T ++ A) u R (f st)
          (λ y. let q : terms_of st ≡ length T = omega (arith, h.terms) in q)
          (λ y. let q : terms_of (f st) ≡ length T + length A = omega (arith, k.terms) in q) k)
          );
    }

-- the same as a binder
binder_builds : (place a b e : ℕ) {f : State → State} {A : List TermRow} → Adds f A
    → Builds (λ st. leaf 8 place a b (terms_of st) (terms_of (f (bind st))) e (f (bind st))) (λ t. a_node 8 1 place a b t (t + length A) e ∷ []) A 1
binder_builds place a b e {f} {A} x =
    record {
      builds = λ N T u R st h. (
          let k : Holds N (T ++ A) (u + 1) R (f (bind st)) = x.adds N T (u + 1) R (bind st) (bind_holds N T u R st h)
          in let l : length (T ++ A) ≡ length T + length A = length-append T A
          in leaf_holds 8 place a b (terms_of st) (length T) (terms_of (f (bind st))) (length T + length A) e N (T ++ A) (u + 1) R (f (bind st))
          (λ y. let q : terms_of st ≡ length T = omega (arith, h.terms) in q)
          (λ y. let q : terms_of (f (bind st)) ≡ length T + length A = omega (arith, k.terms) in q) k
          );
    }

-- ---- a node in front of its parts

insert_builds : (kind size place : ℕ) {f : State → State} {M : ℕ → List NodeRow} {A : List TermRow} {c : ℕ} → ((t : ℕ) → size ≡ suc (length (M t))) → Builds f M A c
    → Builds (λ st. insert kind place (nodes_of st) 0 0 0 0 0 (f st)) (λ t. a_node kind size place 0 0 0 0 0 ∷ M t) A c
insert_builds kind size place {f} {M} {A} {c} e x =
    record {
      builds = λ N T b R st h.
          insert_holds kind size place 0 0 0 0 0 0 0 (nodes_of st) N (M (length T)) (T ++ A) (b + c) R (f st) h.nodes (e (length T)) (λ y. refl) (λ y. refl) (x.builds N T b R st h);
    }

-- a repetition mark without counts
plain_mark : (size p k s : ℕ) {f : State → State} {M : ℕ → List NodeRow} {A : List TermRow} {c : ℕ} → ((t : ℕ) → size ≡ suc (length (M t))) → Builds f M A c
    → Builds (λ st. insert 3 p (nodes_of st) k s 0 0 0 (f st)) (λ t. a_node 3 size p k s 0 0 0 ∷ M t) (A ++ []) c
plain_mark size p k s {f} {M} {A} {c} e x =
    record {
      builds = λ N T b R st h.
          held_as refl (ap (λ (l : List TermRow). T ++ l) (sym (append-nil A))) refl
          (insert_holds 3 size p k s 0 0 0 0 0 (nodes_of st) N (M (length T)) (T ++ A) (b + c) R (f st) h.nodes (e (length T)) (λ y. refl) (λ y. refl) (x.builds N T b R st h));
    }

-- with counts, added by g
counted_mark : (size p s : ℕ) {f g : State → State} {M : ℕ → List NodeRow} {A B : List TermRow} {c : ℕ} → ((t : ℕ) → size ≡ suc (length (M t))) → Builds f M A c → Adds g B
    → Builds (λ st. insert 3 p (nodes_of st) 4 s (terms_of (f st)) (terms_of (g (f st))) 0 (g (f st)))
    (λ t. a_node 3 size p 4 s (t + length A) (t + length A + length B) 0 ∷ M t) (A ++ B) c
counted_mark size p s {f} {g} {M} {A} {B} {c} e x z =
    record {
      builds = λ N T b R st h. (
          let k : Holds (N ++ M (length T)) (T ++ A) (b + c) R (f st) = x.builds N T b R st h
          in let v : Holds (N ++ M (length T)) (T ++ A ++ B) (b + c) R (g (f st)) = z.adds (N ++ M (length T)) (T ++ A) (b + c) R (f st) k
          in let l : length (T ++ A) ≡ length T + length A = length-append T A
          in let m : length (T ++ A ++ B) ≡ length (T ++ A) + length B = length-append (T ++ A) B
          in held_as refl (append_assoc T A B) refl
          (insert_holds 3 size p 4 s (terms_of (f st)) (length T + length A) (terms_of (g (f st))) (length T + length A + length B) 0 (nodes_of st) N (M (length T)) (T ++ A ++ B) (b + c) R (g (f st)) h.nodes (e (length T))
          (λ y. let q : terms_of (f st) ≡ length T + length A = omega (arith, k.terms) in q)
          (λ y. let q : terms_of (g (f st)) ≡ length T + length A + length B = omega (arith, v.terms) in q) v)
          );
    }

mark_builds : (m : Mark) (size p : ℕ) {f : State → State} {M : ℕ → List NodeRow} {A : List TermRow} {c : ℕ} → ((t : ℕ) → size ≡ suc (length (M t))) → Builds f M A c
    → Builds (λ st. store_mark m p (nodes_of st) (f st)) (λ t. mark_row m size p (t + length A) ∷ M t) (A ++ mark_rows m) c
unfolding store_mark mark_rows
mark_builds (optional s) size p e x = plain_mark size p 1 s.start e x
mark_builds (any_number s) size p e x = plain_mark size p 2 s.start e x
mark_builds (one_or_more s) size p e x = plain_mark size p 3 s.start e x
mark_builds (counted opens n closes) size p e x = counted_mark size p opens.start e x (counts_adds n)

-- ---- a case: a condition, added by f, and a body

case_builds : {f g : State → State} {M : ℕ → List NodeRow} {A B : List TermRow} {c : ℕ} → Adds f A → ((t : ℕ) → 1 ≤ length (M t)) → Builds g M B c
    → Builds (λ st. store_case st (f st) g) (λ t. on_first t (t + length A) (M (t + length A))) (A ++ B) c
case_builds {f} {g} {M} {A} {B} {c} x some y =
    record {
      builds = λ N T b R st h. (
          let k : Holds N (T ++ A) b R (f st) = x.adds N T b R st h
          in let l : length (T ++ A) ≡ length T + length A = length-append T A
          in let m : length (T ++ A ++ B) ≡ length (T ++ A) + length B = length-append (T ++ A) B
          in let v : Holds (N ++ M (length T + length A)) (T ++ A ++ B) (b + c) R (g (f st)) = held_as (ap (λ (q : ℕ). N ++ M q) l) refl refl (y.builds N (T ++ A) b R (f st) k)
          in held_as refl (append_assoc T A B) refl
          (condition_holds (terms_of st) (length T) (terms_of (f st)) (length T + length A) (nodes_of (f st)) N (M (length T + length A)) (T ++ A ++ B) (b + c) R (g (f st)) k.nodes (some (length T + length A))
          (λ z. let q : terms_of st ≡ length T = omega (arith, h.terms) in q)
          (λ z. let q : terms_of (f st) ≡ length T + length A = omega (arith, k.terms) in q) v)
          );
    }

-- ---- a tree

inner_long : {p : Part} {d : ℕ} (x : Tree p d) (t : ℕ) → suc (constructs false x) ≡ suc (length (node_rows false x t))
inner_long x t = ap suc (sym (nodes_counted false x t))

pub tree_builds : {p : Part} {d : ℕ} (on : Bool) (x : Tree p d) → Builds (λ st. store x on st) (λ t. node_rows on x t) (term_rows x) (binders_in x)
unfolding store node_rows term_rows binders_in
tree_builds on (literal l) = bare_builds 6 l.start 0
tree_builds on (range a s b one one') = bare_builds 7 a.start b.start
tree_builds on (field signed depth u opens n comma x closes) = field_builds u.start n.start 0 0 (set_adds x adds_none)
tree_builds on (binder {d} signed depth u opens n comma v opens' x comma' y closes closes') = binder_builds u.start n.start x.start (how_bound (d + 1 + 1)) (set_adds y adds_none)
tree_builds on (rule_use x other) = bare_builds 5 x.start 0
tree_builds on (eod s) = bare_builds 9 s.start 0
tree_builds on (group depth opens x closes) = tree_builds false x
tree_builds on (switch depth opens x closes) = insert_builds 4 (suc (constructs false x)) opens.start (inner_long x) (tree_builds false x)
tree_builds on (last_case c colon x end) = case_builds (tests_adds c adds_none) (some_node false x) (tree_builds false x)
tree_builds on (case_default c colon x end colon' y end') = builds_then (case_builds (tests_adds c adds_none) (some_node false x) (tree_builds false x)) (tree_builds false y)
tree_builds on (case_cases c colon x end more) = builds_then (case_builds (tests_adds c adds_none) (some_node false x) (tree_builds false x)) (tree_builds false more)
tree_builds on (once x) = tree_builds false x
tree_builds on (repeated x m) = mark_builds m (suc (constructs false x)) (start_of x) (inner_long x) (tree_builds false x)
tree_builds on (last_member x) = tree_builds false x
tree_builds false (and_members x s more) =
    insert_builds 2 (suc (constructs false x + constructs true more)) (start_of x) (λ t. chain_long x more t (t + length (term_rows x))) (builds_then (tree_builds false x) (tree_builds true more))
tree_builds true (and_members x s more) = builds_then (tree_builds false x) (tree_builds true more)
tree_builds on (last_branch x) = tree_builds false x
tree_builds false (or_branches x s more) =
    insert_builds 1 (suc (constructs false x + constructs true more)) (start_of x) (λ t. chain_long x more t (t + length (term_rows x))) (builds_then (tree_builds false x) (tree_builds true more))
tree_builds true (or_branches x s more) = builds_then (tree_builds false x) (tree_builds true more)
