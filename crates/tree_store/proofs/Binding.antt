-- The variables that nodes bind are those that a tree's pieces bind.
-- Assumes nothing.
use Prim.Native.Nat.{ℕ, ◌+◌, ◌-◌, ◌≤◌}
use mathlib.Core.Path.{◌≡◌, refl, sym, ap, ap₂, ◌∙◌}
use mathlib.Core.Bool.{Bool, true, false, not, ◌&&◌, ◌||◌}
use mathlib.Core.List.{List, [], ◌∷◌, ◌++◌}
use native.Mathlib.Omega.{arith}
use lib.Dec.{eqb}
use lib.ListN.{length, length-append}
use Rattle.basis.proofs.Booleans.{picked}
use Rattle.text_tokens.specs.Names.{is_same}
use Rattle.text_names.specs.Counting.{any_of}
use Rattle.text_names.specs.Names.{same_name, binds, bound_between}
use Rattle.tree.specs.Lexemes.{Name, Number, Lexeme, sign}
use Rattle.text_tokens.specs.declared.Kind.{Kind}
use Rattle.tree.specs.Tree.{TestPart, Tests, Mark, optional, any_number, one_or_more, counted, Part, Tree, literal, range, field, binder, rule_use, eod, group, switch, last_case, case_default, case_cases, once, repeated, last_member, and_members, last_branch, or_branches}
use Rattle.tree.specs.Spelling.{spell_mark, spell}
use Rattle.tree_form.specs.Stored.{how_bound as way-bound}
use Rattle.tree_meaning.specs.Pieces.{Component, Piece, use_of_rule, width, formula, binding, mark_pieces, pieces, bound_in}
use Rattle.tree_meaning.specs.Names.{is_among}
use Rattle.tree_store.proofs.Rows.{NodeRow, a_node, on_first, tests_rows, term_rows, mark_row, node_rows}
use Rattle.tree_store.proofs.Lengths.{bound_append, length_first}
use Rattle.tree_store.proofs.Low.{any_suc, any_append, any_between_on}
use Rattle.tree_store.proofs.Standing.{Standing, past, after_tests, after_tree}
use Rattle.tree_store.proofs.Uses.{Here, here}
use Rattle.tree_store.proofs.Spots.{Like, LikeAt, like_first, like_rest, like_left, like_right, like_uncased}

-- ---- names

among_append : (l m : List Name) (y : Name) → is_among (l ++ m) y ≡ (is_among l y || is_among m y)
unfolding is_among
among_append [] m y = refl
among_append (x ∷ l) m y = ap (λ (b : Bool). is_same x.letters y.letters || b) (among_append l m y) ∙ or_assoc (is_same x.letters y.letters) (is_among l y) (is_among m y)
  where
    or_assoc : (a b c : Bool) → (a || (b || c)) ≡ ((a || b) || c)
    or_assoc true b c = refl
    or_assoc false b c = refl

pub same_here : {xs : List ℕ} {x y : Name} → Here xs x → Here xs y → same_name xs x.start y.start ≡ is_same x.letters y.letters
unfolding same_name
same_here a b = ap₂ is_same a.letters_are b.letters_are

-- those bound before, and then among pieces, the last first
unfoldable pub after_bound : List Piece → List Name → List Name
after_bound [] names = names
after_bound (use_of_rule x ∷ more) names = after_bound more names
after_bound (width most n ∷ more) names = after_bound more names
after_bound (formula f ∷ more) names = after_bound more names
after_bound (binding x signed n placed ∷ more) names = after_bound more (x ∷ names)

among_after : (l : List Piece) (names : List Name) (y : Name) → is_among (after_bound l names) y ≡ (is_among names y || is_among (bound_in l) y)
unfolding after_bound bound_in is_among
among_after [] names y = or_false (is_among names y)
  where
    or_false : (b : Bool) → b ≡ (b || false)
    or_false true = refl
    or_false false = refl
among_after (use_of_rule x ∷ more) names y = among_after more names y
among_after (width most n ∷ more) names y = among_after more names y
among_after (formula f ∷ more) names y = among_after more names y
among_after (binding x signed n placed ∷ more) names y = among_after more (x ∷ names) y ∙ turned (is_same x.letters y.letters) (is_among names y) (is_among (bound_in more) y)
  where
    turned : (a b c : Bool) → ((a || b) || c) ≡ (b || (a || c))
    turned true true c = refl
    turned true false c = refl
    turned false true c = refl
    turned false false c = refl

-- ---- nodes

-- a node that binds nothing
abbrev pub Quiet : NodeRow → Type 0
Quiet r = (eqb r.kind 8 && not (eqb r.how 0)) ≡ false

pub quiet_node : (xs : List ℕ) {ns : List ℕ} {i : ℕ} {r : NodeRow} (p : ℕ) → Like ns i r → Quiet r → binds xs ns p i ≡ false
quiet_node xs p h q = rw (h.kind_like, h.how_like, q) refl

-- the nodes of these rows, from i on, bind the variables of these pieces
pub record Bound (xs ns : List ℕ) (i : ℕ) (M : List NodeRow) (l : List Piece) : Type 0 where
  pub bound : (y : Name) → Here xs y → any_of (length M) i (binds xs ns y.start) ≡ is_among (bound_in l) y

bound_none : {xs ns : List ℕ} {i : ℕ} {r : NodeRow} {l : List Piece} → LikeAt ns i (r ∷ []) → Quiet r → bound_in l ≡ [] → Bound xs ns i (r ∷ []) l
unfolding any_of is_among
bound_none {xs} {ns} {i} {r} {l} h q e =
    record {
      bound = λ y g.
          any_suc 0 i (binds xs ns y.start) ∙ ap (λ (b : Bool). b || false) (quiet_node xs y.start (like_first h) q) ∙ ap (λ (m : List Name). is_among m y) (sym e);
    }

bound_node : {xs ns : List ℕ} {i : ℕ} {r : NodeRow} {M : List NodeRow} {l : List Piece} → LikeAt ns i (r ∷ M) → Quiet r → Bound xs ns (i + 1) M l → Bound xs ns i (r ∷ M) l
bound_node {xs} {ns} {i} {r} {M} {l} h q b =
    record { bound = λ y g. any_suc (length M) i (binds xs ns y.start) ∙ ap₂ ◌||◌ (quiet_node xs y.start (like_first h) q) (b.bound y g) }

bound_two : {xs ns : List ℕ} {i : ℕ} {M L : List NodeRow} {l m : List Piece} → Bound xs ns i M l → Bound xs ns (i + length M) L m → Bound xs ns i (M ++ L) (l ++ m)
bound_two {xs} {ns} {i} {M} {L} {l} {m} a b =
    record {
      bound = λ y g.
          ap (λ (n : ℕ). any_of n i (binds xs ns y.start)) (length-append M L)
          ∙ any_append (length M) (length L) i (binds xs ns y.start)
          ∙ ap₂ ◌||◌ (a.bound y g) (b.bound y g)
          ∙ sym (ap (λ (q : List Name). is_among q y) (bound_append l m) ∙ among_append (bound_in l) (bound_in m) y);
    }

pub bound_cased : {xs ns : List ℕ} {i : ℕ} (f g : ℕ) {M : List NodeRow} {l : List Piece} → Bound xs ns i M l → Bound xs ns i (on_first f g M) l
bound_cased {xs} {ns} {i} f g {M} b = record { bound = λ y h. ap (λ (n : ℕ). any_of n i (binds xs ns y.start)) (length_first f g M) ∙ b.bound y h }

bound_marked : {xs ns : List ℕ} {i : ℕ} {M : List NodeRow} (m : Mark) {l : List Piece} → Bound xs ns i M l → Bound xs ns i M (mark_pieces m ++ l)
unfolding bound_in
bound_marked (optional s) b = record { bound = b.bound }
bound_marked (any_number s) b = record { bound = b.bound }
bound_marked (one_or_more s) b = record { bound = b.bound }
bound_marked (counted opens n closes) b = record { bound = b.bound }

pub bound_formula : {xs ns : List ℕ} {i : ℕ} {M : List NodeRow} (f : List Component) {l : List Piece} → Bound xs ns i M l → Bound xs ns i M (formula f ∷ l)
unfolding bound_in
bound_formula f b = record { bound = b.bound }

pub mark_quiet : (m : Mark) (size p t : ℕ) → Quiet (mark_row m size p t)
mark_quiet (optional s) size p t = refl
mark_quiet (any_number s) size p t = refl
mark_quiet (one_or_more s) size p t = refl
mark_quiet (counted opens n closes) size p t = refl

pub binds_here : (d : ℕ) (b : Bool) → ((eqb 8 8 && not (eqb (way-bound d) 0)) && b) ≡ b
binds_here d b = picked (λ (k : ℕ). ((eqb 8 8 && not (eqb k 0)) && b) ≡ b) (eqb d 2) (λ z. refl) (λ z. refl)

or_no : (b : Bool) → b ≡ (b || false)
or_no true = refl
or_no false = refl

bound_binder : {xs ns : List ℕ} {i size place a c e : ℕ} (d : ℕ) {x : Name} {signed : Bool} {most : ℕ} {n : Number} {top : Bool} {f : List Component} → Here xs x → LikeAt ns i (a_node 8 size place a x.start c e (way-bound d) ∷ [])
    → Bound xs ns i (a_node 8 size place a x.start c e (way-bound d) ∷ []) (width most n ∷ formula f ∷ binding x signed n top ∷ [])
unfolding any_of is_among bound_in
bound_binder {xs} {ns} {i} d {x = x} k h =
    record {
      bound = λ y g. (
          let e : binds xs ns y.start i ≡ same_name xs x.start y.start = rw ((like_first h).kind_like, (like_first h).how_like, (like_first h).second_like) (binds_here d (same_name xs x.start y.start))
          in any_suc 0 i (binds xs ns y.start) ∙ ap (λ (b : Bool). b || false) (e ∙ same_here k g)
          );
    }

-- the parts of a chain
rows_two : {xs ns : List ℕ} {p q : Part} {d e : ℕ} (x : Tree p d) (y : Tree q e) (t : ℕ) {i : ℕ} {l m : List Piece} → LikeAt ns i (node_rows false x t ++ node_rows true y (t + length (term_rows x)))
    → (LikeAt ns i (node_rows false x t) → Bound xs ns i (node_rows false x t) l)
    → (LikeAt ns (i + length (node_rows false x t)) (node_rows true y (t + length (term_rows x))) → Bound xs ns (i + length (node_rows false x t)) (node_rows true y (t + length (term_rows x))) m)
    → Bound xs ns i (node_rows false x t ++ node_rows true y (t + length (term_rows x))) (l ++ m)
rows_two x y t h a b =
    bound_two (a (like_left (node_rows false x t) (node_rows true y (t + length (term_rows x))) h)) (b (like_right (node_rows false x t) (node_rows true y (t + length (term_rows x))) h))

-- a case and what follows it
cased_two : {xs ns : List ℕ} {k : TestPart} {p q : Part} {b d e : ℕ} (c : Tests k b) (x : Tree p d) (y : Tree q e) (t : ℕ) {i : ℕ} {f : List Component} {l m : List Piece}
    → LikeAt ns i (on_first t (t + length (tests_rows c [])) (node_rows false x (t + length (tests_rows c []))) ++ node_rows false y (t + length (tests_rows c [] ++ term_rows x)))
    → (LikeAt ns i (node_rows false x (t + length (tests_rows c []))) → Bound xs ns i (node_rows false x (t + length (tests_rows c []))) l)
    → (LikeAt ns (i + length (on_first t (t + length (tests_rows c [])) (node_rows false x (t + length (tests_rows c []))))) (node_rows false y (t + length (tests_rows c [] ++ term_rows x)))
    → Bound xs ns (i + length (on_first t (t + length (tests_rows c [])) (node_rows false x (t + length (tests_rows c []))))) (node_rows false y (t + length (tests_rows c [] ++ term_rows x))) m)
    → Bound xs ns i (on_first t (t + length (tests_rows c [])) (node_rows false x (t + length (tests_rows c []))) ++ node_rows false y (t + length (tests_rows c [] ++ term_rows x))) (formula f ∷ (l ++ m))
cased_two c x y t {f = f} h a b =
    let k : ℕ = t + length (tests_rows c [])
    in let M : List NodeRow = on_first t k (node_rows false x k)
    in bound_formula f
    (bound_two (bound_cased t k (a (like_uncased t k (node_rows false x k) (like_left M (node_rows false y (t + length (tests_rows c [] ++ term_rows x))) h))))
    (b (like_right M (node_rows false y (t + length (tests_rows c [] ++ term_rows x))) h)))

pub bound_rows : {xs ns : List ℕ} {p : Part} {d : ℕ} (on top : Bool) (x : Tree p d) (t : ℕ) {i : ℕ} (w : List Lexeme) {q : ℕ} → LikeAt ns i (node_rows on x t) → Standing xs q (spell x w) → Bound xs ns i (node_rows on x t) (pieces top x)
unfolding node_rows pieces spell bound_in
bound_rows on top (literal l) t w h s = bound_none h refl refl
bound_rows on top (range a g b one one') t w h s = bound_none h refl refl
bound_rows on top (field signed depth u opens n comma x closes) t w h s = bound_none h refl refl
bound_rows on top (binder {d} signed depth u opens n comma v opens' x comma' y closes closes') t w h s = bound_binder (d + 1 + 1) (here (past (past (past (past (past (past s))))))) h
bound_rows on top (rule_use x other) t w h s = bound_none h refl refl
bound_rows on top (eod g) t w h s = bound_none h refl refl
bound_rows on top (group depth opens x closes) t w h s = bound_rows false false x t (sign Kind.CloseParen closes ∷ w) h (past s)
bound_rows on top (switch depth opens x closes) t w h s = bound_node h refl (bound_rows false false x t (sign Kind.CloseBracket closes ∷ w) (like_rest h) (past s))
bound_rows on top (last_case c colon x end) t w h s =
    bound_cased t (t + length (tests_rows c []))
    (bound_formula _ (bound_rows false false x (t + length (tests_rows c [])) (sign Kind.Semicolon end ∷ w) (like_uncased t (t + length (tests_rows c [])) (node_rows false x (t + length (tests_rows c []))) h) (past (after_tests c s))))
bound_rows on top (case_default c colon x end colon' y end') t {i} w h s =
    cased_two c x y t h
    (λ g. bound_rows false false x (t + length (tests_rows c [])) (sign Kind.Semicolon end ∷ sign Kind.Colon colon' ∷ spell y (sign Kind.Semicolon end' ∷ w)) g (past (after_tests c s)))
    (λ g. bound_rows false false y (t + length (tests_rows c [] ++ term_rows x)) (sign Kind.Semicolon end' ∷ w) g (past (past (after_tree x (past (after_tests c s))))))
bound_rows on top (case_cases c colon x end more) t {i} w h s =
    cased_two c x more t h
    (λ g. bound_rows false false x (t + length (tests_rows c [])) (sign Kind.Semicolon end ∷ spell more w) g (past (after_tests c s)))
    (λ g. bound_rows false false more (t + length (tests_rows c [] ++ term_rows x)) w g (past (after_tree x (past (after_tests c s)))))
bound_rows on top (once x) t w h s = bound_rows false top x t w h s
bound_rows on top (repeated x m) t w h s = bound_node h (mark_quiet m _ _ _) (bound_marked m (bound_rows false false x t (spell_mark m w) (like_rest h) s))
bound_rows on top (last_member x) t w h s = bound_rows false top x t w h s
bound_rows false top (and_members x g more) t w h s =
    bound_node h refl
    (rows_two x more t (like_rest h) (λ l. bound_rows false top x t (sign Kind.Ampersand g ∷ spell more w) l s) (λ l. bound_rows true top more (t + length (term_rows x)) w l (past (after_tree x s))))
bound_rows true top (and_members x g more) t w h s =
    rows_two x more t h (λ l. bound_rows false top x t (sign Kind.Ampersand g ∷ spell more w) l s) (λ l. bound_rows true top more (t + length (term_rows x)) w l (past (after_tree x s)))
bound_rows on top (last_branch x) t w h s = bound_rows false top x t w h s
bound_rows false top (or_branches x g more) t w h s =
    bound_node h refl
    (rows_two x more t (like_rest h) (λ l. bound_rows false false x t (sign Kind.Bar g ∷ spell more w) l s) (λ l. bound_rows true false more (t + length (term_rows x)) w l (past (after_tree x s))))
bound_rows true top (or_branches x g more) t w h s =
    rows_two x more t h (λ l. bound_rows false false x t (sign Kind.Bar g ∷ spell more w) l s) (λ l. bound_rows true false more (t + length (term_rows x)) w l (past (after_tree x s)))

-- ---- those that are bound before a node

-- nodes from a up to i bind the variables of these names
pub record Before (xs ns : List ℕ) (a i : ℕ) (names : List Name) : Type 0 where
  pub begins : a ≤ i
  pub before : (y : Name) → Here xs y → bound_between xs ns a i y.start ≡ is_among names y

pub before_none : {xs ns : List ℕ} {a : ℕ} → Before xs ns a a []
unfolding any_of is_among
before_none {xs} {ns} {a} = record { begins = omega arith; before = λ y g. ap (λ (n : ℕ). any_of n a (binds xs ns y.start)) (let q : a - a ≡ 0 = omega arith in q) }

pub before_node : {xs ns : List ℕ} {a i : ℕ} {names : List Name} {r : NodeRow} → Like ns i r → Quiet r → Before xs ns a i names → Before xs ns a (i + 1) names
unfolding any_of
before_node {xs} {ns} {a} {i} {names} h q b =
    record {
      begins = omega (arith, b.begins);
      before = λ y g.
          any_between_on a i 1 (binds xs ns y.start) b.begins
          ∙ ap₂ ◌||◌ (b.before y g) (any_suc 0 i (binds xs ns y.start) ∙ ap (λ (c : Bool). c || false) (quiet_node xs y.start h q))
          ∙ sym (or_no (is_among names y));
    }

pub before_more : {xs ns : List ℕ} {a i : ℕ} {names : List Name} (M : List NodeRow) (l : List Piece) → Bound xs ns i M l → Before xs ns a i names → Before xs ns a (i + length M) (after_bound l names)
before_more {xs} {ns} {a} {i} {names} M l h b =
    record {
      begins = omega (arith, b.begins);
      before = λ y g.
          any_between_on a i (length M) (binds xs ns y.start) b.begins ∙ ap₂ ◌||◌ (b.before y g) (h.bound y g) ∙ sym (among_after l names y);
    }
