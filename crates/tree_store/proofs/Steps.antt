-- Nodes and pieces of a tree in step: which node is which use, which field and which binder.
-- Assumes nothing.
use Prim.Native.Nat.{ℕ, ◌+◌}
use mathlib.Core.Path.{◌≡◌, refl}
use mathlib.Core.Bool.{Bool, true, false, cond, not, ◌&&◌}
use mathlib.Core.List.{List, [], ◌∷◌, ◌++◌}
use lib.Dec.{eqb}
use lib.ListN.{length, get_or}
use Rattle.basis.specs.Limits.{max_width, max_bound_width}
use Rattle.text_tokens.specs.declared.Kind.{Kind}
use Rattle.text_tokens.specs.Numbers.{number_value}
use Rattle.tree.specs.Lexemes.{Name, Number, Lexeme, sign}
use Rattle.tree.specs.Tree.{Mark, optional, any_number, one_or_more, counted, Part, Tree, literal, range, field, binder, rule_use, eod, group, switch, last_case, case_default, case_cases, once, repeated, last_member, and_members, last_branch, or_branches}
use Rattle.tree.specs.Spelling.{spell_mark, spell}
use Rattle.tree_form.specs.Stored.{how_bound as way-bound}
use Rattle.tree_meaning.specs.Pieces.{Component, Piece, use_of_rule, width, formula, binding, mark_pieces, pieces}
use Rattle.tree_store.proofs.Rows.{NodeRow, on_first, tests_rows, term_rows, mark_row, node_rows}
use Rattle.tree_store.proofs.Standing.{Standing, past, shown, after_tests, after_tree}
use Rattle.tree_store.proofs.Flags.{flagged}
use Rattle.tree_store.proofs.Uses.{Here, here}

-- a uint that binds
abbrev pub row_binds : NodeRow → Bool
row_binds r = eqb r.kind 8 && not (eqb r.how 0)

-- rows with their pieces; a formula is passed over
pub data InStep (xs : List ℕ) : List NodeRow → List Piece → Type 0 where
  no_step : InStep xs [] []
  a_formula : {M : List NodeRow} {f : List Component} {l : List Piece} → InStep xs M l → InStep xs M (formula f ∷ l)
  a_use : {r : NodeRow} {M : List NodeRow} {x : Name} {l : List Piece} → r.kind ≡ 5 → r.place ≡ x.start → Here xs x → InStep xs M l → InStep xs (r ∷ M) (use_of_rule x ∷ l)
  a_field : {r : NodeRow} {M : List NodeRow} {n : Number} {f : List Component} {l : List Piece} → r.kind ≡ 8 → row_binds r ≡ false → r.first ≡ n.start → number_value xs n.start ≡ n.value → InStep xs M l
      → InStep xs (r ∷ M) (width max_width n ∷ formula f ∷ l)
  a_binder : {r : NodeRow} {M : List NodeRow} {n : Number} {f : List Component} {x : Name} {signed placed : Bool} {l : List Piece} → r.kind ≡ 8 → row_binds r ≡ true → r.first ≡ n.start → number_value xs n.start ≡ n.value
      → eqb (get_or xs r.place 0) 115 ≡ signed → r.second ≡ x.start → Here xs x → InStep xs M l → InStep xs (r ∷ M) (width max_bound_width n ∷ formula f ∷ binding x signed n placed ∷ l)
  another : {r : NodeRow} {M : List NodeRow} {l : List Piece} → eqb r.kind 5 ≡ false → eqb r.kind 8 ≡ false → InStep xs M l → InStep xs (r ∷ M) l

step_two : {xs : List ℕ} {M L : List NodeRow} {l m : List Piece} → InStep xs M l → InStep xs L m → InStep xs (M ++ L) (l ++ m)
step_two no_step b = b
step_two (a_formula a) b = a_formula (step_two a b)
step_two (a_use e f h a) b = a_use e f h (step_two a b)
step_two (a_field e q f v a) b = a_field e q f v (step_two a b)
step_two (a_binder e q f v o g h a) b = a_binder e q f v o g h (step_two a b)
step_two (another e q a) b = another e q (step_two a b)

step_cased : {xs : List ℕ} (f g : ℕ) {M : List NodeRow} {l : List Piece} → InStep xs M l → InStep xs (on_first f g M) l
step_cased f g no_step = no_step
step_cased f g (a_formula a) = a_formula (step_cased f g a)
step_cased f g (a_use e o h a) = a_use e o h a
step_cased f g (a_field e q o v a) = a_field e q o v a
step_cased f g (a_binder e q o v i s h a) = a_binder e q o v i s h a
step_cased f g (another e q a) = another e q a

step_mark : {xs : List ℕ} (m : Mark) (size p t : ℕ) {M : List NodeRow} {l : List Piece} → InStep xs M l → InStep xs (mark_row m size p t ∷ M) (mark_pieces m ++ l)
step_mark (optional s) size p t a = another refl refl a
step_mark (any_number s) size p t a = another refl refl a
step_mark (one_or_more s) size p t a = another refl refl a
step_mark (counted opens n closes) size p t a = a_formula (another refl refl a)

bound_so : (d : ℕ) → (eqb 8 8 && not (eqb (way-bound d) 0)) ≡ true
bound_so d = by (eqb d 2)
  where
    by : (c : Bool) → (eqb 8 8 && not (eqb (cond c 1 2) 0)) ≡ true
    by true = refl
    by false = refl

pub in_step : {xs : List ℕ} {p : Part} {d : ℕ} (on top : Bool) (x : Tree p d) (t : ℕ) (w : List Lexeme) {q : ℕ} → Standing xs q (spell x w) → InStep xs (node_rows on x t) (pieces top x)
unfolding node_rows pieces spell
in_step on top (literal l) t w s = another refl refl no_step
in_step on top (range a g b one one') t w s = another refl refl no_step
in_step on top (field signed depth u opens n comma x closes) t w s = a_field refl refl refl (shown (past (past s))) no_step
in_step on top (binder {d} signed depth u opens n comma v opens' x comma' y closes closes') t w s =
    a_binder refl (bound_so (d + 1 + 1)) refl (shown (past (past s))) (flagged signed s) refl (here (past (past (past (past (past (past s))))))) no_step
in_step on top (rule_use x other) t w s = a_use refl refl (here s) no_step
in_step on top (eod g) t w s = another refl refl no_step
in_step on top (group depth opens x closes) t w s = in_step false false x t (sign Kind.CloseParen closes ∷ w) (past s)
in_step on top (switch depth opens x closes) t w s = another refl refl (in_step false false x t (sign Kind.CloseBracket closes ∷ w) (past s))
in_step on top (last_case c colon x end) t w s =
    step_cased t (t + length (tests_rows c [])) (a_formula (in_step false false x (t + length (tests_rows c [])) (sign Kind.Semicolon end ∷ w) (past (after_tests c s))))
in_step on top (case_default c colon x end colon' y end') t w s =
    a_formula
    (step_two (step_cased t (t + length (tests_rows c [])) (in_step false false x (t + length (tests_rows c [])) (sign Kind.Semicolon end ∷ sign Kind.Colon colon' ∷ spell y (sign Kind.Semicolon end' ∷ w)) (past (after_tests c s))))
    (in_step false false y (t + length (tests_rows c [] ++ term_rows x)) (sign Kind.Semicolon end' ∷ w) (past (past (after_tree x (past (after_tests c s)))))))
in_step on top (case_cases c colon x end more) t w s =
    a_formula
    (step_two (step_cased t (t + length (tests_rows c [])) (in_step false false x (t + length (tests_rows c [])) (sign Kind.Semicolon end ∷ spell more w) (past (after_tests c s))))
    (in_step false false more (t + length (tests_rows c [] ++ term_rows x)) w (past (after_tree x (past (after_tests c s))))))
in_step on top (once x) t w s = in_step false top x t w s
in_step on top (repeated x m) t w s = step_mark m _ _ _ (in_step false false x t (spell_mark m w) s)
in_step on top (last_member x) t w s = in_step false top x t w s
in_step false top (and_members x g more) t w s =
    another refl refl (step_two (in_step false top x t (sign Kind.Ampersand g ∷ spell more w) s) (in_step true top more (t + length (term_rows x)) w (past (after_tree x s))))
in_step true top (and_members x g more) t w s =
    step_two (in_step false top x t (sign Kind.Ampersand g ∷ spell more w) s) (in_step true top more (t + length (term_rows x)) w (past (after_tree x s)))
in_step on top (last_branch x) t w s = in_step false top x t w s
in_step false top (or_branches x g more) t w s =
    another refl refl (step_two (in_step false false x t (sign Kind.Bar g ∷ spell more w) s) (in_step true false more (t + length (term_rows x)) w (past (after_tree x s))))
in_step true top (or_branches x g more) t w s =
    step_two (in_step false false x t (sign Kind.Bar g ∷ spell more w) s) (in_step true false more (t + length (term_rows x)) w (past (after_tree x s)))
