-- A first line is right exactly where it has the parts that document 01 names.
-- Assumes nothing.
use Prim.Native.Nat.{ℕ, ◌+◌, ◌-◌, max, ◌≤◌, ◌<◌}
use mathlib.Core.Path.{◌≡◌, refl, sym, ap, ap₂, subst, ◌∙◌}
use mathlib.Core.Logic.{⊎_elim}
use mathlib.Core.Bool.{Bool, true, false, ◌&&◌}
use mathlib.Core.List.{List, [], ◌∷◌, ◌++◌, map}
use native.Mathlib.Omega.{arith}
use borrow.Author.Tests.{eq-eqb, eqb-true, le-leb, leb-true}
use lib.Dec.{leb, eqb}
use lib.ListN.{length, take, drop, length-map, length-drop, take-append-drop}
use lib.Seq.{drop-drop, drop-append_seam, length-take-le}
use Rattle.basis.proofs.Booleans.{both_first, both_second, which, both_pass}
use Rattle.text_header.specs.Bytes.{is_blank, lower_case}
use Rattle.text_header.specs.Spans.{span_end, starts, is_word}
use Rattle.text_header.specs.Header.{dogma_v1, utf_8, blanks_end, is_first_line}
use Rattle.text_header.specs.Split.{every, FirstLine}
use Rattle.text_header.specs.declared.Class.{Class}
use Rattle.text_header.proofs.Runs.{starts_on, starts_off, starts_length, span_within}
use Rattle.text_header.proofs.HeaderLaws.{never, run_every, run_over}

-- ---- words

starts_cut : (ws bs : List ℕ) → starts false ws bs ≡ true → bs ≡ ws ++ drop (length ws) bs
unfolding starts
starts_cut [] bs h = refl
starts_cut (w ∷ ws) [] h = never h
starts_cut (w ∷ ws) (b ∷ bs) h =
    ⊎_elim (λ (e : eqb b w ≡ true). ap₂ ◌∷◌ (eqb-true b w e) (starts_cut ws bs (sym (starts_on false w b ws bs e) ∙ h)))
    (λ (e : eqb b w ≡ false). never (sym (starts_off false w b ws bs e) ∙ h))
    (which (eqb b w))

folded : (ws bs : List ℕ) → length ws ≡ length bs → starts true ws bs ≡ true → map lower_case bs ≡ ws
unfolding starts
folded [] [] l h = refl
folded [] (b ∷ bs) l h = absurd (omega arith)
folded (w ∷ ws) [] l h = absurd (omega arith)
folded (w ∷ ws) (b ∷ bs) l h =
    ⊎_elim (λ (e : eqb (lower_case b) w ≡ true). ap₂ ◌∷◌ (eqb-true (lower_case b) w e) (folded ws bs (omega arith) (sym (starts_on true w b ws bs e) ∙ h)))
    (λ (e : eqb (lower_case b) w ≡ false). never (sym (starts_off true w b ws bs e) ∙ h))
    (which (eqb (lower_case b) w))

unfolded : (bs : List ℕ) → starts true (map lower_case bs) bs ≡ true
unfolding starts
unfolded [] = refl
unfolded (b ∷ bs) = starts_on true (lower_case b) b (map lower_case bs) bs (eq-eqb (lower_case b) (lower_case b) refl) ∙ unfolded bs

-- ---- a right line has the parts

pub split_first : (line : List ℕ) → is_first_line line ≡ true → FirstLine line
unfolding is_first_line
split_first line h =
    let E : ℕ = blanks_end line
    in let W : Bool = is_word true utf_8 (drop E line)
    in let front : starts false dogma_v1 line ≡ true = both_first (starts false dogma_v1 line) (leb 9 E && W) h
    in let back : (leb 9 E && W) ≡ true = both_second (starts false dogma_v1 line) (leb 9 E && W) h
    in let far : 9 ≤ blanks_end line = leb-true 9 E (both_first (leb 9 E) W back)
    in let word : is_word true utf_8 (drop (blanks_end line) line) ≡ true = both_second (leb 9 E) W back
    in let eight : 8 ≤ length line = starts_length false dogma_v1 line front
    in let fits : blanks_end line ≤ max 8 (length line) = span_within Class.Blank line 8
    in let n : 8 + (blanks_end line - 8) ≡ blanks_end line = omega arith
    in let moved : drop (blanks_end line - 8) (drop 8 line) ≡ drop (blanks_end line) line = drop-drop (blanks_end line - 8) 8 line ∙ ap (λ (k : ℕ). drop k line) n
    in let count : length utf_8 ≡ length (drop (blanks_end line) line) = eqb-true (length utf_8) (length (drop (blanks_end line) line)) (both_first (eqb (length utf_8) (length (drop (blanks_end line) line))) (starts true utf_8 (drop (blanks_end line) line)) word)
    in record {
      blanks = take (blanks_end line - 8) (drop 8 line);
      word = drop (blanks_end line) line;
      parts = starts_cut dogma_v1 line front ∙ ap (λ (l : List ℕ). dogma_v1 ++ l) (sym (take-append-drop (blanks_end line - 8) (drop 8 line)) ∙ ap (λ (l : List ℕ). take (blanks_end line - 8) (drop 8 line) ++ l) moved);
      some_blanks = omega (arith, length-take-le (blanks_end line - 8) (drop 8 line) (omega (arith, length-drop 8 line)));
      blank = run_every Class.Blank 8 (drop 8 line);
      spelled = folded utf_8 (drop (blanks_end line) line) count (both_second (eqb (length utf_8) (length (drop (blanks_end line) line))) (starts true utf_8 (drop (blanks_end line) line)) word);
    }

-- ---- a line of the parts is right

-- the word's first byte is no blank
u_stops : (w : ℕ) → lower_case w ≡ 117 → is_blank w ≡ false
u_stops w e =
    ⊎_elim (λ (t : eqb w 32 ≡ true). let z : 32 ≡ 117 = subst (λ (x : ℕ). lower_case x ≡ 117) (eqb-true w 32 t) e in absurd (omega arith))
    (λ (t : eqb w 32 ≡ false).
    ⊎_elim (λ (u : eqb w 9 ≡ true). let z : 9 ≡ 117 = subst (λ (x : ℕ). lower_case x ≡ 117) (eqb-true w 9 u) e in absurd (omega arith)) (λ (u : eqb w 9 ≡ false). rw (t, u)) (which (eqb w 9)))
    (which (eqb w 32))

joined_parts : (blanks word : List ℕ) → 0 < length blanks → every Class.Blank blanks ≡ true → map lower_case word ≡ utf_8 → is_first_line (dogma_v1 ++ (blanks ++ word)) ≡ true
unfolding is_first_line starts
joined_parts blanks [] s e f = let z : ◌≡◌ {A = ℕ} 0 1 = cc in absurd (omega arith)
joined_parts blanks (w ∷ ws) s e f =
    let u : lower_case w ≡ 117 = cc
    in let p : span_end Class.Blank 8 (blanks ++ (w ∷ ws)) ≡ 8 + length blanks = run_over Class.Blank 8 blanks w ws e (u_stops w u)
    in let line : List ℕ = dogma_v1 ++ (blanks ++ (w ∷ ws))
    in let d : drop (8 + length blanks) (dogma_v1 ++ (blanks ++ (w ∷ ws))) ≡ w ∷ ws = sym (drop-drop (length blanks) 8 (dogma_v1 ++ (blanks ++ (w ∷ ws)))) ∙ drop-append_seam blanks (w ∷ ws)
    in let g : drop (span_end Class.Blank 8 (blanks ++ (w ∷ ws))) (dogma_v1 ++ (blanks ++ (w ∷ ws))) ≡ w ∷ ws = ap (λ (k : ℕ). drop k (dogma_v1 ++ (blanks ++ (w ∷ ws)))) p ∙ d
    in let n : length utf_8 ≡ length (w ∷ ws) = ap length (sym f) ∙ length-map (w ∷ ws) lower_case
    in let t : starts true utf_8 (w ∷ ws) ≡ true = subst (λ (l : List ℕ). starts true l (w ∷ ws) ≡ true) f (unfolded (w ∷ ws))
    in let x : is_word true utf_8 (w ∷ ws) ≡ true = both_pass (eq-eqb (length utf_8) (length (w ∷ ws)) n) t
    in both_pass (le-leb 9 (span_end Class.Blank 8 (blanks ++ (w ∷ ws))) (omega arith)) (subst (λ (l : List ℕ). is_word true utf_8 l ≡ true) (sym g) x)

pub joined_first : (line : List ℕ) → FirstLine line → is_first_line line ≡ true
joined_first line x =
    subst (λ (l : List ℕ). is_first_line l ≡ true) (sym x.parts) (joined_parts x.blanks x.word x.some_blanks x.blank x.spelled)
