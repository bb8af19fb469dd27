-- The rules of a text begin in it, and a wrong line does.
-- Assumes nothing.
use Prim.Native.Nat.{ℕ, zero, suc, ◌+◌, ◌-◌, ◌≤◌}
use mathlib.Core.Path.{◌≡◌, refl, sym, ap, ◌∙◌}
use mathlib.Core.Bool.{Bool, true, false}
use mathlib.Core.List.{List, [], ◌∷◌}
use native.Mathlib.Omega.{arith}
use lib.Dec.{eqb}
use lib.ListN.{length, take, drop, length-drop}
use lib.Seq.{take_all}
use Rattle.basis.specs.Limits.{max_text_bytes}
use Rattle.table_layout.specs.Places.{table_words}
use Rattle.text_header.specs.Header.{in_front, lines, content, is_first_line, is_header_line, header_lines_of, first_of, header_of}
use Rattle.text_header.specs.declared.Heading.{Heading}
use Rattle.text_admission.specs.Admitted.{AnsweredRules, wrong_header, Answers, refused_early, by_rules}
use Rattle.text_admission.specs.declared.Admission.{Admission}

-- the bytes of lines, each with its LF
unfoldable total : List (List ℕ) → ℕ
total [] = 0
total (line ∷ more) = length line + 1 + total more

front_total : (b : ℕ) (ls : List (List ℕ)) → total (in_front b ls) ≤ 1 + total ls
unfolding total
front_total b [] = omega arith
front_total b (line ∷ more) = omega arith

lines_total : (bs : List ℕ) → total (lines bs) ≤ length bs
unfolding lines total
lines_total [] = omega arith
lines_total (b ∷ bs) = by (lines_total bs) (eqb b 10)
  where
    by : total (lines bs) ≤ length bs → (t : Bool) → total (elim t [ true ↦ [] ∷ lines bs | false ↦ in_front b (lines bs) ]) ≤ length (b ∷ bs)
    by h true = omega arith
    by h false = omega (arith, front_total b (lines bs))

abbrev spot : Heading → ℕ
spot (Heading.Rules k) = k
spot (Heading.Wrong k) = k

lines_spot : (at : ℕ) (ls : List (List ℕ)) → spot (header_lines_of at ls) ≤ at + total ls
unfolding header_lines_of total
lines_spot at [] = omega arith
lines_spot at (line ∷ more) = empty (lines_spot (at + length line + 1) more) (eqb (length (content line)) 0)
  where
    right : spot (header_lines_of (at + length line + 1) more) ≤ at + length line + 1 + total more → (t : Bool) → spot (elim t [ true ↦ header_lines_of (at + length line + 1) more | false ↦ Heading.Wrong at ]) ≤ at + (length line + 1 + total more)
    right h true = omega arith
    right h false = omega arith

    empty : spot (header_lines_of (at + length line + 1) more) ≤ at + length line + 1 + total more → (t : Bool) → spot (elim t [ true ↦ Heading.Rules (at + length line + 1) | false ↦ elim (is_header_line (content line)) [ true ↦ header_lines_of (at + length line + 1) more | false ↦ Heading.Wrong at ] ]) ≤ at + (length line + 1 + total more)
    empty h true = omega arith
    empty h false = right h (is_header_line (content line))

first_spot : (ls : List (List ℕ)) → spot (first_of ls) ≤ total ls
unfolding total
first_spot [] = omega arith
first_spot (line ∷ more) = by (is_first_line (content line))
  where
    by : (t : Bool) → spot (elim t [ true ↦ header_lines_of (length line + 1) more | false ↦ Heading.Wrong 0 ]) ≤ length line + 1 + total more
    by true = lines_spot (length line + 1) more
    by false = omega arith

header_spot : (text : List ℕ) → spot (header_of text) ≤ length text
header_spot text = omega (arith, first_spot (lines text), lines_total text)

pub rules_inside : (text : List ℕ) (h : Heading) (k : ℕ) → h ≡ header_of text → h ≡ Heading.Rules k → k ≤ length text
rules_inside text h k e z = omega (arith, header_spot text, ap spot (sym z ∙ e))

pub wrong_inside : (text : List ℕ) (h : Heading) (k : ℕ) → h ≡ header_of text → h ≡ Heading.Wrong k → k ≤ length text
wrong_inside text h k e z = omega (arith, header_spot text, ap spot (sym z ∙ e))

-- ---- the whole text

pub some_bytes : (n : ℕ) → (n ≡ 0 → ⊥) → 1 ≤ n
some_bytes zero h = absurd (h refl)
some_bytes (suc n) h = omega arith

pub rest : (text : List ℕ) (base : ℕ) → take (length text - base) (drop base text) ≡ drop base text
rest text base = take_all (length text - base) (drop base text) (omega (arith, length-drop base text))

-- the header is wrong
pub at_header : (text table : List ℕ) (h : Heading) (k : ℕ) (r : Admission) → h ≡ header_of text → h ≡ Heading.Wrong k → r ≡ Admission.Refused 3 (0 + k) → table_words ≤ length table → (length text ≡ 0 → ⊥) → length text ≤ max_text_bytes → Answers text table table r
at_header text table h k r e z w t s l =
    refused_early 3 k (w ∙ ap (Admission.Refused 3) (omega arith)) (wrong_header t (some_bytes (length text) s) l (sym e ∙ z)) refl

-- the rules are answered
pub at_rules : (text old new : List ℕ) (h : Heading) (k : ℕ) (r : Admission) → h ≡ header_of text → h ≡ Heading.Rules k → table_words ≤ length old → (length text ≡ 0 → ⊥) → length text ≤ max_text_bytes → AnsweredRules (drop k text) k old new r → Answers text old new r
at_rules text old new h k r e z t s l a =
    by_rules k (record { table_fits = t; some = some_bytes (length text) s; short = l; header = sym e ∙ z }) a
