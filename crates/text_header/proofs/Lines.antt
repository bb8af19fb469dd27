-- Laws of lines.
-- Assumes nothing.
use Prim.Native.Nat.{ℕ, suc, ◌+◌, ◌-◌, ◌≤◌, ◌<◌}
use mathlib.Core.Path.{◌≡◌, refl, ap, ◌∙◌}
use mathlib.Core.Bool.{true, false, not}
use mathlib.Core.Logic.{⊎_elim}
use mathlib.Core.List.{List, [], ◌∷◌}
use native.Mathlib.Omega.{arith}
use borrow.Author.Tests.{eq-eqb, ne_eqb}
use lib.Dec.{eqb}
use lib.ListN.{length, get_or, take, drop, length-drop}
use lib.Seq.{drop-drop, length-take-le}
use Rattle.basis.proofs.Booleans.{which}
use Rattle.text_header.specs.Spans.{span_end}
use Rattle.text_header.specs.Header.{in_front, content, lines, is_first_line, is_header_line, header_lines_of, first_of, header_of}
use Rattle.text_header.specs.declared.Class.{Class}
use Rattle.text_header.specs.declared.Heading.{Heading}
use Rattle.text_header.proofs.Runs.{span_on, span_off, span_grows}

pub content_none : (line : List ℕ) → length line ≡ 0 → content line ≡ line
unfolding content
content_none [] h = refl
content_none (b ∷ bs) h = absurd (omega arith)

pub content_cut : (line : List ℕ) → get_or line (length line - 1) 0 ≡ 13 → content line ≡ take (length line - 1) line
unfolding content
content_cut line h = rw (eq-eqb _ _ h)

pub content_whole : (line : List ℕ) → (get_or line (length line - 1) 0 ≡ 13 → ⊥) → content line ≡ line
unfolding content
content_whole line h = rw (ne_eqb _ _ h)

-- where the first LF stands; the bytes stand from place i on
abbrev pub line_end : ℕ → List ℕ → ℕ
line_end i bs = span_end (Class.Except 10) i bs

module _ (i b : ℕ) (bs : List ℕ) where
  end_here : eqb b 10 ≡ true → line_end i (b ∷ bs) ≡ i
  end_here e = span_off (Class.Except 10) i b bs (ap not e)

  end_later : eqb b 10 ≡ false → line_end i (b ∷ bs) ≡ line_end (i + 1) bs
  end_later e = span_on (Class.Except 10) i b bs (ap not e)

  line_here : eqb b 10 ≡ true → lines (b ∷ bs) ≡ [] ∷ lines bs
  unfolding lines
  line_here e = rw (e, lines)

  line_later : eqb b 10 ≡ false → lines (b ∷ bs) ≡ in_front b (lines bs)
  unfolding lines
  line_later e = rw (e, lines)

lines_none : (i : ℕ) (bs : List ℕ) → i + length bs ≤ line_end i bs → lines bs ≡ []
unfolding lines
lines_none i [] h = refl
lines_none i (b ∷ bs) h =
    ⊎_elim (λ e. let l : line_end i (b ∷ bs) ≡ i = end_here i b bs e in absurd (omega arith))
    (λ e.
    let l : line_end i (b ∷ bs) ≡ line_end (i + 1) bs = end_later i b bs e
    in line_later i b bs e ∙ ap (in_front b) (lines_none (i + 1) bs (omega arith)))
    (which (eqb b 10))

lines_more : (i : ℕ) (bs : List ℕ) → line_end i bs < i + length bs → lines bs ≡ take (line_end i bs - i) bs ∷ lines (drop (line_end i bs + 1 - i) bs)
lines_more i [] h = absurd (let g : i ≤ line_end i [] = span_grows (Class.Except 10) i [] in omega arith)
lines_more i (b ∷ bs) h =
    ⊎_elim
    (λ e.
    let none : line_end i (b ∷ bs) - i ≡ 0 = omega (arith, end_here i b bs e)
    in let one : line_end i (b ∷ bs) + 1 - i ≡ suc 0 = omega (arith, end_here i b bs e)
    in rw (none, one) (line_here i b bs e))
    (λ e.
    let g : i + 1 ≤ line_end (i + 1) bs = span_grows (Class.Except 10) (i + 1) bs
    in let l : line_end i (b ∷ bs) ≡ line_end (i + 1) bs = end_later i b bs e
    in let t : line_end i (b ∷ bs) - i ≡ suc (line_end (i + 1) bs - (i + 1)) = omega arith
    in let d : line_end i (b ∷ bs) + 1 - i ≡ suc (line_end (i + 1) bs + 1 - (i + 1)) = omega arith
    in rw (t, d) (line_later i b bs e ∙ ap (in_front b) (lines_more (i + 1) bs (omega arith))))
    (which (eqb b 10))

-- ---- the loop over the header's lines: the line at place `at`, which ends at `line_end`

module _ (xs : List ℕ) (at : ℕ) where
  -- the line's bytes
  abbrev pub line_at : List ℕ
  line_at = take (line_end at (drop at xs) - at) (drop at xs)

  module _ (ended : line_end at (drop at xs) < length xs) where
    fits : at + length (drop at xs) ≡ length xs
    fits = let g : at ≤ line_end at (drop at xs) = span_grows (Class.Except 10) at (drop at xs) in omega (arith, length-drop at xs)

    line_length : at + length line_at + 1 ≡ line_end at (drop at xs) + 1
    line_length =
        let g : at ≤ line_end at (drop at xs) = span_grows (Class.Except 10) at (drop at xs)
        in omega (arith, length-take-le (line_end at (drop at xs) - at) (drop at xs) (omega (arith, fits)), fits)

    pub line_split : lines (drop at xs) ≡ line_at ∷ lines (drop (line_end at (drop at xs) + 1) xs)
    line_split =
        let g : at ≤ line_end at (drop at xs) = span_grows (Class.Except 10) at (drop at xs)
        in let n : at + (line_end at (drop at xs) + 1 - at) ≡ line_end at (drop at xs) + 1 = omega arith
        in lines_more at (drop at xs) (omega (arith, fits)) ∙ ap (λ (bs : List ℕ). line_at ∷ lines bs) (drop-drop (line_end at (drop at xs) + 1 - at) at xs ∙ ap (λ (n : ℕ). drop n xs) n)

    pub header_empty : length (content line_at) ≡ 0 → header_lines_of at (lines (drop at xs)) ≡ Heading.Rules (line_end at (drop at xs) + 1)
    unfolding header_lines_of
    header_empty e = rw (line_split, eq-eqb _ _ e, header_lines_of, line_length)

    pub header_wrong : (length (content line_at) ≡ 0 → ⊥) → is_header_line (content line_at) ≡ false → header_lines_of at (lines (drop at xs)) ≡ Heading.Wrong at
    unfolding header_lines_of
    header_wrong e f = rw (line_split, ne_eqb _ _ e, f, header_lines_of)

    pub header_turn : (length (content line_at) ≡ 0 → ⊥) → is_header_line (content line_at) ≡ true
        → header_lines_of at (lines (drop at xs)) ≡ header_lines_of (line_end at (drop at xs) + 1) (lines (drop (line_end at (drop at xs) + 1) xs))
    unfolding header_lines_of
    header_turn e f = rw (line_split, ne_eqb _ _ e, f, header_lines_of, line_length)

  pub lines_out : length xs ≤ line_end at (drop at xs) → at ≤ length xs → lines (drop at xs) ≡ []
  lines_out h l = lines_none at (drop at xs) (omega (arith, length-drop at xs))

  pub header_unended : length xs ≤ line_end at (drop at xs) → at ≤ length xs → header_lines_of at (lines (drop at xs)) ≡ Heading.Wrong at
  unfolding header_lines_of
  header_unended h l = rw (lines_out h l, header_lines_of)

-- ---- the first line

module _ (xs : List ℕ) where
  module _ (ended : line_end 0 xs < length xs) where
    first_split : lines xs ≡ take (line_end 0 xs) xs ∷ lines (drop (line_end 0 xs + 1) xs)
    first_split = let none : line_end 0 xs - 0 ≡ line_end 0 xs = omega arith in line_split xs 0 ended ∙ ap (λ (n : ℕ). take n xs ∷ lines (drop (line_end 0 xs + 1) xs)) none

    pub first_right : is_first_line (content (take (line_end 0 xs) xs)) ≡ true → header_of xs ≡ header_lines_of (line_end 0 xs + 1) (lines (drop (line_end 0 xs + 1) xs))
    first_right e =
        let l : length (take (line_end 0 xs) xs) ≡ line_end 0 xs = length-take-le (line_end 0 xs) xs (omega arith)
        in rw (first_split, e, first_of, l)

    pub first_wrong : is_first_line (content (take (line_end 0 xs) xs)) ≡ false → header_of xs ≡ Heading.Wrong 0
    first_wrong e = rw (first_split, e, first_of)

  pub first_unended : length xs ≤ line_end 0 xs → header_of xs ≡ Heading.Wrong 0
  first_unended h = rw (lines_none 0 xs (omega arith))
