-- Laws of separators and comments, as their loop goes.
-- Assumes nothing.
use Prim.Native.Nat.{ℕ, suc, ◌+◌, max, ◌≤◌, ◌<◌}
use mathlib.Core.Path.{◌≡◌, sym, ◌∙◌}
use mathlib.Core.Bool.{Bool, true, false}
use mathlib.Core.List.{List, [], ◌∷◌}
use native.Mathlib.Omega.{arith}
use lib.ListN.{length, get_or, drop, drop_of_length-le}
use Rattle.text_header.proofs.Runs.{next, loop_over}
use Rattle.text_header.proofs.Tests.{choice}
use Rattle.text_tokens.specs.Tokens.{separates, comment_after, gap_end}

module _ (xs : List ℕ) (comment : Bool) (i : ℕ) where
  pub gap_turn : i < length xs → separates comment (get_or xs i 0) ≡ true
      → gap_end comment i (drop i xs) ≡ gap_end (comment_after comment (get_or xs i 0)) (i + 1) (drop (i + 1) xs)
  unfolding gap_end
  gap_turn h e = rw (next xs i h, e, gap_end)

  pub gap_stop : i < length xs → separates comment (get_or xs i 0) ≡ false → gap_end comment i (drop i xs) ≡ i
  unfolding gap_end
  gap_stop h e = rw (next xs i h, e, gap_end)

  pub gap_out : length xs ≤ i → gap_end comment i (drop i xs) ≡ i
  unfolding gap_end
  gap_out h = rw (drop_of_length-le xs h)

pub gap_over : (xs : List ℕ) (comment begun : Bool) (at i : ℕ) → length xs ≤ i → (at ≤ length xs → i ≤ length xs)
    → gap_end comment i (drop i xs) ≡ gap_end begun at (drop at xs) → max at (length xs) ≡ gap_end begun at (drop at xs)
gap_over xs comment begun at i h f e =
    loop_over (length xs) at i (gap_end begun at (drop at xs)) h f (sym (gap_out xs comment i h) ∙ e) (λ l. sym (gap_out xs begun at l))

-- a gap ends within the bytes
pub gap_grows : (comment : Bool) (i : ℕ) (bs : List ℕ) → i ≤ gap_end comment i bs
unfolding gap_end
gap_grows comment i [] = omega arith
gap_grows comment i (b ∷ bs) =
    choice (λ e. i ≤ e) (separates comment b) (let h : i + 1 ≤ gap_end (comment_after comment b) (i + 1) bs = gap_grows (comment_after comment b) (i + 1) bs in omega arith) (omega arith)

pub gap_fits : (comment : Bool) (i : ℕ) (bs : List ℕ) → gap_end comment i bs ≤ i + length bs
unfolding gap_end
gap_fits comment i [] = omega arith
gap_fits comment i (b ∷ bs) =
    choice (λ e. e ≤ i + suc (length bs)) (separates comment b)
    (let h : gap_end (comment_after comment b) (i + 1) bs ≤ i + 1 + length bs = gap_fits (comment_after comment b) (i + 1) bs in omega arith)
    (omega arith)
