-- Laws of a list of words in bytes, as its loop goes.
-- Assumes nothing.
use Prim.Native.Nat.{ℕ, ◌+◌, ◌≤◌, ◌<◌}
use mathlib.Core.Path.{◌≡◌}
use mathlib.Core.Bool.{true, false}
use mathlib.Core.List.{List}
use lib.ListN.{length, drop}
use Rattle.text_header.specs.Spans.{is_word}
use Rattle.text_header.specs.Header.{lines}
use Rattle.text_header.proofs.Lines.{line_end, line_at, line_split, lines_out}
use Rattle.text_tokens.specs.Names.{word_number}

module _ (xs name : List ℕ) (at k : ℕ) where
  pub word_here : line_end at (drop at xs) < length xs → is_word false (line_at xs at) name ≡ true → word_number k (lines (drop at xs)) name ≡ k
  unfolding word_number
  word_here h e = rw (line_split xs at h, e)

  pub word_later : line_end at (drop at xs) < length xs → is_word false (line_at xs at) name ≡ false
      → word_number k (lines (drop at xs)) name ≡ word_number (k + 1) (lines (drop (line_end at (drop at xs) + 1) xs)) name
  unfolding word_number
  word_later h e = rw (line_split xs at h, e)

  pub word_out : length xs ≤ line_end at (drop at xs) → at ≤ length xs → word_number k (lines (drop at xs)) name ≡ 0
  unfolding word_number
  word_out h l = rw (lines_out xs at h l)
