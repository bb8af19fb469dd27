-- A walk over tokens up to a place: from each of them on it goes as from the start.
-- Assumes nothing.
use Prim.Native.Nat.{ℕ, zero, suc, ◌+◌, ◌≤◌, ◌<◌}
use mathlib.Core.Path.{◌≡◌, ◌∙◌, refl, sym, ap}
use mathlib.Core.List.{List}
use native.Mathlib.Omega.{arith}
use borrow.Author.Tests.{le-leb, lt-leb}
use Rattle.basis.specs.Limits.{max_text_bytes}
use Rattle.text_parsing.specs.Terminals.{terminal_of}
use Rattle.text_parsing.specs.declared.Terminal.{Terminal}
use Rattle.report_wording.specs.Walking.{started, stepped, before_from}
use Rattle.report_wording.specs.declared.walking.Context.{Context}

pub record Going (text : List ℕ) (at : ℕ) (whole : Context) (here : ℕ) (seen : Context) (tokens : ℕ) : Type 0 where
  pub left : ℕ
  pub sum : tokens + left ≡ max_text_bytes
  pub same : before_from left text at here seen ≡ whole

pub going_start : {text : List ℕ} {at here : ℕ} {seen : Context} → seen ≡ started → Going text at (before_from max_text_bytes text at here started) here seen 0
going_start {text} {at} {here} e = record { left = max_text_bytes; sum = refl; same = ap (before_from max_text_bytes text at here) e }

module _ (text : List ℕ) (at here : ℕ) (seen : Context) where
  stops : (n : ℕ) (s : Terminal) → s ≡ terminal_of text here → at ≤ s.start → before_from (suc n) text at here seen ≡ seen
  unfolding before_from
  stops n s e h = let k : at ≤ (terminal_of text here).start = rw e at h in rw (le-leb _ _ k, before_from)

  goes : (n : ℕ) (s : Terminal) → s ≡ terminal_of text here → s.start < at → before_from (suc n) text at here seen ≡ before_from n text at s.end (stepped s.code seen)
  unfolding before_from
  goes n s e h = let k : (terminal_of text here).start < at = rw e at h in rw (e, lt-leb _ _ k, before_from)

  none : before_from zero text at here seen ≡ seen
  unfolding before_from
  none = refl

module _ {text : List ℕ} {at : ℕ} {whole : Context} {here : ℕ} {seen : Context} where
  -- the place is reached at this token
  pub going_here : {tokens : ℕ} {s : Terminal} → s ≡ terminal_of text here → at ≤ s.start → tokens < max_text_bytes → Going text at whole here seen tokens → seen ≡ whole
  going_here {tokens} {s} e h l g = by g.left g.sum g.same
    where
      by : (n : ℕ) → tokens + n ≡ max_text_bytes → before_from n text at here seen ≡ whole → seen ≡ whole
      by zero q r = absurd (omega arith)
      by (suc n) q r = sym (stops text at here seen n s e h) ∙ r

  -- it is not
  pub going_on :
      {tokens : ℕ} {s : Terminal} {seen' : Context} → s ≡ terminal_of text here → s.start < at → tokens < max_text_bytes → seen' ≡ stepped s.code seen →
      Going text at whole here seen tokens → Going text at whole s.end seen' (tokens + 1)
  going_on {tokens} {s} {seen'} e h l p g = by g.left g.sum g.same
    where
      by : (n : ℕ) → tokens + n ≡ max_text_bytes → before_from n text at here seen ≡ whole → Going text at whole s.end seen' (tokens + 1)
      by zero q r = absurd (omega arith)
      by (suc n) q r = record { left = n; sum = omega arith; same = ap (before_from n text at s.end) p ∙ (sym (goes text at here seen n s e h) ∙ r) }

  -- no token is left
  pub going_end : {tokens : ℕ} → max_text_bytes ≤ tokens → Going text at whole here seen tokens → seen ≡ whole
  going_end {tokens} l g = by g.left g.sum g.same
    where
      by : (n : ℕ) → tokens + n ≡ max_text_bytes → before_from n text at here seen ≡ whole → seen ≡ whole
      by zero q r = sym (none text at here seen) ∙ r
      by (suc n) q r = absurd (omega arith)
