-- A walk over the tokens of a part: from each of them on it goes as from the start.
-- Assumes nothing.
use Prim.Native.Nat.{ℕ, zero, suc, ◌+◌, ◌≤◌, ◌<◌}
use mathlib.Core.Path.{◌≡◌, ◌∙◌, refl, sym, ap}
use mathlib.Core.Bool.{Bool, true, false}
use mathlib.Core.List.{List}
use native.Mathlib.Omega.{arith}
use Rattle.basis.specs.Limits.{max_text_bytes}
use Rattle.text_parsing.specs.Terminals.{terminal_of}
use Rattle.text_parsing.specs.declared.Terminal.{Terminal}
use Rattle.report_wording.specs.Nesting.{nested}
use Rattle.report_quoting.specs.Parts.{ends, part_end}
use Rattle.report_quoting.specs.declared.quoting.Part.{Part}

pub record Passing (text : List ℕ) (part : Part) (whole here depth tokens : ℕ) : Type 0 where
  pub left : ℕ
  pub sum : tokens + left ≡ max_text_bytes
  pub same : part_end left text part here depth ≡ whole

pub passing_start : {text : List ℕ} {part : Part} {here : ℕ} → Passing text part (part_end max_text_bytes text part here 0) here 0 0
passing_start = record { left = max_text_bytes; sum = refl; same = refl }

module _ (text : List ℕ) (part : Part) (here depth : ℕ) where
  stops : (n : ℕ) (s : Terminal) → s ≡ terminal_of text here → ends part s.code depth ≡ true → part_end (suc n) text part here depth ≡ here
  unfolding part_end
  stops n s e h = let k : ends part (terminal_of text here).code depth ≡ true = rw e at h in rw (k, part_end)

  goes :
      (n : ℕ) (s : Terminal) → s ≡ terminal_of text here → ends part s.code depth ≡ false →
      part_end (suc n) text part here depth ≡ part_end n text part s.end (nested s.code depth)
  unfolding part_end
  goes n s e h = let k : ends part (terminal_of text here).code depth ≡ false = rw e at h in rw (e, k, part_end)

  none : part_end zero text part here depth ≡ here
  unfolding part_end
  none = refl

module _ {text : List ℕ} {part : Part} {whole here depth : ℕ} where
  -- the part ends before this token
  pub passing_here :
      {tokens : ℕ} {s : Terminal} {b : Bool} → s ≡ terminal_of text here → b ≡ ends part s.code depth → b ≡ true → tokens < max_text_bytes →
      Passing text part whole here depth tokens → here ≡ whole
  passing_here {tokens} {s} e h t l g = by g.left g.sum g.same
    where
      by : (n : ℕ) → tokens + n ≡ max_text_bytes → part_end n text part here depth ≡ whole → here ≡ whole
      by zero q r = absurd (omega arith)
      by (suc n) q r = sym (stops text part here depth n s e (sym h ∙ t)) ∙ r

  -- it goes on
  pub passing_on :
      {tokens : ℕ} {s : Terminal} {b : Bool} {depth' : ℕ} → s ≡ terminal_of text here → b ≡ ends part s.code depth → b ≡ false → tokens < max_text_bytes → depth' ≡ nested s.code depth →
      Passing text part whole here depth tokens → Passing text part whole s.end depth' (tokens + 1)
  passing_on {tokens} {s} {depth' = depth'} e h t l p g = by g.left g.sum g.same
    where
      by : (n : ℕ) → tokens + n ≡ max_text_bytes → part_end n text part here depth ≡ whole → Passing text part whole s.end depth' (tokens + 1)
      by zero q r = absurd (omega arith)
      by (suc n) q r =
          record { left = n; sum = omega arith; same = ap (part_end n text part s.end) p ∙ (sym (goes text part here depth n s e (sym h ∙ t)) ∙ r) }

  -- no token is left
  pub passing_end : {tokens : ℕ} → max_text_bytes ≤ tokens → Passing text part whole here depth tokens → here ≡ whole
  passing_end {tokens} l g = by g.left g.sum g.same
    where
      by : (n : ℕ) → tokens + n ≡ max_text_bytes → part_end n text part here depth ≡ whole → here ≡ whole
      by zero q r = sym (none text part here depth) ∙ r
      by (suc n) q r = absurd (omega arith)
