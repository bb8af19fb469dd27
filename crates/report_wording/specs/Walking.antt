-- What stands before a place of the rules: brackets that are open, and the codes of the last three tokens.
-- Assumes nothing.
use Rattle.std.specs.Prelude.{ℕ, zero, suc, true, false, List, leb}
use Rattle.text_parsing.specs.Terminals.{terminal_of}
use Rattle.report_wording.specs.Nesting.{nested}
use Rattle.report_wording.specs.declared.walking.Context.{Context}

-- in front of the rules, as after a `;`
abbrev pub started : Context
started = record { depth = 0; third = 59; second = 59; last = 59 }

-- one token more
abbrev pub stepped : ℕ → Context → Context
stepped code b = record { depth = nested code b.depth; third = b.second; second = b.last; last = code }

-- before the place `at`, with at most n tokens from `here` on
unfoldable pub before_from : ℕ → List ℕ → (at here : ℕ) → Context → Context
before_from zero text at here b = b
before_from (suc n) text at here b =
    elim (leb at (terminal_of text here).start) [
      | true ↦ b
      | false ↦ before_from n text at (terminal_of text here).end (stepped (terminal_of text here).code b)
    ]
