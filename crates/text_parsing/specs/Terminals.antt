-- The terminals of the grammar: what a token is to the form of rules. A sign's code is its byte, 128 more where `=` follows.
-- Assumes nothing.
use Rattle.std.specs.Prelude.{ℕ, zero, suc, Bool, true, false, cond, not, ◌&&◌, ◌||◌, List, [], ◌∷◌, leb, eqb, length}
use Rattle.text_tokens.specs.Numbers.{number_value, capped}
use Rattle.text_tokens.specs.Names.{reserved_of, name_of}
use Rattle.text_tokens.specs.Tokens.{token_of}
use Rattle.text_tokens.specs.declared.Kind.{Kind}
use Rattle.text_literals.specs.Literals.{characters_at}
use Rattle.text_parsing.specs.declared.Terminal.{Terminal}

-- a token's code; what is no sign has a code below 6
abbrev pub code_of : Kind → ℕ
code_of Kind.Name = 1
code_of Kind.Number = 2
code_of Kind.Literal = 3
code_of Kind.Fault = 4
code_of Kind.End = 5
code_of Kind.Equal = 61
code_of Kind.Semicolon = 59
code_of Kind.Bar = 124
code_of Kind.Ampersand = 38
code_of Kind.OpenParen = 40
code_of Kind.CloseParen = 41
code_of Kind.OpenBracket = 91
code_of Kind.CloseBracket = 93
code_of Kind.OpenBrace = 123
code_of Kind.CloseBrace = 125
code_of Kind.Question = 63
code_of Kind.Star = 42
code_of Kind.Plus = 43
code_of Kind.Minus = 45
code_of Kind.Tilde = 126
code_of Kind.Bang = 33
code_of Kind.Comma = 44
code_of Kind.Colon = 58
code_of Kind.Less = 60
code_of Kind.Greater = 62
code_of Kind.Unequal = 161
code_of Kind.AtMost = 188
code_of Kind.AtLeast = 190

-- `(` comes next
abbrev pub opens_at : List ℕ → ℕ → Bool
opens_at xs at = eqb (code_of (token_of xs at).kind) 40

-- Names: `uint`, `sint` and `var` are more than a name only before `(` (6, 6, 8), `eod` always (7). Being reserved is refusal 6. Which of `uint` and `sint` it is does
-- not matter to the form.
abbrev pub word_code : ℕ → Bool → ℕ
word_code word opens = cond (eqb word 12 || eqb word 13) (cond opens 6 1) (cond (eqb word 9) (cond opens 8 1) (cond (eqb word 10) 7 1))

-- the code of the name from `start` up to `end`
unfoldable pub name_code : List ℕ → ℕ → ℕ → ℕ
name_code xs start end = word_code (reserved_of (name_of xs start end)) (opens_at xs end)

-- Literals: one of a single character may begin or end a range (9).
unfoldable pub literal_code : List ℕ → ℕ → ℕ
literal_code xs start = cond (eqb (length (characters_at xs start)) 1) 9 3

-- a terminal: its code, from where up to where it stands, and the value of a number
abbrev pub terminal : ℕ → ℕ → ℕ → ℕ → Terminal
terminal code start end value = record { code = code; start = start; end = end; value = value }

-- the terminal that a token of a code is; a number has its value
unfoldable pub seen : List ℕ → ℕ → ℕ → ℕ → Terminal
seen xs code start end =
    cond (eqb code 1) (terminal (name_code xs start end) start end 0)
    (cond (eqb code 2) (terminal 2 start end (capped (number_value xs start)))
    (cond (eqb code 3) (terminal (literal_code xs start) start end 0) (terminal code start end 0)))

-- the terminal at or after a place
unfoldable pub terminal_of : List ℕ → ℕ → Terminal
terminal_of xs at = seen xs (code_of (token_of xs at).kind) (token_of xs at).start (token_of xs at).end

-- the terminals from a place on, the end last; each but the end takes a byte
unfoldable pub terminals : ℕ → List ℕ → ℕ → List Terminal
terminals zero xs at = []
terminals (suc n) xs at = terminal_of xs at ∷ elim (eqb (terminal_of xs at).code 5) [ true ↦ [] | false ↦ terminals n xs (terminal_of xs at).end ]

-- all of them, since there are no more than bytes and the end
abbrev pub terminals_from : List ℕ → ℕ → List Terminal
terminals_from xs at = terminals (suc (length xs)) xs at

-- those after a terminal
unfoldable pub terminals_after : List ℕ → Terminal → List Terminal
terminals_after xs s = elim (eqb s.code 5) [ true ↦ [] | false ↦ terminals_from xs s.end ]

-- ---- tests of a terminal

-- it has this code
abbrev pub is : ℕ → Terminal → Bool
is k s = eqb s.code k

-- any name may stand where the form has a name
abbrev pub name_like : ℕ → Bool
name_like code = eqb code 1 || (leb 6 code && leb code 8)

-- a terminal that is such a name
abbrev pub is_name : Terminal → Bool
is_name s = name_like s.code

-- a calculation begins with a number, a name or a minus
abbrev pub begin_like : ℕ → Bool
begin_like code = eqb code 2 || (name_like code || eqb code 45)

-- a terminal that begins one
abbrev pub begins : Terminal → Bool
begins s = begin_like s.code

-- neither a failure nor the end
abbrev pub live : ℕ → Bool
live code = not (eqb code 0 || eqb code 5)
