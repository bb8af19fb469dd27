-- The tests that wait for a value, as a number: a 1 followed by a digit for each (as in `term_words`), and 0 once there is no room for them. For 64 values
-- they are words: bit j of each is a test of value j.
-- Assumes nothing.
use Rattle.std.specs.Prelude.{ℕ, zero, suc, ◌+◌, ◌*◌, ◌/◌, ◌%◌, ◌^◌, ◌<◌, ◌≡◌, List, length, get_or, Bool, false, cond, leb, ltb, eqb}
use Rattle.lookahead.specs.Sets.{bit}
use Rattle.basis.specs.Bits.{digit}
use Rattle.term_words.specs.Tests.{joins}
use Rattle.term_words.specs.declared.Joint.{Joint}
use Rattle.term_membership.specs.declared.Effect.{Effect}

-- one test more; 62 may wait
unfoldable pub noted : ℕ → Bool → ℕ
noted t b = cond (ltb 0 t) (cond (ltb t (2 ^ 62)) (t * 2 + digit b) 0) 0

-- the last two tests become one
unfoldable pub joined : Joint → ℕ → ℕ
joined j t = cond (ltb t 4) 0 (noted (t / 4) (joins j (eqb (t / 2 % 2) 1) (eqb (t % 2) 1)))

-- whether the value v passes the test of an item
abbrev pub passes : Effect → ℕ → Bool
passes Effect.None v = false
passes (Effect.Within a b) v = cond (leb a v) (leb v b) false
passes (Effect.From a) v = leb a v
passes Effect.Or v = false
passes Effect.Except v = false

-- an effect on the tests of the value v
abbrev pub applied : Effect → ℕ → ℕ → ℕ
applied Effect.None t v = t
applied (Effect.Within a b) t v = noted t (passes (Effect.Within a b) v)
applied (Effect.From a) t v = noted t (passes (Effect.From a) v)
applied Effect.Or t v = joined Joint.Or t
applied Effect.Except t v = joined Joint.Except t

-- ---- for 64 values

-- a word with a test of each value, from number j on, in its lowest bits
abbrev pub Tested : Effect → List ℕ → ℕ → ℕ → ℕ → Type 0
Tested e values j n word = (k : ℕ) → k < n → bit word k ≡ digit (passes e (get_or values (j + k) 0))

-- the tests of value j in the first n words
abbrev pub tests : List ℕ → ℕ → ℕ → ℕ
tests words zero j = 1
tests words (suc n) j = tests words n j * 2 + bit (get_or words n 0) j

-- 62 may wait; 63 stands for no room
abbrev pub waiting : List ℕ → ℕ → ℕ → ℕ
waiting words n j = cond (ltb n 63) (tests words n j) 0

-- the tests of each value are made anew from what they were
abbrev pub Anew : (ℕ → ℕ → ℕ) → List ℕ → ℕ → List ℕ → ℕ → Type 0
Anew f old m new n = (length new ≡ 64) × ((j : ℕ) → j < 64 → waiting new n j ≡ f j (waiting old m j))
