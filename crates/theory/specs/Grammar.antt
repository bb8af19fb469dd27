-- Frame grammars, without their text or their table.
-- "Constructs are alternatives and concatenations (each one for a whole chain), repetitions, switches, rule uses, literals, ranges,
-- uint, eod." (document 01, Limits). A construct is known by its number; literals, ranges and uints are all fields.
-- Assumes nothing.
use Rattle.std.specs.Prelude.{ℕ, Bool}
use mathlib.Core.List.{List, Memᴰ}
use Rattle.std.proofs.Math.Option.{Option}
use Rattle.basis.specs.Bits.{Bits}
use Rattle.basis.specs.Counts.{Counts}

-- i is one of these constructs
infix 40 ◌∈◌
abbrev pub ◌∈◌ : ℕ → List ℕ → Type 0
i ∈ is = Memᴰ i is

-- `Context` is what a pending entry carries (nothing in the base; the byte order of Req 03, the open rules of Req 07), `Values` the
-- values of the variables. A node's functions say what holds at a place of a derivation; its `static` part says what FIRST goes by,
-- where no values are known.
pub data Node (Context Values : Type 0) : Type 0 where
  -- one of these constructs
  alternative : List ℕ → Node Context Values
  -- these constructs, one after the other
  concatenation : List ℕ → Node Context Values
  -- `counts`: the numbers of passes that it allows here; `static`: the same where no variable stands in them, else all ("counts with
  -- a variable allowing all"); `fixed`: it is written `{n}`
  repetition : (counts : Context → Values → Counts) (static : Counts) (fixed : Bool) (body : ℕ) → Node Context Values
  -- `chosen`: "its first true case, else the default"; `optional`: it has no default, so that with no true case it "takes no bits and
  -- goes on" (Req 02); `cases`: all of them, the default too
  switch : (chosen : Context → Values → Option ℕ) (optional : Bool) (cases : List ℕ) → Node Context Values
  -- `enters`: the context inside, or none where the rule may not be opened here; `opens`: the values inside, arguments bound;
  -- `closes`: the values after it, of those before and those at the body's end (the machine has no step for it: `values_stay`)
  use_of : (enters : Context → Option Context) (opens : Context → Values → Values) (closes : Values → Values → Values) (body : ℕ) → Node Context Values
  -- `width`: how many bits it takes where these come next (a number in the base; known from a character's first byte in Req 08);
  -- `admits`: these bits, `width` of them, are right here; `static`: the same where no variable stands in the set, else true ("a set
  -- with a variable counting as `~`"); `binds`: the values after it
  field : (width : Bits → ℕ) (admits : Context → Values → Bits → Bool) (static : Bits → Bool) (binds : Context → Values → Bits → Values) → Node Context Values
  -- "takes no bits and holds only at the frame's end"
  eod : Node Context Values

-- `start` is the number of the opening use of the start rule, which is no construct of the text; `context` and `values` are those that
-- it is opened with
pub record Grammar (Context Values : Type 0) : Type 0 where
  pub node : ℕ → Node Context Values
  pub start : ℕ
  pub context : Context
  pub values : Values
