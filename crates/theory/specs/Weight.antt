-- "Weight: field or eod 1; rule use 1 + body; concatenation 1 + sum; alternative or switch 1 + largest; repetition 2 × body + 1; grammar,
-- as a use of its start rule."
-- Assumes nothing.
use Rattle.std.specs.Prelude.{ℕ, ◌+◌, ◌*◌, ◌≤◌, max, ◌≡◌, List, [], ◌∷◌, length}
use Rattle.std.proofs.Math.Option.{none, some}
use Rattle.theory.specs.Grammar.{Node, alternative, concatenation, repetition, switch, use_of, field, eod, Grammar}

-- the parts' weights, added
unfoldable pub sum : (ℕ → ℕ) → List ℕ → ℕ
sum f [] = 0
sum f (i ∷ is) = f i + sum f is

-- the largest of them; none is 0
unfoldable pub largest : (ℕ → ℕ) → List ℕ → ℕ
largest f [] = 0
largest f (i ∷ is) = max (f i) (largest f is)

-- a node's weight, given its parts'
unfoldable pub weigh : {Context Values : Type 0} → (Context → ℕ → ℕ) → Context → Node Context Values → ℕ
unfolding sum largest
weigh weight c (alternative is) = 1 + largest (weight c) is
weigh weight c (concatenation is) = 1 + sum (weight c) is
weigh weight c (repetition counts static fixed b) = 2 * weight c b + 1
weigh weight c (switch chosen optional is) = 1 + largest (weight c) is
weigh weight c (use_of enters opens closes b) = elim (enters c) [ none ↦ 1 | some c' ↦ 1 + weight c' b ]
weigh weight c (field w admits static binds) = 1
weigh weight c eod = 1

-- `weight` gives each construct's weight. (At most one does, and only where no rule reaches itself without end.)
abbrev pub Weighs : {Context Values : Type 0} → Grammar Context Values → (Context → ℕ → ℕ) → Type 0
Weighs {Context} g weight = (c : Context) (i : ℕ) → weight c i ≡ weigh weight c (g.node i)

-- The theorems ask only that `weight` is large enough; the weight is (refusal 7 gives that there is one).
abbrev pub Outweighs : {Context Values : Type 0} → Grammar Context Values → (Context → ℕ → ℕ) → Type 0
Outweighs {Context} g weight = (c : Context) (i : ℕ) → weigh weight c (g.node i) ≤ weight c i

-- Room in the list of pending entries: entries enough for what a node becomes.

-- members one after the other: each with those after it still pending
unfoldable pub members_room : (ℕ → ℕ) → List ℕ → ℕ
members_room f [] = 0
members_room f (i ∷ is) = max (f i + length is) (members_room f is)

-- a node's room, given its parts'
unfoldable pub room : {Context Values : Type 0} → (Context → ℕ → ℕ) → Context → Node Context Values → ℕ
unfolding largest members_room
room rooms c (alternative is) = largest (rooms c) is
room rooms c (concatenation is) = members_room (rooms c) is
room rooms c (repetition counts static fixed b) = rooms c b + 1
room rooms c (switch chosen optional is) = largest (rooms c) is
room rooms c (use_of enters opens closes b) = elim (enters c) [ none ↦ 0 | some c' ↦ rooms c' b ]
room rooms c (field w admits static binds) = 0
room rooms c eod = 0

-- `rooms` gives each construct enough, itself counted. (With no rule that reaches itself, refusal 7, a construct stands in the list at
-- most once, so the number of constructs is enough.)
abbrev pub HasRoom : {Context Values : Type 0} → Grammar Context Values → (Context → ℕ → ℕ) → Type 0
HasRoom {Context} g rooms = (c : Context) (i : ℕ) → (1 ≤ rooms c i) × (room rooms c (g.node i) ≤ rooms c i)
