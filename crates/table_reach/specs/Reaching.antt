-- Which rules reach which: refusal 7, "rule reaches itself", at the "first such rule", and refusal 12 (Req 06), "a rule not reached from the start rule". Every written use
-- counts, also under `{0}` and in rules that nothing uses.
-- Assumes nothing.
use Rattle.std.specs.Prelude.{Option, Some, None, ℕ, ◌+◌, ◌<◌, ◌≤◌, ◌≡◌, cond, List, ltb}
use Rattle.table_layout.specs.Places.{rule_word, rule_count, construct_count}
use Rattle.table_layout.specs.Constructs.{construct_at}
use Rattle.table_layout.specs.declared.Construct.{Construct}

-- the construct that is rule r's body
abbrev pub body_of : List ℕ → ℕ → ℕ
body_of ws r = rule_word ws r 0

-- where the constructs of rule r end: at the next rule's body, or at the last construct
abbrev pub rule_end : List ℕ → ℕ → ℕ
rule_end ws r = cond (ltb (r + 1) (rule_count ws)) (body_of ws (r + 1)) (construct_count ws)

-- some construct of rule r is a use of rule q
pub record Uses (ws : List ℕ) (r q : ℕ) : Type 0 where
  pub at : ℕ
  pub rule : r < rule_count ws
  pub from : body_of ws r ≤ at
  pub upto : at < rule_end ws r
  pub used : construct_at ws at ≡ Construct.Use q

-- rule r uses rule q, or a rule that reaches it
pub data Reaches (ws : List ℕ) : ℕ → ℕ → Type 0 where
  directly : {r q : ℕ} → Uses ws r q → Reaches ws r q
  through : {r p q : ℕ} → Uses ws r p → Reaches ws p q → Reaches ws r q

-- no rule reaches itself
abbrev pub Acyclic : List ℕ → Type 0
Acyclic ws = (r : ℕ) → Reaches ws r r → ⊥

-- what an answer says: refusal 7 is given exactly where there is a rule, and that is the first
abbrev pub Found : List ℕ → Option ℕ → Type 0
Found ws None = Acyclic ws
Found ws (Some r) = Reaches ws r r × ((q : ℕ) → q < r → Reaches ws q q → ⊥)

-- rule r is not the start rule, and that does not reach it
pub record Unreached (ws : List ℕ) (r : ℕ) : Type 0 where
  pub there : r < rule_count ws
  pub other : r ≡ 0 → ⊥
  pub unreached : Reaches ws 0 r → ⊥

-- every rule is reached from the start rule
abbrev pub AllReached : List ℕ → Type 0
AllReached ws = (r : ℕ) → Unreached ws r → ⊥

-- the first rule that is not
abbrev pub FirstUnreached : List ℕ → ℕ → Type 0
FirstUnreached ws r = Unreached ws r × ((q : ℕ) → q < r → Unreached ws q → ⊥)

-- what an answer says: refusal 12 is given exactly where there is such a rule, and that is the first
abbrev pub Covered : List ℕ → Option ℕ → Type 0
Covered ws None = AllReached ws
Covered ws (Some r) = FirstUnreached ws r
