-- What the theorems ask of a grammar and of the sets that the machine looks up. Above each stands the refusal or rule of document 01 that
-- gives it.
-- Assumes nothing.
use Rattle.std.specs.Prelude.{ℕ, ◌≤◌, ◌≡◌, ◌↔◌, Bool, true, false, List, ◌++◌, length, take}
use Rattle.std.proofs.Math.Option.{Option, some}
use Rattle.basis.specs.Bits.{Bits}
use Rattle.basis.specs.Counts.{Counts, Allows}
use Rattle.theory.specs.Grammar.{alternative, repetition, switch, use_of, field, Grammar, ◌∈◌}
use Rattle.theory.specs.Derivation.{Tree, construct, Derives}
use Rattle.theory.specs.Lookahead.{Predicted, Continues, Exits, Conflict, EmptyBody}
use Rattle.theory.specs.Machine.{Tests}

-- What is static covers what happens: true of every grammar read from a text, by the way its nodes are made.
pub record Static {Context Values : Type 0} (g : Grammar Context Values) : Type 0 where
  -- "a set with a variable counting as `~`"
  pub bits_static : {i : ℕ} {w : Bits → ℕ} {admits : Context → Values → Bits → Bool} {static : Bits → Bool} {binds : Context → Values → Bits → Values}
      → g.node i ≡ field w admits static binds → (c : Context) (v : Values) (bits : Bits) → admits c v bits ≡ true → static bits ≡ true
  -- a field's own bits say how many they are, whatever comes after them (a number is the same of any bits)
  pub width_own : {i : ℕ} {w : Bits → ℕ} {admits : Context → Values → Bits → Bool} {static : Bits → Bool} {binds : Context → Values → Bits → Values}
      → g.node i ≡ field w admits static binds → (s r : Bits) → w s ≤ length s → w (take (w s) s ++ r) ≡ w s
  -- "counts with a variable allowing all"
  pub counts_static : {i b : ℕ} {counts : Context → Values → Counts} {static : Counts} {fixed : Bool}
      → g.node i ≡ repetition counts static fixed b → (c : Context) (v : Values) (k : ℕ) → Allows (counts c v) k → Allows static k
  -- `{n}` is one number at most
  pub fixed_once : {i b : ℕ} {counts : Context → Values → Counts} {static : Counts}
      → g.node i ≡ repetition counts static true b → (c : Context) (v : Values) (j k : ℕ) → Allows (counts c v) j → Allows (counts c v) k → j ≡ k
  -- the case taken is one of the cases
  pub chosen_listed : {i b : ℕ} {chosen : Context → Values → Option ℕ} {optional : Bool} {is : List ℕ}
      → g.node i ≡ switch chosen optional is → (c : Context) (v : Values) → chosen c v ≡ some b → b ∈ is

-- of a grammar without refusals, and of lookups that are exact
pub record Hypotheses {Context Values : Type 0} (g : Grammar Context Values) (tests : Tests) : Type 0 where
  pub static : Static g
  -- refusal 8: a width is at least 1; refusal 4: a literal has at least one character
  pub width_positive : {i : ℕ} {w : Bits → ℕ} {admits : Context → Values → Bits → Bool} {static : Bits → Bool} {binds : Context → Values → Bits → Values}
      → g.node i ≡ field w admits static binds → (s : Bits) → 1 ≤ w s
  -- refusal 9: "repeated body has the empty first window"
  pub no_empty_body : (i : ℕ) → EmptyBody g i → ⊥
  -- refusal 10: a clash
  pub no_conflict : (i : ℕ) (x : Bits) → Conflict g i x → ⊥
  -- refusal 6, scoping: what a repetition's counts name is bound outside its body ("uses stand in later members" of their own rule), and
  -- refusal 7: the rules that the body uses do not come back to it (`keeps_counts` in proofs/LocalTheorem.antt)
  pub body_keeps_counts : {i b : ℕ} {counts : Context → Values → Counts} {static : Counts} {fixed : Bool} {t : Tree} {c : Context} {v v' : Values} {s r : Bits}
      → g.node i ≡ repetition counts static fixed b → Derives g (construct b (g.node b)) t c v s v' r → counts c v' ≡ counts c v
  -- "Values stay as last bound": nothing is put back where a rule ends. (Theorem Local says that this changes no tree, under the rules
  -- of names.)
  pub values_stay : {i b : ℕ} {enters : Context → Option Context} {opens : Context → Values → Values} {closes : Values → Values → Values}
      → g.node i ≡ use_of enters opens closes b → (v v' : Values) → closes v v' ≡ v'
  -- refusal 23: the sets in a sound table are those of the grammar
  pub predicts_exact : {i b : ℕ} {is : List ℕ} → g.node i ≡ alternative is → b ∈ is → (x : Bits) → length x ≤ 8 → (tests.predicts b x ≡ true) ↔ Predicted g b x
  pub continues_exact : {i b : ℕ} {counts : Context → Values → Counts} {static : Counts}
      → g.node i ≡ repetition counts static false b → (x : Bits) → length x ≤ 8 → (tests.continues i x ≡ true) ↔ Continues g i b x
  pub exits_exact : {i b : ℕ} {counts : Context → Values → Counts} {static : Counts}
      → g.node i ≡ repetition counts static false b → (x : Bits) → length x ≤ 8 → (tests.exits i x ≡ true) ↔ Exits g i x
