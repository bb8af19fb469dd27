-- Conditions 2 and 3 of the mission, of what a program sees of a run: said of the text's tree, of derivations and of document 01's machine alone.
-- Assumes nothing.
use Rattle.std.specs.Prelude.{ℕ, ◌+◌, ◌*◌, ◌≤◌, min, ◌≡◌, ◌⊎◌, ◌↔◌, List, [], ◌∷◌, ◌++◌, length, drop}
use Rattle.basis.specs.Bits.{Bits, frame_bits}
use Rattle.theory.specs.Derivation.{Capture, Tree, captures, Derivation}
use Rattle.theory.specs.Machine.{Tests, state, Verdict, undecided, matched, unmatched, Run, run, opened, granted}
use Rattle.run_matcher.specs.Windows.{Tells}
use Rattle.tree.specs.Tree.{Rules}
use Rattle.tree_meaning.specs.Grammar.{Context, Values, tree_grammar}
use Rattle.tree_meaning.specs.Local.{local_grammar}

-- What is seen of a run: what `songrafter_verdict`, `songrafter_steps`, `songrafter_position`, `songrafter_fields` and `songrafter_value` answer, and the words
-- of its reading.
pub record Seen : Type 0 where
  pub verdict : ℕ
  pub steps : ℕ
  pub position : ℕ
  pub fields : ℕ
  pub values : Values
  pub reading : List ℕ

-- neither yet, "match", "no match"
abbrev pub verdict_number : Verdict → ℕ
verdict_number undecided = 0
verdict_number matched = 1
verdict_number unmatched = 2

-- "decided is match or no match"
abbrev pub IsDecided : Seen → Type 0
IsDecided x = (x.verdict ≡ 1) ⊎ (x.verdict ≡ 2)

-- "all but eod write two words in the reading: construct number, first bit"
unfoldable pub field_words : List Capture → List ℕ
field_words [] = []
field_words (c ∷ cs) = c.construct ∷ c.first_bit ∷ field_words cs

-- a reading with these fields, whose words were `before`: "words beyond never change"
abbrev pub listing : List Capture → (before : List ℕ) → List ℕ
listing cs before = field_words cs ++ drop (2 * length cs) before

-- ---- 2. "a decided run says match exactly when some derivation covers the whole frame, and its reading lists that derivation's fields"

-- some derivation of the tree's grammar covers these bits, with variables local to a rule
abbrev pub Matches : Rules → Bits → Type 0
Matches t s = (d : Tree) × (v : Values) × Derivation (local_grammar t) s d v

pub record Truthful (t : Rules) (frame before : List ℕ) (x : Seen) : Type 0 where
  pub match_iff : IsDecided x → (x.verdict ≡ 1) ↔ Matches t (frame_bits frame)
  pub no_match_iff : IsDecided x → (x.verdict ≡ 2) ↔ (Matches t (frame_bits frame) → ⊥)
  pub fields_are : x.verdict ≡ 1 → (d : Tree) (v : Values) → Derivation (local_grammar t) (frame_bits frame) d v → (x.fields ≡ length (captures d 0)) × (x.reading ≡ listing (captures d 0) before)

-- ---- 3. "At most one derivation"

abbrev pub OneDerivation : Rules → Type 0
OneDerivation t = (s : Bits) (d d' : Tree) (v v' : Values) → Derivation (local_grammar t) s d v → Derivation (local_grammar t) s d' v' → d ≡ d'

-- "run, reading and count are exactly what document 01's steps make of them": what a run of the machine shows, all but its to-do list, which no call shows
-- (`Conditions.Claim`, `by_steps`, has it)
abbrev pub Shown : Run Context Values → (before : List ℕ) → Seen → Type 0
Shown (run (state pending rest position values fields) taken verdict) before x =
    (x.verdict ≡ verdict_number verdict) × (x.steps ≡ taken) × (x.position ≡ position) × (x.fields ≡ length fields) × (x.values ≡ values) × (x.reading ≡ listing fields before)

-- after so many steps granted in all, however its windows are looked up
abbrev pub BySteps : Rules → (frame before : List ℕ) → (steps : ℕ) → Seen → Type 0
BySteps t frame before steps x = (tests : Tests) → Tells (tree_grammar t) tests → Shown (granted (tree_grammar t) tests steps (opened (tree_grammar t) tests (frame_bits frame))) before x

-- "decided within weight × (bits + 1) steps": so many are needed for this frame
abbrev pub InTime : (weight : ℕ) → (frame : List ℕ) → (needed : ℕ) → Type 0
InTime weight frame needed = needed ≤ weight * (8 * length frame + 1)

-- what is seen after so many steps granted in all, of a run on a frame with a reading whose words were `before`
pub record Seeing (t : Rules) (needed : ℕ) (frame before : List ℕ) (steps : ℕ) (x : Seen) : Type 0 where
  pub truthful : Truthful t frame before x
  pub by_steps : BySteps t frame before steps x
  -- and its windows can be looked up
  pub lookups : (tests : Tests) × Tells (tree_grammar t) tests
  pub counted : x.steps ≡ min steps needed
  pub decided_iff : IsDecided x ↔ (needed ≤ steps)
