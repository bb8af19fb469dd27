-- What a run looks up (`Tells`), and that a run over words is made of a grammar's steps (`BySteps`), are the same of a text's grammar and of its tree's.
-- Assumes nothing.
use Prim.Native.Nat.{ℕ, ◌≤◌}
use mathlib.Core.Path.{◌≡◌, sym, ◌∙◌}
use mathlib.Core.Logic.{◌↔◌}
use mathlib.Core.Bool.{true, false}
use mathlib.Core.List.{List}
use mathlib.Core.Option.{none}
use lib.ListN.{length}
use Rattle.basis.specs.Bits.{Bits, frame_bits}
use Rattle.basis.specs.Counts.{Counts}
use Rattle.theory.specs.Grammar.{alternative, repetition, Grammar, ◌∈◌}
use Rattle.theory.specs.Lookahead.{Predicted, Continues, Exits}
use Rattle.theory.specs.Machine.{Tests, opened, granted}
use Rattle.table_layout.specs.Held.{Context, Values}
use Rattle.run_matcher.specs.Windows.{Tells}
use Rattle.run_matcher.specs.Conditions.{Grant, BySteps, granted as granted-in}
use Rattle.tree.specs.Tree.{Rules}
use Rattle.tree_meaning.specs.Counted.{refusal_5}
use Rattle.tree_meaning.specs.Names.{refusal_6}
use Rattle.tree_meaning.specs.Sizes.{refusal_8}
use Rattle.tree_meaning.specs.Grammar.{tree_grammar}
use Rattle.tree_store.proofs.Standing.{SpelledBy}
use Rattle.tree_agreement.proofs.SameSets.{SameSets, sets_back}
use Rattle.tree_agreement.proofs.Texts.{stored_grammar, text_sets, text_run}

-- ---- any two grammars with the same sets

module _ {g h : Grammar Context Values} (same : SameSets g h) {tests : Tests} (told : Tells g tests) where
  branch_told : {i b : ℕ} {is : List ℕ} → h.node i ≡ alternative is → b ∈ is → (x : Bits) → length x ≤ 8 → (tests.predicts b x ≡ true) ↔ Predicted h b x
  branch_told {i} {b} {is} e m x l =
      let p = told.branch ((same.alternative_iff i is).1 e) m x l in (λ a. (same.predicted_iff b x).0 (p.0 a), λ d. p.1 ((same.predicted_iff b x).1 d))

  go_told : {i b : ℕ} {counts : Context → Values → Counts} {static : Counts}
      → h.node i ≡ repetition counts static false b → (x : Bits) → length x ≤ 8 → (tests.continues i x ≡ true) ↔ Continues h i b x
  go_told {i} {b} {counts} {static} e x l =
      let p = told.go ((same.repetition_iff i static false b).1 (counts, e)).1 x l in (λ a. (same.continues_iff i b x).0 (p.0 a), λ d. p.1 ((same.continues_iff i b x).1 d))

  stop_told : {i b : ℕ} {counts : Context → Values → Counts} {static : Counts}
      → h.node i ≡ repetition counts static false b → (x : Bits) → length x ≤ 8 → (tests.exits i x ≡ true) ↔ Exits h i x
  stop_told {i} {b} {counts} {static} e x l =
      let p = told.stop ((same.repetition_iff i static false b).1 (counts, e)).1 x l in (λ a. (same.exits_iff i x).0 (p.0 a), λ d. p.1 ((same.exits_iff i x).1 d))

  tells_agrees : Tells h tests
  tells_agrees = record { branch = branch_told; go = go_told; stop = stop_told }

-- what tells the one's windows tells the other's
pub same_tells : {g h : Grammar Context Values} → SameSets g h → (tests : Tests) → Tells g tests ↔ Tells h tests
same_tells same tests = (λ a. tells_agrees same a, λ a. tells_agrees (sets_back same) a)

-- where their runs are the same too, a run over words is made of the one's steps exactly where it is made of the other's
module _ {g h : Grammar Context Values} (same : SameSets g h) (runs : (tests : Tests) (n : ℕ) (s : Bits) → granted g tests n (opened g tests s) ≡ granted h tests n (opened h tests s)) where
  steps_agree : {ws fs rs : List ℕ} {gs : List Grant} → BySteps g ws fs rs gs → BySteps h ws fs rs gs
  steps_agree {ws} {fs} {rs} {gs} b =
      record { verdict = b.verdict; made = λ tests a. b.made tests ((same_tells same tests).1 a) ∙ runs tests (granted-in gs) (frame_bits fs) }

-- both ways
pub same_steps : {g h : Grammar Context Values} → SameSets g h → ((tests : Tests) (n : ℕ) (s : Bits) → granted g tests n (opened g tests s) ≡ granted h tests n (opened h tests s))
    → (ws fs rs : List ℕ) (gs : List Grant) → BySteps g ws fs rs gs ↔ BySteps h ws fs rs gs
same_steps same runs ws fs rs gs = (λ b. steps_agree same runs b, λ b. steps_agree (sets_back same) (λ tests n s. sym (runs tests n s)) b)

-- ---- a text and its tree

module _ {xs : List ℕ} {t : Rules} (spelled : SpelledBy xs t) (five : refusal_5 t ≡ none) (six : refusal_6 t ≡ none) (eight : refusal_8 t ≡ none) where
  -- what a run looks up
  pub text_tells : (tests : Tests) → Tells (stored_grammar xs t) tests ↔ Tells (tree_grammar t) tests
  text_tells = same_tells (text_sets spelled five six eight)

  -- what a run over words is made of
  pub text_steps : (ws fs rs : List ℕ) (gs : List Grant) → BySteps (stored_grammar xs t) ws fs rs gs ↔ BySteps (tree_grammar t) ws fs rs gs
  text_steps = same_steps (text_sets spelled five six eight) (text_run spelled five six eight)
