-- Branches, cases and members, one part at a time: what a loop over them keeps.
-- Assumes nothing.
use Prim.Native.Nat.{ℕ, ◌+◌, ◌-◌, ◌≤◌, ◌<◌}
use mathlib.Core.Path.{◌≡◌, ◌∙◌, ap}
use mathlib.Core.Bool.{Bool, true, false}
use mathlib.Core.List.{List}
use lib.IntN.{ℤ}
use Rattle.table_layout.specs.Constructs.{construct_at}
use Rattle.table_layout.specs.Held.{size_of}
use Rattle.run_actions.specs.Stored.{stored, prediction_at}
use Rattle.run_actions.specs.Acts.{walk, by_branch, branch_act, case_test, by_case, case_act}
use Rattle.run_actions.specs.declared.Act.{Act}
use Rattle.run_actions.proofs.Walks.{walk_end, walk_missing, walk_part, walk_first}
use Rattle.std.specs.Prelude.{Result, Ok}
use Rattle.term_words.specs.declared.TermError.{TermError}

module _ (ws : List ℕ) (end : ℕ) where
  abbrev size : ℕ → ℕ
  size j = size_of (construct_at ws j)

  module _ (n : ℕ) where
    abbrev visit_branch : ℕ → Act → Act
    visit_branch i rest = by_branch (stored ws (prediction_at i) n) i rest

    pub branch_end : (j : ℕ) → end ≤ j → branch_act ws n j end ≡ Act.Fail
    branch_end j l = walk_end visit_branch Act.Fail Act.Broken ws end (end - j) j l

    pub branch_hit : (j : ℕ) → j < end → stored ws (prediction_at j) n ≡ true → branch_act ws n j end ≡ Act.Enter j
    branch_hit j l e = let x = walk_first visit_branch Act.Fail Act.Broken ws end j l in x.1 ∙ ap (λ (t : Bool). by_branch t j x.0) e

    pub branch_missing : (j : ℕ) → j < end → stored ws (prediction_at j) n ≡ false → size j ≡ 0 → branch_act ws n j end ≡ Act.Broken
    branch_missing j l e z = walk_missing visit_branch Act.Fail Act.Broken ws end j l z ∙ ap (λ (t : Bool). by_branch t j Act.Broken) e

    pub branch_next : (j : ℕ) → j < end → stored ws (prediction_at j) n ≡ false → (size j ≡ 0 → ⊥) → branch_act ws n j end ≡ branch_act ws n (j + size j) end
    branch_next j l e z = walk_part visit_branch Act.Fail Act.Broken ws end j l z ∙ ap (λ (t : Bool). by_branch t j (branch_act ws n (j + size j) end)) e

  module _ (vs : List ℤ) where
    abbrev visit_case : ℕ → Act → Act
    visit_case i rest = by_case (case_test ws vs i) i rest

    pub case_end : (j : ℕ) → end ≤ j → case_act ws vs j end ≡ Act.Leave
    case_end j l = walk_end visit_case Act.Leave Act.Broken ws end (end - j) j l

    -- a case that is taken, or cannot be worked out, whatever stands after it
    pub case_hit : (j : ℕ) (a : Act) → j < end → ((rest : Act) → by_case (case_test ws vs j) j rest ≡ a) → case_act ws vs j end ≡ a
    case_hit j a l h = let x = walk_first visit_case Act.Leave Act.Broken ws end j l in x.1 ∙ h x.0

    pub case_missing : (j : ℕ) → j < end → case_test ws vs j ≡ Ok false → size j ≡ 0 → case_act ws vs j end ≡ Act.Broken
    case_missing j l e z = walk_missing visit_case Act.Leave Act.Broken ws end j l z ∙ ap (λ (t : Result Bool TermError). by_case t j Act.Broken) e

    pub case_next : (j : ℕ) → j < end → case_test ws vs j ≡ Ok false → (size j ≡ 0 → ⊥) → case_act ws vs j end ≡ case_act ws vs (j + size j) end
    case_next j l e z = walk_part visit_case Act.Leave Act.Broken ws end j l z ∙ ap (λ (t : Result Bool TermError). by_case t j (case_act ws vs (j + size j) end)) e

  module _ (start : ℕ) where
    -- the members from j on, where n stand before it
    abbrev pub members_from : ℕ → ℕ → Act
    members_from j n = walk {A = ℕ → Act} (λ i rest m. rest (m + 1)) (λ m. Act.Members start end m) (λ m. Act.Broken) (end - j) ws j end n

    pub members_end : (j n : ℕ) → end ≤ j → members_from j n ≡ Act.Members start end n
    members_end j n l = ap (λ (f : ℕ → Act). f n) (walk_end {A = ℕ → Act} (λ i rest m. rest (m + 1)) (λ m. Act.Members start end m) (λ m. Act.Broken) ws end (end - j) j l)

    pub members_missing : (j n : ℕ) → j < end → size j ≡ 0 → members_from j n ≡ Act.Broken
    members_missing j n l z = ap (λ (f : ℕ → Act). f n) (walk_missing {A = ℕ → Act} (λ i rest m. rest (m + 1)) (λ m. Act.Members start end m) (λ m. Act.Broken) ws end j l z)

    pub members_next : (j n : ℕ) → j < end → (size j ≡ 0 → ⊥) → members_from j n ≡ members_from (j + size j) (n + 1)
    members_next j n l z = ap (λ (f : ℕ → Act). f n) (walk_part {A = ℕ → Act} (λ i rest m. rest (m + 1)) (λ m. Act.Members start end m) (λ m. Act.Broken) ws end j l z)
