-- What two grammars share where their nodes are the same at values that are met: windows, conflicts (10), empty bodies (9), weights (11), and which numbers are
-- alternatives and repetitions.
-- Assumes nothing.
use Prim.Native.Nat.{ℕ}
use mathlib.Core.Path.{◌≡◌}
use mathlib.Core.Logic.{◌↔◌}
use mathlib.Core.Bool.{Bool}
use mathlib.Core.List.{List}
use Rattle.basis.specs.Bits.{Bits}
use Rattle.basis.specs.Counts.{Counts}
use Rattle.theory.specs.Grammar.{alternative, repetition, Grammar}
use Rattle.theory.specs.Lookahead.{Predicted, Continues, Exits, Conflict, LeastConflict, EmptyBody}
use Rattle.theory.specs.Weight.{Weighs}
use Rattle.tree_meaning.proofs.AgreeingSets.{as_alternative, as_repetition, known, follow_agrees, predicted_agrees, continues_agrees, conflict_agrees, empty_body_agrees, weights_agree}
use Rattle.tree_agreement.proofs.SameNodes.{SameNodes, grammar_back}

-- number i is a repetition of b, whichever its counts are at values
abbrev pub Repeats : {Context Values : Type 0} → Grammar Context Values → ℕ → Counts → Bool → ℕ → Type 0
Repeats {Context} {Values} g i static fixed b = (counts : Context → Values → Counts) × (g.node i ≡ repetition counts static fixed b)

-- what they share
pub record SameSets {Context Values : Type 0} (g h : Grammar Context Values) : Type 0 where
  pub empty_body_iff : (i : ℕ) → EmptyBody g i ↔ EmptyBody h i
  pub conflict_iff : (i : ℕ) (x : Bits) → Conflict g i x ↔ Conflict h i x
  pub least_iff : (i : ℕ) (x : Bits) → LeastConflict g i x ↔ LeastConflict h i x
  pub predicted_iff : (i : ℕ) (x : Bits) → Predicted g i x ↔ Predicted h i x
  pub continues_iff : (i b : ℕ) (x : Bits) → Continues g i b x ↔ Continues h i b x
  pub exits_iff : (i : ℕ) (x : Bits) → Exits g i x ↔ Exits h i x
  pub alternative_iff : (i : ℕ) (is : List ℕ) → (g.node i ≡ alternative is) ↔ (h.node i ≡ alternative is)
  pub repetition_iff : (i : ℕ) (static : Counts) (fixed : Bool) (b : ℕ) → Repeats g i static fixed b ↔ Repeats h i static fixed b
  pub weighs_iff : (w : Context → ℕ → ℕ) → Weighs g w ↔ Weighs h w

-- whichever comes first
pub sets_back : {Context Values : Type 0} {g h : Grammar Context Values} → SameSets g h → SameSets h g
sets_back s =
    record {
      empty_body_iff = λ i. ((s.empty_body_iff i).1, (s.empty_body_iff i).0);
      conflict_iff = λ i x. ((s.conflict_iff i x).1, (s.conflict_iff i x).0);
      least_iff = λ i x. ((s.least_iff i x).1, (s.least_iff i x).0);
      predicted_iff = λ i x. ((s.predicted_iff i x).1, (s.predicted_iff i x).0);
      continues_iff = λ i b x. ((s.continues_iff i b x).1, (s.continues_iff i b x).0);
      exits_iff = λ i x. ((s.exits_iff i x).1, (s.exits_iff i x).0);
      alternative_iff = λ i is. ((s.alternative_iff i is).1, (s.alternative_iff i is).0);
      repetition_iff = λ i static fixed b. ((s.repetition_iff i static fixed b).1, (s.repetition_iff i static fixed b).0);
      weighs_iff = λ w. ((s.weighs_iff w).1, (s.weighs_iff w).0);
    }

module _ {Context Values : Type 0} {P : Values → Type 0} {g h : Grammar Context Values} (same : SameNodes P g h) where
  -- one node that is known, and the other's
  alternative_agrees : (i : ℕ) (is : List ℕ) → g.node i ≡ alternative is → h.node i ≡ alternative is
  alternative_agrees i is e = as_alternative P (known P g h same.nodes same.starts i e)

  repetition_agrees : (i : ℕ) (static : Counts) (fixed : Bool) (b : ℕ) → Repeats g i static fixed b → Repeats h i static fixed b
  repetition_agrees i static fixed b e = as_repetition P (known P g h same.nodes same.starts i e.1)

  empty_agrees : (i : ℕ) → EmptyBody g i → EmptyBody h i
  empty_agrees i d = empty_body_agrees P g h same.nodes same.starts d

  clash_agrees : (i : ℕ) (x : Bits) → Conflict g i x → Conflict h i x
  clash_agrees i x d = conflict_agrees P g h same.nodes same.starts d

  branch_agrees : (i : ℕ) (x : Bits) → Predicted g i x → Predicted h i x
  branch_agrees i x d = predicted_agrees P g h same.nodes same.starts d

  go_agrees : (i b : ℕ) (x : Bits) → Continues g i b x → Continues h i b x
  go_agrees i b x d = continues_agrees P g h same.nodes same.starts d

  stop_agrees : (i : ℕ) (x : Bits) → Exits g i x → Exits h i x
  stop_agrees i x d = follow_agrees P g h same.nodes same.starts d

  weighs_agrees : (w : Context → ℕ → ℕ) → Weighs g w → Weighs h w
  weighs_agrees w d = weights_agree P g h same.nodes same.starts w d

-- the claim
pub same_sets : {Context Values : Type 0} {P : Values → Type 0} {g h : Grammar Context Values} → SameNodes P g h → SameSets g h
same_sets same =
    let back = grammar_back same in
    record {
      empty_body_iff = λ i. (empty_agrees same i, empty_agrees back i);
      conflict_iff = λ i x. (clash_agrees same i x, clash_agrees back i x);
      least_iff =
          λ i x. (
            λ d. record { common = clash_agrees same i x d.common; least = λ y c. d.least y (clash_agrees back i y c) },
            λ d. record { common = clash_agrees back i x d.common; least = λ y c. d.least y (clash_agrees same i y c) },
          );
      predicted_iff = λ i x. (branch_agrees same i x, branch_agrees back i x);
      continues_iff = λ i b x. (go_agrees same i b x, go_agrees back i b x);
      exits_iff = λ i x. (stop_agrees same i x, stop_agrees back i x);
      alternative_iff = λ i is. (alternative_agrees same i is, alternative_agrees back i is);
      repetition_iff = λ i static fixed b. (repetition_agrees same i static fixed b, repetition_agrees back i static fixed b);
      weighs_iff = λ w. (weighs_agrees same w, weighs_agrees back w);
    }
