-- From the judgement to soundness.
-- Assumes nothing.
use Prim.Native.Nat.{ℕ, ◌<◌}
use mathlib.Core.Path.{◌≡◌, sym, ◌∙◌}
use mathlib.Core.Bool.{Bool, false, false≢true}
use mathlib.Core.List.{List}
use native.Mathlib.Omega.{arith}
use Rattle.basis.specs.Limits.{max_weight}
use Rattle.lookahead.specs.Sets.{Decides}
use Rattle.theory.specs.Weight.{Weighs}
use Rattle.table_layout.specs.Places.{construct_count, weight_of}
use Rattle.table_layout.specs.Held.{Context, held, opening}
use Rattle.table_structure.proofs.Facts.{facts}
use Rattle.table_scope.proofs.RuledLaw.{ruled}
use Rattle.table_weights.proofs.Heights.{weight_at}
use Rattle.table_weights.proofs.Theorems.{weights_exist}
use Rattle.table_conflicts.specs.Conflicts.{Conflicting}
use Rattle.table_judge.specs.Judged.{Least, Passed7, Passed8, Judged}
use Rattle.table_judge.specs.Sound.{SetsStand, Sound}
use Rattle.table_judge.specs.declared.Fault.{Fault}
use Rattle.std.specs.Prelude.{Ok, Err}

-- the one function that gives the weights
module _ (ws : List ℕ) (p : Passed7 ws) where
  abbrev weight_of_all : Context → ℕ → ℕ
  weight_of_all c i = weight_at ws i

  gives : Weighs (held ws) weight_of_all
  gives = weights_exist ws (ruled ws p.laid_out) p.acyclic

-- a sound table is refused by nothing
module _ (ws : List ℕ) where
  unsound : (Sound ws → ⊥) → Decides false (Sound ws)
  unsound n = ((λ t. absurd (false≢true t)), (λ s. absurd (n s)))

  pub unformed : (r : Bool) → r ≡ false → Decides r (Passed8 ws) → Decides false (Sound ws)
  unformed r e d = unsound (λ s. false≢true (sym e ∙ d.1 s.passed.passed.passed))

  pub empty_body : (i : ℕ) → Judged ws (Err (Fault.EmptyBody i)) → Decides false (Sound ws)
  empty_body i j = unsound (λ s. s.passed.passed.no_empty_body i j.1.holds)

  pub conflict : (i : ℕ) → Least ws (Conflicting ws) i → Decides false (Sound ws)
  conflict i l = unsound (λ s. s.passed.no_conflict i l.holds)

  pub overweight : Judged ws (Err Fault.Overweight) → Decides false (Sound ws)
  overweight j =
      unsound
      (λ s.
      let p = s.passed.passed.passed.passed in
      let a : max_weight < weight_at ws opening = j.1 (weight_of_all ws p) (gives ws p) in
      let b : weight_at ws opening ≡ weight_of ws = s.weight (weight_of_all ws p) (gives ws p) in
      omega (arith, (facts ws p.laid_out).counts.weight))

  pub unreached : (rule : ℕ) → Judged ws (Err (Fault.Unreached rule)) → Decides false (Sound ws)
  unreached rule j = unsound (λ s. s.reached rule j.2.0)

  pub no_value : (i : ℕ) → Judged ws (Err (Fault.NoValue i)) → Decides false (Sound ws)
  no_value i j = unsound (λ s. s.valued i j.3.holds)

  pub refused : (fault : Fault) → Judged ws (Err fault) → Decides false (Sound ws)
  refused (Fault.EmptyBody i) j = empty_body i j
  refused (Fault.Conflict i clash) j = conflict i j.1
  refused Fault.Overweight j = overweight j
  refused (Fault.Unreached rule) j = unreached rule j
  refused (Fault.NoValue i) j = no_value i j

module _ (ws : List ℕ) (weight : ℕ) (j : Judged ws (Ok weight)) where
  pub other_weight : (weight ≡ weight_of ws → ⊥) → Decides false (Sound ws)
  other_weight n =
      let p = j.0.passed.passed.passed in
      unsound ws (λ s. n (sym (j.1 (weight_of_all ws p) (gives ws p)) ∙ s.weight (weight_of_all ws p) (gives ws p)))

  pub sound_iff : weight ≡ weight_of ws → (r : Bool) → Decides r ((i : ℕ) → i < construct_count ws → SetsStand ws i) → Decides r (Sound ws)
  sound_iff e r d = ((λ t. record { passed = j.0; weight = λ f k. j.1 f k ∙ e; reached = j.3; valued = j.4; sets = d.0 t }), (λ s. d.1 s.sets))
