-- Counts that have room are well formed.
-- Assumes nothing.
use Prim.Native.Nat.{ℕ, ◌+◌, ◌-◌}
use mathlib.Core.Path.{◌≡◌, refl, sym, subst}
use mathlib.Core.Bool.{true}
use mathlib.Core.List.{List, ◌++◌}
use native.Mathlib.Omega.{arith}
use lib.IntN.{ℤ, pos}
use lib.ListN.{length}
use Rattle.basis.specs.Counts.{Counts, none, from, within, exactly, at_least, span}
use Rattle.term_words.specs.Words.{terms}
use Rattle.term_words.specs.declared.Kind.{Kind}
use Rattle.term_words.specs.declared.Mode.{Mode}
use Rattle.term_words.specs.declared.Numbers.{Numbers}
use Rattle.term_words.specs.declared.Term.{Term}
use Rattle.term_evaluation.specs.Counts.{shown, of_one, of_trial, tallied}
use Rattle.term_evaluation.specs.declared.Form.{Form}
use Rattle.term_sizes.specs.Sizes.{of_tally, count_sizes}
use Rattle.term_trees.specs.Trees.{Calculation, Repeats, exact, on_from, up_to_bound, spanning}
use Rattle.term_trees.specs.Postfix.{last_sign, before, calculation_terms, repeat_terms}
use Rattle.term_trees.specs.Rooms.{Room}
use Rattle.term_trees.proofs.Chains.{chain, ends, ends_append}
use Rattle.term_trees.proofs.Firm.{Firm, count, calculation_firm}
use Rattle.term_trees.proofs.Repeating.{ended, ended_at}
use Rattle.text_shapes.specs.TermShapes.{RepeatsRoom}
use Rattle.table_wellformed.specs.Lists.{formed}
use Rattle.std.specs.Prelude.{Result, Ok, Err}
use Rattle.term_words.specs.declared.TermError.{TermError}
use Rattle.term_evaluation.specs.declared.Allowed.{Allowed}

-- ---- what is not malformed

abbrev Told : Result Allowed TermError → Type 0
Told (Ok Allowed.None) = Unit {0}
Told (Ok (Allowed.From low)) = Unit {0}
Told (Ok (Allowed.Within low more)) = Unit {0}
Told (Err TermError.Malformed) = ⊥
Told (Err TermError.Overflow) = Unit {0}

told_formed : (c : Result Allowed TermError) (at : ℕ) → Told c → formed (of_tally (record { counted = c; at = at })) ≡ true
told_formed (Ok Allowed.None) at t = refl
told_formed (Ok (Allowed.From low)) at t = refl
told_formed (Ok (Allowed.Within low more)) at t = refl
told_formed (Err TermError.Malformed) at t = absurd t
told_formed (Err TermError.Overflow) at t = refl

told_shown : (c : Counts) → Told (shown c)
told_shown none = tt
told_shown (from l) = tt
told_shown (within l m) = tt

-- one number, or two, at the end of the list
one_told : (f : Form) → ((a : ℤ) → Told (of_one f a)) → (t : ℕ) (r : Result (Numbers × ℕ) TermError) → Firm (λ s' t'. (count s' ≡ 1) × (t' ≡ t)) r → Told (of_trial f r)
one_told f told t (Ok (Numbers.Zero, u)) p = omega (arith, p.0)
one_told f told t (Ok (Numbers.One a, u)) p = told a
one_told f told t (Ok (Numbers.Two a b, u)) p = absurd (omega (arith, p.0))
one_told f told t (Ok (Numbers.Three a b c, u)) p = omega (arith, p.0)
one_told f told t (Ok (Numbers.Four a b c d, u)) p = omega (arith, p.0)
one_told f told t (Err TermError.Malformed) p = p
one_told f told t (Err TermError.Overflow) p = tt

two_told : (t : ℕ) (r : Result (Numbers × ℕ) TermError) → Firm (λ s' t'. (count s' ≡ 2) × (t' ≡ t)) r → Told (of_trial Form.Closed r)
two_told t (Ok (Numbers.Zero, u)) p = omega (arith, p.0)
two_told t (Ok (Numbers.One a, u)) p = omega (arith, p.0)
two_told t (Ok (Numbers.Two a b, u)) p = told_shown (span a b)
two_told t (Ok (Numbers.Three a b c, u)) p = omega (arith, p.0)
two_told t (Ok (Numbers.Four a b c d, u)) p = omega (arith, p.0)
two_told t (Err TermError.Malformed) p = p
two_told t (Err TermError.Overflow) p = tt

firm_chain : (P Q : Numbers → ℕ → Type 0) (go : Numbers → ℕ → Result (Numbers × ℕ) TermError) (r : Result (Numbers × ℕ) TermError) → Firm P r → ((s : Numbers) (t : ℕ) → P s t → Firm Q (go s t)) → Firm Q (chain go r)
firm_chain P Q go (Ok (s, t)) p h = h s t p
firm_chain P Q go (Err TermError.Malformed) p h = p
firm_chain P Q go (Err TermError.Overflow) p h = tt

-- ---- counts by their last term

module _ (env : List ℤ) (ws : List ℕ) (start end : ℕ) where
  two_ended : (a b : Calculation) → Room (length env) a 0 → Room (length env) b 1 → Firm (λ s' t'. (count s' ≡ 2) × (t' ≡ 1)) (ended Mode.Sizes env ws start end (calculation_terms a ++ calculation_terms b))
  two_ended a b p q =
      subst (Firm (λ s' t'. (count s' ≡ 2) × (t' ≡ 1))) (sym (ends_append Kind.Calculation Mode.Sizes env (pos 0) (calculation_terms a) (calculation_terms b) Numbers.Zero 1))
      (firm_chain (λ s' t'. (count s' ≡ 1) × (t' ≡ 1)) (λ s' t'. (count s' ≡ 2) × (t' ≡ 1)) (λ (s' : Numbers) (t' : ℕ). ends Kind.Calculation Mode.Sizes env (pos 0) (calculation_terms b) s' t') (ended Mode.Sizes env ws start end (calculation_terms a)) (calculation_firm Kind.Calculation Mode.Sizes env (pos 0) a 0 Numbers.Zero 1 p refl)
      (λ s' t' w. rw w.1 (calculation_firm Kind.Calculation Mode.Sizes env (pos 0) b 1 s' 1 q w.0)))

  told : (x : Repeats) → RepeatsRoom (length env) x → terms ws start end ≡ repeat_terms x → Told (tallied Mode.Sizes env ws start end).counted
  unfolding repeat_terms
  told (exact c) r e = rw (ended_at Mode.Sizes env ws start end (Term.Part (last_sign c)) (before c) (calculation_terms c) e (λ z. e)) (one_told Form.Exact (λ a. told_shown (exactly a)) 1 (ended Mode.Sizes env ws start end (calculation_terms c)) (calculation_firm Kind.Calculation Mode.Sizes env (pos 0) c 0 Numbers.Zero 1 r refl))
  told (on_from c) r e = rw (ended_at Mode.Sizes env ws start end Term.From (calculation_terms c) (calculation_terms c) e (λ z. z)) (one_told Form.Open (λ a. told_shown (at_least a)) 1 (ended Mode.Sizes env ws start end (calculation_terms c)) (calculation_firm Kind.Calculation Mode.Sizes env (pos 0) c 0 Numbers.Zero 1 r refl))
  told (up_to_bound c) r e = rw (ended_at Mode.Sizes env ws start end Term.UpTo (calculation_terms c) (calculation_terms c) e (λ z. z)) (one_told Form.UpTo (λ a. told_shown (span (pos 0) a)) 1 (ended Mode.Sizes env ws start end (calculation_terms c)) (calculation_firm Kind.Calculation Mode.Sizes env (pos 0) c 0 Numbers.Zero 1 r refl))
  told (spanning a b) r e = rw (ended_at Mode.Sizes env ws start end Term.Range (calculation_terms a ++ calculation_terms b) (calculation_terms a ++ calculation_terms b) e (λ z. z)) (two_told 1 (ended Mode.Sizes env ws start end (calculation_terms a ++ calculation_terms b)) (two_ended a b r.0 r.1))

  pub counts_formed : (x : Repeats) → RepeatsRoom (length env) x → terms ws start end ≡ repeat_terms x → formed (count_sizes env ws start end) ≡ true
  unfolding count_sizes
  counts_formed x r e = told_formed (tallied Mode.Sizes env ws start end).counted (tallied Mode.Sizes env ws start end).at (told x r e)
