-- The theorems of `specs/Theorems.antt`, proved.
-- Assumes nothing.
use Prim.Native.Nat.{ℕ, ◌+◌, ◌-◌, ◌≤◌, ◌<◌, min}
use native.Mathlib.Omega.{arith}
use native.Mathlib.Decide.{dec_lt}
use mathlib.Core.Path.{◌≡◌, refl, sym, ◌∙◌, ap, subst}
use mathlib.Core.Logic.{◌⊎◌, inl, inr, ◌≢◌}
use mathlib.Core.List.{[]}
use lib.ListN.{length, length-drop}
use Rattle.basis.specs.Bits.{Bits}
use Rattle.theory.specs.Grammar.{Grammar}
use Rattle.theory.specs.Derivation.{Tree, captures, Derivation}
use Rattle.theory.specs.Lookahead.{Follow}
use Rattle.theory.specs.Machine.{Tests, State, state, pending_of, rest_of, position_of, Verdict, undecided, matched, unmatched, Run, run, verdict_of, state_of, taken_of, tree_steps, Passes, opened, granted, taken}
use Rattle.theory.specs.Weight.{Outweighs}
use Rattle.theory.specs.Hypotheses.{Hypotheses}
use Rattle.theory.specs.Theorems.{FirstTheorem, FollowTheorem, UniqueTheorem, Derivable, AdditiveTheorem, step_bound, Exact, ExactTheorem, Decision, BoundTheorem, Moment, MomentTheorem, RoomTheorem, ValuesTheorem, LocalTheorem, ExactLocalTheorem}
use Rattle.theory.proofs.FirstTheorem as FirstProof
use Rattle.theory.proofs.FollowTheorem as FollowProof
use Rattle.theory.proofs.FollowTheorem.{After}
use Rattle.theory.proofs.UniqueTheorem as UniqueProof
use Rattle.theory.proofs.UniqueTheorem.{Twins}
use Rattle.theory.proofs.Progress.{Counted, passes_more}
use Rattle.theory.proofs.Runs as Runs
use Rattle.theory.proofs.Runs.{granted_decided, granted_sum}
use Rattle.theory.proofs.Invariants as Invariants
use Rattle.theory.specs.Scope.{Store, Scope, localised}
use Rattle.theory.proofs.LocalTheorem as LocalProof
use Rattle.theory.proofs.ValuesTheorem as ValuesProof
use Rattle.theory.proofs.Decisions.{derivation_runs, Decided, decided}

module _ {Context Values : Type 0} (g : Grammar Context Values) where
  pub first : FirstTheorem g
  first h i t c v v' s r d = (FirstProof.covers g d, FirstProof.first g h d refl)

  pub follow : FollowTheorem g
  follow h s t v d i r l = FollowProof.follow g h d refl (After.of_construct (Follow.of_start refl)) l

  pub unique : UniqueTheorem g
  unique h n s t t' v v' d d' = let x = UniqueProof.unique g h n d (Twins.one refl (Follow.of_start refl) (Follow.of_start refl)) d' in (x.0, x.1)

  pub values : ValuesTheorem g
  values s t v d = ValuesProof.replays g d refl

pub local : {Context Values Cell A R : Type 0} (store : Store Context Values Cell A R) (scope : Scope) (fresh : ℕ → Context → Values → Values) (g : Grammar Context Values) → LocalTheorem store scope fresh g
local store scope fresh g h lexical = LocalProof.same_trees store scope fresh g h lexical

module _ {Context Values : Type 0} (g : Grammar Context Values) (tests : Tests) where
  pub additive : AdditiveTheorem g tests
  additive = Runs.additive g tests

  module _ (h : Hypotheses g tests) where
    module _ (weight : Context → ℕ → ℕ) (weighs : Outweighs g weight) where
      -- past the steps needed the run stays as it is
      at_rest : (s : Bits) (x : Decided g tests h s (step_bound g tests weight s)) (n : ℕ) → x.needed ≤ n → granted g tests n (opened g tests s) ≡ x.final
      at_rest s x n l =
          let z : x.needed + (n - x.needed) ≡ n = omega arith in
          ap (λ (m : ℕ). granted g tests m (opened g tests s)) (sym z)
          ∙ (granted_sum g tests x.needed (n - x.needed) (opened g tests s)
          ∙ (ap (granted g tests (n - x.needed)) x.at_end ∙ granted_decided g tests (n - x.needed) x.final x.settled))

      -- what a grant of n steps leaves, before the run is decided and after
      moment : (s : Bits) (x : Decided g tests h s (step_bound g tests weight s)) (n : ℕ)
          → ((n < x.needed) × ((ρ : State Context Values) × Counted ρ × (granted g tests n (opened g tests s) ≡ run ρ n undecided))) ⊎ ((x.needed ≤ n) × (granted g tests n (opened g tests s) ≡ x.final))
      moment s x n = elim (dec_lt n x.needed) [ yes l ↦ inl (l, x.before n l) | no l ↦ (let m : x.needed ≤ n = omega arith in inr (m, at_rest s x n m)) ]

      taken_by : (s : Bits) (x : Decided g tests h s (step_bound g tests weight s)) (n : ℕ) → taken g tests n (opened g tests s) ≡ min n x.needed
      unfolding taken opened
      taken_by s x n =
          elim (moment s x n)
          [ inl y ↦ (let l = y.0 in rw y.1.2 (omega arith)) | inr y ↦ (let l = y.0 in let c = x.count in rw y.1 (omega arith)) ]

      decision : (s : Bits) → Decision g tests weight s
      decision s =
          let x = decided g tests h weight weighs s in
          record {
            needed = x.needed;
            within_bound = x.bound;
            undecided_iff =
                λ n. (
                  λ e. elim (moment s x n) [ inl y ↦ y.0 | inr y ↦ absurd (x.settled (sym (ap verdict_of y.1) ∙ e)) ],
                  λ l. ap verdict_of (x.before n l).2,
                );
            taken_min = taken_by s x;
            taken_later =
                λ m n. let a = taken_by s x (m + n) in let b = taken_by s x m in let c = additive.taken_sum m n (opened g tests s) in omega arith;
          }

      -- a derivation's steps are those needed
      steps_needed : (s : Bits) (x : Decided g tests h s (step_bound g tests weight s)) (t : Tree) (v : Values) → Derivation g s t v → tree_steps t ≡ x.needed
      steps_needed s x t v d =
          let e = derivation_runs g tests h s t v d in
          elim (moment s x (tree_steps t)) [
            | inl y ↦ (let z : matched ≡ undecided = sym (ap verdict_of e) ∙ ap verdict_of y.1.2 in let f : ◌≡◌ {A = ℕ} 0 1 = cc in absurd (omega arith))
            | inr y ↦ sym (ap taken_of e) ∙ (ap taken_of y.1 ∙ x.count)
          ]

      match_end : (s : Bits) (t : Tree) (v : Values) → Derivation g s t v → (n : ℕ) → tree_steps t ≤ n
          → granted g tests n (opened g tests s) ≡ run (state [] [] (length s) v (captures t 0)) (tree_steps t) matched
      match_end s t v d n l =
          let x = decided g tests h weight weighs s in
          let e = steps_needed s x t v d in
          at_rest s x n (omega arith) ∙ (sym (at_rest s x (tree_steps t) (omega arith)) ∙ derivation_runs g tests h s t v d)

      derivation_within : (s : Bits) (t : Tree) (v : Values) → Derivation g s t v → tree_steps t ≤ step_bound g tests weight s
      derivation_within s t v d = let x = decided g tests h weight weighs s in let e = steps_needed s x t v d in let l = x.bound in omega arith

      mismatched : (d : Verdict) → d ≢ undecided → d ≢ matched → d ≡ unmatched
      mismatched undecided a b = absurd (a refl)
      mismatched matched a b = absurd (b refl)
      mismatched unmatched a b = refl

      exactness : Exact g tests weight
      exactness =
          record {
            match_iff =
                λ s n l.
                let x = decided g tests h weight weighs s in (
                  λ e. x.sound (sym (ap verdict_of (at_rest s x n (let m = x.bound in omega arith))) ∙ e),
                  λ y. ap verdict_of (match_end s y.0 y.1 y.2 n (let m = derivation_within s y.0 y.1 y.2 in omega arith)),
                );
            mismatch_iff =
                λ s n l.
                let x = decided g tests h weight weighs s in (
                  λ e y.
                      let z = match_end s y.0 y.1 y.2 n (let m = derivation_within s y.0 y.1 y.2 in omega arith) in
                      let f : unmatched ≡ matched = sym e ∙ ap verdict_of z in
                      let k : ◌≡◌ {A = ℕ} 0 1 = cc in
                      omega arith,
                  λ none. ap verdict_of (at_rest s x n (let m = x.bound in omega arith)) ∙ mismatched (verdict_of x.final) x.settled (λ e. none (x.sound e)),
                );
            match_end = match_end;
          }

      counted_at : (s : Bits) (n : ℕ) → Counted (state_of (granted g tests n (opened g tests s)))
      counted_at s n =
          let x = decided g tests h weight weighs s in
          elim (moment s x n) [ inl y ↦ subst (λ (r : Run Context Values). Counted (state_of r)) (sym y.1.2) y.1.1 | inr y ↦ subst (λ (r : Run Context Values). Counted (state_of r)) (sym y.1) x.counted ]

      few_passes : (m : ℕ) (σ : State Context Values) → position_of σ ≤ m → Counted σ → Passes (pending_of σ) (m + 1)
      few_passes m (state es s p v cs) l k = passes_more es (omega arith) k

      rest_length : (s : Bits) (n : ℕ) → let σ = state_of (granted g tests n (opened g tests s)) in length (rest_of σ) ≡ length s - position_of σ
      rest_length s n = let σ = state_of (granted g tests n (opened g tests s)) in ap length (Invariants.tallied g tests h s n).rest ∙ length-drop (position_of σ) s

      at_moment : (s : Bits) (n : ℕ) → Moment g tests weight s (state_of (granted g tests n (opened g tests s)))
      at_moment s n =
          let t = Invariants.tallied g tests h s n in
          record {
            rest_is = t.rest;
            position_within = t.reached;
            captures_few = let a = rest_length s n in let b = t.few in let c = t.reached in omega arith;
            passes_few = few_passes (length s) (state_of (granted g tests n (opened g tests s))) t.reached (counted_at s n);
          }

  module _ (weight : Context → ℕ → ℕ) where
    pub exact : ExactTheorem g tests weight
    exact h weighs = exactness h weight weighs

    pub bound : BoundTheorem g tests weight
    bound h weighs = decision h weight weighs

    pub moments : MomentTheorem g tests weight
    moments h weighs = at_moment h weight weighs

  pub room : (rooms : Context → ℕ → ℕ) → RoomTheorem g tests rooms
  room rooms h has_room = Invariants.housed g tests h rooms has_room

  module _ (weight : Context → ℕ → ℕ) {Cell A R : Type 0} (store : Store Context Values Cell A R) (scope : Scope) (fresh : ℕ → Context → Values → Values) where
    pub exact_local : ExactLocalTheorem g tests weight store scope fresh
    exact_local h weighs lexical =
        let same = local store scope fresh g h.static lexical in
        let e = exact weight h weighs in
        let there : (s : Bits) → Derivable g s → Derivable (localised store scope fresh g) s = λ s d. (let x = (same s d.0 (store.reported d.1)).0 (d.1, d.2, refl) in (d.0, x.0, x.1)) in
        let back : (s : Bits) → Derivable (localised store scope fresh g) s → Derivable g s = λ s d. (let x = (same s d.0 (store.reported d.1)).1 (d.1, d.2, refl) in (d.0, x.0, x.1)) in
        record {
          match_iff = λ s n l. (λ x. there s ((e.match_iff s n l).0 x), λ d. (e.match_iff s n l).1 (back s d));
          mismatch_iff = λ s n l. (λ x d. (e.mismatch_iff s n l).0 x (back s d), λ f. (e.mismatch_iff s n l).1 (λ d. f (there s d)));
          match_end = λ s t v d n l. (let x = (same s t (store.reported v)).1 (v, d, refl) in (x.0, x.1, e.match_end s t x.0 x.1 n l, x.2));
          once =
              λ s t t' v v' d d'.
              let x = (same s t (store.reported v)).1 (v, d, refl) in let y = (same s t' (store.reported v')).1 (v', d', refl) in (unique g h.static h.no_conflict s t t' x.0 y.0 x.1 y.1).0;
        }
