-- The theory's theorems of a run from an opening, said of the words: what it counts, when it is decided and how, what its reading holds.
-- Assumes nothing.
use Prim.Native.Nat.{ℕ, ◌+◌, ◌*◌, ◌-◌, ◌≤◌, ◌<◌, min}
use native.Mathlib.Omega.{arith}
use mathlib.Core.Path.{◌≡◌, sym, ◌∙◌, ap, ap₂, subst}
use mathlib.Core.Logic.{◌↔◌}
use mathlib.Core.List.{List, [], ◌++◌}
use lib.IntN.{ℤ}
use lib.ListN.{length, drop}
use Rattle.basis.specs.Bits.{Bits, frame_bits}
use Rattle.basis.proofs.Frames.{frame_length}
use Rattle.theory.specs.Derivation.{Tree, Capture, captures, Derivation}
use Rattle.theory.specs.Machine.{state, position_of, captures_of, Verdict, undecided, matched, unmatched, run, verdict_of, state_of, taken_of, tree_steps, opened, granted, taken}
use Rattle.theory.specs.Theorems.{step_bound, Derivable, Exact, ExactLocal, Decision}
use Rattle.theory.specs.Scope.{Store, Scope, localised, Lexical}
use Rattle.theory.proofs.Theorems as Theory
use Rattle.table_layout.specs.Held.{Context, first_context, Values, opening, held}
use Rattle.run_actions.specs.Stored.{tests_of}
use Rattle.run_actions.specs.Acts.{bits_of}
use Rattle.run_steps.specs.Steps.{Whole, steps_of}
use Rattle.run_refinement.specs.Runs.{HeldRun, recorded, words_of, verdict_as, head_of, values_of, reading_of, run_of}
use Rattle.run_refinement.proofs.Pending.{recorded_length}
use Rattle.run_refinement.proofs.Verdicts.{undecided_as, matched_as, unmatched_as}
use Rattle.run_refinement.proofs.Readings.{reading_is}
use Rattle.run_refinement.proofs.Reliable.{Reliable}
use Rattle.run_refinement.proofs.Steady.{state_values}
use Rattle.run_refinement.proofs.Openings.{Opening, opening_of, opening_fits}
use Rattle.run_refinement.proofs.Fitting.{captures_held, position_held, values_held, agrees, few}

both_ways : {A B C : Type 0} → A ↔ B → B ↔ C → A ↔ C
both_ways x y = (λ a. y.0 (x.0 a), λ c. x.1 (y.1 c))

module _ (ws : List ℕ) (widest : List ℤ) (weight rooms : Context → ℕ → ℕ) (r : Reliable ws widest weight rooms) (fs cs ps rs : List ℕ) (o : Opening fs cs ps rs) where
  abbrev w₀ : Whole
  w₀ = opening_of ws cs ps rs

  abbrev s : Bits
  s = frame_bits fs

  abbrev after : ℕ → Whole
  after n = steps_of ws fs n w₀

  abbrev at : ℕ → HeldRun
  at n = granted (held ws) (tests_of ws) n (opened (held ws) (tests_of ws) s)

  same_verdict : (n : ℕ) (d : Verdict) → (verdict_as (head_of (after n)).verdict ≡ d) ↔ (verdict_of (at n) ≡ d)
  same_verdict n d = (λ e. sym (ap verdict_of (agrees ws widest weight rooms r fs cs ps rs o n)) ∙ e, λ e. ap verdict_of (agrees ws widest weight rooms r fs cs ps rs o n) ∙ e)

  -- it is decided within the bound, and counts each step until then
  pub record Decides : Type 0 where
    pub needed : ℕ
    pub within_bound : needed ≤ weight first_context opening * (bits_of fs + 1)
    pub steps : (n : ℕ) → (head_of (after n)).steps ≡ min n needed
    pub undecided_iff : (n : ℕ) → ((head_of (after n)).verdict ≡ 0) ↔ (n < needed)

  pub decides : Decides
  unfolding taken opened held
  decides =
      let d : Decision (held ws) (tests_of ws) weight s = Theory.bound (held ws) (tests_of ws) weight r.hypotheses r.weighs s in
      record {
        needed = d.needed;
        within_bound = subst (λ (k : ℕ). d.needed ≤ weight first_context opening * (k + 1)) (frame_length fs) d.within_bound;
        steps = λ n. let x : taken_of (at n) - 0 ≡ min n d.needed = d.taken_min n in ap taken_of (agrees ws widest weight rooms r fs cs ps rs o n) ∙ omega arith;
        undecided_iff = λ n. both_ways (undecided_as (head_of (after n)).verdict) (both_ways (same_verdict n undecided) (d.undecided_iff n));
      }

  enough : (n : ℕ) → weight first_context opening * (bits_of fs + 1) ≤ n → step_bound (held ws) (tests_of ws) weight s ≤ n
  unfolding held
  enough n l = subst (λ (k : ℕ). weight first_context opening * (k + 1) ≤ n) (sym (frame_length fs)) l

  exact : Exact (held ws) (tests_of ws) weight
  exact = Theory.exact (held ws) (tests_of ws) weight r.hypotheses r.weighs

  -- match exactly where a derivation covers the frame, no match exactly where none does
  pub match_iff : (n : ℕ) → weight first_context opening * (bits_of fs + 1) ≤ n → ((head_of (after n)).verdict ≡ 1) ↔ Derivable (held ws) s
  match_iff n l = both_ways (matched_as (head_of (after n)).verdict) (both_ways (same_verdict n matched) (exact.match_iff s n (enough n l)))

  pub mismatch_iff : (n : ℕ) → weight first_context opening * (bits_of fs + 1) ≤ n → ((head_of (after n)).verdict ≡ 2) ↔ (Derivable (held ws) s → ⊥)
  mismatch_iff n l = both_ways (unmatched_as (head_of (after n)).verdict (few ws widest weight rooms r fs cs ps rs o n)) (both_ways (same_verdict n unmatched) (exact.mismatch_iff s n (enough n l)))

  -- with the derivation's fields in the reading, and past them the words as they were
  pub record Matched (t : Tree) (v : Values) (w : Whole) : Type 0 where
    pub verdict : (head_of w).verdict ≡ 1
    pub steps : (head_of w).steps ≡ tree_steps t
    pub position : (head_of w).position ≡ bits_of fs
    pub values : values_of w ≡ v
    pub fields : (head_of w).captures ≡ length (captures t 0)
    pub reading : reading_of w ≡ words_of (captures t 0) ++ drop (2 * length (captures t 0)) rs

  matched_run : (t : Tree) (v : Values) (n : ℕ) → at n ≡ run (state [] [] (length s) v (captures t 0)) (tree_steps t) matched → Matched t v (after n)
  matched_run t v n q =
      let e : run_of fs (after n) ≡ run (state [] [] (length s) v (captures t 0)) (tree_steps t) matched = agrees ws widest weight rooms r fs cs ps rs o n ∙ q in
      let c : recorded (reading_of (after n)) (head_of (after n)).captures ≡ captures t 0 = sym (captures_held fs (after n)) ∙ ap (λ (x : HeldRun). captures_of (state_of x)) e in
      let m : (head_of (after n)).captures ≡ length (captures t 0) = sym (recorded_length (reading_of (after n)) (head_of (after n)).captures) ∙ ap length c in
      record {
        verdict = (matched_as (head_of (after n)).verdict).1 (ap verdict_of e);
        steps = ap taken_of e;
        position = sym (position_held fs (after n)) ∙ (ap (λ (x : HeldRun). position_of (state_of x)) e ∙ frame_length fs);
        values = sym (values_held fs (after n)) ∙ ap (λ (x : HeldRun). state_values (state_of x)) e;
        fields = m;
        reading =
            reading_is ws fs n w₀ (opening_fits ws fs cs ps rs o)
            ∙ ap₂ (λ (x : List Capture) (k : ℕ). words_of x ++ drop (2 * k) rs) c m;
      }

  pub match_end : (t : Tree) (v : Values) → Derivation (held ws) s t v → (n : ℕ) → tree_steps t ≤ n → Matched t v (after n)
  match_end t v d n l = matched_run t v n (exact.match_end s t v d n l)

  -- the same of derivations whose variables are local to each opening of a rule, as document 01 has them
  module _ {Cell A R : Type 0} (store : Store Context Values Cell A R) (scope : Scope) (fresh : ℕ → Context → Values → Values) (lexical : Lexical store scope fresh (held ws)) where
    local : ExactLocal (held ws) (tests_of ws) weight store.reported (localised store scope fresh (held ws))
    local = Theory.exact_local (held ws) (tests_of ws) weight store scope fresh r.hypotheses r.weighs lexical

    pub match_iff_local : (n : ℕ) → weight first_context opening * (bits_of fs + 1) ≤ n → ((head_of (after n)).verdict ≡ 1) ↔ Derivable (localised store scope fresh (held ws)) s
    match_iff_local n l = both_ways (matched_as (head_of (after n)).verdict) (both_ways (same_verdict n matched) (local.match_iff s n (enough n l)))

    pub mismatch_iff_local : (n : ℕ) → weight first_context opening * (bits_of fs + 1) ≤ n → ((head_of (after n)).verdict ≡ 2) ↔ (Derivable (localised store scope fresh (held ws)) s → ⊥)
    mismatch_iff_local n l = both_ways (unmatched_as (head_of (after n)).verdict (few ws widest weight rooms r fs cs ps rs o n)) (both_ways (same_verdict n unmatched) (local.mismatch_iff s n (enough n l)))

    pub match_end_local : (t : Tree) (v : Values) → Derivation (localised store scope fresh (held ws)) s t v → (n : ℕ) → tree_steps t ≤ n → (v' : Values) × Derivation (held ws) s t v' × Matched t v' (after n)
    match_end_local t v d n l = let x = local.match_end s t v d n l in (x.0, x.1, matched_run t x.0 n x.2)
