-- A sound table is reliable: no run from an opening on it breaks (crate `run_refinement`).
-- Assumes nothing.
use Prim.Native.Nat.{ℕ, zero, suc, ◌+◌, ◌≤◌, ◌<◌}
use mathlib.Core.Path.{◌≡◌, ap, ◌∙◌}
use mathlib.Core.Bool.{true}
use mathlib.Core.List.{List}
use native.Mathlib.Omega.{arith}
use borrow.Author.Tests.{lt-ltb}
use lib.IntN.{pos}
use lib.ListN.{get_or}
use Rattle.basis.specs.Limits.{max_variables, max_entries}
use Rattle.basis.proofs.Booleans.{either_first, either_second}
use Rattle.term_words.specs.declared.Kind.{Kind}
use Rattle.term_sizes.specs.Sizes.{sizes}
use Rattle.theory.specs.Weight.{Weighs, Outweighs, HasRoom}
use Rattle.table_layout.specs.Places.{construct_word, variable_word, construct_count, weight_of}
use Rattle.table_layout.specs.Constructs.{construct_at}
use Rattle.table_layout.specs.Held.{first_context, terms_of, held, opening}
use Rattle.table_layout.specs.declared.Construct.{Construct}
use Rattle.table_layout.specs.declared.Passes.{Passes}
use Rattle.table_reach.specs.Reaching.{Acyclic}
use Rattle.table_weights.specs.Ruled.{Ruled}
use Rattle.table_weights.proofs.Heights.{weight_at}
use Rattle.table_weights.proofs.Rooms.{rooms}
use Rattle.table_weights.proofs.Theorems.{weights_exist, rooms_enough}
use Rattle.table_scope.proofs.RuledLaw.{ruled_of}
use Rattle.table_sizes.specs.Measures.{largest, widest_from, widest, condition_size, own_size, exceeds, oversized}
use Rattle.table_sizes.proofs.WidestLaws.{widest_length}
use Rattle.run_refinement.proofs.Reliable.{Reliable}
use Rattle.table_judge.specs.Sound.{Sound}
use Rattle.table_hypotheses.proofs.Hypothesis.{laid_of_sound, hypotheses_of}
use Rattle.std.specs.Prelude.{Err}
use Rattle.term_sizes.specs.declared.SizeError.{SizeError}

-- ---- refusal 8

widest_each : (n : ℕ) (ws : List ℕ) (x k y : ℕ) → k < n → x + k ≡ y → get_or (widest_from n ws x) k (pos 0) ≡ largest (variable_word ws y 1) (variable_word ws y 2)
unfolding widest_from
widest_each zero ws x k y h e = absurd (omega arith)
widest_each (suc n) ws x zero y h e = ap (λ (z : ℕ). largest (variable_word ws z 1) (variable_word ws z 2)) (let f : x ≡ y = omega arith in f)
widest_each (suc n) ws x (suc k) y h e = widest_each n ws (x + 1) k y (omega arith) (omega arith)

module _ (ws : List ℕ) (within : (i : ℕ) → i < construct_count ws → oversized ws i ≡ true → ⊥) where
  condition_within : (i : ℕ) → i < construct_count ws → construct_word ws i 6 < construct_word ws i 7
      → (at : ℕ) → sizes Kind.Condition (widest ws) (construct_word ws i 6) (terms_of ws (construct_word ws i 6) (construct_word ws i 7)) ≡ Err (SizeError.Exceeds at) → ⊥
  condition_within i h l at e =
      let f : condition_size ws i ≡ (Err (SizeError.Exceeds at)) = rw (lt-ltb (construct_word ws i 6) (construct_word ws i 7) l) e in
      within i h (either_first (exceeds (condition_size ws i)) (exceeds (own_size ws (construct_at ws i))) (ap exceeds f))

  own_within : (i : ℕ) → i < construct_count ws → (c : Construct) → construct_at ws i ≡ c → (at : ℕ) → own_size ws c ≡ Err (SizeError.Exceeds at) → ⊥
  own_within i h c e at f =
      within i h (either_second (exceeds (condition_size ws i)) (exceeds (own_size ws (construct_at ws i))) (ap (λ (d : Construct). exceeds (own_size ws d)) e ∙ ap exceeds f))

-- ---- weight and room

module _ {ws : List ℕ} (s : Sound ws) where
  rules_lie : Ruled ws
  rules_lie = ruled_of (laid_of_sound s)

  none_recursive : Acyclic ws
  none_recursive = s.passed.passed.passed.passed.acyclic

  pub weighed : Weighs (held ws) (λ c i. weight_at ws i)
  weighed = weights_exist ws rules_lie none_recursive

  pub outweighs : Outweighs (held ws) (λ c i. weight_at ws i)
  outweighs c i = omega (arith, weighed c i)

  -- 23: stored weight = computed weight
  pub weight_stored : weight_at ws opening ≡ weight_of ws
  weight_stored = s.weight (λ c i. weight_at ws i) weighed

  pub housed : HasRoom (held ws) (rooms ws)
  housed = (rooms_enough ws rules_lie none_recursive).0

  pub room_most : rooms ws first_context opening ≤ max_entries
  room_most = (rooms_enough ws rules_lie none_recursive).1

  pub reliable : Reliable ws (widest ws) (λ c i. weight_at ws i) (rooms ws)
  reliable =
      record {
        laid = laid_of_sound s;
        variables = widest_length max_variables ws 0;
        each_widest = λ x h. widest_each max_variables ws 0 x x h (omega arith);
        conditions_within = condition_within ws s.passed.passed.passed.sized;
        counts_within = λ i n start end h e. own_within ws s.passed.passed.passed.sized i h (Construct.Repetition n (Passes.Counted start end)) e;
        sets_within = λ i signed width start end binder h e. own_within ws s.passed.passed.passed.sized i h (Construct.Uint signed width start end binder) e;
        weighs = outweighs;
        weight_stored = omega (arith, weight_stored);
        has_room = housed;
        room_most = room_most;
        hypotheses = hypotheses_of s;
      }
