-- What must hold of words so that no run from an opening breaks; and that then every list of terms comes to an answer.
-- Assumes nothing.
use Prim.Native.Nat.{ℕ, ◌+◌, ◌≤◌, ◌<◌, min}
use native.Mathlib.Omega.{arith}
use borrow.Author.Tests.{lt-ltb}
use mathlib.Core.Path.{◌≡◌, sym, ◌∙◌}
use mathlib.Core.Bool.{Bool, true, false, ◌&&◌}
use mathlib.Core.List.{List}
use lib.Dec.{eqb, ltb}
use lib.IntN.{ℤ, pos}
use lib.ListN.{length, get_or, length-replicate, get_or-replicate}
use Rattle.basis.specs.Limits.{max_variables, max_bound_width, max_entries}
use Rattle.basis.specs.Patterns.{greatest_size}
use Rattle.basis.proofs.Booleans.{both_first, both_second}
use Rattle.term_words.specs.declared.Kind.{Kind}
use Rattle.term_sizes.specs.Sizes.{sizes, count_sizes}
use Rattle.term_sizes.specs.Inside.{Inside}
use Rattle.term_sizes.proofs.Forms.{list_passes, counts_passes}
use Rattle.theory.specs.Hypotheses.{Hypotheses}
use Rattle.theory.specs.Weight.{Outweighs, HasRoom}
use Rattle.table_layout.specs.Places.{construct_word, variable_word, construct_count, weight_of}
use Rattle.table_layout.specs.Constructs.{construct_at}
use Rattle.table_layout.specs.Held.{Context, first_context, term_words, terms_of, opening, held}
use Rattle.table_layout.specs.declared.Construct.{Construct}
use Rattle.table_layout.specs.declared.Passes.{Passes}
use Rattle.table_wellformed.specs.Parts.{parts_laid}
use Rattle.table_wellformed.specs.Lists.{formed, zero_values, list_formed, counts_formed}
use Rattle.table_wellformed.specs.Rules.{named_back}
use Rattle.table_wellformed.specs.Laid.{operands_zero, second_part, construct_end, passes_laid}
use Rattle.table_structure.proofs.Facts.{Laid}
use Rattle.run_actions.specs.Stored.{tests_of}
use Rattle.std.specs.Prelude.{Result, Ok, Err, ⊤}
use Rattle.term_sizes.specs.declared.SizeError.{SizeError}

-- the size of a variable at its widest, by its width and its sign
abbrev pub variable_size : List ℕ → ℕ → ℕ
variable_size ws x = greatest_size (ltb 0 (variable_word ws x 2)) (min max_bound_width (variable_word ws x 1))

-- `widest` has the size of each variable, `weight` and `rooms` the weight and the room of each construct
pub record Reliable (ws : List ℕ) (widest : List ℤ) (weight rooms : Context → ℕ → ℕ) : Type 0 where
  -- laid out as docs/TABLE.md says (`table_wellformed`): constructs below the count are there, and so is all that they lead to
  pub laid : Laid ws
  -- refusal 8, "variables at their widest": 64 sizes, each that of the variable's value that is farthest from 0
  pub variables : length widest ≡ max_variables
  pub each_widest : (x : ℕ) → x < max_variables → get_or widest x (pos 0) ≡ pos (variable_size ws x)
  -- refusal 8: no list of terms has a size past 2^62 (that none is malformed is in `laid`)
  pub conditions_within : (i : ℕ) → i < construct_count ws → construct_word ws i 6 < construct_word ws i 7
      → (at : ℕ) → sizes Kind.Condition widest (construct_word ws i 6) (terms_of ws (construct_word ws i 6) (construct_word ws i 7)) ≡ Err (SizeError.Exceeds at) → ⊥
  pub counts_within : (i n start end : ℕ) → i < construct_count ws → construct_at ws i ≡ Construct.Repetition n (Passes.Counted start end)
      → (at : ℕ) → count_sizes widest (term_words ws) start end ≡ Err (SizeError.Exceeds at) → ⊥
  pub sets_within : (i : ℕ) (signed : Bool) (width start end binder : ℕ) → i < construct_count ws → construct_at ws i ≡ Construct.Uint signed width start end binder
      → (at : ℕ) → sizes Kind.Set widest start (terms_of ws start end) ≡ Err (SizeError.Exceeds at) → ⊥
  -- refusal 7 gives weights and room (`table_weights`); stored weight = computed weight
  pub weighs : Outweighs (held ws) weight
  pub weight_stored : weight first_context opening ≤ weight_of ws
  pub has_room : HasRoom (held ws) rooms
  pub room_most : rooms first_context opening ≤ max_entries
  -- what the theory asks: 6, 7, 9, 10, and stored sets = computed sets
  pub hypotheses : Hypotheses (held ws) (tests_of ws)

-- a list that is formed is not malformed
formed_not : (y : Result ⊤ SizeError) → formed y ≡ true → y ≡ Err SizeError.Malformed → ⊥
formed_not y f e = let z : formed (Err SizeError.Malformed) ≡ true = rw e at f in let w : ◌≡◌ {A = ℕ} 0 1 = cc in omega arith

module _ {ws : List ℕ} {widest : List ℤ} {weight rooms : Context → ℕ → ℕ} (r : Reliable ws widest weight rooms) where
  -- before a binding values are 0, within every size
  pub zero_inside : Inside zero_values widest
  zero_inside =
      record {
        same = length-replicate max_variables (pos 0) ∙ sym r.variables;
        each =
            λ k l.
            let m : k < max_variables = omega (arith, r.variables) in
            rw (get_or-replicate max_variables k (pos 0) (pos 0) m) record { size = variable_size ws k; is = r.each_widest k m; le = omega arith };
      }

  -- so every list comes to an answer
  pub condition_answers : (i : ℕ) → i < construct_count ws → construct_word ws i 6 < construct_word ws i 7
      → sizes Kind.Condition widest (construct_word ws i 6) (terms_of ws (construct_word ws i 6) (construct_word ws i 7)) ≡ Ok tt
  condition_answers i h l =
      let f : list_formed Kind.Condition ws (construct_word ws i 6) (construct_word ws i 7) ≡ true = rw (lt-ltb (construct_word ws i 6) (construct_word ws i 7) l) at (r.laid.condition i h) in
      list_passes zero_values widest zero_inside Kind.Condition (construct_word ws i 6) (terms_of ws (construct_word ws i 6) (construct_word ws i 7)) (formed_not _ f) (r.conditions_within i h l)

  pub counts_answer : (i n start end : ℕ) → i < construct_count ws → construct_at ws i ≡ Construct.Repetition n (Passes.Counted start end) → count_sizes widest (term_words ws) start end ≡ Ok tt
  counts_answer i n start end h e =
      let P : Bool = passes_laid ws i (Passes.Counted start end) in
      let S : Bool = eqb (second_part ws i) (construct_end ws i) && parts_laid ws false (i + 1) (construct_end ws i) in
      let k : (P && S) ≡ true = rw e at (r.laid.kind i h) in
      let f : counts_formed ws start end ≡ true = both_second (operands_zero ws i 5) (counts_formed ws start end) (both_first P S k) in
      counts_passes zero_values widest zero_inside (term_words ws) start end (formed_not _ f) (r.counts_within i n start end h e)

  pub set_answers : (i : ℕ) (signed : Bool) (width start end binder : ℕ) → i < construct_count ws → construct_at ws i ≡ Construct.Uint signed width start end binder → sizes Kind.Set widest start (terms_of ws start end) ≡ Ok tt
  set_answers i signed width start end binder h e =
      let k : (named_back ws i binder && list_formed Kind.Set ws start end) ≡ true = rw e at (r.laid.kind i h) in
      let f : list_formed Kind.Set ws start end ≡ true = both_second (named_back ws i binder) (list_formed Kind.Set ws start end) k in
      list_passes zero_values widest zero_inside Kind.Set start (terms_of ws start end) (formed_not _ f) (r.sets_within i signed width start end binder h e)
