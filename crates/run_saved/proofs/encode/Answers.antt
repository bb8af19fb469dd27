use denote.Builtin.{u32, i64}
use lib.Signed.{mag}
use Rattle.basis.specs.Limits.{max_variables, max_entries}
use Rattle.term_integers.proofs.Laws.{differ}
use Rattle.run_saved.specs.Saved.{encoded, restored, saved_bytes}
use Rattle.run_saved.proofs.Owned.{owned_each}
use Rattle.run_saved.proofs.Trips.{Ranged, decoded_encoded}
use Prim.Native.Nat.{ℕ, ◌^◌, ◌<◌}
use native.Mathlib.Omega.{arith}
use borrow.Author.Tests.{eq-eqb, ne_eqb}
use mathlib.Core.Path.{◌≡◌, sym, ap, ◌∙◌}
use lib.IntN.{ℤ, pos}
use lib.ListN.{length}
use Rattle.run_saved.proofs.Saving.{stored_is, stored_not, restored_is, encoded_length, all_written}
use Rattle.run_saved.proofs.encode.Goals as goal

-- src/lib.rt:161:9
pub returns-then-out-ne-SAVED_BYTES : goal.returns-then-out-ne-SAVED_BYTES
returns-then-out-ne-SAVED_BYTES c = (sym (stored_not c.args.run c.args.out.now c.if-out-ne-SAVED_BYTES.true), sym (ne_eqb (length c.args.out.now) saved_bytes c.if-out-ne-SAVED_BYTES.true), λ e. differ (sym e))

-- src/lib.rt:175:5
pub write_values-requires : goal.write_values-requires
write_values-requires c = let z : length c.args.run.values ≡ max_variables = c.well_formed.0.1.1.1.1.1.1.1.1.1.0.1.0.1 in omega arith

-- src/lib.rt:177:27
pub slice_bounds-write_words-end : goal.slice_bounds-write_words-end
slice_bounds-write_words-end c = let z : length c.args.run.constructs ≡ max_entries = c.well_formed.0.1.1.1.1.1.1.1.0.1.0.1 in sym z

-- src/lib.rt:177:5
pub write_words-requires : goal.write_words-requires
write_words-requires c = let z : length c.args.run.constructs ≡ max_entries = c.well_formed.0.1.1.1.1.1.1.1.0.1.0.1 in omega arith

-- src/lib.rt:178:28
pub slice_bounds-write_words-end-2 : goal.slice_bounds-write_words-end-2
slice_bounds-write_words-end-2 c = let z : length c.args.run.passes ≡ max_entries = c.well_formed.0.1.1.1.1.1.1.1.1.0.1.0.1 in sym z

-- src/lib.rt:178:5
pub write_words-requires-2 : goal.write_words-requires-2
write_words-requires-2 c = let z : length c.args.run.passes ≡ max_entries = c.well_formed.0.1.1.1.1.1.1.1.1.0.1.0.1 in omega (arith, c.write_words.auto.out, c.write-5.auto.out, c.write_values.auto.out, c.write-4.auto.out, c.write-3.auto.out, c.write-2.auto.out, c.write.auto.out, c.if-out-ne-SAVED_BYTES.false)

-- src/lib.rt:157:1
pub returns : goal.returns
returns c =
    let h : Ranged c.args.run = record {
      position = c.well_formed.0.1.1.0.1;
      count = c.well_formed.0.1.1.1.0.1;
      captures = c.well_formed.0.1.1.1.1.0.1;
      steps = c.well_formed.0.1.1.1.1.1.0.1;
      verdict = c.well_formed.0.1.1.1.1.1.1.0.1;
      constructs = owned_each u32.own_val (λ (x : ℕ). x < 2 ^ 32) 0 (omega arith) (λ x vs q. q.1) c.args.run.constructs c.well_formed.0.1.1.1.1.1.1.1.0.0 c.well_formed.0.1.1.1.1.1.1.1.0.1.1;
      passes = owned_each u32.own_val (λ (x : ℕ). x < 2 ^ 32) 0 (omega arith) (λ x vs q. q.1) c.args.run.passes c.well_formed.0.1.1.1.1.1.1.1.1.0.0 c.well_formed.0.1.1.1.1.1.1.1.1.0.1.1;
      values = owned_each i64.own_val (λ (z : ℤ). mag z < 2 ^ 63) (pos 0) (omega arith) (λ x vs q. q.1) c.args.run.values c.well_formed.0.1.1.1.1.1.1.1.1.1.0.0 c.well_formed.0.1.1.1.1.1.1.1.1.1.0.1.1;
      sized = record { values = c.well_formed.0.1.1.1.1.1.1.1.1.1.0.1.0.1; constructs = c.well_formed.0.1.1.1.1.1.1.1.0.1.0.1; passes = c.well_formed.0.1.1.1.1.1.1.1.1.0.1.0.1 };
    } in
    let full = c.if-out-ne-SAVED_BYTES.false in
    let w = all_written c.args.run c.args.out.now _ _ _ _ _ _ _ _ full h.sized c.write.ensures c.write-2.ensures c.write-3.ensures c.write-4.ensures c.write_values.ensures c.write-5.ensures c.write_words.ensures c.write_words-2.ensures in
    (w ∙ sym (stored_is c.args.run c.args.out.now full), sym (eq-eqb (length c.args.out.now) saved_bytes full), λ e. ap restored w ∙ restored_is (encoded c.args.run) (encoded_length c.args.run h.sized) ∙ decoded_encoded c.args.run h)
