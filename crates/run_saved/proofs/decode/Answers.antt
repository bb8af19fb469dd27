use mathlib.Core.Path.{sym, ap, ◌∙◌}
use Rattle.run_saved.specs.Saved.{encoded}
use Rattle.run_saved.proofs.Trips.{encoded_decoded}
use Rattle.run_saved.proofs.Saving.{restored_is, restored_not, all_read}
use Rattle.run_saved.proofs.decode.Goals as goal

-- src/lib.rt:134:9
pub returns-then-bytes-ne-SAVED_BYTES : goal.returns-then-bytes-ne-SAVED_BYTES
returns-then-bytes-ne-SAVED_BYTES c = (c.closed.ensures ∙ sym (restored_not c.args.bytes.now c.if-bytes-ne-SAVED_BYTES.true), λ e. absurd (c.if-bytes-ne-SAVED_BYTES.true e))

-- src/lib.rt:130:1
pub returns : goal.returns
returns c =
    let full = c.if-bytes-ne-SAVED_BYTES.false in
    let r = all_read c.args.bytes.now _ _ _ _ _ _ _ _ c.read-position.ensures.0 c.read-count.ensures.0 c.read-captures.ensures.0 c.read-steps.ensures.0 c.read_values-values.ensures c.read_word-verdict.ensures c.read_words-constructs.ensures c.read_words-passes.ensures in
    (r ∙ sym (restored_is c.args.bytes.now full), λ e. ap encoded r ∙ encoded_decoded c.args.bytes.now full (λ i. (c.shared_slice_known-1.given i).fits))
