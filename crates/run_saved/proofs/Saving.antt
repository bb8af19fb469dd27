-- A run's parts put together, and a run part by part.
-- Assumes nothing.
use Prim.Native.Nat.{ℕ, ◌+◌, ◌*◌}
use borrow.Author.Tests.{eq-eqb, ne_eqb}
use mathlib.Core.Path.{◌≡◌, sym, ap, ◌∙◌}
use mathlib.Core.List.{List, ◌++◌}
use lib.IntN.{ℤ}
use lib.ListN.{length, drop, length-append}
use lib.Seq.{sets}
use Rattle.basis.specs.Limits.{max_variables, max_entries}
use Rattle.run_grants.specs.Runs.{closed_run}
use Rattle.run_grants.specs.declared.Run.{Run}
use Rattle.run_saved.specs.Saved.{bytes, number, pattern, whole, plain, listed, numbers, encoded, decoded, restored, stored, values_at, verdict_at, entries_at, passes_at, saved_bytes}
use Rattle.run_saved.proofs.Bytes.{bytes_length, listed_length, sets_next, sets_whole}

pub restored_is : (bs : List ℕ) → length bs ≡ saved_bytes → restored bs ≡ decoded bs
restored_is bs e = simp (eq-eqb (length bs) saved_bytes e)

pub restored_not : (bs : List ℕ) → (length bs ≡ saved_bytes → ⊥) → restored bs ≡ closed_run
restored_not bs e = simp (ne_eqb (length bs) saved_bytes e)

pub stored_is : (run : Run) (out : List ℕ) → length out ≡ saved_bytes → stored run out ≡ encoded run
stored_is run out e = simp (eq-eqb (length out) saved_bytes e)

pub stored_not : (run : Run) (out : List ℕ) → (length out ≡ saved_bytes → ⊥) → stored run out ≡ out
stored_not run out e = simp (ne_eqb (length out) saved_bytes e)

pub all_read : (bs : List ℕ) (position count captures steps verdict : ℕ) (constructs passes : List ℕ) (values : List ℤ)
    → position ≡ number 8 bs → count ≡ number 8 (drop 8 bs) → captures ≡ number 8 (drop 16 bs) → steps ≡ number 8 (drop 24 bs) → values ≡ numbers whole 8 max_variables (drop values_at bs)
    → verdict ≡ number 4 (drop verdict_at bs) → constructs ≡ numbers plain 4 max_entries (drop entries_at bs) → passes ≡ numbers plain 4 max_entries (drop passes_at bs)
    → ◌≡◌ {A = Run} (record { position = position; count = count; captures = captures; steps = steps; verdict = verdict; constructs = constructs; passes = passes; values = values }) (decoded bs)
unfolding decoded
all_read bs position count captures steps verdict constructs passes values a b d e f g h i =
    λ t. record { position = a t; count = b t; captures = d t; steps = e t; verdict = g t; constructs = h t; passes = i t; values = f t }

-- the arrays of a run
pub record Sized (run : Run) : Type 0 where
  pub values : length run.values ≡ max_variables
  pub constructs : length run.constructs ≡ max_entries
  pub passes : length run.passes ≡ max_entries

pub encoded_length : (run : Run) → Sized run → length (encoded run) ≡ saved_bytes
unfolding encoded
encoded_length run h =
    let v : length (listed pattern 8 run.values) ≡ 8 * max_variables = listed_length pattern 8 run.values ∙ ap (8 *◌) h.values in
    let k : length (listed plain 4 run.constructs) ≡ 4 * max_entries = listed_length plain 4 run.constructs ∙ ap (4 *◌) h.constructs in
    let p : length (listed plain 4 run.passes) ≡ 4 * max_entries = listed_length plain 4 run.passes ∙ ap (4 *◌) h.passes in
    simp (length-append, bytes_length, v, k, p)

-- eight stores, each where the one before ends
pub all_written : (run : Run) (out a b d e f g h i : List ℕ) → length out ≡ saved_bytes → Sized run
    → a ≡ sets out 0 (bytes 8 run.position) → b ≡ sets a 8 (bytes 8 run.count) → d ≡ sets b 16 (bytes 8 run.captures) → e ≡ sets d 24 (bytes 8 run.steps)
    → f ≡ sets e values_at (listed pattern 8 run.values) → g ≡ sets f verdict_at (bytes 4 run.verdict) → h ≡ sets g entries_at (listed plain 4 run.constructs) → i ≡ sets h passes_at (listed plain 4 run.passes)
    → i ≡ encoded run
unfolding encoded
all_written run out a b d e f g h i l s pa pb pd pe pf pg ph pi =
    let rh : List ℕ = listed plain 4 run.passes in
    let rg : List ℕ = listed plain 4 run.constructs ++ rh in
    let rf : List ℕ = bytes 4 run.verdict ++ rg in
    let re : List ℕ = listed pattern 8 run.values ++ rf in
    let rd : List ℕ = bytes 8 run.steps ++ re in
    let rb : List ℕ = bytes 8 run.captures ++ rd in
    let ra : List ℕ = bytes 8 run.count ++ rb in
    let all : sets out 0 (encoded run) ≡ sets h passes_at rh =
    sets_next (bytes 8 run.position) ra out a 0 8 pa (ap (0 +◌) (bytes_length 8 run.position))
    ∙ sets_next (bytes 8 run.count) rb a b 8 16 pb (ap (8 +◌) (bytes_length 8 run.count))
    ∙ sets_next (bytes 8 run.captures) rd b d 16 24 pd (ap (16 +◌) (bytes_length 8 run.captures))
    ∙ sets_next (bytes 8 run.steps) re d e 24 values_at pe (ap (24 +◌) (bytes_length 8 run.steps))
    ∙ sets_next (listed pattern 8 run.values) rf e f values_at verdict_at pf (ap (values_at +◌) (listed_length pattern 8 run.values ∙ ap (8 *◌) s.values))
    ∙ sets_next (bytes 4 run.verdict) rg f g verdict_at entries_at pg (ap (verdict_at +◌) (bytes_length 4 run.verdict))
    ∙ sets_next (listed plain 4 run.constructs) rh g h entries_at passes_at ph (ap (entries_at +◌) (listed_length plain 4 run.constructs ∙ ap (4 *◌) s.constructs))
    in pi ∙ sym all ∙ sets_whole (encoded run) out (l ∙ sym (encoded_length run s))
