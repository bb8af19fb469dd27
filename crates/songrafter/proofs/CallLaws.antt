-- The calls' promises from those of the crates below.
-- Assumes nothing.
use Prim.Native.Nat.{ℕ, ◌≤◌}
use native.Mathlib.Omega.{arith}
use mathlib.Core.Path.{◌≡◌, sym, ap, ◌∙◌}
use mathlib.Core.Bool.{Bool, true, false, cond}
use mathlib.Core.List.{List, [], ◌∷◌}
use lib.Dec.{eqb}
use lib.IntN.{pos}
use lib.ListN.{length, get_or, set, drop, length-replicate, get_or-eq_default}
use lib.Seq.{sets}
use Rattle.basis.specs.Limits.{max_variables}
use Rattle.table_layout.specs.Places.{table_of}
use Rattle.run_grants.specs.Runs.{After, after, grant_of, closed_run, run_in, reading_in, answer_in, number_of, taken_of, refusal_of}
use Rattle.run_grants.specs.declared.Run.{Run}
use Rattle.run_grants.specs.declared.Answer.{Answer}
use Rattle.run_grants.proofs.Grants.{Unchanged, refusal_told, refused}
use Rattle.run_saved.specs.Saved.{whole, encoded, decoded, restored, stored, values_at, saved_bytes}
use Rattle.run_saved.proofs.Bytes.{numbers_length}
use Rattle.run_saved.proofs.Saving.{restored_is, stored_is}
use Rattle.songrafter.specs.Calls.{granted, Grants}

-- four stores, one after the other
pub four_stores : (l l₀ l₁ l₂ l₃ : List ℕ) (a b c d : ℕ) → l₀ ≡ set l 0 a → l₁ ≡ set l₀ 1 b → l₂ ≡ set l₁ 2 c → l₃ ≡ set l₂ 3 d → l₃ ≡ sets l 0 (a ∷ b ∷ c ∷ d ∷ [])
four_stores l l₀ l₁ l₂ l₃ a b c d p₀ p₁ p₂ p₃ = p₃ ∙ ap (λ (x : List ℕ). set x 3 d) (p₂ ∙ ap (λ (x : List ℕ). set x 2 c) (p₁ ∙ ap (λ (x : List ℕ). set x 1 b) p₀))

-- a grant on a saved run: decoded, advanced, encoded, and the count of the steps taken put down
pub grants_run : (table frame reading reading' run run' taken taken' : List ℕ) (steps number count : ℕ) (r d : Run) (a : Answer)
    → length run ≡ saved_bytes → length run' ≡ length run → r ≡ restored run → encoded r ≡ run → restored run' ≡ d → after d reading' a ≡ grant_of (table_of table) frame reading r steps → run' ≡ stored d run
    → count ≡ taken_of a → taken' ≡ set taken 0 count → number ≡ number_of a
    → Grants table frame reading reading' run run' taken taken' steps number
grants_run table frame reading reading' run run' taken taken' steps number count r d a full kept read whole-read read_back grant wrote counted put answered =
    let told : number ≡ refusal_of (table_of table) frame reading r = answered ∙ (ap (λ (x : After). number_of (answer_in x)) grant ∙ refusal_told (table_of table) frame reading r steps) in
    let same : (refusal_of (table_of table) frame reading r ≡ 0 → ⊥) → Unchanged r reading (grant_of (table_of table) frame reading r steps) = refused (table_of table) frame reading r steps in
    let g : after d reading' a ≡ granted table frame reading run steps = grant ∙ ap (λ (x : Run). grant_of (table_of table) frame reading x steps) (read ∙ restored_is run full) in
    record {
      saved = λ h. (answered ∙ ap (λ (x : After). number_of (answer_in x)) g, ap reading_in g, (wrote ∙ stored_is d run full) ∙ ap (λ (x : After). encoded (run_in x)) g, put ∙ ap (set taken 0) (counted ∙ ap (λ (x : After). taken_of (answer_in x)) g));
      other = λ h. absurd (h full);
      refused = λ h. let u = same (λ z. h (told ∙ z)) in (ap reading_in grant ∙ u.1, wrote ∙ (stored_is d run full ∙ (ap encoded (ap run_in grant ∙ u.0) ∙ whole-read)));
      run_length = kept;
      read_back = λ h. (ap encoded (sym (read ∙ restored_is run full)) ∙ whole-read, read_back ∙ ap run_in g);
    }

-- a run has 64 values, whatever the bytes
values_of : (bs : List ℕ) (b : Bool) → length (cond b (decoded bs) closed_run).values ≡ max_variables
unfolding decoded
values_of bs true = numbers_length whole 8 max_variables (drop values_at bs)
values_of bs false = length-replicate max_variables (pos 0)

pub values_end : (bs : List ℕ) (k : ℕ) → max_variables ≤ k → get_or (restored bs).values k (pos 0) ≡ pos 0
values_end bs k h = get_or-eq_default (restored bs).values (pos 0) (omega (arith, values_of bs (eqb (length bs) saved_bytes)))
