-- Condition 1: numbers of answers, and what is left of the buffers.
-- Assumes nothing.
use Prim.Native.Nat.{ℕ, ◌*◌}
use mathlib.Core.Path.{◌≡◌, refl}
use mathlib.Core.Logic.{◌⊎◌, inl, inr}
use mathlib.Core.Bool.{Bool, true, false, cond}
use mathlib.Core.List.{List}
use lib.Dec.{leb}
use lib.ListN.{length, take, drop}
use Rattle.basis.specs.Limits.{max_frame_bytes}
use Rattle.run_steps.specs.Steps.{Whole, whole, steps_of}
use Rattle.run_refinement.proofs.Readings.{Recorded, steps_record}
use Rattle.run_grants.specs.Runs.{head_of, whole_of, fitting, After, after, run_in, reading_in, answer_in, after_steps, grant_of, number_of as grant-number, taken_of}
use Rattle.run_grants.specs.declared.Run.{Run}
use Rattle.run_grants.proofs.Grants.{unchanged, grants_compose}
use Rattle.run_grants.specs.declared.Answer.{Answer as GrantAnswer}
use Rattle.run_matcher.specs.declared.Answer.{Answer}
use Rattle.conditions.specs.Conditions.{RunOpened, RunGranted, Condition1}

-- ---- openings

run_opened : (answer : Answer) → RunOpened answer
run_opened Answer.Unsound = record { number = inr (inr (inr refl)); refused = λ n. refl }
run_opened Answer.LongFrame = record { number = inr (inl refl); refused = λ n. refl }
run_opened Answer.SmallReading = record { number = inr (inr (inl refl)); refused = λ n. refl }
run_opened Answer.Opened = record { number = inl refl; refused = λ n. absurd (n refl) }

-- ---- grants

module _ (ws fs rs : List ℕ) (run : Run) (n : ℕ) where
  -- what holds of both refusals and of steps made
  in_each : (P : After → Type 0) → P (after run rs GrantAnswer.LongFrame) → P (after run rs GrantAnswer.Unfit)
      → ((w : Whole) → Recorded (whole_of rs run) w → P (after_steps run.steps w)) → P (grant_of ws fs rs run n)
  unfolding grant_of
  in_each P long unfit made =
      by (leb (length fs) max_frame_bytes) (fitting ws fs (length rs) run.constructs run.passes (head_of run)) (steps_of ws fs n (whole_of rs run)) (steps_record ws fs n (whole_of rs run))
    where
      by : (s t : Bool) (w : Whole) → Recorded (whole_of rs run) w → P (cond s (cond t (after_steps run.steps w) (after run rs GrantAnswer.Unfit)) (after run rs GrantAnswer.LongFrame))
      by true true w r = made w r
      by true false w r = unfit
      by false t w r = long

  abbrev Numbered : After → Type 0
  Numbered x = (grant-number (answer_in x) ≡ 0) ⊎ (grant-number (answer_in x) ≡ 21) ⊎ (grant-number (answer_in x) ≡ 24)

  abbrev Untouched : After → Type 0
  Untouched x = (grant-number (answer_in x) ≡ 0 → ⊥) → (run_in x ≡ run) × (reading_in x ≡ rs) × (taken_of (answer_in x) ≡ 0)

  abbrev Beyond : After → Type 0
  Beyond x = drop (2 * (run_in x).captures) (reading_in x) ≡ drop (2 * (run_in x).captures) rs

  abbrev Before : After → Type 0
  Before x = take (2 * run.captures) (reading_in x) ≡ take (2 * run.captures) rs

  numbered : (w : Whole) → Numbered (after_steps run.steps w)
  numbered (whole cs ps vs zs h) = inl refl

  untouched : (w : Whole) → Untouched (after_steps run.steps w)
  untouched (whole cs ps vs zs h) = λ e. absurd (e refl)

  same_length : (w : Whole) → Recorded (whole_of rs run) w → length (reading_in (after_steps run.steps w)) ≡ length rs
  same_length (whole cs ps vs zs h) r = r.lengths

  beyond : (w : Whole) → Recorded (whole_of rs run) w → Beyond (after_steps run.steps w)
  beyond (whole cs ps vs zs h) r = r.past

  before : (w : Whole) → Recorded (whole_of rs run) w → Before (after_steps run.steps w)
  before (whole cs ps vs zs h) r = r.before

  run_granted : RunGranted rs run (grant_of ws fs rs run n)
  run_granted =
      record {
        at_rest = unchanged ws fs rs run n;
        number = in_each Numbered (inr (inl refl)) (inr (inr refl)) (λ w r. numbered w);
        refused = in_each Untouched (λ e. (refl, refl, refl)) (λ e. (refl, refl, refl)) (λ w r. untouched w);
        length_kept = in_each (λ x. length (reading_in x) ≡ length rs) refl refl same_length;
        beyond = in_each Beyond refl refl beyond;
        before = in_each Before refl refl before;
      }

pub condition_1 : Condition1
condition_1 = record { admitting = λ text old new answer a. a.leaves; opening_runs = λ ws fs rs answer a. run_opened answer; granting = run_granted; adding = grants_compose }
