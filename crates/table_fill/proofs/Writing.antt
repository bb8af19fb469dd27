-- Sets written one construct after the other.
-- Assumes nothing.
use Prim.Native.Nat.{ℕ, ◌+◌, ◌<◌}
use mathlib.Core.Path.{◌≡◌, subst, ap, ◌∙◌}
use mathlib.Core.Logic.{inl, inr}
use mathlib.Core.List.{List}
use native.Mathlib.Omega.{arith}
use native.Mathlib.Decide.{dec_lt}
use lib.ListN.{length, get_or, set}
use Rattle.lookahead_slices.specs.Family.{part}
use Rattle.lookahead_slices.specs.Narrow.{StandsAt, Put}
use Rattle.run_actions.specs.Stored.{prediction_at, follow_at}
use Rattle.table_fill.specs.Completed.{SetsWritten}

-- a set stays where nothing is written over it
kept : (old new : List ℕ) (at : ℕ) (set : List ℕ) → ((k : ℕ) → k < 16 → get_or new (at + k) 0 ≡ get_or old (at + k) 0) → StandsAt old at set → StandsAt new at set
kept old new at set same s k h = same k h ∙ s k h

module _ (old follow prediction : List ℕ) where
  pub none_written : (new : List ℕ) → new ≡ old → SetsWritten old new follow prediction 0
  none_written new e =
      record {
        same_length = ap length e;
        prediction_stands = λ i h. absurd (omega arith);
        follow_stands = λ i h. absurd (omega arith);
        others = λ k h. ap (λ (x : List ℕ). get_or x k 0) e;
      }

  -- one construct's sets more
  pub one_written : (new middle last : List ℕ) (i : ℕ) (p f : List ℕ) → SetsWritten old new follow prediction i → p ≡ part i prediction → f ≡ part i follow
      → Put new middle (prediction_at i) p → Put middle last (follow_at i) f → SetsWritten old last follow prediction (i + 1)
  one_written new middle last i p f w e d a b =
      record {
        same_length = b.same_length ∙ a.same_length ∙ w.same_length;
        prediction_stands = λ j h. elim (dec_lt j i) [
          | yes k ↦ kept new last (prediction_at j) (part j prediction) (λ n l. b.others (prediction_at j + n) (inl (omega arith)) ∙ a.others (prediction_at j + n) (inl (omega arith))) (w.prediction_stands j k)
          | no k ↦ let q : i ≡ j = omega arith in
              subst (λ (m : ℕ). StandsAt last (prediction_at m) (part m prediction)) q
              (subst (StandsAt last (prediction_at i)) e (kept middle last (prediction_at i) p (λ n l. b.others (prediction_at i + n) (inl (omega arith))) a.stands))
        ];
        follow_stands = λ j h. elim (dec_lt j i) [
          | yes k ↦ kept new last (follow_at j) (part j follow) (λ n l. b.others (follow_at j + n) (inl (omega arith)) ∙ a.others (follow_at j + n) (inl (omega arith))) (w.follow_stands j k)
          | no k ↦ let q : i ≡ j = omega arith in
              subst (λ (m : ℕ). StandsAt last (follow_at m) (part m follow)) q (subst (StandsAt last (follow_at i)) d b.stands)
        ];
        others = λ k h. elim h [
          | inl l ↦ b.others k (inl (omega arith)) ∙ a.others k (inl (omega arith)) ∙ w.others k (inl l)
          | inr l ↦ b.others k (inr (omega arith)) ∙ a.others k (inr (omega arith)) ∙ w.others k (inr (omega arith))
        ];
      }
