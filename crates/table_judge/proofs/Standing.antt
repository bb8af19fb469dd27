-- Sets in a table's words: they stand there exactly where the one form of the set does.
-- Assumes nothing.
use Prim.Native.Nat.{ℕ, ◌*◌, ◌/◌, ◌%◌, ◌^◌, ◌<◌}
use mathlib.Core.Path.{◌≡◌, sym, subst, ap, ◌∙◌}
use mathlib.Core.Logic.{◌↔◌}
use mathlib.Core.Bool.{Bool, false, false≢true}
use mathlib.Core.List.{List}
use native.Mathlib.Omega.{arith}
use Rattle.basis.specs.Limits.{max_constructs}
use Rattle.basis.specs.Bits.{Bits}
use Rattle.lookahead.specs.Sets.{Is, SameWords, Decides}
use Rattle.lookahead.proofs.SetLaws.{same_words}
use Rattle.lookahead_slices.specs.Family.{part}
use Rattle.lookahead_slices.specs.Narrow.{half, StandsAt}
use Rattle.theory.specs.Lookahead.{Follow, Predicted}
use Rattle.table_layout.specs.Held.{held}
use Rattle.run_actions.specs.Stored.{prediction_at, follow_at}
use Rattle.table_first_follow.specs.Sets.{FollowSets, PredictionSets}
use Rattle.table_judge.specs.Sound.{Stands, SetsStand}

same_half : (x y : List ℕ) → SameWords x y → (k : ℕ) → k < 16 → half x k ≡ half y k
unfolding half
same_half x y s k h = ap (λ (w : ℕ). w / 2 ^ (32 * (k % 2)) % 2 ^ 32) (s (k / 2) (omega arith))

-- a set has one form
pub one_form : (ws : List ℕ) (at : ℕ) (A : Bits → Type 0) (set : List ℕ) → Is set A → StandsAt ws at set ↔ Stands ws at A
one_form ws at A set i = (
  λ t. record { set = set; is = i; there = t },
  λ s k h. s.there k h ∙ same_half s.set set (same_words s.set set s.is.proper i.proper (λ x. ((λ p. (i.strings x).1 ((s.is.strings x).0 p)), (λ p. (s.is.strings x).1 ((i.strings x).0 p))))) k h,
)

module _ (ws follow prediction : List ℕ) (fs : FollowSets ws follow) (ps : PredictionSets ws prediction) (i : ℕ) (h : i < max_constructs) where
  pub prediction_stands : StandsAt ws (prediction_at i) (part i prediction) ↔ Stands ws (prediction_at i) (Predicted (held ws) i)
  prediction_stands = one_form ws (prediction_at i) (Predicted (held ws) i) (part i prediction) (ps i (omega arith))

  pub follow_stands : StandsAt ws (follow_at i) (part i follow) ↔ Stands ws (follow_at i) (Follow (held ws) i)
  follow_stands = one_form ws (follow_at i) (Follow (held ws) i) (part i follow) (fs i (omega arith))

  -- both sets were compared
  pub both_stand : (p f : List ℕ) (r : Bool) → p ≡ part i prediction → f ≡ part i follow → StandsAt ws (prediction_at i) p → Decides r (StandsAt ws (follow_at i) f) → Decides r (SetsStand ws i)
  both_stand p f r e d a b = (
    λ t. record { prediction = prediction_stands.0 (subst (StandsAt ws (prediction_at i)) e a); follow = follow_stands.0 (subst (StandsAt ws (follow_at i)) d (b.0 t)) },
    λ s. b.1 (subst (StandsAt ws (follow_at i)) (sym d) (follow_stands.1 s.follow)),
  )

  pub first_fails : (p : List ℕ) → p ≡ part i prediction → (StandsAt ws (prediction_at i) p → ⊥) → Decides false (SetsStand ws i)
  first_fails p e a = ((λ t. absurd (false≢true t)), (λ s. absurd (a (subst (StandsAt ws (prediction_at i)) (sym e) (prediction_stands.1 s.prediction)))))
