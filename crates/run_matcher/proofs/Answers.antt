-- An opening has one answer, and it is the first refusal.
-- Assumes nothing.
use native.Mathlib.Omega.{arith}
use Prim.Native.Nat.{ℕ, ◌*◌, ◌≤◌, ◌<◌}
use mathlib.Core.Path.{◌≡◌, refl}
use mathlib.Core.Bool.{Bool, true, false, not, false≢true}
use mathlib.Core.List.{List}
use lib.ListN.{length}
use Rattle.basis.specs.Limits.{max_frame_bytes}
use Rattle.lookahead.specs.Sets.{Decides}
use Rattle.run_actions.specs.Acts.{bits_of}
use Rattle.table_judge.specs.Sound.{SoundTable}
use Rattle.run_matcher.specs.Opening.{first_refusal, Answered}
use Rattle.run_matcher.specs.declared.Answer.{Answer}

pub answer_once : (ws fs rs : List ℕ) (a b : Answer) → Answered ws fs rs a → Answered ws fs rs b → a ≡ b
answer_once ws fs rs Answer.Unsound Answer.Unsound x y = refl
answer_once ws fs rs Answer.Unsound Answer.LongFrame x y = absurd (x y.0)
answer_once ws fs rs Answer.Unsound Answer.SmallReading x y = absurd (x y.0)
answer_once ws fs rs Answer.Unsound Answer.Opened x y = absurd (x y.0)
answer_once ws fs rs Answer.LongFrame Answer.Unsound x y = absurd (y x.0)
answer_once ws fs rs Answer.LongFrame Answer.LongFrame x y = refl
answer_once ws fs rs Answer.LongFrame Answer.SmallReading x y = absurd (omega (arith, x.1, y.1))
answer_once ws fs rs Answer.LongFrame Answer.Opened x y = absurd (omega (arith, x.1, y.1))
answer_once ws fs rs Answer.SmallReading Answer.Unsound x y = absurd (y x.0)
answer_once ws fs rs Answer.SmallReading Answer.LongFrame x y = absurd (omega (arith, x.1, y.1))
answer_once ws fs rs Answer.SmallReading Answer.SmallReading x y = refl
answer_once ws fs rs Answer.SmallReading Answer.Opened x y = absurd (omega (arith, x.2, y.2))
answer_once ws fs rs Answer.Opened Answer.Unsound x y = absurd (y x.0)
answer_once ws fs rs Answer.Opened Answer.LongFrame x y = absurd (omega (arith, x.1, y.1))
answer_once ws fs rs Answer.Opened Answer.SmallReading x y = absurd (omega (arith, x.2, y.2))
answer_once ws fs rs Answer.Opened Answer.Opened x y = refl

-- the first refusal by three tests
pub answered : (ws fs rs : List ℕ) (sound long small : Bool) → Decides sound (SoundTable ws) → (long ≡ true → max_frame_bytes < length fs) → (long ≡ false → length fs ≤ max_frame_bytes)
    → (small ≡ true → length rs < 2 * bits_of fs) → (small ≡ false → 2 * bits_of fs ≤ length rs) → Answered ws fs rs (first_refusal (not sound) long small)
answered ws fs rs false long small s a b c d = λ x. false≢true (s.1 x)
answered ws fs rs true true small s a b c d = (s.0 refl, a refl)
answered ws fs rs true false true s a b c d = (s.0 refl, b refl, c refl)
answered ws fs rs true false false s a b c d = (s.0 refl, b refl, d refl)
