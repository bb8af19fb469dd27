-- What lets a repetition continue is its body's prediction set (joins associate), where nothing else has that body. So one set for each
-- construct, with its FOLLOW set, is all that a step looks up.
-- Assumes nothing.
use Prim.Native.Nat.{ℕ}
use mathlib.Core.Path.{◌≡◌, refl, sym, ◌∙◌, ap}
use mathlib.Core.Bool.{Bool}
use Rattle.basis.specs.Bits.{Bits}
use Rattle.basis.specs.Counts.{Counts}
use Rattle.basis.specs.Lookahead.{join}
use Rattle.basis.proofs.Joins.{join_assoc}
use Rattle.theory.specs.Grammar.{Grammar, repetition}
use Rattle.theory.specs.Derivation.{construct, passes}
use Rattle.theory.specs.Lookahead.{First, Follow, Predicted, Continues}

module _ {Context Values : Type 0} (g : Grammar Context Values) where
  -- x is what follows the body b of the repetition i: further passes, and what follows the repetition
  pub data FollowsPass (i b : ℕ) : Bits → Type 0 where
    follows_pass : {x y z : Bits} (k : ℕ) → First g (passes b k) x → Follow g i y → z ≡ join x y → FollowsPass i b z

  pub continue_predicted : {i b : ℕ} {counts : Context → Values → Counts} {static : Counts} {fixed : Bool} {x : Bits}
      → g.node i ≡ repetition counts static fixed b → Continues g i b x → Predicted g b x
  continue_predicted q (Continues.continues {y = z} k (First.more_passes {x = a} {y = u} f fs e) w e') =
      Predicted.predicted f (Follow.of_body k q fs w refl) (e' ∙ (ap (λ (t : Bits). join t z) e ∙ join_assoc a u z))

  pub predicted_continue : {i b : ℕ} {x : Bits} → ((y : Bits) → Follow g b y → FollowsPass i b y) → Predicted g b x → Continues g i b x
  predicted_continue {i} {b} only (Predicted.predicted {x = a} {y = y} f w e) = from a f (only y w) e
    where
      from : {y x : Bits} (a : Bits) → First g (construct b (g.node b)) a → FollowsPass i b y → x ≡ join a y → Continues g i b x
      from a f (FollowsPass.follows_pass {x = u} {y = z} k fs w e') e = Continues.continues k (First.more_passes f fs refl) w (e ∙ (ap (join a) e' ∙ sym (join_assoc a u z)))
