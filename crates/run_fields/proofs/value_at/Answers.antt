use Prim.Native.Nat.{ℕ, ◌+◌, ◌*◌, ◌-◌, ◌≤◌, ◌<◌}
use mathlib.Core.Path.{◌≡◌, sym, ap, ◌∙◌}
use mathlib.Core.List.{List}
use native.Mathlib.Omega.{arith}
use lib.ListN.{length, take, drop, length-drop}
use lib.Seq.{length-take-le}
use Rattle.basis.specs.Limits.{max_width}
use Rattle.basis.specs.Bits.{Bits, bits_of, value, frame_bits}
use Rattle.basis.specs.Patterns.{pattern_value}
use Rattle.basis.proofs.Frames.{frame_length}
use Rattle.basis.proofs.Values.{bits_of_value}
use Rattle.run_fields.specs.Fields.{in_64_bits}
use borrow.Author.Tests.{le-leb, lt-leb}
use Rattle.run_fields.proofs.value_at.Goals as goal

-- the bits of the number that w bits of a frame are
read_again : (fs : List ℕ) (p w : ℕ) → p + w ≤ 8 * length fs → bits_of w (value (take w (drop p (frame_bits fs)))) ≡ take w (drop p (frame_bits fs))
read_again fs p w h =
    let d : length (drop p (frame_bits fs)) ≡ 8 * length fs - p = length-drop p (frame_bits fs) ∙ ap (◌- p) (frame_length fs) in
    let l : length (take w (drop p (frame_bits fs))) ≡ w = length-take-le w (drop p (frame_bits fs)) (omega arith) in
    ap (λ (n : ℕ). bits_of n (value (take w (drop p (frame_bits fs))))) (sym l) ∙ bits_of_value (take w (drop p (frame_bits fs)))

pub extended-requires : goal.extended-requires
extended-requires c = (omega (arith, c.if-w-le-MAX_WIDTH.true), c.bits-pattern.ensures.1)

pub returns-then-w-le-MAX_WIDTH : goal.returns-then-w-le-MAX_WIDTH
returns-then-w-le-MAX_WIDTH c =
    let a = c.args in
    let few : a.w ≤ max_width = omega arith in
    let e = ap (λ (n : ℕ). in_64_bits (pattern_value a.signed (bits_of a.w n))) c.bits-pattern.ensures.0 ∙ ap (λ (s : Bits). in_64_bits (pattern_value a.signed s)) (read_again a.frame.now a.p a.w c.requires.0) in
    simp (le-leb _ _ few) (c.extended.ensures ∙ e)

pub returns : goal.returns
returns c = let many : max_width < c.args.w = omega arith in simp (lt-leb _ _ many)
