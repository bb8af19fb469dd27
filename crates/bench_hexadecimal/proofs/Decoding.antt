-- Laws of the bytes of a line, as the loop that stores them goes.
-- Assumes nothing.
use Prim.Native.Nat.{ℕ, suc, ◌+◌, ◌*◌, ◌/◌, ◌-◌, ◌≤◌, ◌<◌}
use mathlib.Core.Path.{◌≡◌, refl, ap, ◌∙◌}
use mathlib.Core.List.{List, [], ◌∷◌}
use native.Mathlib.Omega.{arith}
use borrow.Author.Tests.{ltb-false}
use lib.Dec.{ltb}
use lib.ListN.{length, get_or, set, drop, length-drop}
use lib.Seq.{sets}
use Rattle.basis.specs.Limits.{max_frame_bytes}
use Rattle.basis.proofs.Booleans.{picked}
use Rattle.text_header.proofs.Runs.{next}
use Rattle.bench_hexadecimal.specs.Lines.{is_frame, line_of, byte_of, bytes_of, max_line}
use Rattle.bench_hexadecimal.specs.declared.Line.{Line}

-- a lone digit makes no byte
few : (xs : List ℕ) → length xs ≤ 1 → bytes_of xs ≡ []
unfolding bytes_of
few [] l = refl
few (high ∷ []) l = refl
few (high ∷ low ∷ more) l = absurd (omega arith)

module _ (xs : List ℕ) (k : ℕ) where
  two : k < length xs / 2 → drop (2 * k) xs ≡ get_or xs (2 * k) 0 ∷ get_or xs (2 * k + 1) 0 ∷ drop (2 * (k + 1)) xs
  two h =
      let e : 2 * k + 1 + 1 ≡ 2 * (k + 1) = omega arith in
      next xs (2 * k) (omega arith) ∙ ap (get_or xs (2 * k) 0 ∷◌) (next xs (2 * k + 1) (omega arith) ∙ ap (λ (n : ℕ). get_or xs (2 * k + 1) 0 ∷ drop n xs) e)

  pub bytes_turn : (out : List ℕ) → k < length xs / 2
      → sets out k (bytes_of (drop (2 * k) xs)) ≡ sets (set out k (byte_of (get_or xs (2 * k) 0) (get_or xs (2 * k + 1) 0))) (k + 1) (bytes_of (drop (2 * (k + 1)) xs))
  unfolding bytes_of
  bytes_turn out h =
      let one : suc k ≡ k + 1 = omega arith in
      ap (λ (ys : List ℕ). sets out k (bytes_of ys)) (two h)
      ∙ ap (λ (n : ℕ). sets (set out k (byte_of (get_or xs (2 * k) 0) (get_or xs (2 * k + 1) 0))) n (bytes_of (drop (2 * (k + 1)) xs))) one

  pub bytes_end : (out : List ℕ) → length xs / 2 ≤ k → sets out k (bytes_of (drop (2 * k) xs)) ≡ out
  bytes_end out h =
      let l : length (drop (2 * k) xs) ≡ length xs - 2 * k = length-drop (2 * k) xs in
      ap (λ (ys : List ℕ). sets out k ys) (few (drop (2 * k) xs) (omega arith))

-- a frame's line is not too long
abbrev pub Short : List ℕ → Line → Type 0
Short xs Line.TooLong = Unit
Short xs Line.NoFrame = Unit
Short xs (Line.Frame n) = (length xs ≤ max_line) × (n ≤ max_frame_bytes)

pub short : (xs : List ℕ) → Short xs (line_of xs)
unfolding line_of
short xs =
    picked (Short xs) (ltb max_line (length xs)) (λ t. tt)
    (λ t. let l : length xs ≤ max_line = ltb-false max_line (length xs) t in picked (Short xs) (is_frame xs) (λ f. (l, omega arith)) (λ f. tt))
