-- Literals, byte by byte, and the number of what comes next.
-- Assumes nothing.
use Prim.Native.Nat.{ℕ, suc, ◌+◌, ◌*◌, ◌-◌, ◌≤◌, ◌<◌}
use native.Mathlib.Omega.{arith}
use native.Mathlib.Nat.{mod-eq_of_lt}
use borrow.Author.Tests.{eq-eqb, ne_eqb}
use mathlib.Core.Path.{◌≡◌, refl, sym, ◌∙◌, ap, ap₂}
use mathlib.Core.Bool.{Bool, true, false, ◌&&◌, beq, and_assoc}
use mathlib.Core.List.{List, [], ◌∷◌, ◌++◌}
use lib.ListN.{length, take, drop, length-drop}
use lib.Seq.{take-add, drop-drop, length-take-le}
use lib.Dec.{eqb}
use Rattle.basis.specs.Bits.{Bits, bits_of, value, frame_bits, same}
use Rattle.basis.specs.Lookahead.{lookahead}
use Rattle.basis.proofs.Strings.{same_refl, same_true}
use Rattle.basis.proofs.Joins.{lookahead_length}
use Rattle.basis.proofs.Numbers.{number_small}
use Rattle.basis.proofs.Values.{length_bits_of, value_bits_of, bits_of_value}
use Rattle.basis.proofs.Frames.{frame_length}
use Rattle.table_layout.specs.Held.{literal_byte, literal_bytes}
use Rattle.run_actions.specs.Acts.{ahead_at, literal_holds}

pub ahead_small : (fs : List ℕ) (p : ℕ) → ahead_at fs p < 512
ahead_small fs p = number_small (lookahead (drop p (frame_bits fs))) (lookahead_length (drop p (frame_bits fs)))

-- strings of one length, part by part
same_append : (a b s t : Bits) → length a ≡ length b → same (a ++ s) (b ++ t) ≡ (same a b && same s t)
unfolding same
same_append [] [] s t e = refl
same_append [] (y ∷ b) s t e = absurd (omega arith)
same_append (x ∷ a) [] s t e = absurd (omega arith)
same_append (x ∷ a) (y ∷ b) s t e = ap (beq x y &&◌) (same_append a b s t (omega arith)) ∙ sym (and_assoc (beq x y) (same a b) (same s t))

no_way : {A : Type 0} → false ≡ true → A
no_way e = let z : ◌≡◌ {A = ℕ} 0 1 = cc in absurd (omega arith)

-- eight bits are a byte's where their number is the byte
same_byte : (s : Bits) (b : ℕ) → length s ≡ 8 → b < 256 → same s (bits_of 8 b) ≡ eqb (value s) b
same_byte s b n l = either (same s (bits_of 8 b)) refl
  where
    either : (t : Bool) → same s (bits_of 8 b) ≡ t → same s (bits_of 8 b) ≡ eqb (value s) b
    either true e =
        let z : value s ≡ b = ap value (same_true s (bits_of 8 b) e) ∙ (value_bits_of 8 b ∙ mod-eq_of_lt l) in
        e ∙ sym (eq-eqb (value s) b z)
    either false e =
        e
        ∙ sym
        (ne_eqb (value s) b
        (λ z. no_way (sym e ∙ (ap (λ (x : Bits). same x (bits_of 8 b)) (sym (bits_of_value s) ∙ ap₂ bits_of n z) ∙ same_refl (bits_of 8 b)))))

-- a literal holds where its first byte does and the rest of it
pub literal_more : (ws fs : List ℕ) (p i k n : ℕ) → p + 8 * k + 8 ≤ 8 * length fs → literal_byte ws i k < 256
    → literal_holds ws fs p i k (suc n) ≡ (eqb (value (take 8 (drop (p + 8 * k) (frame_bits fs)))) (literal_byte ws i k) && literal_holds ws fs p i (k + 1) n)
unfolding literal_bytes frame_bits
literal_more ws fs p i k n l b =
    let s = drop (p + 8 * k) (frame_bits fs) in
    let m : length s ≡ 8 * length fs - (p + 8 * k) = length-drop (p + 8 * k) (frame_bits fs) ∙ ap (◌- (p + 8 * k)) (frame_length fs) in
    let e : length (take 8 s) ≡ 8 = length-take-le 8 s (omega arith) in
    let z : 8 * suc n ≡ 8 + 8 * n = omega arith in
    let y : p + 8 * k + 8 ≡ p + 8 * (k + 1) = omega arith in
    let bytes = frame_bits (literal_bytes ws i (k + 1) n) in
    ap (λ (x : Bits). same x (bits_of 8 (literal_byte ws i k) ++ bytes)) (ap (λ (x : ℕ). take x s) z ∙ take-add 8 (8 * n) s)
    ∙ (same_append (take 8 s) (bits_of 8 (literal_byte ws i k)) (take (8 * n) (drop 8 s)) bytes (e ∙ sym (length_bits_of 8 (literal_byte ws i k)))
    ∙ ap₂ ◌&&◌ (same_byte (take 8 s) (literal_byte ws i k) e b)
    (ap (λ (x : Bits). same (take (8 * n) x) bytes) (drop-drop 8 (p + 8 * k) (frame_bits fs) ∙ ap (λ (x : ℕ). drop x (frame_bits fs)) y)))

pub literal_done : (ws fs : List ℕ) (p i k : ℕ) → literal_holds ws fs p i k 0 ≡ true
unfolding literal_bytes frame_bits same
literal_done ws fs p i k = refl
