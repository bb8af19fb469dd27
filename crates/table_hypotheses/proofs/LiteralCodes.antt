-- The words of a literal, of well laid out words, are those of its bytes.
-- Assumes nothing.
use Prim.Native.Nat.{ℕ, zero, suc, ◌+◌, ◌*◌, ◌/◌, ◌%◌, ◌^◌, ◌≤◌, ◌<◌}
use mathlib.Core.Path.{◌≡◌, refl, sym, ap, ◌∙◌}
use mathlib.Core.Bool.{true}
use mathlib.Core.List.{List}
use native.Mathlib.Omega.{arith}
use native.Mathlib.Decide.{dec_lt}
use borrow.Author.Tests.{ltb-true, le-ltb}
use lib.Dec.{ltb}
use lib.ListN.{get_or}
use lib.Pow.{pow-add, shr-shr}
use Rattle.basis.specs.Limits.{max_literal_bytes}
use Rattle.table_layout.specs.Places.{word, literals_at, construct_count}
use Rattle.table_layout.specs.Constructs.{construct_at}
use Rattle.table_layout.specs.Held.{literal_byte, literal_bytes}
use Rattle.table_layout.specs.declared.Construct.{Construct}
use Rattle.table_layout.proofs.Views.{Operands, operands}
use Rattle.table_wellformed.specs.Laid.{literal_length, byte_laid}
use Rattle.table_structure.proofs.Facts.{Laid, each}
use Rattle.table_hypotheses.specs.OneTable.{SameGrammar}

-- both spellings of a byte's place
powers : (q : ℕ) → 2 ^ (8 * q) ≡ 256 ^ q
powers zero = refl
powers (suc q) =
    let e : 8 * suc q ≡ 8 * q + 8 = omega arith in
    let f : q + 1 ≡ suc q = omega arith in
    ap (λ (n : ℕ). 2 ^ n) e ∙ pow-add 2 (8 * q) 8 ∙ ap (λ (n : ℕ). n * 256) (powers q) ∙ sym (pow-add 256 q 1) ∙ ap (λ (n : ℕ). 256 ^ n) f

-- a word is its four bytes
cut : (n : ℕ) → n ≡ 256 * (n / 256) + n % 256
cut n = omega arith

whole : (w a b c x y z : ℕ) → w ≡ 256 * a + x → a ≡ 256 * b + y → b ≡ 256 * c + z → w ≡ x + 256 * y + 65536 * z + 16777216 * c
whole w a b c x y z e f g = omega arith

four_bytes : (w : ℕ) → w < 2 ^ 32 → w ≡ w / 1 % 256 + 256 * (w / 256 % 256) + 65536 * (w / 65536 % 256) + 16777216 * (w / 16777216 % 256)
four_bytes w h =
    let second : w / 256 / 256 ≡ w / 65536 = shr-shr w 8 8 in
    let third : w / 65536 / 256 ≡ w / 16777216 = shr-shr w 16 8 in
    let last : w / 16777216 ≡ w / 16777216 % 256 = omega arith in
    whole w (w / 256) (w / 65536) (w / 16777216 % 256) (w / 1 % 256) (w / 256 % 256) (w / 65536 % 256) (let first : w ≡ 256 * (w / 256) + w / 1 % 256 = omega arith in first)
    (cut (w / 256) ∙ ap (λ (n : ℕ). 256 * n + w / 256 % 256) second)
    (cut (w / 65536) ∙ ap (λ (n : ℕ). 256 * n + w / 65536 % 256) (third ∙ last))

byte_of : (ws : List ℕ) (i j k n y : ℕ) → k < n → j + k ≡ y → get_or (literal_bytes ws i j n) k 0 ≡ literal_byte ws i y
unfolding literal_bytes
byte_of ws i j k zero y h e = absurd (omega arith)
byte_of ws i j zero (suc n) y h e = ap (literal_byte ws i) (let z : j ≡ y = omega arith in z)
byte_of ws i j (suc k) (suc n) y h e = byte_of ws i (j + 1) k n y (omega arith) (omega arith)

-- past a literal's length bytes are 0
zero_byte : {ws : List ℕ} → Laid ws → (i k : ℕ) → i < construct_count ws → k < max_literal_bytes → literal_length (construct_at ws i) ≤ k → literal_byte ws i k ≡ 0
zero_byte {ws} l i k h b past =
    let n : ℕ = literal_length (construct_at ws i) in
    let w : ℕ = word ws (literals_at + 8 * i + k / 4) in
    let t : byte_laid ws i n k ≡ true = each (byte_laid ws i n) max_literal_bytes 0 k (l.bytes i h) (omega arith) b in
    let f : ltb (w / 256 ^ (k % 4) % 256) 1 ≡ true = rw (le-ltb k n past) at t in
    let z : w / 256 ^ (k % 4) % 256 < 1 = ltb-true (w / 256 ^ (k % 4) % 256) 1 f in
    ap (λ (p : ℕ). w / p % 256) (powers (k % 4)) ∙ (let q : w / 256 ^ (k % 4) % 256 ≡ 0 = omega arith in q)

module _ {ws ws' : List ℕ} (g : SameGrammar ws ws') (l : Laid ws) (l' : Laid ws') (i : ℕ) (h : i < construct_count ws) where
  there : i < construct_count ws'
  there = omega (arith, g.constructs)

  inside : {c : Construct} → Operands c → construct_at ws i ≡ c → (k : ℕ) → k < literal_length c → literal_byte ws i k ≡ literal_byte ws' i k
  inside (Operands.counts size start end) e k b = absurd (omega arith)
  inside (Operands.characters n) e k b =
      sym (byte_of ws i 0 k n k b (omega arith)) ∙ ap (λ (xs : List ℕ). get_or xs k 0) (g.literal i n h e) ∙ byte_of ws' i 0 k n k b (omega arith)
  inside (Operands.set signed width start end binder) e k b = absurd (omega arith)
  inside (Operands.plain p) e k b = absurd (omega (arith, p.length))

  same_byte : (k : ℕ) → k < max_literal_bytes → literal_byte ws i k ≡ literal_byte ws' i k
  same_byte k b =
      elim (dec_lt k (literal_length (construct_at ws i))) [
        | yes m ↦ inside (operands (construct_at ws i)) refl k m
        | no m ↦
            let n : literal_length (construct_at ws i) ≡ literal_length (construct_at ws' i) = ap literal_length (g.construct i h) in
            zero_byte l i k h b (omega arith) ∙ sym (zero_byte l' i k there b (omega arith))
      ]

  -- byte q of word m
  byte_in : (vs : List ℕ) (m q : ℕ) → q < 4 → word vs (literals_at + 8 * i + m) / 2 ^ (8 * q) % 256 ≡ literal_byte vs i (4 * m + q)
  byte_in vs m q b =
      let d : (4 * m + q) / 4 ≡ m = omega arith in
      let r : (4 * m + q) % 4 ≡ q = omega arith in
      λ t. word vs (literals_at + 8 * i + sym d t) / 2 ^ (8 * sym r t) % 256

  pub same_literal : (m : ℕ) → m < 8 → word ws (literals_at + 8 * i + m) < 2 ^ 32 → word ws' (literals_at + 8 * i + m) < 2 ^ 32 → word ws (literals_at + 8 * i + m) ≡ word ws' (literals_at + 8 * i + m)
  same_literal m b fits fits' =
      let w : ℕ = word ws (literals_at + 8 * i + m) in
      let w' : ℕ = word ws' (literals_at + 8 * i + m) in
      let byte : (q : ℕ) → q < 4 → w / 2 ^ (8 * q) % 256 ≡ w' / 2 ^ (8 * q) % 256 = λ q c. byte_in ws m q c ∙ same_byte (4 * m + q) (omega arith) ∙ sym (byte_in ws' m q c) in
      four_bytes w fits ∙ (λ t. byte 0 (omega arith) t + 256 * byte 1 (omega arith) t + 65536 * byte 2 (omega arith) t + 16777216 * byte 3 (omega arith) t) ∙ sym (four_bytes w' fits')
