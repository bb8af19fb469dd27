-- The bytes of a literal stand in its words, four to a word, and all others are 0.
-- Assumes nothing.
use Prim.Native.Nat.{ℕ, zero, suc, ◌+◌, ◌*◌, ◌/◌, ◌%◌, ◌^◌, ◌≤◌, ◌<◌}
use mathlib.Core.Path.{◌≡◌, refl, ap, ◌∙◌}
use mathlib.Core.Logic.{⊎_elim}
use mathlib.Core.Bool.{Bool, true, false, cond}
use mathlib.Core.List.{List, [], ◌∷◌}
use native.Mathlib.Omega.{arith}
use borrow.Author.Tests.{lt-ltb, eqb-true, ltb-false}
use lib.Dec.{ltb, eqb}
use lib.ListN.{length, get_or, get_or-replicate, get_or-eq_default}
use Rattle.basis.specs.Limits.{max_literal_bytes}
use Rattle.basis.proofs.Booleans.{which}
use Rattle.text_literals.specs.Literals.{characters_at}
use Rattle.table_layout.specs.Places.{word, literals_at}
use Rattle.table_layout.specs.Constructs.{construct_at}
use Rattle.table_wellformed.specs.Laid.{literal_length, literal_byte, byte_laid}
use Rattle.text_store.specs.Words.{kind_of, place_of}
use Rattle.text_encoding.specs.Lists.{flat, narrow}
use Rattle.text_encoding.specs.Encoded.{packed, literal_words}
use Rattle.text_wellformed.specs.Context.{Words}
use Rattle.text_wellformed.specs.Meant.{meant, Known, BytesLaid}
use Rattle.text_wellformed.proofs.Tests.{from_to_all}

-- ---- bytes of a word

below_four : (P : ℕ → Type 0) → P 0 → P 1 → P 2 → P 3 → (q : ℕ) → q < 4 → P q
below_four P a b c d zero h = a
below_four P a b c d (suc zero) h = b
below_four P a b c d (suc (suc zero)) h = c
below_four P a b c d (suc (suc (suc zero))) h = d
below_four P a b c d (suc (suc (suc (suc q)))) h = absurd (omega arith)

module _ (bytes : List ℕ) (small : (k : ℕ) → get_or bytes k 0 < 128) where
  byte_packed : (k q : ℕ) → q < 4 → narrow (packed bytes k) / 256 ^ q % 256 ≡ get_or bytes (k + q) 0
  byte_packed k q h =
      let a : get_or bytes k 0 < 128 = small k
      in let b : get_or bytes (k + 1) 0 < 128 = small (k + 1)
      in let c : get_or bytes (k + 2) 0 < 128 = small (k + 2)
      in let d : get_or bytes (k + 3) 0 < 128 = small (k + 3)
      in let w : narrow (packed bytes k) ≡ packed bytes k = omega arith
      in let z : k + 0 ≡ k = omega arith
      in rw w (below_four (λ (p : ℕ). packed bytes k / 256 ^ p % 256 ≡ get_or bytes (k + p) 0) (rw z (omega arith)) (omega arith) (omega arith) (omega arith) q h)

  byte_tested : (b k : ℕ) → b ≡ get_or bytes k 0 → ltb b (cond (ltb k (length bytes)) 128 1) ≡ true
  byte_tested b k e =
      ⊎_elim (λ (t : ltb k (length bytes) ≡ true). rw t (lt-ltb b 128 (omega (arith, small k))))
      (λ (t : ltb k (length bytes) ≡ false). let z : get_or bytes k 0 ≡ 0 = get_or-eq_default bytes 0 (ltb-false k (length bytes) t) in rw t (lt-ltb b 1 (omega arith)))
      (which (ltb k (length bytes)))

-- ---- words of a literal

single_at : (p : ℕ → ℕ) (n i j : ℕ) → j < n → get_or (flat n i (λ j. p j ∷ [])) j 0 ≡ p (i + j)
unfolding flat
single_at p zero i j h = absurd (omega arith)
single_at p (suc n) i zero h = ap p (omega arith)
single_at p (suc n) i (suc j) h = let z : i + 1 + j ≡ i + suc j = omega arith in single_at p n (i + 1) j (omega arith) ∙ ap p z

literal_at_six : (xs ns : List ℕ) (i j : ℕ) → kind_of ns i ≡ 6 → j < 8 → get_or (literal_words xs ns i) j 0 ≡ packed (characters_at xs (place_of ns i)) (4 * j)
literal_at_six xs ns i j e h =
    rw e (single_at (λ j. packed (characters_at xs (place_of ns i)) (4 * j)) 8 0 j h ∙ ap (λ (q : ℕ). packed (characters_at xs (place_of ns i)) (4 * q)) (omega arith))

length_six : (xs ns rs : List ℕ) (r i : ℕ) → kind_of ns i ≡ 6 → literal_length (meant xs ns rs r i) ≡ length (characters_at xs (place_of ns i))
unfolding meant
length_six xs ns rs r i e = rw e refl

no_byte : (t : Bool) → ltb 0 (cond t 128 1) ≡ true
no_byte true = refl
no_byte false = refl

module _ {xs ns ts rs : List ℕ} {n r : ℕ} {ws : List ℕ} (W : Words xs ns ts rs n r ws) (K : Known xs ns rs n r ws)
    (characters-small : (i : ℕ) → i < n → kind_of ns i ≡ 6 → (length (characters_at xs (place_of ns i)) ≤ max_literal_bytes) × ((k : ℕ) → get_or (characters_at xs (place_of ns i)) k 0 < 128)) where
  byte_of : (i k : ℕ) → i < n → k < max_literal_bytes → (bytes : List ℕ) → ((k : ℕ) → get_or bytes k 0 < 128) → get_or (literal_words xs ns i) (k / 4) 0 ≡ packed bytes (4 * (k / 4)) → literal_byte ws i k ≡ get_or bytes k 0
  byte_of i k h l bytes small e =
      let z : 4 * (k / 4) + k % 4 ≡ k = omega arith
      in let q : k / 4 < 8 = omega arith
      in let w : word ws (literals_at + 8 * i + k / 4) ≡ narrow (packed bytes (4 * (k / 4))) = W.literal_at i (k / 4) h q ∙ ap narrow e
      in rw w (byte_packed bytes small (4 * (k / 4)) (k % 4) (omega arith) ∙ ap (λ (p : ℕ). get_or bytes p 0) z)

  -- byte k of a literal is its character k
  pub byte_is : (i k : ℕ) → i < n → k < max_literal_bytes → kind_of ns i ≡ 6 → literal_byte ws i k ≡ get_or (characters_at xs (place_of ns i)) k 0
  byte_is i k h l e = byte_of i k h l (characters_at xs (place_of ns i)) (characters-small i h e).1 (literal_at_six xs ns i (k / 4) e (omega arith))

  literal_laid : (i k : ℕ) → i < n → k < max_literal_bytes → kind_of ns i ≡ 6 → byte_laid ws i (literal_length (construct_at ws i)) k ≡ true
  literal_laid i k h l e = rw (K i h, length_six xs ns rs r i e) (byte_tested (characters_at xs (place_of ns i)) (characters-small i h e).1 (literal_byte ws i k) k (byte_is i k h l e))

  other_laid : (i k : ℕ) → i < n → k < max_literal_bytes → eqb (kind_of ns i) 6 ≡ false → byte_laid ws i (literal_length (construct_at ws i)) k ≡ true
  other_laid i k h l e =
      let q : k / 4 < 8 = omega arith
      in let z : get_or (literal_words xs ns i) (k / 4) 0 ≡ 0 = rw e (get_or-replicate 8 (k / 4) 0 0 q)
      in rw (byte_of i k h l [] (λ j. omega arith) z) (no_byte (ltb k (literal_length (construct_at ws i))))

  pub bytes_laid : BytesLaid n ws
  bytes_laid i h =
      from_to_all 0 max_literal_bytes (byte_laid ws i (literal_length (construct_at ws i)))
      (λ k a l. ⊎_elim (λ e. literal_laid i k h l (eqb-true (kind_of ns i) 6 e)) (λ (e : eqb (kind_of ns i) 6 ≡ false). other_laid i k h l e) (which (eqb (kind_of ns i) 6)))
