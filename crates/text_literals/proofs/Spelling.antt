-- A literal's characters, put one after the other over zeros.
-- Assumes nothing.
use Prim.Native.Nat.{ℕ, zero, suc, ◌+◌, ◌-◌, ◌≤◌, ◌<◌}
use mathlib.Core.Path.{◌≡◌, refl, sym, subst, ap, ◌∙◌}
use mathlib.Core.List.{List, [], ◌∷◌}
use native.Mathlib.Omega.{arith}
use native.Mathlib.Decide.{dec_lt}
use lib.ListN.{length, get_or, set, replicate, length-set}
use lib.Seq.{get_or-set_same, get_or-set_other}
use Rattle.basis.specs.Limits.{max_literal_bytes}
use Rattle.text_literals.specs.Literals.{counted, with_character, value_of}
use Rattle.text_literals.specs.declared.Part.{Part}
use Rattle.text_literals.specs.declared.Part.TheVariants.{Start, Escape, Bracket, Digits, Character, Closed, Wrong}

pub zeros : (n k : ℕ) → get_or (replicate {A = ℕ} n 0) k 0 ≡ 0
zeros zero k = refl
zeros (suc n) zero = refl
zeros (suc n) (suc k) = zeros n k

-- a zero leaves zeros
set_zero : (xs : List ℕ) (n k : ℕ) → get_or xs k 0 ≡ 0 → get_or (set xs n 0) k 0 ≡ 0
set_zero [] n k h = refl
set_zero (x ∷ xs) zero zero h = refl
set_zero (x ∷ xs) zero (suc k) h = h
set_zero (x ∷ xs) (suc n) zero h = h
set_zero (x ∷ xs) (suc n) (suc k) h = set_zero xs n k h

-- n characters of `all` are put, and these are to come
pub record Spelling (all bytes : List ℕ) (n : ℕ) (rest : List ℕ) : Type 0 where
  pub room : length bytes ≡ max_literal_bytes
  pub put : (k : ℕ) → k < n → k < max_literal_bytes → get_or bytes k 0 ≡ get_or all k 0
  pub zeros : (k : ℕ) → n ≤ k → get_or bytes k 0 ≡ 0
  pub to_come : (k : ℕ) → get_or all (n + k) 0 ≡ get_or rest k 0

pub spelling_start : {all bytes : List ℕ} → length bytes ≡ max_literal_bytes → ((k : ℕ) → get_or bytes k 0 ≡ 0) → Spelling all bytes 0 all
spelling_start {all} h z =
    record { room = h; put = λ k l. absurd (omega arith); zeros = λ k l. z k; to_come = λ k. ap (λ (j : ℕ). get_or all j 0) (let e : 0 + k ≡ k = omega arith in e) }

module _ {all bytes : List ℕ} {n : ℕ} where
  no_character : {rest : List ℕ} → Spelling all bytes n rest → Spelling all (set bytes n 0) n rest
  no_character h =
      record {
        room = length-set bytes n 0 ∙ h.room;
        put = λ k l m. get_or-set_other bytes n k 0 0 (λ z. omega arith) ∙ h.put k l m;
        zeros = λ k l. set_zero bytes n k (h.zeros k l);
        to_come = h.to_come;
      }

  one_character : {c : ℕ} {rest : List ℕ} → Spelling all bytes n (c ∷ rest) → Spelling all (set bytes n c) (n + 1) rest
  one_character {c} {rest} h =
      record {
        room = length-set bytes n c ∙ h.room;
        put = λ k l m. elim (dec_lt k n) [
          | yes q ↦ get_or-set_other bytes n k c 0 (λ z. omega arith) ∙ h.put k q m
          | no q ↦ let e : n ≡ k = omega arith in
              subst (λ (j : ℕ). get_or (set bytes n c) j 0 ≡ get_or all j 0) e
              (get_or-set_same bytes n c 0 (omega (arith, h.room)) ∙ sym (h.to_come 0) ∙ ap (λ (j : ℕ). get_or all j 0) (let z : n + 0 ≡ n = omega arith in z))
        ];
        zeros = λ k l. get_or-set_other bytes n k c 0 (λ z. omega arith) ∙ h.zeros k (omega arith);
        to_come = λ k. ap (λ (j : ℕ). get_or all j 0) (let z : n + 1 + k ≡ n + suc k = omega arith in z) ∙ h.to_come (suc k);
      }

  pub spelling_turn : (p : Part) {rest : List ℕ} → Spelling all bytes n (with_character p rest) → Spelling all (set bytes n (value_of p)) (counted n p) rest
  spelling_turn Start h = no_character h
  spelling_turn Escape h = no_character h
  spelling_turn Bracket h = no_character h
  spelling_turn (Digits v) h = no_character h
  spelling_turn (Character c) h = one_character h
  spelling_turn Closed h = no_character h
  spelling_turn Wrong h = no_character h

  pub spelling_end : Spelling all bytes n [] → (k : ℕ) → k < max_literal_bytes → get_or bytes k 0 ≡ get_or all k 0
  spelling_end h k m =
      elim (dec_lt k n) [
        | yes q ↦ h.put k q m
        | no q ↦ h.zeros k (omega arith) ∙ sym (h.to_come (k - n)) ∙ ap (λ (j : ℕ). get_or all j 0) (let z : n + (k - n) ≡ k = omega arith in z)
      ]
