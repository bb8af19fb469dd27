-- Laws of a row's bits and of the loops over rows.
-- Assumes nothing.
use Prim.Native.Nat.{ℕ, zero, suc, ◌+◌, ◌-◌, ◌*◌, ◌%◌, ◌^◌, ◌≤◌, ◌<◌, max, min}
use native.Mathlib.Nat.{one-mul}
use native.Mathlib.Decide.{dec_lt}
use native.Mathlib.Omega.{arith}
use native.Mathlib.Numerals.{add-one}
use mathlib.Core.Path.{◌≡◌, refl, sym, ap, ◌∙◌}
use mathlib.Core.Bool.{true, false, cond}
use mathlib.Core.List.{List}
use borrow.Author.Tests.{eq-eqb, ne_eqb, eqb-true, eqb-false}
use lib.Bits.{bit_or}
use lib.Dec.{eqb}
use lib.ListN.{length, get_or, set, length-set}
use lib.Seq.{get_or-set_same, get_or-set_other}
use Rattle.basis.specs.Limits.{max_rules}
use Rattle.lookahead.specs.Sets.{bit}
use Rattle.lookahead.proofs.BitLaws.{bit_lt, bit-or, bit_shl, bit_shl_low, bit_above, bit_first, shifted_one}
use Rattle.table_reach.specs.Closure.{closure, Matrix, Mended}

-- the one bit of a power of two
power_bit : (p q : ℕ) → bit (1 * 2 ^ p) q ≡ cond (eqb p q) 1 0
power_bit p q = elim (dec_lt q p) [
  | yes h ↦ rw (ne_eqb p q (λ e. omega arith)) (bit_shl_low 1 p q h)
  | no h ↦ from (q - p) (omega arith)
]
  where
    from : (d : ℕ) → q ≡ p + d → bit (1 * 2 ^ p) q ≡ cond (eqb p q) 1 0
    from zero e = rw (eq-eqb p q (omega arith), e) (bit_shl 1 p 0 ∙ bit_first 1)
    from (suc d) e = rw (ne_eqb p q (λ f. omega arith), e) (bit_shl 1 p (suc d) ∙ bit_above 1 1 (suc d) (omega arith) (omega arith))

-- a row with one more bit
pub marked_bit : (row p q : ℕ) → p < 64 → bit (bit_or row (1 * 2 ^ p % 2 ^ 64)) q ≡ max (bit row q) (cond (eqb p q) 1 0)
marked_bit row p q h = bit-or row (1 * 2 ^ p % 2 ^ 64) q ∙ ap (max (bit row q)) (ap (λ (w : ℕ). bit w q) (shifted_one p 64 h ∙ sym (one-mul (2 ^ p))) ∙ power_bit p q)

-- a loop that writes element after element
module _ (P : ℕ → ℕ → Type 0) where
  pub write_next : (rows : List ℕ) (i w : ℕ) → i < length rows → ((r : ℕ) → r < i → P r (get_or rows r 0)) → P i w → (r : ℕ) → r < i + 1 → P r (get_or (set rows i w) r 0)
  write_next rows i w l h p r k = elim (dec_lt r i) [
    | yes m ↦ rw (get_or-set_other rows i r w 0 (λ e. omega arith)) (h r m)
    | no m ↦ let e : r ≡ i = omega arith in rw (e, get_or-set_same rows i w 0 l) p
  ]

-- a test of a bit
pub not_one : (w k : ℕ) → eqb (bit w k) 1 ≡ false → bit w k ≡ 0
not_one w k e = let n = eqb-false (bit w k) 1 e in let l : bit w k < 2 = bit_lt w k in omega arith

pub has_bit : (row via k q : ℕ) → eqb (bit row k) 1 ≡ true → bit (bit_or row via) q ≡ max (bit row q) (min (bit row k) (bit via q))
has_bit row via k q e =
    let f : bit row k ≡ 1 = eqb-true (bit row k) 1 e in
    let l : bit via q < 2 = bit_lt via q in
    let o : bit (bit_or row via) q ≡ max (bit row q) (bit via q) = bit-or row via q in
    omega arith

pub lacks_bit : (row via k q : ℕ) → eqb (bit row k) 1 ≡ false → bit row q ≡ max (bit row q) (min (bit row k) (bit via q))
lacks_bit row via k q e = let f : bit row k ≡ 0 = not_one row k e in omega arith

-- the loop that mends row after row
pub mended_none : (rows : List ℕ) (via k : ℕ) → length rows ≡ max_rules → Mended rows rows via k 0
mended_none rows via k e = record { many = e; changed = λ i q h. absurd (omega arith); kept = λ i h. refl }

module _ {before rows : List ℕ} {via k i : ℕ} (m : Mended before rows via k i) where
  pub mended_more : (w : ℕ) → i < max_rules → ((q : ℕ) → bit w q ≡ max (bit (get_or rows i 0) q) (min (bit (get_or rows i 0) k) (bit via q))) → Mended before (set rows i w) via k (i + 1)
  mended_more w h e =
      let l : i < length rows = omega (arith, m.many) in
      record {
        many = length-set rows i w ∙ m.many;
        changed =
            λ r q j.
            write_next (λ r x. bit x q ≡ max (bit (get_or before r 0) q) (min (bit (get_or before r 0) k) (bit via q))) rows i w l (λ r j. m.changed r q j)
            (let f : get_or rows i 0 ≡ get_or before i 0 = m.kept i (omega arith) in rw (← f) (e q)) r j;
        kept = λ r j. get_or-set_other rows i r w 0 (λ z. omega arith) ∙ m.kept r (omega arith);
      }

pub mended_all : (before rows : List ℕ) (via k i : ℕ) → Mended before rows via k i → max_rules ≤ i → i ≤ max_rules → Mended before rows via k max_rules
mended_all before rows via k i m h l = let e : i ≡ max_rules = omega arith in rw (← e) m

-- one step of the closure
pub matrix_next : (u : ℕ → ℕ → ℕ) (k : ℕ) (rows after : List ℕ) (via : ℕ) → k < max_rules → via ≡ get_or rows k 0 → Mended rows after via k max_rules → Matrix rows (closure u k) → Matrix after (closure u (k + 1))
unfolding closure
matrix_next u k rows after via h e m x =
    record {
      many = m.many;
      entry =
          λ r q l j.
          let f : bit via q ≡ closure u k k q = ap (λ (w : ℕ). bit w q) e ∙ x.entry k q h j in
          m.changed r q l
          ∙ rw (x.entry r q l j, x.entry r k l h, f) (ap (λ (n : ℕ). closure u n r q) (sym (add-one k)));
    }

pub matrix_first : (u : ℕ → ℕ → ℕ) (rows : List ℕ) → Matrix rows u → Matrix rows (closure u 0)
unfolding closure
matrix_first u rows m = m

pub matrix_last : (u : ℕ → ℕ → ℕ) (k : ℕ) (rows : List ℕ) → Matrix rows (closure u k) → max_rules ≤ k → k ≤ max_rules → Matrix rows (closure u max_rules)
matrix_last u k rows m h l = let e : k ≡ max_rules = omega arith in rw (← e) m

-- no bit is marked past the rules
pub unmarked : (row p q : ℕ) → max_rules ≤ p → q < max_rules → bit row q ≡ max (bit row q) (cond (eqb p q) 1 0)
unmarked row p q h l = rw (ne_eqb p q (λ e. omega arith)) (omega arith)
