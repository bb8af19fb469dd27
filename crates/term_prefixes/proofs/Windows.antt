-- Which values have a window: those of one block of the values of a width.
-- Assumes nothing.
use Prim.Native.Nat.{ℕ, zero, suc, ◌+◌, ◌*◌, ◌-◌, ◌/◌, ◌^◌, ◌≤◌, ◌<◌}
use mathlib.Core.Path.{◌≡◌, refl, sym, ap, subst, ◌∙◌}
use mathlib.Core.Bool.{Bool, true, false}
use mathlib.Core.Logic.{◌⊎◌, inl, inr, ⊎_elim}
use mathlib.Core.List.{List}
use native.Mathlib.Omega.{arith}
use native.Mathlib.Decide.{dec_lt}
use native.Mathlib.Nat.{pow-succ', add-mul, one-mul, mul-le-mul_right, mul-add-div_right, div-eq_of_lt-le, le-div_iff_mul-le, div-lt_iff_lt-mul}
use lib.IntN.{sub_ℕ}
use lib.Pow.{pow_pos, pow-add, pow_mono}
use Rattle.basis.specs.Bits.{bits_of}
use Rattle.basis.specs.Lookahead.{lookahead, number}
use Rattle.basis.specs.Patterns.{offset, halves_swapped}
use Rattle.basis.proofs.PatternLaws.{swapped_low, swapped_high, value_bits}
use Rattle.basis.proofs.Values.{number_lookahead}
use Rattle.term_integers.proofs.Laws.{differ}
use Rattle.term_words.specs.declared.Term.{Term}
use Rattle.term_prefixes.specs.Prefixes.{admits, Within, Spans, Leads, Tells}

-- ---- numbers of a width whose first bit is turned

half_or_none : (signed : Bool) (w : ℕ) → (offset signed w ≡ 0) ⊎ (2 ^ w ≡ offset signed w + offset signed w)
half_or_none false w = inl refl
half_or_none true zero = inl refl
half_or_none true (suc w) = inr (pow-succ' 2 w ∙ omega arith)

pub offset_fits : (signed : Bool) (w : ℕ) → w ≤ 64 → offset signed w ≤ 2 ^ 63
offset_fits false w h = omega arith
offset_fits true zero h = omega arith
offset_fits true (suc w) h = pow_mono {i = w} {j = 63} (omega arith)

module _ (signed : Bool) (w v : ℕ) (h : v < 2 ^ w) where
  abbrev low_half : ℕ
  low_half = offset signed w

  pub swapped_less : halves_swapped low_half v < 2 ^ w
  swapped_less = elim (dec_lt v low_half) [
    | yes l ↦ ⊎_elim (λ (e : low_half ≡ 0). absurd (omega arith)) (λ (e : 2 ^ w ≡ low_half + low_half). rw (swapped_low low_half v l) (omega arith)) (half_or_none signed w)
    | no l ↦ rw (swapped_high low_half v (omega arith)) (omega arith)
  ]

  pub swapped_twice : halves_swapped low_half (halves_swapped low_half v) ≡ v
  swapped_twice = elim (dec_lt v low_half) [
    | yes l ↦ ap (halves_swapped low_half) (swapped_low low_half v l) ∙ swapped_high low_half (v + low_half) (omega arith) ∙ omega arith
    | no l ↦
        ap (halves_swapped low_half) (swapped_high low_half v (omega arith))
        ∙ ⊎_elim (λ (e : low_half ≡ 0). swapped_high low_half (v - low_half) (omega arith) ∙ omega arith) (λ (e : 2 ^ w ≡ low_half + low_half). swapped_low low_half (v - low_half) (omega arith) ∙ omega arith) (half_or_none signed w)
  ]

pub offset_few : (signed : Bool) (w : ℕ) → w ≤ 8 → offset signed w ≤ 128
offset_few false w h = omega arith
offset_few true zero h = omega arith
offset_few true (suc w) h = pow_mono {i = w} {j = 7} (omega arith)

-- ---- blocks: the values whose leading bits are alike

module _ (w : ℕ) where
  abbrev pub block : ℕ
  block = 2 ^ (w - 8)

  abbrev pub strings : ℕ
  strings = 2 ^ (w - (w - 8))

  pub blocks : 2 ^ w ≡ strings * block
  blocks =
      let e : w - (w - 8) + (w - 8) ≡ w = omega arith in
      ap (λ (k : ℕ). 2 ^ k) (sym e) ∙ pow-add 2 (w - (w - 8)) (w - 8)

  pub lead_number : (v : ℕ) → v < 2 ^ w → number (lookahead (bits_of w v)) ≡ strings + v / block
  lead_number v h = number_lookahead w v h ∙ ap (λ (x : ℕ). (x + v) / block) blocks ∙ mul-add-div_right (pow_pos (w - 8)) strings v

  pub next_block : (x : ℕ) → (x + 1) * block ≡ x * block + block
  next_block x = add-mul x 1 block ∙ ap (λ (y : ℕ). x * block + y) (one-mul block)

  -- the block of a number whose first bit is turned
  offset_blocks : (signed : Bool) → offset signed w ≡ offset signed (w - (w - 8)) * block
  offset_blocks false = omega arith
  offset_blocks true = go w (w - (w - 8)) (w - 8) (let e : w - (w - 8) + (w - 8) ≡ w = omega arith in e) (λ q. omega arith)
    where
      go : (w m n : ℕ) → m + n ≡ w → (m ≡ 0 → n ≡ 0) → offset true w ≡ offset true m * 2 ^ n
      go zero m n e f = let a : m ≡ 0 = omega arith in sym (ap (λ (x : ℕ). offset true x * 2 ^ n) a ∙ omega arith)
      go (suc w) zero n e f = let a : n ≡ 0 = f refl in absurd (omega arith)
      go (suc w) (suc m) n e f = let a : w ≡ m + n = omega arith in ap (λ (x : ℕ). 2 ^ x) a ∙ pow-add 2 m n

  pub swapped_block : (signed : Bool) (v : ℕ) → halves_swapped (offset signed w) v / block ≡ halves_swapped (offset signed (w - (w - 8))) (v / block)
  swapped_block signed v = rw (offset_blocks signed) (elim (dec_lt v (half * block)) [
    | yes l ↦
        let d : v / block < half = (div-lt_iff_lt-mul (pow_pos (w - 8))).1 l in
        let e : v + half * block ≡ half * block + v = omega arith in
        ap (λ (x : ℕ). x / block) (swapped_low (half * block) v l ∙ e) ∙ mul-add-div_right (pow_pos (w - 8)) half v ∙ omega arith ∙ sym (swapped_low half (v / block) d)
    | no l ↦
        let d : half ≤ v / block = (le-div_iff_mul-le (pow_pos (w - 8))).1 (omega arith) in
        let e : half * block + (v - half * block) ≡ v = omega arith in
        let q : v / block ≡ half + (v - half * block) / block = ap (λ (x : ℕ). x / block) (sym e) ∙ mul-add-div_right (pow_pos (w - 8)) half (v - half * block) in
        ap (λ (x : ℕ). x / block) (swapped_high (half * block) v (omega arith)) ∙ omega arith ∙ sym (swapped_high half (v / block) d)
  ])
    where
      half : ℕ
      half = offset signed (w - (w - 8))

  module _ (signed : Bool) (i : ℕ) (xs : List Term) (k : ℕ) where
    none : ((v : ℕ) → v < 2 ^ w → strings + v / block ≡ k → ⊥) → Tells w signed i xs k false
    none f = record { found = λ q. differ (sym q); all = λ v l. absurd (f v l.less (sym (lead_number v l.less) ∙ l.leading)) }

    pub tells_below : (q : ℕ) → q ≡ strings → k < q → Tells w signed i xs k false
    tells_below q e h = none (λ v l g. omega arith)

    pub tells_above : (q : ℕ) → q ≡ strings → q ≤ k → q ≤ k - q → Tells w signed i xs k false
    tells_above q e h g =
        none
        (λ v l f.
        let m : v < strings * block = subst (λ (x : ℕ). v < x) blocks l in
        let n : v / block < strings = (div-lt_iff_lt-mul (pow_pos (w - 8))).1 m in
        omega arith)

    -- the number of a value's window is that of the block of the value, counted from the least on, with its first bit turned
    abbrev o : ℕ
    o = offset signed w

    abbrev half : ℕ
    half = offset signed (w - (w - 8))

    abbrev among : ℕ → Bool
    among u = admits i xs (sub_ℕ u o)

    pub tells_block : (q t : ℕ) (r : Bool) → q ≡ strings → q ≤ k → k - q < q → t ≡ halves_swapped half (k - q) → Spans among (t * block) (t * block + (block - 1)) r → Tells w signed i xs k r
    tells_block q t r eq h g et s =
        record { found = λ e. (halves_swapped o (s.found e).0, leads (s.found e).0 (s.found e).1); all = λ v l. s.all (halves_swapped o v) (inside v l) }
      where
        least : 1 ≤ block
        least = pow_pos (w - 8)

        back : halves_swapped half t ≡ k - q
        back = ap (halves_swapped half) et ∙ swapped_twice signed (w - (w - 8)) (k - q) (omega arith)

        turned_small : t < strings
        turned_small = subst (λ (x : ℕ). x < strings) (sym et) (swapped_less signed (w - (w - 8)) (k - q) (omega arith))

        leads : (u : ℕ) → Within among (t * block) (t * block + (block - 1)) u → Leads w signed i xs k (halves_swapped o u)
        leads u l =
            let a : t * block ≤ u = l.least in
            let c : u < (t + 1) * block = omega (arith, next_block t, l.most, least) in
            let d : u / block ≡ t = div-eq_of_lt-le block a c in
            let n : t < strings = turned_small in
            let m : (t + 1) * block ≤ strings * block = mul-le-mul_right block (omega arith) in
            let z : u < 2 ^ w = omega (arith, blocks) in
            let p : halves_swapped o u < 2 ^ w = swapped_less signed w u z in
            let x : halves_swapped o u / block ≡ k - q = swapped_block signed u ∙ ap (halves_swapped half) d ∙ back in
            let y : strings + halves_swapped o u / block ≡ k = omega arith in
            record {
              less = p;
              member = ap (admits i xs) (value_bits signed w (halves_swapped o u) p ∙ ap (λ (n : ℕ). sub_ℕ n o) (swapped_twice signed w u z)) ∙ l.member;
              leading = lead_number (halves_swapped o u) p ∙ y;
            }

        inside : (v : ℕ) → Leads w signed i xs k v → Within among (t * block) (t * block + (block - 1)) (halves_swapped o v)
        inside v l =
            let z : strings + v / block ≡ k = sym (lead_number v l.less) ∙ l.leading in
            let y : v / block ≡ k - q = omega arith in
            let x : halves_swapped o v / block ≡ t = swapped_block signed v ∙ ap (halves_swapped half) y ∙ sym et in
            let a : t * block ≤ halves_swapped o v = (le-div_iff_mul-le (pow_pos (w - 8))).0 (omega arith) in
            let c : halves_swapped o v < (t + 1) * block = (div-lt_iff_lt-mul (pow_pos (w - 8))).0 (omega arith) in
            record { least = a; most = omega (arith, next_block t, least); member = ap (admits i xs) (sym (value_bits signed w v l.less)) ∙ l.member }
