-- Laws of marks: none, one, and those of two parts together.
-- Assumes nothing.
use Prim.Native.Nat.{ℕ, ◌+◌, ◌*◌, ◌-◌, ◌/◌, ◌^◌, ◌≤◌, ◌<◌}
use mathlib.Core.Path.{◌≡◌, sym, ap, subst, ◌∙◌}
use mathlib.Core.Bool.{Bool, true}
use mathlib.Core.Logic.{◌⊎◌, inl, inr, ⊎_elim}
use mathlib.Core.List.{List}
use native.Mathlib.Omega.{arith}
use native.Mathlib.Decide.{ℕ_discrete, dec_lt}
use native.Mathlib.Nat.{div-lt_iff_lt-mul, mul-le-mul_right}
use borrow.Author.Tests.{ne_eqb}
use lib.Dec.{eqb}
use lib.ListN.{length, get_or, set, length-set}
use lib.Pow.{pow_pos, pow_mono}
use lib.Seq.{get_or-set_same, get_or-set_other}
use Rattle.term_integers.proofs.Laws.{differ}
use Rattle.term_prefixes.specs.Marks.{Hits, Marked, Sound, Sought, Among, Least, Filled}
use Rattle.term_prefixes.proofs.Windows.{blocks, strings}

-- there are at most 256 windows
pub few : (w : ℕ) → strings w ≤ 256
few w = pow_mono {i = w - (w - 8)} {j = 8} (omega arith)

pub window_less : (w v : ℕ) → v < 2 ^ w → v / 2 ^ (w - 8) < 256
window_less w v h =
    let m : v < strings w * 2 ^ (w - 8) = subst (λ (x : ℕ). v < x) (blocks w) h in
    let n : v / 2 ^ (w - 8) < strings w = (div-lt_iff_lt-mul (pow_pos (w - 8))).1 m in
    let k : strings w ≤ 256 = few w in
    omega arith

module _ (f : ℕ → Bool) (w : ℕ) where
  pub sought_none : (P : ℕ → Type 0) (m : List ℕ) → length m ≡ 256 → ((k v : ℕ) → P v → Hits f w k v → ⊥) → Sought f w P m m
  sought_none P m l h = record { all = l; sound = λ s. s; kept = λ k z. z; hit = λ k v p q. absurd (h k v p q) }

  -- one part after the other
  pub sought_more : (P Q R : ℕ → Type 0) (old mid new : List ℕ) → ((v : ℕ) → R v → P v ⊎ Q v) → Sought f w P old mid → Sought f w Q mid new → Sought f w R old new
  sought_more P Q R old mid new g a b = record {
    all = b.all;
    sound = λ s. b.sound (a.sound s);
    kept = λ k z. b.kept k (a.kept k z);
    hit = λ k v r h. ⊎_elim (λ p. b.kept k (a.hit k v p h)) (λ q. b.hit k v q h) (g v r);
  }

  -- one mark more
  pub sought_one : (v : ℕ) (m : List ℕ) → length m ≡ 256 → f v ≡ true → v < 2 ^ w → Sought f w (λ (u : ℕ). v ≡ u) m (set m (v / 2 ^ (w - 8)) 1)
  sought_one v m l e h = record { all = length-set m x 1 ∙ l; sound = sound; kept = kept; hit = λ k u p q. subst (Marked (set m x 1)) (ap (λ (y : ℕ). y / 2 ^ (w - 8)) p ∙ q.block) here }
    where
      x : ℕ
      x = v / 2 ^ (w - 8)

      inside : x < length m
      inside = let k : x < 256 = window_less w v h in omega arith

      here : Marked (set m x 1) x
      here = rw (get_or-set_same m x 1 0 inside) (omega arith)

      sound : Sound f w m → Sound f w (set m x 1)
      sound s k z = elim (ℕ_discrete k x) [
        | yes q ↦ (v, record { less = h; member = e; block = sym q })
        | no q ↦ s k (subst (λ (y : ℕ). 0 < y) (get_or-set_other m x k 1 0 q) z)
      ]

      kept : (k : ℕ) → Marked m k → Marked (set m x 1) k
      kept k z = elim (ℕ_discrete k x) [
        | yes q ↦ subst (Marked (set m x 1)) (sym q) here
        | no q ↦ subst (λ (y : ℕ). 0 < y) (sym (get_or-set_other m x k 1 0 q)) z
      ]

  -- a value that is not in the set, or too large for the width
  pub sought_absent : (v t : ℕ) (m : List ℕ) → length m ≡ 256 → f v ≡ eqb t 3 → (t ≡ 3 → ⊥) → Sought f w (λ (u : ℕ). v ≡ u) m m
  sought_absent v t m l e n = sought_none (λ (u : ℕ). v ≡ u) m l (λ k u p q. differ (sym q.member ∙ ap (λ (y : ℕ). f y) (sym p) ∙ e ∙ ne_eqb t 3 n))

  pub sought_large : (v : ℕ) (m : List ℕ) → length m ≡ 256 → 2 ^ w ≤ v → Sought f w (λ (u : ℕ). v ≡ u) m m
  sought_large v m l h = sought_none (λ (u : ℕ). v ≡ u) m l (λ k u p q. let z : u < 2 ^ w = q.less in omega arith)

-- ---- values one after the other

pub among_none : (f : ℕ → Bool) (w : ℕ) (values m : List ℕ) → length m ≡ 256 → Sought f w (Among values 0) m m
among_none f w values m l = sought_none f w (Among values 0) m l (λ k v p q. let h : p.0 < 0 = p.1 in omega arith)

module _ (f : ℕ → Bool) (w : ℕ) (values old mid new : List ℕ) (n : ℕ) where
  split : (v : ℕ) → Among values (n + 1) v → Among values n v ⊎ (get_or values n 0 ≡ v)
  split v (j, h, e) = elim (ℕ_discrete j n) [
    | yes q ↦ inr (ap (λ (y : ℕ). get_or values y 0) (sym q) ∙ e)
    | no q ↦ inl (j, omega arith, e)
  ]

  pub among_more : Sought f w (Among values n) old mid → Sought f w (λ (u : ℕ). get_or values n 0 ≡ u) mid new → Sought f w (Among values (n + 1)) old new
  among_more = sought_more f w (Among values n) (λ (u : ℕ). get_or values n 0 ≡ u) (Among values (n + 1)) old mid new split

-- ---- the least values of windows

pub filled_none : (first block : ℕ) (values : List ℕ) → length values ≡ 64 → Filled first block 0 values
filled_none first block values l = record { all = l; at = λ j h. absurd (omega arith) }

pub filled_more : (first block n : ℕ) (values : List ℕ) (x : ℕ) → n < 64 → Filled first block n values → x ≡ (first + n) * block → Filled first block (n + 1) (set values n x)
filled_more first block n values x h g e = record { all = length-set values n x ∙ g.all; at = at }
  where
    inside : n < length values
    inside = omega (arith, g.all)

    at : (j : ℕ) → j < n + 1 → get_or (set values n x) j 0 ≡ (first + j) * block
    at j l = elim (ℕ_discrete j n) [
      | yes q ↦ rw (q, get_or-set_same values n x 0 inside) e
      | no q ↦ get_or-set_other values n j x 0 q ∙ g.at j (omega arith)
    ]

module _ (f : ℕ → Bool) (w : ℕ) (values old mid new : List ℕ) (i b : ℕ) (e : b ≡ 2 ^ (w - 8)) (g : Filled (64 * i) b 64 values) where
  part : (v : ℕ) → Least w (64 * (i + 1)) v → Least w (64 * i) v ⊎ Among values 64 v
  part v (k, h, q) = elim (dec_lt k (64 * i)) [
    | yes l ↦ inl (k, l, q)
    | no l ↦
        let s : 64 * i + (k - 64 * i) ≡ k = omega arith in
        inr (k - 64 * i, omega arith, g.at (k - 64 * i) (omega arith) ∙ ap (λ (y : ℕ). y * b) s ∙ ap (λ (y : ℕ). k * y) e ∙ q)
  ]

  pub least_more : Sought f w (Least w (64 * i)) old mid → Sought f w (Among values 64) mid new → Sought f w (Least w (64 * (i + 1))) old new
  least_more = sought_more f w (Least w (64 * i)) (Among values 64) (Least w (64 * (i + 1))) old mid new part

pub least_none : (f : ℕ → Bool) (w : ℕ) (m : List ℕ) → length m ≡ 256 → Sought f w (Least w (64 * 0)) m m
least_none f w m l = sought_none f w (Least w (64 * 0)) m l (λ k v p q. let h : p.0 < 0 = p.1 in omega arith)

-- the multiples are in range
pub multiple_fits : (x b : ℕ) → x ≤ 255 → b ≤ 2 ^ 56 → x * b < 2 ^ 64
multiple_fits x b h l = let m : x * b ≤ 255 * b = mul-le-mul_right b h in omega arith
