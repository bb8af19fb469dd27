-- Two numbers of waiting tests that hold equally many: they stay so, whatever the tests say.
-- Assumes nothing.
use Prim.Native.Nat.{ℕ, zero, suc, ◌+◌, ◌*◌, ◌/◌, ◌^◌, ◌≤◌, ◌<◌}
use mathlib.Core.Path.{◌≡◌}
use mathlib.Core.Bool.{Bool}
use native.Mathlib.Omega.{arith}
use native.Mathlib.Nat.{pow-succ', lt_of_not-le}
use native.Mathlib.Decide.{dec_le}
use lib.Pow.{pow_mono, pow_pos}
use Rattle.basis.specs.Bits.{digit}
use Rattle.basis.proofs.Values.{digit_most}

pub record SameDepth (t t' : ℕ) : Type 0 where
  pub depth : ℕ
  pub least : 2 ^ depth ≤ t
  pub most : t < 2 ^ suc depth
  pub least' : 2 ^ depth ≤ t'
  pub most' : t' < 2 ^ suc depth

pub depth_none : SameDepth 1 1
depth_none = record { depth = 0; least = omega arith; most = omega arith; least' = omega arith; most' = omega arith }

pub depth_more : {t t' : ℕ} (b b' : Bool) → SameDepth t t' → SameDepth (t * 2 + digit b) (t' * 2 + digit b')
depth_more b b' d =
    let p : 2 ^ suc d.depth ≡ 2 * 2 ^ d.depth = pow-succ' 2 d.depth in
    let q : 2 ^ suc (suc d.depth) ≡ 2 * 2 ^ suc d.depth = pow-succ' 2 (suc d.depth) in
    let m : digit b ≤ 1 = digit_most b in
    let n : digit b' ≤ 1 = digit_most b' in
    record { depth = suc d.depth; least = omega (arith, d.least); most = omega (arith, d.most); least' = omega (arith, d.least'); most' = omega (arith, d.most') }

-- below a power of two, or not, together
pub depth_below : (k t t' : ℕ) → SameDepth t t' → t' < 2 ^ k → t < 2 ^ k
depth_below k t t' d h = go (dec_le k d.depth)
  where
    go : Dec (k ≤ d.depth) → t < 2 ^ k
    go (yes p) =
        let e : 2 ^ k ≤ 2 ^ d.depth = pow_mono p in
        absurd (omega (arith, d.least', h))
    go (no p) =
        let q : suc d.depth ≤ k = lt_of_not-le p in
        let e : 2 ^ suc d.depth ≤ 2 ^ k = pow_mono q in
        omega (arith, d.most)

pub depth_swap : {t t' : ℕ} → SameDepth t t' → SameDepth t' t
depth_swap d = record { depth = d.depth; least = d.least'; most = d.most'; least' = d.least; most' = d.most }

pub depth_past : (k t t' : ℕ) → SameDepth t t' → 2 ^ k ≤ t' → 2 ^ k ≤ t
depth_past k t t' d h = go (dec_le (2 ^ k) t)
  where
    go : Dec (2 ^ k ≤ t) → 2 ^ k ≤ t
    go (yes p) = p
    go (no p) =
        let l : t' < 2 ^ k = depth_below k t' t (depth_swap d) (lt_of_not-le p) in
        absurd (omega arith)

pub depth_less : (t t' : ℕ) → SameDepth t t' → 4 ≤ t' → (4 ≤ t) × SameDepth (t / 4) (t' / 4)
depth_less t t' d h = go d.depth d.least d.most d.least' d.most'
  where
    go : (k : ℕ) → 2 ^ k ≤ t → t < 2 ^ suc k → 2 ^ k ≤ t' → t' < 2 ^ suc k → (4 ≤ t) × SameDepth (t / 4) (t' / 4)
    go zero a b c e = absurd (omega arith)
    go (suc zero) a b c e = absurd (omega arith)
    go (suc (suc j)) a b c e =
        let p : 2 ^ suc j ≡ 2 * 2 ^ j = pow-succ' 2 j in
        let q : 2 ^ suc (suc j) ≡ 2 * 2 ^ suc j = pow-succ' 2 (suc j) in
        let r : 2 ^ suc (suc (suc j)) ≡ 2 * 2 ^ suc (suc j) = pow-succ' 2 (suc (suc j)) in
        let o : 1 ≤ 2 ^ j = pow_pos j in
        (omega arith, record { depth = j; least = omega arith; most = omega arith; least' = omega arith; most' = omega arith })
