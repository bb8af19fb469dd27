-- The values that are tried tell the windows of a set.
-- Assumes nothing.
use Prim.Native.Nat.{ℕ, ◌+◌, ◌*◌, ◌-◌, ◌/◌, ◌^◌, ◌≤◌, ◌<◌}
use mathlib.Core.Path.{◌≡◌, refl, sym, ap, subst, ◌∙◌}
use mathlib.Core.Bool.{Bool, true, false, cond}
use mathlib.Core.Logic.{inl, inr, ⊎_elim}
use mathlib.Core.List.{List, []}
use native.Mathlib.Omega.{arith}
use native.Mathlib.Decide.{dec_lt}
use native.Mathlib.Nat.{mul-le-mul_right, div-eq_of_lt-le, le-div_iff_mul-le, div-lt_iff_lt-mul}
use borrow.Author.Tests.{lt-ltb, ltb-true}
use lib.Dec.{ltb}
use lib.IntN.{ℤ, sub_ℕ}
use lib.ListN.{get_or, replicate, length-replicate, get_or-replicate, get_or-eq_default}
use lib.Pow.{pow_pos}
use Rattle.basis.specs.Patterns.{offset}
use Rattle.term_words.specs.declared.Numbers.{Numbers}
use Rattle.term_words.specs.declared.Term.{Term}
use Rattle.term_evaluation.specs.Variables.{has_variable}
use Rattle.term_membership.specs.Members.{holds, holds_from}
use Rattle.term_prefixes.specs.Marks.{Hits, Marked, Sound, Sought, Among, Least, Found, Offered, Changes}
use Rattle.term_prefixes.specs.Prefixes.{admits, Within, Spans, ToldBy, Told}
use Rattle.term_prefixes.specs.declared.Tried.{Tried}
use Rattle.term_prefixes.proofs.Steady.{First, first_from}
use Rattle.term_prefixes.proofs.MarkLaws.{few}
use Rattle.term_prefixes.proofs.Windows.{block, strings, blocks, next_block}

-- ---- a window's block

module _ (f : ℕ → Bool) (w k : ℕ) (h : k < strings w) where
  abbrev lo : ℕ
  lo = k * block w

  abbrev hi : ℕ
  hi = k * block w + (block w - 1)

  -- a value of the block is one of the width that has the window
  pub in_block : (v : ℕ) → lo ≤ v → v ≤ hi → f v ≡ true → Hits f w k v
  in_block v p q e =
      let o : 1 ≤ block w = pow_pos (w - 8) in
      let n : (k + 1) * block w ≡ k * block w + block w = next_block w k in
      let c : v < (k + 1) * block w = omega arith in
      let l : k + 1 ≤ strings w = omega arith in
      let m : (k + 1) * block w ≤ strings w * block w = mul-le-mul_right (block w) l in
      let b : 2 ^ w ≡ strings w * block w = blocks w in
      record { less = omega arith; member = e; block = div-eq_of_lt-le (block w) p c }

  -- and the other way round
  pub of_block : (v : ℕ) → Hits f w k v → Within f lo hi v
  of_block v x =
      let o : 1 ≤ block w = pow_pos (w - 8) in
      let e : v / block w ≡ k = x.block in
      let n : (k + 1) * block w ≡ k * block w + block w = next_block w k in
      let a : k * block w ≤ v = (le-div_iff_mul-le (pow_pos (w - 8))).0 (omega arith) in
      let c : v < (k + 1) * block w = (div-lt_iff_lt-mul (pow_pos (w - 8))).0 (omega arith) in
      record { least = a; most = omega arith; member = x.member }

-- before anything is tried no window is marked
unmarked : (k : ℕ) → Marked (replicate {A = ℕ} 256 0) k → ⊥
unmarked k z = elim (dec_lt k 256) [
  | yes h ↦ let e : get_or (replicate {A = ℕ} 256 0) k 0 ≡ 0 = get_or-replicate {A = ℕ} 256 k 0 0 h in omega arith
  | no h ↦ let e : get_or (replicate {A = ℕ} 256 0) k 0 ≡ 0 = get_or-eq_default (replicate {A = ℕ} 256 0) 0 {n = k} (omega (arith, length-replicate {A = ℕ} 256 0)) in omega arith
]

-- ---- all that is tried: the least value of each window, and where the set changes

module _ (o : ℕ) (env : List ℤ) (i : ℕ) (xs : List Term) (w : ℕ) (least : List ℕ) (s : Sought (holds_from o env i xs) w (Least w 256) (replicate {A = ℕ} 256 0) least)
    (old new : Tried) (e : old.marks ≡ least) (t : Offered (holds_from o env i xs) w (λ (v : ℕ). Changes o env v xs Numbers.Zero) old new) (marks : List ℕ) (u : Sought (holds_from o env i xs) w (Among new.values 64) new.marks marks) where
  none : Sound (holds_from o env i xs) w (replicate {A = ℕ} 256 0)
  none k z = absurd (unmarked k z)

  sound : Sound (holds_from o env i xs) w marks
  sound = u.sound (t.sound (subst (Sound (holds_from o env i xs) w) (sym e) (s.sound none)))

  settled : (k : ℕ) → Found (holds_from o env i xs) w k new → Marked marks k
  settled k (inl z) = u.kept k z
  settled k (inr (j, h, z)) = let r : new.waiting < 64 = t.ready.room in u.hit k (get_or new.values j 0) (j, omega arith, refl) z

  module _ (k : ℕ) (h : k < strings w) where
    -- the first value of the set in the window has been tried
    marked : (v : ℕ) → First o env i xs (k * block w) v → v ≤ k * block w + (block w - 1) → Marked marks k
    marked v x h' = ⊎_elim (λ q. settled k (t.kept k (inl (subst (λ (m : List ℕ). Marked m k) (sym e) (s.hit k x.value (k, below, q) here))))) (λ c. settled k (t.hit k x.value c here)) x.change
      where
        below : k < 256
        below = omega (arith, few w)

        here : Hits (holds_from o env i xs) w k x.value
        here = let a : x.value ≤ v = x.most in in_block (holds_from o env i xs) w k h x.value x.least (omega arith) x.member

    pub told_window : Spans (holds_from o env i xs) (k * block w) (k * block w + (block w - 1)) (ltb 0 (get_or marks k 0))
    told_window = record {
      found = λ q. let v = sound k (ltb-true 0 (get_or marks k 0) q) in (v.0, of_block (holds_from o env i xs) w k h v.0 v.1);
      all = λ v l. lt-ltb 0 (get_or marks k 0) (marked v (first_from o env i xs (k * block w) v l.least l.member) l.most);
    }

-- ---- a set whatever the variables are

module _ (w : ℕ) (signed : Bool) (i : ℕ) (xs : List Term) where
  abbrev o : ℕ
  o = offset signed w

  -- with a variable it counts as `~`
  pub told_variable : has_variable xs ≡ true → Told w signed i xs (replicate {A = ℕ} 256 1)
  unfolding admits
  told_variable e k h =
      let z : strings w ≤ 256 = few w in
      let m : get_or (replicate {A = ℕ} 256 1) k 0 ≡ 1 = get_or-replicate {A = ℕ} 256 k 1 0 (omega arith) in
      record {
        found = λ q. (k * block w, record { least = omega arith; most = omega arith; member = ap (λ (b : Bool). cond b true (holds [] i xs (sub_ℕ (k * block w) o))) e });
        all = λ v l. ap (ltb 0) m;
      }

  -- without one it admits the same at no values
  pub told_set : (marks : List ℕ) → has_variable xs ≡ false → ToldBy w (holds_from o [] i xs) marks → Told w signed i xs marks
  unfolding admits
  told_set marks e t k h = record {
    found = λ q. let v = (t k h).found q in (v.0, record { least = v.1.least; most = v.1.most; member = same (sub_ℕ v.0 o) ∙ v.1.member });
    all = λ v l. (t k h).all v (record { least = l.least; most = l.most; member = sym (same (sub_ℕ v o)) ∙ l.member });
  }
    where
      same : (v : ℤ) → cond (has_variable xs) true (holds [] i xs v) ≡ holds [] i xs v
      same v = ap (λ (b : Bool). cond b true (holds [] i xs v)) e
