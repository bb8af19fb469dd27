-- The words of a join are the set of the joined strings.
-- Assumes nothing.
use Prim.Native.Nat.{ℕ, zero, suc, ◌+◌, ◌-◌, ◌*◌, ◌/◌, ◌%◌, ◌^◌, ◌≤◌, ◌<◌}
use mathlib.Core.Path.{◌≡◌, refl, sym, ap, ap₂, ◌∙◌, subst}
use mathlib.Core.Logic.{◌↔◌}
use mathlib.Core.List.{List, ◌++◌, append_assoc}
use native.Mathlib.Nat.{div-eq_of_lt, zero-div}
use native.Mathlib.Decide.{dec_le, dec_lt}
use native.Mathlib.Omega.{arith}
use lib.ListN.{length, get_or, take, drop, length-append, length-take, length-drop, take-append-drop}
use lib.Seq.{take-append-add}
use lib.Pow.{pow_mono}
use Rattle.basis.specs.Bits.{Bits}
use Rattle.basis.specs.Lookahead.{number, join}
use Rattle.basis.proofs.Numbers.{number_pos, number_ge, number_lt, number_small, front_number, back_number}
use Rattle.basis.proofs.Joins.{lookahead_short, join_full}
use Rattle.lookahead.specs.Sets.{bit, member, Has, Is, Joined}
use Rattle.lookahead.specs.Inner.{Cleared, Prefixes, Splits, Word, JoinedWord, Filled}
use Rattle.lookahead.proofs.SetLaws.{member_lt, absent}

both_one : (u v : ℕ) → u < 2 → v < 2 → u * v ≡ 1 → (u ≡ 1) × (v ≡ 1)
both_one zero v p q e = absurd (omega arith)
both_one (suc zero) v p q e = (refl, omega arith)
both_one (suc (suc u)) v p q e = absurd (omega arith)

at_number : (a b out : List ℕ) (n : ℕ) → Word a b (n / 64) (get_or out (n / 64) 0) → (member out n ≡ 1) ↔ Splits a b 9 n
unfolding member
at_number a b out n f =
    subst (λ (m : ℕ). (bit (get_or out (n / 64) 0) (n % 64) ≡ 1) ↔ Splits a b 9 m) (let u : 64 * (n / 64) + n % 64 ≡ n = omega arith in u) (f (n % 64) (omega arith))

-- a string of number n that is in the join by a string of q, cut in two there
record Cut (a q : List ℕ) (s : Bits) : Type 0 where
  left : Bits
  right : Bits
  whole : s ≡ left ++ right
  in_left : member a (number left) ≡ 1
  in_right : member q (number right) ≡ 1

module _ (a x q : List ℕ) (c : Cleared a x) where
  cut_at : (s : Bits) (j : ℕ) → j ≤ length s → member x (number s / 2 ^ j) ≡ 1 → member q (2 ^ j + number s % 2 ^ j) ≡ 1 → Cut a q s
  cut_at s j h e f = record {
    left = l;
    right = m;
    whole = sym parts;
    in_left = sym (c.same (number l) (number_pos l)) ∙ ap (member x) (sym (ap₂ (λ (w : Bits) (i : ℕ). number w / 2 ^ i) (sym parts) (sym size) ∙ front_number l m)) ∙ e;
    in_right = ap (member q) (sym (ap₂ (λ (w : Bits) (i : ℕ). 2 ^ i + number w % 2 ^ i) (sym parts) (sym size) ∙ back_number l m)) ∙ f;
  }
    where
      l : Bits
      l = take (length s - j) s

      m : Bits
      m = drop (length s - j) s

      parts : take (length s - j) s ++ drop (length s - j) s ≡ s
      parts = take-append-drop (length s - j) s

      size : length (drop (length s - j) s) ≡ j
      size = length-drop (length s - j) s ∙ omega arith

  cut : (s : Bits) → Splits x q 9 (number s) → Cut a q s
  cut s p =
      let j = p.0 in
      let o = both_one (member x (number s / 2 ^ j)) (member q (2 ^ j + number s % 2 ^ j)) (member_lt x (number s / 2 ^ j)) (member_lt q (2 ^ j + number s % 2 ^ j)) p.2 in
      elim (dec_le j (length s)) [
        | yes h ↦ cut_at s j h o.0 o.1
        | no h ↦
            let u : number s < 2 ^ suc (length s) = number_lt s in
            let v : 2 ^ suc (length s) ≤ 2 ^ j = pow_mono (let w : suc (length s) ≤ j = omega arith in w) in
            let z : number s / 2 ^ j ≡ 0 = div-eq_of_lt (omega arith) in
            absurd (omega (arith, sym o.0 ∙ ap (member x) z ∙ c.unused))
      ]

  paste : (l m : Bits) → length m ≤ 8 → member a (number l) ≡ 1 → member q (number m) ≡ 1 → Splits x q 9 (number (l ++ m))
  paste l m h e f =
      (length m, omega arith, ap₂ (λ (u v : ℕ). u * v) (ap (member x) (front_number l m) ∙ c.same (number l) (number_pos l) ∙ e) (ap (member q) (back_number l m) ∙ f))

module _ (a b x p out : List ℕ) (i : ℕ) (g : 8 ≤ i) (c : Cleared a x) (P : Prefixes b p) (F : Filled (JoinedWord x b p) i out) where
  -- strings short of 8 bits have numbers in the first four words, those of 8 bits in the others
  short : (s : Bits) → length s < 8 → (member out (number s) ≡ 1) ↔ Splits x b 9 (number s)
  short s h =
      let u : number s < 2 ^ suc (length s) = number_lt s in
      let v : 2 ^ suc (length s) ≤ 2 ^ 8 = pow_mono {j = 8} h in
      at_number x b out (number s) ((F.at (number s / 64) (omega arith)).short (omega arith))

  full : (s : Bits) → length s ≡ 8 → (member out (number s) ≡ 1) ↔ Splits x p 9 (number s)
  full s h =
      let u : 2 ^ 8 ≤ number s = subst (λ (n : ℕ). 2 ^ n ≤ number s) h (number_ge s) in
      let v : number s < 512 = number_small s (omega arith) in
      at_number x p out (number s) ((F.at (number s / 64) (omega arith)).full (omega arith))

  to_short : (s : Bits) → length s < 8 → Has out s → Joined (Has a) (Has b) s
  to_short s h e = go (cut a x b c s ((short s h).0 e.1))
    where
      go : Cut a b s → Joined (Has a) (Has b) s
      go k =
          let n : length s ≡ length k.left + length k.right = ap length k.whole ∙ length-append k.left k.right in
          record {
            left = k.left;
            right = k.right;
            in_left = (omega arith, k.in_left);
            in_right = (omega arith, k.in_right);
            whole = k.whole ∙ sym (lookahead_short (k.left ++ k.right) (subst (λ (w : Bits). length w ≤ 8) k.whole e.0));
          }

  to_full : (s : Bits) → length s ≡ 8 → Has out s → Joined (Has a) (Has b) s
  to_full s h e = go (cut a x p c s ((full s h).0 e.1))
    where
      go : Cut a p s → Joined (Has a) (Has b) s
      go k =
          let n : length s ≡ length k.left + length k.right = ap length k.whole ∙ length-append k.left k.right in
          let t = (P k.right).0 (omega arith, k.in_right) in
          record {
            left = k.left;
            right = k.right ++ t.0;
            in_left = (omega arith, k.in_left);
            in_right = t.1;
            whole = sym (join_full s t.0 h) ∙ ap (λ (w : Bits). join w t.0) k.whole ∙ ap (take 8) (append_assoc k.left k.right t.0);
          }

  back_short : (l m : Bits) → length l + length m < 8 → Has a l → Has b m → Has out (l ++ m)
  back_short l m h e f =
      let n : length (l ++ m) ≡ length l + length m = length-append l m in
      (omega arith, (short (l ++ m) (omega arith)).1 (paste a x b c l m f.0 e.1 f.1))

  back_full : (l m t : Bits) → length l + length m ≡ 8 → Has a l → Has b (m ++ t) → Has out (l ++ m)
  back_full l m t h e f =
      let n : length (l ++ m) ≡ length l + length m = length-append l m in
      let q = (P m).1 (t, f) in
      (omega arith, (full (l ++ m) (omega arith)).1 (paste a x p c l m q.0 e.1 q.1))

  back : (s : Bits) → Joined (Has a) (Has b) s → Has out s
  back s j = elim (dec_lt (length j.left + length j.right) 8) [
    | yes h ↦
        let w : join j.left j.right ≡ j.left ++ j.right = lookahead_short (j.left ++ j.right) (rw length-append (omega arith)) in
        subst (Has out) (sym (j.whole ∙ w)) (back_short j.left j.right h j.in_left j.in_right)
    | no h ↦ cut_right j.left j.right (omega arith) j.in_left j.in_right j.whole
  ]
    where
      cut_right : (l m : Bits) → 8 ≤ length l + length m → Has a l → Has b m → s ≡ join l m → Has out s
      cut_right l m h e f w =
          let d = 8 - length l in
          let u : length l + (8 - length l) ≡ 8 = omega (arith, e.0) in
          let v : join l m ≡ l ++ take (8 - length l) m = ap (λ (n : ℕ). take n (l ++ m)) (sym u) ∙ take-append-add l m (8 - length l) in
          let n : length (take (8 - length l) m) ≡ 8 - length l = length-take (8 - length l) m ∙ omega (arith, e.0) in
          subst (Has out) (sym (w ∙ v))
          (back_full l (take (8 - length l) m) (drop (8 - length l) m) (omega arith) e (subst (Has b) (sym (take-append-drop (8 - length l) m)) f))

  pub join_is : Is out (Joined (Has a) (Has b))
  join_is = record { strings = λ s. (to s, back s); proper = record { eight = F.eight; fit = F.fit; unused = unused } }
    where
      to : (s : Bits) → Has out s → Joined (Has a) (Has b) s
      to s e = elim (dec_lt (length s) 8) [ yes h ↦ to_short s h e | no h ↦ to_full s (omega (arith, e.0)) e ]

      unused : member out 0 ≡ 0
      unused = absent (member out 0) (member_lt out 0) (λ e. go ((at_number x b out 0 ((F.at 0 (omega arith)).short (omega arith))).0 e))
        where
          go : Splits x b 9 0 → ⊥
          go q =
              let o = both_one (member x (0 / 2 ^ q.0)) (member b (2 ^ q.0 + 0 % 2 ^ q.0)) (member_lt x (0 / 2 ^ q.0)) (member_lt b (2 ^ q.0 + 0 % 2 ^ q.0)) q.2 in
              omega (arith, sym o.0 ∙ ap (member x) (zero-div (2 ^ q.0)) ∙ c.unused)
