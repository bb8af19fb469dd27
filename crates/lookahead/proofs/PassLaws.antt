-- Laws of sets that are made of others, and of the sets of a number of passes.
-- Assumes nothing.
use Prim.Native.Nat.{ℕ, ◌+◌, ◌≤◌, ◌<◌, min, max}
use mathlib.Core.Path.{◌≡◌, sym, ap, subst}
use mathlib.Core.Logic.{inl, inr, ◌↔◌}
use mathlib.Core.List.{List, []}
use native.Mathlib.Decide.{dec_le, dec_lt, ℕ_discrete}
use native.Mathlib.Numerals.{add-one}
use native.Mathlib.Omega.{arith}
use lib.ListN.{length}
use Rattle.basis.specs.Bits.{Bits, append_digits}
use Rattle.basis.specs.Counts.{between}
use Rattle.basis.specs.Counts.Counts.{from}
use Rattle.basis.specs.Lookahead.{number}
use Rattle.basis.proofs.Numbers.{number_injective}
use Rattle.basis.proofs.CountLaws.{allows_between}
use Rattle.lookahead.specs.Sets.{Has, Is, Union, Joined, Passes, Repeated}
use Rattle.lookahead.proofs.SetLaws.{same_words, same_list}
use Rattle.lookahead.proofs.LanguageLaws.{Strings, joined_map, passes_past}

-- ---- sets of the same strings

pub is_map : (x : List ℕ) (A B : Strings) → ((s : Bits) → A s ↔ B s) → Is x A → Is x B
is_map x A B f i = record {
  strings = λ s. ((λ h. (f s).0 ((i.strings s).0 h)), (λ b. (i.strings s).1 ((f s).1 b)));
  proper = i.proper;
}

-- a set has one form
pub is_unique : (x y : List ℕ) (A B : Strings) → ((s : Bits) → A s ↔ B s) → Is x A → Is y B → x ≡ y
is_unique x y A B f i j =
    same_list x y i.proper j.proper (same_words x y i.proper j.proper (λ s. (
      (λ h. (j.strings s).1 ((f s).0 ((i.strings s).0 h))),
      (λ h. (i.strings s).1 ((f s).1 ((j.strings s).0 h))),
    )))

-- a join or a union of computed sets is that of what they were computed for
pub is_joined : (r x y : List ℕ) (A B : Strings) → ((s : Bits) → Has x s ↔ A s) → ((s : Bits) → Has y s ↔ B s) → Is r (Joined (Has x) (Has y)) → Is r (Joined A B)
is_joined r x y A B f g i = is_map r (Joined (Has x) (Has y)) (Joined A B) (λ s. (
  joined_map (Has x) (Has y) A B (λ t. (f t).0) (λ t. (g t).0) s,
  joined_map A B (Has x) (Has y) (λ t. (f t).1) (λ t. (g t).1) s,
)) i

pub is_united : (r x y : List ℕ) (A B : Strings) → ((s : Bits) → Has x s ↔ A s) → ((s : Bits) → Has y s ↔ B s) → Is r (Union (Has x) (Has y)) → Is r (Union A B)
is_united r x y A B f g i = is_map r (Union (Has x) (Has y)) (Union A B) (λ s. (to s, back s)) i
  where
    to : (s : Bits) → Union (Has x) (Has y) s → Union A B s
    to s (inl h) = inl ((f s).0 h)
    to s (inr h) = inr ((g s).0 h)

    back : (s : Bits) → Union A B s → Union (Has x) (Has y) s
    back s (inl a) = inl ((f s).1 a)
    back s (inr b) = inr ((g s).1 b)

-- ---- passes of a body

module _ (A : Strings) where
  pub no_pass : (x : List ℕ) → Is x (λ (s : Bits). (length s ≤ 8) × (number s ≡ 1)) → Is x (Passes A 0)
  unfolding append_digits
  no_pass x i = is_map x (λ (s : Bits). (length s ≤ 8) × (number s ≡ 1)) (Passes A 0) (λ s. (
    (λ h. number_injective s [] h.1),
    (λ e. (subst (λ (t : Bits). length t ≤ 8) (sym e) (omega arith), ap number e)),
  )) i

  pub next_pass : (r x y : List ℕ) (k : ℕ) → ((s : Bits) → Has x s ↔ A s) → Is y (Passes A k) → Is r (Joined (Has x) (Has y)) → Is r (Passes A (k + 1))
  next_pass r x y k f i j = rw add-one (is_joined r x y A (Passes A k) f i.strings j)

  -- a count above 8 counts as 8
  pub passes_min : (k : ℕ) (s : Bits) → Passes A (min k 8) s ↔ Passes A k s
  passes_min k s = elim (dec_lt k 8) [
    | yes h ↦ (let e : min k 8 ≡ k = omega arith in (subst (λ (n : ℕ). Passes A n s) e, subst (λ (n : ℕ). Passes A n s) (sym e)))
    | no h ↦
        (let e : min k 8 ≡ 8 = omega arith in
        let p = passes_past A k (omega arith) s in
        ((λ q. p.1 (subst (λ (n : ℕ). Passes A n s) e q)), (λ q. subst (λ (n : ℕ). Passes A n s) (sym e) (p.0 q))))
  ]

  pub is_min : (x : List ℕ) (k n : ℕ) → n ≡ min k 8 → Is x (Passes A n) → Is x (Passes A k)
  is_min x k n e i = is_map x (Passes A n) (Passes A k) (λ s. subst (λ (m : ℕ). Passes A m s ↔ Passes A k s) (sym e) (passes_min k s)) i

  -- low to high passes
  abbrev pub Range : ℕ → ℕ → Strings
  Range low high s = (k : ℕ) × (low ≤ k) × (k ≤ high) × Passes A k s

  pub range_one : (x : List ℕ) (low : ℕ) → Is x (Passes A low) → Is x (Range low low)
  range_one x low i = is_map x (Passes A low) (Range low low) (λ s. (
    (λ p. (low, omega arith, omega arith, p)),
    (λ q. subst (λ (n : ℕ). Passes A n s) (let e : q.0 ≡ low = omega (arith, q.1, q.2) in e) q.3),
  )) i

  pub range_more : (r x y : List ℕ) (low k : ℕ) → low ≤ k → Is x (Range low k) → Is y (Passes A (k + 1)) → Is r (Union (Has x) (Has y)) → Is r (Range low (k + 1))
  range_more r x y low k l i j u =
      is_map r (Union (Range low k) (Passes A (k + 1))) (Range low (k + 1)) (λ s. (to s, back s)) (is_united r x y (Range low k) (Passes A (k + 1)) i.strings j.strings u)
    where
      to : (s : Bits) → Union (Range low k) (Passes A (k + 1)) s → Range low (k + 1) s
      to s (inl q) = (q.0, q.1, omega (arith, q.2), q.3)
      to s (inr p) = (k + 1, omega arith, omega arith, p)

      back : (s : Bits) → Range low (k + 1) s → Union (Range low k) (Passes A (k + 1)) s
      back s q = elim (ℕ_discrete q.0 (k + 1)) [
        | yes e ↦ inr (subst (λ (n : ℕ). Passes A n s) e q.3)
        | no e ↦ inl (q.0, q.1, omega (arith, q.2, e), q.3)
      ]

  pub range_counts : (low high : ℕ) (s : Bits) → Range low high s ↔ Repeated A (between low high) s
  range_counts low high s = (
    (λ q. (q.0, (allows_between low high q.0).1 (q.1, q.2), q.3)),
    (λ q. let b = (allows_between low high q.0).0 q.1 in (q.0, b.0, b.1, q.2)),
  )

  -- a string of some passes is one of at most 8
  fewer : (k : ℕ) (s : Bits) → Passes A k s → Passes A (min k 8) s
  fewer k s p = (passes_min k s).1 p

  -- and one of 8 is one of as many more as are wanted
  more : (k low : ℕ) (s : Bits) → min low 8 ≤ k → k ≤ 8 → Passes A k s → (n : ℕ) × (low ≤ n) × (n ≤ max low k) × Passes A n s
  more k low s h l p = elim (dec_le low k) [
    | yes c ↦ (k, c, omega arith, p)
    | no c ↦ (low, omega arith, omega arith, (passes_past A low (omega arith) s).1 (subst (λ (n : ℕ). Passes A n s) (let e : k ≡ 8 = omega arith in e) p))
  ]

  pub is_within : (x : List ℕ) (low high l h : ℕ) → low ≤ high → l ≡ min low 8 → h ≡ min high 8 → Is x (Repeated A (between l h)) → Is x (Repeated A (between low high))
  is_within x low high l h b el eh i = is_map x (Repeated A (between l h)) (Repeated A (between low high)) (λ s. (to s, back s)) i
    where
      to : (s : Bits) → Repeated A (between l h) s → Repeated A (between low high) s
      to s q =
          let r = (range_counts l h s).1 q in
          let m = more r.0 low s (omega (arith, r.1)) (omega (arith, r.2)) r.3 in
          (range_counts low high s).0 (m.0, m.1, omega (arith, m.2, r.2), m.3)

      back : (s : Bits) → Repeated A (between low high) s → Repeated A (between l h) s
      back s q =
          let r = (range_counts low high s).1 q in
          (range_counts l h s).0 (min r.0 8, omega (arith, r.1), omega (arith, r.2), fewer r.0 s r.3)

  pub is_none : (low high : ℕ) → high < low → (s : Bits) → Repeated A (between low high) s → ⊥
  is_none low high h s q = let r = (range_counts low high s).1 q in omega (arith, r.1, r.2)

  pub is_at_least : (x : List ℕ) (low l : ℕ) → l ≡ min low 8 → Is x (Repeated A (between l 8)) → Is x (Repeated A (from low))
  is_at_least x low l el i = is_map x (Repeated A (between l 8)) (Repeated A (from low)) (λ s. (to s, back s)) i
    where
      to : (s : Bits) → Repeated A (between l 8) s → Repeated A (from low) s
      to s q =
          let r = (range_counts l 8 s).1 q in
          let m = more r.0 low s (omega (arith, r.1)) r.2 r.3 in
          (m.0, m.1, m.3)

      back : (s : Bits) → Repeated A (from low) s → Repeated A (between l 8) s
      back s q = (range_counts l 8 s).0 (min q.0 8, omega (arith, q.1), omega arith, fewer q.0 s q.2)
