-- Laws of a family of sets in one slice of words.
-- Assumes nothing.
use Prim.Native.Nat.{ℕ, zero, suc, ◌+◌, ◌-◌, ◌*◌, ◌/◌, ◌%◌, ◌^◌, ◌≤◌, ◌<◌, min, max}
use mathlib.Core.Path.{◌≡◌, refl, sym, ap, ◌∙◌, subst}
use mathlib.Core.Bool.{Bool, true, false}
use mathlib.Core.Logic.{◌⊎◌, inl, inr, ◌≢◌}
use mathlib.Core.List.{List, [], ◌∷◌}
use native.Mathlib.Decide.{dec_lt}
use native.Mathlib.Omega.{arith}
use lib.ListN.{length, get_or, set, drop, length-take, length-drop, get_or-eq_default}
use lib.Seq.{get_or-take, get_or-drop, ext_get_or}
use lib.Bits.{bit_or, or_lt, or_add_and, and_le_r}
use Rattle.lookahead.specs.Sets.{bit, member, Proper}
use Rattle.lookahead_slices.specs.Family.{part, room, Added, Stored}
use Rattle.lookahead.specs.Inner.{Filled}
use Rattle.lookahead.proofs.BitLaws.{bit-or}
use Rattle.lookahead.proofs.SetLaws.{has_union}
use Rattle.lookahead_slices.proofs.WriteLaws.{Written, written_kept, written_set, written_next}

-- ---- a part

pub part_word : (i k : ℕ) (l : List ℕ) → k < 8 → get_or (part i l) k 0 ≡ get_or l (8 * i + k) 0
part_word i k l h = get_or-take 8 (drop (8 * i) l) k 0 h ∙ get_or-drop (8 * i) l k 0

part_length : (i : ℕ) (l : List ℕ) → length (part i l) ≡ min 8 (length l - 8 * i)
part_length i l = length-take 8 (drop (8 * i) l) ∙ ap (min 8) (length-drop (8 * i) l)

pub loaded : (l out : List ℕ) (i k : ℕ) → 8 * i + 8 ≤ length l → 8 ≤ k → Filled (λ m w. w ≡ get_or l (8 * i + m) 0) k out → out ≡ part i l
loaded l out i k h g f =
    ext_get_or 0 out (part i l) (f.eight ∙ sym (part_length i l ∙ omega arith))
    (λ m b. f.at m (omega (arith, f.eight)) ∙ sym (part_word i m l (omega (arith, f.eight))))

-- ---- a part written

module _ (f : ℕ → ℕ) (old : List ℕ) (i k : ℕ) (new : List ℕ) (g : 8 ≤ k) (w : Written f old (8 * i) k new) where
  part_others : k ≡ 8 → (j : ℕ) → (j ≡ i → ⊥) → part j new ≡ part j old
  part_others z j n = ext_get_or 0 (part j new) (part j old) (part_length j new ∙ ap (λ (y : ℕ). min 8 (y - 8 * j)) w.same_length ∙ sym (part_length j old)) same
    where
      away : j ≢ i → (m : ℕ) → m < 8 → (8 * j + m < 8 * i) ⊎ (8 * i + k ≤ 8 * j + m)
      away d m h = elim (dec_lt j i) [ yes a ↦ inl (omega arith) | no a ↦ inr (omega arith) ]

      same : (m : ℕ) → m < length (part j new) → get_or (part j new) m 0 ≡ get_or (part j old) m 0
      same m h =
          let b : m < 8 = omega (arith, part_length j new) in
          part_word j m new b ∙ w.rest (8 * j + m) (away n m b) ∙ sym (part_word j m old b)

  part_done : (m : ℕ) → m < 8 → get_or (part i new) m 0 ≡ f m
  part_done m h = part_word i m new h ∙ w.done m (omega arith)

pub stored : (x old new : List ℕ) (i k : ℕ) → 8 ≤ k → k ≤ 8 → Written (λ m. get_or x m 0) old (8 * i) k new → Stored old new i x
stored x old new i k g h w = record {
  same_length = w.same_length;
  words = part_done (λ m. get_or x m 0) old i k new g w;
  others = part_others (λ m. get_or x m 0) old i k new g w (omega arith);
}

-- ---- growing words

pub or_ge : (a b : ℕ) → a ≤ bit_or a b
or_ge a b = omega (arith, or_add_and a b, and_le_r a b)

pub room_falls : (l : List ℕ) (n v : ℕ) → n < length l → get_or l n 0 < v → v < 2 ^ 64 → room (set l n v) < room l
unfolding room
room_falls [] n v h a b = absurd (omega arith)
room_falls (w ∷ l) zero v h a b = omega arith
room_falls (w ∷ l) (suc n) v h a b = let r : room (set l n v) < room l = room_falls l n v (omega arith) a b in omega arith

-- whether the words have grown, and how that shows
pub record Growth (old new : List ℕ) (grew : Bool) : Type 0 where
  pub grows : grew ≡ true → room new < room old
  pub kept : grew ≡ false → new ≡ old

pub growth_none : (old : List ℕ) → Growth old old false
growth_none old = record { grows = λ e. absurd (let z : ◌≡◌ {A = ℕ} 0 1 = cc in omega arith); kept = λ e. refl }

pub growth_more : (old new : List ℕ) (grew : Bool) (n v : ℕ) → n < length new → get_or new n 0 < v → v < 2 ^ 64 → Growth old new grew → Growth old (set new n v) true
growth_more old new true n v h a b g = record {
  grows = λ e. omega (arith, room_falls new n v h a b, g.grows refl);
  kept = λ e. absurd (let z : ◌≡◌ {A = ℕ} 0 1 = cc in omega arith);
}
growth_more old new false n v h a b g = record {
  grows = λ e. subst (λ (l : List ℕ). room (set new n v) < room l) (g.kept refl) (room_falls new n v h a b);
  kept = λ e. absurd (let z : ◌≡◌ {A = ℕ} 0 1 = cc in omega arith);
}

-- ---- a set added

abbrev pub added_word : List ℕ → List ℕ → ℕ → ℕ → ℕ
added_word old x i m = bit_or (get_or old (8 * i + m) 0) (get_or x m 0)

module _ (x old new : List ℕ) (i k : ℕ) (l : 8 * i + 8 ≤ length old) (g : 8 ≤ k) (h : k ≤ 8) (w : Written (added_word old x i) old (8 * i) k new) where
  word : (m : ℕ) → m < 8 → get_or (part i new) m 0 ≡ bit_or (get_or (part i old) m 0) (get_or x m 0)
  word m b = part_done (added_word old x i) old i k new g w m b ∙ ap (λ (y : ℕ). bit_or y (get_or x m 0)) (sym (part_word i m old b))

  numbers : (n : ℕ) → n < 512 → member (part i new) n ≡ max (member (part i old) n) (member x n)
  unfolding member
  numbers n b = ap (λ (y : ℕ). bit y (n % 64)) (word (n / 64) (omega arith)) ∙ bit-or (get_or (part i old) (n / 64) 0) (get_or x (n / 64) 0) (n % 64)

  size : length (part i new) ≡ 8
  size = part_length i new ∙ omega (arith, w.same_length)

  pub added : (grew : Bool) → Growth old new grew → Added old new i x grew
  added grew r = record {
    same_length = w.same_length;
    words = word;
    strings = has_union (part i old) x (part i new) (λ n p b. numbers n b);
    proper = λ p q. record { eight = size; fit = fit p q; unused = numbers 0 (omega arith) ∙ omega (arith, p.unused, q.unused) };
    others = part_others (added_word old x i) old i k new g w (omega arith);
    grows = r.grows;
    kept = r.kept;
  }
    where
      fit : Proper (part i old) → Proper x → (m : ℕ) → get_or (part i new) m 0 < 2 ^ 64
      fit p q m = elim (dec_lt m 8) [
        | yes b ↦ subst (λ (y : ℕ). y < 2 ^ 64) (sym (word m b)) (or_lt 64 (get_or (part i old) m 0) (get_or x m 0) (p.fit m) (q.fit m))
        | no b ↦ subst (λ (y : ℕ). y < 2 ^ 64) (sym (get_or-eq_default (part i new) 0 {n = m} (omega (arith, size)))) (omega arith)
      ]

-- one turn: word k of the set is or-ed into that of the family, and written where that is more
abbrev pub Adding : List ℕ → List ℕ → ℕ → ℕ → List ℕ → Bool → Type 0
Adding x old i k new grew = Written (added_word old x i) old (8 * i) k new × Growth old new grew × (k ≤ 8)

module _ (x old : List ℕ) (i k : ℕ) (new : List ℕ) (grew : Bool) (v : ℕ) (next : List ℕ) (grown : Bool) (l : 8 * i + 8 ≤ length old) (h : k < 8)
    (w : Adding x old i k new grew) (e : v ≡ bit_or (get_or new (8 * i + k) 0) (get_or x k 0)) where
  value : v ≡ added_word old x i k
  value = e ∙ ap (λ (y : ℕ). bit_or y (get_or x k 0)) (written_next (added_word old x i) old (8 * i) k new w.0)

  pub adding_written : get_or new (8 * i + k) 0 < v → v < 2 ^ 64 → next ≡ set new (8 * i + k) v → grown ≡ true → Adding x old i (k + 1) next grown
  adding_written a b p q =
      rw (p, q) (
        written_set (added_word old x i) old (8 * i) k new w.0 v (omega arith) value,
        growth_more old new grew (8 * i + k) v (omega (arith, w.0.same_length)) a b w.1,
        omega arith,
      )

  pub adding_kept : v ≤ get_or new (8 * i + k) 0 → next ≡ new → grown ≡ grew → Adding x old i (k + 1) next grown
  adding_kept a p q =
      let z : get_or new (8 * i + k) 0 ≡ v = omega (arith, or_ge (get_or new (8 * i + k) 0) (get_or x k 0)) in
      rw (p, q) (written_kept (added_word old x i) old (8 * i) k new w.0 (z ∙ value), w.1, omega arith)
