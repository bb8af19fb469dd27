-- The parts of a construct tile it: each begins where the one before it ends.
-- Assumes nothing.
use Prim.Native.Nat.{ℕ, zero, suc, ◌+◌, ◌≤◌, ◌<◌}
use mathlib.Core.Path.{◌≡◌, refl, sym, ap, ◌∙◌}
use mathlib.Core.Logic.{inl, inr}
use mathlib.Core.Bool.{Bool, true, false, ◌&&◌}
use mathlib.Core.List.Memᴰ
use mathlib.Core.List.{List, [], ◌∷◌}
use native.Mathlib.Omega.{arith}
use borrow.Author.Tests.{lt-ltb, le-ltb, ltb-true, ltb-false, ne_eqb, eqb-true}
use lib.Dec.{ltb, eqb}
use Rattle.basis.proofs.Booleans.{which, both_first, both_second}
use Rattle.theory.specs.Grammar.{◌∈◌}
use Rattle.table_layout.specs.Held.{parts}
use Rattle.table_wellformed.specs.Checks.{size_at, walk}
use Rattle.table_wellformed.proofs.Walks.{one_step, at_once}

-- these constructs, from j up to `end`, each with a size and passing a test
pub data Tiles (ws : List ℕ) (check : ℕ → Bool) (end : ℕ) : ℕ → List ℕ → Type 0 where
  none : {j : ℕ} → j ≡ end → Tiles ws check end j []
  more : {j k : ℕ} {js : List ℕ} → j < end → 0 < size_at ws j → check j ≡ true → k ≡ j + size_at ws j → Tiles ws check end k js → Tiles ws check end j (j ∷ js)

pub parts_more : (m : ℕ) (ws : List ℕ) (j end : ℕ) → j < end → 0 < size_at ws j → parts (suc m) ws j end ≡ j ∷ parts m ws (j + size_at ws j) end
unfolding parts
parts_more m ws j end h positive = rw (lt-ltb j end h, ne_eqb (size_at ws j) 0 (λ e. omega arith), parts)

pub parts_none : (m : ℕ) (ws : List ℕ) (j end : ℕ) → end ≤ j → parts m ws j end ≡ []
unfolding parts
parts_none zero ws j end h = refl
parts_none (suc m) ws j end h = rw (le-ltb j end h, parts)

module _ (ws : List ℕ) (check : ℕ → Bool) (end : ℕ) where
  abbrev Walked : ℕ → ℕ → Type 0
  Walked n j = walk n ws (λ k y. check k) (λ k y. y) (λ k y. eqb k end) end j 0 ≡ true

  outside : (n m j : ℕ) → Walked n j → end ≤ j → Tiles ws check end j (parts m ws j end)
  outside n m j e h = rw (parts_none m ws j end h) (none (eqb-true j end (sym (at_once ws (λ k y. check k) (λ k y. y) (λ k y. eqb k end) end n j 0 h) ∙ e)))

  inside : (n m j : ℕ) → Walked (suc n) j → j < end → (0 < size_at ws j → Walked n (j + size_at ws j) → Tiles ws check end (j + size_at ws j) (parts m ws (j + size_at ws j) end))
      → Tiles ws check end j (parts (suc m) ws j end)
  inside n m j e h on =
      elim (which (ltb 0 (size_at ws j) && check j)) [
        | inl t ↦
            let positive : 0 < size_at ws j = ltb-true 0 (size_at ws j) (both_first (ltb 0 (size_at ws j)) (check j) t)
            in rw (parts_more m ws j end h positive)
            (more h positive (both_second (ltb 0 (size_at ws j)) (check j) t) refl
            (on positive (sym (one_step ws (λ k y. check k) (λ k y. y) (λ k y. eqb k end) end n j 0 true h t) ∙ e)))
        | inr t ↦
            let z : false ≡ true = sym (one_step ws (λ k y. check k) (λ k y. y) (λ k y. eqb k end) end n j 0 false h t) ∙ e
            in let w : ◌≡◌ {A = ℕ} 0 1 = cc in absurd (omega arith)
      ]

  -- a walk that passes, as the list of parts has it
  pub tiles : (n m j : ℕ) → end ≤ j + n → end ≤ j + m → walk n ws (λ k y. check k) (λ k y. y) (λ k y. eqb k end) end j 0 ≡ true → Tiles ws check end j (parts m ws j end)
  tiles zero m j enough room e = outside zero m j e (omega arith)
  tiles (suc n) zero j enough room e = outside (suc n) zero j e (omega arith)
  tiles (suc n) (suc m) j enough room e =
      elim (which (ltb j end)) [
        | inl t ↦ inside n m j e (ltb-true j end t) (λ positive w. tiles n m (j + size_at ws j) (omega arith) (omega arith) w)
        | inr t ↦ outside (suc n) (suc m) j e (ltb-false j end t)
      ]

-- ---- what tiles are: within, apart and without gaps

-- tile p, from j on, with all below it
pub record Within (ws : List ℕ) (check : ℕ → Bool) (end j p : ℕ) : Type 0 where
  pub after : j ≤ p
  pub sized : 0 < size_at ws p
  pub ends : p + size_at ws p ≤ end
  pub checked : check p ≡ true

-- the tile of these that k lies in
pub record Holds (ws : List ℕ) (js : List ℕ) (k : ℕ) : Type 0 where
  pub tile : ℕ
  pub listed : tile ∈ js
  pub begins : tile ≤ k
  pub ends : k < tile + size_at ws tile

-- two tiles are one, or one lies before the other
pub data Apart (ws : List ℕ) (p q : ℕ) : Type 0 where
  same : p ≡ q → Apart ws p q
  before : p + size_at ws p ≤ q → Apart ws p q
  behind : q + size_at ws q ≤ p → Apart ws p q

deeper : {ws : List ℕ} {k j : ℕ} {js : List ℕ} → Holds ws js k → Holds ws (j ∷ js) k
deeper w = record { tile = w.tile; listed = Memᴰ.tail w.listed; begins = w.begins; ends = w.ends }

module _ {ws : List ℕ} {check : ℕ → Bool} {end : ℕ} where
  pub tile_end : {j : ℕ} {js : List ℕ} → Tiles ws check end j js → j ≤ end
  tile_end (none e) = omega arith
  tile_end (more h positive c e rest) = omega arith

  later : {j k p : ℕ} → j ≤ k → Within ws check end k p → Within ws check end j p
  later h w = record { after = omega (arith, w.after); sized = w.sized; ends = w.ends; checked = w.checked }

  first : {j k p : ℕ} → p ≡ j → 0 < size_at ws j → check j ≡ true → k ≡ j + size_at ws j → k ≤ end → Within ws check end j p
  first {j} {k} {p} e positive c next h =
      let same_size : size_at ws p ≡ size_at ws j = ap (size_at ws) e
      in record { after = omega arith; sized = omega arith; ends = omega arith; checked = ap check e ∙ c }

  pub within : {j p : ℕ} {js : List ℕ} → Tiles ws check end j js → p ∈ js → Within ws check end j p
  within (none e) m = absurd (Memᴰ.not-nil m)
  within (more h positive c next rest) (Memᴰ.head e) = first e positive c next (tile_end rest)
  within (more h positive c next rest) (Memᴰ.tail m) = later (omega arith) (within rest m)

  pub apart : {j p q : ℕ} {js : List ℕ} → Tiles ws check end j js → p ∈ js → q ∈ js → Apart ws p q
  apart (none e) m n = absurd (Memᴰ.not-nil m)
  apart (more h positive c next rest) (Memᴰ.head e) (Memᴰ.head f) = same (e ∙ sym f)
  apart {p = p} (more {j} h positive c next rest) (Memᴰ.head e) (Memᴰ.tail n) =
      let same_size : size_at ws p ≡ size_at ws j = ap (size_at ws) e in before (omega (arith, (within rest n).after))
  apart {q = q} (more {j} h positive c next rest) (Memᴰ.tail m) (Memᴰ.head f) =
      let same_size : size_at ws q ≡ size_at ws j = ap (size_at ws) f in behind (omega (arith, (within rest m).after))
  apart (more h positive c next rest) (Memᴰ.tail m) (Memᴰ.tail n) = apart rest m n

  pub covered : {j : ℕ} {js : List ℕ} → Tiles ws check end j js → (k : ℕ) → j ≤ k → k < end → Holds ws js k
  covered (none e) k low high = absurd (omega arith)
  covered (more {j} h positive c next rest) k low high =
      elim (which (ltb k (j + size_at ws j))) [
        | inl t ↦ record { tile = j; listed = Memᴰ.head refl; begins = low; ends = ltb-true k (j + size_at ws j) t }
        | inr t ↦ let past : j + size_at ws j ≤ k = ltb-false k (j + size_at ws j) t in deeper (covered rest k (omega arith) high)
      ]
