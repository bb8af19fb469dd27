-- The walk over a construct's parts against the list of its parts: a walk that is not broken meets them all, or the one that is taken.
-- Assumes nothing.
use Prim.Native.Nat.{ℕ, zero, suc, ◌+◌, ◌≤◌, ◌<◌}
use native.Mathlib.Omega.{arith}
use borrow.Author.Tests.{lt-ltb, le-ltb, eq-eqb, ne_eqb, ltb-true, ltb-false, eqb-true, eqb-false}
use mathlib.Core.Path.{◌≡◌, refl, sym, ◌∙◌, ap}
use mathlib.Core.Logic.{inl, inr}
use mathlib.Core.Bool.{Bool, true, false}
use mathlib.Core.List.{List, [], ◌∷◌}
use mathlib.Core.Option.{Option, none, some}
use lib.Dec.{ltb, eqb}
use lib.ListN.{length}
use Rattle.basis.proofs.Booleans.{which}
use Rattle.theory.specs.Machine.{choose}
use Rattle.table_layout.specs.Held.{parts}
use Rattle.table_wellformed.specs.Checks.{size_at}
use Rattle.table_structure.proofs.Tiles.{parts_more, parts_none}
use Rattle.run_actions.specs.Acts.{walk}
use Rattle.run_actions.specs.declared.Act.{Act}
use Rattle.run_actions.proofs.Parts.{members_from, members_end, members_missing, members_next}
use Rattle.run_actions.proofs.Walks.{positive}

-- not broken
abbrev pub Definite : Act → Type 0
Definite a = a ≡ Act.Broken → ⊥

-- a missing part is the last
pub parts_last : (most : ℕ) (ws : List ℕ) (j end : ℕ) → j < end → size_at ws j ≡ 0 → parts (suc most) ws j end ≡ j ∷ []
unfolding parts
parts_last most ws j end l z = rw (lt-ltb j end l, eq-eqb (size_at ws j) 0 z, parts)

-- ---- the first part that a test takes

-- what a visit of part j does: it takes it where the test holds, goes on where it does not, or breaks
pub data Visit (j : ℕ) (holds : Bool) (visit : Act → Act) : Type 0 where
  takes : holds ≡ true → ((rest : Act) → visit rest ≡ Act.Enter j) → Visit j holds visit
  passes : holds ≡ false → ((rest : Act) → visit rest ≡ rest) → Visit j holds visit
  breaks : ((rest : Act) → visit rest ≡ Act.Broken) → Visit j holds visit

-- what is done with the part chosen, and otherwise
abbrev pub chosen_act : Act → Option ℕ → Act
chosen_act otherwise none = otherwise
chosen_act otherwise (some b) = Act.Enter b

module _ (ws : List ℕ) (end : ℕ) (otherwise : Act) (holds : ℕ → Bool) (visit : ℕ → Act → Act) (each : (j : ℕ) → Visit j (holds j) (visit j)) where
  abbrev found : ℕ → ℕ → Act
  found most j = walk visit otherwise Act.Broken most ws j end

  found_end : (n m j : ℕ) → end ≤ j → found n j ≡ chosen_act otherwise (choose holds (parts m ws j end))
  unfolding walk choose
  found_end zero m j l = rw (parts_none m ws j end l)
  found_end (suc n) m j l = rw (parts_none m ws j end l, le-ltb j end l, walk)

  found_missing : (n j : ℕ) → j < end → size_at ws j ≡ 0 → found (suc n) j ≡ visit j Act.Broken
  unfolding walk
  found_missing n j l z = rw (lt-ltb j end l, eq-eqb (size_at ws j) 0 z, walk)

  found_next : (n j : ℕ) → j < end → (size_at ws j ≡ 0 → ⊥) → found (suc n) j ≡ visit j (found n (j + size_at ws j))
  unfolding walk
  found_next n j l z = rw (lt-ltb j end l, ne_eqb (size_at ws j) 0 z, walk)

  -- at a part, whatever comes after it in the list
  visited : (j : ℕ) (rest : Act) (js : List ℕ) → Visit j (holds j) (visit j) → Definite (visit j rest) → (holds j ≡ false → Definite rest → rest ≡ chosen_act otherwise (choose holds js))
      → visit j rest ≡ chosen_act otherwise (choose holds (j ∷ js))
  unfolding choose
  visited j rest js (Visit.takes t e) s on = e rest ∙ rw (t, choose)
  visited j rest js (Visit.passes t e) s on = e rest ∙ (on t (λ b. s (e rest ∙ b)) ∙ rw (t, choose))
  visited j rest js (Visit.breaks e) s on = absurd (s (e rest))

  pub found_chosen : (n m j : ℕ) → end ≤ j + n → end ≤ j + m → Definite (found n j) → found n j ≡ chosen_act otherwise (choose holds (parts m ws j end))
  found_chosen zero m j l k s = found_end zero m j (omega arith)
  found_chosen (suc n) zero j l k s = found_end (suc n) zero j (omega arith)
  found_chosen (suc n) (suc m) j l k s =
      elim (which (ltb j end)) [
        | inr t ↦ found_end (suc n) (suc m) j (ltb-false j end t)
        | inl t ↦
            let h : j < end = ltb-true j end t in
            elim (which (eqb (size_at ws j) 0)) [
              | inl z ↦
                  let e = found_missing n j h (eqb-true (size_at ws j) 0 z) in
                  e ∙ (visited j Act.Broken [] (each j) (λ b. s (e ∙ b)) (λ f b. absurd (b refl)) ∙ ap (λ (js : List ℕ). chosen_act otherwise (choose holds js)) (sym (parts_last m ws j end h (eqb-true (size_at ws j) 0 z))))
              | inr z ↦
                  let y : size_at ws j ≡ 0 → ⊥ = eqb-false (size_at ws j) 0 z in
                  let q : 1 ≤ size_at ws j = positive (size_at ws j) y in
                  let e = found_next n j h y in
                  e
                  ∙ (visited j (found n (j + size_at ws j)) (parts m ws (j + size_at ws j) end) (each j) (λ b. s (e ∙ b)) (λ f b. found_chosen n m (j + size_at ws j) (omega arith) (omega arith) b)
                  ∙ ap (λ (js : List ℕ). chosen_act otherwise (choose holds js)) (sym (parts_more m ws j end h q)))
            ]
      ]

-- ---- all parts

-- from j up to `end` stand these parts, and none is missing
pub data Row (ws : List ℕ) (end : ℕ) : ℕ → List ℕ → Type 0 where
  past : {j : ℕ} → end ≤ j → Row ws end j []
  part : {j k : ℕ} {js : List ℕ} → j < end → (size_at ws j ≡ 0 → ⊥) → k ≡ j + size_at ws j → Row ws end k js → Row ws end j (j ∷ js)

pub row_parts : {ws : List ℕ} {end j : ℕ} {js : List ℕ} (m : ℕ) → Row ws end j js → end ≤ j + m → parts m ws j end ≡ js
row_parts {ws} {end} {j} m (Row.past l) h = parts_none m ws j end l
row_parts {ws} {end} {j} zero (Row.part l n e r) h = absurd (omega arith)
row_parts {ws} {end} {j} (suc m) (Row.part {k = k} {js = js} l n e r) h =
    let q : 1 ≤ size_at ws j = positive (size_at ws j) n in
    parts_more m ws j end l q ∙ ap (λ (xs : List ℕ). j ∷ xs) (ap (λ (x : ℕ). parts m ws x end) (sym e) ∙ row_parts m r (omega arith))

module _ (ws : List ℕ) (start end : ℕ) where
  abbrev Rowed : ℕ → ℕ → Type 0
  Rowed j n = (js : List ℕ) × Row ws end j js × (members_from ws end start j n ≡ Act.Members start end (n + length js))

  row_end : (j n : ℕ) → end ≤ j → Rowed j n
  row_end j n h = ([], Row.past h, members_end ws end start j n h ∙ ap (λ (x : ℕ). Act.Members start end x) (let z : n ≡ n + 0 = omega arith in z))

  row_next : (j n : ℕ) → j < end → (size_at ws j ≡ 0 → ⊥) → Rowed (j + size_at ws j) (n + 1) → Rowed j n
  row_next j n h y x =
      let e : members_from ws end start j n ≡ members_from ws end start (j + size_at ws j) (n + 1) = members_next ws end start j n h y in
      let z : n + 1 + length x.0 ≡ n + suc (length x.0) = omega arith in
      (j ∷ x.0, Row.part h y refl x.1, e ∙ (x.2 ∙ ap (λ (k : ℕ). Act.Members start end k) z))

  -- members that are counted are the parts
  pub row_of : (most j n : ℕ) → end ≤ j + most → Definite (members_from ws end start j n) → Rowed j n
  row_of zero j n l s = row_end j n (omega arith)
  row_of (suc most) j n l s =
      elim (which (ltb j end)) [
        | inr t ↦ row_end j n (ltb-false j end t)
        | inl t ↦
            let h : j < end = ltb-true j end t in
            elim (which (eqb (size_at ws j) 0)) [
              | inl z ↦ absurd (s (members_missing ws end start j n h (eqb-true (size_at ws j) 0 z)))
              | inr z ↦
                  let y : size_at ws j ≡ 0 → ⊥ = eqb-false (size_at ws j) 0 z in
                  let q : 1 ≤ size_at ws j = positive (size_at ws j) y in
                  row_next j n h y (row_of most (j + size_at ws j) (n + 1) (omega arith) (λ b. s (members_next ws end start j n h y ∙ b)))
            ]
      ]
