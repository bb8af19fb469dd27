-- Steps keep the entries that 24 asks for: what a step puts on the list is in the table and counts no more passes than it may.
-- Assumes nothing.
use Prim.Native.Nat.{ℕ, zero, suc, ◌+◌, ◌*◌, ◌-◌, ◌≤◌, ◌<◌}
use native.Mathlib.Omega.{arith}
use native.Mathlib.Decide.{dec_lt, ℕ_discrete}
use borrow.Author.Tests.{leb-true, ltb-true, le-leb, lt-ltb, ne_eqb}
use mathlib.Core.Path.{◌≡◌, refl, sym, ap, subst, ◌∙◌}
use mathlib.Core.Logic.{inl, inr}
use mathlib.Core.Bool.{true, cond, ◌&&◌}
use mathlib.Core.List.{List}
use lib.Dec.{leb, ltb, eqb}
use lib.IntN.{ℤ}
use lib.ListN.{length, get_or, set, length-set}
use lib.Seq.{get_or-set_same, get_or-set_other}
use Rattle.basis.specs.Limits.{max_constructs, max_entries}
use Rattle.basis.proofs.Booleans.{both_true, which, picked_true}
use Rattle.table_layout.specs.Places.{construct_count}
use Rattle.table_layout.specs.Constructs.{construct_at}
use Rattle.table_layout.specs.Held.{size_of, opening}
use Rattle.run_actions.specs.Acts.{in_table, bits_of, walk, act_of, part_count, Doable}
use Rattle.run_actions.specs.declared.Act.{Act}
use Rattle.run_actions.proofs.Doing.{doable}
use Rattle.run_steps.specs.Steps.{Whole, whole, break, taken, put, placed, members_done, again_done, bind, effect, step_of, steps_of, Fits}
use Rattle.run_steps.specs.declared.Head.{Head}
use Rattle.run_steps.proofs.Running.{step_by, step_fits}
use Rattle.run_grants.specs.Runs.{entries_fit}

-- a property of the first words of a list
module _ (Q : ℕ → Type 0) where
  abbrev pub Below : ℕ → List ℕ → Type 0
  Below n xs = (q : ℕ) → q < n → Q (get_or xs q 0)

  last_below : (n : ℕ) (xs : List ℕ) → Q (get_or xs n 0) → Below n xs → Below (suc n) xs
  last_below n xs z h q l = elim (ℕ_discrete q n) [ yes e ↦ subst (λ (x : ℕ). Q (get_or xs x 0)) (sym e) z | no e ↦ h q (omega arith) ]

  -- a word is stored that has it, and at any other place it is there
  stored_at : (xs : List ℕ) (m v q : ℕ) → Q v → m < length xs → ((q ≡ m → ⊥) → Q (get_or xs q 0)) → Q (get_or (set xs m v) q 0)
  stored_at xs m v q z l h =
      elim (ℕ_discrete q m) [
        | yes e ↦ subst Q (sym (ap (λ (x : ℕ). get_or (set xs m v) x 0) e ∙ get_or-set_same xs m v 0 l)) z
        | no e ↦ subst Q (sym (get_or-set_other xs m q v 0 e)) (h e)
      ]

  -- the first entry is another one; one more is put before it
  pub first_stored : (n v : ℕ) (xs : List ℕ) → Q v → n ≤ length xs → Below n xs → Below n (set xs (n - 1) v)
  first_stored n v xs z l h q k = stored_at xs (n - 1) v q z (omega arith) (λ e. h q k)

  pub one_more : (n v : ℕ) (xs : List ℕ) → Q v → n < length xs → Below n xs → Below (n + 1) (set xs n v)
  one_more n v xs z l h q k = stored_at xs n v q z l (λ e. h q (omega arith))

  -- members are put from place k down to place `base`; what stands below that, and from k up to `top`, has it
  module _ (what : ℕ → ℕ) (ws : List ℕ) (end base top : ℕ) (every : (j : ℕ) → j < end → Q (what j)) where
    abbrev size : ℕ → ℕ
    size j = size_of (construct_at ws j)

    abbrev parts_from : ℕ → ℕ → ℕ
    parts_from most j = walk (λ i rest. rest + 1) 0 0 most ws j end

    abbrev put_from : ℕ → ℕ → ℕ → List ℕ → List ℕ
    put_from most j = walk {A = ℕ → List ℕ → List ℕ} (put what) (λ k ys. ys) (λ k ys. ys) most ws j end

    abbrev Around : ℕ → List ℕ → Type 0
    Around k xs = (q : ℕ) → q < top → (base ≤ q → k ≤ q) → Q (get_or xs q 0)

    around : (j k : ℕ) (xs : List ℕ) → j < end → base < k → k ≤ length xs → Around k xs → Around (k - 1) (set xs (k - 1) (what j))
    around j k xs l some room h q t f = stored_at xs (k - 1) (what j) q (every j l) (omega arith) (λ e. h q t (λ b. let z : k - 1 ≤ q = f b in omega arith))

    put_below : (most j k : ℕ) (xs : List ℕ) → k ≡ base + parts_from most j → k ≤ length xs → Around k xs → Below top (put_from most j k xs)
    unfolding walk
    put_below zero j k xs e room h = λ q l. h q l (λ b. omega arith)
    put_below (suc most) j k xs e room h =
        elim (which (ltb j end)) [
          | inl t ↦
              elim (which (eqb (size j) 0)) [
                | inl z ↦
                    let n : k ≡ base + (0 + 1) = rw (t, z, walk) at e in
                    rw (t, z, ne_eqb k 0 (λ y. omega arith), walk) (λ q l. around j k xs (ltb-true j end t) (omega arith) room h q l (λ b. omega arith))
                | inr z ↦
                    let n : k ≡ base + (parts_from most (j + size j) + 1) = rw (t, z, walk) at e in
                    let same : length (set xs (k - 1) (what j)) ≡ length xs = length-set xs (k - 1) (what j) in
                    rw (t, z, ne_eqb k 0 (λ y. omega arith), walk)
                    (put_below most (j + size j) (k - 1) (set xs (k - 1) (what j)) (omega arith) (omega arith) (around j k xs (ltb-true j end t) (omega arith) room h))
              ]
          | inr t ↦
              let n : k ≡ base + 0 = rw (t, walk) at e in
              rw (t, walk) (λ q l. h q l (λ b. omega arith))
        ]

    pub placed_below : (start : ℕ) (xs : List ℕ) → top ≡ base + parts_from (end - start) start → top ≤ length xs → Below base xs → Below top (placed what ws start end top xs)
    unfolding placed
    placed_below start xs e room h = put_below (end - start) start top xs e room (λ q l f. elim (dec_lt q base) [ yes b ↦ h q b | no b ↦ (let z : top ≤ q = f (omega arith) in absurd (omega arith)) ])

-- "an entry isn't in the table or counts more passes than the frame's bits and one": neither
abbrev pub Known : List ℕ → ℕ → Type 0
Known ws i = cond (eqb i opening) true (in_table ws i) ≡ true

abbrev pub Few : List ℕ → ℕ → Type 0
Few fs k = k ≤ bits_of fs + 1

module _ (ws fs : List ℕ) where
  known : (b : ℕ) → b < max_constructs → b < construct_count ws → Known ws b
  known b l c = rw (ne_eqb b opening (λ e. omega arith), lt-ltb b max_constructs l, lt-ltb b (construct_count ws) c) refl

  abbrev pub Entries : Whole → Type 0
  Entries (whole cs ps vs rs h) = Below (Known ws) h.count cs × Below (Few fs) h.count ps

  -- all entries fit where each construct and each count of passes does
  pub entries_all : (cs ps : List ℕ) (n : ℕ) → Below (Known ws) n cs → Below (Few fs) n ps → entries_fit ws (bits_of fs) cs ps n ≡ true
  unfolding entries_fit
  entries_all cs ps zero a b = refl
  entries_all cs ps (suc n) a b =
      simp (le-leb (get_or ps n 0) (bits_of fs + 1) (b n (omega arith)), a n (omega arith)) (entries_all cs ps n (λ q l. a q (omega arith)) (λ q l. b q (omega arith)))

  pub entries_each : (cs ps : List ℕ) (n : ℕ) → entries_fit ws (bits_of fs) cs ps n ≡ true → Below (Known ws) n cs × Below (Few fs) n ps
  unfolding entries_fit
  entries_each cs ps zero e = ((λ q l. absurd (omega arith)), (λ q l. absurd (omega arith)))
  entries_each cs ps (suc n) e =
      let i : ℕ = get_or cs n 0 in
      let k : ℕ = get_or ps n 0 in
      let x = both_true (leb k (bits_of fs + 1) && cond (eqb i opening) true (in_table ws i)) (entries_fit ws (bits_of fs) cs ps n) e in
      let y = both_true (leb k (bits_of fs + 1)) (cond (eqb i opening) true (in_table ws i)) x.0 in
      let z = entries_each cs ps n x.1 in
      (last_below (Known ws) n cs y.1 z.0, last_below (Few fs) n ps (leb-true k (bits_of fs + 1) y.0) z.1)

  module _ (cs ps : List ℕ) (vs : List ℤ) (rs : List ℕ) (h : Head) (f : Fits fs (whole cs ps vs rs h)) (g : Entries (whole cs ps vs rs h)) (some : 0 < h.count) where
    -- those after the first entry
    after_first : Entries (whole cs ps vs rs (taken fs h (h.count - 1) h.position h.captures))
    after_first = ((λ q l. g.0 q (omega arith)), (λ q l. g.1 q (omega arith)))

    constructs_long : h.count ≤ length cs
    constructs_long = omega (arith, f.1, f.3)

    passes_long : h.count ≤ length ps
    passes_long = omega (arith, f.1, f.4)

    members_entries : (start end n : ℕ) → Doable ws fs h.position (Act.Members start end n) → Entries (members_done ws fs cs ps vs rs h start end n)
    members_entries start end n d =
        let at : ℕ = h.count - 1 + n in
        picked_true Entries (leb (h.count + n) (max_entries + 1))
        (whole (placed (λ j. j) ws start end at cs) (placed (λ j. 0) ws start end at ps) vs rs (taken fs h at h.position h.captures))
        (whole cs ps vs rs (break h))
        (λ e.
        let l : h.count + n ≤ (max_entries + 1) = leb-true (h.count + n) (max_entries + 1) e in
        let m : at ≡ h.count - 1 + part_count ws start end = ap (λ (k : ℕ). h.count - 1 + k) d.3 in
        let c : (j : ℕ) → j < end → Known ws j = λ j b. known j (omega (arith, d.0)) (omega (arith, d.2)) in (
          placed_below (Known ws) (λ j. j) ws end (h.count - 1) at c start cs m (omega (arith, f.3)) after_first.0,
          placed_below (Few fs) (λ j. 0) ws end (h.count - 1) at (λ j b. omega arith) start ps m (omega (arith, f.4)) after_first.1,
        ))
        g

    again_entries : (b : ℕ) → Known ws b → Entries (again_done fs cs ps vs rs h (get_or ps (h.count - 1) 0) b)
    again_entries b z =
        let k : ℕ = get_or ps (h.count - 1) 0 in
        let ps' : List ℕ = set ps (h.count - 1) (k + 1) in
        picked_true Entries (ltb h.count max_entries && ltb k (bits_of fs + 1))
        (whole (set cs h.count b) (set ps' h.count 0) vs rs (taken fs h (h.count + 1) h.position h.captures))
        (whole cs ps vs rs (break h))
        (λ e.
        let t = both_true (ltb h.count max_entries) (ltb k (bits_of fs + 1)) e in
        let l : h.count < max_entries = ltb-true h.count max_entries t.0 in
        let m : k < bits_of fs + 1 = ltb-true k (bits_of fs + 1) t.1 in
        let same : length ps' ≡ length ps = length-set ps (h.count - 1) (k + 1) in (
          one_more (Known ws) h.count b cs z (omega (arith, f.3)) g.0,
          one_more (Few fs) h.count 0 ps' (omega arith) (omega (arith, f.4)) (first_stored (Few fs) h.count (k + 1) ps (omega arith) passes_long g.1),
        ))
        g

    effect_entries : (a : Act) → Doable ws fs h.position a → Entries (effect ws fs (get_or cs (h.count - 1) 0) (get_or ps (h.count - 1) 0) cs ps vs rs h a)
    effect_entries Act.Broken d = g
    effect_entries Act.Fail d = g
    effect_entries (Act.Enter b) d = (first_stored (Known ws) h.count b cs (known b d.0 d.1) constructs_long g.0, first_stored (Few fs) h.count 0 ps (omega arith) passes_long g.1)
    effect_entries (Act.Members start end n) d = members_entries start end n d
    effect_entries (Act.Again b) d = again_entries b (known b d.0 d.1)
    effect_entries Act.Leave d = after_first
    effect_entries (Act.Take width binder n) d =
        let c : ℕ = h.captures in
        let i : ℕ = get_or cs (h.count - 1) 0 in
        picked_true Entries (leb (2 * c + 2) (length rs))
        (whole cs ps (bind binder n vs) (set (set rs (2 * c) i) (2 * c + 1) h.position) (taken fs h (h.count - 1) (h.position + width) (c + 1)))
        (whole cs ps vs rs (break h)) (λ e. after_first) g

  step_entries : (w : Whole) → Fits fs w → Entries w → Entries (step_of ws fs w)
  step_entries (whole cs ps vs rs h) f g =
      let i : ℕ = get_or cs (h.count - 1) 0 in
      let k : ℕ = get_or ps (h.count - 1) 0 in
      step_by ws fs Entries cs ps vs rs h g g (λ some. effect_entries cs ps vs rs h f g some (act_of ws fs vs h.position i k) (doable ws fs vs h.position i k))

  pub steps_entries : (n : ℕ) (w : Whole) → Fits fs w → Entries w → Entries (steps_of ws fs n w)
  unfolding steps_of
  steps_entries zero w f g = g
  steps_entries (suc n) w f g = steps_entries n (step_of ws fs w) (step_fits ws fs w f) (step_entries w f g)
