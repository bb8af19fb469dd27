-- A step keeps the fields filling the bits up to the position, over any words.
-- Assumes nothing.
use Prim.Native.Nat.{ℕ, zero, suc, ◌+◌, ◌*◌, ◌-◌, ◌≤◌, ◌<◌}
use native.Mathlib.Omega.{arith}
use native.Mathlib.Numerals.{add-one}
use borrow.Author.Tests.{le-ltb, le-leb, ne_eqb, leb-true, ltb-true, ltb-false, eqb-true, eqb-false}
use mathlib.Core.Path.{◌≡◌, refl, sym, ◌∙◌, ap, subst}
use mathlib.Core.Bool.{Bool, true, false, cond, ◌&&◌}
use mathlib.Core.Logic.{inl, inr}
use mathlib.Core.List.{List}
use lib.Dec.{leb, ltb, eqb}
use lib.IntN.{ℤ}
use lib.ListN.{length, get_or, set, length-set}
use lib.Seq.{get_or-set_same, get_or-set_other}
use Rattle.basis.specs.Limits.{max_entries, max_frame_bytes, table_words}
use Rattle.basis.proofs.Booleans.{which, either_way}
use Rattle.table_layout.specs.Places.{word}
use Rattle.table_layout.specs.Constructs.{construct_at}
use Rattle.run_actions.specs.Acts.{bits_of, act_of, Doable}
use Rattle.run_actions.specs.declared.Act.{Act}
use Rattle.run_actions.proofs.Doing.{doable}
use Rattle.run_steps.specs.Steps.{Whole, whole, break, bind, taken, take_done, effect, step_of, steps_of}
use Rattle.run_steps.specs.declared.Head.{Head}
use Rattle.run_steps.proofs.Running.{step_by}
use Rattle.run_fields.specs.Fields.{field_width, field_signed, field_value, field_at, field_of, number_of}
use Rattle.run_fields.specs.declared.Answer.{Answer}
use Rattle.run_readings.specs.Told.{Filled, no_field, one_more}
use Rattle.run_readings.proofs.Widths.{Wide, act_wide}

-- ts are the words that steps read, ws those that fields are told of
module _ (ts ws fs : List ℕ) (same : (i : ℕ) → construct_at ts i ≡ construct_at ws i) (long : table_words ≤ length ws) (short : length fs ≤ max_frame_bytes) where
  -- two words that name a field of w bits within the frame
  found : (rs : List ℕ) (k i p w : ℕ) → 2 * k + 2 ≤ length rs → word rs (2 * k) ≡ i → word rs (2 * k + 1) ≡ p → field_width (construct_at ws i) ≡ w → 1 ≤ w → p + w ≤ bits_of fs
      → field_of ws fs rs k ≡ Answer.Found i p w (field_value fs (field_signed (construct_at ws i)) p w)
  found rs k i p w there a b e some inside =
      simp (le-ltb max_frame_bytes (length fs) short, le-leb (2 * k + 2) (length rs) there, a, b, le-ltb (length ws) table_words long, e, ne_eqb w 0 (λ z. omega arith), le-leb (p + w) (8 * length fs) inside)

  -- only its two words matter, and how long the reading is
  local : (rs rs' : List ℕ) (k : ℕ) → length rs ≡ length rs' → word rs (2 * k) ≡ word rs' (2 * k) → word rs (2 * k + 1) ≡ word rs' (2 * k + 1) → field_of ws fs rs k ≡ field_of ws fs rs' k
  local rs rs' k l a b =
      λ t. cond (ltb max_frame_bytes (length fs)) Answer.LongFrame (cond (leb (2 * k + 2) (l t)) (field_at ws fs (a t) (b t)) Answer.NoWords)

  filled_local : (rs rs' : List ℕ) {n p : ℕ} → length rs ≡ length rs' → ((j : ℕ) → j < 2 * n → word rs j ≡ word rs' j) → Filled ws fs rs n p → Filled ws fs rs' n p
  filled_local rs rs' l a no_field = no_field
  filled_local rs rs' l a (one_more {n = n} {p = p} i w v f e some z) =
      one_more i w v (filled_local rs rs' l (λ j h. a j (omega arith)) f) (sym (local rs rs' n l (a (2 * n) (omega arith)) (a (2 * n + 1) (omega arith))) ∙ e) some z

  -- the fields of a run
  abbrev pub Filling : Whole → Type 0
  Filling (whole cs ps vs rs h) = Filled ws fs rs h.captures h.position

  module _ (cs ps : List ℕ) (vs : List ℤ) (rs : List ℕ) (h : Head) (f : Filling (whole cs ps vs rs h)) where
    take_filling : (i width binder : ℕ) (n : ℤ) → field_width (construct_at ts i) ≡ width → h.position + width ≤ bits_of fs → 1 ≤ width → Filling (take_done fs cs ps vs rs h i width binder n)
    take_filling i width binder n e inside some = by (leb (2 * h.captures + 2) (length rs)) (λ t. leb-true (2 * h.captures + 2) (length rs) t)
      where
        c : ℕ
        c = h.captures

        p : ℕ
        p = h.position

        rs₁ : List ℕ
        rs₁ = set rs (2 * c) i

        rs₂ : List ℕ
        rs₂ = set rs₁ (2 * c + 1) p

        kept : length rs ≡ length rs₂
        kept = sym (length-set rs₁ (2 * c + 1) p ∙ length-set rs (2 * c) i)

        by : (t : Bool) → (t ≡ true → 2 * c + 2 ≤ length rs)
            → Filling (cond t (whole cs ps (bind binder n vs) rs₂ (taken fs h (h.count - 1) (p + width) (c + 1))) (whole cs ps vs rs (break h)))
        by true room =
            let l : 2 * c + 2 ≤ length rs = room refl in
            let first : word rs₂ (2 * c) ≡ i = get_or-set_other rs₁ (2 * c + 1) (2 * c) p 0 (omega arith) ∙ get_or-set_same rs (2 * c) i 0 (omega arith) in
            let second : word rs₂ (2 * c + 1) ≡ p = get_or-set_same rs₁ (2 * c + 1) p 0 (let z = length-set rs (2 * c) i in omega arith) in
            let before : Filled ws fs rs₂ c p = filled_local rs rs₂ kept (λ j m. sym (get_or-set_other rs₁ (2 * c + 1) j p 0 (omega arith) ∙ get_or-set_other rs (2 * c) j i 0 (omega arith))) f in
            let told : field_of ws fs rs₂ c ≡ Answer.Found i p width (field_value fs (field_signed (construct_at ws i)) p width) =
            found rs₂ c i p width (let z = kept in omega arith) first second (let z = same i in subst (λ x. field_width x ≡ width) z e) some inside in
            subst (λ (m : ℕ). Filled ws fs rs₂ m (p + width)) (sym (add-one c)) (one_more i width (field_value fs (field_signed (construct_at ws i)) p width) before told some refl)
        by false room = f

    effect_filling : (i k : ℕ) (a : Act) → Doable ts fs h.position a → Wide (field_width (construct_at ts i)) a → Filling (effect ts fs i k cs ps vs rs h a)
    effect_filling i k Act.Broken d w = f
    effect_filling i k Act.Fail d w = f
    effect_filling i k (Act.Enter b) d w = f
    effect_filling i k (Act.Members start end n) d w = either_way Filling (leb (h.count + n) (max_entries + 1)) f f
    effect_filling i k (Act.Again b) d w = either_way Filling (ltb h.count max_entries && ltb k (bits_of fs + 1)) f f
    effect_filling i k Act.Leave d w = f
    effect_filling i k (Act.Take width binder n) d w = take_filling i width binder n w d.0 d.2

  step_filling : (x : Whole) → Filling x → Filling (step_of ts fs x)
  step_filling (whole cs ps vs rs h) f =
      let i : ℕ = get_or cs (h.count - 1) 0 in
      let k : ℕ = get_or ps (h.count - 1) 0 in
      step_by ts fs Filling cs ps vs rs h f f (λ some. effect_filling cs ps vs rs h f i k (act_of ts fs vs h.position i k) (doable ts fs vs h.position i k) (act_wide ts fs vs h.position i k))

  -- so many steps keep it
  pub steps_filling : (n : ℕ) (x : Whole) → Filling x → Filling (steps_of ts fs n x)
  unfolding steps_of
  steps_filling zero x f = f
  steps_filling (suc n) x f = steps_filling n (step_of ts fs x) (step_filling x f)

-- each of the fields that fill is found: the last, or one before it
pub each_told : (ws fs rs : List ℕ) {n p : ℕ} → Filled ws fs rs n p → (k : ℕ) → k < n → number_of (field_of ws fs rs k) ≡ 0
each_told ws fs rs no_field k h = absurd (omega arith)
each_told ws fs rs (one_more {n = n} {p = p} i w v f e some z) k h =
    elim (which (eqb k n)) [
      | inl t ↦ let s : k ≡ n = eqb-true k n t in ap (λ (m : ℕ). number_of (field_of ws fs rs m)) s ∙ ap number_of e
      | inr t ↦ each_told ws fs rs f k (let d = eqb-false k n t in below k n h d)
    ]
  where
    below : (a b : ℕ) → a < suc b → (a ≡ b → ⊥) → a < b
    below a b l d = elim (which (ltb a b)) [ inl t ↦ ltb-true a b t | inr t ↦ absurd (d (let m = ltb-false a b t in omega arith)) ]
