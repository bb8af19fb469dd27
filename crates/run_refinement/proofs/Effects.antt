-- What an act does to the arrays of a run is what the theory's step makes of its state, where it is not broken.
-- Assumes nothing.
use Prim.Native.Nat.{ℕ, zero, suc, ◌+◌, ◌*◌, ◌-◌, ◌≤◌, ◌<◌}
use native.Mathlib.Omega.{arith}
use native.Mathlib.Numerals.{add-one}
use borrow.Author.Tests.{leb-true, ltb-true, eq-eqb, ne_eqb}
use mathlib.Core.Path.{◌≡◌, refl, sym, ◌∙◌, ap, ap₂}
use mathlib.Core.Bool.{true, cond, ◌&&◌}
use mathlib.Core.List.{List, [], ◌∷◌, ◌++◌}
use mathlib.Core.Option.{Option, none, some}
use lib.Dec.{leb, ltb, eqb}
use lib.IntN.{ℤ}
use lib.ListN.{length, get_or, set, drop, length-drop, length-set}
use lib.Seq.{drop-drop, get_or-set_same}
use Rattle.basis.specs.Limits.{max_entries}
use Rattle.basis.specs.Bits.{Bits, frame_bits}
use Rattle.basis.proofs.Frames.{frame_length}
use Rattle.basis.proofs.Booleans.{both_true}
use Rattle.theory.specs.Derivation.{Capture}
use Rattle.theory.specs.Machine.{entry, state, Verdict, unmatched, verdict, run, entries}
use Rattle.table_layout.specs.Held.{Context, first_context, Values, parts, bound}
use Rattle.run_actions.specs.Acts.{bits_of, Doable}
use Rattle.run_actions.specs.declared.Act.{Act}
use Rattle.run_steps.specs.Steps.{Whole, whole, break, verdict_after, taken, placed, bind, members_done, again_done, take_done, effect, Fits}
use Rattle.run_steps.specs.declared.Head.{Head}
use Rattle.run_refinement.specs.Runs.{HeldEntry, HeldState, HeldRun, pending, recorded, verdict_as, state_held, run_of}
use Rattle.run_refinement.proofs.Picks.{Unbroken, first_kept}
use Rattle.run_refinement.proofs.Pending.{alike_set, pending_alike, pending_first, pending_top, recorded_more}
use Rattle.run_refinement.proofs.Walks.{row_parts}
use Rattle.run_refinement.proofs.Placing.{construct_put, passes_put, placed_pending}
use Rattle.run_refinement.proofs.Deciding.{Membered, done}

-- the verdict after a step
verdict_rest : (fs : List ℕ) (p : ℕ) (vs : List ℤ) (rc : List Capture) (s : Bits) → drop p (frame_bits fs) ≡ s → p ≤ bits_of fs
    → verdict_as (cond (eqb p (bits_of fs)) 1 2) ≡ verdict {Context = Context} {Values = Values} (state [] s p vs rc)
unfolding verdict
verdict_rest fs p vs rc s e l = by s (sym (ap length e) ∙ (length-drop p (frame_bits fs) ∙ ap (◌- p) (frame_length fs)))
  where
    by : (s : Bits) → length s ≡ bits_of fs - p → verdict_as (cond (eqb p (bits_of fs)) 1 2) ≡ verdict {Context = Context} {Values = Values} (state [] s p vs rc)
    by [] m = rw (eq-eqb p (bits_of fs) (omega arith))
    by (b ∷ s) m = rw (ne_eqb p (bits_of fs) (λ z. omega arith))

verdict_agrees : (fs cs ps : List ℕ) (n p : ℕ) (vs : List ℤ) (rc : List Capture) → p ≤ bits_of fs
    → verdict_as (verdict_after fs n p) ≡ verdict (state (pending cs ps n) (drop p (frame_bits fs)) p vs rc)
unfolding verdict pending
verdict_agrees fs cs ps zero p vs rc l = verdict_rest fs p vs rc (drop p (frame_bits fs)) refl l
verdict_agrees fs cs ps (suc n) p vs rc l = rw (ne_eqb (suc n) 0 (λ z. omega arith))

-- the run after a step that leads to a state, or that fails
abbrev pub after : HeldState → ℕ → Option HeldState → HeldRun
after σ n none = run σ (suc n) unmatched
after σ n (some τ) = run τ (suc n) (verdict τ)

bind_bound : (b : ℕ) (n : ℤ) (vs : List ℤ) → bind b n vs ≡ bound b vs n
bind_bound zero n vs = refl
bind_bound (suc x) n vs = refl

module _ (ws fs cs ps : List ℕ) (vs : List ℤ) (rs : List ℕ) (h : Head) (f : Fits fs (whole cs ps vs rs h)) (some_entry : 0 < h.count) where
  abbrev n : ℕ
  n = h.count

  abbrev others : List HeldEntry
  others = pending cs ps (n - 1)

  abbrev i : ℕ
  i = get_or cs (n - 1) 0

  abbrev k : ℕ
  k = get_or ps (n - 1) 0

  abbrev σ : HeldState
  σ = state_held fs (whole cs ps vs rs h)

  abbrev act_done : Act → Option HeldState
  act_done = done ws fs vs h.position i k others (recorded rs h.captures)

  -- a step taken leads to its state
  went : (cs' ps' : List ℕ) (vs' : List ℤ) (rs' : List ℕ) (m q c : ℕ) (es : List HeldEntry) (rc : List Capture) → q ≤ bits_of fs → pending cs' ps' m ≡ es → recorded rs' c ≡ rc
      → run_of fs (whole cs' ps' vs' rs' (taken fs h m q c)) ≡ after σ h.steps (some (state es (drop q (frame_bits fs)) q vs' rc))
  went cs' ps' vs' rs' m q c es rc l e r =
      let τ : HeldState = state (pending cs' ps' m) (drop q (frame_bits fs)) q vs' (recorded rs' c) in
      ap₂ (λ (x : ℕ) (d : Verdict). run τ x d) (add-one h.steps) (verdict_agrees fs cs' ps' m q vs' (recorded rs' c) l)
      ∙ ap₂ (λ (x : List HeldEntry) (y : List Capture). after σ h.steps (some (state x (drop q (frame_bits fs)) q vs' y))) e r

  does_enter : (b : ℕ) → run_of fs (effect ws fs i k cs ps vs rs h (Act.Enter b)) ≡ after σ h.steps (act_done (Act.Enter b))
  does_enter b =
      let z : n ≡ suc (n - 1) = omega arith in
      let lc : n - 1 < length cs = omega (arith, f.1, f.3) in
      let lp : n - 1 < length ps = omega (arith, f.1, f.4) in
      went (set cs (n - 1) b) (set ps (n - 1) 0) vs rs n h.position h.captures (entry b first_context 0 ∷ others) (recorded rs h.captures) f.0
      (ap (pending (set cs (n - 1) b) (set ps (n - 1) 0)) z ∙ pending_top cs ps (n - 1) b 0 lc lp) refl

  does_leave : run_of fs (effect ws fs i k cs ps vs rs h Act.Leave) ≡ after σ h.steps (act_done Act.Leave)
  does_leave = went cs ps vs rs (n - 1) h.position h.captures others (recorded rs h.captures) f.0 refl refl

  does_members : (start end m : ℕ) → Membered ws (Act.Members start end m) → Unbroken (members_done ws fs cs ps vs rs h start end m)
      → run_of fs (members_done ws fs cs ps vs rs h start end m) ≡ after σ h.steps (act_done (Act.Members start end m))
  does_members start end m x u =
      let js : List ℕ = x.0 in
      let at : ℕ = n - 1 + m in
      let e : m ≡ length js = x.2 in
      let there : Whole = whole (placed construct_put ws start end at cs) (placed passes_put ws start end at ps) vs rs (taken fs h at h.position h.captures) in
      let t : leb (n + m) (max_entries + 1) ≡ true = first_kept (leb (n + m) (max_entries + 1)) there (whole cs ps vs rs (break h)) refl u in
      let l : n + m ≤ (max_entries + 1) = leb-true (n + m) (max_entries + 1) t in
      let lc : n - 1 + length js ≤ length cs = omega (arith, f.3) in
      let lp : n - 1 + length js ≤ length ps = omega (arith, f.4) in
      let q : parts (end - start) ws start end ≡ js = row_parts (end - start) x.1 (omega arith) in
      rw t
      (went (placed construct_put ws start end at cs) (placed passes_put ws start end at ps) vs rs at h.position h.captures (entries first_context (parts (end - start) ws start end) ++ others) (recorded rs h.captures) f.0
      (ap (λ (y : ℕ). pending (placed construct_put ws start end (n - 1 + y) cs) (placed passes_put ws start end (n - 1 + y) ps) (n - 1 + y)) e
      ∙ (placed_pending x.1 (n - 1) cs ps lc lp ∙ ap (λ (y : List ℕ). entries first_context y ++ others) (sym q)))
      refl)

  does_again : (b : ℕ) → Unbroken (again_done fs cs ps vs rs h k b) → run_of fs (again_done fs cs ps vs rs h k b) ≡ after σ h.steps (act_done (Act.Again b))
  does_again b u =
      let ps' : List ℕ = set ps (n - 1) (k + 1) in
      let there : Whole = whole (set cs n b) (set ps' n 0) vs rs (taken fs h (n + 1) h.position h.captures) in
      let t : (ltb n max_entries && ltb k (bits_of fs + 1)) ≡ true = first_kept (ltb n max_entries && ltb k (bits_of fs + 1)) there (whole cs ps vs rs (break h)) refl u in
      let l : n < max_entries = ltb-true n max_entries (both_true (ltb n max_entries) (ltb k (bits_of fs + 1)) t).0 in
      let ep : length ps' ≡ length ps = length-set ps (n - 1) (k + 1) in
      let lc : n < length cs = omega (arith, f.3) in
      let lp : n < length ps' = omega (arith, f.4) in
      rw t
      (went (set cs n b) (set ps' n 0) vs rs (n + 1) h.position h.captures (entry b first_context 0 ∷ entry i first_context (suc k) ∷ others) (recorded rs h.captures) f.0
      (ap (pending (set cs n b) (set ps' n 0)) (add-one n) ∙ (pending_top cs ps' n b 0 lc lp ∙ ap (λ (es : List HeldEntry). entry b first_context 0 ∷ es) passed))
      refl)
    where
      -- the repetition itself, one pass more
      passed : pending cs (set ps (n - 1) (k + 1)) n ≡ entry i first_context (suc k) ∷ others
      passed =
          pending_first cs (set ps (n - 1) (k + 1)) n some_entry
          ∙ ap₂ (λ (x : ℕ) (es : List HeldEntry). entry i first_context x ∷ es) (get_or-set_same ps (n - 1) (k + 1) 0 (omega (arith, f.1, f.4)) ∙ add-one k)
          (pending_alike (n - 1) cs cs (set ps (n - 1) (k + 1)) ps (λ j l. refl) (alike_set (n - 1) ps (n - 1) (k + 1) (omega arith)))

  does_take : (width binder : ℕ) (v : ℤ) → h.position + width ≤ bits_of fs → Unbroken (take_done fs cs ps vs rs h i width binder v)
      → run_of fs (take_done fs cs ps vs rs h i width binder v) ≡ after σ h.steps (act_done (Act.Take width binder v))
  does_take width binder v w u =
      let c : ℕ = h.captures in
      let rs' : List ℕ = set (set rs (2 * c) i) (2 * c + 1) h.position in
      let there : Whole = whole cs ps (bind binder v vs) rs' (taken fs h (n - 1) (h.position + width) (c + 1)) in
      let t : leb (2 * c + 2) (length rs) ≡ true = first_kept (leb (2 * c + 2) (length rs)) there (whole cs ps vs rs (break h)) refl u in
      rw t
      (went cs ps (bind binder v vs) rs' (n - 1) (h.position + width) (c + 1) others (recorded rs c ++ (record { construct = i; first_bit = h.position } ∷ [])) w refl
      (ap (recorded rs') (add-one c) ∙ recorded_more rs c i h.position (leb-true (2 * c + 2) (length rs) t))
      ∙ ap₂ (λ (s : Bits) (x : List ℤ). after σ h.steps (some (state others s (h.position + width) x (recorded rs c ++ (record { construct = i; first_bit = h.position } ∷ [])))))
      (sym (drop-drop width h.position (frame_bits fs))) (bind_bound binder v vs))

  -- any act that is not broken
  pub does_effect : (a : Act) → Doable ws fs h.position a → Membered ws a → Unbroken (effect ws fs i k cs ps vs rs h a)
      → run_of fs (effect ws fs i k cs ps vs rs h a) ≡ after σ h.steps (act_done a)
  does_effect Act.Broken d m u = absurd (u refl)
  does_effect Act.Fail d m u = ap (λ (x : ℕ). run σ x unmatched) (add-one h.steps)
  does_effect (Act.Enter b) d m u = does_enter b
  does_effect (Act.Members start end x) d m u = does_members start end x m u
  does_effect (Act.Again b) d m u = does_again b u
  does_effect Act.Leave d m u = does_leave
  does_effect (Act.Take width binder v) d m u = does_take width binder v d.0 u
