-- One step over reliable words: where the theory's next state has room and few enough passes, it is not broken, and that state is steady too.
-- Assumes nothing.
use Prim.Native.Nat.{ℕ, ◌+◌, ◌*◌, ◌-◌, ◌≤◌, ◌<◌}
use native.Mathlib.Omega.{arith}
use borrow.Author.Tests.{le-leb, lt-ltb, eq-eqb, ne_eqb}
use mathlib.Core.Path.{◌≡◌, sym, ◌∙◌, ap, ap₂}
use mathlib.Core.Logic.{inl, inr}
use mathlib.Core.Bool.{true}
use mathlib.Core.List.{List, [], ◌∷◌, ◌++◌}
use lib.IntN.{ℤ}
use lib.ListN.{length, get_or, length-append, length-map}
use Rattle.basis.specs.Limits.{max_entries}
use Rattle.theory.specs.Derivation.{Capture}
use Rattle.theory.specs.Machine.{entry, pending_of, captures_of, Passes, state_of, entries, stepped}
use Rattle.table_layout.specs.Held.{Context, first_context, parts, held, opening}
use Rattle.run_actions.specs.Stored.{tests_of}
use Rattle.run_actions.specs.Acts.{bits_of, act_of}
use Rattle.run_actions.specs.declared.Act.{Act}
use Rattle.run_steps.specs.Steps.{Whole, whole, verdict_after, effect, in_bound, step_of, Fits, broken}
use Rattle.run_steps.specs.declared.Head.{Head}
use Rattle.run_refinement.specs.Runs.{HeldEntry, HeldState, pending, recorded, state_held, run_of}
use Rattle.run_refinement.proofs.Pending.{pending_first, pending_length, recorded_length}
use Rattle.run_refinement.proofs.Walks.{row_parts}
use Rattle.run_refinement.proofs.Deciding.{Membered, done, Does, does}
use Rattle.run_refinement.proofs.Effects.{after}
use Rattle.run_refinement.proofs.Picks.{Unbroken}
use Rattle.run_refinement.proofs.Step.{stepped_does}
use Rattle.run_refinement.proofs.Verdicts.{after_few}
use Rattle.run_refinement.proofs.Reliable.{Reliable}
use Rattle.run_refinement.proofs.Safety.{Safe, safe_definite, InTable, act_safe}
use Rattle.run_refinement.proofs.Steady.{There, Steady, steady_after}

-- a step that is taken is not broken
verdict_unbroken : (fs : List ℕ) (n p : ℕ) → verdict_after fs n p ≡ broken → ⊥
verdict_unbroken fs n p e = omega (arith, after_few fs n p)

module _ (ws fs cs ps : List ℕ) (vs : List ℤ) (rs : List ℕ) (h : Head) where
  abbrev w : Whole
  w = whole cs ps vs rs h

  abbrev i : ℕ
  i = get_or cs (h.count - 1) 0

  abbrev k : ℕ
  k = get_or ps (h.count - 1) 0

  abbrev others : List HeldEntry
  others = pending cs ps (h.count - 1)

  abbrev rc : List Capture
  rc = recorded rs h.captures

  abbrev next : Act → HeldState
  next a = state_of (after (state_held fs w) h.steps (done ws fs vs h.position i k others rc a))

  -- where the theory's next state has room, so have the arrays
  effect_unbroken : (widest : List ℤ) → 0 < h.count → (a : Act) → Safe ws widest a → Membered ws a → Passes (pending_of (next a)) (bits_of fs + 1) → length (pending_of (next a)) ≤ max_entries → 2 * length (captures_of (next a)) ≤ length rs
      → Unbroken (effect ws fs i k cs ps vs rs h a)
  effect_unbroken widest m Act.Broken s x p room words = absurd s
  effect_unbroken widest m Act.Fail s x p room words = λ e. omega arith
  effect_unbroken widest m (Act.Enter b) s x p room words = verdict_unbroken fs h.count h.position
  effect_unbroken widest m (Act.Members start end n) s x p room words =
      let js : List ℕ = parts (end - start) ws start end in
      let e : js ≡ x.0 = row_parts (end - start) x.1 (omega arith) in
      let q : length (entries first_context js ++ others) ≡ length js + (h.count - 1) = length-append (entries first_context js) others ∙ ap₂ ◌+◌ (length-map js (λ j. entry j first_context 0)) (pending_length cs ps (h.count - 1)) in
      let y : length js ≡ n = ap length e ∙ sym x.2 in
      rw (le-leb (h.count + n) (max_entries + 1) (omega arith)) (verdict_unbroken fs (h.count - 1 + n) h.position)
  effect_unbroken widest m (Act.Again b) s x p room words =
      let q : length others ≡ h.count - 1 = pending_length cs ps (h.count - 1) in
      rw (lt-ltb h.count max_entries (omega arith), lt-ltb k (bits_of fs + 1) p.1.0) (verdict_unbroken fs (h.count + 1) h.position)
  effect_unbroken widest m Act.Leave s x p room words = verdict_unbroken fs (h.count - 1) h.position
  effect_unbroken widest m (Act.Take width binder n) s x p room words =
      let q : length (rc ++ (record { construct = i; first_bit = h.position } ∷ [])) ≡ h.captures + 1 = length-append rc (record { construct = i; first_bit = h.position } ∷ []) ∙ ap (◌+ 1) (recorded_length rs h.captures) in
      rw (le-leb (2 * h.captures + 2) (length rs) (omega arith)) (verdict_unbroken fs (h.count - 1) (h.position + width))

  abbrev act_of_lem : Act
  act_of_lem = act_of ws fs vs h.position i k

  step_is : h.verdict ≡ 0 → in_bound ws fs h.steps ≡ true → 0 < h.count → i ≤ opening → step_of ws fs w ≡ effect ws fs i k cs ps vs rs h act_of_lem
  unfolding step_of
  step_is e b m l = rw (eq-eqb h.verdict 0 e, b, ne_eqb h.count 0 (λ z. omega arith), le-leb i opening l)

  -- the theory's next state is steady, and where it has room the step is not broken
  module _ (widest : List ℤ) {weight rooms : Context → ℕ → ℕ} (r : Reliable ws widest weight rooms) (f : Fits fs w) (e : h.verdict ≡ 0) (st : Steady ws widest (run_of fs w)) where
    some_entry : 0 < h.count
    some_entry = let z : 0 < length (pending cs ps h.count) = st.some_entry (rw e) in omega (arith, pending_length cs ps h.count)

    table_entries : InTable ws i × There ws others
    table_entries = rw (pending_first cs ps h.count some_entry) at st.there

    small : InTable ws i → i ≤ opening
    small (inl z) = omega arith
    small (inr z) = omega (arith, r.laid.counts.constructs)

    safe : Safe ws widest act_of_lem
    safe = act_safe ws widest r fs vs st.inside h.position i k table_entries.0

    does_so : Does ws fs vs h.position i k others rc ((held ws).node i) act_of_lem
    does_so = does ws fs vs h.position i k others rc f.0 (safe_definite ws widest act_of_lem safe)

    stepped_so : stepped (held ws) (tests_of ws) (run_of fs w) ≡ after (state_held fs w) h.steps (done ws fs vs h.position i k others rc act_of_lem)
    stepped_so = stepped_does ws fs cs ps vs rs h f.0 e some_entry (safe_definite ws widest act_of_lem safe)

    pub step_steady : Steady ws widest (stepped (held ws) (tests_of ws) (run_of fs w))
    step_steady = rw stepped_so (steady_after ws widest fs vs h.position i k others rc (state_held fs w) h.steps act_of_lem table_entries.0 table_entries.1 st.inside st.there st.inside safe does_so.members)

    pub step_unbroken : in_bound ws fs h.steps ≡ true
        → Passes (pending_of (state_of (stepped (held ws) (tests_of ws) (run_of fs w)))) (bits_of fs + 1)
        → length (pending_of (state_of (stepped (held ws) (tests_of ws) (run_of fs w)))) ≤ max_entries
        → 2 * length (captures_of (state_of (stepped (held ws) (tests_of ws) (run_of fs w)))) ≤ length rs
        → Unbroken (step_of ws fs w)
    step_unbroken b p room words =
        rw (step_is e b some_entry (small table_entries.0))
        (effect_unbroken widest some_entry act_of_lem safe does_so.members (rw stepped_so at p) (rw stepped_so at room) (rw stepped_so at words))
