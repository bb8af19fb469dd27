-- What every run from an opening keeps, as the theory has it: its entries are in the table, its values within their sizes, and while it is
-- undecided it has an entry.
-- Assumes nothing.
use Prim.Native.Nat.{ℕ, zero, suc, ◌-◌, ◌≤◌, ◌<◌}
use native.Mathlib.Omega.{arith}
use borrow.Author.Tests.{eqb-true, eqb-false}
use mathlib.Core.Path.{◌≡◌, refl, ◌∙◌}
use mathlib.Core.Logic.{inl, inr}
use mathlib.Core.List.{List, [], ◌∷◌, ◌++◌}
use mathlib.Core.Option.{some}
use lib.Dec.{eqb}
use lib.IntN.{ℤ, pos}
use lib.ListN.{length, get_or, set, length-set}
use lib.Seq.{get_or-set_same, get_or-set_other}
use Rattle.basis.specs.Bits.{Bits}
use Rattle.basis.proofs.Booleans.{which}
use Rattle.theory.specs.Derivation.{Capture}
use Rattle.theory.specs.Machine.{entry, state, pending_of, undecided, verdict, verdict_of, state_of, entries, open_state, opened}
use Rattle.term_sizes.specs.Inside.{Below, Inside}
use Rattle.table_layout.specs.Places.{construct_count}
use Rattle.table_layout.specs.Held.{Context, first_context, Values, parts, bound, held}
use Rattle.run_actions.specs.Stored.{tests_of}
use Rattle.run_actions.specs.declared.Act.{Act}
use Rattle.run_refinement.specs.Runs.{HeldEntry, HeldState, HeldRun}
use Rattle.run_refinement.proofs.Walks.{Row, row_parts}
use Rattle.run_refinement.proofs.Deciding.{Membered, done}
use Rattle.run_refinement.proofs.Effects.{after}
use Rattle.run_refinement.proofs.Reliable.{Reliable, zero_inside}
use Rattle.run_refinement.proofs.Safety.{Binds, Safe, InTable}

abbrev pub state_values : HeldState → Values
state_values (state es s p v cs) = v

-- every entry is in the table
abbrev pub There : List ℕ → List HeldEntry → Type 0
There ws [] = Unit {0}
There ws (entry i c k ∷ es) = InTable ws i × There ws es

pub record Steady (ws : List ℕ) (widest : List ℤ) (r : HeldRun) : Type 0 where
  pub there : There ws (pending_of (state_of r))
  pub inside : Inside (state_values (state_of r)) widest
  pub some_entry : verdict_of r ≡ undecided → 0 < length (pending_of (state_of r))

-- members of a construct whose end is in the table
there_members : {ws : List ℕ} {end j : ℕ} {js : List ℕ} → Row ws end j js → end ≤ construct_count ws → (es : List HeldEntry) → There ws es → There ws (entries first_context js ++ es)
there_members (Row.past l) h es t = t
there_members (Row.part l z e r) h es t = (inr (omega arith), there_members r h es t)

-- a value that is bound is within its size
bound_inside : (widest vs : List ℤ) (binder : ℕ) (n : ℤ) → Inside vs widest → Binds widest binder n → Inside (bound binder vs n) widest
bound_inside widest vs zero n h b = h
bound_inside widest vs (suc x) n h b =
    record {
      same = length-set vs x n ∙ h.same;
      each = λ k l. elim (which (eqb k x)) [ inl t ↦ own k l (eqb-true k x t) | inr t ↦ rw (get_or-set_other vs x k n (pos 0) (eqb-false k x t)) (h.each k l) ];
    }
  where
    here : x < length vs → Below (get_or (set vs x n) x (pos 0)) (get_or widest x (pos 0))
    here l = rw (get_or-set_same vs x n (pos 0) l) record { size = b.0; is = b.1; le = b.2 }

    own : (k : ℕ) → k < length widest → k ≡ x → Below (get_or (set vs x n) k (pos 0)) (get_or widest k (pos 0))
    own k l e = rw e (here (let z : x < length vs = omega (arith, h.same) in z))

-- a state whose list is empty is decided
undecided_entry : (τ : HeldState) → verdict τ ≡ undecided → 0 < length (pending_of τ)
unfolding verdict
undecided_entry (state [] [] p v cs) e = let z : ◌≡◌ {A = ℕ} 0 1 = cc in absurd (omega arith)
undecided_entry (state [] (b ∷ s) p v cs) e = let z : ◌≡◌ {A = ℕ} 0 1 = cc in absurd (omega arith)
undecided_entry (state (x ∷ es) s p v cs) e = omega arith

module _ (ws : List ℕ) (widest : List ℤ) where
  went : (σ τ : HeldState) (n : ℕ) → There ws (pending_of τ) → Inside (state_values τ) widest → Steady ws widest (after σ n (some τ))
  went σ τ n t v = record { there = t; inside = v; some_entry = undecided_entry τ }

  -- a step keeps it
  pub steady_after : (fs : List ℕ) (vs : List ℤ) (p i k : ℕ) (others : List HeldEntry) (rc : List Capture) (σ : HeldState) (n : ℕ) (a : Act)
      → InTable ws i → There ws others → Inside vs widest → There ws (pending_of σ) → Inside (state_values σ) widest → Safe ws widest a → Membered ws a
      → Steady ws widest (after σ n (done ws fs vs p i k others rc a))
  steady_after fs vs p i k others rc σ n Act.Broken here t v t₀ v₀ s m = absurd s
  steady_after fs vs p i k others rc σ n Act.Fail here t v t₀ v₀ s m =
      record { there = t₀; inside = v₀; some_entry = λ e. (let z : ◌≡◌ {A = ℕ} 0 1 = cc in absurd (omega arith)) }
  steady_after fs vs p i k others rc σ n (Act.Enter b) here t v t₀ v₀ s m = went σ _ n (inr s, t) v
  steady_after fs vs p i k others rc σ n (Act.Members start end c) here t v t₀ v₀ s m =
      let e : parts (end - start) ws start end ≡ m.0 = row_parts (end - start) m.1 (omega arith) in
      went σ _ n (rw e (there_members m.1 s others t)) v
  steady_after fs vs p i k others rc σ n (Act.Again b) here t v t₀ v₀ s m = went σ _ n (inr s, (here, t)) v
  steady_after fs vs p i k others rc σ n Act.Leave here t v t₀ v₀ s m = went σ _ n t v
  steady_after fs vs p i k others rc σ n (Act.Take width binder c) here t v t₀ v₀ s m = went σ _ n t (bound_inside widest vs binder c v s)

  -- an opening has it
  pub steady_opened : {weight rooms : Context → ℕ → ℕ} → Reliable ws widest weight rooms → (s : Bits) → Steady ws widest (opened (held ws) (tests_of ws) s)
  unfolding opened open_state held
  steady_opened r s =
      record {
        there = (inl refl, tt);
        inside = zero_inside r;
        some_entry = λ e. omega arith;
      }
