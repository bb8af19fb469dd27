-- Two ways to look up a grammar's windows that both tell them exactly lead to the same run.
-- Assumes nothing.
use Prim.Native.Nat.{ℕ, zero, suc, ◌+◌, ◌≤◌}
use native.Mathlib.Omega.{arith}
use borrow.Author.Tests.{ltb-false, leb-false}
use mathlib.Core.Path.{◌≡◌, refl, ap, ap₂, ◌∙◌}
use mathlib.Core.Logic.{inl, inr}
use mathlib.Core.Bool.{Bool, true, false}
use mathlib.Core.List.Memᴰ
use mathlib.Core.List.{List, [], ◌∷◌}
use mathlib.Core.Option.{none, some}
use lib.Dec.{leb, ltb}
use Rattle.basis.specs.Bits.{Bits}
use Rattle.basis.specs.Counts.{Counts, from, within, Allows}
use Rattle.basis.specs.Lookahead.{lookahead}
use Rattle.basis.proofs.Joins.{lookahead_length}
use Rattle.basis.proofs.Booleans.{which, same_test}
use Rattle.theory.specs.Grammar.{alternative, concatenation, repetition, switch, use_of, field, eod, Grammar, ◌∈◌}
use Rattle.theory.specs.Derivation.{Capture}
use Rattle.theory.specs.Hypotheses.{Static, Hypotheses}
use Rattle.theory.specs.Machine.{Tests, entry, state, fail, again, leave, by_lookahead, turn, choose, act, step, undecided, matched, unmatched, verdict, run, stepped, opened, granted}
use Rattle.table_layout.specs.Held.{Context, Values, HeldNode}
use Rattle.run_refinement.specs.Runs.{HeldEntry, HeldState, HeldRun}
use Rattle.run_matcher.specs.Windows.{Tells}

-- what the theory asks of lookups is this
pub tells : {g : Grammar Context Values} {tests : Tests} → Hypotheses g tests → Tells g tests
tells h = record { branch = h.predicts_exact; go = h.continues_exact; stop = h.exits_exact }

same_choice : (f h : ℕ → Bool) (is : List ℕ) → ((b : ℕ) → b ∈ is → f b ≡ h b) → choose f is ≡ choose h is
unfolding choose
same_choice f h [] e = refl
same_choice f h (b ∷ bs) e =
    let p : f b ≡ h b = e b (Memᴰ.head refl) in
    let q : choose f bs ≡ choose h bs = same_choice f h bs (λ c m. e c (Memᴰ.tail m)) in
    λ t. elim (p t) [ true ↦ some b | false ↦ q t ]

-- `{n}` looks nothing up
fixed_turn : (counts : Counts) → ((j k : ℕ) → Allows counts j → Allows counts k → j ≡ k) → (k : ℕ) (a b c d : Bool) → turn counts k a b ≡ turn counts k c d
unfolding turn by_lookahead
fixed_turn Counts.none one k a b c d = refl
fixed_turn (from low) one k a b c d = absurd (let z : low ≡ suc low = one low (suc low) (omega arith) (omega arith) in omega arith)
fixed_turn (within low more) one k a b c d =
    elim (which (ltb k low)) [
      | inl t ↦ rw (t, turn)
      | inr t ↦ elim (which (leb (low + more) k)) [
        | inl u ↦ rw (t, u, turn)
        | inr u ↦ absurd (let z : low ≡ low + more = one low (low + more) (omega arith, omega arith) (omega arith, omega arith) in omega (arith, ltb-false k low t, leb-false (low + more) k u))
      ]
    ]

module _ (g : Grammar Context Values) (static : Static g) (a b : Tests) (x : Tells g a) (y : Tells g b) where
  same_turn : (i k body : ℕ) (counts : Context → Values → Counts) (all : Counts) (fixed : Bool) → g.node i ≡ repetition counts all fixed body → (c : Context) (v : Values) (s : Bits)
      → turn (counts c v) k (a.continues i (lookahead s)) (a.exits i (lookahead s)) ≡ turn (counts c v) k (b.continues i (lookahead s)) (b.exits i (lookahead s))
  same_turn i k body counts all true q c v s = fixed_turn (counts c v) (static.fixed_once q c v) k _ _ _ _
  same_turn i k body counts all false q c v s =
      let l : _ ≤ 8 = lookahead_length s in
      ap₂ (turn (counts c v) k)
      (same_test (a.continues i (lookahead s)) (b.continues i (lookahead s)) (x.go q (lookahead s) l) (y.go q (lookahead s) l))
      (same_test (a.exits i (lookahead s)) (b.exits i (lookahead s)) (x.stop q (lookahead s) l) (y.stop q (lookahead s) l))

  same_act : (n : HeldNode) (i : ℕ) → g.node i ≡ n → (c : Context) (k : ℕ) (others : List HeldEntry) (s : Bits) (p : ℕ) (v : Values) (cs : List Capture)
      → act g a n i c k others s p v cs ≡ act g b n i c k others s p v cs
  unfolding act
  same_act (alternative is) i q c k others s p v cs =
      let e : choose (λ j. a.predicts j (lookahead s)) is ≡ choose (λ j. b.predicts j (lookahead s)) is =
      same_choice (λ j. a.predicts j (lookahead s)) (λ j. b.predicts j (lookahead s)) is
      (λ j m. same_test (a.predicts j (lookahead s)) (b.predicts j (lookahead s)) (x.branch q m (lookahead s) (lookahead_length s)) (y.branch q m (lookahead s) (lookahead_length s))) in
      λ t. elim (e t) [ none ↦ none | some j ↦ some (state (entry j c 0 ∷ others) s p v cs) ]
  same_act (concatenation is) i q c k others s p v cs = refl
  same_act (repetition counts all fixed body) i q c k others s p v cs =
      let e = same_turn i k body counts all fixed q c v s in
      λ t. elim (e t) [
        | fail ↦ none
        | again ↦ some (state (entry body c 0 ∷ entry i c (suc k) ∷ others) s p v cs)
        | leave ↦ some (state others s p v cs)
      ]
  same_act (switch chosen optional is) i q c k others s p v cs = refl
  same_act (use_of enters opens closes body) i q c k others s p v cs = refl
  same_act (field w admits all binds) i q c k others s p v cs = refl
  same_act eod i q c k others [] p v cs = refl
  same_act eod i q c k others (d ∷ s) p v cs = refl

  same_step : (σ : HeldState) → step g a σ ≡ step g b σ
  unfolding step
  same_step (state [] s p v cs) = refl
  same_step (state (entry i c k ∷ others) s p v cs) = same_act (g.node i) i refl c k others s p v cs

  same_stepped : (r : HeldRun) → stepped g a r ≡ stepped g b r
  unfolding stepped
  same_stepped (run σ n undecided) = let e = same_step σ in λ t. elim (e t) [ none ↦ run σ (suc n) unmatched | some τ ↦ run τ (suc n) (verdict τ) ]
  same_stepped (run σ n matched) = refl
  same_stepped (run σ n unmatched) = refl

  same_granted : (n : ℕ) (r : HeldRun) → granted g a n r ≡ granted g b n r
  unfolding granted
  same_granted zero r = refl
  same_granted (suc n) r = same_granted n (stepped g a r) ∙ ap (granted g b n) (same_stepped r)

  -- the run from its opening
  pub same_run : (n : ℕ) (s : Bits) → granted g a n (opened g a s) ≡ granted g b n (opened g b s)
  unfolding opened
  same_run n s = same_granted n (opened g a s)
