-- When and how a run is decided: the machine's two big-step theorems, put together at the opening.
-- Assumes nothing.
use Prim.Native.Nat.{ℕ, suc, ◌+◌, ◌-◌, ◌*◌, ◌≤◌, ◌<◌}
use native.Mathlib.Omega.{arith}
use native.Mathlib.Decide.{dec_lt}
use native.Mathlib.Nat.{zero-add, le_refl, mul-le-mul_left}
use mathlib.Core.Path.{◌≡◌, refl, sym, ◌∙◌, ap, subst}
use mathlib.Core.Logic.{◌≢◌}
use mathlib.Core.List.{List, [], ◌∷◌, ◌++◌, append-nil}
use lib.ListN.{length, length-append}
use Rattle.basis.specs.Bits.{Bits}
use Rattle.theory.specs.Grammar.{Grammar}
use Rattle.theory.specs.Derivation.{Tree, covered, Capture, captures, construct, Derives, Derivation}
use Rattle.theory.specs.Lookahead.{Follow}
use Rattle.theory.specs.Machine.{Tests, Entry, entry, State, state, undecided, matched, unmatched, verdict, Run, run, verdict_of, state_of, taken_of, tree_steps, open_state, opened, stepped, granted}
use Rattle.theory.specs.Weight.{Outweighs}
use Rattle.theory.specs.Hypotheses.{Hypotheses}
use Rattle.theory.specs.Theorems.{Derivable, step_bound}
use Rattle.theory.proofs.FirstTheorem.{covers}
use Rattle.theory.proofs.Steps.{Path, Stuck, resize, after}
use Rattle.theory.proofs.Completeness.{Todo, follows_derivation}
use Rattle.theory.proofs.Progress.{Counted, Fails, Outcome, each}
use Rattle.theory.proofs.Runs.{granted_sum, path_runs, path_before, stepped_stuck}

-- where nothing is pending the run is decided, and matched only at the frame's end
closed_settled : (Context : Type 0) {Values : Type 0} (r : Bits) (p : ℕ) (v : Values) (cs : List Capture) → verdict {Context = Context} (state [] r p v cs) ≢ undecided
unfolding verdict
closed_settled C [] p v cs e = let z : ◌≡◌ {A = ℕ} 0 1 = cc in omega arith
closed_settled C (b ∷ r) p v cs e = let z : ◌≡◌ {A = ℕ} 0 1 = cc in omega arith

matched_end : (Context : Type 0) {Values : Type 0} (r : Bits) (p : ℕ) (v : Values) (cs : List Capture) → verdict {Context = Context} (state [] r p v cs) ≡ matched → r ≡ []
unfolding verdict
matched_end C [] p v cs e = refl
matched_end C (b ∷ r) p v cs e = let z : ◌≡◌ {A = ℕ} 0 1 = cc in absurd (omega arith)

module _ {Context Values : Type 0} (g : Grammar Context Values) (tests : Tests) where
  abbrev Start : Bits → State Context Values
  Start s = state (entry g.start g.context 0 ∷ []) s 0 g.values []

  opened_path : {P : State Context Values → Type 0} (n : ℕ) (s : Bits) {τ : State Context Values} → Path g tests P n (Start s) τ → granted g tests n (opened g tests s) ≡ run τ n (verdict τ)
  unfolding opened open_state verdict
  opened_path n s {τ} q = path_runs g tests 0 q ∙ ap (λ (m : ℕ). run τ m (verdict τ)) (zero-add n)

  opened_before : {P : State Context Values → Type 0} (n : ℕ) (s : Bits) {τ : State Context Values} → Path g tests P n (Start s) τ → (m : ℕ) → m < n
      → (ρ : State Context Values) × P ρ × (granted g tests m (opened g tests s) ≡ run ρ m undecided)
  unfolding opened open_state verdict
  opened_before n s q m l = let x = path_before g tests 0 m q l in (x.0, x.1, x.2 ∙ ap (λ (k : ℕ). run x.0 k undecided) (zero-add m))

  -- one step more
  granted_suc : (n : ℕ) (r : Run Context Values) → granted g tests (suc n) r ≡ stepped g tests (granted g tests n r)
  unfolding granted
  granted_suc n r = let z : suc n ≡ n + 1 = omega arith in ap (λ (m : ℕ). granted g tests m r) z ∙ granted_sum g tests n 1 r

module _ {Context Values : Type 0} (g : Grammar Context Values) (tests : Tests) (h : Hypotheses g tests) where
  -- a derivation of the frame is what the run does
  pub derivation_runs : (s : Bits) (t : Tree) (v : Values) → Derivation g s t v → granted g tests (tree_steps t) (opened g tests s) ≡ run (state [] [] (length s) v (captures t 0)) (tree_steps t) matched
  unfolding verdict
  derivation_runs s t v d =
      let n : 0 + length (covered t) ≡ length s = zero-add (length (covered t)) ∙ sym (ap length (covers g d ∙ append-nil (covered t))) in
      opened_path g tests (tree_steps t) s (resize g tests (zero-add (tree_steps t)) (follows_derivation g tests h d (Todo.one refl (Follow.of_start refl)) [] 0 []))
      ∙ ap (λ (p : ℕ). run (state [] [] p v (captures t 0)) (tree_steps t) matched) n

  -- A run that is decided after `needed` steps and not before, with no entry's passes past those counted.
  pub record Decided (s : Bits) (most : ℕ) : Type 0 where
    pub needed : ℕ
    pub final : Run Context Values
    pub at_end : granted g tests needed (opened g tests s) ≡ final
    pub settled : verdict_of final ≢ undecided
    pub count : taken_of final ≡ needed
    pub counted : Counted (state_of final)
    pub before : (n : ℕ) → n < needed → (ρ : State Context Values) × Counted ρ × (granted g tests n (opened g tests s) ≡ run ρ n undecided)
    pub bound : needed ≤ most
    -- where it says match, a derivation covers the frame
    pub sound : verdict_of final ≡ matched → Derivable g s

  decided_derived : (w : ℕ) (s : Bits) (t : Tree) (v : Values) (r : Bits) → Derives g (construct g.start (g.node g.start)) t g.context g.values s v r
      → Path g tests Counted (tree_steps t) (Start g tests s) (after [] t 0 r v []) → tree_steps t ≤ w * (length (covered t) + 1) → Decided s (w * (length s + 1))
  decided_derived w s t v r d q l =
      record {
        needed = tree_steps t;
        final = run (after [] t 0 r v []) (tree_steps t) (verdict (after [] t 0 r v []));
        at_end = opened_path g tests (tree_steps t) s q;
        settled = closed_settled Context r (0 + length (covered t)) v ([] ++ captures t 0);
        count = refl;
        counted = tt;
        before = opened_before g tests (tree_steps t) s q;
        bound =
            let n : length s ≡ length (covered t) + length r = ap length (covers g d) ∙ length-append (covered t) r in
            let m : w * (length (covered t) + 1) ≤ w * (length s + 1) = mul-le-mul_left w (omega arith) in omega arith;
        sound =
            λ e.
            (t, v, subst (λ (x : Bits). Derives g (construct g.start (g.node g.start)) t g.context g.values s v x) (matched_end Context r (0 + length (covered t)) v ([] ++ captures t 0) e) d);
      }

  decided_failed : (most n : ℕ) (s : Bits) (x : Entry Context) (es : List (Entry Context)) (r : Bits) (p : ℕ) (v : Values) (cs : List Capture) → Path g tests Counted n (Start g tests s) (state (x ∷ es) r p v cs)
      → Counted (state (x ∷ es) r p v cs) → Stuck g tests (state (x ∷ es) r p v cs) → suc n ≤ most → Decided s most
  unfolding verdict
  decided_failed most n s x es r p v cs q k z l =
      record {
        needed = suc n;
        final = run (state (x ∷ es) r p v cs) (suc n) unmatched;
        at_end = granted_suc g tests n (opened g tests s) ∙ (ap (stepped g tests) (opened_path g tests n s q) ∙ stepped_stuck g tests n z);
        settled = λ e. let y : ◌≡◌ {A = ℕ} 0 1 = cc in omega arith;
        count = refl;
        counted = k;
        before =
            λ m l'.
            elim (dec_lt m n) [
              | yes b ↦ opened_before g tests n s q m b
              | no b ↦ (state (x ∷ es) r p v cs, k, (let y : m ≡ n = omega arith in rw y (opened_path g tests n s q)))
            ];
        bound = l;
        sound = λ e. let y : ◌≡◌ {A = ℕ} 0 1 = cc in absurd (omega arith);
      }

  module _ (weight : Context → ℕ → ℕ) (weighs : Outweighs g weight) where
    from_outcome : (s : Bits) (w : ℕ)
        → Outcome g tests h weight weighs (construct g.start (g.node g.start)) (entry g.start g.context 0 ∷ []) w [] g.context s 0 g.values [] → Decided s (w * (length s + 1))
    from_outcome s w (Outcome.derived {t} {v'} {r} d q l) = decided_derived w s t v' r d q l
    from_outcome s w (Outcome.failed (Fails.fails {n} {i} {k} {c} {es} {s = r} {p} {v} {cs} q x z l)) = decided_failed (w * (length s + 1)) n s (entry i c k) es r p v cs q x z l

    pub decided : (s : Bits) → Decided s (step_bound g tests weight s)
    decided s =
        from_outcome s (weight g.context g.start)
        (each g tests h weight weighs (weight g.context g.start) g.context g.start (le_refl (weight g.context g.start)) [] s 0 g.values [] tt)
