-- What a construct's words answer is what its node answers: the part that is chosen, a repetition's turn, a test.
-- Assumes nothing.
use Prim.Native.Nat.{ℕ, ◌+◌, ◌-◌, ◌≤◌}
use native.Mathlib.Omega.{arith}
use mathlib.Core.Path.{◌≡◌, refl, sym, ◌∙◌, ap}
use mathlib.Core.Logic.{inl, inr}
use mathlib.Core.Bool.{Bool, true, false, cond}
use mathlib.Core.List.{List, [], ◌∷◌}
use mathlib.Core.Option.{none, some}
use lib.Dec.{leb, ltb}
use lib.IntN.{ℤ, pos}
use Rattle.basis.proofs.Booleans.{which}
use Rattle.term_evaluation.specs.Meaning.{condition}
use Rattle.term_evaluation.specs.Counts.{counts}
use Rattle.theory.specs.Machine.{Turn, fail, again, leave, by_lookahead, turn, choose}
use Rattle.table_layout.specs.Places.{construct_word}
use Rattle.table_layout.specs.Held.{term_words, terms_of, parts, allowed, is_yes, passes_allowed, first_case, no_default}
use Rattle.table_layout.specs.declared.Passes.{Passes}
use Rattle.run_actions.specs.Stored.{stored, prediction_at, follow_at}
use Rattle.run_actions.specs.Acts.{terms_in_table, by_branch, branch_act, case_test, by_case, case_act, by_lookahead as act-by-lookahead, turn_act, counted, by_set}
use Rattle.run_actions.specs.declared.Act.{Act}
use Rattle.run_refinement.proofs.Walks.{Definite, Visit, chosen_act, found_chosen}
use Rattle.std.specs.Prelude.{Result, Ok, Err}
use Rattle.term_words.specs.declared.TermError.{TermError}
use Rattle.term_evaluation.specs.declared.Allowed.{Allowed}

-- what the grammar's switch goes by: a case's condition holds, or it has none
abbrev case_holds : List ℕ → List ℤ → ℕ → Bool
case_holds ws vs b = cond (ltb (construct_word ws b 6) (construct_word ws b 7)) (is_yes (condition vs (construct_word ws b 6) (terms_of ws (construct_word ws b 6) (construct_word ws b 7)))) true

first_choose : (ws : List ℕ) (vs : List ℤ) (bs : List ℕ) → first_case ws vs bs ≡ choose (case_holds ws vs) bs
unfolding first_case choose
first_choose ws vs [] = refl
first_choose ws vs (b ∷ bs) =
    elim (which (ltb (construct_word ws b 6) (construct_word ws b 7))) [
      | inl t ↦
          elim (which (is_yes (condition vs (construct_word ws b 6) (terms_of ws (construct_word ws b 6) (construct_word ws b 7)))))
          [ inl y ↦ rw (t, y, first_case, choose) | inr y ↦ rw (t, y, first_case, choose) (first_choose ws vs bs) ]
      | inr t ↦ rw (t, first_case, choose)
    ]

-- where no case is taken, there is no default
pub no_case_taken : (ws : List ℕ) (vs : List ℤ) (bs : List ℕ) → first_case ws vs bs ≡ none → no_default ws bs ≡ true
unfolding first_case no_default
no_case_taken ws vs [] e = refl
no_case_taken ws vs (b ∷ bs) e =
    elim (which (ltb (construct_word ws b 6) (construct_word ws b 7))) [
      | inl t ↦
          elim (which (is_yes (condition vs (construct_word ws b 6) (terms_of ws (construct_word ws b 6) (construct_word ws b 7)))))
          [ inl y ↦ taken (rw (t, y, first_case) at e) | inr y ↦ rw (t, no_default) (no_case_taken ws vs bs (rw (t, y, first_case) at e)) ]
      | inr t ↦ taken (rw (t, first_case) at e)
    ]
  where
    taken : {A : Type 0} → some b ≡ none → A
    taken z = let o : ◌≡◌ {A = ℕ} 0 1 = cc in absurd (omega arith)

by_branch_visit : (j : ℕ) (t : Bool) → Visit j t (λ rest. by_branch t j rest)
by_branch_visit j true = Visit.takes refl (λ rest. refl)
by_branch_visit j false = Visit.passes refl (λ rest. refl)

by_case_visit : (j : ℕ) (t : Result Bool TermError) → Visit j (is_yes t) (λ rest. by_case t j rest)
by_case_visit j (Ok true) = Visit.takes refl (λ rest. refl)
by_case_visit j (Ok false) = Visit.passes refl (λ rest. refl)
by_case_visit j (Err TermError.Malformed) = Visit.breaks (λ rest. refl)
by_case_visit j (Err TermError.Overflow) = Visit.breaks (λ rest. refl)

-- a case's test is that, where its terms are in the table
case_visit : (ws : List ℕ) (vs : List ℤ) (j : ℕ) → Visit j (case_holds ws vs j) (λ rest. by_case (case_test ws vs j) j rest)
case_visit ws vs j =
    by (ltb (construct_word ws j 6) (construct_word ws j 7)) (terms_in_table ws (construct_word ws j 7)) (condition vs (construct_word ws j 6) (terms_of ws (construct_word ws j 6) (construct_word ws j 7)))
  where
    by : (s t : Bool) (x : Result Bool TermError) → Visit j (cond s (is_yes x) true) (λ rest. by_case (cond s (cond t x (Err TermError.Malformed)) (Ok true)) j rest)
    by true true x = by_case_visit j x
    by true false x = Visit.breaks (λ rest. refl)
    by false t x = Visit.takes refl (λ rest. refl)

pub branch_chosen : (ws : List ℕ) (n m j end : ℕ) → end ≤ j + m → Definite (branch_act ws n j end) → branch_act ws n j end ≡ chosen_act Act.Fail (choose (λ b. stored ws (prediction_at b) n) (parts m ws j end))
branch_chosen ws n m j end l s =
    found_chosen ws end Act.Fail (λ b. stored ws (prediction_at b) n) (λ i rest. by_branch (stored ws (prediction_at i) n) i rest) (λ i. by_branch_visit i (stored ws (prediction_at i) n)) (end - j) m j (omega arith) l s

pub case_chosen : (ws : List ℕ) (vs : List ℤ) (m j end : ℕ) → end ≤ j + m → Definite (case_act ws vs j end) → case_act ws vs j end ≡ chosen_act Act.Leave (first_case ws vs (parts m ws j end))
case_chosen ws vs m j end l s =
    found_chosen ws end Act.Leave (case_holds ws vs) (λ i rest. by_case (case_test ws vs i) i rest) (case_visit ws vs) (end - j) m j (omega arith) l s
    ∙ ap (chosen_act Act.Leave) (sym (first_choose ws vs (parts m ws j end)))

-- a repetition's turn
abbrev pub turned : ℕ → Turn → Act
turned b fail = Act.Fail
turned b again = Act.Again b
turned b leave = Act.Leave

turned_lookahead : (b : ℕ) (c e : Bool) → act-by-lookahead c e b ≡ turned b (by_lookahead c e)
unfolding by_lookahead
turned_lookahead b true e = refl
turned_lookahead b false true = refl
turned_lookahead b false false = refl

pub turn_turned : (ws : List ℕ) (n i k : ℕ) (c : Result Allowed TermError) → Definite (turn_act ws n i k c)
    → turn_act ws n i k c ≡ turned (i + 1) (turn (allowed c) k (stored ws (prediction_at (i + 1)) n) (stored ws (follow_at i) n))
unfolding turn
turn_turned ws n i k (Ok Allowed.None) s = refl
turn_turned ws n i k (Ok (Allowed.From low)) s =
    elim (which (ltb k low)) [ inl t ↦ rw (t, turn) | inr t ↦ rw (t, turn) (turned_lookahead (i + 1) (stored ws (prediction_at (i + 1)) n) (stored ws (follow_at i) n)) ]
turn_turned ws n i k (Ok (Allowed.Within low more)) s =
    elim (which (ltb k low)) [
      | inl t ↦ rw (t, turn)
      | inr t ↦
          elim (which (leb (low + more) k))
          [ inl u ↦ rw (t, u, turn) | inr u ↦ rw (t, u, turn) (turned_lookahead (i + 1) (stored ws (prediction_at (i + 1)) n) (stored ws (follow_at i) n)) ]
    ]
turn_turned ws n i k (Err TermError.Malformed) s = absurd (s refl)
turn_turned ws n i k (Err TermError.Overflow) s = absurd (s refl)

-- counts whose terms are in the table are the grammar's
pub counted_allowed : (ws : List ℕ) (vs : List ℤ) (n i k : ℕ) (p : Passes) → Definite (turn_act ws n i k (counted ws vs p)) → allowed (counted ws vs p) ≡ passes_allowed ws p vs
counted_allowed ws vs n i k Passes.Optional s = refl
counted_allowed ws vs n i k Passes.Any s = refl
counted_allowed ws vs n i k Passes.Some s = refl
counted_allowed ws vs n i k (Passes.Counted start end) s = by (terms_in_table ws end) s
  where
    by : (t : Bool) → Definite (turn_act ws n i k (cond t (counts vs (term_words ws) start end) (Err TermError.Malformed))) → allowed (cond t (counts vs (term_words ws) start end) (Err TermError.Malformed)) ≡ allowed (counts vs (term_words ws) start end)
    by true d = refl
    by false d = absurd (d refl)

-- a test by itself
abbrev pub tested : Bool → Result Bool TermError
tested true = Ok true
tested false = Ok false

pub tested_yes : (t : Bool) → is_yes (tested t) ≡ t
tested_yes true = refl
tested_yes false = refl

pub tested_set : (t : Bool) (w : ℕ) → cond t (Act.Take w 0 (pos 0)) Act.Fail ≡ by_set (tested t) w 0 (pos 0)
tested_set true w = refl
tested_set false w = refl
