-- Lists of terms over the values of the table's variables alone: malformed, or the same as over all values; over laid out words the same.
-- Assumes nothing.
use Prim.Native.Nat.{ℕ, zero, suc, ◌+◌, ◌-◌, ◌≤◌, ◌<◌, min}
use native.Mathlib.Omega.{arith}
use native.Mathlib.Decide.{dec_lt}
use borrow.Author.Tests.{lt-ltb, le-ltb}
use mathlib.Core.Path.{◌≡◌, refl, ap, subst}
use mathlib.Core.Logic.{◌⊎◌, inl, inr}
use mathlib.Core.Bool.{Bool, true, false, cond, ◌&&◌}
use mathlib.Core.List.{List, [], ◌∷◌}
use lib.Dec.{leb, ltb, eqb}
use lib.IntN.{ℤ, pos}
use lib.ListN.{length, take, length-take}
use lib.Seq.{get_or-take}
use Rattle.basis.proofs.Booleans.{which}
use Rattle.term_words.specs.Words.{term_at, terms}
use Rattle.term_words.specs.Steps.{variable_of, operate_of, after_of, operated, step_of}
use Rattle.term_words.specs.declared.Kind.{Kind}
use Rattle.term_words.specs.declared.Mode.{Mode}
use Rattle.term_words.specs.declared.Numbers.{Numbers}
use Rattle.term_words.specs.declared.Operation.{Operation}
use Rattle.term_words.specs.declared.Term.{Term}
use Rattle.term_evaluation.specs.Meaning.{next, run, verdict_of, membership, condition}
use Rattle.term_evaluation.specs.Counts.{form_of, calculations_end, of_trial, tally_end, tallied, counts}
use Rattle.term_evaluation.specs.declared.Ended.{Ended}
use Rattle.term_evaluation.specs.declared.Form.{Form}
use Rattle.table_layout.specs.Places.{rule_word, rule_count, construct_word, construct_count, variable_count}
use Rattle.table_layout.specs.Constructs.{construct_at}
use Rattle.table_layout.specs.Held.{term_words, terms_of, size_of}
use Rattle.table_layout.specs.declared.Construct.{Construct}
use Rattle.table_layout.specs.declared.Passes.{Passes}
use Rattle.table_wellformed.specs.Rules.{rule_end}
use Rattle.table_structure.proofs.Facts.{Laid}
use Rattle.table_structure.proofs.RuleLaws.{RuleOf, rule_of, rule_fact, next_begins, last_ends}
use Rattle.term_evaluation.proofs.Reading.{Same, membership_same, condition_same, counts_same}
use Rattle.table_structure.proofs.Binding.{Visible, condition_reads, own_reads}
use Rattle.run_actions.specs.Acts.{terms_in_table, binder_in_table, known_values, ahead_at, bits_of, walk, case_test, by_case, turn_act, counted, kept, by_set, number_at, uint_act, construct_act}
use Rattle.run_actions.specs.declared.Act.{Act}
use Rattle.run_refinement.proofs.Walks.{Definite}
use Rattle.std.specs.Prelude.{Result, Ok, Err}
use Rattle.term_words.specs.declared.TermError.{TermError}
use Rattle.term_evaluation.specs.declared.Allowed.{Allowed}

-- malformed, or the same
abbrev pub Fewer : {A : Type 0} → A → A → A → Type 0
Fewer bad x y = (x ≡ bad) ⊎ (x ≡ y)

pub fewer_map : {A B : Type 0} {bad x y : A} (f : A → B) → Fewer bad x y → Fewer (f bad) (f x) (f y)
fewer_map f (inl e) = inl (ap f e)
fewer_map f (inr e) = inr (ap f e)

module _ (n : ℕ) (env : List ℤ) where
  abbrev short : List ℤ
  short = take n env

  -- a variable below n has its value
  variable_same : (y : ℕ) → y < n → (s : Numbers) → variable_of short y s ≡ variable_of env y s
  unfolding variable_of
  variable_same y l s =
      let z : length short ≡ min n (length env) = length-take n env in
      elim (dec_lt y (length env)) [
        | yes h ↦ rw (lt-ltb y (length short) (omega arith), lt-ltb y (length env) h, get_or-take n env y (pos 0) l) refl
        | no h ↦ rw (le-ltb y (length short) (omega arith), le-ltb y (length env) (omega arith)) refl
      ]

  variable_fewer : (y : ℕ) (s : Numbers) → Fewer (Err TermError.Malformed) (variable_of short y s) (variable_of env y s)
  unfolding variable_of
  variable_fewer y s =
      let z : length short ≡ min n (length env) = length-take n env in
      elim (dec_lt y n) [ yes l ↦ inr (variable_same y l s) | no l ↦ inl (rw (le-ltb y (length short) (omega arith)) refl) ]

  operate_fewer : (m : Mode) (o : Operation) (s : Numbers) → Fewer (Err TermError.Malformed) (operate_of m short o s) (operate_of m env o s)
  operate_fewer m (Operation.Variable y) s = variable_fewer y s
  operate_fewer m (Operation.Number n) s = inr refl
  operate_fewer m Operation.Add s = inr refl
  operate_fewer m Operation.Subtract s = inr refl
  operate_fewer m Operation.Multiply s = inr refl
  operate_fewer m Operation.Negate s = inr refl
  operate_fewer m Operation.Unknown s = inr refl

  part_fewer : (m : Mode) (o : Operation) (s : Numbers) (t : ℕ) → Fewer (Err TermError.Malformed) (after_of (operate_of m short o s) t) (after_of (operate_of m env o s) t)
  part_fewer m o s t = fewer_map (λ x. after_of x t) (operate_fewer m o s)

  single_fewer : (m : Mode) (v : ℤ) (o : Operation) (s : Numbers) (t : ℕ) → Fewer (Err TermError.Malformed) (operated v (operate_of m short o s) t) (operated v (operate_of m env o s) t)
  single_fewer m v o s t = fewer_map (λ x. operated v x t) (operate_fewer m o s)

  step_fewer : (k : Kind) (m : Mode) (v : ℤ) (x : Term) (s : Numbers) (t : ℕ) → Fewer (Err TermError.Malformed) (step_of k m short v x s t) (step_of k m env v x s t)
  step_fewer Kind.Calculation m v (Term.Part o) s t = part_fewer m o s t
  step_fewer Kind.Calculation m v (Term.Single o) s t = inr refl
  step_fewer Kind.Calculation m v Term.All s t = inr refl
  step_fewer Kind.Calculation m v Term.Range s t = inr refl
  step_fewer Kind.Calculation m v Term.From s t = inr refl
  step_fewer Kind.Calculation m v Term.UpTo s t = inr refl
  step_fewer Kind.Calculation m v Term.Or s t = inr refl
  step_fewer Kind.Calculation m v Term.Except s t = inr refl
  step_fewer Kind.Calculation m v Term.And s t = inr refl
  step_fewer Kind.Calculation m v (Term.Compare j) s t = inr refl
  step_fewer Kind.Calculation m v Term.Bad s t = inr refl
  step_fewer Kind.Set m v (Term.Part o) s t = part_fewer m o s t
  step_fewer Kind.Set m v (Term.Single o) s t = single_fewer m v o s t
  step_fewer Kind.Set m v Term.All s t = inr refl
  step_fewer Kind.Set m v Term.Range s t = inr refl
  step_fewer Kind.Set m v Term.From s t = inr refl
  step_fewer Kind.Set m v Term.UpTo s t = inr refl
  step_fewer Kind.Set m v Term.Or s t = inr refl
  step_fewer Kind.Set m v Term.Except s t = inr refl
  step_fewer Kind.Set m v Term.And s t = inr refl
  step_fewer Kind.Set m v (Term.Compare j) s t = inr refl
  step_fewer Kind.Set m v Term.Bad s t = inr refl
  step_fewer Kind.Condition m v (Term.Part o) s t = part_fewer m o s t
  step_fewer Kind.Condition m v (Term.Single o) s t = inr refl
  step_fewer Kind.Condition m v Term.All s t = inr refl
  step_fewer Kind.Condition m v Term.Range s t = inr refl
  step_fewer Kind.Condition m v Term.From s t = inr refl
  step_fewer Kind.Condition m v Term.UpTo s t = inr refl
  step_fewer Kind.Condition m v Term.Or s t = inr refl
  step_fewer Kind.Condition m v Term.Except s t = inr refl
  step_fewer Kind.Condition m v Term.And s t = inr refl
  step_fewer Kind.Condition m v (Term.Compare j) s t = inr refl
  step_fewer Kind.Condition m v Term.Bad s t = inr refl

  -- a list that ended as malformed, or the same
  abbrev EndFewer : Ended → Ended → Type 0
  EndFewer x y = (x.trial ≡ Err TermError.Malformed) ⊎ (x ≡ y)

  next_fewer : (go go' : Numbers → ℕ → Ended) → ((s : Numbers) (t : ℕ) → EndFewer (go s t) (go' s t)) → (i : ℕ) (r : Result (Numbers × ℕ) TermError) → EndFewer (next go i r) (next go' i r)
  next_fewer go go' h i (Ok (s, t)) = h s t
  next_fewer go go' h i (Err TermError.Malformed) = inr refl
  next_fewer go go' h i (Err TermError.Overflow) = inr refl

  after_step : (go go' : Numbers → ℕ → Ended) (i : ℕ) (r r' : Result (Numbers × ℕ) TermError) → ((s : Numbers) (t : ℕ) → EndFewer (go s t) (go' s t)) → Fewer (Err TermError.Malformed) r r' → EndFewer (next go i r) (next go' i r')
  after_step go go' i r r' h (inl e) = inl (ap (λ (x : Result (Numbers × ℕ) TermError). (next go i x).trial) e)
  after_step go go' i r r' h (inr e) = subst (λ (x : Result (Numbers × ℕ) TermError). EndFewer (next go i r) (next go' i x)) e (next_fewer go go' h i r)

  run_fewer : (k : Kind) (m : Mode) (v : ℤ) (i : ℕ) (xs : List Term) (s : Numbers) (t : ℕ) → EndFewer (run k m short v i xs s t) (run k m env v i xs s t)
  unfolding run
  run_fewer k m v i [] s t = inr refl
  run_fewer k m v i (x ∷ xs) s t =
      after_step (λ s' t'. run k m short v (i + 1) xs s' t') (λ s' t'. run k m env v (i + 1) xs s' t') i (step_of k m short v x s t) (step_of k m env v x s t) (λ s' t'. run_fewer k m v (i + 1) xs s' t') (step_fewer k m v x s t)

  ended : {A : Type 0} (f : Result (Numbers × ℕ) TermError → A) {x y : Ended} → EndFewer x y → Fewer (f (Err TermError.Malformed)) (f x.trial) (f y.trial)
  ended f (inl e) = inl (ap f e)
  ended f (inr e) = inr (ap (λ (x : Ended). f x.trial) e)

  pub membership_fewer : (v : ℤ) (i : ℕ) (xs : List Term) → Fewer (Err TermError.Malformed) (membership short v i xs) (membership env v i xs)
  unfolding membership
  membership_fewer v i xs = ended verdict_of (run_fewer Kind.Set Mode.Values v i xs Numbers.Zero 1)

  pub condition_fewer : (i : ℕ) (xs : List Term) → Fewer (Err TermError.Malformed) (condition short i xs) (condition env i xs)
  unfolding condition
  condition_fewer i xs = ended verdict_of (run_fewer Kind.Condition Mode.Values (pos 0) i xs Numbers.Zero 1)

  pub counts_fewer : (ws : List ℕ) (start end : ℕ) → Fewer (Err TermError.Malformed) (counts short ws start end) (counts env ws start end)
  unfolding counts tallied
  counts_fewer ws start end = by (ltb start end) (worked short) (worked env) (ended (of_trial f) (run_fewer Kind.Calculation Mode.Values (pos 0) start (terms ws start last) Numbers.Zero 1))
    where
      f : Form
      f = form_of (term_at ws (end - 1))

      last : ℕ
      last = calculations_end f (end - 1) end

      worked : List ℤ → Ended
      worked values = run Kind.Calculation Mode.Values values (pos 0) start (terms ws start last) Numbers.Zero 1

      by : (t : Bool) (x y : Ended) → Fewer (Err TermError.Malformed) (of_trial f x.trial) (of_trial f y.trial)
          → Fewer (Err TermError.Malformed) (cond t (tally_end f x) (record { counted = Err TermError.Malformed; at = start })).counted (cond t (tally_end f y) (record { counted = Err TermError.Malformed; at = start })).counted
      by true x y h = h
      by false x y h = inr refl

-- ---- an act that is not broken is that over all values

module _ (ws fs : List ℕ) (vs : List ℤ) (p i k : ℕ) where
  abbrev us : List ℤ
  us = known_values ws vs

  abbrev n : ℕ
  n = variable_count ws

  by_case_same : (j : ℕ) (rest rest' : Act) (t t' : Result Bool TermError) → Fewer (Err TermError.Malformed) t t' → (Definite rest → rest ≡ rest') → Definite (by_case t j rest) → by_case t j rest ≡ by_case t' j rest'
  by_case_same j rest rest' t t' (inl e) h s = absurd (s (ap (λ (x : Result Bool TermError). by_case x j rest) e))
  by_case_same j rest rest' t t' (inr e) h s = subst (λ (x : Result Bool TermError). by_case t j rest ≡ by_case x j rest') e (alike t s)
    where
      alike : (x : Result Bool TermError) → Definite (by_case x j rest) → by_case x j rest ≡ by_case x j rest'
      alike (Ok true) d = refl
      alike (Ok false) d = h d
      alike (Err e) d = refl

  case_fewer : (j : ℕ) → Fewer (Err TermError.Malformed) (case_test ws us j) (case_test ws vs j)
  case_fewer j = by (ltb (construct_word ws j 6) (construct_word ws j 7)) (terms_in_table ws (construct_word ws j 7)) (condition_fewer n vs (construct_word ws j 6) (terms_of ws (construct_word ws j 6) (construct_word ws j 7)))
    where
      by : (s t : Bool) {x y : Result Bool TermError} → Fewer (Err TermError.Malformed) x y → Fewer (Err TermError.Malformed) (cond s (cond t x (Err TermError.Malformed)) (Ok true)) (cond s (cond t y (Err TermError.Malformed)) (Ok true))
      by true true h = h
      by true false h = inr refl
      by false t h = inr refl

  cases_same : (end most j : ℕ) → Definite (walk (λ b rest. by_case (case_test ws us b) b rest) Act.Leave Act.Broken most ws j end)
      → walk (λ b rest. by_case (case_test ws us b) b rest) Act.Leave Act.Broken most ws j end ≡ walk (λ b rest. by_case (case_test ws vs b) b rest) Act.Leave Act.Broken most ws j end
  unfolding walk
  cases_same end zero j s = refl
  cases_same end (suc most) j s =
      let size : ℕ = size_of (construct_at ws j) in
      elim (which (ltb j end)) [
        | inl e ↦
            elim (which (eqb size 0)) [
              | inl z ↦ rw (e, z, walk) (by_case_same j Act.Broken Act.Broken (case_test ws us j) (case_test ws vs j) (case_fewer j) (λ d. refl) (rw (e, z, walk) at s))
              | inr z ↦ rw (e, z, walk) (by_case_same j _ _ (case_test ws us j) (case_test ws vs j) (case_fewer j) (cases_same end most (j + size)) (rw (e, z, walk) at s))
            ]
        | inr e ↦ rw (e, walk) refl
      ]

  turn_same : (c c' : Result Allowed TermError) → Fewer (Err TermError.Malformed) c c' → Definite (turn_act ws (ahead_at fs p) i k c) → turn_act ws (ahead_at fs p) i k c ≡ turn_act ws (ahead_at fs p) i k c'
  turn_same c c' (inl e) s = absurd (s (ap (turn_act ws (ahead_at fs p) i k) e))
  turn_same c c' (inr e) s = ap (turn_act ws (ahead_at fs p) i k) e

  counted_fewer : (q : Passes) → Fewer (Err TermError.Malformed) (counted ws us q) (counted ws vs q)
  counted_fewer Passes.Optional = inr refl
  counted_fewer Passes.Any = inr refl
  counted_fewer Passes.Some = inr refl
  counted_fewer (Passes.Counted start end) = by (terms_in_table ws end) (counts_fewer n vs (term_words ws) start end)
    where
      by : (t : Bool) {x y : Result Allowed TermError} → Fewer (Err TermError.Malformed) x y → Fewer (Err TermError.Malformed) (cond t x (Err TermError.Malformed)) (cond t y (Err TermError.Malformed))
      by true h = h
      by false h = inr refl

  uint_same : (signed : Bool) (width start end binder : ℕ) → Definite (uint_act ws fs us p signed width start end binder) → uint_act ws fs us p signed width start end binder ≡ uint_act ws fs vs p signed width start end binder
  uint_same signed width start end binder = by (terms_in_table ws end && binder_in_table ws binder) (leb (p + width) (bits_of fs)) (membership_fewer n vs (number_at fs p signed width) start (terms_of ws start end))
    where
      v : ℤ
      v = kept binder (number_at fs p signed width)

      by : (a b : Bool) {x y : Result Bool TermError} → Fewer (Err TermError.Malformed) x y → Definite (cond a (cond b (by_set x width binder v) Act.Fail) Act.Broken)
          → cond a (cond b (by_set x width binder v) Act.Fail) Act.Broken ≡ cond a (cond b (by_set y width binder v) Act.Fail) Act.Broken
      by true true (inl e) s = absurd (s (ap (λ (t : Result Bool TermError). by_set t width binder v) e))
      by true true (inr e) s = ap (λ (t : Result Bool TermError). by_set t width binder v) e
      by true false h s = refl
      by false b h s = refl

  pub act_same : (c : Construct) → Definite (construct_act ws fs us p i k c) → construct_act ws fs us p i k c ≡ construct_act ws fs vs p i k c
  act_same Construct.Missing s = refl
  act_same (Construct.Alternative size) s = refl
  act_same (Construct.Concatenation size) s = refl
  act_same (Construct.Repetition size q) s = turn_same (counted ws us q) (counted ws vs q) (counted_fewer q) s
  act_same (Construct.Switch size) s = cases_same (i + size) (i + size - (i + 1)) (i + 1) s
  act_same (Construct.Use rule) s = refl
  act_same (Construct.Literal m) s = refl
  act_same (Construct.Range low high) s = refl
  act_same (Construct.Uint signed width start end binder) s = uint_same signed width start end binder s
  act_same Construct.Eod s = refl

-- ---- over laid out words

module _ {ws : List ℕ} (l : Laid ws) where
  -- no rule's variables end past the table's
  variables_end : (m r : ℕ) → r + 1 + m ≡ rule_count ws → rule_end ws r 1 ≤ variable_count ws
  variables_end zero r e = let ends : rule_end ws r 1 ≡ variable_count ws = last_ends ws r 1 (omega arith) in omega arith
  variables_end (suc m) r e =
      let later : rule_end ws (r + 1) 1 ≤ variable_count ws = variables_end m (r + 1) (omega arith) in
      let within : rule_word ws (r + 1) 1 + rule_word ws (r + 1) 2 ≡ rule_end ws (r + 1) 1 = (rule_fact l (r + 1) (omega arith)).variables in
      let next : rule_end ws r 1 ≡ rule_word ws (r + 1) 1 = next_begins ws r 1 (omega arith) in
      omega arith

  module _ (vs : List ℤ) (i : ℕ) (h : i < construct_count ws) where
    o : RuleOf ws i
    o = rule_of l i h

    visible_same : Same (Visible ws o.rule i) (known_values ws vs) vs
    visible_same y v s = variable_same (variable_count ws) vs y (omega (arith, v.last, variables_end (rule_count ws - (o.rule + 1)) o.rule (omega (arith, o.exists)))) s

    pub condition_known : condition (known_values ws vs) (construct_word ws i 6) (terms_of ws (construct_word ws i 6) (construct_word ws i 7)) ≡ condition vs (construct_word ws i 6) (terms_of ws (construct_word ws i 6) (construct_word ws i 7))
    condition_known =
        condition_same (Visible ws o.rule i) (known_values ws vs) vs visible_same (term_words ws) (construct_word ws i 6) (construct_word ws i 7) (condition_reads l o.rule i o.exists o.begins o.ends)

    pub set_known : (signed : Bool) (width start end binder : ℕ) → construct_at ws i ≡ Construct.Uint signed width start end binder → (v : ℤ) → membership (known_values ws vs) v start (terms_of ws start end) ≡ membership vs v start (terms_of ws start end)
    set_known signed width start end binder e v = membership_same (Visible ws o.rule i) (known_values ws vs) vs visible_same (term_words ws) v start end (rw e at (own_reads l o.rule i o.exists o.begins o.ends))

    pub counts_known : (size start end : ℕ) → construct_at ws i ≡ Construct.Repetition size (Passes.Counted start end) → counts (known_values ws vs) (term_words ws) start end ≡ counts vs (term_words ws) start end
    counts_known size start end e = counts_same (Visible ws o.rule i) (known_values ws vs) vs visible_same (term_words ws) start end (rw e at (own_reads l o.rule i o.exists o.begins o.ends))
