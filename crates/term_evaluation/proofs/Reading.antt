-- What a list of terms comes to depends only on the variables that it uses; a list without a variable is worked out alike at any values.
-- Assumes nothing.
use Prim.Native.Nat.{ℕ, zero, suc, ◌+◌, ◌-◌, ◌≤◌, ◌<◌}
use mathlib.Core.Path.{◌≡◌, refl, ap, subst, ◌∙◌}
use mathlib.Core.Bool.{Bool, true, false, cond}
use mathlib.Core.List.{List, [], ◌∷◌}
use native.Mathlib.Omega.{arith}
use native.Mathlib.Decide.{dec_le}
use native.Mathlib.Nat.{lt_of_not-le}
use lib.Dec.{ltb}
use lib.IntN.{ℤ, pos}
use Rattle.term_words.specs.Words.{term_at, terms_from, terms}
use Rattle.term_words.specs.Steps.{variable_of, operate_of, after_of, operated, step_of}
use Rattle.term_words.specs.declared.Kind.{Kind}
use Rattle.term_words.specs.declared.Mode.{Mode}
use Rattle.term_words.specs.declared.Numbers.{Numbers}
use Rattle.term_words.specs.declared.Operation.{Operation}
use Rattle.term_words.specs.declared.Term.{Term}
use Rattle.term_evaluation.specs.Meaning.{next, run, verdict_of, membership, condition}
use Rattle.term_evaluation.specs.Counts.{form_of, calculations_end, tally_end, tallied, counts}
use Rattle.term_evaluation.specs.Variables.{uses_variable, has_variable}
use Rattle.term_evaluation.specs.declared.Ended.{Ended}
use Rattle.term_evaluation.specs.declared.Form.{Form}
use Rattle.std.specs.Prelude.{Result, Ok, Err}
use Rattle.term_words.specs.declared.TermError.{TermError}

-- every variable that a term uses is one of P
abbrev pub OperationReads : (ℕ → Type 0) → Operation → Type 0
OperationReads P (Operation.Number n) = Unit {0}
OperationReads P (Operation.Variable y) = P y
OperationReads P Operation.Add = Unit {0}
OperationReads P Operation.Subtract = Unit {0}
OperationReads P Operation.Multiply = Unit {0}
OperationReads P Operation.Negate = Unit {0}
OperationReads P Operation.Unknown = Unit {0}

abbrev pub TermReads : (ℕ → Type 0) → Term → Type 0
TermReads P (Term.Part o) = OperationReads P o
TermReads P (Term.Single o) = OperationReads P o
TermReads P Term.All = Unit {0}
TermReads P Term.Range = Unit {0}
TermReads P Term.From = Unit {0}
TermReads P Term.UpTo = Unit {0}
TermReads P Term.Or = Unit {0}
TermReads P Term.Except = Unit {0}
TermReads P Term.And = Unit {0}
TermReads P (Term.Compare k) = Unit {0}
TermReads P Term.Bad = Unit {0}

-- and of a list of terms
abbrev pub AllRead : (ℕ → Type 0) → List Term → Type 0
AllRead P [] = Unit {0}
AllRead P (x ∷ xs) = TermReads P x × AllRead P xs

-- and of the terms from `start` up to `end`
abbrev pub Reads : (ℕ → Type 0) → List ℕ → ℕ → ℕ → Type 0
Reads P ws start end = (t : ℕ) → start ≤ t → t < end → TermReads P (term_at ws t)

reads_from : (P : ℕ → Type 0) (ws : List ℕ) (n i last : ℕ) → ((t : ℕ) → i ≤ t → t < i + n → t < last) → Reads P ws i last → AllRead P (terms_from ws i n)
unfolding terms_from
reads_from P ws zero i last h reads = tt
reads_from P ws (suc n) i last h reads =
    (reads i (omega arith) (h i (omega arith) (omega arith)), reads_from P ws n (i + 1) last (λ t a b. h t (omega arith) (omega arith)) (λ t a b. reads t (omega arith) b))

-- those up to `end`, where all up to `last` are
read_within : (P : ℕ → Type 0) (ws : List ℕ) (start end last : ℕ) → end ≤ last → Reads P ws start last → AllRead P (terms ws start end)
read_within P ws start end last h reads = reads_from P ws (end - start) start last (λ t a b. omega arith) reads

-- two environments that give the variables of P the same
abbrev pub Same : (ℕ → Type 0) → List ℤ → List ℤ → Type 0
Same P env env' = (y : ℕ) → P y → (s : Numbers) → variable_of env y s ≡ variable_of env' y s

module _ (P : ℕ → Type 0) (env env' : List ℤ) (same : Same P env env') where
  operate_same : (m : Mode) (o : Operation) (s : Numbers) → OperationReads P o → operate_of m env o s ≡ operate_of m env' o s
  operate_same m (Operation.Number n) s r = refl
  operate_same m (Operation.Variable y) s r = same y r s
  operate_same m Operation.Add s r = refl
  operate_same m Operation.Subtract s r = refl
  operate_same m Operation.Multiply s r = refl
  operate_same m Operation.Negate s r = refl
  operate_same m Operation.Unknown s r = refl

  part_same : (m : Mode) (o : Operation) (s : Numbers) (t : ℕ) → OperationReads P o → after_of (operate_of m env o s) t ≡ after_of (operate_of m env' o s) t
  part_same m o s t r = ap (λ (x : Result Numbers TermError). after_of x t) (operate_same m o s r)

  step_same : (k : Kind) (m : Mode) (v : ℤ) (x : Term) (s : Numbers) (t : ℕ) → TermReads P x → step_of k m env v x s t ≡ step_of k m env' v x s t
  step_same Kind.Calculation m v (Term.Part o) s t r = part_same m o s t r
  step_same Kind.Calculation m v (Term.Single o) s t r = refl
  step_same Kind.Calculation m v Term.All s t r = refl
  step_same Kind.Calculation m v Term.Range s t r = refl
  step_same Kind.Calculation m v Term.From s t r = refl
  step_same Kind.Calculation m v Term.UpTo s t r = refl
  step_same Kind.Calculation m v Term.Or s t r = refl
  step_same Kind.Calculation m v Term.Except s t r = refl
  step_same Kind.Calculation m v Term.And s t r = refl
  step_same Kind.Calculation m v (Term.Compare k) s t r = refl
  step_same Kind.Calculation m v Term.Bad s t r = refl
  step_same Kind.Set m v (Term.Part o) s t r = part_same m o s t r
  step_same Kind.Set m v (Term.Single o) s t r = ap (λ (x : Result Numbers TermError). operated v x t) (operate_same m o s r)
  step_same Kind.Set m v Term.All s t r = refl
  step_same Kind.Set m v Term.Range s t r = refl
  step_same Kind.Set m v Term.From s t r = refl
  step_same Kind.Set m v Term.UpTo s t r = refl
  step_same Kind.Set m v Term.Or s t r = refl
  step_same Kind.Set m v Term.Except s t r = refl
  step_same Kind.Set m v Term.And s t r = refl
  step_same Kind.Set m v (Term.Compare k) s t r = refl
  step_same Kind.Set m v Term.Bad s t r = refl
  step_same Kind.Condition m v (Term.Part o) s t r = part_same m o s t r
  step_same Kind.Condition m v (Term.Single o) s t r = refl
  step_same Kind.Condition m v Term.All s t r = refl
  step_same Kind.Condition m v Term.Range s t r = refl
  step_same Kind.Condition m v Term.From s t r = refl
  step_same Kind.Condition m v Term.UpTo s t r = refl
  step_same Kind.Condition m v Term.Or s t r = refl
  step_same Kind.Condition m v Term.Except s t r = refl
  step_same Kind.Condition m v Term.And s t r = refl
  step_same Kind.Condition m v (Term.Compare k) s t r = refl
  step_same Kind.Condition m v Term.Bad s t r = refl

next_same : (go go' : Numbers → ℕ → Ended) → ((s : Numbers) (t : ℕ) → go s t ≡ go' s t) → (i : ℕ) (r : Result (Numbers × ℕ) TermError) → next go i r ≡ next go' i r
next_same go go' h i (Ok (s, t)) = h s t
next_same go go' h i (Err e) = refl

module _ (P : ℕ → Type 0) (env env' : List ℤ) (same : Same P env env') where
  run_same : (k : Kind) (m : Mode) (v : ℤ) (xs : List Term) (i : ℕ) → AllRead P xs → (s : Numbers) (t : ℕ) → run k m env v i xs s t ≡ run k m env' v i xs s t
  unfolding run
  run_same k m v [] i reads s t = refl
  run_same k m v (x ∷ xs) i reads s t =
      next_same (λ s' t'. run k m env v (i + 1) xs s' t') (λ s' t'. run k m env' v (i + 1) xs s' t') (λ s' t'. run_same k m v xs (i + 1) reads.1 s' t') i (step_of k m env v x s t)
      ∙ ap (next (λ s' t'. run k m env' v (i + 1) xs s' t') i) (step_same P env env' same k m v x s t reads.0)

  set_same : (v : ℤ) (i : ℕ) (xs : List Term) → AllRead P xs → membership env v i xs ≡ membership env' v i xs
  unfolding membership
  set_same v i xs reads = ap (λ (e : Ended). verdict_of e.trial) (run_same Kind.Set Mode.Values v xs i reads Numbers.Zero 1)

  calculations_within : (f : Form) (end : ℕ) → calculations_end f (end - 1) end ≤ end
  calculations_within Form.Exact end = omega arith
  calculations_within Form.Open end = omega arith
  calculations_within Form.UpTo end = omega arith
  calculations_within Form.Closed end = omega arith

  module _ (ws : List ℕ) where
    pub membership_same : (v : ℤ) (start end : ℕ) → Reads P ws start end → membership env v start (terms ws start end) ≡ membership env' v start (terms ws start end)
    membership_same v start end reads = set_same v start (terms ws start end) (read_within P ws start end end (omega arith) reads)

    pub condition_same : (start end : ℕ) → Reads P ws start end → condition env start (terms ws start end) ≡ condition env' start (terms ws start end)
    unfolding condition
    condition_same start end reads =
        ap (λ (e : Ended). verdict_of e.trial) (run_same Kind.Condition Mode.Values (pos 0) (terms ws start end) start (read_within P ws start end end (omega arith) reads) Numbers.Zero 1)

    pub counts_same : (start end : ℕ) → Reads P ws start end → counts env ws start end ≡ counts env' ws start end
    unfolding counts tallied
    counts_same start end reads =
        let f : Form = form_of (term_at ws (end - 1)) in
        ap (λ (e : Ended). (cond (ltb start end) (tally_end f e) (record { counted = Err TermError.Malformed; at = start })).counted)
        (run_same Kind.Calculation Mode.Values (pos 0) (terms ws start (calculations_end f (end - 1) end)) start (read_within P ws start (calculations_end f (end - 1) end) end (calculations_within f end) reads) Numbers.Zero 1)

-- ---- a list without a variable

unused : (x : Term) → uses_variable x ≡ false → TermReads (λ y. ⊥) x
unused (Term.Part (Operation.Number n)) e = tt
unused (Term.Part (Operation.Variable y)) e = let z : ◌≡◌ {A = ℕ} 0 1 = cc in omega arith
unused (Term.Part Operation.Add) e = tt
unused (Term.Part Operation.Subtract) e = tt
unused (Term.Part Operation.Multiply) e = tt
unused (Term.Part Operation.Negate) e = tt
unused (Term.Part Operation.Unknown) e = tt
unused (Term.Single (Operation.Number n)) e = tt
unused (Term.Single (Operation.Variable y)) e = let z : ◌≡◌ {A = ℕ} 0 1 = cc in omega arith
unused (Term.Single Operation.Add) e = tt
unused (Term.Single Operation.Subtract) e = tt
unused (Term.Single Operation.Multiply) e = tt
unused (Term.Single Operation.Negate) e = tt
unused (Term.Single Operation.Unknown) e = tt
unused Term.All e = tt
unused Term.Range e = tt
unused Term.From e = tt
unused Term.UpTo e = tt
unused Term.Or e = tt
unused Term.Except e = tt
unused Term.And e = tt
unused (Term.Compare k) e = tt
unused Term.Bad e = tt

neither : (a b : Bool) → cond a true b ≡ false → (a ≡ false) × (b ≡ false)
neither true b e = let z : ◌≡◌ {A = ℕ} 0 1 = cc in absurd (omega arith)
neither false b e = (refl, e)

none_read : (xs : List Term) → has_variable xs ≡ false → AllRead (λ y. ⊥) xs
unfolding has_variable
none_read [] e = tt
none_read (x ∷ xs) e = (unused x (neither (uses_variable x) (has_variable xs) e).0, none_read xs (neither (uses_variable x) (has_variable xs) e).1)

read_at : (P : ℕ → Type 0) (ws : List ℕ) (n i : ℕ) → AllRead P (terms_from ws i n) → (t : ℕ) → i ≤ t → t < i + n → TermReads P (term_at ws t)
unfolding terms_from
read_at P ws zero i reads t low high = absurd (omega arith)
read_at P ws (suc n) i reads t low high = go (dec_le t i) (λ h. read_at P ws n (i + 1) reads.1 t h (omega arith))
  where
    go : Dec (t ≤ i) → (i + 1 ≤ t → TermReads P (term_at ws t)) → TermReads P (term_at ws t)
    go (yes h) rest = let e : i ≡ t = omega arith in subst (λ (q : ℕ). TermReads P (term_at ws q)) e reads.0
    go (no h) rest = rest (omega (arith, lt_of_not-le h))

no_variable : (ws : List ℕ) (start end : ℕ) → has_variable (terms ws start end) ≡ false → Reads (λ y. ⊥) ws start end
no_variable ws start end e t low high = read_at (λ y. ⊥) ws (end - start) start (none_read (terms ws start end) e) t low (omega arith)

none_same : (env env' : List ℤ) → Same (λ y. ⊥) env env'
none_same env env' y p s = absurd p

pub membership_constant : (env env' : List ℤ) (v : ℤ) (i : ℕ) (xs : List Term) → has_variable xs ≡ false → membership env v i xs ≡ membership env' v i xs
membership_constant env env' v i xs e = set_same (λ y. ⊥) env env' (none_same env env') v i xs (none_read xs e)

pub counts_constant : (env env' : List ℤ) (ws : List ℕ) (start end : ℕ) → has_variable (terms ws start end) ≡ false → counts env ws start end ≡ counts env' ws start end
counts_constant env env' ws start end e = counts_same (λ y. ⊥) env env' (none_same env env') ws start end (no_variable ws start end e)
