-- Lists of one, two and three terms: what they come to is the last term's step, and each number before it waits.
-- Assumes nothing.
use Prim.Native.Nat.{ℕ, zero, suc, ◌+◌, ◌*◌, ◌-◌, ◌^◌, ◌≤◌, ◌<◌, ◌/◌}
use mathlib.Core.Path.{◌≡◌, refl, sym, ap, subst, ◌∙◌}
use mathlib.Core.Bool.{Bool, true, false, cond}
use mathlib.Core.List.{List}
use native.Mathlib.Omega.{arith}
use borrow.Author.Tests.{lt-ltb, leb-true}
use lib.Dec.{leb}
use lib.ListN.{length, get_or}
use lib.IntN.{ℤ, pos, nat_abs}
use lib.Signed.{mag, le_z}
use mir.Syntax.{w64}
use mir.Val.{to_z, of_z}
use Rattle.basis.specs.Counts.{exactly, at_least, span}
use Rattle.term_integers.proofs.Laws.{back, read₁, bounded_in}
use Rattle.term_words.specs.Numbers.{equals, pushed, kept}
use Rattle.term_words.specs.Steps.{variable_of, after_of, operated, compares, step_of}
use Rattle.term_words.specs.Tests.{noted}
use Rattle.term_words.specs.Words.{term_of, term_at, terms}
use Rattle.term_words.specs.declared.Comparison.{Comparison}
use Rattle.term_words.specs.declared.Kind.{Kind}
use Rattle.term_words.specs.declared.Mode.{Mode}
use Rattle.term_words.specs.declared.Numbers.{Numbers}
use Rattle.term_words.specs.declared.Operation.{Operation}
use Rattle.term_words.specs.declared.Term.{Term}
use Rattle.term_evaluation.specs.Counts.{shown, form_of, calculations_end, of_trial, tallied_by, tallied, counts}
use Rattle.term_evaluation.specs.Meaning.{next, run, verdict_of, membership, condition}
use Rattle.term_evaluation.specs.Short.{Puts, comparison_of}
use Rattle.term_evaluation.specs.declared.Ended.{Ended}
use Rattle.term_evaluation.specs.declared.Form.{Form}
use Rattle.term_evaluation.proofs.Runs.{goes, stops}
use Rattle.std.specs.Prelude.{Option, Result, Ok, Err}
use Rattle.term_words.specs.declared.TermError.{TermError}

-- ---- one term

-- a term by its first word
pub tagged : (ws : List ℕ) (i j t : ℕ) → i < length ws / 3 → j ≡ i * 3 → get_or ws j 0 ≡ t → term_at ws i ≡ term_of t (get_or ws (i * 3 + 1) 0) (get_or ws (i * 3 + 2) 0)
unfolding term_at
tagged ws i j t h e w =
    let w' : get_or ws (i * 3) 0 ≡ t = ap (λ (n : ℕ). get_or ws n 0) (sym e) ∙ w in
    simp (lt-ltb _ _ h, w')

-- a comparison's
compare_of : (d low high : ℕ) → d ≤ 5 → term_of (14 + d) low high ≡ Term.Compare (comparison_of (14 + d))
unfolding term_of
compare_of zero low high h = refl
compare_of (suc zero) low high h = refl
compare_of (suc (suc zero)) low high h = refl
compare_of (suc (suc (suc zero))) low high h = refl
compare_of (suc (suc (suc (suc zero)))) low high h = refl
compare_of (suc (suc (suc (suc (suc zero))))) low high h = refl
compare_of (suc (suc (suc (suc (suc (suc d)))))) low high h = absurd (omega arith)

pub comparing : (ws : List ℕ) (i j : ℕ) → i < length ws / 3 → j ≡ i * 3 → 14 ≤ get_or ws j 0 → get_or ws j 0 ≤ 19 → term_at ws i ≡ Term.Compare (comparison_of (get_or ws j 0))
comparing ws i j h e least most =
    let d : ℕ = get_or ws j 0 - 14 in
    let w : get_or ws j 0 ≡ 14 + d = omega arith in
    tagged ws i j (14 + d) h e w ∙ compare_of d (get_or ws (i * 3 + 1) 0) (get_or ws (i * 3 + 2) 0) (omega arith) ∙ ap (λ (t : ℕ). Term.Compare (comparison_of t)) (sym w)

-- a number
pub number_puts : (env : List ℤ) (x : Term) (n : ℕ) → x ≡ Term.Part (Operation.Number n) → n ≤ 2 ^ 62 → Puts env x (pos n)
number_puts env x n e h = (Operation.Number n, e, λ s. ap (kept s) (bounded_in (pos n) h))

-- what `number_at` says of a term
abbrev pub Numeral : List ℕ → ℕ → ℕ → ℕ → Type 0
Numeral ws i t n = (get_or ws (i * 3) 0 ≡ t) × (n ≡ get_or ws (i * 3 + 1) 0 + 4294967296 * get_or ws (i * 3 + 2) 0)

-- a number, a part of a calculation
pub number_operand : (env : List ℤ) (ws : List ℕ) (i n : ℕ) → i < length ws / 3 → Numeral ws i 1 n → n ≤ 2 ^ 62 → Puts env (term_at ws i) (pos n)
unfolding term_of
number_operand env ws i n h w small =
    number_puts env (term_at ws i) n (tagged ws i (i * 3) 1 h refl w.0 ∙ ap (λ (m : ℕ). Term.Part (Operation.Number m)) (sym w.1)) small

-- or an item
pub item_operand : (ws : List ℕ) (i n : ℕ) → i < length ws / 3 → Numeral ws i 33 n → term_at ws i ≡ Term.Single (Operation.Number n)
unfolding term_of
item_operand ws i n h w = tagged ws i (i * 3) 33 h refl w.0 ∙ ap (λ (m : ℕ). Term.Single (Operation.Number m)) (sym w.1)

-- a variable's use
pub variable_operand : (env : List ℤ) (ws : List ℕ) (i : ℕ) (z : ℤ) → i < length ws / 3 → get_or ws (i * 3) 0 ≡ 2 → ((s : Numbers) → variable_of env (get_or ws (i * 3 + 1) 0) s ≡ pushed s z) → Puts env (term_at ws i) z
unfolding term_of
variable_operand env ws i z h w value = (Operation.Variable (get_or ws (i * 3 + 1) 0), tagged ws i (i * 3) 2 h refl w, value)

pub variable_value : (env : List ℤ) (y : ℕ) → y < length env → nat_abs (get_or env y (pos 0)) ≤ 2 ^ 62 → (s : Numbers) → variable_of env y s ≡ pushed s (get_or env y (pos 0))
unfolding variable_of
variable_value env y h small s = simp (lt-ltb _ _ h, bounded_in (get_or env y (pos 0)) small)

-- as it is read
pub value_read : (env : List ℤ) (y : ℕ) → y < length env → mag (get_or env y (pos 0)) < 2 ^ 63 → nat_abs (to_z w64 (of_z w64 (get_or env y (pos 0)))) ≤ 2 ^ 62 → (s : Numbers) → variable_of env y s ≡ pushed s (to_z w64 (of_z w64 (get_or env y (pos 0))))
value_read env y h fits small s =
    let e : to_z w64 (of_z w64 (get_or env y (pos 0))) ≡ get_or env y (pos 0) = back (get_or env y (pos 0)) fits in
    variable_value env y h (subst (λ (z : ℤ). nat_abs z ≤ 2 ^ 62) e small) s ∙ ap (pushed s) (sym e)

-- a number that was found to be at most 2^62
pub small : (z : ℤ) (r : Bool) → mag z < 2 ^ 63 → r ≡ leb (nat_abs (to_z w64 (of_z w64 z))) (2 ^ 62) → r ≡ true → nat_abs z ≤ 2 ^ 62
small z r fits e t = leb-true (nat_abs z) (2 ^ 62) (sym (read₁ (λ (x : ℤ). leb (nat_abs x) (2 ^ 62)) z fits e) ∙ t)

-- its step, in a list of any kind
puts_step : (k : Kind) (env : List ℤ) (v : ℤ) (x : Term) (z : ℤ) → Puts env x z → (s : Numbers) (t : ℕ) → step_of k Mode.Values env v x s t ≡ after_of (pushed s z) t
puts_step Kind.Calculation env v x z p s t = ap (λ (y : Term). step_of Kind.Calculation Mode.Values env v y s t) p.1 ∙ ap (λ (o : Result Numbers TermError). after_of o t) (p.2 s)
puts_step Kind.Set env v x z p s t = ap (λ (y : Term). step_of Kind.Set Mode.Values env v y s t) p.1 ∙ ap (λ (o : Result Numbers TermError). after_of o t) (p.2 s)
puts_step Kind.Condition env v x z p s t = ap (λ (y : Term). step_of Kind.Condition Mode.Values env v y s t) p.1 ∙ ap (λ (o : Result Numbers TermError). after_of o t) (p.2 s)

-- ---- lists

ends : (go : Numbers → ℕ → Ended) (i : ℕ) (r : Result (Numbers × ℕ) TermError) → ((s : Numbers) (t : ℕ) → (go s t).trial ≡ Ok (s, t)) → (next go i r).trial ≡ r
ends go i (Ok (s, t)) h = h s t
ends go i (Err e) h = refl

module _ (k : Kind) (env : List ℤ) (v : ℤ) (ws : List ℕ) where
  -- the last term
  at_last : (i end : ℕ) (s : Numbers) (t : ℕ) → i + 1 ≡ end → (run k Mode.Values env v i (terms ws i end) s t).trial ≡ step_of k Mode.Values env v (term_at ws i) s t
  at_last i end s t e =
      ap (λ (r : Ended). r.trial) (goes k Mode.Values env v ws i end s t (omega arith) (step_of k Mode.Values env v (term_at ws i) s t) refl)
      ∙ ends (λ (s' : Numbers) (t' : ℕ). run k Mode.Values env v (i + 1) (terms ws (i + 1) end) s' t') i (step_of k Mode.Values env v (term_at ws i) s t) (λ s' t'. ap (λ (r : Ended). r.trial) (stops k Mode.Values env v ws (i + 1) end s' t' (omega arith)))

  -- a number before others
  at_first : (i end : ℕ) (s s' : Numbers) (z : ℤ) (t : ℕ) → i < end → Puts env (term_at ws i) z → pushed s z ≡ Ok s' → run k Mode.Values env v i (terms ws i end) s t ≡ run k Mode.Values env v (i + 1) (terms ws (i + 1) end) s' t
  at_first i end s s' z t h p e = goes k Mode.Values env v ws i end s t h (Ok (s', t)) (puts_step k env v (term_at ws i) z p s t ∙ ap (λ (o : Result Numbers TermError). after_of o t) e)

  pub one : (start end : ℕ) → start + 1 ≡ end → (run k Mode.Values env v start (terms ws start end) Numbers.Zero 1).trial ≡ step_of k Mode.Values env v (term_at ws start) Numbers.Zero 1
  one start end e = at_last start end Numbers.Zero 1 e

  pub two : (start end : ℕ) (a : ℤ) → start + 2 ≡ end → Puts env (term_at ws start) a → (run k Mode.Values env v start (terms ws start end) Numbers.Zero 1).trial ≡ step_of k Mode.Values env v (term_at ws (start + 1)) (Numbers.One a) 1
  two start end a e p =
      ap (λ (r : Ended). r.trial) (at_first start end Numbers.Zero (Numbers.One a) a 1 (omega arith) p refl)
      ∙ at_last (start + 1) end (Numbers.One a) 1 (omega arith)

  pub three : (start end : ℕ) (a b : ℤ) → start + 3 ≡ end → Puts env (term_at ws start) a → Puts env (term_at ws (start + 1)) b → (run k Mode.Values env v start (terms ws start end) Numbers.Zero 1).trial ≡ step_of k Mode.Values env v (term_at ws (start + 1 + 1)) (Numbers.Two a b) 1
  three start end a b e p q =
      ap (λ (r : Ended). r.trial) (at_first start end Numbers.Zero (Numbers.One a) a 1 (omega arith) p refl)
      ∙ ap (λ (r : Ended). r.trial) (at_first (start + 1) end (Numbers.One a) (Numbers.Two a b) b 1 (omega arith) q refl)
      ∙ at_last (start + 1 + 1) end (Numbers.Two a b) 1 (omega arith)

-- ---- what is said of them

-- one test
answer : (b : Bool) → verdict_of (noted Numbers.Zero 1 b) ≡ Ok b
unfolding noted
answer true = refl
answer false = refl

module _ (env : List ℤ) (v : ℤ) (ws : List ℕ) (start end : ℕ) where
  pub all_in : start + 1 ≡ end → term_at ws start ≡ Term.All → membership env v start (terms ws start end) ≡ Ok true
  unfolding membership
  all_in e x = ap verdict_of (one Kind.Set env v ws start end e ∙ ap (λ (y : Term). step_of Kind.Set Mode.Values env v y Numbers.Zero 1) x) ∙ answer true

  pub item_in : (n : ℕ) → start + 1 ≡ end → term_at ws start ≡ Term.Single (Operation.Number n) → n ≤ 2 ^ 62 → membership env v start (terms ws start end) ≡ Ok (equals (pos n) v)
  unfolding membership
  item_in n e x h =
      ap verdict_of (one Kind.Set env v ws start end e ∙ ap (λ (y : Term). step_of Kind.Set Mode.Values env v y Numbers.Zero 1) x ∙ ap (λ (r : Option ℤ). operated v (kept Numbers.Zero r) 1) (bounded_in (pos n) h)) ∙ answer (equals (pos n) v)

  pub from_in : (a : ℤ) → start + 2 ≡ end → Puts env (term_at ws start) a → term_at ws (start + 1) ≡ Term.From → membership env v start (terms ws start end) ≡ Ok (le_z a v)
  unfolding membership
  from_in a e p x = ap verdict_of (two Kind.Set env v ws start end a e p ∙ ap (λ (y : Term). step_of Kind.Set Mode.Values env v y (Numbers.One a) 1) x) ∙ answer (le_z a v)

  pub up_to_in : (b : ℤ) → start + 2 ≡ end → Puts env (term_at ws start) b → term_at ws (start + 1) ≡ Term.UpTo → membership env v start (terms ws start end) ≡ Ok (le_z v b)
  unfolding membership
  up_to_in b e p x = ap verdict_of (two Kind.Set env v ws start end b e p ∙ ap (λ (y : Term). step_of Kind.Set Mode.Values env v y (Numbers.One b) 1) x) ∙ answer (le_z v b)

  pub range_in : (a b : ℤ) → start + 3 ≡ end → Puts env (term_at ws start) a → Puts env (term_at ws (start + 1)) b → term_at ws (start + 1 + 1) ≡ Term.Range → membership env v start (terms ws start end) ≡ Ok (cond (le_z a v) (le_z v b) false)
  unfolding membership
  range_in a b e p q x = ap verdict_of (three Kind.Set env v ws start end a b e p q ∙ ap (λ (y : Term). step_of Kind.Set Mode.Values env v y (Numbers.Two a b) 1) x) ∙ answer (cond (le_z a v) (le_z v b) false)

pub compared_in : (env : List ℤ) (ws : List ℕ) (start end : ℕ) (k : Comparison) (a b : ℤ) → start + 3 ≡ end → Puts env (term_at ws start) a → Puts env (term_at ws (start + 1)) b → term_at ws (start + 1 + 1) ≡ Term.Compare k → condition env start (terms ws start end) ≡ Ok (compares k a b)
unfolding condition
compared_in env ws start end k a b e p q x =
    ap verdict_of (three Kind.Condition env (pos 0) ws start end a b e p q ∙ ap (λ (y : Term). step_of Kind.Condition Mode.Values env (pos 0) y (Numbers.Two a b) 1) x) ∙ answer (compares k a b)

-- ---- counts

module _ (env : List ℤ) (ws : List ℕ) (start end : ℕ) where
  -- by the last term
  counts_by : (x : Term) → start < end → term_at ws (end - 1) ≡ x → counts env ws start end ≡ of_trial (form_of x) (run Kind.Calculation Mode.Values env (pos 0) start (terms ws start (calculations_end (form_of x) (end - 1) end)) Numbers.Zero 1).trial
  unfolding counts tallied
  counts_by x h e =
      ap (λ (b : Bool). (cond b (tallied_by (form_of (term_at ws (end - 1))) Mode.Values env ws start end) (record { counted = Err TermError.Malformed; at = start })).counted) (lt-ltb _ _ h)
      ∙ ap (λ (y : Term). (tallied_by (form_of y) Mode.Values env ws start end).counted) e

  pub exact_count : (a : ℤ) → start + 1 ≡ end → Puts env (term_at ws start) a → counts env ws start end ≡ shown (exactly a)
  exact_count a e p =
      let e' : end - 1 ≡ start = omega arith in
      counts_by (Term.Part p.0) (omega arith) (ap (term_at ws) e' ∙ p.1)
      ∙ ap (of_trial Form.Exact) (one Kind.Calculation env (pos 0) ws start end e ∙ puts_step Kind.Calculation env (pos 0) (term_at ws start) a p Numbers.Zero 1)

  one_number : (f : Form) (a : ℤ) → start + 2 ≡ end → Puts env (term_at ws start) a → of_trial f (run Kind.Calculation Mode.Values env (pos 0) start (terms ws start (end - 1)) Numbers.Zero 1).trial ≡ of_trial f (Ok (Numbers.One a, 1))
  one_number f a e p = ap (of_trial f) (one Kind.Calculation env (pos 0) ws start (end - 1) (omega arith) ∙ puts_step Kind.Calculation env (pos 0) (term_at ws start) a p Numbers.Zero 1)

  pub open_count : (a : ℤ) → start + 2 ≡ end → Puts env (term_at ws start) a → term_at ws (start + 1) ≡ Term.From → counts env ws start end ≡ shown (at_least a)
  open_count a e p x =
      let e' : end - 1 ≡ start + 1 = omega arith in
      counts_by Term.From (omega arith) (ap (term_at ws) e' ∙ x) ∙ one_number Form.Open a e p

  pub up_to_count : (b : ℤ) → start + 2 ≡ end → Puts env (term_at ws start) b → term_at ws (start + 1) ≡ Term.UpTo → counts env ws start end ≡ shown (span (pos 0) b)
  up_to_count b e p x =
      let e' : end - 1 ≡ start + 1 = omega arith in
      counts_by Term.UpTo (omega arith) (ap (term_at ws) e' ∙ x) ∙ one_number Form.UpTo b e p

  pub closed_count : (a b : ℤ) → start + 3 ≡ end → Puts env (term_at ws start) a → Puts env (term_at ws (start + 1)) b → term_at ws (start + 1 + 1) ≡ Term.Range → counts env ws start end ≡ shown (span a b)
  closed_count a b e p q x =
      let e' : end - 1 ≡ start + 1 + 1 = omega arith in
      counts_by Term.Range (omega arith) (ap (term_at ws) e' ∙ x)
      ∙ ap (of_trial Form.Closed) (two Kind.Calculation env (pos 0) ws start (end - 1) a (omega arith) p ∙ puts_step Kind.Calculation env (pos 0) (term_at ws (start + 1)) b q (Numbers.One a) 1)
