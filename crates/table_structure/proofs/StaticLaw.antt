-- What the theory asks of a node by itself, in the grammar that any words hold: what is static covers what happens, a field takes a bit,
-- and a use leaves values as last bound.
-- Assumes nothing.
use Prim.Native.Nat.{ℕ, zero, suc, ◌+◌, ◌-◌, ◌≤◌}
use mathlib.Core.Path.{◌≡◌, refl, ap, ◌∙◌}
use mathlib.Core.Logic.{inl, inr}
use mathlib.Core.Bool.{Bool, true, false, cond}
use mathlib.Core.List.Memᴰ
use mathlib.Core.List.{List, [], ◌∷◌, ◌++◌}
use mathlib.Core.Option.{Option, some}
use native.Mathlib.Omega.{arith}
use lib.Dec.{ltb, eqb}
use lib.IntN.{ℤ, pos, negsuc}
use lib.ListN.{length, take}
use Rattle.basis.specs.Bits.{Bits}
use Rattle.basis.specs.Patterns.{pattern_value}
use Rattle.basis.specs.Counts.{Allows, exactly}
use Rattle.basis.proofs.Booleans.{which, picked}
use Rattle.term_words.specs.Words.{term_at, terms}
use Rattle.term_evaluation.specs.Meaning.{run, condition}
use Rattle.term_evaluation.specs.declared.Tally.{Tally}
use Rattle.term_evaluation.specs.Counts.{shown, form_of, calculations_end, of_numbers, of_trial, tallied_by, tallied, counts}
use Rattle.term_evaluation.specs.Variables.{has_variable}
use Rattle.term_evaluation.specs.declared.Form.{Form}
use Rattle.term_words.specs.declared.Kind.{Kind}
use Rattle.term_words.specs.declared.Mode.{Mode}
use Rattle.term_words.specs.declared.Numbers.{Numbers}
use Rattle.theory.specs.Grammar.{alternative, concatenation, repetition, switch, use_of, field, eod, ◌∈◌}
use Rattle.theory.specs.Hypotheses.{Static}
use Rattle.table_layout.specs.Places.{construct_word}
use Rattle.table_layout.specs.Constructs.{construct_at}
use Rattle.table_layout.specs.Held.{Context, Values, HeldNode, term_words, terms_of, parts, allowed, is_yes, passes_allowed, passes_static, is_exact, passes_fixed, first_case, literal_bytes, in_set, in_static_set, node_of, opening, held}
use Rattle.table_layout.specs.declared.Construct.{Construct}
use Rattle.table_layout.specs.declared.Passes.{Passes}
use Rattle.table_layout.proofs.Bounds.{Fine, fine}
use Rattle.term_evaluation.proofs.Reading.{membership_constant, counts_constant}
use Rattle.std.specs.Prelude.{Result, Ok, Err}
use Rattle.term_words.specs.declared.TermError.{TermError}
use Rattle.term_evaluation.specs.declared.Allowed.{Allowed}

-- what is asked of a node
abbrev StaticOf : HeldNode → Type 0
StaticOf (alternative is) = Unit {0}
StaticOf (concatenation is) = Unit {0}
StaticOf (repetition counts static fixed b) =
    ((c : Context) (v : Values) (k : ℕ) → Allows (counts c v) k → Allows static k)
    × (fixed ≡ true → (c : Context) (v : Values) (j k : ℕ) → Allows (counts c v) j → Allows (counts c v) k → j ≡ k)
StaticOf (switch chosen optional is) = (c : Context) (v : Values) (b : ℕ) → chosen c v ≡ some b → b ∈ is
StaticOf (use_of enters opens closes b) = (v v' : Values) → closes v v' ≡ v'
StaticOf (field w admits static binds) =
    ((c : Context) (v : Values) (bits : Bits) → admits c v bits ≡ true → static bits ≡ true) × ((s r : Bits) → w s ≤ length s → w (take (w s) s ++ r) ≡ w s)
    × ((s : Bits) → 1 ≤ w s)
StaticOf eod = Unit {0}

-- "a set with a variable counting as `~`"
set_static : (ws : List ℕ) (start end : ℕ) (v : Values) (n : ℤ) → in_set ws start end v n ≡ true → in_static_set ws start end n ≡ true
set_static ws start end v n e =
    elim (which (has_variable (terms_of ws start end))) [
      | inl t ↦ rw t
      | inr t ↦ rw t (ap is_yes (membership_constant [] v n start (terms (term_words ws) start end) t) ∙ e)
    ]

-- "counts with a variable allowing all"
passes_covered : (ws : List ℕ) (p : Passes) (v : Values) (k : ℕ) → Allows (passes_allowed ws p v) k → Allows (passes_static ws p) k
passes_covered ws Passes.Optional v k a = a
passes_covered ws Passes.Any v k a = a
passes_covered ws Passes.Some v k a = a
passes_covered ws (Passes.Counted start end) v k a =
    elim (which (has_variable (terms_of ws start end))) [
      | inl t ↦ rw t (omega arith)
      | inr t ↦ rw (t, counts_constant [] v (term_words ws) start end t) a
    ]

-- `{n}` is one number at most
one_number : (a : ℤ) (j k : ℕ) → Allows (allowed (shown (exactly a))) j → Allows (allowed (shown (exactly a))) k → j ≡ k
unfolding exactly
one_number (pos n) j k x y = omega (arith, x.0, x.1, y.0, y.1)
one_number (negsuc n) j k x y = absurd x

exact_numbers : (s : Numbers) (j k : ℕ) → Allows (allowed (of_numbers Form.Exact s)) j → Allows (allowed (of_numbers Form.Exact s)) k → j ≡ k
exact_numbers Numbers.Zero j k x y = absurd x
exact_numbers (Numbers.One a) j k x y = one_number a j k x y
exact_numbers (Numbers.Two a b) j k x y = absurd x
exact_numbers (Numbers.Three a b c) j k x y = absurd x
exact_numbers (Numbers.Four a b c d) j k x y = absurd x

exact_trial : (r : Result (Numbers × ℕ) TermError) (j k : ℕ) → Allows (allowed (of_trial Form.Exact r)) j → Allows (allowed (of_trial Form.Exact r)) k → j ≡ k
exact_trial (Ok (s, t)) j k x y = exact_numbers s j k x y
exact_trial (Err TermError.Malformed) j k x y = absurd x
exact_trial (Err TermError.Overflow) j k x y = absurd x

is_exact_count : (f : Form) → is_exact f ≡ true → f ≡ Form.Exact
is_exact_count Form.Exact e = refl
is_exact_count Form.Open e = let z : ◌≡◌ {A = ℕ} 0 1 = cc in absurd (omega arith)
is_exact_count Form.UpTo e = let z : ◌≡◌ {A = ℕ} 0 1 = cc in absurd (omega arith)
is_exact_count Form.Closed e = let z : ◌≡◌ {A = ℕ} 0 1 = cc in absurd (omega arith)

abbrev Once : Result Allowed TermError → Type 0
Once c = (j k : ℕ) → Allows (allowed c) j → Allows (allowed c) k → j ≡ k

chosen_once : (b : Bool) (c : Tally) (start : ℕ) → Once c.counted → Once (cond b c (record { counted = Err TermError.Malformed; at = start })).counted
chosen_once true c start h = h
chosen_once false c start h = λ j k x y. absurd x

form_once : (f : Form) → f ≡ Form.Exact → (r : Result (Numbers × ℕ) TermError) → Once (of_trial f r)
form_once f h r = rw h (exact_trial r)

counts_once : (ws : List ℕ) (start end : ℕ) (v : Values) → is_exact (form_of (term_at ws (end - 1))) ≡ true → Once (counts v ws start end)
unfolding counts tallied
counts_once ws start end v e =
    let f : Form = form_of (term_at ws (end - 1))
    in chosen_once (ltb start end) (tallied_by f Mode.Values v ws start end) start
    (form_once f (is_exact_count f e) (run Kind.Calculation Mode.Values v (pos 0) start (terms ws start (calculations_end f (end - 1) end)) Numbers.Zero 1).trial)

passes_once : (ws : List ℕ) (p : Passes) → passes_fixed ws p ≡ true → (v : Values) (j k : ℕ) → Allows (passes_allowed ws p v) j → Allows (passes_allowed ws p v) k → j ≡ k
passes_once ws Passes.Optional e v j k x y = let z : ◌≡◌ {A = ℕ} 0 1 = cc in absurd (omega arith)
passes_once ws Passes.Any e v j k x y = let z : ◌≡◌ {A = ℕ} 0 1 = cc in absurd (omega arith)
passes_once ws Passes.Some e v j k x y = let z : ◌≡◌ {A = ℕ} 0 1 = cc in absurd (omega arith)
passes_once ws (Passes.Counted start end) e v j k x y = counts_once (term_words ws) start end v e j k x y

some_same : (a b : ℕ) → some a ≡ some b → b ≡ a
some_same a b e = cc

-- the case taken is one of the cases
pub case_listed : (ws : List ℕ) (v : Values) (bs : List ℕ) (b : ℕ) → first_case ws v bs ≡ some b → b ∈ bs
unfolding first_case
case_listed ws v [] b e = let z : ◌≡◌ {A = ℕ} 0 1 = cc in absurd (omega arith)
case_listed ws v (x ∷ bs) b e =
    elim (which (ltb (construct_word ws x 6) (construct_word ws x 7))) [
      | inl t ↦
          elim (which (is_yes (condition v (construct_word ws x 6) (terms_of ws (construct_word ws x 6) (construct_word ws x 7))))) [
            | inl s ↦ Memᴰ.head (some_same x b (rw (t, s, first_case) at e))
            | inr s ↦ Memᴰ.tail (case_listed ws v bs b (rw (t, s, first_case) at e))
          ]
      | inr t ↦ Memᴰ.head (some_same x b (rw (t, first_case) at e))
    ]

pub literal_long : (ws : List ℕ) (i k n : ℕ) → length (literal_bytes ws i k n) ≡ n
unfolding literal_bytes
literal_long ws i k zero = refl
literal_long ws i k (suc n) = ap suc (literal_long ws i (k + 1) n)

construct_static : (ws : List ℕ) (i : ℕ) (c : Construct) → Fine i c → StaticOf (node_of ws i c)
unfolding node_of
construct_static ws i Construct.Missing f = tt
construct_static ws i (Construct.Alternative size) f = tt
construct_static ws i (Construct.Concatenation size) f = tt
construct_static ws i (Construct.Repetition size p) f = (λ c v k a. passes_covered ws p v k a, λ e c v j k x y. passes_once ws p e v j k x y)
construct_static ws i (Construct.Switch size) f = λ c v b e. case_listed ws v (parts size ws (i + 1) (i + size)) b e
construct_static ws i (Construct.Use rule) f = λ v v'. refl
construct_static ws i (Construct.Literal n) f =
    (λ c v bits e. e, λ s r l. refl, λ s. let e : length (literal_bytes ws i 0 n) ≡ n = literal_long ws i 0 n in omega (arith, f.1))
construct_static ws i (Construct.Range low high) f = (λ c v bits e. e, λ s r l. refl, λ s. omega arith)
construct_static ws i (Construct.Uint signed width start end binder) f =
    (λ c v bits e. set_static ws start end v (pattern_value signed bits) e, λ s r l. refl, λ s. f.1)
construct_static ws i Construct.Eod f = tt

node_static : (ws : List ℕ) (i : ℕ) → StaticOf ((held ws).node i)
unfolding held
node_static ws i = picked StaticOf (eqb i opening) (λ e v v'. refl) (λ e. construct_static ws i (construct_at ws i) (fine ws i))

pub static : (ws : List ℕ) → Static (held ws)
static ws =
    record {
      bits_static = λ {i} e c v bits h. (rw e at (node_static ws i)).0 c v bits h;
      width_own = λ {i} e s r l. (rw e at (node_static ws i)).1 s r l;
      counts_static = λ {i} e c v k h. (rw e at (node_static ws i)).0 c v k h;
      fixed_once = λ {i} e c v j k x y. (rw e at (node_static ws i)).1 refl c v j k x y;
      chosen_listed = λ {i} {b} e c v h. (rw e at (node_static ws i)) c v b h;
    }

pub width_positive : (ws : List ℕ) (i : ℕ) {w : Bits → ℕ} {admits : Context → Values → Bits → Bool} {static : Bits → Bool} {binds : Context → Values → Bits → Values}
    → (held ws).node i ≡ field w admits static binds → (s : Bits) → 1 ≤ w s
width_positive ws i e s = (rw e at (node_static ws i)).2 s

pub values_stay : (ws : List ℕ) (i : ℕ) {b : ℕ} {enters : Context → Option Context} {opens : Context → Values → Values} {closes : Values → Values → Values}
    → (held ws).node i ≡ use_of enters opens closes b → (v v' : Values) → closes v v' ≡ v'
values_stay ws i e v v' = (rw e at (node_static ws i)) v v'
