-- The machine's steps, one law for each kind of construct, and runs of steps.
-- Assumes nothing.
use Prim.Native.Nat.{ℕ, zero, suc, ◌+◌}
use native.Mathlib.Omega.{arith}
use native.Mathlib.Nat.{add-zero, add_assoc}
use mathlib.Core.Path.{◌≡◌, refl, sym, ◌∙◌, ap, ap₂, subst}
use mathlib.Core.Bool.{Bool, true, false}
use mathlib.Core.List.{List, [], ◌∷◌, ◌++◌, append_assoc, append-nil}
use mathlib.Core.Option.{Option, none, some}
use lib.ListN.{length, take, drop, length-append}
use lib.Dec.{leb}
use Rattle.basis.specs.Bits.{Bits}
use Rattle.basis.specs.Counts.{Counts}
use Rattle.basis.specs.Lookahead.{lookahead}
use Rattle.theory.specs.Grammar.{Node, alternative, concatenation, repetition, switch, use_of, field, eod, Grammar}
use Rattle.theory.specs.Derivation.{Tree, covered, Capture, captures}
use Rattle.theory.specs.Machine.{Tests, Entry, entry, State, state, fail, again, leave, turn, choose, entries, act, step}

module _ {Context Values : Type 0} where
  -- where the machine is after a tree that began at bit p
  abbrev pub after : List (Entry Context) → Tree → ℕ → Bits → Values → List Capture → State Context Values
  after others t p r v cs = state others r (p + length (covered t)) v (cs ++ captures t p)

  -- one tree after another
  pub after_both : (others : List (Entry Context)) (p : ℕ) (r : Bits) (v : Values) (cs : List Capture) (t u : Tree) (b : Bits) (x : List Capture)
      → b ≡ covered t ++ covered u → x ≡ captures t p ++ captures u (p + length (covered t))
      → after others u (p + length (covered t)) r v (cs ++ captures t p) ≡ state others r (p + length b) v (cs ++ x)
  after_both others p r v cs t u b x e e' =
      rw (e, e', length-append (covered t) (covered u))
      (ap₂ (λ (n : ℕ) (l : List Capture). state others r n v l) (add_assoc p (length (covered t)) (length (covered u))) (append_assoc cs (captures t p) (captures u (p + length (covered t)))))

  pub after_none : (others : List (Entry Context)) (p : ℕ) (r : Bits) (v : Values) (cs : List Capture) → state others r p v cs ≡ state others r (p + 0) v (cs ++ [])
  after_none others p r v cs = ap₂ (λ (n : ℕ) (l : List Capture). state others r n v l) (sym (add-zero p)) (sym (append-nil cs))

module _ {Context Values : Type 0} (g : Grammar Context Values) (tests : Tests) where
  -- a step leads from one state to another; a step fails
  pub data Goes (σ τ : State Context Values) : Type 0 where
    goes : step g tests σ ≡ some τ → Goes σ τ

  pub data Stuck (σ : State Context Values) : Type 0 where
    stuck : step g tests σ ≡ none → Stuck σ

  module _ {i k : ℕ} {c : Context} {others : List (Entry Context)} {s : Bits} {p : ℕ} {v : Values} {cs : List Capture} where
    acts : {n : Node Context Values} {τ : State Context Values} → g.node i ≡ n → act g tests n i c k others s p v cs ≡ some τ → Goes (state (entry i c k ∷ others) s p v cs) τ
    unfolding step
    acts q e = Goes.goes (ap (λ (n : Node Context Values). act g tests n i c k others s p v cs) q ∙ e)

    halts : {n : Node Context Values} → g.node i ≡ n → act g tests n i c k others s p v cs ≡ none → Stuck (state (entry i c k ∷ others) s p v cs)
    unfolding step
    halts q e = Stuck.stuck (ap (λ (n : Node Context Values). act g tests n i c k others s p v cs) q ∙ e)

    pub step_alternative : {is : List ℕ} {b : ℕ} → g.node i ≡ alternative is → choose (λ b. tests.predicts b (lookahead s)) is ≡ some b
        → Goes (state (entry i c k ∷ others) s p v cs) (state (entry b c 0 ∷ others) s p v cs)
    unfolding act
    step_alternative q e = acts q (rw (e, act))

    pub step_concatenation : {is : List ℕ} → g.node i ≡ concatenation is → Goes (state (entry i c k ∷ others) s p v cs) (state (entries c is ++ others) s p v cs)
    unfolding act
    step_concatenation q = acts q refl

    pub step_again : {counts : Context → Values → Counts} {static : Counts} {fixed : Bool} {b : ℕ} → g.node i ≡ repetition counts static fixed b
        → turn (counts c v) k (tests.continues i (lookahead s)) (tests.exits i (lookahead s)) ≡ again
        → Goes (state (entry i c k ∷ others) s p v cs) (state (entry b c 0 ∷ entry i c (suc k) ∷ others) s p v cs)
    unfolding act
    step_again q e = acts q (rw (e, act))

    pub step_leave : {counts : Context → Values → Counts} {static : Counts} {fixed : Bool} {b : ℕ} → g.node i ≡ repetition counts static fixed b
        → turn (counts c v) k (tests.continues i (lookahead s)) (tests.exits i (lookahead s)) ≡ leave
        → Goes (state (entry i c k ∷ others) s p v cs) (state others s p v cs)
    unfolding act
    step_leave q e = acts q (rw (e, act))

    pub step_switch : {chosen : Context → Values → Option ℕ} {optional : Bool} {is : List ℕ} {b : ℕ} → g.node i ≡ switch chosen optional is → chosen c v ≡ some b
        → Goes (state (entry i c k ∷ others) s p v cs) (state (entry b c 0 ∷ others) s p v cs)
    unfolding act
    step_switch q e = acts q (rw (e, act))

    -- a switch with no true case and no default
    pub step_no_case : {chosen : Context → Values → Option ℕ} {optional : Bool} {is : List ℕ} → g.node i ≡ switch chosen optional is → chosen c v ≡ none → optional ≡ true
        → Goes (state (entry i c k ∷ others) s p v cs) (state others s p v cs)
    unfolding act
    step_no_case q e o = acts q (rw (e, o, act))

    pub step_use : {enters : Context → Option Context} {opens : Context → Values → Values} {closes : Values → Values → Values} {b : ℕ} {c' : Context}
        → g.node i ≡ use_of enters opens closes b → enters c ≡ some c' → Goes (state (entry i c k ∷ others) s p v cs) (state (entry b c' 0 ∷ others) s p (opens c v) cs)
    unfolding act
    step_use q e = acts q (rw (e, act))

    pub step_field : {w : Bits → ℕ} {admits : Context → Values → Bits → Bool} {static : Bits → Bool} {binds : Context → Values → Bits → Values}
        → g.node i ≡ field w admits static binds → leb (w s) (length s) ≡ true → admits c v (take (w s) s) ≡ true
        → Goes (state (entry i c k ∷ others) s p v cs) (state others (drop (w s) s) (p + w s) (binds c v (take (w s) s)) (cs ++ (record { construct = i; first_bit = p } ∷ [])))
    unfolding act
    step_field q l e = acts q (rw (l, e, act))

    -- where each kind fails
    pub fails_alternative : {is : List ℕ} → g.node i ≡ alternative is → choose (λ b. tests.predicts b (lookahead s)) is ≡ none → Stuck (state (entry i c k ∷ others) s p v cs)
    unfolding act
    fails_alternative q e = halts q (rw (e, act))

    pub fails_repetition : {counts : Context → Values → Counts} {static : Counts} {fixed : Bool} {b : ℕ} → g.node i ≡ repetition counts static fixed b
        → turn (counts c v) k (tests.continues i (lookahead s)) (tests.exits i (lookahead s)) ≡ fail → Stuck (state (entry i c k ∷ others) s p v cs)
    unfolding act
    fails_repetition q e = halts q (rw (e, act))

    pub fails_switch : {chosen : Context → Values → Option ℕ} {optional : Bool} {is : List ℕ} → g.node i ≡ switch chosen optional is → chosen c v ≡ none → optional ≡ false
        → Stuck (state (entry i c k ∷ others) s p v cs)
    unfolding act
    fails_switch q e o = halts q (rw (e, o, act))

    pub fails_use : {enters : Context → Option Context} {opens : Context → Values → Values} {closes : Values → Values → Values} {b : ℕ}
        → g.node i ≡ use_of enters opens closes b → enters c ≡ none → Stuck (state (entry i c k ∷ others) s p v cs)
    unfolding act
    fails_use q e = halts q (rw (e, act))

    pub fails_short : {w : Bits → ℕ} {admits : Context → Values → Bits → Bool} {static : Bits → Bool} {binds : Context → Values → Bits → Values}
        → g.node i ≡ field w admits static binds → leb (w s) (length s) ≡ false → Stuck (state (entry i c k ∷ others) s p v cs)
    unfolding act
    fails_short q l = halts q (rw (l, act))

    pub fails_field : {w : Bits → ℕ} {admits : Context → Values → Bits → Bool} {static : Bits → Bool} {binds : Context → Values → Bits → Values}
        → g.node i ≡ field w admits static binds → leb (w s) (length s) ≡ true → admits c v (take (w s) s) ≡ false → Stuck (state (entry i c k ∷ others) s p v cs)
    unfolding act
    fails_field q l e = halts q (rw (l, e, act))

  module _ {i k : ℕ} {c : Context} {others : List (Entry Context)} {p : ℕ} {v : Values} {cs : List Capture} where
    pub step_eod : g.node i ≡ eod → Goes (state (entry i c k ∷ others) [] p v cs) (state others [] p v cs)
    unfolding act
    step_eod q = acts q refl

    pub fails_eod : {b : Bool} {s : Bits} → g.node i ≡ eod → Stuck (state (entry i c k ∷ others) (b ∷ s) p v cs)
    unfolding act
    fails_eod q = halts q refl

  -- `Path P n σ τ`: n steps lead from σ to τ, and P holds of each state that is stepped on
  pub data Path (P : State Context Values → Type 0) : ℕ → State Context Values → State Context Values → Type 0 where
    here : {σ : State Context Values} → Path P zero σ σ
    next : {n : ℕ} {σ ρ τ : State Context Values} → P σ → Goes σ ρ → Path P n ρ τ → Path P (suc n) σ τ

  module _ {P : State Context Values → Type 0} where
    pub resize : {m n : ℕ} {σ τ : State Context Values} → m ≡ n → Path P m σ τ → Path P n σ τ
    resize {σ = σ} {τ} e q = subst (λ (x : ℕ). Path P x σ τ) e q

    pub arrive : {n : ℕ} {σ τ υ : State Context Values} → τ ≡ υ → Path P n σ τ → Path P n σ υ
    arrive {n} {σ} e q = subst (λ (x : State Context Values). Path P n σ x) e q

    pub then : {m n : ℕ} {σ τ υ : State Context Values} → Path P m σ τ → Path P n τ υ → Path P (m + n) σ υ
    then {n = n} Path.here r = resize (omega arith) r
    then {n = n} (Path.next {n = m} h e q) r = resize (omega arith) (Path.next h e (then q r))

    pub one_step : {σ τ : State Context Values} → P σ → Goes σ τ → Path P 1 σ τ
    one_step h e = Path.next h e Path.here
