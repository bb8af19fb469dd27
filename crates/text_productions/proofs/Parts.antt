-- A terminal that is handed to the parts that wait leads from phrases of what waits then to phrases of what waited before.
-- Assumes nothing.
use mathlib.Core.Path.{◌≡◌, refl}
use mathlib.Core.Bool.{Bool, true, false}
use mathlib.Core.List.{List, [], ◌∷◌, ◌++◌}
use Prim.Native.Nat.{ℕ}
use Rattle.text_store.specs.Store.{State}
use Rattle.text_parsing.specs.Symbols.{Symbol, want, sign, paren, primary, operand, factors, summands, calculation, item, item_tail, bound, exception, excluded, alternative, alternatives, value_set, counts, counts_tail, test, comparison, condition, joined, chain, atom, factor, concatenation, expression, marked, counts_end, members, branches, character_tail, last_character, width, field_set, bound_name, field_end, colon, case_end, cases, switch_end, rules, rule_end}
use Rattle.text_parsing.specs.Form.{Consumed, go, done, fault}
use Rattle.text_productions.specs.Phrases.{Production, Phrases, nothing, then}

-- rules wait below all else, and below them nothing
abbrev pub Ground : List Symbol → Type 0
Ground [] = ⊥
Ground (want _ ∷ ks) = Ground ks
Ground (sign _ _ _ ∷ ks) = Ground ks
Ground (paren _ ∷ ks) = Ground ks
Ground (primary _ ∷ ks) = Ground ks
Ground (operand _ ∷ ks) = Ground ks
Ground (factors _ ∷ ks) = Ground ks
Ground (summands _ ∷ ks) = Ground ks
Ground (calculation ∷ ks) = Ground ks
Ground (item ∷ ks) = Ground ks
Ground (item_tail ∷ ks) = Ground ks
Ground (bound _ _ _ ∷ ks) = Ground ks
Ground (exception _ ∷ ks) = Ground ks
Ground (excluded _ ∷ ks) = Ground ks
Ground (alternative _ ∷ ks) = Ground ks
Ground (alternatives _ ∷ ks) = Ground ks
Ground (value_set _ ∷ ks) = Ground ks
Ground (counts ∷ ks) = Ground ks
Ground (counts_tail ∷ ks) = Ground ks
Ground (test _ ∷ ks) = Ground ks
Ground (comparison ∷ ks) = Ground ks
Ground (condition _ ∷ ks) = Ground ks
Ground (joined _ ∷ ks) = Ground ks
Ground (chain _ _ _ ∷ ks) = Ground ks
Ground (atom _ ∷ ks) = Ground ks
Ground (factor _ ∷ ks) = Ground ks
Ground (concatenation _ ∷ ks) = Ground ks
Ground (expression _ ∷ ks) = Ground ks
Ground (marked _ _ ∷ ks) = Ground ks
Ground (counts_end _ _ _ _ ∷ ks) = Ground ks
Ground (members _ _ _ _ ∷ ks) = Ground ks
Ground (branches _ _ _ _ ∷ ks) = Ground ks
Ground (character_tail _ ∷ ks) = Ground ks
Ground (last_character _ ∷ ks) = Ground ks
Ground (width _ _ ∷ ks) = Ground ks
Ground (field_set _ _ _ ∷ ks) = Ground ks
Ground (bound_name _ _ _ ∷ ks) = Ground ks
Ground (field_end _ _ _ _ _ ∷ ks) = Ground ks
Ground (colon _ _ ∷ ks) = Ground ks
Ground (case_end _ _ _ ∷ ks) = Ground ks
Ground (cases _ _ _ ∷ ks) = Ground ks
Ground (switch_end _ _ ∷ ks) = Ground ks
Ground (rules _ ∷ ks) = ks ≡ []
Ground (rule_end _ _ ∷ ks) = Ground ks

-- ---- phrases of parts in two lists

pub record Parts (xs : List ℕ) (qs ks : List Symbol) (a c : State) : Type 0 where
  pub middle : State
  pub first : Phrases xs qs a middle
  pub rest : Phrases xs ks middle c

split : {xs : List ℕ} (qs : List Symbol) {ks : List Symbol} {a c : State} → Phrases xs (qs ++ ks) a c → Parts xs qs ks a c
split [] {ks} {a} {c} p = record { middle = a; first = nothing; rest = p }
split (k ∷ qs) (then p q r) =
    let s = split qs r
    in record { middle = s.middle; first = then p q s.first; rest = s.rest }

close : {xs : List ℕ} {k : Symbol} {qs ks : List Symbol} {a b c : State} → Production xs k a b qs → Phrases xs (qs ++ ks) b c → Phrases xs (k ∷ ks) a c
close {qs = qs} p r =
    let s = split qs r
    in then p s.first s.rest

-- ---- a terminal

pub data Leads (xs : List ℕ) (st : State) (ks : List Symbol) : Consumed → Type 0 where
  goes : {st' : State} {ks' : List Symbol} → ((f : State) → Phrases xs ks' st' f → Phrases xs ks st f) → (Ground ks → Ground ks') → Leads xs st ks (go st' ks')
  ends : {st' : State} → (Ground ks → Phrases xs ks st st') → Leads xs st ks (done st')
  faults : Leads xs st ks fault

pub taken : {xs : List ℕ} {st : State} {ks : List Symbol} → Leads xs st ks (go st ks)
taken = goes (λ f p. p) (λ g. g)

-- a part is made of others, which wait in its place
pub made : {xs : List ℕ} {k : Symbol} {qs ks : List Symbol} {a b : State} {r : Consumed} → Production xs k a b qs → (Ground (k ∷ ks) → Ground (qs ++ ks)) → Leads xs b (qs ++ ks) r → Leads xs a (k ∷ ks) r
made p g (goes f h) = goes (λ c z. close p (f c z)) (λ u. h (g u))
made p g (ends e) = ends (λ u. close p (e (g u)))
made p g faults = faults

-- one way or the other, by a test
pub by_test : {xs : List ℕ} {st : State} {ks : List Symbol} (t : Bool) {x y : Consumed} → (t ≡ true → Leads xs st ks x) → (t ≡ false → Leads xs st ks y) → Leads xs st ks (elim t [ true ↦ x | false ↦ y ])
by_test true f g = f refl
by_test false f g = g refl
