-- What a step changes, and what therefore holds of a run at every moment.
-- Assumes nothing.
use Prim.Native.Nat.{ℕ, zero, suc, ◌+◌, ◌-◌, ◌≤◌}
use native.Mathlib.Omega.{arith}
use borrow.Author.Tests.{leb-true}
use mathlib.Core.Path.{◌≡◌, refl, sym, ◌∙◌, ap, subst}
use mathlib.Core.Logic.{inl, inr}
use mathlib.Core.Bool.{Bool}
use mathlib.Core.List.{List, [], ◌∷◌, ◌++◌}
use mathlib.Core.Option.{Option, none, some}
use lib.ListN.{length, take, drop, length-append, length-drop, length-map}
use lib.Seq.{drop-drop}
use lib.Dec.{leb}
use Rattle.basis.specs.Bits.{Bits}
use Rattle.basis.specs.Counts.{Counts}
use Rattle.basis.specs.Lookahead.{lookahead}
use Rattle.basis.proofs.Booleans.{which}
use Rattle.theory.specs.Grammar.{Node, alternative, concatenation, repetition, switch, use_of, field, eod, Grammar, ◌∈◌}
use Rattle.theory.specs.Derivation.{Capture}
use Rattle.theory.specs.Machine.{Tests, Entry, entry, State, state, pending_of, rest_of, position_of, captures_of, turn, choose, entries, act, step, undecided, matched, unmatched, Run, run, state_of, open_state, opened, stepped, granted}
use Rattle.theory.specs.Weight.{members_room, room, HasRoom}
use Rattle.theory.specs.Hypotheses.{Hypotheses}
use Rattle.theory.proofs.Progress.{chosen_in, in_largest, given, which_turn}

never : {A B : Type 0} {b : B} → none ≡ some b → A
never e = let z : ◌≡◌ {A = ℕ} 0 1 = cc in absurd (omega arith)

module _ {Context Values : Type 0} (g : Grammar Context Values) (tests : Tests) (h : Hypotheses g tests) where
  -- the entries that take an entry's place
  data Replaced (i : ℕ) (c : Context) (k : ℕ) : Node Context Values → List (Entry Context) → Type 0 where
    by_branch : {is : List ℕ} {b : ℕ} → b ∈ is → Replaced i c k (alternative is) (entry b c 0 ∷ [])
    by_members : {is : List ℕ} {es : List (Entry Context)} → es ≡ entries c is → Replaced i c k (concatenation is) es
    by_pass : {counts : Context → Values → Counts} {static : Counts} {fixed : Bool} {b : ℕ} → Replaced i c k (repetition counts static fixed b) (entry b c 0 ∷ entry i c (suc k) ∷ [])
    by_case : {chosen : Context → Values → Option ℕ} {optional : Bool} {is : List ℕ} {b : ℕ} → b ∈ is → Replaced i c k (switch chosen optional is) (entry b c 0 ∷ [])
    by_body : {enters : Context → Option Context} {opens : Context → Values → Values} {closes : Values → Values → Values} {b : ℕ} {c' : Context}
        → enters c ≡ some c' → Replaced i c k (use_of enters opens closes b) (entry b c' 0 ∷ [])
    by_none : {x : Node Context Values} → Replaced i c k x []

  -- what a step makes of a state whose first entry is (i, c, k) with node x
  data Effect (i : ℕ) (c : Context) (k : ℕ) (x : Node Context Values) (others : List (Entry Context)) (s : Bits) (p : ℕ) (cs : List Capture) : State Context Values → Type 0 where
    replaces : {es all : List (Entry Context)} {v : Values} → Replaced i c k x es → all ≡ es ++ others → Effect i c k x others s p cs (state all s p v cs)
    takes : {r : Bits} {p' : ℕ} {v : Values} {cs' : List Capture} (w : ℕ) → 1 ≤ w → p' ≡ p + w → w ≤ length s → r ≡ drop w s → length cs' ≡ length cs + 1
        → Effect i c k x others s p cs (state others r p' v cs')

  module _ {i : ℕ} {c : Context} {k : ℕ} {others : List (Entry Context)} {s : Bits} {p : ℕ} {cs : List Capture} where
    is_effect : {x : Node Context Values} {σ τ : State Context Values} → some σ ≡ some τ → Effect i c k x others s p cs σ → Effect i c k x others s p cs τ
    is_effect {x} {σ} {τ} e f = let z : σ ≡ τ = cc in subst (Effect i c k x others s p cs) z f

    effect_eod : (t : Bits) (v : Values) (τ : State Context Values) → t ≡ s → act g tests eod i c k others t p v cs ≡ some τ → Effect i c k eod others s p cs τ
    unfolding act
    effect_eod [] v τ z e = is_effect (subst (λ (x : Bits). some (state others x p v cs) ≡ some τ) z e) (Effect.replaces Replaced.by_none refl)
    effect_eod (b ∷ t) v τ z e = never e

    effect : (v : Values) (τ : State Context Values) (x : Node Context Values) → g.node i ≡ x → act g tests x i c k others s p v cs ≡ some τ → Effect i c k x others s p cs τ
    unfolding act
    effect v τ (alternative is) q e =
        elim (given (choose (λ b. tests.predicts b (lookahead s)) is))
        [ inl z ↦ never (rw (z, act) at e) | inr z ↦ is_effect (rw (z.1, act) at e) (Effect.replaces (Replaced.by_branch (chosen_in _ is z.0 z.1)) refl) ]
    effect v τ (concatenation is) q e = is_effect e (Effect.replaces (Replaced.by_members refl) refl)
    effect v τ (repetition counts static fixed b) q e =
        elim (which_turn (turn (counts c v) k (tests.continues i (lookahead s)) (tests.exits i (lookahead s)))) [
          | inl z ↦ never (rw (z, act) at e)
          | inr o ↦
              elim o
              [ inl z ↦ is_effect (rw (z, act) at e) (Effect.replaces Replaced.by_pass refl) | inr z ↦ is_effect (rw (z, act) at e) (Effect.replaces Replaced.by_none refl) ]
        ]
    effect v τ (switch chosen optional is) q e =
        elim (given (chosen c v)) [
          | inl z ↦ elim (which optional) [ inl o ↦ is_effect (rw (z, o, act) at e) (Effect.replaces Replaced.by_none refl) | inr o ↦ never (rw (z, o, act) at e) ]
          | inr z ↦ is_effect (rw (z.1, act) at e) (Effect.replaces (Replaced.by_case (h.static.chosen_listed q c v z.1)) refl)
        ]
    effect v τ (use_of enters opens closes b) q e =
        elim (given (enters c)) [ inl z ↦ never (rw (z, act) at e) | inr z ↦ is_effect (rw (z.1, act) at e) (Effect.replaces (Replaced.by_body z.1) refl) ]
    effect v τ (field w admits static binds) q e =
        elim (which (leb (w s) (length s))) [
          | inl z ↦
              elim (which (admits c v (take (w s) s))) [
                | inl y ↦
                    is_effect (rw (z, y, act) at e)
                    (Effect.takes (w s) (h.width_positive q s) refl (leb-true (w s) (length s) z) refl (length-append cs (record { construct = i; first_bit = p } ∷ [])))
                | inr y ↦ never (rw (z, y, act) at e)
              ]
          | inr z ↦ never (rw (z, act) at e)
        ]
    effect v τ eod q e = effect_eod s v τ refl e

  -- what is left of the frame `all` is what stands from the position on; each capture took a bit
  pub record Tallied (all : Bits) (σ : State Context Values) : Type 0 where
    pub rest : rest_of σ ≡ drop (position_of σ) all
    pub reached : position_of σ ≤ length all
    pub few : length (captures_of σ) ≤ position_of σ

  tally_effect : {i k : ℕ} {c : Context} {x : Node Context Values} {others : List (Entry Context)} {s : Bits} {p : ℕ} {v : Values} {cs : List Capture} {τ : State Context Values} (all : Bits)
      → Tallied all (state (entry i c k ∷ others) s p v cs) → Effect i c k x others s p cs τ → Tallied all τ
  tally_effect all t (Effect.replaces y z) = record { rest = t.rest; reached = t.reached; few = t.few }
  tally_effect {s = s} {p} all t (Effect.takes w l e e' e'' e''') =
      let n : length s ≡ length all - p = ap length t.rest ∙ length-drop p all in
      let m = t.reached in
      record { rest = rw (e, e'', t.rest, drop-drop w p all); reached = omega arith; few = let f = t.few in omega arith }

  pub tally_step : (all : Bits) (σ τ : State Context Values) → Tallied all σ → step g tests σ ≡ some τ → Tallied all τ
  unfolding step
  tally_step all (state [] s p v cs) τ t e = never e
  tally_step all (state (entry i c k ∷ others) s p v cs) τ t e = tally_effect all t (effect v τ (g.node i) refl e)

  module _ (rooms : Context → ℕ → ℕ) (has_room : HasRoom g rooms) where
    -- each entry, with those after it, has room
    abbrev Housed : List (Entry Context) → ℕ → Type 0
    Housed [] m = Unit {0}
    Housed (entry i c k ∷ es) m = (rooms c i + length es ≤ m) × Housed es m

    housed_length : (es : List (Entry Context)) {m : ℕ} → Housed es m → length es ≤ m
    housed_length [] t = omega arith
    housed_length (entry i c k ∷ es) t = let z = (has_room c i).0 in omega arith

    entries_length : (c : Context) (is : List ℕ) (others : List (Entry Context)) → length (entries c is ++ others) ≡ length is + length others
    entries_length c is others = length-append (entries c is) others ∙ ap (λ (n : ℕ). n + length others) (length-map is (λ i. entry i c 0))

    house_members : (c : Context) (is : List ℕ) (others : List (Entry Context)) (m : ℕ) → Housed others m → members_room (rooms c) is + length others ≤ m → Housed (entries c is ++ others) m
    unfolding members_room
    house_members c [] others m t l = t
    house_members c (i ∷ is) others m t l = (let z = entries_length c is others in omega arith, house_members c is others m t (omega arith))

    house_replaced : (m : ℕ) {i k : ℕ} {c : Context} (others : List (Entry Context)) {x : Node Context Values} {es : List (Entry Context)}
        → Replaced i c k x es → room rooms c x ≤ rooms c i → Housed (entry i c k ∷ others) m → Housed (es ++ others) m
    unfolding room
    house_replaced m {c = c} others (Replaced.by_branch b) l t = (let z = in_largest (rooms c) b in omega arith, t.1)
    house_replaced m {c = c} others (Replaced.by_members {is} e) l t =
        subst (λ (es : List (Entry Context)). Housed (es ++ others) m) (sym e) (house_members c is others m t.1 (omega arith))
    house_replaced m others Replaced.by_pass l t = (omega arith, (t.0, t.1))
    house_replaced m {c = c} others (Replaced.by_case b) l t = (let z = in_largest (rooms c) b in omega arith, t.1)
    house_replaced m {i = i} {c = c} others (Replaced.by_body {b = b} {c' = c'} e) l t = (let z : rooms c' b ≤ rooms c i = rw (e, room) at l in omega arith, t.1)
    house_replaced m others Replaced.by_none l t = t.1

    house_effect : (m : ℕ) {i k : ℕ} {c : Context} {others : List (Entry Context)} {x : Node Context Values} {s : Bits} {p : ℕ} {cs : List Capture} {τ : State Context Values}
        → room rooms c x ≤ rooms c i → Housed (entry i c k ∷ others) m → Effect i c k x others s p cs τ → Housed (pending_of τ) m
    house_effect m l t (Effect.takes w l' e e' e'' e''') = t.1
    house_effect m {others = others} l t (Effect.replaces {all = all} y z) = subst (λ (es : List (Entry Context)). Housed es m) (sym z) (house_replaced m others y l t)

    house_step : (m : ℕ) (σ τ : State Context Values) → Housed (pending_of σ) m → step g tests σ ≡ some τ → Housed (pending_of τ) m
    unfolding step
    house_step m (state [] s p v cs) τ t e = never e
    house_step m (state (entry i c k ∷ others) s p v cs) τ t e = house_effect m (has_room c i).1 t (effect v τ (g.node i) refl e)

  -- what a step keeps, every grant keeps
  module _ (P : State Context Values → Type 0) (kept : (σ τ : State Context Values) → P σ → step g tests σ ≡ some τ → P τ) where
    stepped_keeps : (r : Run Context Values) → P (state_of r) → P (state_of (stepped g tests r))
    unfolding stepped
    stepped_keeps (run σ n undecided) t = either (step g tests σ) refl
      where
        either : (o : Option (State Context Values)) → step g tests σ ≡ o → P (state_of (stepped g tests (run σ n undecided)))
        either none e = rw (e, stepped) t
        either (some τ) e = rw (e, stepped) (kept σ τ t e)
    stepped_keeps (run σ n matched) t = t
    stepped_keeps (run σ n unmatched) t = t

    pub granted_keeps : (n : ℕ) (r : Run Context Values) → P (state_of r) → P (state_of (granted g tests n r))
    unfolding granted
    granted_keeps zero r t = t
    granted_keeps (suc n) r t = granted_keeps n (stepped g tests r) (stepped_keeps r t)

  pub tallied : (s : Bits) (n : ℕ) → Tallied s (state_of (granted g tests n (opened g tests s)))
  unfolding opened open_state
  tallied s n = granted_keeps (Tallied s) (tally_step s) n (opened g tests s) (record { rest = refl; reached = omega arith; few = omega arith })

  pub housed : (rooms : Context → ℕ → ℕ) → HasRoom g rooms → (s : Bits) (n : ℕ) → length (pending_of (state_of (granted g tests n (opened g tests s)))) ≤ rooms g.context g.start
  unfolding opened open_state
  housed rooms has_room s n =
      let m = rooms g.context g.start in
      housed_length rooms has_room (pending_of (state_of (granted g tests n (opened g tests s)))) (granted_keeps (λ σ. Housed rooms has_room (pending_of σ) m) (house_step rooms has_room m) n (opened g tests s) (omega arith, tt))
