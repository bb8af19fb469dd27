-- Two grammars whose nodes are the same at values with a property, and that begin alike with such values, take the same steps: every state that a run comes to has
-- such values.
-- Assumes nothing.
use Prim.Native.Nat.{ℕ, zero, suc, ◌+◌, ◌≤◌}
use native.Mathlib.Omega.{arith}
use borrow.Author.Tests.{leb-true}
use mathlib.Core.Path.{◌≡◌, refl, ap, ◌∙◌}
use mathlib.Core.Bool.{Bool, true, false}
use mathlib.Core.List.{List, [], ◌∷◌, ◌++◌}
use mathlib.Core.Option.{Option, none, some}
use lib.Dec.{leb}
use lib.ListN.{length, take, drop, length-take}
use Rattle.basis.specs.Bits.{Bits}
use Rattle.basis.specs.Lookahead.{lookahead}
use Rattle.theory.specs.Grammar.{Node, alternative, concatenation, repetition, switch, use_of, field, eod, Grammar}
use Rattle.theory.specs.Derivation.{Capture}
use Rattle.theory.specs.Machine.{Tests, Entry, entry, State, state, Turn, fail, again, leave, turn, choose, act, step, undecided, matched, unmatched, verdict, Run, run, open_state, opened, stepped, granted}
use Rattle.tree_meaning.proofs.Agreeing.{SameNode, same_alternative, same_concatenation, same_repetition, same_switch, same_use, same_field, same_eod}
use Rattle.tree_agreement.proofs.SameNodes.{SameNodes}

-- the bits that a field takes say themselves how many they are, whatever comes after them
abbrev pub OwnWidth : {Context Values : Type 0} → Node Context Values → Type 0
OwnWidth (alternative is) = Unit {0}
OwnWidth (concatenation is) = Unit {0}
OwnWidth (repetition counts static fixed b) = Unit {0}
OwnWidth (switch chosen optional is) = Unit {0}
OwnWidth (use_of enters opens closes b) = Unit {0}
OwnWidth (field w admits static binds) = (s : Bits) → w s ≤ length s → w (take (w s) s) ≡ w s
OwnWidth eod = Unit {0}

module _ {Context Values : Type 0} (P : Values → Type 0) where
  abbrev KeptState : State Context Values → Type 0
  KeptState (state es s p v cs) = P v

  abbrev KeptAfter : Option (State Context Values) → Type 0
  KeptAfter none = Unit {0}
  KeptAfter (some σ) = KeptState σ

  abbrev KeptRun : Run Context Values → Type 0
  KeptRun (run σ n d) = KeptState σ

  -- ---- what a step leaves, by what is asked

  after_option : {A : Type 0} (o : Option A) (f : A → State Context Values) → ((a : A) → KeptState (f a)) → KeptAfter (elim o [ none ↦ none | some a ↦ some (f a) ])
  after_option none f k = tt
  after_option (some a) f k = k a

  after_switch : {A : Type 0} (o : Option A) (optional : Bool) (τ : State Context Values) (f : A → State Context Values) → KeptState τ → ((a : A) → KeptState (f a))
      → KeptAfter (elim o [ none ↦ elim optional [ true ↦ some τ | false ↦ none ] | some a ↦ some (f a) ])
  after_switch none true τ f k m = k
  after_switch none false τ f k m = tt
  after_switch (some a) optional τ f k m = m a

  after_turn : (d : Turn) (σ τ : State Context Values) → KeptState σ → KeptState τ → KeptAfter (elim d [ fail ↦ none | again ↦ some σ | leave ↦ some τ ])
  after_turn fail σ τ a b = tt
  after_turn again σ τ a b = a
  after_turn leave σ τ a b = b

  after_tests : (a b : Bool) (σ : State Context Values) → (a ≡ true → KeptState σ) → KeptAfter (elim a [ true ↦ elim b [ true ↦ some σ | false ↦ none ] | false ↦ none ])
  after_tests true true σ k = k refl
  after_tests true false σ k = tt
  after_tests false b σ k = tt

  module _ (g h : Grammar Context Values) (tests : Tests) where
    -- ---- a step

    same_act : {n n' : Node Context Values} → SameNode P n n' → (i : ℕ) (c : Context) (k : ℕ) (others : List (Entry Context)) (s : Bits) (p : ℕ) (v : Values) (cs : List Capture) → P v
        → act g tests n i c k others s p v cs ≡ act h tests n' i c k others s p v cs
    unfolding act
    same_act same_alternative i c k others s p v cs q = refl
    same_act same_concatenation i c k others s p v cs q = refl
    same_act (same_repetition {b} e) i c k others s p v cs q =
        λ t. elim (turn (e c v q t) k (tests.continues i (lookahead s)) (tests.exits i (lookahead s))) [
          | fail ↦ none
          | again ↦ some (state (entry b c 0 ∷ entry i c (suc k) ∷ others) s p v cs)
          | leave ↦ some (state others s p v cs)
        ]
    same_act (same_switch {optional} e) i c k others s p v cs q =
        λ t. elim (e c v q t) [ none ↦ elim optional [ true ↦ some (state others s p v cs) | false ↦ none ] | some b ↦ some (state (entry b c 0 ∷ others) s p v cs) ]
    same_act (same_use o m) i c k others s p v cs q = refl
    same_act (same_field {w} {binds} e m) i c k others s p v cs q =
        λ t. elim (leb (w s) (length s)) [
          | true ↦
              elim (e c v (take (w s) s) q t)
              [ true ↦ some (state others (drop (w s) s) (p + w s) (binds c v (take (w s) s)) (cs ++ (record { construct = i; first_bit = p } ∷ []))) | false ↦ none ]
          | false ↦ none
        ]
    same_act same_eod i c k others [] p v cs q = refl
    same_act same_eod i c k others (b ∷ s) p v cs q = refl

    kept_act : {n n' : Node Context Values} → SameNode P n n' → OwnWidth n → (i : ℕ) (c : Context) (k : ℕ) (others : List (Entry Context)) (s : Bits) (p : ℕ) (v : Values) (cs : List Capture) → P v
        → KeptAfter (act g tests n i c k others s p v cs)
    unfolding act
    kept_act (same_alternative {is}) own i c k others s p v cs q =
        after_option (choose (λ b. tests.predicts b (lookahead s)) is) (λ b. state (entry b c 0 ∷ others) s p v cs) (λ b. q)
    kept_act same_concatenation own i c k others s p v cs q = q
    kept_act (same_repetition {counts} {b} e) own i c k others s p v cs q =
        after_turn (turn (counts c v) k (tests.continues i (lookahead s)) (tests.exits i (lookahead s))) (state (entry b c 0 ∷ entry i c (suc k) ∷ others) s p v cs) (state others s p v cs) q q
    kept_act (same_switch {chosen} {optional} e) own i c k others s p v cs q = after_switch (chosen c v) optional (state others s p v cs) (λ b. state (entry b c 0 ∷ others) s p v cs) q (λ b. q)
    kept_act (same_use {enters} {opens} {b} o m) own i c k others s p v cs q = after_option (enters c) (λ c'. state (entry b c' 0 ∷ others) s p (opens c v) cs) (λ c'. o c v q)
    kept_act (same_field {w} {admits} {binds} e m) own i c k others s p v cs q =
        after_tests (leb (w s) (length s)) (admits c v (take (w s) s)) (state others (drop (w s) s) (p + w s) (binds c v (take (w s) s)) (cs ++ (record { construct = i; first_bit = p } ∷ [])))
        (λ z. let l : w s ≤ length s = leb-true (w s) (length s) z in m c v (take (w s) s) (omega (arith, own s l, length-take (w s) s)) q)
    kept_act same_eod own i c k others [] p v cs q = q
    kept_act same_eod own i c k others (b ∷ s) p v cs q = tt

    -- ---- a run

    module _ (same : SameNodes P g h) (own : (i : ℕ) → OwnWidth (g.node i)) where
      same_step : (σ : State Context Values) → KeptState σ → step g tests σ ≡ step h tests σ
      unfolding step
      same_step (state [] s p v cs) q = refl
      same_step (state (entry i c k ∷ others) s p v cs) q = same_act (same.nodes i) i c k others s p v cs q

      kept_step : (σ : State Context Values) → KeptState σ → KeptAfter (step g tests σ)
      unfolding step
      kept_step (state [] s p v cs) q = tt
      kept_step (state (entry i c k ∷ others) s p v cs) q = kept_act (same.nodes i) (own i) i c k others s p v cs q

      same_stepped : (r : Run Context Values) → KeptRun r → stepped g tests r ≡ stepped h tests r
      unfolding stepped
      same_stepped (run σ n undecided) q = let e = same_step σ q in λ t. elim (e t) [ none ↦ run σ (suc n) unmatched | some τ ↦ run τ (suc n) (verdict τ) ]
      same_stepped (run σ n matched) q = refl
      same_stepped (run σ n unmatched) q = refl

      kept_stepped : (r : Run Context Values) → KeptRun r → KeptRun (stepped g tests r)
      unfolding stepped
      kept_stepped (run σ n undecided) q = after (step g tests σ) (kept_step σ q)
        where
          after : (o : Option (State Context Values)) → KeptAfter o → KeptRun (elim o [ none ↦ run σ (suc n) unmatched | some τ ↦ run τ (suc n) (verdict τ) ])
          after none k = q
          after (some τ) k = k
      kept_stepped (run σ n matched) q = q
      kept_stepped (run σ n unmatched) q = q

      same_granted : (n : ℕ) (r : Run Context Values) → KeptRun r → granted g tests n r ≡ granted h tests n r
      unfolding granted
      same_granted zero r q = refl
      same_granted (suc n) r q = same_granted n (stepped g tests r) (kept_stepped r q) ∙ ap (granted h tests n) (same_stepped r q)

      same_opened : (s : Bits) → opened g tests s ≡ opened h tests s
      unfolding opened open_state
      same_opened s = λ t. run (state (entry (same.starts t) (same.contexts t) 0 ∷ []) s 0 (same.values_same t) []) 0 undecided

      begun : (s : Bits) → KeptRun (opened g tests s)
      unfolding opened open_state
      begun s = same.begins

      -- the claim: from its opening on
      pub same_run : (n : ℕ) (s : Bits) → granted g tests n (opened g tests s) ≡ granted h tests n (opened h tests s)
      same_run n s = same_granted n (opened g tests s) (begun s) ∙ ap (granted h tests n) (same_opened s)
