-- Two grammars whose nodes are the same (`Agreeing`) have the same FIRST and FOLLOW sets, conflicts, empty bodies and weights.
-- Assumes nothing.
use Prim.Native.Nat.{ℕ}
use mathlib.Core.Path.{◌≡◌, refl, subst, ◌∙◌}
use mathlib.Core.Bool.{Bool}
use mathlib.Core.List.{List}
use mathlib.Core.Option.{Option}
use Rattle.basis.specs.Bits.{Bits}
use Rattle.basis.specs.Counts.{Counts}
use Rattle.theory.specs.Grammar.{Node, alternative, concatenation, repetition, switch, use_of, Grammar}
use Rattle.theory.specs.Derivation.{Shape}
use Rattle.theory.specs.Lookahead.{First, of_field, of_eod, of_alternative, of_switch, of_no_case, of_use, of_concatenation, no_members, more_members, of_repetition, no_passes, more_passes, Follow, of_start, of_rule, of_member, of_branch, of_case, of_body, Predicted, predicted, Continues, continues, Conflict, of_branches, of_passes, EmptyBody, empty_body}
use Rattle.theory.specs.Weight.{weigh, Weighs}
use Rattle.tree_meaning.proofs.Agreeing.{SameNode, same_alternative, same_concatenation, same_repetition, same_switch, same_use, same_field, same_eod, SameShape, same_construct, same_members, same_passes}

module _ {Context Values : Type 0} (P : Values → Type 0) where
  -- ---- what the other node is, where the one is known

  pub as_alternative : {is : List ℕ} {n : Node Context Values} → SameNode P (alternative is) n → n ≡ alternative is
  as_alternative same_alternative = refl

  as_concatenation : {is : List ℕ} {n : Node Context Values} → SameNode P (concatenation is) n → n ≡ concatenation is
  as_concatenation same_concatenation = refl

  pub as_repetition : {counts : Context → Values → Counts} {static : Counts} {fixed : Bool} {b : ℕ} {n : Node Context Values} → SameNode P (repetition counts static fixed b) n
      → (counts' : Context → Values → Counts) × (n ≡ repetition counts' static fixed b)
  as_repetition (same_repetition {counts'} e) = (counts', refl)

  as_switch : {chosen : Context → Values → Option ℕ} {optional : Bool} {is : List ℕ} {n : Node Context Values} → SameNode P (switch chosen optional is) n → (chosen' : Context → Values → Option ℕ) × (n ≡ switch chosen' optional is)
  as_switch (same_switch {chosen'} e) = (chosen', refl)

  as_use : {enters : Context → Option Context} {opens : Context → Values → Values} {closes : Values → Values → Values} {b : ℕ} {n : Node Context Values} → SameNode P (use_of enters opens closes b) n
      → n ≡ use_of enters opens closes b
  as_use (same_use o k) = refl

  module _ (g h : Grammar Context Values) (all : (i : ℕ) → SameNode P (g.node i) (h.node i)) (start : g.start ≡ h.start) where
    -- a node that is known on the one side
    pub known : (i : ℕ) {n : Node Context Values} → g.node i ≡ n → SameNode P n (h.node i)
    known i e = subst (λ (n : Node Context Values). SameNode P n (h.node i)) e (all i)

    -- ---- FIRST

    pub first_agrees : {what what' : Shape Context Values} {x : Bits} → First g what x → SameShape P what what' → First h what' x
    first_agrees (of_field bits l e f) (same_construct (same_field a k)) = of_field bits l e f
    first_agrees of_eod (same_construct same_eod) = of_eod
    first_agrees (of_alternative {b} m d) (same_construct same_alternative) = of_alternative m (first_agrees d (same_construct (all b)))
    first_agrees (of_switch {b} m d) (same_construct (same_switch e)) = of_switch m (first_agrees d (same_construct (all b)))
    first_agrees (of_no_case o) (same_construct (same_switch e)) = of_no_case o
    first_agrees (of_use {b} d) (same_construct (same_use o k)) = of_use (first_agrees d (same_construct (all b)))
    first_agrees (of_concatenation d) (same_construct same_concatenation) = of_concatenation (first_agrees d same_members)
    first_agrees no_members same_members = no_members
    first_agrees (more_members {m} d f e) same_members = more_members (first_agrees d (same_construct (all m))) (first_agrees f same_members) e
    first_agrees (of_repetition k a d) (same_construct (same_repetition e)) = of_repetition k a (first_agrees d same_passes)
    first_agrees no_passes same_passes = no_passes
    first_agrees (more_passes {b} d f e) same_passes = more_passes (first_agrees d (same_construct (all b))) (first_agrees f same_passes) e

    -- ---- FOLLOW

    pub follow_agrees : {i : ℕ} {x : Bits} → Follow g i x → Follow h i x
    follow_agrees (of_start e) = of_start (e ∙ start)
    follow_agrees (of_rule {i} e f) = of_rule (as_use (known i e)) (follow_agrees f)
    follow_agrees (of_member {i} before after e d f j) = of_member before after (as_concatenation (known i e)) (first_agrees d same_members) (follow_agrees f) j
    follow_agrees (of_branch {i} e m f) = of_branch (as_alternative (known i e)) m (follow_agrees f)
    follow_agrees (of_case {i} e m f) = of_case (as_switch (known i e)).1 m (follow_agrees f)
    follow_agrees (of_body {i} k e d f j) = of_body k (as_repetition (known i e)).1 (first_agrees d same_passes) (follow_agrees f) j

    -- ---- conflicts (10), empty bodies (9)

    pub predicted_agrees : {i : ℕ} {x : Bits} → Predicted g i x → Predicted h i x
    predicted_agrees {i} (predicted d f e) = predicted (first_agrees d (same_construct (all i))) (follow_agrees f) e

    pub continues_agrees : {i b : ℕ} {x : Bits} → Continues g i b x → Continues h i b x
    continues_agrees (continues k d f j) = continues k (first_agrees d same_passes) (follow_agrees f) j

    pub conflict_agrees : {i : ℕ} {x : Bits} → Conflict g i x → Conflict h i x
    conflict_agrees {i} (of_branches e m n d p q) = of_branches (as_alternative (known i e)) m n d (predicted_agrees p) (predicted_agrees q)
    conflict_agrees {i} (of_passes e c x) = of_passes (as_repetition (known i e)).1 (continues_agrees c) (follow_agrees x)

    pub empty_body_agrees : {i : ℕ} → EmptyBody g i → EmptyBody h i
    empty_body_agrees {i} (empty_body {b} e d) = empty_body (as_repetition (known i e)).1 (first_agrees d (same_construct (all b)))

    -- ---- weights (11)

    same_weight : (w : Context → ℕ → ℕ) (c : Context) {n n' : Node Context Values} → SameNode P n n' → weigh w c n ≡ weigh w c n'
    unfolding weigh
    same_weight w c same_alternative = refl
    same_weight w c same_concatenation = refl
    same_weight w c (same_repetition e) = refl
    same_weight w c (same_switch e) = refl
    same_weight w c (same_use o k) = refl
    same_weight w c (same_field a k) = refl
    same_weight w c same_eod = refl

    pub weights_agree : (w : Context → ℕ → ℕ) → Weighs g w → Weighs h w
    weights_agree w h c i = h c i ∙ same_weight w c (all i)
