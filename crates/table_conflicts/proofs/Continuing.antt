-- Of well laid out words: the body of a repetition is nobody else's part and no rule's body, so what lets the repetition continue is its
-- body's prediction set.
-- Assumes nothing.
use Prim.Native.Nat.{ℕ, ◌+◌, ◌<◌}
use mathlib.Core.Path.{◌≡◌, refl, sym, subst, ap, ◌∙◌}
use mathlib.Core.Logic.{◌⊎◌, inl, inr, ◌↔◌}
use mathlib.Core.List.Memᴰ
use mathlib.Core.List.{List, [], ◌∷◌, ◌++◌}
use native.Mathlib.Omega.{arith}
use native.Mathlib.Decide.{dec_lt, ℕ_discrete}
use Rattle.basis.specs.Limits.{max_constructs}
use Rattle.basis.specs.Bits.{Bits}
use Rattle.theory.specs.Grammar.{alternative, concatenation, repetition, switch, use_of, field, eod, ◌∈◌}
use Rattle.theory.specs.Derivation.{passes}
use Rattle.theory.specs.Lookahead.{First, Follow, Predicted, Continues}
use Rattle.theory.proofs.Prediction.{FollowsPass, follows_pass, continue_predicted, predicted_continue}
use Rattle.table_layout.specs.Places.{rule_count, construct_count}
use Rattle.table_layout.specs.Constructs.{construct_at}
use Rattle.table_layout.specs.Held.{HeldNode, size_of, held, node_of, passes_allowed, passes_static, passes_fixed, opening}
use Rattle.table_layout.specs.declared.Construct.{Construct}
use Rattle.table_layout.specs.declared.Passes.{Passes}
use Rattle.table_wellformed.specs.Rules.{body}
use Rattle.table_structure.proofs.Facts.{Laid}
use Rattle.table_structure.proofs.Owners.{PartOf, one_owner, body_unowned, part_within}
use Rattle.table_structure.proofs.NodeFacts.{use_names, missing_past}
use Rattle.table_structure.proofs.PartLaws.{parts_of}
use Rattle.table_wellformed.specs.Checks.{size_at}
use Rattle.table_layout.proofs.Bounds.{Fine, fine}
use Rattle.table_layout.proofs.Views.{Parted, parted, leaf_node}
use Rattle.table_first_follow.proofs.HeldLaws.{node_inside, node_opening, node_past}

-- what a node names below it
abbrev Names : HeldNode → ℕ → Type 0
Names (alternative is) b = b ∈ is
Names (concatenation is) b = b ∈ is
Names (repetition counts static fixed b') b = b ≡ b'
Names (switch chosen optional is) b = b ∈ is
Names (use_of enters opens closes b') b = b ≡ b'
Names (field w admits static binds) b = ⊥
Names eod b = ⊥

member_of : (before : List ℕ) (b : ℕ) (after : List ℕ) → b ∈ (before ++ b ∷ after)
member_of [] b after = Memᴰ.head refl
member_of (a ∷ before) b after = Memᴰ.tail (member_of before b after)

-- b is a part of j, or a rule's body
abbrev Below : List ℕ → ℕ → ℕ → Type 0
Below ws j b = ((j < construct_count ws) × PartOf ws j b) ⊎ ((r : ℕ) × (r < rule_count ws) × (b ≡ body ws r))

module _ {ws : List ℕ} (l : Laid ws) where
  below_by : (j b : ℕ) {c : Construct} → Parted c → j < construct_count ws → construct_at ws j ≡ c → Names (node_of ws j c) b
      → (b ∈ parts_of ws j c) ⊎ ((r : ℕ) × (r < rule_count ws) × (b ≡ body ws r))
  unfolding node_of
  below_by j b Parted.missing h e n = absurd (Memᴰ.not-nil n)
  below_by j b (Parted.branches size) h e n = inl n
  below_by j b (Parted.members size) h e n = inl n
  below_by j b (Parted.body size how) h e n = inl (Memᴰ.head n)
  below_by j b (Parted.cases size) h e n = inl n
  below_by j b (Parted.opens rule) h e n = inr (rule, use_names l j rule h e, n)
  below_by j b {c} (Parted.leaf f) h e n = absurd (leaf_node ws j (λ x. Names x b → ⊥) (λ w admits static binds z. z) (λ z. z) c f n)

  inside : (j b : ℕ) → j < construct_count ws → j < max_constructs → Names ((held ws).node j) b → Below ws j b
  inside j b h k n =
      elim (below_by j b (parted (construct_at ws j)) h refl (subst (λ (x : HeldNode). Names x b) (node_inside ws j k) n)) [ inl m ↦ inl (h, m) | inr r ↦ inr r ]

  pub below : (j b : ℕ) → Names ((held ws).node j) b → Below ws j b
  unfolding node_of
  below j b n =
      elim (dec_lt j (construct_count ws)) [
        | yes h ↦ inside j b h (omega (arith, l.counts.constructs)) n
        | no h ↦ elim (ℕ_discrete j opening) [
          | yes e ↦ inr (0, l.counts.some_rule, subst (λ (x : HeldNode). Names x b) (node_opening ws j e) n)
          | no e ↦ elim (dec_lt j max_constructs) [
            | yes k ↦ absurd (Memᴰ.not-nil (subst (λ (x : HeldNode). Names x b) (node_inside ws j k ∙ ap (node_of ws j) (missing_past l j (omega arith))) n))
            | no k ↦ absurd (Memᴰ.not-nil (subst (λ (x : HeldNode). Names x b) (node_past ws j (omega arith)) n))
          ]
        ]
      ]

  module _ (i size : ℕ) (how : Passes) (h : i < construct_count ws) (e : construct_at ws i ≡ Construct.Repetition size how) where
    pub node_is : (held ws).node i ≡ repetition (λ c v. passes_allowed ws how v) (passes_static ws how) (passes_fixed ws how) (i + 1)
    unfolding node_of
    node_is = node_inside ws i (omega (arith, l.counts.constructs)) ∙ ap (node_of ws i) e

    body_part : PartOf ws i (i + 1)
    body_part = rw e (Memᴰ.head refl)

    -- nothing else has it below
    alone : (j b : ℕ) → b ≡ i + 1 → Below ws j b → j ≡ i
    alone j b q (inl (k, m)) = one_owner l j i (i + 1) k h (subst (PartOf ws j) q m) body_part
    alone j b q (inr (r, k, f)) = absurd (body_unowned l r i k h (subst (PartOf ws i) (sym q ∙ f) body_part))

    -- a node of another kind is not this construct's
    other : (j : ℕ) (n : HeldNode) → j ≡ i → (held ws).node j ≡ n → n ≡ repetition (λ c v. passes_allowed ws how v) (passes_static ws how) (passes_fixed ws how) (i + 1)
    other j n q f = sym f ∙ ap (λ (k : ℕ). (held ws).node k) q ∙ node_is

    unstarted : i + 1 ≡ (held ws).start → ⊥
    unfolding held
    unstarted f =
        let p = part_within l i (i + 1) h body_part in
        let z : size_at ws i ≡ size = ap size_of e in
        let room = subst (Fine i) e (fine ws i) in
        omega (arith, p.1, p.2, room.1)

    only : {b : ℕ} {y : Bits} → Follow (held ws) b y → b ≡ i + 1 → FollowsPass (held ws) i (i + 1) y
    only (Follow.of_start f) q = absurd (unstarted (sym q ∙ f))
    only (Follow.of_rule {i = j} {b = b} f w) q =
        let z = other j _ (alone j b q (below j b (rw f refl))) f in let y : ◌≡◌ {A = ℕ} 0 1 = cc in absurd (omega arith)
    only (Follow.of_member {i = j} {m = b} before after f fs w r) q =
        let z = other j _ (alone j b q (below j b (rw f (member_of before b after)))) f in let y : ◌≡◌ {A = ℕ} 0 1 = cc in absurd (omega arith)
    only (Follow.of_branch {i = j} {b = b} f m w) q =
        let z = other j _ (alone j b q (below j b (rw f m))) f in let y : ◌≡◌ {A = ℕ} 0 1 = cc in absurd (omega arith)
    only (Follow.of_case {i = j} {b = b} f m w) q =
        let z = other j _ (alone j b q (below j b (rw f m))) f in let y : ◌≡◌ {A = ℕ} 0 1 = cc in absurd (omega arith)
    only (Follow.of_body {i = j} {b = b} {x = x} {y = y} k f fs w r) q =
        let p : j ≡ i = alone j b q (below j b (rw f refl)) in
        FollowsPass.follows_pass k (subst (λ (n : ℕ). First (held ws) (passes n k) x) q fs) (subst (λ (n : ℕ). Follow (held ws) n y) p w) r

    -- "go": one or more passes joined with what follows
    pub continues_predicted : (x : Bits) → Predicted (held ws) (i + 1) x ↔ Continues (held ws) i (i + 1) x
    continues_predicted x = ((λ p. predicted_continue (held ws) (λ y w. only w refl) p), (λ c. continue_predicted (held ws) node_is c))
