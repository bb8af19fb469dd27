-- From searches to what is passed.
-- Assumes nothing.
use Prim.Native.Nat.{ℕ, ◌≤◌, ◌<◌}
use mathlib.Core.Path.{◌≡◌, refl, sym, ◌∙◌}
use mathlib.Core.Bool.{true, false, false≢true}
use mathlib.Core.List.Memᴰ
use mathlib.Core.List.{List, []}
use native.Mathlib.Omega.{arith}
use native.Mathlib.Decide.{dec_lt, ℕ_discrete}
use borrow.Author.Tests.{eqb-true, eq-eqb}
use lib.Dec.{eqb}
use Rattle.basis.specs.Limits.{max_constructs, max_weight}
use Rattle.lookahead.specs.Sets.{Decides}
use Rattle.table_reach.specs.Reaching.{Reaches}
use Rattle.basis.specs.Bits.{Bits}
use Rattle.theory.specs.Grammar.{alternative, concatenation, repetition, switch, use_of, field, eod}
use Rattle.theory.specs.Lookahead.{Conflict, EmptyBody}
use Rattle.table_layout.specs.Places.{construct_count}
use Rattle.table_layout.specs.Held.{first_context, HeldNode, held, node_of, opening}
use Rattle.table_structure.proofs.Facts.{Laid, facts}
use Rattle.table_structure.proofs.NodeFacts.{missing_past}
use Rattle.table_scope.proofs.RuledLaw.{ruled}
use Rattle.table_weights.specs.Weighed.{Weight}
use Rattle.table_weights.specs.Sweeps.{capped}
use Rattle.table_first_follow.proofs.HeldLaws.{node_inside, node_opening, node_past}
use Rattle.table_sizes.specs.Measures.{LeastOf}
use Rattle.table_conflicts.specs.Conflicts.{Conflicting, Answered}
use Rattle.table_conflicts.specs.declared.Clash.{Clash}
use Rattle.table_judge.specs.Judged.{Least, None, Oversized, Weighing, Passed7, Passed8, Passed9, Passed10, Light, Valueless}
use Rattle.table_judge.specs.Clashing.{is_clash}

-- ---- past the constructs there is nothing that could

-- what conflicts and empty bodies need of a node
abbrev Idle : HeldNode → Type 0
Idle (alternative is) = is ≡ []
Idle (concatenation is) = Unit {0}
Idle (repetition counts static fixed b) = ⊥
Idle (switch chosen optional is) = Unit {0}
Idle (use_of enters opens closes b) = Unit {0}
Idle (field w admits static binds) = Unit {0}
Idle eod = Unit {0}

module _ {ws : List ℕ} (l : Laid ws) where
  idle : (i : ℕ) → construct_count ws ≤ i → Idle ((held ws).node i)
  unfolding node_of
  idle i h =
      elim (ℕ_discrete i opening) [
        | yes e ↦ rw (node_opening ws i e) tt
        | no e ↦ elim (dec_lt i max_constructs) [
          | yes k ↦ rw (node_inside ws i k, missing_past l i h) refl
          | no k ↦ rw (node_past ws i (omega arith)) refl
        ]
      ]

  unconflicted : (i : ℕ) (x : Bits) → Idle ((held ws).node i) → Conflict (held ws) i x → ⊥
  unconflicted i x n (Conflict.of_branches e ma mb d p q) = Memᴰ.not-nil (rw (rw e at n) at ma)
  unconflicted i x n (Conflict.of_passes e c q) = rw e at n

  nonempty : (i : ℕ) → Idle ((held ws).node i) → EmptyBody (held ws) i → ⊥
  nonempty i n (EmptyBody.empty_body e f) = rw e at n

  -- what holds of the constructs holds of all numbers
  everywhere : (P : ℕ → Type 0) → ((i : ℕ) → construct_count ws ≤ i → P i → ⊥) → ((i : ℕ) → i < construct_count ws → P i → ⊥) → None P
  everywhere P past below i p = elim (dec_lt i (construct_count ws)) [ yes h ↦ below i h p | no h ↦ past i (omega arith) p ]

  pub no_empty_bodies : ((i : ℕ) → i < construct_count ws → EmptyBody (held ws) i → ⊥) → None (EmptyBody (held ws))
  no_empty_bodies below = everywhere (EmptyBody (held ws)) (λ i h b. nonempty i (idle i h) b) below

  pub no_conflicts : ((i : ℕ) → i < construct_count ws → Conflicting ws i → ⊥) → None (Conflicting ws)
  no_conflicts below = everywhere (Conflicting ws) (λ i h c. unconflicted i c.0 (idle i h) c.1) below

  pub no_valueless : ((i : ℕ) → i < construct_count ws → Valueless ws i → ⊥) → None (Valueless ws)
  no_valueless below = everywhere (Valueless ws) (λ i h n. let q = sym (missing_past l i h) ∙ n.is_uint in let z : ◌≡◌ {A = ℕ} 0 1 = cc in omega arith) below

-- ---- answers of `conflict`

pub clash_none : (ws : List ℕ) (i : ℕ) (r : Clash) → Answered ws i r → is_clash r ≡ false → Conflicting ws i → ⊥
clash_none ws i Clash.None a e = a
clash_none ws i (Clash.Branches window first second) a e = absurd (false≢true (sym e))
clash_none ws i (Clash.Passes window) a e = absurd (false≢true (sym e))

pub clash_some : (ws : List ℕ) (i : ℕ) (r : Clash) → Answered ws i r → is_clash r ≡ true → Conflicting ws i
clash_some ws i Clash.None a e = absurd (false≢true e)
clash_some ws i (Clash.Branches window first second) (w, t) e = (w.0, w.2.common)
clash_some ws i (Clash.Passes window) (w, t) e = (w.0, w.2.common)

-- ---- weight

module _ (ws : List ℕ) (p : Passed7 ws) (n : ℕ) (w : Weight ws n) where
  weighed : Weighing ws (λ m. n ≡ capped m)
  weighed weight k = w (ruled ws p.laid_out) p.acyclic weight k

  pub overweight : max_weight < n → Weighing ws (λ m. max_weight < m)
  overweight h weight k = let e : n ≡ capped (weight first_context opening) = weighed weight k in omega arith

  pub exact_weight : n ≤ max_weight → Weighing ws (λ m. m ≡ n)
  exact_weight h weight k = let e : n ≡ capped (weight first_context opening) = weighed weight k in omega arith

pub light_of : (ws : List ℕ) (n : ℕ) → Weighing ws (λ m. m ≡ n) → n ≤ max_weight → Light ws
light_of ws n w h weight k = let e : weight first_context opening ≡ n = w weight k in omega arith

-- ---- what is passed

module _ (ws : List ℕ) where
  -- a loop over the constructs that stops before the end
  pub least_of : (P : ℕ → Type 0) (count i : ℕ) → count ≡ construct_count ws → i < count → P i → ((j : ℕ) → j < i → P j → ⊥) → Least ws P i
  least_of P count i e h p b = record { there = omega arith; holds = p; before = b }

  -- 7 and 8 are decided
  pub cyclic : (rule : ℕ) → Reaches ws rule rule → Decides false (Passed8 ws)
  cyclic rule r = ((λ t. absurd (false≢true t)), (λ p. absurd (p.passed.acyclic rule r)))

  pub sized : Passed7 ws → (count i : ℕ) → count ≡ construct_count ws → LeastOf (Oversized ws) (construct_count ws) i → Decides (eqb i count) (Passed8 ws)
  sized p count i e l = (
    λ t. record { passed = p; sized = λ j h. l.before j (omega (arith, eqb-true i count t)) },
    λ q. eq-eqb i count (elim (dec_lt i count) [ yes h ↦ absurd (q.sized i (omega arith) (l.holds (omega arith))) | no h ↦ omega (arith, l.most) ]),
  )

  pub passed9 : Passed8 ws → (count i : ℕ) → count ≡ construct_count ws → ((j : ℕ) → j < i → EmptyBody (held ws) j → ⊥) → count ≤ i → Passed9 ws
  passed9 p count i e l h = record { passed = p; no_empty_body = no_empty_bodies (facts ws p.passed.laid_out) (λ j k. l j (omega arith)) }

  pub passed10 : Passed9 ws → (count i : ℕ) → count ≡ construct_count ws → ((j : ℕ) → j < i → Conflicting ws j → ⊥) → count ≤ i → Passed10 ws
  passed10 p count i e l h = record { passed = p; no_conflict = no_conflicts (facts ws p.passed.passed.laid_out) (λ j k. l j (omega arith)) }

  pub valued : Passed10 ws → (count i : ℕ) → count ≡ construct_count ws → ((j : ℕ) → j < i → Valueless ws j → ⊥) → count ≤ i → None (Valueless ws)
  valued p count i e l h = no_valueless (facts ws p.passed.passed.passed.laid_out) (λ j k. l j (omega arith))
