-- Well laid out words whose rules do not reach themselves hold a grammar that keeps to document 01's rules of names.
-- Assumes nothing.
use Prim.Native.Nat.{ℕ, ◌≤◌, ◌<◌}
use mathlib.Core.Path.{◌≡◌, refl, sym, ap, ◌∙◌}
use mathlib.Core.Logic.{◌↔◌, inl, inr}
use mathlib.Core.Bool.{true}
use mathlib.Core.List.Memᴰ
use mathlib.Core.List.{List, []}
use native.Mathlib.Omega.{arith}
use borrow.Author.Tests.{eqb-true, ltb-true, ltb-false}
use lib.Dec.{ltb, eqb}
use lib.IntN.{pos}
use lib.ListN.{length, length-replicate}
use Rattle.basis.specs.Bits.{Bits}
use Rattle.basis.proofs.Booleans.{which, picked}
use Rattle.theory.specs.Grammar.{alternative, concatenation, repetition, switch, use_of, field, eod}
use Rattle.theory.specs.Scope.{Agree, Scoped, localised, Lexical}
use Rattle.theory.specs.Derivation.{Tree, Derivation}
use Rattle.theory.proofs.Theorems.{local}
use Rattle.table_layout.specs.Places.{rule_count, construct_count}
use Rattle.table_layout.specs.Constructs.{construct_at}
use Rattle.table_layout.specs.Held.{Context, Values, HeldNode, use_node, node_of, opening, held}
use Rattle.table_layout.specs.declared.Construct.{Construct}
use Rattle.table_layout.proofs.Views.{Parted, parted, leaf_node}
use Rattle.table_wellformed.specs.Rules.{binder_of}
use Rattle.table_wellformed.specs.Laid.{laid}
use Rattle.table_reach.specs.Reaching.{Acyclic}
use Rattle.table_structure.proofs.Facts.{Laid, facts}
use Rattle.table_structure.proofs.RuleLaws.{rule_of, rule_fact}
use Rattle.table_structure.proofs.Owners.{rule_holds}
use Rattle.table_structure.proofs.NodeFacts.{use_names, missing_past}
use Rattle.table_structure.proofs.StaticLaw.{static, values_stay}
use Rattle.table_scope.specs.Scope.{store, fresh, bound_by, bound_at, seen_at, scope_of}
use Rattle.table_scope.proofs.Seen.{seen_first}
use Rattle.table_scope.proofs.Levels.{stands}
use Rattle.table_scope.proofs.NodeScopes.{scoped_by}
use Rattle.table_scope.proofs.Once.{not_again}

-- what a rule's body sees where it begins is bound by its opening
abbrev Entered : List ℕ → ℕ → HeldNode → Type 0
Entered ws i (alternative is) = Unit {0}
Entered ws i (concatenation is) = Unit {0}
Entered ws i (repetition counts static fixed b) = Unit {0}
Entered ws i (switch chosen optional is) = Unit {0}
Entered ws i (use_of enters opens closes b) = (c c' : Context) (v v' : Values) → Agree store c (seen_at ws i) v v' → Agree store c' (seen_at ws b) (opens c v) (fresh i c v')
Entered ws i (field w admits static binds) = Unit {0}
Entered ws i eod = Unit {0}

module _ {ws : List ℕ} (l : Laid ws) where
  unbound : (i : ℕ) → construct_count ws ≤ i → bound_at ws i ≡ []
  unbound i past = ap (λ (c : Construct). bound_by (binder_of c)) (missing_past l i past)

  scoped_outside : (i : ℕ) → construct_count ws ≤ i → Scoped store (scope_of ws) i (node_of ws i (construct_at ws i))
  unfolding node_of
  scoped_outside i past = rw (missing_past l i past, node_of) (unbound i past, λ b m. absurd (Memᴰ.not-nil m))

  scoped_construct : (i : ℕ) → Scoped store (scope_of ws) i (node_of ws i (construct_at ws i))
  scoped_construct i =
      elim (which (ltb i (construct_count ws))) [
        | inl t ↦
            let h : i < construct_count ws = ltb-true i (construct_count ws) t
            in scoped_by l (rule_of l i h).rule i (stands l i h) (rule_holds l i h) (construct_at ws i) refl
        | inr t ↦ scoped_outside i (ltb-false i (construct_count ws) t)
      ]

  scoped : (i : ℕ) → Scoped store (scope_of ws) i ((held ws).node i)
  unfolding held
  scoped i =
      picked (Scoped store (scope_of ws) i) (eqb i opening)
      (λ t. let e : i ≡ opening = eqb-true i opening t in (unbound i (omega (arith, l.counts.constructs)), λ c c' v x z h. refl))
      (λ t. scoped_construct i)

  -- an opening leaves a rule its number of variables, which are all that its body sees
  enters : (i q : ℕ) → q < rule_count ws → Entered ws i (use_node ws q)
  enters i q h c c' v v' a x m =
      let e : x ≡ 0 = Memᴰ.eq_of_singleton (rw (seen_first l q h (rule_fact l q h).some_construct) at m)
      in rw e (a 0 (Memᴰ.head refl) ∙ sym (ap pos (length-replicate (length v') (pos 0))))

  entered_by : (i : ℕ) {c : Construct} → Parted c → construct_at ws i ≡ c → (i < construct_count ws) → Entered ws i (node_of ws i c)
  unfolding node_of
  entered_by i Parted.missing e h = tt
  entered_by i (Parted.branches size) e h = tt
  entered_by i (Parted.members size) e h = tt
  entered_by i (Parted.body size passes) e h = tt
  entered_by i (Parted.cases size) e h = tt
  entered_by i (Parted.opens rule) e h = enters i rule (use_names l i rule h e)
  entered_by i (Parted.leaf f) e h = leaf_node ws i (Entered ws i) (λ w admits static binds. tt) tt _ f

  entered_construct : (i : ℕ) → Entered ws i (node_of ws i (construct_at ws i))
  unfolding node_of
  entered_construct i =
      elim (which (ltb i (construct_count ws))) [
        | inl t ↦ entered_by i (parted (construct_at ws i)) refl (ltb-true i (construct_count ws) t)
        | inr t ↦ rw (missing_past l i (ltb-false i (construct_count ws) t), node_of) tt
      ]

  entered : (i : ℕ) → Entered ws i ((held ws).node i)
  unfolding held
  entered i = picked (Entered ws i) (eqb i opening) (λ e. enters i 0 l.counts.some_rule) (λ e. entered_construct i)

  pub lexical_of : Acyclic ws → Lexical store (scope_of ws) fresh (held ws)
  lexical_of acyclic =
      record {
        scoped = scoped;
        not_bound_again = λ c i x m d. not_again l acyclic i x m d;
        values_stay = λ {i} e v v'. values_stay ws i e v v';
        entered = λ {i} e o c c' v v' z a. (rw e at (entered i)) c c' v v' a;
        entered_reported = λ e o c v v' a p. refl;
      }

pub lexical : (ws : List ℕ) → laid ws ≡ true → Acyclic ws → Lexical store (scope_of ws) fresh (held ws)
lexical ws h acyclic = lexical_of (facts ws h) acyclic

-- so one value for each binder, as the machine keeps them, derives what document 01's local variables derive
pub same_derivations : (ws : List ℕ) → laid ws ≡ true → Acyclic ws
    → (s : Bits) (t : Tree) → ((v : Values) × Derivation (held ws) s t v) ↔ ((v : Values) × Derivation (localised store (scope_of ws) fresh (held ws)) s t v)
same_derivations ws h acyclic s t =
    let same = local store (scope_of ws) fresh (held ws) (static ws) (lexical ws h acyclic) s t tt in
    (λ d. (let x = same.0 (d.0, d.1, refl) in (x.0, x.1)), λ d. (let x = same.1 (d.0, d.1, refl) in (x.0, x.1)))
