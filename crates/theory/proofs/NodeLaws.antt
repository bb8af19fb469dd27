-- The hypotheses of the theorems, node by node.
-- Assumes nothing.
use Prim.Native.Nat.{ℕ, ◌≤◌}
use mathlib.Core.Path.{◌≡◌, refl, subst}
use mathlib.Core.Logic.{◌↔◌, ◌≢◌}
use mathlib.Core.Bool.{Bool, true, false}
use mathlib.Core.List.{List, [], ◌++◌}
use mathlib.Core.Option.{some}
use lib.ListN.{length, take}
use Rattle.basis.specs.Bits.{Bits}
use Rattle.basis.specs.Counts.{Counts, Allows}
use Rattle.theory.specs.Grammar.{Node, alternative, concatenation, repetition, switch, use_of, field, eod, Grammar, ◌∈◌}
use Rattle.theory.specs.Derivation.{Tree, construct, Derives}
use Rattle.theory.specs.Lookahead.{First, Predicted, Continues, Exits, Conflict, EmptyBody}
use Rattle.theory.specs.Machine.{Tests}
use Rattle.theory.specs.Hypotheses.{Hypotheses}

module _ {Context Values : Type 0} (g : Grammar Context Values) (tests : Tests) where
  -- of a repetition
  pub record Repeats (i : ℕ) (counts : Context → Values → Counts) (static : Counts) (fixed : Bool) (b : ℕ) : Type 0 where
    pub counts_static : (c : Context) (v : Values) (k : ℕ) → Allows (counts c v) k → Allows static k
    pub fixed_once : fixed ≡ true → (c : Context) (v : Values) (j k : ℕ) → Allows (counts c v) j → Allows (counts c v) k → j ≡ k
    pub no_empty_body : First g (construct b (g.node b)) [] → ⊥
    pub keeps_counts : {t : Tree} {c : Context} {v v' : Values} {s r : Bits} → Derives g (construct b (g.node b)) t c v s v' r → counts c v' ≡ counts c v
    pub continues_exact : fixed ≡ false → (x : Bits) → length x ≤ 8 → (tests.continues i x ≡ true) ↔ Continues g i b x
    pub exits_exact : fixed ≡ false → (x : Bits) → length x ≤ 8 → (tests.exits i x ≡ true) ↔ Exits g i x
    pub no_conflict : fixed ≡ false → (x : Bits) → Continues g i b x → Exits g i x → ⊥

  -- of an alternative
  pub record Branches (is : List ℕ) : Type 0 where
    pub predicts_exact : (b : ℕ) → b ∈ is → (x : Bits) → length x ≤ 8 → (tests.predicts b x ≡ true) ↔ Predicted g b x
    pub no_conflict : (a b : ℕ) → a ∈ is → b ∈ is → a ≢ b → (x : Bits) → Predicted g a x → Predicted g b x → ⊥

  abbrev pub Law : ℕ → Node Context Values → Type 0
  Law i (alternative is) = Branches is
  Law i (concatenation is) = Unit {0}
  Law i (repetition counts static fixed b) = Repeats i counts static fixed b
  Law i (switch chosen optional is) = (b : ℕ) (c : Context) (v : Values) → chosen c v ≡ some b → b ∈ is
  Law i (use_of enters opens closes b) = (v v' : Values) → closes v v' ≡ v'
  Law i (field w admits static binds) =
      ((s : Bits) → 1 ≤ w s) × ((s r : Bits) → w s ≤ length s → w (take (w s) s ++ r) ≡ w s) × ((c : Context) (v : Values) (bits : Bits) → admits c v bits ≡ true → static bits ≡ true)
  Law i eod = Unit {0}

  module _ (law : (i : ℕ) → Law i (g.node i)) where
    -- the law of a construct whose node is known
    at : (i : ℕ) {n : Node Context Values} → g.node i ≡ n → Law i n
    at i e = subst (Law i) e (law i)

    no_conflicts : (i : ℕ) (x : Bits) → Conflict g i x → ⊥
    no_conflicts i x (Conflict.of_branches {a = a} {b = b} e ma mb d p q) = (at i e).no_conflict a b ma mb d x p q
    no_conflicts i x (Conflict.of_passes e c q) = (at i e).no_conflict refl x c q

    no_empty_bodies : (i : ℕ) → EmptyBody g i → ⊥
    no_empty_bodies i (EmptyBody.empty_body e f) = (at i e).no_empty_body f

    pub hypotheses : Hypotheses g tests
    hypotheses =
        record {
          static =
              record {
                bits_static = λ {i} e. (at i e).2;
                width_own = λ {i} e. (at i e).1;
                counts_static = λ {i} e. (at i e).counts_static;
                fixed_once = λ {i} e. (at i e).fixed_once refl;
                chosen_listed = λ {i} {b} e. (at i e) b;
              };
          width_positive = λ {i} e. (at i e).0;
          no_empty_body = no_empty_bodies;
          no_conflict = no_conflicts;
          body_keeps_counts = λ {i} e. (at i e).keeps_counts;
          values_stay = λ {i} e. at i e;
          predicts_exact = λ {i} {b} e. (at i e).predicts_exact b;
          continues_exact = λ {i} e. (at i e).continues_exact refl;
          exits_exact = λ {i} e. (at i e).exits_exact refl;
        }
