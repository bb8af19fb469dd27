-- Variables of the sheet's grammars are used where they may be.
-- Assumes nothing.
use Prim.Native.Nat.{ℕ}
use native.Mathlib.Omega.{arith}
use borrow.Author.Tests.{eq-eqb, ne_eqb}
use mathlib.Core.Path.{◌≡◌, refl, sym, subst}
use mathlib.Core.Logic.{inl, inr}
use mathlib.Core.Bool.{Bool}
use mathlib.Core.List.Memᴰ
use mathlib.Core.List.{List, [], ◌∷◌}
use mathlib.Core.Option.{Option, some}
use lib.Dec.{eqb}
use lib.ListN.{length}
use Rattle.basis.specs.Bits.{Bits, value}
use Rattle.basis.specs.Counts.{Counts}
use Rattle.basis.proofs.Booleans.{which}
use Rattle.theory.specs.Grammar.{alternative, concatenation, repetition, switch, use_of, field, eod, ◌∈◌}
use Rattle.theory.specs.Hypotheses.{Hypotheses}
use Rattle.theory.specs.Scope.{Scope, Agree, Chain, Scoped, MayBind, Lexical}
use Rattle.theory.proofs.Sheet.Samples.{store, Variables, SheetNode, SheetGrammar, bind, uint_var, nothing, opening_use, Sample, grammar_of, scope_of, fresh}
use Rattle.theory.proofs.Sheet.Numbers.{Listed, each, numbered_neither}

bind_same : (v v' : Variables) (x n y : ℕ) → v y ≡ v' y → bind v x n y ≡ bind v' x n y
bind_same v v' x n y e = elim (which (eqb y x)) [ inl t ↦ rw (t, bind) | inr t ↦ rw (t, bind) e ]

bind_new : (v v' : Variables) (x n y : ℕ) → y ≡ x → bind v x n y ≡ bind v' x n y
bind_new v v' x n y e = rw (eq-eqb y x e, bind)

bind_other : (v : Variables) (x n y : ℕ) → (y ≡ x → ⊥) → bind v x n y ≡ v y
bind_other v x n y d = rw (ne_eqb y x d, bind)

module _ (scope : Scope) where
  -- what may be used in i may be used in b
  abbrev SeenIn : ℕ → ℕ → Type 0
  SeenIn i b = (x : ℕ) → x ∈ scope.sees i → x ∈ scope.sees b

  -- a construct's parts see what it sees; a rule's body sees nothing where it begins
  abbrev PartsSee : ℕ → SheetNode → Type 0
  PartsSee i (alternative is) = (b : ℕ) → b ∈ is → SeenIn i b
  PartsSee i (concatenation is) = (b : ℕ) → b ∈ is → SeenIn i b
  PartsSee i (repetition counts static fixed b) = SeenIn i b
  PartsSee i (switch chosen optional is) = (b : ℕ) → b ∈ is → SeenIn i b
  PartsSee i (use_of enters opens closes b) = SeenIn i b × (scope.sees b ≡ [])
  PartsSee i (field w admits static binds) = Unit {0}
  PartsSee i eod = Unit {0}

  -- of a construct: its names, its parts', and it binds nothing that it sees
  abbrev pub Names : ℕ → SheetNode → Type 0
  Names i n = Scoped store scope i n × PartsSee i n × ((x : ℕ) → x ∈ scope.sees i → x ∈ scope.binds i → ⊥)

  -- so nothing below a construct binds what it sees
  module _ (g : SheetGrammar) (names : (i : ℕ) → Names i (g.node i)) (plain : (i x : ℕ) → x ∈ scope.enters_with i → ⊥) where
    pub parts : (i : ℕ) {n : SheetNode} → g.node i ≡ n → PartsSee i n
    parts i e = subst (PartsSee i) e (names i).1

    pub not_again : {c : Unit {0}} {i x : ℕ} → MayBind store scope g c i x → x ∈ scope.sees i → ⊥
    not_again {x = x} (MayBind.itself {i = i} m l) s = (names i).2 x s (subst (λ (z : ℕ). z ∈ scope.binds i) (sym l) m)
    not_again (MayBind.entering {i = i} {x = x} e l m n) s = plain i x m
    not_again {x = x} (MayBind.in_branch {i = i} {b = b} e m d) s = not_again d (parts i e b m x s)
    not_again {x = x} (MayBind.in_member {i = i} {m = b} e m d) s = not_again d (parts i e b m x s)
    not_again {x = x} (MayBind.in_body {i = i} e d) s = not_again d (parts i e x s)
    not_again {x = x} (MayBind.in_case {i = i} {b = b} e m d) s = not_again d (parts i e b m x s)
    not_again {x = x} (MayBind.in_rule {i = i} e l d) s = not_again d ((parts i e).0 x s)

  nothing_bound : (i : ℕ) → scope.binds i ≡ [] → (x : ℕ) → x ∈ scope.sees i → x ∈ scope.binds i → ⊥
  nothing_bound i e x s m = Memᴰ.not-nil (subst (λ (l : List ℕ). x ∈ l) e m)

  -- a binder of a variable that is not yet seen
  pub binder_names : (i x w : ℕ) (member : ℕ → Bool) → scope.binds i ≡ x ∷ [] → (x ∈ scope.sees i → ⊥) → Names i (uint_var x w member)
  binder_names i x w member e d = (
    (
      λ c v v' bits a. refl,
      λ c v v' bits a y m.
          elim (Memᴰ.append_cases (scope.sees i) m) [ inl k ↦ bind_same v v' x (value bits) y (a y k) | inr k ↦ bind_new v v' x (value bits) y (is_it y k) ],
      λ c v bits y n. bind_other v x (value bits) y (λ q. n y (subst (λ (l : List ℕ). y ∈ l) (sym e) (Memᴰ.head q)) refl),
      λ c v v' bits p. refl,
    ),
    tt,
    λ y s m. d (subst (λ (z : ℕ). z ∈ scope.sees i) (is_it y m) s),
  )
    where
      is_it : (y : ℕ) → y ∈ scope.binds i → y ≡ x
      is_it y m = Memᴰ.eq_of_singleton (subst (λ (l : List ℕ). y ∈ l) e m)

  -- a field without a binder
  pub field_names : (i w : ℕ) (p : Bits → Bool) → scope.binds i ≡ [] → Names i (field (λ bits. w) (λ c v bits. p bits) p (λ c v bits. v))
  field_names i w p e = (
    (
      λ c v v' bits a. refl,
      λ c v v' bits a y m. elim (Memᴰ.append_cases (scope.sees i) m) [ inl k ↦ a y k | inr k ↦ absurd (Memᴰ.not-nil (subst (λ (l : List ℕ). y ∈ l) e k)) ],
      λ c v bits y n. refl,
      λ c v v' bits p. refl,
    ),
    tt,
    nothing_bound i e,
  )

  pub repetition_names : (i b : ℕ) (counts : Unit {0} → Variables → Counts) (static : Counts) (fixed : Bool) → scope.binds i ≡ [] → scope.sees b ≡ scope.sees i
      → ((c : Unit {0}) (v v' : Variables) → Agree store c (scope.sees i) v v' → counts c v ≡ counts c v') → Names i (repetition counts static fixed b)
  repetition_names i b counts static fixed e q a = ((e, q, a), λ x h. subst (λ (l : List ℕ). x ∈ l) (sym q) h, nothing_bound i e)

  -- an alternative or a switch, all of whose parts see what it sees
  same_terminal : (i : ℕ) (is : List ℕ) → ((b : ℕ) → b ∈ is → scope.sees b ≡ scope.sees i) → (b : ℕ) → b ∈ is → SeenIn i b
  same_terminal i is q b m x h = subst (λ (l : List ℕ). x ∈ l) (sym (q b m)) h

  pub alternative_names : (i : ℕ) (is : List ℕ) → scope.binds i ≡ [] → ((b : ℕ) → b ∈ is → scope.sees b ≡ scope.sees i) → Names i (alternative is)
  alternative_names i is e q = ((e, q), same_terminal i is q, nothing_bound i e)

  pub switch_names : (i : ℕ) (chosen : Unit {0} → Variables → Option ℕ) (optional : Bool) (is : List ℕ) → scope.binds i ≡ [] → ((b : ℕ) → b ∈ is → scope.sees b ≡ scope.sees i)
      → ((c : Unit {0}) (v : Variables) (b : ℕ) → chosen c v ≡ some b → b ∈ is) → ((c : Unit {0}) (v v' : Variables) → Agree store c (scope.sees i) v v' → chosen c v ≡ chosen c v')
      → Names i (switch chosen optional is)
  switch_names i chosen optional is e q listed a = ((e, λ c v b z. q b (listed c v b z), a), same_terminal i is q, nothing_bound i e)

  -- a rule's top concatenation, which sees nothing
  pub top_names : (i : ℕ) (is : List ℕ) → scope.binds i ≡ [] → scope.sees i ≡ [] → Chain scope (scope.sees i) is → Names i (concatenation is)
  top_names i is e q k = ((e, k), λ b m x h. absurd (Memᴰ.not-nil (subst (λ (l : List ℕ). x ∈ l) q h)), nothing_bound i e)

-- names of a grammar, by its constructs
pub lexical : (s : Sample) → Hypotheses (grammar_of s) s.tests → length s.binds ≡ length s.constructs → (scope_of s).sees 0 ≡ []
    → Listed (Names (scope_of s)) s.constructs → Lexical store (scope_of s) fresh (grammar_of s)
unfolding grammar_of scope_of
lexical s hypotheses l z p =
    record {
      scoped = λ i. (names i).0;
      not_bound_again = λ c i x m d. not_again (scope_of s) (grammar_of s) names no_parameters d m;
      values_stay = λ {i} e. hypotheses.values_stay {i = i} e;
      entered = λ {i} e o c c' v v' z a x m. absurd (Memᴰ.not-nil (subst (λ (l : List ℕ). x ∈ l) (parts (scope_of s) (grammar_of s) names no_parameters i e).1 m));
      entered_reported = λ e o c v v' a p. refl;
    }
  where
    names : (i : ℕ) → Names (scope_of s) i ((grammar_of s).node i)
    names =
        each opening_use nothing s.constructs (Names (scope_of s))
        ((refl, λ c c' v x e n. refl), (λ x h. absurd (Memᴰ.not-nil h), z), λ x h. absurd (Memᴰ.not-nil h))
        (λ i h. alternative_names (scope_of s) i [] (numbered_neither [] [] s.binds i (omega (arith, h.0), h.1)) (λ b m. absurd (Memᴰ.not-nil m)))
        p

    no_parameters : (i x : ℕ) → x ∈ (scope_of s).enters_with i → ⊥
    no_parameters i x m = Memᴰ.not-nil m
