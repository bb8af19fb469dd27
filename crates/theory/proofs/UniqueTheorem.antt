-- Unique: any two derivations of one frame are the same tree.
-- Assumes nothing.
use Prim.Native.Nat.{ℕ, suc}
use native.Mathlib.Omega.{arith}
use native.Mathlib.Decide.{ℕ_discrete}
use mathlib.Core.Path.{◌≡◌, refl, sym, ◌∙◌, ap, ap₂, subst, subst₂}
use mathlib.Core.Bool.{Bool, true, false}
use mathlib.Core.List.{List, [], ◌++◌}
use mathlib.Core.Option.{Option, none, some}
use lib.ListN.{length, take, drop}
use lib.Seq.{take_at, drop_at}
use Rattle.basis.specs.Bits.{Bits}
use Rattle.basis.specs.Counts.{Counts, Allows}
use Rattle.basis.specs.Lookahead.{lookahead}
use Rattle.theory.specs.Grammar.{Node, Grammar, alternative, repetition, ◌∈◌}
use Rattle.theory.specs.Derivation.{Tree, leaf, node, member, pass, Shape, construct, members, passes, Derives}
use Rattle.theory.specs.Lookahead.{Follow, Continues, Conflict}
use Rattle.theory.specs.Hypotheses.{Static}
use Rattle.theory.proofs.FieldWidths.{derived_width}
use Rattle.theory.proofs.FirstTheorem.{first}
use Rattle.theory.proofs.FollowTheorem.{After, next_follows, after_member, after_members, after_pass, derived_predicted}

module _ {Context Values : Type 0} (g : Grammar Context Values) (h : Static g) (no_conflict : (i : ℕ) (x : Bits) → Conflict g i x → ⊥) where
  -- two derivations' trees, and what they leave, are the same
  abbrev pub Same : Tree → Values → Bits → Tree → Values → Bits → Type 0
  Same t v s t' v' s' = (t ≡ t') × (v ≡ v') × (s ≡ s')

  -- passes of a repetition not written `{n}` that end here, and passes that go on from here, conflict
  exit_or_continue : {i b k : ℕ} {counts : Context → Values → Counts} {static : Counts} {t : Tree} {c : Context} {v v' : Values} {s r : Bits}
      → g.node i ≡ repetition counts static false b → Follow g i (lookahead s)
      → Derives g (passes b (suc k)) t c v s v' r → Follow g i (lookahead r) → ⊥
  exit_or_continue {i} {k = k} {s = s} q exits d f =
      no_conflict i (lookahead s) (Conflict.of_passes q (Continues.continues k (first g h d tt) f (next_follows g d)) exits)

  -- so passes of one repetition are as many, whichever derivation they stand in: for `{n}` by its counts
  never_both : {i b k : ℕ} {counts : Context → Values → Counts} {static : Counts} (fixed : Bool) {t : Tree} {c : Context} {v v' : Values} {s r : Bits}
      → g.node i ≡ repetition counts static fixed b → (fixed ≡ true → 0 ≡ suc k) → Follow g i (lookahead s)
      → Derives g (passes b (suc k)) t c v s v' r → Follow g i (lookahead r) → ⊥
  never_both true q once exits d f = let z = once refl in omega arith
  never_both false q once exits d f = exit_or_continue q exits d f

  -- The shapes of two derivations that are to be the same, with what follows the one and the other. Passes are of one repetition; that
  -- they are as many is to be shown, but for `{n}`, where the counts say it.
  pub data Twins (x x' : Bits) : Shape Context Values → Shape Context Values → Type 0 where
    one : {i : ℕ} {n : Node Context Values} → g.node i ≡ n → Follow g i x → Follow g i x' → Twins x x' (construct i n) (construct i n)
    several : {is : List ℕ} → After g (members is) x → After g (members is) x' → Twins x x' (members is) (members is)
    repeated : {i b k k' : ℕ} {counts : Context → Values → Counts} {static : Counts} (fixed : Bool)
        → g.node i ≡ repetition counts static fixed b → (fixed ≡ true → k ≡ k') → Follow g i x → Follow g i x' → Twins x x' (passes b k) (passes b k')

  -- the same derivation, of a construct, in a context or from a place that is named otherwise
  of_construct : {b b' : ℕ} {t : Tree} {c : Context} {v v' : Values} {s r : Bits} → b ≡ b' → Derives g (construct b' (g.node b')) t c v s v' r → Derives g (construct b (g.node b)) t c v s v' r
  of_construct {t = t} {c} {v} {v'} {s} {r} p d = subst (λ (x : ℕ). Derives g (construct x (g.node x)) t c v s v' r) (sym p) d

  in_context : {what : Shape Context Values} {t : Tree} {c c' : Context} {v v' : Values} {s r : Bits} → c ≡ c' → Derives g what t c' v s v' r → Derives g what t c v s v' r
  in_context {what} {t} {v = v} {v'} {s} {r} p d = subst (λ (x : Context). Derives g what t x v s v' r) (sym p) d

  from_place : {what : Shape Context Values} {t : Tree} {c : Context} {v₀ v v' : Values} {s₀ s r : Bits} → v₀ ≡ v → s₀ ≡ s → Derives g what t c v s v' r → Derives g what t c v₀ s₀ v' r
  from_place {what} {t} {c} {v' = v'} {r = r} p p' d = subst₂ (λ (x : Values) (y : Bits). Derives g what t c x y v' r) (sym p) (sym p') d

  same_branch : {i b b' : ℕ} {is : List ℕ} {t t' : Tree} {c : Context} {v v₁ v₂ : Values} {s r r' : Bits} → g.node i ≡ alternative is → b ∈ is → b' ∈ is
      → Derives g (construct b (g.node b)) t c v s v₁ r → Follow g i (lookahead r) → Derives g (construct b' (g.node b')) t' c v s v₂ r' → Follow g i (lookahead r') → b ≡ b'
  same_branch {i} {b} {b'} {s = s} q m m' d f d' f' =
      elim (ℕ_discrete b b') [
        | yes p ↦ p
        | no n ↦ absurd (no_conflict i (lookahead s) (Conflict.of_branches q m m' n (derived_predicted g h d (Follow.of_branch q m f)) (derived_predicted g h d' (Follow.of_branch q m' f'))))
      ]

  same_some : {A : Type 0} {o : Option A} {a b : A} → o ≡ some a → o ≡ some b → a ≡ b
  same_some p q = cc

  none_or_some : {A B : Type 0} {o : Option A} {a : A} → o ≡ none → o ≡ some a → B
  none_or_some p q = let z : ◌≡◌ {A = ℕ} 0 1 = cc in absurd (omega arith)

  as_many : {i b : ℕ} {counts : Context → Values → Counts} {static : Counts} (fixed : Bool) (c : Context) (v : Values) {k k' : ℕ}
      → g.node i ≡ repetition counts static fixed b → Allows (counts c v) k → Allows (counts c v) k' → fixed ≡ true → k ≡ k'
  as_many true c v {k} {k'} q a a' e = h.fixed_once q c v k k' a a'
  as_many false c v q a a' e = let z : ◌≡◌ {A = ℕ} 0 1 = cc in absurd (omega arith)

  same_front : (w : ℕ) {s r r' : Bits} (bits bits' : Bits) → length bits ≡ w → s ≡ bits ++ r → length bits' ≡ w → s ≡ bits' ++ r' → (bits ≡ bits') × (r ≡ r')
  same_front w {s} {r} {r'} bits bits' l e l' e' =
      (sym (take_at bits r w l) ∙ (ap (take w) (sym e ∙ e') ∙ take_at bits' r' w l'), sym (drop_at bits r w l) ∙ (ap (drop w) (sym e ∙ e') ∙ drop_at bits' r' w l'))

  under : (i : ℕ) {t t' : Tree} {v v' : Values} {s s' : Bits} → Same t v s t' v' s' → Same (node i t) v s (node i t') v' s'
  under i e = (ap (node i) e.0, e.1, e.2)

  pub unique : {what what' : Shape Context Values} {t t' : Tree} {c : Context} {v v₁ v₂ : Values} {s s₁ s₂ : Bits}
      → Derives g what t c v s v₁ s₁ → Twins (lookahead s₁) (lookahead s₂) what what' → Derives g what' t' c v s v₂ s₂ → Same t v₁ s₁ t' v₂ s₂
  unique (Derives.of_alternative {i} m d) (Twins.one q f f') (Derives.of_alternative m' d') =
      under i
      (unique d (Twins.one refl (Follow.of_branch q m f) (Follow.of_branch q m f')) (of_construct (same_branch q m m' d f d' f') d'))
  unique (Derives.of_concatenation {i} d) (Twins.one q f f') (Derives.of_concatenation d') = under i (unique d (Twins.several (After.of_members [] q f) (After.of_members [] q f')) d')
  unique (Derives.of_repetition {i} {fixed = fixed} {c = c} {v = v} k a d) (Twins.one q f f') (Derives.of_repetition k' a' d') = under i (unique d (Twins.repeated fixed q (as_many fixed c v q a a') f f') d')
  unique (Derives.of_switch {i} {c = c} {v = v} e d) (Twins.one q f f') (Derives.of_switch e' d') =
      let m = h.chosen_listed q c v e in
      under i (unique d (Twins.one refl (Follow.of_case q m f) (Follow.of_case q m f')) (of_construct (same_some e e') d'))
  unique (Derives.of_switch e d) (Twins.one q f f') (Derives.of_no_case e' o) = none_or_some e' e
  unique (Derives.of_no_case e o) (Twins.one q f f') (Derives.of_switch e' d') = none_or_some e e'
  unique (Derives.of_no_case e o) (Twins.one q f f') (Derives.of_no_case e' o') = (refl, refl, refl)
  unique (Derives.of_use {i} {closes = closes} {v = v} e d z) (Twins.one q f f') (Derives.of_use e' d' z') =
      let x = unique d (Twins.one refl (Follow.of_rule q f) (Follow.of_rule q f')) (in_context (same_some e e') d') in
      (ap (node i) x.0, z ∙ (ap (closes v) x.1 ∙ sym z'), x.2)
  unique (Derives.of_field {i} {w} {binds = binds} {c = c} {v = v} {s = s} {r = r} bits l e a z) (Twins.one q f f') (Derives.of_field {r = r'} bits' l' e' a' z') =
      let x = same_front (w s) bits bits' (derived_width g h q bits r l e) e (derived_width g h q bits' r' l' e') e' in
      (ap (leaf i) x.0, z ∙ (ap (binds c v) x.0 ∙ sym z'), x.1)
  unique Derives.of_eod (Twins.one q f f') Derives.of_eod = (refl, refl, refl)
  unique Derives.no_members (Twins.several a a') Derives.no_members = (refl, refl, refl)
  unique (Derives.more_members d ds) (Twins.several a a') (Derives.more_members d' ds') =
      let x = unique d (Twins.one refl (after_member g h a ds) (after_member g h a' ds')) d' in
      let y = unique ds (Twins.several (after_members g h a) (after_members g h a')) (from_place x.1 x.2 ds') in
      (ap₂ member x.0 y.0, y.1, y.2)
  unique Derives.no_passes (Twins.repeated fixed q once f f') Derives.no_passes = (refl, refl, refl)
  unique Derives.no_passes (Twins.repeated fixed q once f f') (Derives.more_passes d' ds') = absurd (never_both fixed q once f (Derives.more_passes d' ds') f')
  unique (Derives.more_passes d ds) (Twins.repeated fixed q once f f') Derives.no_passes = absurd (never_both fixed q (λ x. sym (once x)) f' (Derives.more_passes d ds) f)
  unique (Derives.more_passes d ds) (Twins.repeated fixed q once f f') (Derives.more_passes d' ds') =
      let x = unique d (Twins.one refl (after_pass g h (After.of_passes q f) ds) (after_pass g h (After.of_passes q f') ds')) d' in
      let y = unique ds (Twins.repeated fixed q (λ z. let e = once z in omega arith) f f') (from_place x.1 x.2 ds') in
      (ap₂ pass x.0 y.0, y.1, y.2)
