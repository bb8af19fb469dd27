-- Two grammars whose nodes are the same at all values with a property, which fields and uses keep, have the same derivations from such values: so it is
-- enough to compare sets, counts and cases at values within the variables' widths.
-- Assumes nothing.
use Prim.Native.Nat.{ℕ}
use mathlib.Core.Path.{◌≡◌, sym, subst, ◌∙◌}
use mathlib.Core.Bool.{Bool}
use mathlib.Core.List.{List}
use mathlib.Core.Option.{Option}
use lib.ListN.{length}
use Rattle.basis.specs.Bits.{Bits}
use Rattle.basis.specs.Counts.{Counts, Allows}
use Rattle.theory.specs.Grammar.{Node, alternative, concatenation, repetition, switch, use_of, field, eod, Grammar}
use Rattle.theory.specs.Derivation.{Tree, Shape, construct, members, passes, Derives, of_alternative, of_concatenation, of_repetition, of_switch, of_no_case, of_use, of_field, of_eod, no_members, more_members, no_passes, more_passes}

module _ {Context Values : Type 0} (P : Values → Type 0) where
  -- the same parts; the same counts, cases and bits admitted at values with the property, which stays
  pub data SameNode : Node Context Values → Node Context Values → Type 0 where
    same_alternative : {is : List ℕ} → SameNode (alternative is) (alternative is)
    same_concatenation : {is : List ℕ} → SameNode (concatenation is) (concatenation is)
    same_repetition : {counts counts' : Context → Values → Counts} {static : Counts} {fixed : Bool} {b : ℕ} → ((c : Context) (v : Values) → P v → counts c v ≡ counts' c v)
        → SameNode (repetition counts static fixed b) (repetition counts' static fixed b)
    same_switch : {chosen chosen' : Context → Values → Option ℕ} {optional : Bool} {is : List ℕ} → ((c : Context) (v : Values) → P v → chosen c v ≡ chosen' c v)
        → SameNode (switch chosen optional is) (switch chosen' optional is)
    same_use : {enters : Context → Option Context} {opens : Context → Values → Values} {closes : Values → Values → Values} {b : ℕ} → ((c : Context) (v : Values) → P v → P (opens c v))
        → ((v v' : Values) → P v → P v' → P (closes v v')) → SameNode (use_of enters opens closes b) (use_of enters opens closes b)
    same_field : {w : Bits → ℕ} {admits admits' : Context → Values → Bits → Bool} {static : Bits → Bool} {binds : Context → Values → Bits → Values}
        → ((c : Context) (v : Values) (bits : Bits) → P v → admits c v bits ≡ admits' c v bits) → ((c : Context) (v : Values) (bits : Bits) → length bits ≡ w bits → P v → P (binds c v bits))
        → SameNode (field w admits static binds) (field w admits' static binds)
    same_eod : SameNode eod eod

  pub same_back : {n n' : Node Context Values} → SameNode n n' → SameNode n' n
  same_back same_alternative = same_alternative
  same_back same_concatenation = same_concatenation
  same_back (same_repetition e) = same_repetition (λ c v p. sym (e c v p))
  same_back (same_switch e) = same_switch (λ c v p. sym (e c v p))
  same_back (same_use o k) = same_use o k
  same_back (same_field e k) = same_field (λ c v bits p. sym (e c v bits p)) k
  same_back same_eod = same_eod

  pub data SameShape : Shape Context Values → Shape Context Values → Type 0 where
    same_construct : {i : ℕ} {n n' : Node Context Values} → SameNode n n' → SameShape (construct i n) (construct i n')
    same_members : {is : List ℕ} → SameShape (members is) (members is)
    same_passes : {b k : ℕ} → SameShape (passes b k) (passes b k)

  module _ (g h : Grammar Context Values) (all : (i : ℕ) → SameNode (g.node i) (h.node i)) where
    pub agree : {what what' : Shape Context Values} {t : Tree} {c : Context} {v v' : Values} {s r : Bits} → Derives g what t c v s v' r → SameShape what what' → P v
        → Derives h what' t c v s v' r × P v'
    agree (of_alternative {b} m d) (same_construct same_alternative) p = let r = agree d (same_construct (all b)) p in (of_alternative m r.0, r.1)
    agree (of_concatenation d) (same_construct same_concatenation) p = let r = agree d same_members p in (of_concatenation r.0, r.1)
    agree (of_repetition {c} {v} k a d) (same_construct (same_repetition e)) p =
        let r = agree d same_passes p in (of_repetition k (subst (λ (x : Counts). Allows x k) (e c v p) a) r.0, r.1)
    agree (of_switch {b} {c} {v} e d) (same_construct (same_switch f)) p = let r = agree d (same_construct (all b)) p in (of_switch (sym (f c v p) ∙ e) r.0, r.1)
    agree (of_no_case {c} {v} e o) (same_construct (same_switch f)) p = (of_no_case (sym (f c v p) ∙ e) o, p)
    agree (of_use {b} {c} {v} {v'} e d f) (same_construct (same_use o k)) p =
        let r = agree d (same_construct (all b)) (o c v p) in (of_use e r.0 f, subst P (sym f) (k v v' p r.1))
    agree (of_field {c} {v} bits l e a f) (same_construct (same_field x k)) p = (of_field bits l e (sym (x c v bits p) ∙ a) f, subst P (sym f) (k c v bits l p))
    agree of_eod (same_construct same_eod) p = (of_eod, p)
    agree no_members same_members p = (no_members, p)
    agree (more_members {m} d f) same_members p = let r = agree d (same_construct (all m)) p in let q = agree f same_members r.1 in (more_members r.0 q.0, q.1)
    agree no_passes same_passes p = (no_passes, p)
    agree (more_passes {b} d f) same_passes p = let r = agree d (same_construct (all b)) p in let q = agree f same_passes r.1 in (more_passes r.0 q.0, q.1)
