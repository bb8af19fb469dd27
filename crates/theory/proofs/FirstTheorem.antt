-- First: a derivation over bits puts the first 8 of them into FIRST.
-- Assumes nothing.
use mathlib.Core.Path.{◌≡◌, refl, sym, ◌∙◌, ap}
use mathlib.Core.List.{◌++◌, append_assoc}
use Rattle.basis.specs.Bits.{Bits}
use Rattle.basis.specs.Lookahead.{lookahead}
use Rattle.basis.proofs.Joins.{lookahead_append}
use Rattle.theory.specs.Grammar.{Grammar}
use Rattle.theory.specs.Derivation.{Tree, covered, Shape, construct, members, passes, Derives}
use Rattle.theory.specs.Lookahead.{First}
use Rattle.theory.specs.Hypotheses.{Static}

module _ {Context Values : Type 0} (g : Grammar Context Values) where
  -- a shape's node is the grammar's
  abbrev pub Known : Shape Context Values → Type 0
  Known (construct i n) = g.node i ≡ n
  Known (members is) = Unit {0}
  Known (passes b k) = Unit {0}

  -- what a tree covers is what was before it, without what is left
  pub covers : {what : Shape Context Values} {t : Tree} {c : Context} {v v' : Values} {s r : Bits} → Derives g what t c v s v' r → s ≡ covered t ++ r
  unfolding covered
  covers (Derives.of_alternative m d) = covers d
  covers (Derives.of_concatenation d) = covers d
  covers (Derives.of_repetition k a d) = covers d
  covers (Derives.of_switch e d) = covers d
  covers (Derives.of_no_case e o) = refl
  covers (Derives.of_use e d q) = covers d
  covers (Derives.of_field bits l e a q) = e
  covers Derives.of_eod = refl
  covers Derives.no_members = refl
  covers (Derives.more_members {t = t} {u = u} {s'' = r} d ds) = covers d ∙ (ap (covered t ++◌) (covers ds) ∙ sym (append_assoc (covered t) (covered u) r))
  covers Derives.no_passes = refl
  covers (Derives.more_passes {t = t} {u = u} {s'' = r} d ds) = covers d ∙ (ap (covered t ++◌) (covers ds) ∙ sym (append_assoc (covered t) (covered u) r))

  pub first : Static g → {what : Shape Context Values} {t : Tree} {c : Context} {v v' : Values} {s r : Bits} → Derives g what t c v s v' r → Known what → First g what (lookahead (covered t))
  unfolding covered
  first h (Derives.of_alternative m d) q = First.of_alternative m (first h d refl)
  first h (Derives.of_concatenation d) q = First.of_concatenation (first h d tt)
  first h (Derives.of_repetition {c = c} {v = v} k a d) q = First.of_repetition k (h.counts_static q c v k a) (first h d tt)
  first h (Derives.of_switch {c = c} {v = v} e d) q = First.of_switch (h.chosen_listed q c v e) (first h d refl)
  first h (Derives.of_no_case e o) q = First.of_no_case o
  first h (Derives.of_use e d z) q = First.of_use (first h d refl)
  first h (Derives.of_field {c = c} {v = v} bits l e a z) q = First.of_field bits l (h.bits_static q c v bits a) refl
  first h Derives.of_eod q = First.of_eod
  first h Derives.no_members q = First.no_members
  first h (Derives.more_members {t = t} {u = u} d ds) q = First.more_members (first h d refl) (first h ds tt) (lookahead_append (covered t) (covered u))
  first h Derives.no_passes q = First.no_passes
  first h (Derives.more_passes {t = t} {u = u} d ds) q = First.more_passes (first h d refl) (first h ds tt) (lookahead_append (covered t) (covered u))
