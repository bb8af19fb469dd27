-- Values: a derivation ends with the values that its tree, replayed, makes.
-- Assumes nothing.
use mathlib.Core.Path.{◌≡◌, refl, ◌∙◌, ap}
use Rattle.basis.specs.Bits.{Bits}
use Rattle.theory.specs.Grammar.{Grammar}
use Rattle.theory.specs.Derivation.{Tree, leaf_after, node_after, replayed, Shape, Derives}
use Rattle.theory.proofs.FirstTheorem.{Known}

module _ {Context Values : Type 0} (g : Grammar Context Values) where
  pub replays : {what : Shape Context Values} {t : Tree} {c : Context} {v v' : Values} {s r : Bits} → Derives g what t c v s v' r → Known g what → v' ≡ replayed g t c v
  unfolding replayed
  replays (Derives.of_alternative m d) q = rw (q, node_after) (replays d refl)
  replays (Derives.of_concatenation d) q = rw (q, node_after) (replays d tt)
  replays (Derives.of_repetition k a d) q = rw (q, node_after) (replays d tt)
  replays (Derives.of_switch e d) q = rw (q, node_after) (replays d refl)
  replays (Derives.of_no_case e o) q = rw (q, node_after) refl
  replays (Derives.of_use {closes = closes} {v = v} e d z) q = rw (q, node_after, e) (z ∙ ap (closes v) (replays d refl))
  replays (Derives.of_field bits l e a z) q = rw (q, leaf_after) z
  replays Derives.of_eod q = refl
  replays Derives.no_members q = refl
  replays (Derives.more_members {u = u} {c = c} d ds) q = replays ds tt ∙ ap (replayed g u c) (replays d refl)
  replays Derives.no_passes q = refl
  replays (Derives.more_passes {u = u} {c = c} d ds) q = replays ds tt ∙ ap (replayed g u c) (replays d refl)
