-- That the parts of a construct, of laid out words, tile what follows it up to its end.
-- Assumes nothing.
use Prim.Native.Nat.{ℕ, zero, suc, ◌+◌, ◌-◌, ◌≤◌, ◌<◌}
use mathlib.Core.Path.{◌≡◌, refl, ap, ◌∙◌}
use mathlib.Core.Bool.{Bool, true, false, ◌&&◌}
use mathlib.Core.List.{List, [], ◌∷◌}
use native.Mathlib.Omega.{arith}
use borrow.Author.Tests.{eqb-true}
use lib.Dec.{ltb, eqb}
use Rattle.basis.proofs.Booleans.{both_first, both_second}
use Rattle.table_layout.specs.Places.{construct_count}
use Rattle.table_layout.specs.Constructs.{construct_at}
use Rattle.table_layout.specs.Held.{size_of, parts}
use Rattle.table_layout.specs.declared.Construct.{Construct}
use Rattle.table_layout.proofs.Views.{Parted, missing, branches, members, body, cases, opens, leaf, parted}
use Rattle.table_wellformed.specs.Checks.{size_at}
use Rattle.table_wellformed.specs.Parts.{part_laid, parts_laid}
use Rattle.table_wellformed.specs.Laid.{operands_zero, second_part, construct_end, passes_laid, kind_laid}
use Rattle.table_layout.proofs.Bounds.{fine}
use Rattle.table_structure.proofs.Tiles.{Tiles, none, tiles, parts_more, parts_none}
use Rattle.table_structure.proofs.Facts.{Laid}
use Rattle.table_structure.proofs.PartLaws.{Tiled}

module _ (ws : List ℕ) (i : ℕ) where
  walked : (switch : Bool) (size : ℕ) → size_at ws i ≡ size → parts_laid ws switch (i + 1) (construct_end ws i) ≡ true
      → Tiles ws (λ j. part_laid ws switch (i + 1) j (i + size)) (i + size) (i + 1) (parts size ws (i + 1) (i + size))
  walked switch size e h =
      tiles ws (λ j. part_laid ws switch (i + 1) j (i + size)) (i + size) (i + size - (i + 1)) size (i + 1) (omega arith) (omega arith) (rw e at h)

  parts_one : (size : ℕ) → size_at ws i ≡ size → 2 ≤ size → second_part ws i ≡ construct_end ws i → parts size ws (i + 1) (i + size) ≡ (i + 1) ∷ []
  parts_one zero e positive s = absurd (omega arith)
  parts_one (suc m) e positive s =
      parts_more m ws (i + 1) (i + suc m) (omega arith) (omega arith) ∙ ap (λ (js : List ℕ). (i + 1) ∷ js) (parts_none m ws (i + 1 + size_at ws (i + 1)) (i + suc m) (omega arith))

  single : (size : ℕ) → size_at ws i ≡ size → 2 ≤ size → (eqb (second_part ws i) (construct_end ws i) && parts_laid ws false (i + 1) (construct_end ws i)) ≡ true
      → Tiles ws (λ j. part_laid ws false (i + 1) j (i + size)) (i + size) (i + 1) ((i + 1) ∷ [])
  single size e positive h =
      let S : Bool = eqb (second_part ws i) (construct_end ws i)
      in let P : Bool = parts_laid ws false (i + 1) (construct_end ws i)
      in rw (parts_one size e positive (eqb-true (second_part ws i) (construct_end ws i) (both_first S P h))) at (walked false size e (both_second S P h))

  -- by what construct i is
  tiled_by : {c : Construct} → Parted c → construct_at ws i ≡ c → kind_laid ws i c ≡ true → Tiled ws i c
  tiled_by missing e h = let z : ◌≡◌ {A = ℕ} 0 1 = cc in absurd (omega arith)
  tiled_by (branches size) e h = walked false size (ap size_of e) (both_second (ltb (second_part ws i) (construct_end ws i)) (parts_laid ws false (i + 1) (construct_end ws i)) (both_second (operands_zero ws i 2) (ltb (second_part ws i) (construct_end ws i) && parts_laid ws false (i + 1) (construct_end ws i)) h))
  tiled_by (members size) e h = walked false size (ap size_of e) (both_second (ltb (second_part ws i) (construct_end ws i)) (parts_laid ws false (i + 1) (construct_end ws i)) (both_second (operands_zero ws i 2) (ltb (second_part ws i) (construct_end ws i) && parts_laid ws false (i + 1) (construct_end ws i)) h))
  tiled_by (body size passes) e h = single size (ap size_of e) (rw e at (fine ws i)).0 (both_second (passes_laid ws i passes) (eqb (second_part ws i) (construct_end ws i) && parts_laid ws false (i + 1) (construct_end ws i)) h)
  tiled_by (cases size) e h = walked true size (ap size_of e) (both_second (operands_zero ws i 2) (parts_laid ws true (i + 1) (construct_end ws i)) h)
  tiled_by (opens rule) e h = none refl
  tiled_by (leaf f) e h = rw (f.below, f.size) (none refl)

pub tiled : {ws : List ℕ} → Laid ws → (i : ℕ) → i < construct_count ws → Tiled ws i (construct_at ws i)
tiled {ws} l i h = tiled_by ws i (parted (construct_at ws i)) refl (l.kind i h)
