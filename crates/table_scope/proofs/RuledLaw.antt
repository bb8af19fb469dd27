-- Well laid out words have what the laws of weight rest on.
-- Assumes nothing.
use Prim.Native.Nat.{ℕ, ◌+◌, ◌≤◌, ◌<◌}
use mathlib.Core.Path.{◌≡◌, refl, subst}
use mathlib.Core.Bool.{Bool, true}
use mathlib.Core.List.{List, [], ◌∷◌}
use native.Mathlib.Omega.{arith}
use Rattle.table_layout.specs.Places.{construct_count}
use Rattle.table_layout.specs.Constructs.{construct_at}
use Rattle.table_layout.specs.declared.Construct.{Construct}
use Rattle.table_layout.proofs.Views.{Parted, parted}
use Rattle.table_wellformed.specs.Laid.{laid}
use Rattle.table_structure.proofs.Tiles.{Tiles as Row, none, more}
use Rattle.table_structure.proofs.Facts.{Laid, facts}
use Rattle.table_structure.proofs.PartLaws.{Tiled}
use Rattle.table_structure.proofs.Tilings.{tiled}
use Rattle.table_structure.proofs.RuleLaws.{rule_fact}
use Rattle.table_structure.proofs.NodeFacts.{use_names, body_exists, missing_past}
use Rattle.table_weights.specs.Ruled.{size_at, Tiles, Filled, Ruled}

row : {ws : List ℕ} {check : ℕ → Bool} {end j : ℕ} {js : List ℕ} → Row ws check end j js → Tiles ws end j
row (none e) = Tiles.done e
row {ws} {end = end} (more positive-end positive c e rest) = Tiles.more positive (subst (λ (k : ℕ). Tiles ws end k) e (row rest))

-- a repetition has one part
one_of : {ws : List ℕ} {check : ℕ → Bool} {end j k : ℕ} → Row ws check end j (k ∷ []) → (1 ≤ size_at ws j) × (j + size_at ws j ≡ end)
one_of (more h positive c e (none f)) = (positive, omega arith)

one : (ws : List ℕ) (i size : ℕ) {check : ℕ → Bool} → Row ws check (i + size) (i + 1) ((i + 1) ∷ []) → (1 ≤ size_at ws (i + 1)) × (i + 1 + size_at ws (i + 1) ≡ i + size)
one ws i size t = one_of t

filled_by : {ws : List ℕ} (l : Laid ws) (i : ℕ) → i < construct_count ws → {c : Construct} → Parted c → construct_at ws i ≡ c → Tiled ws i c → Filled ws i c
filled_by l i h Parted.missing e t = tt
filled_by l i h (Parted.branches size) e t = row t
filled_by l i h (Parted.members size) e t = row t
filled_by {ws} l i h (Parted.body size passes) e t = one ws i size t
filled_by l i h (Parted.cases size) e t = row t
filled_by l i h (Parted.opens rule) e t = use_names l i rule h e
filled_by l i h (Parted.leaf f) e t = rw f.below tt

pub ruled_of : {ws : List ℕ} → Laid ws → Ruled ws
ruled_of {ws} l =
    record {
      some_rule = l.counts.some_rule;
      rules_most = l.counts.rules;
      constructs_most = l.counts.constructs;
      first_body = l.start_body;
      body_there = body_exists l;
      body_whole = λ r h. (rule_fact l r h).ends;
      filled = λ i h. filled_by l i h (parted (construct_at ws i)) refl (tiled l i h);
      none_after = missing_past l;
    }

pub ruled : (ws : List ℕ) → laid ws ≡ true → Ruled ws
ruled ws h = ruled_of (facts ws h)
