-- Of well laid out words: where a node of the grammar that they hold leads.
-- Assumes nothing.
use Prim.Native.Nat.{ℕ, ◌+◌, ◌<◌}
use mathlib.Core.Path.{◌≡◌, refl, subst}
use mathlib.Core.Logic.{◌⊎◌, inl, inr}
use mathlib.Core.Bool.{Bool}
use mathlib.Core.List.{List}
use native.Mathlib.Omega.{arith}
use native.Mathlib.Decide.{dec_lt, ℕ_discrete}
use Rattle.basis.specs.Limits.{max_constructs}
use Rattle.basis.specs.Counts.{Counts}
use Rattle.theory.specs.Grammar.{alternative, concatenation, repetition, switch, use_of, field, eod, ◌∈◌}
use Rattle.table_layout.specs.Places.{rule_count, construct_count}
use Rattle.table_layout.specs.Constructs.{construct_at}
use Rattle.table_layout.specs.Held.{Context, Values, HeldNode, node_of, held, opening}
use Rattle.table_layout.specs.declared.Construct.{Construct}
use Rattle.table_layout.proofs.Views.{Parted, parted, leaf_node}
use Rattle.table_layout.specs.declared.Passes.{Passes}
use Rattle.table_wellformed.specs.Rules.{body}
use Rattle.table_structure.proofs.Facts.{Laid}
use Rattle.table_structure.proofs.RuleLaws.{rule_of, rule_within}
use Rattle.table_structure.proofs.Owners.{PartOf, part_within, rule_holds}
use Rattle.table_structure.proofs.NodeFacts.{body_exists, missing_past}
use Rattle.table_first_follow.proofs.HeldLaws.{node_inside, node_opening, node_past}
use Rattle.table_conflicts.proofs.Continuing.{below}

-- a repetition is a construct, and its body the next one
pub record Repeating (ws : List ℕ) (i b : ℕ) : Type 0 where
  pub there : i < construct_count ws
  pub next : b ≡ i + 1
  pub size : ℕ
  pub how : Passes
  pub is : construct_at ws i ≡ Construct.Repetition size how

abbrev Repeated : List ℕ → ℕ → HeldNode → Type 0
Repeated ws i (alternative is) = Unit {0}
Repeated ws i (concatenation is) = Unit {0}
Repeated ws i (repetition counts static fixed b) = Repeating ws i b
Repeated ws i (switch chosen optional is) = Unit {0}
Repeated ws i (use_of enters opens closes b) = Unit {0}
Repeated ws i (field w admits static binds) = Unit {0}
Repeated ws i eod = Unit {0}

module _ {ws : List ℕ} (l : Laid ws) where
  repeated_by : (i : ℕ) {c : Construct} → Parted c → i < construct_count ws → construct_at ws i ≡ c → Repeated ws i (node_of ws i c)
  unfolding node_of
  repeated_by i Parted.missing h e = tt
  repeated_by i (Parted.branches size) h e = tt
  repeated_by i (Parted.members size) h e = tt
  repeated_by i (Parted.body size how) h e = record { there = h; next = refl; size = size; how = how; is = e }
  repeated_by i (Parted.cases size) h e = tt
  repeated_by i (Parted.opens rule) h e = tt
  repeated_by i (Parted.leaf f) h e = leaf_node ws i (Repeated ws i) (λ w admits static binds. tt) tt _ f

  repeated : (i : ℕ) → Repeated ws i ((held ws).node i)
  unfolding node_of
  repeated i =
      elim (ℕ_discrete i opening) [
        | yes e ↦ rw (node_opening ws i e) tt
        | no e ↦ elim (dec_lt i max_constructs) [
          | yes k ↦ rw (node_inside ws i k)
              (elim (dec_lt i (construct_count ws)) [ yes h ↦ repeated_by i (parted (construct_at ws i)) h refl | no h ↦ rw (missing_past l i (omega arith), node_of) tt ])
          | no k ↦ rw (node_past ws i (omega arith)) tt
        ]
      ]

  pub repeating : (i b : ℕ) (counts : Context → Values → Counts) (static : Counts) (fixed : Bool) → (held ws).node i ≡ repetition counts static fixed b → Repeating ws i b
  repeating i b counts static fixed e = subst (Repeated ws i) e (repeated i)

  below_there : (i b : ℕ) → ((i < construct_count ws) × PartOf ws i b) ⊎ ((r : ℕ) × (r < rule_count ws) × (b ≡ body ws r)) → b < construct_count ws
  below_there i b (inl (h, m)) =
      let p = part_within l i b h m in
      let r = rule_of l i h in
      omega (arith, p.1, p.2, rule_holds l i h, rule_within l r.rule r.exists)
  below_there i b (inr (r, h, e)) = omega (arith, body_exists l r h)

  -- a branch of an alternative is a construct
  pub branch_there : (i b : ℕ) (is : List ℕ) → (held ws).node i ≡ alternative is → b ∈ is → b < construct_count ws
  branch_there i b is e m = below_there i b (below l i b (rw e m))

  -- and so is a repetition's body
  pub body_there : (i b : ℕ) (counts : Context → Values → Counts) (static : Counts) (fixed : Bool) → (held ws).node i ≡ repetition counts static fixed b → b < construct_count ws
  body_there i b counts static fixed e = below_there i b (below l i b (rw e refl))
