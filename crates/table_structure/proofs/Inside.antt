-- Below a construct that is no rule's body nothing binds: so what a part may use is what the construct may.
-- Assumes nothing.
use Prim.Native.Nat.{ℕ, ◌+◌, ◌≤◌, ◌<◌}
use mathlib.Core.Path.{◌≡◌}
use mathlib.Core.List.Memᴰ
use mathlib.Core.List.{List}
use native.Mathlib.Omega.{arith}
use Rattle.theory.specs.Grammar.{◌∈◌}
use Rattle.table_layout.specs.Places.{rule_count, construct_count}
use Rattle.table_layout.specs.Constructs.{construct_at}
use Rattle.table_layout.specs.declared.Construct.{Construct}
use Rattle.table_layout.proofs.Views.{Parted, missing, branches, members, body as one-part, cases, opens, leaf, parted}
use Rattle.table_wellformed.specs.Checks.{size_at}
use Rattle.table_wellformed.specs.Rules.{body, rule_end, binder_of}
use Rattle.table_structure.proofs.Tiles.{Holds, Apart, same, before, behind}
use Rattle.table_structure.proofs.Facts.{Laid}
use Rattle.table_structure.proofs.PartLaws.{parts_of}
use Rattle.table_structure.proofs.RuleLaws.{rule_of, rule_fact, rule_within}
use Rattle.table_structure.proofs.Owners.{PartOf, part_within, parts_apart, part_around, nested, one_rule, rule_holds}
use Rattle.table_structure.proofs.Binding.{top_members, members_of, top_binder}

-- a top member is the body or a part of it
pub data Top (ws : List ℕ) (i k : ℕ) : Type 0 where
  itself : k ≡ i → Top ws i k
  part : PartOf ws i k → Top ws i k

top_by : (ws : List ℕ) (i k : ℕ) {c : Construct} → Parted c → k ∈ top_members ws i c → (k ∈ parts_of ws i c → Top ws i k) → Top ws i k
top_by ws i k missing m f = itself (Memᴰ.eq_of_singleton m)
top_by ws i k (branches size) m f = itself (Memᴰ.eq_of_singleton m)
top_by ws i k (members size) m f = f m
top_by ws i k (one-part size passes) m f = itself (Memᴰ.eq_of_singleton m)
top_by ws i k (cases size) m f = itself (Memᴰ.eq_of_singleton m)
top_by ws i k (opens rule) m f = itself (Memᴰ.eq_of_singleton m)
top_by ws i k (leaf l) m f = itself (Memᴰ.eq_of_singleton (rw l.below at m))

pub top : (ws : List ℕ) (r k : ℕ) → k ∈ members_of ws r → Top ws (body ws r) k
top ws r k m = top_by ws (body ws r) k (parted (construct_at ws (body ws r))) m (λ p. part p)

module _ {ws : List ℕ} (l : Laid ws) where
  apart_not : (p k : ℕ) → p < k → k < p + size_at ws p → 0 < size_at ws k → Apart ws p k → ⊥
  apart_not p k a b c (same e) = omega arith
  apart_not p k a b c (before e) = omega arith
  apart_not p k a b c (behind e) = omega arith

  -- of rule r: k lies strictly within i, which is not the body
  not_top : (r i k : ℕ) → r < rule_count ws → i < construct_count ws → k < construct_count ws → body ws r < i → i < rule_end ws r 0 → i < k → k < i + size_at ws i → Top ws (body ws r) k → ⊥
  not_top r i k h hi hk low high a b (itself e) = omega arith
  not_top r i k h hi hk low high a b (part m) =
      let f = rule_fact l r h
      in let hb : body ws r < construct_count ws = omega (arith, rule_within l r h, f.some_construct)
      in let around : Holds ws (parts_of ws (body ws r) (construct_at ws (body ws r))) i = part_around l (body ws r) i hb low (omega (arith, f.ends))
      in let below : i + size_at ws i ≤ around.tile + size_at ws around.tile = nested l i around.tile i (omega arith) around.begins hi around.ends
      in apart_not around.tile k (omega (arith, around.begins)) (omega arith) (part_within l (body ws r) k hb m).1 (parts_apart l (body ws r) around.tile k hb around.listed m)

  -- nothing strictly within construct i binds, where i is not its rule's body
  pub quiet : (i k : ℕ) (hi : i < construct_count ws) → body ws (rule_of l i hi).rule < i → i < k → k < i + size_at ws i → 0 < binder_of (construct_at ws k) → ⊥
  quiet i k hi inner a b bound =
      let r = rule_of l i hi
      in let ends : i + size_at ws i ≤ rule_end ws r.rule 0 = rule_holds l i hi
      in let hk : k < construct_count ws = omega (arith, rule_within l r.rule r.exists)
      in let t = top_binder l k hk bound
      in let s : ℕ = t.own.rule
      in let place : Top ws (body ws s) k = top ws s k t.member
      in let here : (body ws s ≤ k) × (k < rule_end ws s 0) = top_range s k t.own.exists place
      in let e : s ≡ r.rule = one_rule l s r.rule k t.own.exists r.exists here.0 here.1 (omega arith) (omega arith)
      in not_top r.rule i k r.exists hi hk inner r.ends a b (rw e at place)
    where
      top_range : (s k : ℕ) → s < rule_count ws → Top ws (body ws s) k → (body ws s ≤ k) × (k < rule_end ws s 0)
      top_range s k h (itself e) = let f = rule_fact l s h in (omega arith, omega (arith, f.some_construct))
      top_range s k h (part m) =
          let f = rule_fact l s h
          in let w = part_within l (body ws s) k (omega (arith, rule_within l s h, f.some_construct)) m
          in (omega (arith, w.0), omega (arith, w.1, w.2, f.ends))
