-- What is left where the eighth bit is spelt: FIRST strings of the constructs and a FOLLOW string behind them give a chain to the frame's end.
-- Assumes nothing.
use Prim.Native.Nat.{ℕ, zero, suc, ◌+◌, ◌-◌, ◌≤◌, ◌<◌}
use mathlib.Core.Path.{◌≡◌, refl, sym, ap, ◌∙◌, subst}
use mathlib.Core.Bool.{Bool, true, false, not, false≢true}
use mathlib.Core.List.{List, [], ◌∷◌, ◌++◌}
use native.Mathlib.Omega.{arith}
use borrow.Author.Tests.{lt-ltb, le-ltb}
use lib.ListN.{get_or, replicate}
use native.Mathlib.Numerals.{add-one}
use Rattle.basis.specs.Bits.{Bits}
use Rattle.basis.specs.Limits.{max_constructs}
use Rattle.basis.specs.Lookahead.{join}
use Rattle.table_layout.specs.Constructs.{construct_at}
use Rattle.table_layout.specs.Held.{held, node_of, HeldNode}
use Rattle.table_layout.specs.declared.Construct.{Construct}
use Rattle.table_first_follow.proofs.HeldLaws.{node_inside}
use Rattle.theory.specs.Derivation.{construct, members}
use Rattle.theory.specs.Lookahead.{First}
use Rattle.table_first_follow.specs.Rounds.{strings}
use Rattle.table_first_follow.specs.Sets.{FirstSets}
use Rattle.report_chains.specs.Strings.{string, Begun}
use Rattle.report_chain_meaning.proofs.Finding.{FoundAfter, found, found_after, then_after}
use Rattle.report_chain_steps.specs.Replayed.{row, stack, past_eight, least_count, counts_at, FirstOf, FollowOf, IsField, is_field, Pattern, pattern, BeginsWith, begins_with}
use Rattle.report_chain_steps.proofs.Widths.{string_number, number_string, front_of, begins_twice, cut_begins}
use Rattle.basis.specs.Lookahead.{number}

pub unless : (b : Bool) → not b ≡ false → b ≡ true
unless true e = refl
unless false e = absurd (false≢true (sym e))

module _ (ws : List ℕ) where
  pub none_ready : FirstOf ws []
  none_ready = ([], First.no_members)

  one_more : {m : ℕ} {u : Bits} (is : List ℕ) → First (held ws) (construct m ((held ws).node m)) u → FirstOf ws is → FirstOf ws (m ∷ is)
  one_more {u = u} is f (y, q) = (join u y, First.more_members f q refl)

  both : (a b : List ℕ) (x : Bits) → First (held ws) (members a) x → FirstOf ws b → FirstOf ws (a ++ b)
  both [] b x f s = s
  both (m ∷ a) b x (First.more_members f fs e) s = one_more (a ++ b) f (both a b _ fs s)

  copies : (n b : ℕ) (x : Bits) → First (held ws) (construct b ((held ws).node b)) x → FirstOf ws (replicate n b)
  copies zero b x f = none_ready
  copies (suc n) b x f = one_more (replicate n b) f (copies n b x f)

  module _ (words : List ℕ) (s : FirstSets ws words) where
    pub row_construct : (v : ℕ) (x : Bits) → v < max_constructs → strings words v x → FirstOf ws (row ws v)
    unfolding row
    row_construct v x h f = rw (lt-ltb v max_constructs h) (one_more [] (((s v (omega arith)).strings x).0 f) none_ready)

    pub row_passes : (v : ℕ) (x : Bits) → 512 ≤ v → v < 768 → strings words (v - 511) x → FirstOf ws (row ws v)
    unfolding row past_eight
    row_passes v x h l f =
        let e : v - 511 ≡ v - 512 + 1 = omega arith in
        let g : First (held ws) (construct (v - 512 + 1) ((held ws).node (v - 512 + 1))) x = ((s (v - 512 + 1) (omega arith)).strings x).0 (subst (λ (k : ℕ). strings words k x) e f) in
        rw (le-ltb v max_constructs (omega arith)) (copies (least_count (counts_at ws (construct_at ws (v - 512))) - 8) (v - 512 + 1) x g)

  -- one row more
  pub rows_ready : (items : List ℕ) (d : ℕ) → FirstOf ws (row ws (get_or items (d + 1) 0)) → FirstOf ws (stack ws items d) → FirstOf ws (stack ws items (d + 1))
  unfolding stack
  rows_ready items d f s = subst (λ (k : ℕ). FirstOf ws (stack ws items k)) (sym (add-one d)) (both (row ws (get_or items (suc d) 0)) (stack ws items d) g.0 g.1 s)
    where
      g : FirstOf ws (row ws (get_or items (suc d) 0))
      g = subst (λ (k : ℕ). FirstOf ws (row ws (get_or items k 0))) (add-one d) f

  -- the rest of a chain
  pub goes_to_end : (is : List ℕ) (j : ℕ) → FirstOf ws is → FollowOf ws j → (z : Bits) × FoundAfter (held ws) is j z
  goes_to_end is j (x, f) (y, w) = (join x y, then_after (held ws) (found (held ws) f tt) (found_after (held ws) w) refl)

  -- ---- fields

  of_first : (i : ℕ) (n : HeldNode) → (held ws).node i ≡ n → IsField n → (s : Bits) → First (held ws) (construct i n) s → Pattern ws i s
  of_first i n q (is_field w admits static binds) s (First.of_field bits l t e) = pattern bits q l t e

  pub of_set : (words : List ℕ) → FirstSets ws words → (i : ℕ) → i < max_constructs → IsField ((held ws).node i) → (s : Bits) → strings words i s → Pattern ws i s
  of_set words f i h d s m = of_first i ((held ws).node i) refl d s (((f i (omega arith)).strings s).0 m)

  pub begins_so : (i v : ℕ) → 0 < v → v < 512 → (s : Bits) → Pattern ws i s → Begun (number s) v → BeginsWith ws i (string v)
  begins_so i v p h s (pattern bits q l t e) (k, d) =
      begins_with bits q l t (begins_twice (string v) s bits (front_of s (string v) k (d ∙ sym (string_number v p h))) (cut_begins s bits e))

  -- a field whose strings have these bits
  pub of_bits : (words : List ℕ) → FirstSets ws words → (i v : ℕ) → i < max_constructs → IsField ((held ws).node i) → (s : Bits) × (number s ≡ v) × strings words i s → Pattern ws i (string v)
  of_bits words f i v h d (s, e, m) = subst (λ (t : Bits). Pattern ws i t) (sym (number_string s m.0) ∙ ap string e) (of_set words f i h d s m)

  module _ (i : ℕ) (h : i < max_constructs) where
    kind : (c : Construct) → construct_at ws i ≡ c → IsField (node_of ws i c) → IsField ((held ws).node i)
    kind c e f = subst IsField (sym (node_inside ws i h ∙ ap (node_of ws i) e)) f

    pub of_literal : (n : ℕ) → construct_at ws i ≡ Construct.Literal n → IsField ((held ws).node i)
    unfolding node_of
    of_literal n e = kind (Construct.Literal n) e (is_field _ _ _ _)

    pub of_range : (low high : ℕ) → construct_at ws i ≡ Construct.Range low high → IsField ((held ws).node i)
    unfolding node_of
    of_range low high e = kind (Construct.Range low high) e (is_field _ _ _ _)

    pub of_uint : (signed : Bool) (width start end binder : ℕ) → construct_at ws i ≡ Construct.Uint signed width start end binder → IsField ((held ws).node i)
    unfolding node_of
    of_uint signed width start end binder e = kind (Construct.Uint signed width start end binder) e (is_field _ _ _ _)
