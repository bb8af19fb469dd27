-- Which words are a uint or sint: those of the nodes that are one, of its width, with its set.
-- Assumes nothing.
use Prim.Native.Nat.{ℕ, ◌+◌, ◌<◌}
use mathlib.Core.Path.{◌≡◌, refl, sym, ap, subst, ◌∙◌}
use mathlib.Core.Logic.{⊎_elim}
use mathlib.Core.Bool.{Bool, true, false, cond, false≢true}
use mathlib.Core.List.{List, []}
use native.Mathlib.Omega.{arith}
use native.Mathlib.Decide.{dec_lt}
use borrow.Author.Tests.{eqb-true}
use lib.Dec.{eqb}
use lib.IntN.{ℤ}
use lib.ListN.{length}
use Rattle.basis.proofs.Booleans.{which}
use Rattle.term_words.specs.declared.Term.{Term}
use Rattle.term_evaluation.specs.Meaning.{membership}
use Rattle.term_evaluation.specs.Variables.{has_variable}
use Rattle.table_layout.specs.Constructs.{construct_at}
use Rattle.table_layout.specs.Held.{terms_of, is_yes, in_set}
use Rattle.table_layout.specs.declared.Construct.{Construct}
use Rattle.text_shapes.specs.Stored.{Stored}
use Rattle.text_shapes.specs.Placed.{Placed}
use Rattle.text_store.specs.Words.{kind_of, is_binder}
use Rattle.text_encoding.specs.Numbers.{binders_before, width_of, is_signed, own_length, own_start}
use Rattle.text_encoding.specs.Encoded.{encoded}
use Rattle.text_wellformed.specs.Context.{Readable}
use Rattle.text_wellformed.specs.Meant.{meant}
use Rattle.text_wellformed.proofs.LaidOut.{constructs_known}
use Rattle.text_meaning.specs.Meaning.{own_list, in_set as in_list}
use Rattle.text_meaning.proofs.TermLists.{same_membership}
use Rattle.text_meaning.proofs.ListsHeld.{own_of_set, own_held}
use Rattle.text_meaning.proofs.Holding.{past}

-- ---- a construct that is one, and its numbers

abbrev is_uint : Construct → Bool
is_uint Construct.Missing = false
is_uint (Construct.Alternative size) = false
is_uint (Construct.Concatenation size) = false
is_uint (Construct.Repetition size passes) = false
is_uint (Construct.Switch size) = false
is_uint (Construct.Use rule) = false
is_uint (Construct.Literal length) = false
is_uint (Construct.Range low high) = false
is_uint (Construct.Uint signed width start end binder) = true
is_uint Construct.Eod = false

record Numbers : Type 0 where
  signed : Bool
  width : ℕ
  start : ℕ
  end : ℕ

abbrev numbers_in : Construct → Numbers
numbers_in Construct.Missing = record { signed = false; width = 0; start = 0; end = 0 }
numbers_in (Construct.Alternative size) = record { signed = false; width = 0; start = 0; end = 0 }
numbers_in (Construct.Concatenation size) = record { signed = false; width = 0; start = 0; end = 0 }
numbers_in (Construct.Repetition size passes) = record { signed = false; width = 0; start = 0; end = 0 }
numbers_in (Construct.Switch size) = record { signed = false; width = 0; start = 0; end = 0 }
numbers_in (Construct.Use rule) = record { signed = false; width = 0; start = 0; end = 0 }
numbers_in (Construct.Literal length) = record { signed = false; width = 0; start = 0; end = 0 }
numbers_in (Construct.Range low high) = record { signed = false; width = 0; start = 0; end = 0 }
numbers_in (Construct.Uint signed width start end binder) = record { signed = signed; width = width; start = start; end = end }
numbers_in Construct.Eod = record { signed = false; width = 0; start = 0; end = 0 }

-- neither of two is one
neither : (c : Bool) (x y : Construct) → is_uint x ≡ false → is_uint y ≡ false → is_uint (cond c x y) ≡ false
neither true x y e f = e
neither false x y e f = f

other_kind : (xs ns rs : List ℕ) (r i : ℕ) → eqb (kind_of ns i) 8 ≡ false → is_uint (meant xs ns rs r i) ≡ false
unfolding meant
other_kind xs ns rs r i e =
    neither (eqb (kind_of ns i) 1) _ _ refl
    (neither (eqb (kind_of ns i) 2) _ _ refl
    (neither (eqb (kind_of ns i) 3) _ _ refl
    (neither (eqb (kind_of ns i) 4) _ _ refl
    (neither (eqb (kind_of ns i) 5) _ _ refl
    (neither (eqb (kind_of ns i) 6) _ _ refl
    (neither (eqb (kind_of ns i) 7) _ _ refl
    (rw e refl)))))))

uint_kind : (xs ns rs : List ℕ) (r i : ℕ) → kind_of ns i ≡ 8
    → meant xs ns rs r i ≡ Construct.Uint (is_signed xs ns i) (width_of xs ns i) (own_start ns i) (own_start ns i + own_length ns i) (cond (is_binder ns i) (binders_before ns i + 1) 0)
unfolding meant
uint_kind xs ns rs r i k = rw k refl

-- what a uint from these terms has of node i
pub record OfNode (xs ns ts rs ws : List ℕ) (r i : ℕ) (signed : Bool) (width start end : ℕ) : Type 0 where
  pub kind_is : kind_of ns i ≡ 8
  pub signed_is : is_signed xs ns i ≡ signed
  pub width_is : width_of xs ns i ≡ width
  pub variable_same : has_variable (terms_of ws start end) ≡ has_variable (own_list xs ns ts rs r i)
  pub set_same : (k : ℤ) → in_set ws start end [] k ≡ in_list (own_list xs ns ts rs r i) [] k

module _ {xs ns ts rs : List ℕ} {n t b r : ℕ} (text : Readable xs ns ts rs n t b r) (stored : Stored xs ns ts) (places : Placed (length xs) ns ts rs) where
  abbrev ws : List ℕ
  ws = encoded xs ns ts rs n r

  -- a number past the nodes is none
  pub uint_below : (i : ℕ) (signed : Bool) (width start end binder : ℕ) → construct_at ws i ≡ Construct.Uint signed width start end binder → i < n
  uint_below i signed width start end binder e =
      elim (dec_lt i n) [ yes l ↦ l | no l ↦ absurd (false≢true (sym (ap is_uint (past text stored places i (omega arith))) ∙ ap is_uint e)) ]

  module _ (i : ℕ) (h : i < n) where
    of_list : kind_of ns i ≡ 8 → OfNode xs ns ts rs ws r i (is_signed xs ns i) (width_of xs ns i) (own_start ns i) (own_start ns i + own_length ns i)
    of_list k =
        let is : terms_of ws (own_start ns i) (own_start ns i + own_length ns i) ≡ own_list xs ns ts rs r i = own_held text stored places i h (own_of_set text i h k)
        in record {
          kind_is = k;
          signed_is = refl;
          width_is = refl;
          variable_same = ap has_variable is;
          set_same = λ v. ap is_yes (same_membership [] v (own_start ns i) 0 (terms_of ws (own_start ns i) (own_start ns i + own_length ns i)) ∙ ap (membership [] v 0) is);
        }

    -- a node that is a uint is read as one
    pub uint_read : kind_of ns i ≡ 8 → construct_at ws i ≡ Construct.Uint (is_signed xs ns i) (width_of xs ns i) (own_start ns i) (own_start ns i + own_length ns i) (cond (is_binder ns i) (binders_before ns i + 1) 0)
    uint_read k = constructs_known text stored places i h ∙ uint_kind xs ns rs r i k

    -- and what is read as one is such a node
    pub uint_of : (signed : Bool) (width start end binder : ℕ) → construct_at ws i ≡ Construct.Uint signed width start end binder → OfNode xs ns ts rs ws r i signed width start end
    uint_of signed width start end binder e =
        ⊎_elim
        (λ (c : eqb (kind_of ns i) 8 ≡ true).
        let k : kind_of ns i ≡ 8 = eqb-true (kind_of ns i) 8 c
        in subst (λ (z : Numbers). OfNode xs ns ts rs ws r i z.signed z.width z.start z.end) (ap numbers_in (sym (uint_read k) ∙ e)) (of_list k))
        (λ (c : eqb (kind_of ns i) 8 ≡ false).
        absurd (false≢true (sym (other_kind xs ns rs r i c) ∙ ap is_uint (sym (constructs_known text stored places i h)) ∙ ap is_uint e)))
        (which (eqb (kind_of ns i) 8))
