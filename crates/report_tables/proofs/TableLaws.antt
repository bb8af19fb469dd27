-- The words of a text, from those of its rules; and that a text with a fault has none.
-- Assumes nothing.
use Prim.Native.Nat.{ℕ, ◌≤◌, ◌<◌}
use mathlib.Core.Path.{◌≡◌, refl, sym, ap, subst, ◌∙◌}
use mathlib.Core.Bool.{Bool, true, false}
use mathlib.Core.List.{List}
use native.Mathlib.Omega.{arith}
use lib.ListN.{length, drop}
use Rattle.basis.specs.Limits.{max_text_bytes}
use Rattle.text_header.specs.Header.{header_of}
use Rattle.text_header.specs.declared.Heading.{Heading}
use Rattle.text_store.specs.Store.{State}
use Rattle.text_parsing.specs.Form.{Outcome, right, refused}
use Rattle.text_names.specs.Counting.{nowhere}
use Rattle.text_admission.specs.Admitted.{form, fault_5, fault_6, Right, Named}
use Rattle.report_tables.specs.Tables.{Encoding, TextEncoding}

-- what was read, where the form is right
read_of : State → Outcome → State
read_of st (right s) = s
read_of st (refused p) = st

is_right : Outcome → ℕ
is_right (right s) = 1
is_right (refused p) = 0

is_wrong : Heading → ℕ
is_wrong (Heading.Rules base) = 0
is_wrong (Heading.Wrong p) = 1

-- a text is read in one way
one_state : (xs : List ℕ) (st s : State) → Right xs st → Right xs s → s ≡ st
unfolding read_of
one_state xs st s p q = ap (read_of st) (sym q.formed ∙ p.formed)

pub past_limit :
    (xs : List ℕ) (st : State) → Right xs st → (past : ℕ) → past ≡ fault_5 st → past < nowhere → (s : State) → Named xs s → ⊥
past_limit xs st p past e l s n =
    let z : fault_5 s ≡ fault_5 st = ap fault_5 (one_state xs st s p n.passed.passed)
    in omega (arith, z, e, l, n.passed.none)

pub wrong_name :
    (xs : List ℕ) (st : State) → Right xs st → (wrong : ℕ) → wrong ≡ fault_6 xs st → wrong < nowhere → (s : State) → Named xs s → ⊥
wrong_name xs st p wrong e l s n =
    let z : fault_6 xs s ≡ fault_6 xs st = ap (fault_6 xs) (one_state xs st s p n.passed.passed)
    in omega (arith, z, e, l, n.none)

pub wrong_form : (xs : List ℕ) (p : ℕ) → form xs ≡ refused p → (s : State) → Named xs s → ⊥
unfolding is_right
wrong_form xs p e s n =
    let z : ◌≡◌ {A = ℕ} 0 1 = ap is_right (sym e ∙ n.passed.passed.formed)
    in omega (arith, z)

pub wrong_header : (text : List ℕ) (h : Heading) (p base : ℕ) → h ≡ header_of text → h ≡ Heading.Wrong p → header_of text ≡ Heading.Rules base → ⊥
unfolding is_wrong
wrong_header text h p base e w r =
    let z : ◌≡◌ {A = ℕ} 1 0 = ap is_wrong (sym w ∙ e ∙ r)
    in omega (arith, z)

base_of : Heading → ℕ
base_of (Heading.Rules base) = base
base_of (Heading.Wrong p) = p

pub text_encoded :
    (text words : List ℕ) (h : Heading) (base : ℕ) (r : Bool) → length text ≤ max_text_bytes → h ≡ header_of text → h ≡ Heading.Rules base →
    Encoding (drop base text) words r → TextEncoding text words r
unfolding base_of
text_encoded text words h base true l e z w = record { short = l; base = base; headed = sym e ∙ z; rules = w }
text_encoded text words h base false l e z w =
    (λ k b g s n. let same : b ≡ base = ap base_of (sym g ∙ sym e ∙ z) in w.0 s (subst (λ (a : ℕ). Named (drop a text) s) same n), w.1)
