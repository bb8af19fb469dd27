-- Every window has a chain: by induction over the rules of FIRST and FOLLOW.
-- Assumes nothing.
use Prim.Native.Nat.{ℕ, zero, suc}
use mathlib.Core.Path.{◌≡◌, refl, sym, ◌∙◌, ap, ap₂, subst}
use mathlib.Core.List.{List, [], ◌∷◌, ◌++◌, append_assoc, append-nil}
use lib.ListN.{replicate}
use Rattle.basis.specs.Bits.{Bits}
use Rattle.basis.specs.Lookahead.{lookahead, join}
use Rattle.basis.proofs.Joins.{lookahead_append}
use Rattle.theory.specs.Grammar.{Grammar}
use Rattle.theory.specs.Derivation.{Shape, construct, members, passes}
use Rattle.theory.specs.Lookahead.{First, Follow}
use Rattle.theory.proofs.FirstTheorem.{Known}
use Rattle.report_chain_meaning.specs.Chains.{Step, takes, enters, repeats, ends, leaves, goes_on, frame_end, passes_over, Rest, after, Spells}

module _ {Context Values : Type 0} (g : Grammar Context Values) where
  -- some chain spells these bits
  abbrev Chained : List ℕ → Rest → Bits → Type 0
  Chained is r x = (l : List Step) × Spells g is r x l

  -- bits that begin with the window, and that these constructs spell, whatever comes after them
  pub record Found (is : List ℕ) (x : Bits) : Type 0 where
    pub bits : Bits
    pub window : x ≡ lookahead bits
    pub goes : (js : List ℕ) (r : Rest) (y : Bits) (l : List Step) → Spells g js r y l → Chained (is ++ js) r (bits ++ y)

  -- one construct before others
  before : {m : ℕ} {is : List ℕ} {a b z : Bits} → Found (m ∷ []) a → Found is b → z ≡ join a b → Found (m ∷ is) z
  before {m} {is} {a} {b} {z} p q e = record { bits = p.bits ++ q.bits; window = e ∙ (ap₂ join p.window q.window ∙ sym (lookahead_append p.bits q.bits)); goes = both }
    where
      then : (js : List ℕ) (r : Rest) (y : Bits) → Chained (is ++ js) r (q.bits ++ y) → Chained (m ∷ (is ++ js)) r ((p.bits ++ q.bits) ++ y)
      then js r y (l, s) = subst (λ (x : Bits). Chained (m ∷ (is ++ js)) r x) (sym (append_assoc p.bits q.bits y)) (p.goes (is ++ js) r (q.bits ++ y) l s)

      both : (js : List ℕ) (r : Rest) (y : Bits) (l : List Step) → Spells g js r y l → Chained ((m ∷ is) ++ js) r ((p.bits ++ q.bits) ++ y)
      both js r y l s = then js r y (q.goes js r y l s)

  -- an owner in place of what it is made of
  owner : {i : ℕ} {is : List ℕ} {x : Bits} → ((js : List ℕ) (r : Rest) (y : Bits) (l : List Step) → Spells g (is ++ js) r y l → Chained (i ∷ js) r y) → Found is x → Found (i ∷ []) x
  owner {i} {is} up p = record { bits = p.bits; window = p.window; goes = λ js r y l s. over js r (p.bits ++ y) (p.goes js r y l s) }
    where
      over : (js : List ℕ) (r : Rest) (y : Bits) → Chained (is ++ js) r y → Chained (i ∷ js) r y
      over js r y (l, s) = up js r y l s

  -- the constructs of a shape
  abbrev constructs : Shape Context Values → List ℕ
  constructs (construct i n) = i ∷ []
  constructs (members is) = is
  constructs (passes b k) = replicate k b

  none_found : Found [] []
  none_found = record { bits = []; window = refl; goes = λ js r y l s. (l, s) }

  pub found : {what : Shape Context Values} {x : Bits} → First g what x → Known g what → Found (constructs what) x
  found (First.of_field {i = i} bits n a e) q = record { bits = bits; window = e; goes = λ js r y l s. (takes i bits ∷ l, Spells.by_field bits q n a s refl) }
  found (First.of_eod {i = i}) q = record { bits = []; window = refl; goes = λ js r y l s. (ends i ∷ l, Spells.by_eod q s) }
  found (First.of_alternative m f) q = owner (λ js r y l s. (l, Spells.by_branch q m s)) (found f refl)
  found (First.of_switch m f) q = owner (λ js r y l s. (l, Spells.by_case q m s)) (found f refl)
  found (First.of_no_case {i = i} o) q = record { bits = []; window = refl; goes = λ js r y l s. (passes_over i ∷ l, Spells.by_no_case q o s) }
  found (First.of_use {i = i} f) q = owner (λ js r y l s. (enters i ∷ l, Spells.by_use q s)) (found f refl)
  found (First.of_concatenation f) q = owner (λ js r y l s. (l, Spells.by_members q s)) (found f tt)
  found First.no_members q = none_found
  found (First.more_members f fs e) q = before (found f refl) (found fs tt) e
  found (First.of_repetition {i = i} k a f) q = owner (λ js r y l s. (repeats i k ∷ l, Spells.by_passes k q a s)) (found f tt)
  found First.no_passes q = none_found
  found (First.more_passes f fs e) q = before (found f refl) (found fs tt) e

  -- bits that begin with the window, and a chain of what follows
  pub record FoundAfter (is : List ℕ) (i : ℕ) (x : Bits) : Type 0 where
    pub bits : Bits
    pub steps : List Step
    pub window : x ≡ lookahead bits
    pub spells : Spells g is (after i) bits steps

  -- constructs before what follows
  pub then_after : {is : List ℕ} {i : ℕ} {a b z : Bits} → Found is a → FoundAfter [] i b → z ≡ join a b → FoundAfter is i z
  then_after {is} {i} {a} {b} {z} p q e = by (p.goes [] (after i) q.bits q.steps q.spells)
    where
      by : Chained (is ++ []) (after i) (p.bits ++ q.bits) → FoundAfter is i z
      by (l, s) = record {
        bits = p.bits ++ q.bits;
        steps = l;
        window = e ∙ (ap₂ join p.window q.window ∙ sym (lookahead_append p.bits q.bits));
        spells = subst (λ (js : List ℕ). Spells g js (after i) (p.bits ++ q.bits) l) (append-nil is) s;
      }

  -- what follows a part in place of what follows its owner
  part : {is : List ℕ} {i b : ℕ} {x : Bits} → ((y : Bits) (l : List Step) → Spells g is (after i) y l → Chained [] (after b) y) → FoundAfter is i x → FoundAfter [] b x
  part {b = b} {x = x} down p = by (down p.bits p.steps p.spells)
    where
      by : Chained [] (after b) p.bits → FoundAfter [] b x
      by (l, s) = record { bits = p.bits; steps = l; window = p.window; spells = s }

  pub found_after : {i : ℕ} {x : Bits} → Follow g i x → FoundAfter [] i x
  found_after (Follow.of_start e) = record { bits = []; steps = frame_end ∷ []; window = refl; spells = Spells.at_end e }
  found_after (Follow.of_rule {i = i} q f) = part (λ y l s. (leaves i ∷ l, Spells.after_rule q s)) (found_after f)
  found_after (Follow.of_member before more q f w e) = part (λ y l s. (l, Spells.after_member before more q s)) (then_after (found f tt) (found_after w) e)
  found_after (Follow.of_branch q m f) = part (λ y l s. (l, Spells.after_branch q m s)) (found_after f)
  found_after (Follow.of_case q m f) = part (λ y l s. (l, Spells.after_case q m s)) (found_after f)
  found_after (Follow.of_body zero q f w e) = part (λ y l s. (l, Spells.after_last_pass q s)) (then_after (found f tt) (found_after w) e)
  found_after (Follow.of_body {i = i} (suc k) q f w e) = part (λ y l s. (goes_on i (suc k) ∷ l, Spells.after_pass k q s)) (then_after (found f tt) (found_after w) e)
