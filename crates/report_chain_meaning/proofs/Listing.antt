-- A listed chain's fields spell its window: the bits that are not listed are those past the eighth.
-- Assumes nothing.
use Prim.Native.Nat.{ℕ, zero, suc, ◌-◌, min}
use mathlib.Core.Path.{◌≡◌, refl, sym, ◌∙◌, ap, ap₂}
use mathlib.Core.List.{List, [], ◌∷◌, ◌++◌}
use native.Mathlib.Nat.{zero-sub, sub-zero, suc-sub-suc}
use lib.ListN.{length, take}
use Rattle.basis.specs.Bits.{Bits}
use Rattle.theory.specs.Grammar.{Grammar}
use Rattle.report_chain_meaning.specs.Chains.{Step, takes, enters, repeats, ends, leaves, goes_on, frame_end, passes_over, Rest, Spells, wanted, listed, fields}

take_parts : (n : ℕ) (a b : Bits) → take n (a ++ b) ≡ take n a ++ take (n - length a) b
take_parts zero [] b = refl
take_parts zero (x ∷ a) b = ap (λ (k : ℕ). take k b) (sym (zero-sub (length (x ∷ a))))
take_parts (suc n) [] b = ap (λ (k : ℕ). take k b) (sym (sub-zero (suc n)))
take_parts (suc n) (x ∷ a) b = ap (x ∷◌) (take_parts n a b ∙ ap (λ (k : ℕ). take n a ++ take k b) (sym (suc-sub-suc n (length a))))

still_wanted : (n : ℕ) (l : List Step) (s : Bits) → fields l ≡ take n s → fields (wanted n l) ≡ take n s
unfolding fields
still_wanted zero l s e = refl
still_wanted (suc n) l s e = e

pub fields_listed : (n : ℕ) (l : List Step) → fields (listed n l) ≡ take n (fields l)
unfolding fields listed
fields_listed zero [] = refl
fields_listed (suc n) [] = refl
fields_listed n (takes i bits ∷ l) = still_wanted n (takes i (take n bits) ∷ listed (n - length bits) l) (bits ++ fields l)
    (ap (take n bits ++◌) (fields_listed (n - length bits) l) ∙ sym (take_parts n bits (fields l)))
fields_listed n (enters i ∷ l) = still_wanted n (enters i ∷ listed n l) (fields l) (fields_listed n l)
fields_listed n (repeats i k ∷ l) = still_wanted n (repeats i (min 8 k) ∷ listed n l) (fields l) (fields_listed n l)
fields_listed n (ends i ∷ l) = still_wanted n (ends i ∷ listed n l) (fields l) (fields_listed n l)
fields_listed n (leaves i ∷ l) = still_wanted n (leaves i ∷ listed n l) (fields l) (fields_listed n l)
fields_listed n (goes_on i k ∷ l) = still_wanted n (goes_on i (min 8 k) ∷ listed n l) (fields l) (fields_listed n l)
fields_listed n (frame_end ∷ l) = still_wanted n (frame_end ∷ listed n l) (fields l) (fields_listed n l)
fields_listed n (passes_over i ∷ l) = still_wanted n (passes_over i ∷ listed n l) (fields l) (fields_listed n l)

-- the fields of a whole chain take all that it spells
pub fields_spell : {Context Values : Type 0} (g : Grammar Context Values) {is : List ℕ} {r : Rest} {x : Bits} {l : List Step} → Spells g is r x l → fields l ≡ x
unfolding fields
fields_spell g Spells.spelt = refl
fields_spell g (Spells.by_field bits q n a s e) = ap (bits ++◌) (fields_spell g s) ∙ sym e
fields_spell g (Spells.by_eod q s) = fields_spell g s
fields_spell g (Spells.by_branch q m s) = fields_spell g s
fields_spell g (Spells.by_case q m s) = fields_spell g s
fields_spell g (Spells.by_no_case q o s) = fields_spell g s
fields_spell g (Spells.by_use q s) = fields_spell g s
fields_spell g (Spells.by_members q s) = fields_spell g s
fields_spell g (Spells.by_passes k q a s) = fields_spell g s
fields_spell g (Spells.at_end e) = refl
fields_spell g (Spells.after_rule q s) = fields_spell g s
fields_spell g (Spells.after_member before more q s) = fields_spell g s
fields_spell g (Spells.after_branch q m s) = fields_spell g s
fields_spell g (Spells.after_case q m s) = fields_spell g s
fields_spell g (Spells.after_last_pass q s) = fields_spell g s
fields_spell g (Spells.after_pass k q s) = fields_spell g s
