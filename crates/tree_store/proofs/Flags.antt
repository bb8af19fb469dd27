-- A field's word begins with `s` exactly where the field is signed: so the text says it again at the node's place.
-- Assumes nothing.
use Prim.Native.Nat.{ℕ, zero, suc, ◌-◌}
use mathlib.Core.Path.{◌≡◌, refl, sym, ap, subst}
use mathlib.Core.Bool.{Bool, true, false}
use mathlib.Core.List.{List, [], ◌∷◌}
use native.Mathlib.Omega.{arith}
use lib.Dec.{eqb}
use lib.ListN.{length, get_or, take, drop}
use Rattle.text_header.specs.Spans.{span_end}
use Rattle.text_header.specs.declared.Class.{Class}
use Rattle.tree.specs.Lexemes.{Sign, Lexeme}
use Rattle.tree.specs.Spelling.{field_word, spelled_as}
use Rattle.tree_store.proofs.Standing.{Standing, shown}

nothing_first : (b : ℕ) (w : List ℕ) {A : Type 0} → [] ≡ b ∷ w → A
nothing_first b w e = absurd (omega (arith, ap (length {A = ℕ}) e))

first_letter : (xs : List ℕ) (p k b : ℕ) (w : List ℕ) → take k (drop p xs) ≡ b ∷ w → get_or xs p 0 ≡ b
first_letter [] zero zero b w e = nothing_first b w e
first_letter [] zero (suc k) b w e = nothing_first b w e
first_letter [] (suc p) zero b w e = nothing_first b w e
first_letter [] (suc p) (suc k) b w e = nothing_first b w e
first_letter (x ∷ xs) zero zero b w e = nothing_first b w e
first_letter (x ∷ xs) zero (suc k) b w e = ap (λ (l : List ℕ). get_or l 0 0) e
first_letter (x ∷ xs) (suc p) k b w e = first_letter xs p k b w e

pub flagged : {xs : List ℕ} {p : ℕ} (signed : Bool) {s : Sign} {ls : List Lexeme} → Standing xs p (spelled_as (field_word signed) s ∷ ls) → eqb (get_or xs s.start 0) 115 ≡ signed
flagged {xs} true {s} h = subst (λ (b : ℕ). eqb b 115 ≡ true) (sym (first_letter xs s.start (span_end Class.Name s.start (drop s.start xs) - s.start) 115 (105 ∷ 110 ∷ 116 ∷ []) (shown h))) refl
flagged {xs} false {s} h = subst (λ (b : ℕ). eqb b 115 ≡ false) (sym (first_letter xs s.start (span_end Class.Name s.start (drop s.start xs) - s.start) 117 (105 ∷ 110 ∷ 116 ∷ []) (shown h))) refl
