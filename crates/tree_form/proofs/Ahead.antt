-- Whether a token cannot stand there does not depend on what follows it: a name with `(` after it is taken wherever a name is.
-- Assumes nothing.
use Prim.Native.Nat.{ℕ, ◌≤◌}
use mathlib.Core.Path.{◌≡◌, refl, sym, ap, ◌∙◌}
use mathlib.Core.Logic.{⊎_elim}
use mathlib.Core.Bool.{Bool, true, false, cond, ◌||◌}
use mathlib.Core.List.{List, [], ◌∷◌}
use native.Mathlib.Omega.{arith}
use borrow.Author.Tests.{eqb-true, leb-true}
use lib.Dec.{eqb, leb}
use Rattle.basis.proofs.Booleans.{which}
use Rattle.text_tokens.specs.Names.{reserved_of}
use Rattle.text_parsing.specs.Terminals.{terminal}
use Rattle.text_store.specs.Store.{State}
use Rattle.text_parsing.specs.Symbols.{Symbol}
use Rattle.text_parsing.specs.Form.{Consumed, go, done, fault, primary_begins, operand_begins, item_begins, test_begins, atom_begins, consume}
use Rattle.tree.specs.Lexemes.{Lexeme, sign, word, numeral, quoted, stray, finish}
use Rattle.tree_form.proofs.Classified.{code, seen_with}
use Rattle.tree_form.proofs.Rests.{Ground}

abbrev faulty : Consumed → Bool
faulty (go st ks) = false
faulty (done st) = false
faulty fault = true

faulty_is : (f : Consumed) → faulty f ≡ true → f ≡ fault
faulty_is (go st ks) e = let z : ◌≡◌ {A = ℕ} 0 1 = cc in absurd (omega arith)
faulty_is (done st) e = let z : ◌≡◌ {A = ℕ} 0 1 = cc in absurd (omega arith)
faulty_is fault e = refl

-- the code of a name is wanted nowhere
unwanted : (c k : ℕ) → c ≤ 9 → leb 10 k ≡ true → eqb c k ≡ false
unwanted c k l h = ⊎_elim (λ (e : eqb c k ≡ true). absurd (omega (arith, eqb-true c k e, leb-true 10 k h))) (λ e. e) (which (eqb c k))

off : (A B : Consumed) (t : Bool) → t ≡ false → faulty (elim t [ true ↦ A | false ↦ B ]) ≡ faulty B
off A B true e = let z : ◌≡◌ {A = ℕ} 0 1 = cc in absurd (omega arith)
off A B false e = refl

-- `uint`, `sint` and `var` before `(` cannot stand where a plain name cannot
same : (a b z : ℕ) (ks : List Symbol) (st : State) → Ground ks → (faulty (consume (terminal 6 a b z) st ks) ≡ faulty (consume (terminal 1 a b z) st ks)) × (faulty (consume (terminal 8 a b z) st ks) ≡ faulty (consume (terminal 1 a b z) st ks))
unfolding consume primary_begins operand_begins item_begins test_begins atom_begins
same a b z [] st g = (refl, refl)
same a b z (Symbol.want k ∷ ks) st g = (off _ _ (eqb 6 k) (unwanted 6 k (omega arith) g.0) ∙ sym (off _ _ (eqb 1 k) (unwanted 1 k (omega arith) g.0)), off _ _ (eqb 8 k) (unwanted 8 k (omega arith) g.0) ∙ sym (off _ _ (eqb 1 k) (unwanted 1 k (omega arith) g.0)))
same a b z (Symbol.sign tag p o ∷ ks) st g = same a b z ks _ g
same a b z (Symbol.paren d ∷ ks) st g = (refl, refl)
same a b z (Symbol.primary o ∷ ks) st g = (refl, refl)
same a b z (Symbol.operand o ∷ ks) st g = (refl, refl)
same a b z (Symbol.factors o ∷ ks) st g = same a b z ks st g
same a b z (Symbol.summands o ∷ ks) st g = same a b z ks st g
same a b z (Symbol.calculation ∷ ks) st g = (refl, refl)
same a b z (Symbol.item ∷ ks) st g = (refl, refl)
same a b z (Symbol.item_tail ∷ ks) st g = same a b z ks _ g
same a b z (Symbol.bound some none p ∷ ks) st g = (refl, refl)
same a b z (Symbol.exception d ∷ ks) st g = same a b z ks st g
same a b z (Symbol.excluded d ∷ ks) st g = (refl, refl)
same a b z (Symbol.alternative d ∷ ks) st g = (refl, refl)
same a b z (Symbol.alternatives d ∷ ks) st g = same a b z ks st g
same a b z (Symbol.value_set d ∷ ks) st g = (refl, refl)
same a b z (Symbol.counts ∷ ks) st g = (refl, refl)
same a b z (Symbol.counts_tail ∷ ks) st g = same a b z ks st g
same a b z (Symbol.test d ∷ ks) st g = (refl, refl)
same a b z (Symbol.comparison ∷ ks) st g = (refl, refl)
same a b z (Symbol.condition d ∷ ks) st g = (refl, refl)
same a b z (Symbol.joined d ∷ ks) st g = same a b z ks st g
same a b z (Symbol.chain k tag d ∷ ks) st g = (off _ _ (eqb 6 k) (unwanted 6 k (omega arith) g.0) ∙ (same a b z ks st g.1).0 ∙ sym (off _ _ (eqb 1 k) (unwanted 1 k (omega arith) g.0)), off _ _ (eqb 8 k) (unwanted 8 k (omega arith) g.0) ∙ (same a b z ks st g.1).1 ∙ sym (off _ _ (eqb 1 k) (unwanted 1 k (omega arith) g.0)))
same a b z (Symbol.atom d ∷ ks) st g = (refl, refl)
same a b z (Symbol.factor d ∷ ks) st g = (refl, refl)
same a b z (Symbol.concatenation d ∷ ks) st g = (refl, refl)
same a b z (Symbol.expression d ∷ ks) st g = (refl, refl)
same a b z (Symbol.marked p i ∷ ks) st g = same a b z ks st g
same a b z (Symbol.counts_end p i mark f ∷ ks) st g = (refl, refl)
same a b z (Symbol.members d p i many ∷ ks) st g = same a b z ks _ g
same a b z (Symbol.branches d p i many ∷ ks) st g = same a b z ks _ g
same a b z (Symbol.character_tail p ∷ ks) st g = same a b z ks _ g
same a b z (Symbol.last_character p ∷ ks) st g = (refl, refl)
same a b z (Symbol.width d p ∷ ks) st g = (refl, refl)
same a b z (Symbol.field_set d p v ∷ ks) st g = (refl, refl)
same a b z (Symbol.bound_name d p v ∷ ks) st g = (refl, refl)
same a b z (Symbol.field_end p v name how f ∷ ks) st g = (refl, refl)
same a b z (Symbol.colon d f ∷ ks) st g = (refl, refl)
same a b z (Symbol.case_end i f end ∷ ks) st g = (refl, refl)
same a b z (Symbol.cases d p i ∷ ks) st g = (refl, refl)
same a b z (Symbol.switch_end p i ∷ ks) st g = (refl, refl)
same a b z (Symbol.rules any ∷ []) st g = (refl, refl)
same a b z (Symbol.rules any ∷ k ∷ ks) st g = absurd g
same a b z (Symbol.rule_end p i ∷ ks) st g = (refl, refl)

-- a name's code, by what it is and whether `(` follows
by_next : (F : ℕ → Bool) → F 6 ≡ F 1 → F 8 ≡ F 1 → (u v e m n : Bool) → F (cond u (cond m 6 1) (cond v (cond m 8 1) (cond e 7 1))) ≡ F (cond u (cond n 6 1) (cond v (cond n 8 1) (cond e 7 1)))
by_next F a b true v e true true = refl
by_next F a b true v e true false = a
by_next F a b true v e false true = sym a
by_next F a b true v e false false = refl
by_next F a b false true e true true = refl
by_next F a b false true e true false = b
by_next F a b false true e false true = sym b
by_next F a b false true e false false = refl
by_next F a b false false e m n = refl

pub ahead : (x : Lexeme) (m n : Bool) (st : State) (ks : List Symbol) → Ground ks → consume (seen_with x (code x m)) st ks ≡ fault → consume (seen_with x (code x n)) st ks ≡ fault
ahead (sign kind s) m n st ks g e = e
ahead (word x) m n st ks g e =
    faulty_is (consume (seen_with (word x) (code (word x) n)) st ks)
    (by_next (λ (c : ℕ). faulty (consume (terminal c x.start x.end 0) st ks)) (same x.start x.end 0 ks st g).0 (same x.start x.end 0 ks st g).1 (eqb (reserved_of x.letters) 12 || eqb (reserved_of x.letters) 13) (eqb (reserved_of x.letters) 9) (eqb (reserved_of x.letters) 10) n m
    ∙ ap faulty e)
ahead (numeral x) m n st ks g e = e
ahead (quoted l) m n st ks g e = e
ahead (stray s) m n st ks g e = e
ahead (finish p) m n st ks g e = e
