-- Parts of calculations: what each does with the next terminal.
-- Assumes nothing.
use Prim.Native.Nat.{ℕ, ◌≤◌, ◌<◌}
use mathlib.Core.Path.{◌≡◌, refl}
use mathlib.Core.Bool.{true, false}
use mathlib.Core.List.{List, [], ◌∷◌}
use native.Mathlib.Omega.{arith}
use borrow.Author.Tests.{eq-eqb, ne_eqb, lt-ltb}
use lib.Dec.{eqb, ltb}
use Rattle.text_parsing.specs.Terminals.{name_like, live}
use Rattle.text_store.specs.Store.{put_term}
use Rattle.text_parsing.specs.Symbols.{sign, primary, operand, factors, summands, calculation}
use Rattle.text_parsing.specs.Form.{primary_begins, operand_begins, sum_tag, consume}
use Rattle.text_parsing.specs.Cursors.{next, fail, term_more, ReadsTerms}
use Rattle.text_parsing.specs.declared.Cursor.{Cursor}
use Rattle.text_parsing.proofs.Steps.{then, take_then, skip_then, nothing, fault_only}
use Rattle.text_parsing.proofs.Loops.{Still, still_turn, still_end, take_term, name_not, name_live, test_live}

module _ {xs : List ℕ} {c d r : Cursor} {ts ts' : List ℕ} (o : ℕ) where
  pub primary_number : c.code ≡ 2 → d ≡ term_more c → ts' ≡ put_term ts c.terms 1 c.value c.start o → r ≡ next xs d → ReadsTerms xs (primary o ∷ []) c ts r ts'
  unfolding consume primary_begins
  primary_number e m z n = take_term 1 c.value c.start o (rw e refl) m z n (λ ns rs ks. rw (e, primary_begins))

  pub primary_name : name_like c.code ≡ true → d ≡ term_more c → ts' ≡ put_term ts c.terms 2 0 c.start o → r ≡ next xs d → ReadsTerms xs (primary o ∷ []) c ts r ts'
  unfolding consume primary_begins
  primary_name e m z n = take_term 2 0 c.start o (name_live c.code e) m z n (λ ns rs ks. rw (name_not c.code 2 refl e, primary_begins) (rw e refl))

module _ {xs : List ℕ} {c r : Cursor} {ts : List ℕ} (o : ℕ) where
  pub primary_fault : (c.code ≡ 2 → ⊥) → name_like c.code ≡ false → r ≡ fail c → ReadsTerms xs (primary o ∷ []) c ts r ts
  unfolding consume primary_begins
  primary_fault h e n ns = fault_only n (λ rs ks. rw (ne_eqb c.code 2 h, primary_begins) (rw e refl))

module _ {xs : List ℕ} {c m k r : Cursor} {ts ts₁ ts' : List ℕ} (o : ℕ) where
  pub operand_minus : c.code ≡ 45 → m ≡ next xs c → ReadsTerms xs (primary o ∷ []) m ts k ts₁ → ReadsTerms xs (sign 6 c.start o ∷ []) k ts₁ r ts' → ReadsTerms xs (operand o ∷ []) c ts r ts'
  unfolding consume operand_begins
  operand_minus e n a b ns = take_then {qs = primary o ∷ sign 6 c.start o ∷ []} (rw e refl) n (λ rs ks. rw (e, operand_begins)) (then (a ns) (b ns))

pub operand_plain : {xs : List ℕ} {c r : Cursor} {ts ts' : List ℕ} (o : ℕ) → (c.code ≡ 45 → ⊥) → ReadsTerms xs (primary o ∷ []) c ts r ts' → ReadsTerms xs (operand o ∷ []) c ts r ts'
unfolding consume operand_begins
operand_plain {xs} {c} o h a ns = skip_then {qs = primary o ∷ []} {m = c} refl (λ rs ks. rw (ne_eqb c.code 45 h, operand_begins)) (a ns)

-- a chain of factors
module _ {xs : List ℕ} {c₀ c m k r : Cursor} {ts₀ ts ts₁ ts' : List ℕ} (o : ℕ) where
  pub factors_turn : ((ns : List ℕ) → Still xs (factors o ∷ []) c₀ ns ts₀ c ns ts) → c.code ≡ 42 → m ≡ next xs c → ReadsTerms xs (operand o ∷ []) m ts k ts₁ → ReadsTerms xs (sign 5 c.start o ∷ []) k ts₁ r ts' → (ns : List ℕ) → Still xs (factors o ∷ []) c₀ ns ts₀ r ns ts'
  unfolding consume
  factors_turn s e n a b ns = still_turn {qs = operand o ∷ sign 5 c.start o ∷ []} (s ns) (rw e refl) n (λ rs ks. rw (e, consume)) (then (a ns) (b ns))

pub factors_end : {xs : List ℕ} {c₀ c : Cursor} {ts₀ ts : List ℕ} (o : ℕ) → ((ns : List ℕ) → Still xs (factors o ∷ []) c₀ ns ts₀ c ns ts) → (c.code ≡ 42 → ⊥) → ReadsTerms xs (factors o ∷ []) c₀ ts₀ c ts
unfolding consume
factors_end {xs} {c₀} {c} o s h ns = still_end (s ns) (skip_then {qs = []} {m = c} refl (λ rs ks. rw (ne_eqb c.code 42 h, consume)) nothing)

-- a chain of summands
pub sum_live : (n : ℕ) → 0 < sum_tag n → live n ≡ true
sum_live n h = test_live (λ (k : ℕ). ltb 0 (sum_tag k)) refl refl n (lt-ltb 0 (sum_tag n) h)

module _ {xs : List ℕ} {c₀ c m k l r : Cursor} {ts₀ ts ts₁ ts₂ ts' : List ℕ} (o tag : ℕ) where
  pub summands_turn : ((ns : List ℕ) → Still xs (summands o ∷ []) c₀ ns ts₀ c ns ts) → tag ≡ sum_tag c.code → 0 < tag → m ≡ next xs c → ReadsTerms xs (operand o ∷ []) m ts k ts₁ → ReadsTerms xs (factors o ∷ []) k ts₁ l ts₂ → ReadsTerms xs (sign tag c.start o ∷ []) l ts₂ r ts' → (ns : List ℕ) → Still xs (summands o ∷ []) c₀ ns ts₀ r ns ts'
  unfolding consume
  summands_turn s z h n a b d ns =
      still_turn {qs = operand o ∷ factors o ∷ sign tag c.start o ∷ []} (s ns) (sum_live c.code (omega arith)) n
      (λ rs ks. let w : eqb (sum_tag c.code) 0 ≡ false = ne_eqb (sum_tag c.code) 0 (λ q. omega arith) in rw (w, consume) (rw (← z) refl))
      (then (a ns) (then (b ns) (d ns)))

pub summands_end : {xs : List ℕ} {c₀ c : Cursor} {ts₀ ts : List ℕ} (o tag : ℕ) → ((ns : List ℕ) → Still xs (summands o ∷ []) c₀ ns ts₀ c ns ts) → tag ≡ sum_tag c.code → tag ≤ 0 → ReadsTerms xs (summands o ∷ []) c₀ ts₀ c ts
unfolding consume
summands_end {xs} {c₀} {c} o tag s z h ns =
    still_end (s ns)
    (skip_then {qs = []} {m = c} refl (λ rs ks. let w : eqb (sum_tag c.code) 0 ≡ true = eq-eqb (sum_tag c.code) 0 (omega arith) in rw (w, consume)) nothing)

-- a whole calculation
pub calculation_reads : {xs : List ℕ} {c m k r : Cursor} {ts ts₁ ts₂ ts' : List ℕ} → ReadsTerms xs (operand c.start ∷ []) c ts m ts₁ → ReadsTerms xs (factors c.start ∷ []) m ts₁ k ts₂ → ReadsTerms xs (summands c.start ∷ []) k ts₂ r ts' → ReadsTerms xs (calculation ∷ []) c ts r ts'
unfolding consume
calculation_reads {xs} {c} a b d ns = skip_then {qs = operand c.start ∷ factors c.start ∷ summands c.start ∷ []} {m = c} refl (λ rs ks. refl) (then (a ns) (then (b ns) (d ns)))
