-- Parts of conditions: what each does with the next terminal.
-- Assumes nothing.
use Prim.Native.Nat.{ℕ, ◌+◌, ◌≤◌, ◌<◌}
use mathlib.Core.Path.{◌≡◌, refl, sym, ap, ◌∙◌}
use mathlib.Core.Bool.{true, false, not}
use mathlib.Core.List.{List, [], ◌∷◌}
use borrow.Author.Tests.{eq-eqb, ne_eqb, lt-ltb, le-ltb}
use lib.Dec.{eqb}
use Rattle.basis.specs.Limits.{max_nesting}
use Rattle.text_parsing.specs.Terminals.{live}
use Rattle.text_parsing.specs.Symbols.{want, sign, calculation, test, comparison, condition, joined, chain}
use Rattle.text_parsing.specs.Form.{test_begins, comparison_tag, consume}
use Rattle.text_parsing.specs.Cursors.{next, fail, ReadsTerms, ReadsOn}
use Rattle.text_parsing.specs.declared.Cursor.{Cursor}
use Rattle.text_parsing.proofs.Steps.{then, take_then, skip_then, nothing, fault_only}
use Rattle.text_parsing.proofs.Loops.{Still, still_turn, still_end, test_live}

comparison_live : (n : ℕ) → (comparison_tag n ≡ 0 → ⊥) → live n ≡ true
comparison_live n h = test_live (λ (k : ℕ). not (eqb (comparison_tag k) 0)) refl refl n (ap not (ne_eqb (comparison_tag n) 0 h))

module _ {xs : List ℕ} {c m k r : Cursor} {ts ts₁ ts' : List ℕ} (tag : ℕ) where
  pub comparison_reads : tag ≡ comparison_tag c.code → (tag ≡ 0 → ⊥) → m ≡ next xs c → ReadsTerms xs (calculation ∷ []) m ts k ts₁ → ReadsTerms xs (sign tag c.start 0 ∷ []) k ts₁ r ts' → ReadsTerms xs (comparison ∷ []) c ts r ts'
  unfolding consume
  comparison_reads z h n a b ns =
      take_then {qs = calculation ∷ sign tag c.start 0 ∷ []} (comparison_live c.code (λ q. h (z ∙ q))) n
      (λ rs ks. let w : eqb (comparison_tag c.code) 0 ≡ false = ne_eqb (comparison_tag c.code) 0 (λ q. h (z ∙ q)) in rw (w, consume) (rw (← z) refl))
      (then (a ns) (b ns))

pub comparison_fault : {xs : List ℕ} {c r : Cursor} {ts : List ℕ} (tag : ℕ) → tag ≡ comparison_tag c.code → tag ≡ 0 → r ≡ fail c → ReadsTerms xs (comparison ∷ []) c ts r ts
unfolding consume
comparison_fault {c = c} tag z h n ns = fault_only n (λ rs ks. let w : eqb (comparison_tag c.code) 0 ≡ true = eq-eqb (comparison_tag c.code) 0 (sym z ∙ h) in rw (w, consume))

module _ {xs : List ℕ} {c m k r : Cursor} {ts ts' : List ℕ} (d : ℕ) where
  pub test_group : c.code ≡ 40 → d < max_nesting → m ≡ next xs c → ReadsTerms xs (condition (d + 1) ∷ []) m ts k ts' → ReadsOn xs (want 41 ∷ []) k r → ReadsTerms xs (test d ∷ []) c ts r ts'
  unfolding consume test_begins
  test_group e h n a w ns = take_then {qs = condition (d + 1) ∷ want 41 ∷ []} (rw e refl) n (λ rs ks. rw (e, test_begins) (rw (lt-ltb d max_nesting h) refl)) (then (a ns) (w ns ts'))

pub test_deep : {xs : List ℕ} {c r : Cursor} {ts : List ℕ} (d : ℕ) → c.code ≡ 40 → max_nesting ≤ d → r ≡ fail c → ReadsTerms xs (test d ∷ []) c ts r ts
unfolding consume test_begins
test_deep {c = c} d e h n ns = fault_only n (λ rs ks. rw (e, test_begins) (rw (le-ltb d max_nesting h) refl))

pub test_plain : {xs : List ℕ} {c m r : Cursor} {ts ts₁ ts' : List ℕ} (d : ℕ) → (c.code ≡ 40 → ⊥) → ReadsTerms xs (calculation ∷ []) c ts m ts₁ → ReadsTerms xs (comparison ∷ []) m ts₁ r ts' → ReadsTerms xs (test d ∷ []) c ts r ts'
unfolding consume test_begins
test_plain {xs} {c} d h a b ns = skip_then {qs = calculation ∷ comparison ∷ []} {m = c} refl (λ rs ks. rw (ne_eqb c.code 40 h, test_begins)) (then (a ns) (b ns))

module _ {xs : List ℕ} {c₀ c m k r : Cursor} {ts₀ ts ts₁ ts' : List ℕ} (code tag d : ℕ) where
  pub chain_turn : live code ≡ true → ((ns : List ℕ) → Still xs (chain code tag d ∷ []) c₀ ns ts₀ c ns ts) → c.code ≡ code → m ≡ next xs c → ReadsTerms xs (test d ∷ []) m ts k ts₁ → ReadsTerms xs (sign tag c.start 0 ∷ []) k ts₁ r ts' → (ns : List ℕ) → Still xs (chain code tag d ∷ []) c₀ ns ts₀ r ns ts'
  unfolding consume
  chain_turn l s e n a b ns = still_turn {qs = test d ∷ sign tag c.start 0 ∷ []} (s ns) (rw e l) n (λ rs ks. rw (eq-eqb c.code code e, consume)) (then (a ns) (b ns))

pub chain_end : {xs : List ℕ} {c₀ c : Cursor} {ts₀ ts : List ℕ} (code tag d : ℕ) → ((ns : List ℕ) → Still xs (chain code tag d ∷ []) c₀ ns ts₀ c ns ts) → (c.code ≡ code → ⊥) → ReadsTerms xs (chain code tag d ∷ []) c₀ ts₀ c ts
unfolding consume
chain_end {xs} {c₀} {c} code tag d s h ns = still_end (s ns) (skip_then {qs = []} {m = c} refl (λ rs ks. rw (ne_eqb c.code code h, consume)) nothing)

module _ {xs : List ℕ} {c m r : Cursor} {ts ts₁ ts' : List ℕ} (d : ℕ) where
  joined_as : ReadsTerms xs (test d ∷ []) c ts m ts₁ → ReadsTerms xs (joined d ∷ []) m ts₁ r ts' → ReadsTerms xs (condition d ∷ []) c ts r ts'
  unfolding consume
  joined_as a b ns = skip_then {qs = test d ∷ joined d ∷ []} {m = c} refl (λ rs ks. refl) (then (a ns) (b ns))

  pub condition_and : ReadsTerms xs (test d ∷ []) c ts m ts₁ → m.code ≡ 38 → ReadsTerms xs (chain 38 13 d ∷ []) m ts₁ r ts' → ReadsTerms xs (condition d ∷ []) c ts r ts'
  unfolding consume
  condition_and a e b = joined_as a (λ ns. skip_then {qs = chain 38 13 d ∷ []} {m = m} refl (λ rs ks. rw (e, consume)) (b ns))

  pub condition_or : ReadsTerms xs (test d ∷ []) c ts m ts₁ → m.code ≡ 124 → ReadsTerms xs (chain 124 11 d ∷ []) m ts₁ r ts' → ReadsTerms xs (condition d ∷ []) c ts r ts'
  unfolding consume
  condition_or a e b = joined_as a (λ ns. skip_then {qs = chain 124 11 d ∷ []} {m = m} refl (λ rs ks. rw (e, consume) (rw e refl)) (b ns))

pub condition_only : {xs : List ℕ} {c m : Cursor} {ts ts₁ : List ℕ} (d : ℕ) → ReadsTerms xs (test d ∷ []) c ts m ts₁ → (m.code ≡ 38 → ⊥) → (m.code ≡ 124 → ⊥) → ReadsTerms xs (condition d ∷ []) c ts m ts₁
unfolding consume
condition_only {xs} {c} {m} d a h i = joined_as d a (λ ns. skip_then {qs = []} {m = m} refl (λ rs ks. rw (ne_eqb m.code 38 h, consume) (rw (ne_eqb m.code 124 i) refl)) nothing)
