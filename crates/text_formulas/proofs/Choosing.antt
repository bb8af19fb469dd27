-- Parts of sets and of counts: what each does with the next terminal.
-- Assumes nothing.
use Prim.Native.Nat.{ℕ, ◌+◌, ◌≤◌, ◌<◌}
use mathlib.Core.Path.{◌≡◌, refl, sym, subst}
use mathlib.Core.Bool.{true, false}
use mathlib.Core.List.{List, [], ◌∷◌}
use borrow.Author.Tests.{ne_eqb, lt-ltb, le-ltb}
use Rattle.basis.specs.Limits.{max_nesting}
use Rattle.text_parsing.specs.Terminals.{begin_like}
use Rattle.text_store.specs.Store.{put_single}
use Rattle.text_parsing.specs.Symbols.{want, sign, calculation, item, item_tail, bound, exception, excluded, alternative, alternatives, value_set, counts, counts_tail}
use Rattle.text_parsing.specs.Form.{item_begins, consume}
use Rattle.text_parsing.specs.Cursors.{next, fail, Reads, ReadsTerms, ReadsOn}
use Rattle.text_parsing.specs.declared.Cursor.{Cursor}
use Rattle.text_parsing.proofs.Steps.{then, take_then, skip_then, nothing, fault_only}
use Rattle.text_parsing.proofs.Loops.{Still, still_turn, still_end}

module _ {xs : List ℕ} {c m r : Cursor} {ts ts₁ ts' : List ℕ} (some none p : ℕ) where
  pub bound_some : begin_like c.code ≡ true → ReadsTerms xs (calculation ∷ []) c ts m ts₁ → ReadsTerms xs (sign some p 0 ∷ []) m ts₁ r ts' → ReadsTerms xs (bound some none p ∷ []) c ts r ts'
  unfolding consume
  bound_some e a b ns = skip_then {qs = calculation ∷ sign some p 0 ∷ []} {m = c} refl (λ rs ks. rw (e, consume)) (then (a ns) (b ns))

pub bound_none : {xs : List ℕ} {c r : Cursor} {ts ts' : List ℕ} (some none p : ℕ) → begin_like c.code ≡ false → ReadsTerms xs (sign none p 0 ∷ []) c ts r ts' → ReadsTerms xs (bound some none p ∷ []) c ts r ts'
unfolding consume
bound_none {xs} {c} some none p e a ns = skip_then {qs = sign none p 0 ∷ []} {m = c} refl (λ rs ks. rw (e, consume)) (a ns)

module _ {xs : List ℕ} {c m r : Cursor} {ts ts' : List ℕ} where
  pub tail_range : c.code ≡ 126 → m ≡ next xs c → ReadsTerms xs (bound 8 9 c.start ∷ []) m ts r ts' → ReadsTerms xs (item_tail ∷ []) c ts r ts'
  unfolding consume
  tail_range e n a ns = take_then {qs = bound 8 9 c.start ∷ []} (rw e refl) n (λ rs ks. rw (e, consume)) (a ns)

  pub counts_range : c.code ≡ 126 → m ≡ next xs c → ReadsTerms xs (bound 8 9 c.start ∷ []) m ts r ts' → ReadsTerms xs (counts_tail ∷ []) c ts r ts'
  unfolding consume
  counts_range e n a ns = take_then {qs = bound 8 9 c.start ∷ []} (rw e refl) n (λ rs ks. rw (e, consume)) (a ns)

  pub item_open : c.code ≡ 126 → m ≡ next xs c → ReadsTerms xs (bound 10 7 c.start ∷ []) m ts r ts' → ReadsTerms xs (item ∷ []) c ts r ts'
  unfolding consume item_begins
  item_open e n a ns = take_then {qs = bound 10 7 c.start ∷ []} (rw e refl) n (λ rs ks. rw (e, item_begins)) (a ns)

pub tail_single : {xs : List ℕ} {c : Cursor} {ts ts' : List ℕ} → (c.code ≡ 126 → ⊥) → ts' ≡ put_single ts c.terms → ReadsTerms xs (item_tail ∷ []) c ts c ts'
unfolding consume
tail_single {xs} {c} {ts} {ts'} h z ns =
    subst (λ (l : List ℕ). Reads xs (item_tail ∷ []) c ns ts c ns l) (sym z)
    (skip_then {qs = []} {m = c} {ns₁ = ns} {ts₁ = put_single ts c.terms} refl (λ rs ks. rw (ne_eqb c.code 126 h, consume)) nothing)

pub counts_single : {xs : List ℕ} {c : Cursor} {ts : List ℕ} → (c.code ≡ 126 → ⊥) → ReadsTerms xs (counts_tail ∷ []) c ts c ts
unfolding consume
counts_single {xs} {c} h ns = skip_then {qs = []} {m = c} refl (λ rs ks. rw (ne_eqb c.code 126 h, consume)) nothing

module _ {xs : List ℕ} {c m r : Cursor} {ts ts₁ ts' : List ℕ} where
  pub item_closed : (c.code ≡ 126 → ⊥) → ReadsTerms xs (calculation ∷ []) c ts m ts₁ → ReadsTerms xs (item_tail ∷ []) m ts₁ r ts' → ReadsTerms xs (item ∷ []) c ts r ts'
  unfolding consume item_begins
  item_closed h a b ns = skip_then {qs = calculation ∷ item_tail ∷ []} {m = c} refl (λ rs ks. rw (ne_eqb c.code 126 h, item_begins)) (then (a ns) (b ns))

  pub counts_closed : (c.code ≡ 126 → ⊥) → ReadsTerms xs (calculation ∷ []) c ts m ts₁ → ReadsTerms xs (counts_tail ∷ []) m ts₁ r ts' → ReadsTerms xs (counts ∷ []) c ts r ts'
  unfolding consume
  counts_closed h a b ns = skip_then {qs = calculation ∷ counts_tail ∷ []} {m = c} refl (λ rs ks. rw (ne_eqb c.code 126 h, consume)) (then (a ns) (b ns))

pub counts_open : {xs : List ℕ} {c m k r : Cursor} {ts ts₁ ts' : List ℕ} → c.code ≡ 126 → m ≡ next xs c → ReadsTerms xs (calculation ∷ []) m ts k ts₁ → ReadsTerms xs (sign 10 c.start 0 ∷ []) k ts₁ r ts' → ReadsTerms xs (counts ∷ []) c ts r ts'
unfolding consume
counts_open {c = c} e n a b ns = take_then {qs = calculation ∷ sign 10 c.start 0 ∷ []} (rw e refl) n (λ rs ks. rw (e, consume)) (then (a ns) (b ns))

-- ---- sets

module _ {xs : List ℕ} {c a m k r : Cursor} {ts ts₁ ts₂ ts' : List ℕ} (d : ℕ) where
  pub alternative_with : ReadsTerms xs (item ∷ []) c ts a ts₁ → a.code ≡ 33 → m ≡ next xs a → ReadsTerms xs (excluded d ∷ []) m ts₁ k ts₂ → ReadsTerms xs (sign 12 a.start 0 ∷ []) k ts₂ r ts' → ReadsTerms xs (alternative d ∷ []) c ts r ts'
  unfolding consume
  alternative_with i e n x y ns =
      skip_then {qs = item ∷ exception d ∷ []} {m = c} refl (λ rs ks. refl)
      (then (i ns) (take_then {qs = excluded d ∷ sign 12 a.start 0 ∷ []} (rw e refl) n (λ rs ks. rw (e, consume)) (then (x ns) (y ns))))

pub alternative_only : {xs : List ℕ} {c a : Cursor} {ts ts₁ : List ℕ} (d : ℕ) → ReadsTerms xs (item ∷ []) c ts a ts₁ → (a.code ≡ 33 → ⊥) → ReadsTerms xs (alternative d ∷ []) c ts a ts₁
unfolding consume
alternative_only {xs} {c} {a} d i h ns =
    skip_then {qs = item ∷ exception d ∷ []} {m = c} refl (λ rs ks. refl)
    (then (i ns) (skip_then {qs = []} {m = a} refl (λ rs ks. rw (ne_eqb a.code 33 h, consume)) nothing))

module _ {xs : List ℕ} {c m k r : Cursor} {ts ts' : List ℕ} (d : ℕ) where
  pub excluded_set : c.code ≡ 40 → d < max_nesting → m ≡ next xs c → ReadsTerms xs (value_set (d + 1) ∷ []) m ts k ts' → ReadsOn xs (want 41 ∷ []) k r → ReadsTerms xs (excluded d ∷ []) c ts r ts'
  unfolding consume
  excluded_set e h n a w ns = take_then {qs = value_set (d + 1) ∷ want 41 ∷ []} (rw e refl) n (λ rs ks. rw (e, consume) (rw (lt-ltb d max_nesting h) refl)) (then (a ns) (w ns ts'))

pub excluded_deep : {xs : List ℕ} {c r : Cursor} {ts : List ℕ} (d : ℕ) → c.code ≡ 40 → max_nesting ≤ d → r ≡ fail c → ReadsTerms xs (excluded d ∷ []) c ts r ts
unfolding consume
excluded_deep {c = c} d e h n ns = fault_only n (λ rs ks. rw (e, consume) (rw (le-ltb d max_nesting h) refl))

pub excluded_item : {xs : List ℕ} {c r : Cursor} {ts ts' : List ℕ} (d : ℕ) → (c.code ≡ 40 → ⊥) → ReadsTerms xs (item ∷ []) c ts r ts' → ReadsTerms xs (excluded d ∷ []) c ts r ts'
unfolding consume
excluded_item {xs} {c} d h a ns = skip_then {qs = item ∷ []} {m = c} refl (λ rs ks. rw (ne_eqb c.code 40 h, consume)) (a ns)

module _ {xs : List ℕ} {c₀ c m k r : Cursor} {ts₀ ts ts₁ ts' : List ℕ} (d : ℕ) where
  pub alternatives_turn : ((ns : List ℕ) → Still xs (alternatives d ∷ []) c₀ ns ts₀ c ns ts) → c.code ≡ 124 → m ≡ next xs c → ReadsTerms xs (alternative d ∷ []) m ts k ts₁ → ReadsTerms xs (sign 11 c.start 0 ∷ []) k ts₁ r ts' → (ns : List ℕ) → Still xs (alternatives d ∷ []) c₀ ns ts₀ r ns ts'
  unfolding consume
  alternatives_turn s e n a b ns = still_turn {qs = alternative d ∷ sign 11 c.start 0 ∷ []} (s ns) (rw e refl) n (λ rs ks. rw (e, consume)) (then (a ns) (b ns))

pub set_reads : {xs : List ℕ} {c m r : Cursor} {ts ts₁ ts' : List ℕ} (d : ℕ) → ReadsTerms xs (alternative d ∷ []) c ts m ts₁ → ((ns : List ℕ) → Still xs (alternatives d ∷ []) m ns ts₁ r ns ts') → (r.code ≡ 124 → ⊥) → ReadsTerms xs (value_set d ∷ []) c ts r ts'
unfolding consume
set_reads {xs} {c} {m} {r} d a s h ns =
    skip_then {qs = alternative d ∷ alternatives d ∷ []} {m = c} refl (λ rs ks. refl)
    (then (a ns) (still_end (s ns) (skip_then {qs = []} {m = r} refl (λ rs ks. rw (ne_eqb r.code 124 h, consume)) nothing)))
