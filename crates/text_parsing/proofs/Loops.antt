-- Chains that a loop reads: the same parts wait before and after each turn.
-- Assumes nothing.
use Prim.Native.Nat.{ℕ, ◌≤◌, ◌<◌}
use mathlib.Core.Path.{◌≡◌, refl, sym, ap, subst, ◌∙◌}
use mathlib.Core.Logic.{⊎_elim}
use mathlib.Core.Bool.{Bool, true, false}
use mathlib.Core.List.{List, ◌++◌}
use native.Mathlib.Omega.{arith}
use borrow.Author.Tests.{eqb-true}
use lib.Dec.{eqb}
use Rattle.basis.proofs.Booleans.{which}
use Rattle.text_parsing.specs.Terminals.{name_like, live}
use Rattle.text_store.specs.Store.{add, put_term}
use Rattle.text_parsing.specs.Symbols.{Symbol}
use Rattle.text_parsing.specs.Form.{go, consume}
use Rattle.text_parsing.specs.Cursors.{terminal_at, state_at, next, term_more, resume, left, Reads, ReadsTerms}
use Rattle.text_parsing.specs.declared.Cursor.{Cursor}
use Rattle.text_parsing.proofs.Resuming.{takes, left_falls}
use Rattle.text_parsing.proofs.Steps.{take_only}

pub record Still (xs : List ℕ) (ps : List Symbol) (c : Cursor) (ns ts : List ℕ) (r : Cursor) (ns' ts' : List ℕ) : Type 0 where
  pub same : (rs : List ℕ) (ks : List Symbol) → resume xs c ns ts rs (ps ++ ks) ≡ resume xs r ns' ts' rs (ps ++ ks)
  pub falls : left xs r ≤ left xs c

pub still_start : {xs : List ℕ} {ps : List Symbol} {c : Cursor} {ns ts : List ℕ} → Still xs ps c ns ts c ns ts
still_start = record { same = λ rs ks. refl; falls = omega arith }

-- a turn: the terminal is taken, qs is read, and the same waits
pub still_turn : {xs : List ℕ} {ps qs : List Symbol} {c₀ c m r : Cursor} {ns₀ ts₀ ns ts ns' ts' : List ℕ} → Still xs ps c₀ ns₀ ts₀ c ns ts → live c.code ≡ true → m ≡ next xs c → ((rs : List ℕ) (ks : List Symbol) → consume (terminal_at c) (state_at c ns ts rs) (ps ++ ks) ≡ go (state_at c ns ts rs) (qs ++ (ps ++ ks))) → Reads xs qs m ns ts r ns' ts' → Still xs ps c₀ ns₀ ts₀ r ns' ts'
still_turn {xs} {ps} {qs} {c₀} {c} {m} {r} {ns₀} {ts₀} {ns} {ts} {ns'} {ts'} s l e f a =
    let b : Reads xs qs (next xs c) ns ts r ns' ts' = subst (λ (k : Cursor). Reads xs qs k ns ts r ns' ts') e a
    in record {
      same = λ rs ks. s.same rs ks ∙ takes xs (terminal_at c) (state_at c ns ts rs) (state_at c ns ts rs) (ps ++ ks) (qs ++ (ps ++ ks)) l (f rs ks) ∙ b.reads rs (ps ++ ks);
      falls = omega (arith, s.falls, left_falls xs (terminal_at c) l, b.falls);
    }

pub turn_falls : {xs : List ℕ} {qs : List Symbol} (c : Cursor) {m r : Cursor} {ns ts ns' ts' : List ℕ} → live c.code ≡ true → m ≡ next xs c → Reads xs qs m ns ts r ns' ts' → left xs r < left xs c
turn_falls {xs} {qs} c {m} {r} {ns} {ts} {ns'} {ts'} l e a =
    let b : Reads xs qs (next xs c) ns ts r ns' ts' = subst (λ (k : Cursor). Reads xs qs k ns ts r ns' ts') e a
    in omega (arith, left_falls xs (terminal_at c) l, b.falls)

-- the loop's end
pub still_end : {xs : List ℕ} {ps : List Symbol} {c₀ c r : Cursor} {ns₀ ts₀ ns ts ns' ts' : List ℕ} → Still xs ps c₀ ns₀ ts₀ c ns ts → Reads xs ps c ns ts r ns' ts' → Reads xs ps c₀ ns₀ ts₀ r ns' ts'
still_end s a = record { reads = λ rs ks. s.same rs ks ∙ a.reads rs ks; falls = omega (arith, s.falls, a.falls) }

-- ---- terms

-- a terminal that is taken is a term
pub take_term : {xs : List ℕ} {ps : List Symbol} {c d r : Cursor} {ts ts' : List ℕ} (tag value place origin : ℕ) → live c.code ≡ true → d ≡ term_more c → ts' ≡ put_term ts c.terms tag value place origin → r ≡ next xs d → ((ns rs : List ℕ) (ks : List Symbol) → consume (terminal_at c) (state_at c ns ts rs) (ps ++ ks) ≡ go (add tag value place origin (state_at c ns ts rs)) ks) → ReadsTerms xs ps c ts r ts'
take_term {xs} {ps} {c} {d} {r} {ts} {ts'} tag value place origin l e z n f ns =
    subst (λ (k : List ℕ). Reads xs ps c ns ts r ns k) (sym z) (take_only {d = term_more c} l (n ∙ ap (next xs) e) refl (λ rs ks. f ns rs ks))

-- a terminal that is a name is no other
pub name_not : (n k : ℕ) → name_like k ≡ false → name_like n ≡ true → eqb n k ≡ false
name_not n k z e =
    ⊎_elim
    (λ (q : eqb n k ≡ true).
    let w : true ≡ false = sym e ∙ ap name_like (eqb-true n k q) ∙ z
    in let v : ◌≡◌ {A = ℕ} 0 1 = cc
    in absurd (omega arith))
    (λ q. q)
    (which (eqb n k))

pub name_live : (n : ℕ) → name_like n ≡ true → live n ≡ true
name_live n e = rw (name_not n 0 refl e, name_not n 5 refl e)

-- a test that fails at a code fails at no code that it holds of
pub test_live : (f : ℕ → Bool) → f 0 ≡ false → f 5 ≡ false → (n : ℕ) → f n ≡ true → live n ≡ true
test_live f z v n e = rw (other 0 z, other 5 v)
  where
    other : (k : ℕ) → f k ≡ false → eqb n k ≡ false
    other k h =
        ⊎_elim
        (λ (q : eqb n k ≡ true).
        let w : true ≡ false = sym e ∙ ap f (eqb-true n k q) ∙ h
        in let u : ◌≡◌ {A = ℕ} 0 1 = cc
        in absurd (omega arith))
        (λ q. q)
        (which (eqb n k))
