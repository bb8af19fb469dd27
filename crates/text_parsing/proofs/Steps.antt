-- How readers of parts are put together.
-- Assumes nothing.
use Prim.Native.Nat.{ℕ, ◌≤◌, ◌<◌}
use mathlib.Core.Path.{◌≡◌, refl, sym, ap, subst, ◌∙◌}
use mathlib.Core.Bool.{true, false}
use mathlib.Core.List.{List, [], ◌∷◌, ◌++◌, append_assoc}
use native.Mathlib.Omega.{arith}
use borrow.Author.Tests.{eq-eqb, ne_eqb, lt-ltb, le-ltb}
use lib.Dec.{eqb}
use lib.ListN.{length}
use Rattle.basis.specs.Limits.{max_nesting}
use Rattle.text_tokens.specs.Tokens.{token_of}
use Rattle.text_tokens.specs.declared.Token.{Token}
use Rattle.text_parsing.specs.Terminals.{code_of, terminal, seen, terminal_of, live}
use Rattle.text_store.specs.Store.{put_term}
use Rattle.text_parsing.specs.Symbols.{Symbol, want, sign, paren}
use Rattle.text_parsing.specs.Form.{go, fault, consume}
use Rattle.text_parsing.specs.Cursors.{terminal_at, state_at, counts_of, next, fail, term_more, resume, left, Reads, ReadsTerms, ReadsOn}
use Rattle.text_parsing.specs.declared.Terminal.{Terminal}
use Rattle.text_parsing.specs.declared.Cursor.{Cursor}
use Rattle.text_parsing.proofs.TerminalLaws.{Stands, ended, moving, stands}
use Rattle.text_parsing.proofs.Resuming.{skips, faults, takes, left_falls, left_failed, left_some}

-- ---- looking

stands_inside : {xs : List ℕ} {at : ℕ} {t : Token} → Stands xs at t → t.start < t.end → t.end ≤ length xs
stands_inside (ended e z) m = absurd (omega (arith, z))
stands_inside (moving l a s i) m = i

pub inside_of : (xs : List ℕ) (at : ℕ) (t : Token) → t ≡ token_of xs at → t.start < t.end → t.end ≤ length xs
inside_of xs at t e m = stands_inside (subst (Stands xs at) (sym e) (stands xs at)) m

pub look_told : (xs : List ℕ) (at : ℕ) (t : Token) (k : ℕ) → t ≡ token_of xs at → k ≡ code_of t.kind → seen xs k t.start t.end ≡ terminal_of xs at
unfolding terminal_of
look_told xs at t k e z = rw (z, e)

at_end : {xs : List ℕ} {at : ℕ} {t : Token} → Stands xs at t → t.end ≤ t.start → code_of t.kind ≡ 5
at_end (ended e z) m = rw e
at_end (moving l a s i) m = absurd (omega arith)

pub look_end : (xs : List ℕ) (at : ℕ) (t : Token) (k : ℕ) → t ≡ token_of xs at → k ≡ code_of t.kind → t.end ≤ t.start → terminal k t.start t.end 0 ≡ terminal_of xs at
unfolding seen
look_end xs at t k e z m =
    let five : k ≡ 5 = z ∙ at_end (subst (Stands xs at) (sym e) (stands xs at)) m
    in subst (λ (n : ℕ). terminal n t.start t.end 0 ≡ seen xs n t.start t.end) (sym five) refl ∙ look_told xs at t k e z

-- ---- parts after parts

pub then : {xs : List ℕ} {ps qs : List Symbol} {c m r : Cursor} {ns ts ns₁ ts₁ ns₂ ts₂ : List ℕ} → Reads xs ps c ns ts m ns₁ ts₁ → Reads xs qs m ns₁ ts₁ r ns₂ ts₂ → Reads xs (ps ++ qs) c ns ts r ns₂ ts₂
then {xs} {ps} {qs} {c} {m} {r} {ns} {ts} {ns₁} {ts₁} {ns₂} {ts₂} a b =
    record {
      reads = λ rs ks. ap (λ (l : List Symbol). resume xs c ns ts rs l) (append_assoc ps qs ks) ∙ a.reads rs (qs ++ ks) ∙ b.reads rs ks;
      falls = omega (arith, a.falls, b.falls);
    }

-- a part takes the terminal, and its further parts are read
pub take_then : {xs : List ℕ} {ps qs : List Symbol} {c m r : Cursor} {ns ts ns' ts' : List ℕ} → live c.code ≡ true → m ≡ next xs c → ((rs : List ℕ) (ks : List Symbol) → consume (terminal_at c) (state_at c ns ts rs) (ps ++ ks) ≡ go (state_at c ns ts rs) (qs ++ ks)) → Reads xs qs m ns ts r ns' ts' → Reads xs ps c ns ts r ns' ts'
take_then {xs} {ps} {qs} {c} {m} {r} {ns} {ts} {ns'} {ts'} l e f a =
    let b : Reads xs qs (next xs c) ns ts r ns' ts' = subst (λ (k : Cursor). Reads xs qs k ns ts r ns' ts') e a
    in record {
      reads = λ rs ks. takes xs (terminal_at c) (state_at c ns ts rs) (state_at c ns ts rs) (ps ++ ks) (qs ++ ks) l (f rs ks) ∙ b.reads rs ks;
      falls = omega (arith, left_falls xs (terminal_at c) l, b.falls);
    }

-- the same where the part counts something: d is c with what it counts
pub take_more : {xs : List ℕ} {ps qs : List Symbol} {c d m r : Cursor} {ns ts ns₁ ts₁ ns' ts' : List ℕ} → live c.code ≡ true → m ≡ next xs d → terminal_at d ≡ terminal_at c → ((rs : List ℕ) (ks : List Symbol) → consume (terminal_at c) (state_at c ns ts rs) (ps ++ ks) ≡ go (state_at d ns₁ ts₁ rs) (qs ++ ks)) → Reads xs qs m ns₁ ts₁ r ns' ts' → Reads xs ps c ns ts r ns' ts'
take_more {xs} {ps} {qs} {c} {d} {m} {r} {ns} {ts} {ns₁} {ts₁} {ns'} {ts'} l e z f a =
    let w : d.end ≡ c.end = ap (λ (s : Terminal). s.end) z
    in let n : m ≡ counts_of (terminal_of xs c.end) d = e ∙ ap (λ (at : ℕ). counts_of (terminal_of xs at) d) w
    in let b : Reads xs qs (counts_of (terminal_of xs c.end) d) ns₁ ts₁ r ns' ts' = subst (λ (k : Cursor). Reads xs qs k ns₁ ts₁ r ns' ts') n a
    in record {
      reads = λ rs ks. takes xs (terminal_at c) (state_at c ns ts rs) (state_at d ns₁ ts₁ rs) (ps ++ ks) (qs ++ ks) l (f rs ks) ∙ b.reads rs ks;
      falls = omega (arith, left_falls xs (terminal_at c) l, b.falls);
    }

-- a part takes the terminal and is read; d is c with what it counts
pub take_only : {xs : List ℕ} {ps : List Symbol} {c d r : Cursor} {ns ts ns' ts' : List ℕ} → live c.code ≡ true → r ≡ next xs d → terminal_at d ≡ terminal_at c → ((rs : List ℕ) (ks : List Symbol) → consume (terminal_at c) (state_at c ns ts rs) (ps ++ ks) ≡ go (state_at d ns' ts' rs) ks) → Reads xs ps c ns ts r ns' ts'
take_only {xs} {ps} {c} {d} {r} {ns} {ts} {ns'} {ts'} l e z f =
    let w : d.end ≡ c.end = ap (λ (s : Terminal). s.end) z
    in let n : r ≡ counts_of (terminal_of xs c.end) d = e ∙ ap (λ (at : ℕ). counts_of (terminal_of xs at) d) w
    in subst (λ (k : Cursor). Reads xs ps c ns ts k ns' ts') (sym n)
    (record {
      reads = λ rs ks. takes xs (terminal_at c) (state_at c ns ts rs) (state_at d ns' ts' rs) (ps ++ ks) ks l (f rs ks);
      falls = omega (arith, left_falls xs (terminal_at c) l);
    })

-- a part has come to its end; r is c with what it counts
pub skip_then : {xs : List ℕ} {ps qs : List Symbol} {c m r : Cursor} {ns ts ns₁ ts₁ ns' ts' : List ℕ} → terminal_at m ≡ terminal_at c → ((rs : List ℕ) (ks : List Symbol) → consume (terminal_at c) (state_at c ns ts rs) (ps ++ ks) ≡ consume (terminal_at c) (state_at m ns₁ ts₁ rs) (qs ++ ks)) → Reads xs qs m ns₁ ts₁ r ns' ts' → Reads xs ps c ns ts r ns' ts'
skip_then {xs} {ps} {qs} {c} {m} {r} {ns} {ts} {ns₁} {ts₁} {ns'} {ts'} z f a =
    record {
      reads = λ rs ks.
          skips xs (terminal_at c) (state_at c ns ts rs) (state_at m ns₁ ts₁ rs) (ps ++ ks) (qs ++ ks) (f rs ks)
          ∙ ap (λ (s : Terminal). Rattle.text_parsing.specs.Cursors.resume_at xs s (state_at m ns₁ ts₁ rs) (qs ++ ks)) (sym z)
          ∙ a.reads rs ks;
      falls = omega (arith, a.falls, ap (Rattle.text_parsing.specs.Cursors.left_at xs) z);
    }

-- nothing to read
pub nothing : {xs : List ℕ} {c : Cursor} {ns ts : List ℕ} → Reads xs [] c ns ts c ns ts
nothing = record { reads = λ rs ks. refl; falls = omega arith }

-- the terminal cannot stand here
pub fault_only : {xs : List ℕ} {ps : List Symbol} {c r : Cursor} {ns ts ns' ts' : List ℕ} → r ≡ fail c → ((rs : List ℕ) (ks : List Symbol) → consume (terminal_at c) (state_at c ns ts rs) (ps ++ ks) ≡ fault) → Reads xs ps c ns ts r ns' ts'
fault_only {xs} {ps} {c} {r} {ns} {ts} {ns'} {ts'} e f =
    subst (λ (k : Cursor). Reads xs ps c ns ts k ns' ts') (sym e)
    (record {
      reads = λ rs ks. faults xs (terminal_at c) c.end c.value (state_at c ns ts rs) (state_at c ns' ts' rs) (ps ++ ks) ks (f rs ks);
      falls = omega (arith, left_failed xs c.start c.end c.value);
    })

-- ---- the readers of this crate

module _ (xs : List ℕ) (c r : Cursor) (k : ℕ) where
  pub want_reads : live k ≡ true → c.code ≡ k → r ≡ next xs c → ReadsOn xs (want k ∷ []) c r
  unfolding consume
  want_reads l e n ns ts = take_only {d = c} (rw e l) n refl (λ rs ks. rw (eq-eqb c.code k e, consume))

  pub want_faults : (c.code ≡ k → ⊥) → r ≡ fail c → ReadsOn xs (want k ∷ []) c r
  unfolding consume
  want_faults h n ns ts = fault_only n (λ rs ks. rw (ne_eqb c.code k h, consume))

  pub want_falls : live k ≡ true → c.code ≡ k → r ≡ next xs c → left xs r < left xs c
  want_falls l e n = subst (λ (q : Cursor). left xs q < left xs c) (sym n) (left_falls xs (terminal_at c) (rw e l))

  pub fail_falls : r ≡ fail c → eqb c.code 0 ≡ false → left xs r < left xs c
  fail_falls n l =
      subst (λ (q : Cursor). left xs q < left xs c) (sym n)
      (omega (arith, left_failed xs c.start c.end c.value, left_some xs (terminal_at c) l))

pub paren_reads : {xs : List ℕ} {c r : Cursor} {d : ℕ} → d < max_nesting → ReadsOn xs (want 40 ∷ []) c r → ReadsOn xs (paren d ∷ []) c r
unfolding consume
paren_reads {xs} {c} {r} {d} l a ns ts = skip_then {m = c} {ns₁ = ns} {ts₁ = ts} refl (λ rs ks. rw (lt-ltb d max_nesting l, consume)) (a ns ts)

pub paren_deep : {xs : List ℕ} {c r : Cursor} {d : ℕ} → max_nesting ≤ d → r ≡ fail c → ReadsOn xs (paren d ∷ []) c r
unfolding consume
paren_deep {xs} {c} {r} {d} h n ns ts = fault_only n (λ rs ks. rw (le-ltb d max_nesting h, consume))

pub sign_reads : {xs : List ℕ} {c r : Cursor} {ts ts' : List ℕ} {tag p o : ℕ} → r ≡ term_more c → ts' ≡ put_term ts c.terms tag 0 p o → ReadsTerms xs (sign tag p o ∷ []) c ts r ts'
unfolding consume
sign_reads {xs} {c} {r} {ts} {ts'} {tag} {p} {o} e z ns =
    subst (λ (q : Cursor). Reads xs (sign tag p o ∷ []) c ns ts q ns ts') (sym e)
    (subst (λ (l : List ℕ). Reads xs (sign tag p o ∷ []) c ns ts (term_more c) ns l) (sym z)
    (skip_then {qs = []} {m = term_more c} {ns₁ = ns} {ts₁ = put_term ts c.terms tag 0 p o} refl (λ rs ks. refl) nothing))
