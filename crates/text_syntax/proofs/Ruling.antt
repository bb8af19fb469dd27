-- Rules, one after the other, up to the text's end.
-- Assumes nothing.
use Prim.Native.Nat.{ℕ}
use mathlib.Core.Path.{◌≡◌, refl, sym, ap, subst, ◌∙◌}
use mathlib.Core.Bool.{Bool, true, false, ◌&&◌}
use mathlib.Core.List.{List, [], ◌∷◌}
use native.Mathlib.Omega.{arith}
use borrow.Author.Tests.{ne_eqb}
use lib.Dec.{eqb}
use Rattle.text_parsing.specs.Terminals.{name_like}
use Rattle.text_store.specs.Store.{put_rule, close_rule}
use Rattle.text_parsing.specs.Symbols.{want, expression, rule_end, rules}
use Rattle.text_parsing.specs.Form.{consume}
use Rattle.text_parsing.specs.Cursors.{terminal_at, state_at, first_of, next, fail, rule_more, resume, Reads, ReadsOn}
use Rattle.text_parsing.specs.declared.Cursor.{Cursor}
use Rattle.text_parsing.proofs.Resuming.{takes, faults, starts, ends, stops, left_falls, left_failed}
use Rattle.text_parsing.proofs.Loops.{name_live}
use Rattle.text_syntax.specs.Rules.{Ends, ReadsRule, form_of, outcome_of}

-- ---- the end of a rule

pub end_takes : {xs : List ℕ} {c m r : Cursor} {rs rs' : List ℕ} (p i : ℕ) → c.code ≡ 59 → m ≡ rule_more c → rs' ≡ put_rule rs c.rules p i c.nodes c.terms c.binders → r ≡ next xs m → Ends xs p i c rs r rs'
unfolding consume
end_takes {xs} {c} {m} {r} {rs} {rs'} p i e z w n =
    subst (λ (q : Cursor). Ends xs p i c rs q rs') (sym (n ∙ ap (next xs) z))
    (subst (λ (l : List ℕ). Ends xs p i c rs (next xs (rule_more c)) l) (sym w)
    (record {
      reads = λ ns ts ks. takes xs (terminal_at c) (state_at c ns ts rs) (close_rule p i (state_at c ns ts rs)) (rule_end p i ∷ ks) ks (rw e refl) (rw (e, consume));
      falls = omega (arith, left_falls xs (terminal_at c) (rw e refl));
    }))

pub end_faults : {xs : List ℕ} {c r : Cursor} {rs : List ℕ} (p i : ℕ) → (c.code ≡ 59 → ⊥) → r ≡ fail c → Ends xs p i c rs r rs
unfolding consume
end_faults {xs} {c} {r} {rs} p i h n =
    subst (λ (q : Cursor). Ends xs p i c rs q rs) (sym n)
    (record {
      reads = λ ns ts ks. faults xs (terminal_at c) c.end c.value (state_at c ns ts rs) (state_at c ns ts rs) (rule_end p i ∷ ks) ks (rw (ne_eqb c.code 59 h, consume));
      falls = omega (arith, left_failed xs c.start c.end c.value);
    })

-- ---- a rule

pub rule_reads : {xs : List ℕ} {c m a b r : Cursor} {ns ts rs ns' ts' rs' : List ℕ} → name_like c.code ≡ true → m ≡ next xs c → ReadsOn xs (want 61 ∷ []) m a → Reads xs (expression 0 ∷ []) a ns ts b ns' ts' → Ends xs c.start c.nodes b rs r rs' → ReadsRule xs c ns ts rs r ns' ts' rs'
unfolding consume
rule_reads {xs} {c} {m} {a} {b} {r} {ns} {ts} {rs} {ns'} {ts'} {rs'} l n w e q =
    let v : ReadsOn xs (want 61 ∷ []) (next xs c) a = subst (λ (k : Cursor). ReadsOn xs (want 61 ∷ []) k a) n w
    in record {
      reads = λ any ks.
          takes xs (terminal_at c) (state_at c ns ts rs) (state_at c ns ts rs) (rules any ∷ ks) (want 61 ∷ expression 0 ∷ rule_end c.start c.nodes ∷ rules true ∷ ks) (name_live c.code l) (rw (l, consume))
          ∙ (v ns ts).reads rs (expression 0 ∷ rule_end c.start c.nodes ∷ rules true ∷ ks)
          ∙ e.reads rs (rule_end c.start c.nodes ∷ rules true ∷ ks)
          ∙ q.reads ns' ts' (rules true ∷ ks);
      falls = omega (arith, left_falls xs (terminal_at c) (name_live c.code l), (v ns ts).falls, e.falls, q.falls);
    }

-- ---- the text's end

module _ (c : Cursor) (any : Bool) (o : name_like c.code ≡ false) where
  pub ends_right : any ≡ true → c.code ≡ 5 → (xs ns ts rs : List ℕ) → resume xs c ns ts rs (rules any ∷ []) ≡ outcome_of c ns ts rs
  unfolding consume
  ends_right t e xs ns ts rs =
      let f : (any && eqb c.code 5) ≡ true = rw (t, e) refl
      in ends xs (terminal_at c) (state_at c ns ts rs) (state_at c ns ts rs) (rules any ∷ []) (rw e refl) (rw (o, f, consume)) ∙ rw e refl

  pub ends_wrong : {r : Cursor} → (any && eqb c.code 5) ≡ false → r ≡ fail c → (xs ns ts rs : List ℕ) → resume xs c ns ts rs (rules any ∷ []) ≡ outcome_of r ns ts rs
  unfolding consume
  ends_wrong {r} f n xs ns ts rs =
      stops xs (terminal_at c) (state_at c ns ts rs) (rules any ∷ []) (rw (o, f, consume)) ∙ subst (λ (q : Cursor). Rattle.text_parsing.specs.Form.refused c.start ≡ outcome_of q ns ts rs) (sym n) refl

-- ---- all rules

-- what waits at the present place is what waited at the start
pub record Begun (xs ns₀ ts₀ rs₀ : List ℕ) (any : Bool) (c : Cursor) (ns ts rs : List ℕ) : Type 0 where
  pub same : form_of xs ns₀ ts₀ rs₀ ≡ resume xs c ns ts rs (rules any ∷ [])

pub begin : {xs ns ts rs : List ℕ} {c : Cursor} {any : Bool} → c ≡ first_of xs → any ≡ false → Begun xs ns ts rs any c ns ts rs
unfolding form_of
begin {xs} {ns} {ts} {rs} {c} {any} e z =
    subst (λ (q : Cursor). Begun xs ns ts rs any q ns ts rs) (sym e)
    (subst (λ (b : Bool). Begun xs ns ts rs b (first_of xs) ns ts rs) (sym z)
    (record { same = sym (starts xs 0 (state_at (first_of xs) ns ts rs) (rules false ∷ [])) }))

pub turn : {xs ns₀ ts₀ rs₀ ns ts rs ns' ts' rs' : List ℕ} {any : Bool} {c r : Cursor} → Begun xs ns₀ ts₀ rs₀ any c ns ts rs → ReadsRule xs c ns ts rs r ns' ts' rs' → Begun xs ns₀ ts₀ rs₀ true r ns' ts' rs'
turn {any = any} s a = record { same = s.same ∙ a.reads any [] }
