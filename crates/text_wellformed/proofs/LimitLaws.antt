-- A right text that refusal 5 lets pass is within the limits: the last rule has the totals, and no rule's are past a limit.
-- Assumes nothing.
use Prim.Native.Nat.{ℕ, ◌+◌, ◌-◌, ◌≤◌, ◌<◌}
use mathlib.Core.Path.{◌≡◌, refl, sym, subst, ◌∙◌}
use mathlib.Core.Logic.{⊎_elim}
use mathlib.Core.Bool.{Bool, true, false}
use mathlib.Core.List.{List, [], ◌∷◌}
use native.Mathlib.Omega.{arith}
use borrow.Author.Tests.{leb-true, leb-false, ltb-false, le-leb}
use lib.Dec.{leb, ltb}
use lib.ListN.{length, length-replicate}
use Rattle.basis.specs.Limits.{max_text_bytes, max_rules, max_constructs, max_variables, max_terms}
use Rattle.basis.proofs.Booleans.{which, picked, neither_first, neither_second}
use Rattle.text_parsing.specs.Terminals.{terminals_from}
use Rattle.text_parsing.specs.Symbols.{rules}
use Rattle.text_store.specs.Store.{State, state, nodes_of, terms_of, binders_of, rules_of, rule_words, counted, close_rule, blank}
use Rattle.text_parsing.specs.Form.{right, run}
use Rattle.text_productions.specs.Phrases.{Phrases, nothing, then, no_rule, a_rule, ruled, terminal}
use Rattle.text_productions.proofs.Derived.{derived}
use Rattle.text_store.proofs.StoreLaws.{rule_at}
use Rattle.text_shapes.proofs.Growth.{phrases_grow}
use Rattle.text_shapes.proofs.Places.{placed}
use Rattle.text_names.specs.Counting.{nowhere}
use Rattle.text_store.specs.Words.{named_at, last_node, terms_at_end, binders_at_end, rules_kept, rules_room}
use Rattle.text_names.specs.Limits.{passed_in, refusal_5}
use Rattle.text_wellformed.proofs.LeastLaws.{faults_clear}

-- ---- the last rule

-- the last rule has the totals
record Totals (st : State) : Type 0 where
  some : 1 ≤ rules_of st
  nodes : last_node (rule_words st) (rules_of st - 1) ≡ nodes_of st
  terms : terms_at_end (rule_words st) (rules_of st - 1) ≡ terms_of st
  binders : binders_at_end (rule_words st) (rules_of st - 1) ≡ binders_of st

under : (limit n : ℕ) → counted limit n ≤ limit → n < limit
under limit n = picked (λ (k : ℕ). k ≤ limit → n < limit) (leb n limit) (λ z h. omega arith) (λ z h. absurd (omega (arith, leb-false n limit z)))

closed_totals : (p i : ℕ) (a : State) → length (rule_words a) ≡ rules_room → rules_of (close_rule p i a) ≤ max_rules → Totals (close_rule p i a)
closed_totals p i (state ns ts rs n t b r) l h =
    let k : r < max_rules = under max_rules r h in
    let z : r + 1 - 1 ≡ r = omega arith in
    rw (le-leb r max_rules (omega arith))
    (record {
      some = omega arith;
      nodes = rw z (rule_at rs r p i n t b (omega arith) l 2 (omega arith));
      terms = rw z (rule_at rs r p i n t b (omega arith) l 3 (omega arith));
      binders = rw z (rule_at rs r p i n t b (omega arith) l 4 (omega arith));
    })

-- after a rule nothing more is read but rules
last_rule : {xs : List ℕ} {any : Bool} {a b : State} → Phrases xs (rules any ∷ []) a b → length (rule_words a) ≡ rules_room → rules_of b ≤ max_variables → (any ≡ true → Totals a) → Totals b
last_rule (then no_rule nothing nothing) l m h = h refl
last_rule (then (a_rule v n p i) (then terminal nothing (then x y (then (ruled {p = q} {i = k} {a = c} {b = d} e) nothing r))) nothing) l m h =
    last_rule r ((phrases_grow (then x y (then (ruled e) nothing nothing))).rule_length ∙ l) m
    (λ z. subst Totals (sym e) (closed_totals q k c ((phrases_grow (then x y nothing)).rule_length ∙ l) (subst (λ (s : State). rules_of s ≤ max_rules) e (omega (arith, (phrases_grow r).rules)))))

-- ---- no total is past its limit

record Within (rs : List ℕ) (k : ℕ) : Type 0 where
  rules : k < max_rules
  nodes : last_node rs k ≤ max_constructs
  terms : terms_at_end rs k ≤ max_terms
  binders : binders_at_end rs k ≤ max_variables

within : (rs : List ℕ) (k : ℕ) → passed_in rs k ≡ false → Within rs k
within rs k e =
    let f = neither_second (leb max_rules k) _ e in
    let g = neither_second (ltb max_constructs (last_node rs k)) _ f in
    record {
      rules = leb-false max_rules k (neither_first (leb max_rules k) _ e);
      nodes = ltb-false max_constructs (last_node rs k) (neither_first (ltb max_constructs (last_node rs k)) _ f);
      terms = ltb-false max_terms (terms_at_end rs k) (neither_first (ltb max_terms (terms_at_end rs k)) _ g);
      binders = ltb-false max_variables (binders_at_end rs k) (neither_second (ltb max_terms (terms_at_end rs k)) _ g);
    }

pub limits : (xs ns ts rs : List ℕ) (n t b r : ℕ) → run (terminals_from xs 0) blank (rules false ∷ []) ≡ right (state ns ts rs n t b r) → length xs ≤ max_text_bytes → refusal_5 rs r ≡ nowhere → (n ≤ max_constructs) × (t ≤ max_terms) × (b ≤ max_variables) × (r ≤ max_rules)
limits xs ns ts rs n t b r e short clear =
    let each : (k : ℕ) → k < r → k < rules_kept → Within rs k =
    λ k g h. within rs k (faults_clear 0 r (passed_in rs) (named_at rs) clear k (omega arith) g (omega (arith, (placed xs ns ts rs n t b r e).rules k h)))
    in let many : r ≤ max_rules = ⊎_elim (λ z. leb-true r max_rules z) (λ z. absurd (omega (arith, (each max_rules (leb-false r max_rules z) (omega arith)).rules))) (which (leb r max_rules))
    in let total : Totals (state ns ts rs n t b r) =
    last_rule (derived xs blank (state ns ts rs n t b r) e) (length-replicate {A = ℕ} rules_room 0) many (λ z. let y : ◌≡◌ {A = ℕ} 0 1 = cc in absurd (omega arith))
    in let last : Within rs (r - 1) = each (r - 1) (omega (arith, total.some)) (omega arith)
    in (omega (arith, total.nodes, last.nodes), omega (arith, total.terms, last.terms), omega (arith, total.binders, last.binders), many)
