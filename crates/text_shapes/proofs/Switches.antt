-- Switches: cases are read one after the other, and then the node is put in front of the first.
-- Assumes nothing.
use Prim.Native.Nat.{ℕ, ◌+◌, ◌≤◌, ◌<◌}
use mathlib.Core.Path.{◌≡◌, refl, sym, ap, subst, ◌∙◌}
use mathlib.Core.List.{List, [], ◌∷◌}
use native.Mathlib.Omega.{arith}
use native.Mathlib.Nat.{add-zero}
use lib.ListN.{get_or}
use Rattle.basis.specs.Limits.{max_nesting, max_constructs}
use Rattle.text_store.specs.Words.{node_start, condition_from, condition_end}
use Rattle.text_store.proofs.Numbers.{at_condition_from, at_condition_end}
use Rattle.text_parsing.specs.Symbols.{want, condition, expression, colon, case_end, cases, switch_end}
use Rattle.text_store.specs.Store.{State, state, nodes_of, terms_of, insert, condition_on, node_words, term_words, rule_words, binders_of, rules_of}
use Rattle.text_productions.specs.Phrases.{Phrases}
use Rattle.text_shapes.specs.TermShapes.{ConditionShape}
use Rattle.text_shapes.specs.NodeShapes.{Conditioned, Shape, tree, further, Holds, switch_tree, a_case, no_further, a_default, more_cases}
use Rattle.text_store.proofs.StoreLaws.{condition_before, condition_after, from_put, end_put}
use Rattle.text_shapes.proofs.Moving.{TermsSame, extent, stays_with}
use Rattle.text_shapes.proofs.Growth.{Fine}
use Rattle.text_shapes.proofs.Claims.{TermsOnly, TermFacts, Kept, Part, Gives, Whole, CaseRead, Open, still, Reads, end, next}
use Rattle.text_shapes.proofs.Building.{same_word, gives_from, kept_refl, kept_trans, kept_less, kept_terms, holds_kept, Inserted, inserted, headed, behind, builds}

-- ---- a condition is put

record Conditions (i f h : ℕ) (a b : State) : Type 0 where
  nodes_same : nodes_of b ≡ nodes_of a
  term_words_same : term_words b ≡ term_words a
  rule_words_same : rule_words b ≡ rule_words a
  terms_same : terms_of b ≡ terms_of a
  binders_same : binders_of b ≡ binders_of a
  rules_same : rules_of b ≡ rules_of a
  before : (k : ℕ) → k < node_start i + at_condition_from → get_or (node_words b) k 0 ≡ get_or (node_words a) k 0
  after : (k : ℕ) → node_start (i + 1) ≤ k → get_or (node_words b) k 0 ≡ get_or (node_words a) k 0
  from_is : condition_from (node_words b) i ≡ f
  end_is : condition_end (node_words b) i ≡ h

condition_fine : (i f h : ℕ) (a : State) → Fine a → i < max_constructs → Conditions i f h a (condition_on i f h a)
condition_fine i f h (state ns ts rs n t b r) fine l =
    record {
      nodes_same = refl;
      term_words_same = refl;
      rule_words_same = refl;
      terms_same = refl;
      binders_same = refl;
      rules_same = refl;
      before = condition_before ns i f h l;
      after = condition_after ns i f h l;
      from_is = from_put ns i f h l fine.node_length;
      end_is = end_put ns i f h l fine.node_length;
    }

conditions : (i f h : ℕ) {a b : State} → b ≡ condition_on i f h a → Fine a → i < max_constructs → Conditions i f h a b
conditions i f h {a} z fine l = subst (Conditions i f h a) (sym z) (condition_fine i f h a fine l)

-- ---- one case

-- the terms of a condition are kept
condition_kept : (same : TermsSame) {i f h : ℕ} {a b : State} → Kept i a b → h ≤ terms_of a → ConditionShape (term_words a) f h → ConditionShape (term_words b) f h
condition_kept same {i} {f} {h} {a} {b} k l s = same.condition_same (term_words a) (term_words b) f h s (λ q y z. k.terms q (omega arith))

colon_made : {xs : List ℕ} {i f h : ℕ} {a c b : State} → TermsSame → i ≡ nodes_of a → h ≡ terms_of a → Whole xs a c → Fine c → b ≡ condition_on i f h c → ConditionShape (term_words a) f (terms_of a) → CaseRead xs f a b
colon_made {xs} {i} {f} {h} {a} {c} {b} same e z g fine y s =
    let l : nodes_of a < nodes_of c = (extent g.part.holds).0
    in let m : Conditions (nodes_of a) f (terms_of a) c b = conditions (nodes_of a) f (terms_of a) (y ∙ ap (λ (j : ℕ). condition_on j f h c) e ∙ ap (λ (j : ℕ). condition_on (nodes_of a) f j c) z) fine (omega (arith, fine.nodes))
    in let k : Kept (nodes_of a) c b =
    record {
      nodes = λ q v. m.before q (omega arith);
      terms = λ q v. same_word m.term_words_same q;
      rules = λ q v. same_word m.rule_words_same q;
      more_terms = omega (arith, m.terms_same);
      more_rules = omega (arith, m.rules_same);
    }
    in let w : Holds xs (node_words b) (term_words b) tree (nodes_of a) (nodes_of c) (terms_of a) (terms_of c) g.part.count =
    stays_with same (node_words b) (term_words b) g.part.holds
    (record { at = λ q v. rw add-zero (m.before (node_start (nodes_of a) + q) (omega arith)) }, record { at = λ j q v u p. rw add-zero (m.after (node_start j + q) (omega arith)) })
    (record { at = λ q v u. same_word m.term_words_same q })
    in record {
      kept = kept_trans g.kept k (omega arith);
      steady = m.rules_same ∙ g.steady;
      part = record { count = g.part.count; bound = m.binders_same ∙ g.part.bound; holds = rw (m.nodes_same, m.terms_same) w };
      case = record { from_is = m.from_is; end_is = m.end_is; shape = condition_kept same (kept_trans g.kept k (omega arith)) (omega arith) s };
    }

-- a case with its condition, read from a to c; its body's terms are from `body` on
record Case (xs : List ℕ) (a c : State) : Type 0 where
  body : ℕ
  kept : Kept (nodes_of a) a c
  steady : rules_of c ≡ rules_of a
  part : Part xs tree (nodes_of a) body (binders_of a) c
  case : Conditioned (node_words c) (term_words c) (nodes_of a) (terms_of a) body

case_from : {xs : List ℕ} {a b c : State} → TermsOnly a b → CaseRead xs (terms_of a) b c → Case xs a c
case_from {xs} {a} {b} {c} t r =
    record {
      body = terms_of b;
      kept = kept_trans (kept_terms (nodes_of a) t) r.kept (omega (arith, t.nodes_same));
      steady = r.steady ∙ t.rules_same;
      part = rw (← t.nodes_same, ← t.binders_same) r.part;
      case = rw (← t.nodes_same) r.case;
    }

case_read : {xs : List ℕ} {d f : ℕ} {a b c : State} → TermFacts xs → Fine a → Fine b → f ≡ terms_of a → d ≤ max_nesting → Phrases xs (condition d ∷ []) a b → (d ≤ max_nesting → ConditionShape (term_words b) f (terms_of b) → CaseRead xs f b c) → Case xs a c
case_read {xs} {d} {f} {a} {b} {c} facts fine fine' e h s x =
    let r : ConditionShape (term_words b) (terms_of a) (terms_of b) × TermsOnly a b = facts.condition_read d a b s fine.term_length fine'.terms h
    in case_from r.1 (subst (λ (j : ℕ). CaseRead xs j b c) e (x h (rw e r.0)))

-- ---- cases one after the other

module _ (same : TermsSame) {xs : List ℕ} {a c : State} (r : Case xs a c) where
  case_closed : (b : State) → Kept (nodes_of c) c b → (γ : ℕ) → Holds xs (node_words b) (term_words b) further (nodes_of c) (nodes_of b) (terms_of c) (terms_of b) γ → Holds xs (node_words b) (term_words b) Shape.cases (nodes_of a) (nodes_of b) (terms_of a) (terms_of b) (r.part.count + γ)
  case_closed b k γ h =
      let l : nodes_of a < nodes_of c = (extent r.part.holds).0
      in let m : r.body ≤ terms_of c = (extent r.part.holds).1
      in a_case
      (record {
        from_is = k.nodes (node_start (nodes_of a) + at_condition_from) (omega arith) ∙ r.case.from_is;
        end_is = k.nodes (node_start (nodes_of a) + at_condition_end) (omega arith) ∙ r.case.end_is;
        shape = condition_kept same k m r.case.shape;
      })
      (holds_kept same k (omega arith) (omega arith) r.part.holds) h refl

  first_open : Open xs (nodes_of a) (terms_of a) (binders_of a) c
  first_open = record { count = r.part.count; bound = r.part.bound; begins = omega (arith, (extent r.part.holds).0); close = case_closed }

  more_open : {i f u : ℕ} → Open xs i f u a → Open xs i f u c
  more_open {i} {f} {u} o =
      record {
        count = o.count + r.part.count;
        bound = omega (arith, o.bound, r.part.bound);
        begins = omega (arith, o.begins, (extent r.part.holds).0);
        close = λ b k γ h.
            let z : o.count + r.part.count + γ ≡ o.count + (r.part.count + γ) = omega arith
            in rw z (o.close b (kept_trans r.kept k (omega (arith, (extent r.part.holds).0))) (r.part.count + γ) (more_cases (case_closed b k γ h)));
      }

-- the node is put: between a and c the default is read, or nothing
switch_made : {xs : List ℕ} {i f u : ℕ} {a c b : State} → TermsSame → (p γ : ℕ) → Open xs i f u a → Kept (nodes_of a) a c → rules_of c ≡ rules_of a → binders_of c ≡ binders_of a + γ → Holds xs (node_words c) (term_words c) further (nodes_of a) (nodes_of c) (terms_of a) (terms_of c) γ → Fine c → b ≡ insert 4 p i 0 0 0 0 0 c → Fine b → Gives xs i f u a b
switch_made {xs} {i} {f} {u} {a} {c} {b} same p γ o k s v h fine z fine' =
    let w : Holds xs (node_words c) (term_words c) Shape.cases i (nodes_of c) f (terms_of c) (o.count + γ) = o.close c k γ h
    in let n : Inserted i 4 p 0 0 0 0 0 c b = inserted 4 p i 0 0 0 0 0 z fine fine' (extent w).0
    in let g : Gives xs i f u c b = builds n (o.count + γ) (omega (arith, o.bound)) (switch_tree {j = i + 1} (headed n) refl (behind n same w))
    in gives_from (kept_less i o.begins k) s g

-- ---- productions

pub colon_claim : {xs : List ℕ} {d f i e : ℕ} {a c : State} → TermsSame → i ≡ nodes_of a → e ≡ terms_of a → Reads xs (expression d ∷ case_end i f e ∷ []) a c → d ≤ max_nesting → ConditionShape (term_words a) f (terms_of a) → CaseRead xs f a c
colon_claim same z y (next x fx (next v fv end)) h s = colon_made same z y (x h) fx v s

pub no_default_claim : {xs : List ℕ} {i : ℕ} {a c : State} (p : ℕ) → TermsSame → Fine a → c ≡ insert 4 p i 0 0 0 0 0 a → Fine c → (f u : ℕ) → Open xs i f u a → Gives xs i f u a c
no_default_claim {a = a} p same fine z fine' f u o = switch_made same p 0 o (kept_refl (nodes_of a) a) refl (omega arith) (no_further refl) fine z fine'

pub default_claim : {xs : List ℕ} {d p i : ℕ} {a c : State} → TermsSame → Reads xs (expression d ∷ want 59 ∷ switch_end p i ∷ []) a c → d ≤ max_nesting → (f u : ℕ) → Open xs i f u a → Gives xs i f u a c
default_claim {p = p} same (next x fx (next still fy (next z fz end))) h f u o =
    let g = x h in switch_made same p g.part.count o g.kept g.steady g.part.bound (a_default g.free g.part.holds) fx z fz

pub further_claim : {xs : List ℕ} {d p i m : ℕ} {a c : State} → TermFacts xs → Fine a → m ≡ terms_of a → Reads xs (condition d ∷ colon d m ∷ cases d p i ∷ []) a c → d ≤ max_nesting → (f u : ℕ) → Open xs i f u a → Gives xs i f u a c
further_claim {xs} {i = i} {a = a} facts fine e (next {c = b} x fx (next {c = c'} y fy (next z fz end))) h f u o =
    let r : Case xs a c' = case_read facts fine fx e h x y
    in gives_from (kept_less i o.begins r.kept) r.steady (z h f u (more_open facts.same r o))

pub switch_claim : {xs : List ℕ} {d e f p i : ℕ} {a c : State} → TermFacts xs → Fine a → d < max_nesting → e ≡ d + 1 → f ≡ terms_of a → i ≡ nodes_of a → Reads xs (condition e ∷ colon e f ∷ cases e p i ∷ []) a c → Whole xs a c
switch_claim {xs} {i = i} {a = a} {c = c} facts fine h l m n (next {c = b} x fx (next {c = c'} y fy (next z fz end))) =
    let r : Case xs a c' = case_read facts fine fx m (omega arith) x y
    in let g : Gives xs (nodes_of a) (terms_of a) (binders_of a) c' c =
    subst (λ (j : ℕ). Gives xs j (terms_of a) (binders_of a) c' c) n
    (z (omega arith) (terms_of a) (binders_of a) (subst (λ (j : ℕ). Open xs j (terms_of a) (binders_of a) c') (sym n) (first_open facts.same r)))
    in gives_from r.kept r.steady g
