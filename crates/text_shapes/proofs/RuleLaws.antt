-- Rules: the words of a rule are put when its expression is read.
-- Assumes nothing.
use Prim.Native.Nat.{ℕ, ◌+◌, ◌<◌}
use mathlib.Core.Path.{◌≡◌, refl, sym, subst, ◌∙◌}
use mathlib.Core.Bool.{Bool, true}
use mathlib.Core.List.{List, [], ◌∷◌}
use native.Mathlib.Omega.{arith}
use borrow.Author.Tests.{le-leb}
use lib.ListN.{get_or}
use Rattle.basis.specs.Limits.{max_rules}
use Rattle.text_store.specs.Words.{rule_start, rule_word, rules_kept}
use Rattle.text_store.proofs.Numbers.{at_name, at_first_node, at_last_node, at_terms, at_binders}
use Rattle.text_parsing.specs.Terminals.{is_name}
use Rattle.text_parsing.specs.Symbols.{want, expression, rules, rule_end}
use Rattle.text_store.specs.Store.{State, state, nodes_of, terms_of, close_rule, node_words, term_words, rule_words, binders_of, rules_of}
use Rattle.text_parsing.specs.declared.Terminal.{Terminal}
use Rattle.text_productions.specs.Phrases.{Seen}
use Rattle.text_shapes.specs.NodeShapes.{tree, Holds, no_rules, a_rule}
use Rattle.text_store.proofs.StoreLaws.{rule_before, rule_at}
use Rattle.text_shapes.proofs.Moving.{TermsSame, extent}
use Rattle.text_shapes.proofs.Growth.{Fine}
use Rattle.text_shapes.proofs.Claims.{Kept, Whole, RulesRead, still, Reads, end, next}
use Rattle.text_shapes.proofs.Building.{same_word, kept_refl, kept_trans, holds_kept, free_kept}

record Closed (p i : ℕ) (a b : State) : Type 0 where
  node_words_same : node_words b ≡ node_words a
  term_words_same : term_words b ≡ term_words a
  nodes_same : nodes_of b ≡ nodes_of a
  terms_same : terms_of b ≡ terms_of a
  binders_same : binders_of b ≡ binders_of a
  count : rules_of b ≡ rules_of a + 1
  before : (k : ℕ) → k < rule_start (rules_of a) → get_or (rule_words b) k 0 ≡ get_or (rule_words a) k 0
  at : (w : ℕ) → w < 5 → rule_word (rule_words b) (rules_of a) w ≡ get_or (p ∷ i ∷ nodes_of a ∷ terms_of a ∷ binders_of a ∷ []) w 0

close_fine : (p i : ℕ) (a : State) → Fine a → Closed p i a (close_rule p i a)
close_fine p i (state ns ts rs n t b r) f =
    let h : r < rules_kept = omega (arith, f.rules)
    in record {
      node_words_same = refl;
      term_words_same = refl;
      nodes_same = refl;
      terms_same = refl;
      binders_same = refl;
      count = rw (le-leb r max_rules f.rules);
      before = rule_before rs r p i n t b h;
      at = rule_at rs r p i n t b h f.rule_length;
    }

closed : (p i : ℕ) {a b : State} → b ≡ close_rule p i a → Fine a → Closed p i a b
closed p i {a} z f = subst (Closed p i a) (sym z) (close_fine p i a f)

closed_kept : {p i : ℕ} {a b : State} → Closed p i a b → Kept (nodes_of a) a b
closed_kept k =
    record {
      nodes = λ q h. same_word k.node_words_same q;
      terms = λ q h. same_word k.term_words_same q;
      rules = k.before;
      more_terms = omega (arith, k.terms_same);
      more_rules = omega (arith, k.count);
    }

-- an expression from a to b, the rule's words from b to c, and further rules from c to d
rule_made : {xs : List ℕ} {p i : ℕ} {any : Bool} {a b c d : State} {s : Terminal} → TermsSame → Seen xs s → is_name s ≡ true → p ≡ s.start → i ≡ nodes_of a → Whole xs a b → Closed p i b c → RulesRead xs true c d → RulesRead xs any a d
rule_made {xs} {p} {i} {any} {a} {b} {c} {d} {s} same seen t place e g k r =
    let l : nodes_of a < nodes_of b = (extent g.part.holds).0
    in let kept_bd : Kept (nodes_of b) b d = kept_trans (closed_kept k) r.kept (omega (arith, k.nodes_same))
    in let w : Holds xs (node_words d) (term_words d) tree (nodes_of a) (nodes_of c) (terms_of a) (terms_of c) g.part.count =
    rw (k.nodes_same, k.terms_same) (holds_kept same kept_bd (omega arith) (omega arith) g.part.holds)
    in let v : (q : ℕ) → q < 5 → rule_word (rule_words d) (rules_of a) q ≡ get_or (p ∷ i ∷ nodes_of b ∷ terms_of b ∷ binders_of b ∷ []) q 0 =
    λ q h. r.kept.rules (rule_start (rules_of a) + q) (omega (arith, k.count, g.steady)) ∙ rw (← g.steady) (k.at q h)
    in record {
      kept = kept_trans g.kept kept_bd (omega arith);
      rules =
          a_rule {l = rules_of c} {m = nodes_of c} {h = terms_of c} {v = binders_of c} {β = g.part.count} (record { terminal = s; seen = seen; name = t; place = v at_name (omega arith) ∙ place })
          (record { first_is = v at_first_node (omega arith) ∙ e; nodes_are = v at_last_node (omega arith) ∙ sym k.nodes_same; terms_are = v at_terms (omega arith) ∙ sym k.terms_same; binders_are = v at_binders (omega arith) ∙ sym k.binders_same })
          (omega (arith, k.count, g.steady))
          (k.binders_same ∙ g.part.bound)
          (free_kept kept_bd l g.free)
          w
          r.rules;
      some = λ z. omega (arith, k.count, g.steady, r.kept.more_rules);
    }

-- ---- productions

pub no_rule_claim : {xs : List ℕ} {a : State} → RulesRead xs true a a
no_rule_claim {xs} {a} =
    record { kept = kept_refl (nodes_of a) a; rules = no_rules refl refl refl refl; some = λ z. let y : ◌≡◌ {A = ℕ} 0 1 = cc in absurd (omega arith) }

pub rule_claim : {xs : List ℕ} {p i : ℕ} {any : Bool} {a c : State} {s : Terminal} → TermsSame → Seen xs s → is_name s ≡ true → p ≡ s.start → i ≡ nodes_of a → Reads xs (want 61 ∷ expression 0 ∷ rule_end p i ∷ rules true ∷ []) a c → RulesRead xs any a c
rule_claim {p = p} {i = i} same seen t place e (next still f (next x fx (next y fy (next z fz end)))) =
    rule_made same seen t place e (x (omega arith)) (closed p i y fx) z
