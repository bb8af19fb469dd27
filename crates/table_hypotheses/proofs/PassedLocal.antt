-- What the judgement passes is read from the words below the sets, and not from the weight: words that were judged may be given their weight
-- and their sets.
-- Assumes nothing.
use Prim.Native.Nat.{ℕ, zero, suc, ◌+◌, ◌≤◌, ◌<◌}
use mathlib.Core.Path.{◌≡◌, refl, sym, subst, ap, ◌∙◌}
use mathlib.Core.Bool.{cond, ◌||◌}
use mathlib.Core.List.{List, [], ◌∷◌}
use native.Mathlib.Omega.{arith}
use lib.Dec.{ltb}
use Rattle.basis.specs.Limits.{max_constructs, max_variables}
use Rattle.basis.specs.Patterns.{pattern_value}
use Rattle.term_words.specs.Words.{terms}
use Rattle.term_words.specs.declared.Kind.{Kind}
use Rattle.term_evaluation.specs.Meaning.{membership}
use Rattle.term_evaluation.specs.Variables.{has_variable}
use Rattle.term_sizes.specs.Sizes.{sizes, count_sizes}
use Rattle.theory.specs.Grammar.{Grammar}
use Rattle.theory.specs.Lookahead.{Follow, Predicted, Conflict, EmptyBody}
use Rattle.theory.specs.Weight.{Weighs}
use Rattle.table_layout.specs.Places.{construct_count, rule_count, weight_of}
use Rattle.table_layout.specs.Constructs.{construct_at}
use Rattle.table_layout.specs.Held.{Context, first_context, Values, is_yes, held, opening}
use Rattle.table_layout.specs.Attributes.{attributes_of}
use Rattle.table_layout.specs.declared.OwnList.{OwnList}
use Rattle.table_structure.proofs.Facts.{Laid, facts}
use Rattle.table_reach.specs.Reaching.{Uses, Reaches, Acyclic, AllReached}
use Rattle.table_sizes.specs.Measures.{largest, widest_from, widest, condition_size, list_size, own_size, exceeds, oversized}
use Rattle.run_actions.specs.Stored.{prediction_at, follow_at}
use Rattle.table_judge.specs.Judged.{None, Weighing, Passed10, Valueless}
use Rattle.table_judge.specs.Sound.{Stands, Sound}
use Rattle.table_hypotheses.specs.OneTable.{Alike, Ended}
use Rattle.table_hypotheses.proofs.HeldLocal.{construct_words, rule_words, variable_words, constructs_same, terms_same, held_local}
use Rattle.table_hypotheses.proofs.LaidLocal.{header_same}
use Rattle.table_hypotheses.proofs.RulesLocal.{rule_end_same, laid_local}
use Rattle.std.specs.Prelude.{Ok}

pub alike_back : {ws ws' : List ℕ} → Alike ws ws' → Alike ws' ws
alike_back a = record { long = a.long'; long' = a.long; same = λ k h e. sym (a.same k h e) }

-- ---- which rules reach which

module _ {ws ws' : List ℕ} (a : Alike ws ws') (l : Laid ws) where
  uses_back : (r q : ℕ) → Uses ws' r q → Uses ws r q
  uses_back r q u =
      let rules : rule_count ws ≡ rule_count ws' = header_same a 1 (omega arith) in
      let h : r < rule_count ws = omega (arith, u.rule) in
      record {
        at = u.at;
        rule = h;
        from = omega (arith, u.from, rule_words a r 0 (omega (arith, l.counts.rules)) (omega arith));
        upto = omega (arith, u.upto, rule_end_same a l r 0 (omega arith));
        used = constructs_same a u.at ∙ u.used;
      }

  reaches_back : {r q : ℕ} → Reaches ws' r q → Reaches ws r q
  reaches_back {r} {q} (Reaches.directly u) = Reaches.directly (uses_back r q u)
  reaches_back {r} (Reaches.through {p = p} u s) = Reaches.through (uses_back r p u) (reaches_back s)

module _ {ws ws' : List ℕ} (a : Alike ws ws') where
  pub count_same : construct_count ws ≡ construct_count ws'
  count_same = header_same a 2 (omega arith)

  -- ---- 7

  pub acyclic_local : Laid ws → Acyclic ws → Acyclic ws'
  acyclic_local l none r s = none r (reaches_back a l s)

  -- ---- 8

  widest_same : (n x : ℕ) → x + n ≤ max_variables → widest_from n ws x ≡ widest_from n ws' x
  unfolding widest_from
  widest_same zero x h = refl
  widest_same (suc n) x h = λ t. largest (variable_words a x 1 (omega arith) (omega arith) t) (variable_words a x 2 (omega arith) (omega arith) t) ∷ widest_same n (x + 1) (omega arith) t

  pub widest_local : widest ws ≡ widest ws'
  widest_local = widest_same max_variables 0 (omega arith)

  condition_size_same : (i : ℕ) → i < max_constructs → condition_size ws i ≡ condition_size ws' i
  condition_size_same i h =
      let from = construct_words a i 6 h (omega arith) in
      let upto = construct_words a i 7 h (omega arith) in
      λ t. cond (ltb (from t) (upto t)) (sizes Kind.Condition (widest_local t) (from t) (terms (terms_same a t) (from t) (upto t))) (Ok tt)

  list_size_same : (o : OwnList) → list_size ws o ≡ list_size ws' o
  list_size_same OwnList.None = refl
  list_size_same (OwnList.Counts start end) = λ t. count_sizes (widest_local t) (terms_same a t) start end
  list_size_same (OwnList.Set start end) = λ t. sizes Kind.Set (widest_local t) start (terms (terms_same a t) start end)

  pub oversized_local : (i : ℕ) → i < max_constructs → oversized ws i ≡ oversized ws' i
  oversized_local i h =
      let own : own_size ws (construct_at ws i) ≡ own_size ws' (construct_at ws' i) = list_size_same (attributes_of (construct_at ws i)).own ∙ ap (own_size ws') (constructs_same a i) in
      λ t. exceeds (condition_size_same i h t) || exceeds (own t)

  -- ---- what holds of the grammar

  pub of_held : (P : Grammar Context Values → Type 0) → P (held ws) → P (held ws')
  of_held P = subst P (held_local a)

  pub weighing_local : (P : ℕ → Type 0) → Weighing ws P → Weighing ws' P
  weighing_local P = of_held (λ g. (weight : Context → ℕ → ℕ) → Weighs g weight → P (weight first_context opening))

  -- ---- 12 and 13

  pub reached_local : Laid ws' → AllReached ws → AllReached ws'
  reached_local l all r u =
      all r (record { there = omega (arith, u.there, header_same a 1 (omega arith)); other = u.other; unreached = λ s. u.unreached (reaches_back (alike_back a) l s) })

  pub valued_local : None (Valueless ws) → None (Valueless ws')
  valued_local none i n =
      none i
      (record {
        signed = n.signed;
        width = n.width;
        start = n.start;
        end = n.end;
        binder = n.binder;
        is_uint = constructs_same a i ∙ n.is_uint;
        no_variable = ap (λ (w : List ℕ). has_variable (terms w n.start n.end)) (terms_same a) ∙ n.no_variable;
        none_left = λ v h. ap (λ (w : List ℕ). is_yes (membership [] (pattern_value n.signed v) n.start (terms w n.start n.end))) (terms_same a) ∙ n.none_left v h;
      })

  -- ---- 5 to 10

  pub passed_local : Ended ws' → Passed10 ws → Passed10 ws'
  passed_local e p =
      let seven = p.passed.passed.passed in
      let l : Laid ws = facts ws seven.laid_out in
      record {
        passed =
            record {
              passed =
                  record {
                    passed = record { laid_out = laid_local a e seven.laid_out; acyclic = acyclic_local l seven.acyclic };
                    sized = λ i h o. p.passed.passed.sized i (omega (arith, count_same)) (oversized_local i (omega (arith, count_same, l.counts.constructs)) ∙ o);
                  };
              no_empty_body = of_held (λ g. (i : ℕ) → EmptyBody g i → ⊥) p.passed.no_empty_body;
            };
        no_conflict = of_held (λ g. (i : ℕ) → ((x : _) × Conflict g i x) → ⊥) p.no_conflict;
      }

  -- Words that pass, given the weight and the sets of their grammar, are sound.
  pub sound_local : Ended ws' → Passed10 ws → Weighing ws (λ n. n ≡ weight_of ws') → AllReached ws → None (Valueless ws)
      → ((i : ℕ) → i < construct_count ws → Stands ws' (prediction_at i) (Predicted (held ws) i) × Stands ws' (follow_at i) (Follow (held ws) i)) → Sound ws'
  sound_local e p w all some s =
      record {
        passed = passed_local e p;
        weight = weighing_local (λ n. n ≡ weight_of ws') w;
        reached = reached_local (facts ws' (passed_local e p).passed.passed.passed.laid_out) all;
        valued = valued_local some;
        sets =
            λ i h.
            let both = s i (omega (arith, count_same)) in
            record {
              prediction = of_held (λ g. Stands ws' (prediction_at i) (Predicted g i)) both.0;
              follow = of_held (λ g. Stands ws' (follow_at i) (Follow g i)) both.1;
            };
      }
