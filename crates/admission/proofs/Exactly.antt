-- Each answer to a text is the first row of document 01's table that fits, or none fits.
-- Assumes nothing.
use Prim.Native.Nat.{ℕ}
use mathlib.Core.Path.{◌≡◌, refl, sym, subst, ◌∙◌}
use mathlib.Core.Logic.{◌⊎◌, inl, inr}
use mathlib.Core.List.{List}
use native.Mathlib.Omega.{arith}
use lib.ListN.{drop}
use Rattle.table_conflicts.specs.declared.Clash.{Clash}
use Rattle.table_reach.specs.Reaching.{AllReached}
use Rattle.table_judge.specs.Judged.{Passed9, Passed10, Light}
use Rattle.text_store.specs.Store.{State, node_words}
use Rattle.text_store.specs.Words.{place_of}
use Rattle.text_admission.specs.Admitted.{words_of, Right, Bounded, Passes, Headed, Refusal, RulesRefused, AnsweredRules, Answers, refused_early, by_rules, Clashes as WordClashes}
use Rattle.text_admission.specs.Answers.{number_of, place_in}
use Rattle.text_admission.specs.declared.Admission.{Admission}
use Rattle.tree_meaning.specs.Rows.{EmptyBodies, Clashes, TooHeavy, Unreached, NoValues}
use Rattle.admission.specs.Texts.{TreeOf, OfTree, AtPlace}
use Rattle.admission.specs.Refusals.{Row, short_table, wrong_size, wrong_header, wrong_form, past_limit, wrong_name, recursive, too_large, empty_body, clashing, too_heavy, unreached, no_value, number, NoneBelow, First, Weight, Clashed, Exactly}
use Rattle.admission.proofs.Rows.{same_row, in_range, one_first, below_next, below_1}
use Rattle.admission.proofs.Stages.{at_five, at_six, at_seven, at_eight, below_2, below_3, fitting, below_4, misformed, treed, of_this, below_5, no_5, below_6, no_6, below_7, below_8, below_9}
use Rattle.admission.proofs.Late.{marked, no_empty_body, none_before, stands, clashes, no_clash, told as told_of, heavy, not_heavy, light, weight_is, not_reached, all_reached, no_value as valueless, all_valued}
use Rattle.admission.proofs.Numbers.{refused_number}

module _ (text table : List ℕ) where
  -- some row of this number is the first that fits, at this place
  abbrev FirstAt : (n place : ℕ) → Type 0
  FirstAt n place = (k : Row) × (number k ≡ n) × First text table k place

  early : (n place : ℕ) → Refusal text table n place → FirstAt n place
  early n place (Refusal.short_table l) = (short_table, refl, ((l, refl), below_1 text table))
  early n place (Refusal.wrong_size l s) = (wrong_size, refl, ((s, refl), below_2 text table l))
  early n place (Refusal.wrong_header l a b e) = (wrong_header, refl, (e, below_3 text table l a b))

  module _ (base : ℕ) (h : Headed text table base) where
    abbrev xs : List ℕ
    xs = drop base text

    module _ (st : State) where
      -- the text's tree, of what was read
      of_tree : Right xs st → TreeOf text
      of_tree = treed text table base h st

      abbrev right_of : Bounded xs st → Right xs st
      right_of p = p.passed.passed.passed.passed

      below_10 : Bounded xs st → Passed9 (words_of xs st) → NoneBelow text table 10
      below_10 p j =
          below_next text table empty_body (below_9 text table base h st p)
          (λ q e. (let x = of_this text table base h st (right_of p) EmptyBodies q e in no_empty_body xs (fitting text table base h) st p j x.0 x.1))

      below_11 : Bounded xs st → Passed10 (words_of xs st) → NoneBelow text table 11
      below_11 p j =
          below_next text table clashing (below_10 p j.passed)
          (λ q e. (let x = of_this text table base h st (right_of p) Clashes q e in no_clash xs (fitting text table base h) st p j x.0 x.1))

      below_12 : Bounded xs st → Passed10 (words_of xs st) → Light (words_of xs st) → NoneBelow text table 12
      below_12 p j w =
          below_next text table too_heavy (below_11 p j)
          (λ q e. (let x = of_this text table base h st (right_of p) TooHeavy q e in not_heavy xs (fitting text table base h) st p w x.0 x.1))

      below_13 : Bounded xs st → Passed10 (words_of xs st) → Light (words_of xs st) → AllReached (words_of xs st) → NoneBelow text table 13
      below_13 p j w a =
          below_next text table unreached (below_12 p j w)
          (λ q e. (let x = of_this text table base h st (right_of p) Unreached q e in all_reached xs (fitting text table base h) st p a x.0 x.1))

      below_14 : (n : ℕ) → Passes xs st n → NoneBelow text table 14
      below_14 n j =
          below_next text table no_value (below_13 j.passed j.judged (light xs (fitting text table base h) st j.passed n j) j.reached)
          (λ q e. (let x = of_this text table base h st (right_of j.passed) NoValues q e in all_valued xs (fitting text table base h) st j.passed j.valued x.0 x.1))

    by_rule : (n place : ℕ) → RulesRefused xs base n place → FirstAt n place
    by_rule n place (RulesRefused.by_form {p = p} e z) = (wrong_form, refl, (misformed text table base h p place e z, below_4 text table base h))
    by_rule n place (RulesRefused.by_limit {st = st} p e z) =
        (past_limit, refl, ((treed text table base h st p, _, at_five xs (fitting text table base h) st p e, z), below_5 text table base h st p))
    by_rule n place (RulesRefused.by_name {st = st} p e z) =
        (wrong_name, refl, ((treed text table base h st p.passed, _, at_six xs (fitting text table base h) st p.passed (no_5 text table base h st p) e, z), below_6 text table base h st p))
    by_rule n place (RulesRefused.by_cycle {st = st} {rule = rule} p c f z) = (
      recursive,
      refl,
      (
        (treed text table base h st p.passed.passed, _, at_seven xs (fitting text table base h) st p.passed.passed (no_5 text table base h st p.passed) (no_6 text table base h st p) rule c f, z),
        below_7 text table base h st p,
      ),
    )
    by_rule n place (RulesRefused.by_size {st = st} {p = q} p e z) =
        let m = p.passed in (
          too_large,
          refl,
          (
            (treed text table base h st m.passed.passed, q, at_eight xs (fitting text table base h) st m.passed.passed (no_5 text table base h st m.passed) (no_6 text table base h st m) q e, z),
            below_8 text table base h st p,
          ),
        )
    by_rule n place (RulesRefused.by_empty_body {st = st} {p = q} p m z) =
        (empty_body, refl, ((treed text table base h st (right_of st p), q, marked xs (fitting text table base h) st p q m, z), below_9 text table base h st p))
    by_rule n place (RulesRefused.by_weight {st = st} p j w z) =
        (too_heavy, refl, ((treed text table base h st (right_of st p), _, heavy xs (fitting text table base h) st p j w, z), below_11 st p j))
    by_rule n place (RulesRefused.by_unreached {st = st} {rule = rule} p j w u z) =
        (unreached, refl, ((treed text table base h st (right_of st p), _, not_reached xs (fitting text table base h) st p rule u, z), below_12 st p j w))
    by_rule n place (RulesRefused.by_no_value {st = st} {i = i} p j w a l z) =
        (no_value, refl, ((treed text table base h st (right_of st p), _, valueless xs (fitting text table base h) st p i l, z), below_13 st p j w a))

    by_clash : (place construct : ℕ) (c : Clash) → WordClashes xs base place construct c → FirstAt 10 place
    by_clash place construct c k =
        let st : State = k.st in
        let p : Bounded xs st = k.passed in
        (clashing, refl, ((treed text table base h st (right_of st p), _, clashes xs (fitting text table base h) st p construct k.first, k.at), below_10 st p k.no_empty_body))

    clashed_rules : (place construct : ℕ) (c : Clash) → WordClashes xs base place construct c → AtPlace text (Clashed (Admission.Conflict place construct c)) place
    clashed_rules place construct c k =
        let st : State = k.st in
        let p : Bounded xs st = k.passed in
        let t = told_of xs (fitting text table base h) st p construct k.first c k.answered in (
          treed text table base h st (right_of st p),
          place_of (node_words st) construct,
          record {
            construct = construct;
            clash = c;
            place = place;
            answered = refl;
            before = none_before xs (fitting text table base h) st p construct k.first;
            at = stands xs (fitting text table base h) st p construct k.first.holds;
            window = t.0;
            carried = t.1;
            least = t.2;
            shared = t.3;
          },
          k.at,
        )

  -- an answer is of the first row, or no row fits
  abbrev Told : Admission → Type 0
  Told answer = ((number_of answer ≡ 0) × NoneBelow text table 14) ⊎ FirstAt (number_of answer) (place_in answer)

  told_rules : (base : ℕ) → Headed text table base → (new : List ℕ) (answer : Admission) → AnsweredRules (drop base text) base table new answer → Told answer
  told_rules base h new (Admission.Admitted weight) p = inl (refl, below_14 base h p.st weight p.passes)
  told_rules base h new (Admission.Refused n place) p = inr (by_rule base h n place p.0)
  told_rules base h new (Admission.Conflict place construct c) p = inr (by_clash base h place construct c p.0)

  pub told : (new : List ℕ) (answer : Admission) → Answers text table new answer → Told answer
  told new answer (refused_early n place e r k) = subst Told (sym e) (inr (early n place r))
  told new answer (by_rules base h p) = told_rules base h new answer p

  -- ---- what an answer carries

  clashed : (new : List ℕ) (answer : Admission) → Answers text table new answer → number_of answer ≡ 10 → AtPlace text (Clashed answer) (place_in answer)
  clashed new (Admission.Admitted w) a z = absurd (omega arith)
  clashed new (Admission.Refused n p) a z = absurd ((refused_number text table new n p a).2 z)
  clashed new (Admission.Conflict p i c) (refused_early n q e r k) z = let u : ◌≡◌ {A = ℕ} 0 1 = cc in absurd (omega arith)
  clashed new (Admission.Conflict p i c) (by_rules base h (k, same)) z = clashed_rules base h p i c k

  weighed : (new : List ℕ) (answer : Admission) → Answers text table new answer → number_of answer ≡ 0 → (n : ℕ) × (answer ≡ Admission.Admitted n) × OfTree text (Weight n)
  weighed new (Admission.Admitted n) (refused_early m q e r k) z = let u : ◌≡◌ {A = ℕ} 0 1 = cc in absurd (omega arith)
  weighed new (Admission.Admitted n) (by_rules base h a) z =
      (n, refl, (treed text table base h a.st (right_of base h a.st a.passes.passed), weight_is (drop base text) (fitting text table base h) a.st a.passes.passed n a.passes))
  weighed new (Admission.Refused n p) a z = absurd (omega (arith, z, (refused_number text table new n p a).0))
  weighed new (Admission.Conflict p i c) a z = absurd (omega arith)

  module _ (new : List ℕ) (answer : Admission) (a : Answers text table new answer) where
    exactly_told : Told answer → Exactly text table answer
    exactly_told (inl (z, none)) =
        record {
          admitted_iff = (λ e. none, λ f. z);
          refused_iff = λ k p. (λ e. absurd (omega (arith, z, e.0, (in_range k).0)), λ f. absurd (none k p (in_range k).1 f.0));
          weight = weighed new answer a;
          clash = clashed new answer a;
        }
    exactly_told (inr (k, e, f)) =
        record {
          admitted_iff = (λ z. absurd (omega (arith, z, e, (in_range k).0)), λ none. absurd (none k (place_in answer) (in_range k).1 f.0));
          refused_iff = λ j p. (
            λ x. subst (First text table j) x.1 (subst (λ (r : Row). First text table r (place_in answer)) (same_row k j (e ∙ x.0)) f),
            λ g. (let u = one_first text table k j (place_in answer) p f g in (sym e ∙ u.0, u.1)),
          );
          weight = weighed new answer a;
          clash = clashed new answer a;
        }

pub exactly : (text old new : List ℕ) (answer : Admission) → Answers text old new answer → Exactly text old answer
exactly text old new answer a = exactly_told text old new answer a (told text old new answer a)
