-- From the judgement's answer to the text's.
-- Assumes nothing.
use Prim.Native.Nat.{ℕ, ◌≤◌, ◌<◌}
use mathlib.Core.Path.{◌≡◌, sym, subst}
use mathlib.Core.List.{List}
use native.Mathlib.Omega.{arith}
use lib.ListN.{length}
use Rattle.basis.specs.Limits.{max_text_bytes}
use Rattle.theory.specs.Lookahead.{EmptyBody}
use Rattle.table_layout.specs.Places.{construct_count}
use Rattle.table_layout.specs.Held.{held}
use Rattle.table_judge.specs.Sound.{Sound}
use Rattle.table_hypotheses.specs.OneTable.{Alike}
use Rattle.text_store.specs.Store.{State, node_words, rule_words, nodes_of}
use Rattle.text_admission.specs.Admitted.{words_of, Bounded, LeastMark, RulesRefused, by_empty_body, by_weight, by_unreached, by_no_value, AnsweredRules}
use Rattle.text_admission.specs.Late.{Marks, LateRefused, empty_body, overweight, unreached, no_value, Late, HandedOver}
use Rattle.text_admission.specs.declared.Admission.{Admission}
use Rattle.text_admission.proofs.Judging.{count_is}

module _ (xs : List ℕ) (st : State) (base : ℕ) (p : Bounded xs st) (h : length xs ≤ max_text_bytes) where
  least_mark : (i q : ℕ) → i < construct_count (words_of xs st) → EmptyBody (held (words_of xs st)) i → Marks (node_words st) (words_of xs st) (construct_count (words_of xs st)) q → LeastMark st (words_of xs st) q
  least_mark i q l e m =
      let z : construct_count (words_of xs st) ≡ nodes_of st = count_is xs st p h
      in let f = m.found i l e
      in record { construct = f.0; there = omega (arith, f.1, z); empty = f.2; mark = f.3; least = λ j k w. m.below j (omega (arith, z)) w }

  refusal : {number place : ℕ} → LateRefused (node_words st) (rule_words st) base (words_of xs st) number place → RulesRefused xs base number place
  refusal (empty_body {p = q} {i = i} l e m z) = by_empty_body p (least_mark i q l e m) z
  refusal (overweight d w z) = by_weight p d w z
  refusal (unreached d w f z) = by_unreached p d w f z
  refusal (no_value d w r l z) = by_no_value p d w r l z

  -- the words before and after the judgement, and the caller's
  answers : (new old table : List ℕ) (answer : Admission) → Late (node_words st) (rule_words st) base (words_of xs st) new answer → HandedOver answer new old table → AnsweredRules xs base old table answer
  answers new old table (Admission.Admitted weight) l t =
      record {
        st = st;
        passes = record { passed = p; judged = l.judged; weighs = l.weighs; limited = l.limited; reached = l.reached; valued = l.valued };
        table = record {
          sound = subst Sound (sym t.0) l.sound;
          same = subst (Alike (words_of xs st)) (sym t.0) l.same;
          length_kept = t.2;
          beyond = t.1;
        };
      }
  answers new old table (Admission.Refused number place) l t = (refusal l, t)
  answers new old table (Admission.Conflict place construct clash) l t =
      (record { st = st; passed = p; no_empty_body = l.passed; first = l.first; answered = l.answered; at = l.at }, t)

  pub answered : (ws new old table : List ℕ) (answer r : Admission) → ws ≡ words_of xs st → Late (node_words st) (rule_words st) base ws new answer → r ≡ answer → HandedOver answer new old table → AnsweredRules xs base old table r
  answered ws new old table answer r w l e t =
      subst (AnsweredRules xs base old table) (sym e) (answers new old table answer (subst (λ (v : List ℕ). Late (node_words st) (rule_words st) base v new answer) w l) t)
