-- Rows 9 to 13: what the judgement of the encoded words says is true of the tree.
-- Assumes nothing.
use Prim.Native.Nat.{ℕ, ◌≤◌, ◌<◌}
use mathlib.Core.Path.{◌≡◌, sym, ap, subst, ◌∙◌}
use mathlib.Core.List.{List}
use mathlib.Core.Option.{some}
use native.Mathlib.Omega.{arith}
use lib.ListN.{length}
use Rattle.basis.specs.Limits.{max_text_bytes, max_weight}
use Rattle.basis.specs.Bits.{Bits}
use Rattle.basis.specs.Lookahead.{number as window-number}
use Rattle.basis.proofs.Numbers.{number_injective}
use Rattle.theory.specs.Grammar.{Grammar}
use Rattle.theory.specs.Lookahead.{Predicted, LeastConflict}
use Rattle.theory.specs.Weight.{Weighs}
use Rattle.table_layout.specs.Held.{Context, first_context, Values, held, opening}
use Rattle.table_scope.proofs.RuledLaw.{ruled}
use Rattle.table_weights.proofs.Heights.{weight_at}
use Rattle.table_weights.proofs.Theorems.{weights_exist}
use Rattle.table_conflicts.specs.Conflicts.{HasNumber, FirstHolders, Conflicting, Answered}
use Rattle.table_conflicts.specs.declared.Clash.{Clash}
use Rattle.table_reach.specs.Reaching.{AllReached, FirstUnreached}
use Rattle.table_judge.specs.Judged.{Passed9, Passed10, Least, None, Weighing, Light, Valueless}
use Rattle.text_store.specs.Store.{State, node_words, rule_words}
use Rattle.text_store.specs.Words.{place_of, named_at}
use Rattle.text_admission.specs.Admitted.{words_of, Bounded, Passes, LeastMark}
use Rattle.text_admission.specs.Answers.{window_in}
use Rattle.tree_meaning.specs.Rows.{EmptyBodies, HasConflict, Clashes, TooHeavy, Unreached, NoValues}
use Rattle.tree_meaning.specs.Grammar.{construct_numbered, tree_grammar}
use Rattle.tree_agreement.proofs.SameSets.{SameSets}
use Rattle.admission.specs.Refusals.{Weight, FirstTwo, Sharing}
use Rattle.admission.proofs.Stages.{twelve, at_twelve}
use Rattle.admission.proofs.Holding.{formed, its_tree, no_5, no_6, word_sets, empty_there, mark_is, place_is, place_there, start_is}
use Rattle.admission.proofs.Values.{tree_valueless, word_valueless, valueless_there}

-- the weights of words that pass 10
pub weights_of : (ws : List ℕ) → Passed10 ws → Weighs (held ws) (λ c i. weight_at ws i)
weights_of ws j = let p = j.passed.passed.passed in weights_exist ws (ruled ws p.laid_out) p.acyclic

-- of a clash: the least window that is common in the grammar, and the branches that share it
abbrev pub ToldOf : Grammar Context Values → ℕ → Clash → Type 0
ToldOf g i c = (x : Bits) × (window_in c ≡ some (window-number x)) × LeastConflict g i x × Sharing g i x c

two_have : (g : Grammar Context Values) (is : List ℕ) (x : Bits) (n first second : ℕ) → window-number x ≡ n → FirstHolders (Predicted g) is n first second → FirstTwo g is x first second
two_have g is x n first second e h =
    record {
      in_order = h.in_order;
      first_has = (h.first_listed, has first h.first_has);
      second_has = (h.second_listed, has second h.second_has);
      others = λ j m p. h.others j m (x, e, p);
    }
  where
    has : (j : ℕ) → HasNumber (Predicted g) j n → Predicted g j x
    has j (y, d, p) = subst (Predicted g j) (number_injective y x (d ∙ sym e)) p

told_of : (ws : List ℕ) (i : ℕ) → Conflicting ws i → (c : Clash) → Answered ws i c → ToldOf (held ws) i c
told_of ws i k Clash.None a = absurd (a k)
told_of ws i k (Clash.Branches n first second) ((x, e, l), two) = (x, ap some (sym e), l, (two.branches, two.node, two_have (held ws) two.branches x n first second e two.holders))
told_of ws i k (Clash.Passes n) ((x, e, l), none) = (x, ap some (sym e), l, none)

-- ---- of another grammar with the same sets

module _ {g h : Grammar Context Values} (same : SameSets g h) where
  two_same : (is : List ℕ) (x : Bits) (first second : ℕ) → FirstTwo g is x first second → FirstTwo h is x first second
  two_same is x first second f =
      record {
        in_order = f.in_order;
        first_has = (f.first_has.0, (same.predicted_iff first x).0 f.first_has.1);
        second_has = (f.second_has.0, (same.predicted_iff second x).0 f.second_has.1);
        others = λ j m p. f.others j m ((same.predicted_iff j x).1 p);
      }

  sharing_same : (i : ℕ) (x : Bits) (c : Clash) → Sharing g i x c → Sharing h i x c
  sharing_same i x Clash.None s = s
  sharing_same i x (Clash.Branches window first second) (is, e, f) = (is, (same.alternative_iff i is).0 e, two_same is x first second f)
  sharing_same i x (Clash.Passes window) s = λ is e. s is ((same.alternative_iff i is).1 e)

  told_same : (i : ℕ) (c : Clash) → ToldOf g i c → ToldOf h i c
  told_same i c (x, e, l, s) = (x, e, (same.least_iff i x).0 l, sharing_same i x c s)

-- ---- the tree of words that pass 5 to 8

module _ (xs : List ℕ) (short : length xs ≤ max_text_bytes) (st : State) (p : Bounded xs st) where
  abbrev ws : List ℕ
  ws = words_of xs st

  -- 9
  pub marked : (q : ℕ) → LeastMark st ws q → EmptyBodies (its_tree xs short st p) q
  marked q m =
      let e = ((word_sets xs short st p).empty_body_iff m.construct).0 m.empty in (
        m.construct,
        e,
        m.mark ∙ mark_is xs short st p m.construct e,
        λ j f. omega (arith, m.least j (empty_there xs short st p j f) (((word_sets xs short st p).empty_body_iff j).1 f), mark_is xs short st p j f),
      )

  pub no_empty_body : Passed9 ws → (q : ℕ) → EmptyBodies (its_tree xs short st p) q → ⊥
  no_empty_body j q x = j.no_empty_body x.0 (((word_sets xs short st p).empty_body_iff x.0).1 x.1)

  -- 10
  pub tree_conflict : (i : ℕ) → Conflicting ws i → HasConflict (its_tree xs short st p) i
  tree_conflict i (x, c) = (x, ((word_sets xs short st p).conflict_iff i x).0 c)

  pub word_conflict : (i : ℕ) → HasConflict (its_tree xs short st p) i → Conflicting ws i
  word_conflict i (x, c) = (x, ((word_sets xs short st p).conflict_iff i x).1 c)

  pub none_before : (i : ℕ) → Least ws (Conflicting ws) i → (j : ℕ) → j < i → HasConflict (its_tree xs short st p) j → ⊥
  none_before i l j b c = l.before j b (word_conflict j c)

  pub stands : (i : ℕ) → Conflicting ws i → place_of (node_words st) i ≡ (construct_numbered (its_tree xs short st p) i).place
  stands i c = let d = tree_conflict i c in place_is xs short st p i d.0 d.1

  pub clashes : (i : ℕ) → Least ws (Conflicting ws) i → Clashes (its_tree xs short st p) (place_of (node_words st) i)
  clashes i l = (i, tree_conflict i l.holds, none_before i l, stands i l.holds)

  pub no_clash : Passed10 ws → (q : ℕ) → Clashes (its_tree xs short st p) q → ⊥
  no_clash j q x = j.no_conflict x.0 (word_conflict x.0 x.1)

  pub told : (i : ℕ) → Least ws (Conflicting ws) i → (c : Clash) → Answered ws i c → ToldOf (tree_grammar (its_tree xs short st p)) i c
  told i l c a = told_same (word_sets xs short st p) i c (told_of ws i l.holds c a)

  -- 11, and the weight
  pub weighable : Passed10 ws → Weighs (tree_grammar (its_tree xs short st p)) (λ c i. weight_at ws i)
  weighable j = ((word_sets xs short st p).weighs_iff (λ c i. weight_at ws i)).0 (weights_of ws j)

  pub heavy : Passed10 ws → Weighing ws (λ n. max_weight < n) → TooHeavy (its_tree xs short st p) (named_at (rule_words st) 0)
  heavy j w = (λ c i. weight_at ws i, weighable j, w (λ c i. weight_at ws i) (weights_of ws j), start_is xs short st p)

  pub not_heavy : Light ws → (q : ℕ) → TooHeavy (its_tree xs short st p) q → ⊥
  not_heavy l q x = omega (arith, x.2, l x.0 (((word_sets xs short st p).weighs_iff x.0).1 x.1))

  pub light : (n : ℕ) → Passes xs st n → Light ws
  light n j w e = omega (arith, j.weighs w e, j.limited)

  pub weight_is : (n : ℕ) → Passes xs st n → Weight n (its_tree xs short st p)
  weight_is n j = (λ c i. weight_at ws i, weighable j.judged, j.weighs (λ c i. weight_at ws i) (weights_of ws j.judged))

  -- 12
  pub not_reached : (k : ℕ) → FirstUnreached ws k → Unreached (its_tree xs short st p) (named_at (rule_words st) k)
  not_reached k u = at_twelve xs short st (formed xs short st p) (no_5 xs short st p) (no_6 xs short st p) k u

  pub all_reached : AllReached ws → (q : ℕ) → Unreached (its_tree xs short st p) q → ⊥
  all_reached a q x = twelve xs short st (formed xs short st p) (no_5 xs short st p) (no_6 xs short st p) a q x.unreached

  -- 13
  pub no_value : (i : ℕ) → Least ws (Valueless ws) i → NoValues (its_tree xs short st p) (place_of (node_words st) i)
  no_value i l =
      (i, tree_valueless xs short st p i l.holds, λ j b c. l.before j b (word_valueless xs short st p j c), place_there xs short st p i (valueless_there xs short st p i l.holds))

  pub all_valued : None (Valueless ws) → (q : ℕ) → NoValues (its_tree xs short st p) q → ⊥
  all_valued none q x = none x.0 (word_valueless xs short st p x.0 x.1)
