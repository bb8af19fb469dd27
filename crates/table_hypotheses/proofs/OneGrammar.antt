-- "each admitted grammar has one table": sound tables that hold the same grammar are equal.
-- Assumes nothing.
use Prim.Native.Nat.{ℕ, ◌+◌, ◌*◌, ◌-◌, ◌/◌, ◌%◌, ◌^◌, ◌≤◌, ◌<◌}
use native.Mathlib.Nat.{mul-le-mul_left}
use mathlib.Core.Path.{◌≡◌, refl, sym, subst, ap, ◌∙◌}
use mathlib.Core.Bool.{Bool, true, ◌&&◌}
use mathlib.Core.List.{List}
use native.Mathlib.Omega.{arith}
use native.Mathlib.Decide.{dec_lt, ℕ_discrete}
use borrow.Author.Tests.{eqb-true}
use lib.Dec.{eqb}
use lib.ListN.{get_or}
use Rattle.basis.proofs.Booleans.{both_first, both_second}
use Rattle.table_layout.specs.Places.{word, table_words, rules_at, variables_at, constructs_at, terms_at, literals_at, sets_at, rule_count, construct_count, variable_count, term_count, rule_word, variable_word, construct_word}
use Rattle.table_layout.specs.Constructs.{construct_at}
use Rattle.table_layout.specs.declared.Construct.{Construct}
use Rattle.table_wellformed.specs.Checks.{all_zero}
use Rattle.table_wellformed.specs.Rules.{sign_word}
use Rattle.table_structure.proofs.Facts.{Laid, each, lt_of_ne}
use Rattle.table_structure.proofs.RuleLaws.{rule_fact}
use Rattle.table_structure.proofs.NodeFacts.{missing_past}
use Rattle.table_structure.proofs.Binding.{Bound, members_of, variable_of, bound_in}
use Rattle.table_judge.specs.Sound.{Sound}
use Rattle.table_hypotheses.specs.OneTable.{Alike, SameGrammar, OneTable}
use Rattle.table_hypotheses.proofs.Hypothesis.{laid_of_sound}
use Rattle.table_hypotheses.proofs.SameSets.{alike_equal}
use Rattle.table_hypotheses.proofs.ConstructCodes.{code, one_of_six, coded}
use Rattle.table_hypotheses.proofs.TermCodes.{tag_of, low_of, high_of}
use Rattle.table_hypotheses.proofs.TermLists.{tag_said, low_said, high_said}
use Rattle.table_hypotheses.proofs.LiteralCodes.{same_literal}

-- ---- words that are 0

zero_at : (ws : List ℕ) (start end : ℕ) → all_zero ws start end ≡ true → (k : ℕ) → start ≤ k → k < end → word ws k ≡ 0
zero_at ws start end z k low high = eqb-true (word ws k) 0 (each (λ u. eqb (word ws u) 0) end start k z low high)

-- those past the counts
record Rest (ws : List ℕ) : Type 0 where
  rules : all_zero ws (rules_at + 4 * rule_count ws) variables_at ≡ true
  variables : all_zero ws (variables_at + 4 * variable_count ws) constructs_at ≡ true
  constructs : all_zero ws (constructs_at + 8 * construct_count ws) terms_at ≡ true
  terms : all_zero ws (terms_at + 3 * term_count ws) literals_at ≡ true
  literals : all_zero ws (literals_at + 8 * construct_count ws) sets_at ≡ true

rest_of : {ws : List ℕ} → Laid ws → Rest ws
rest_of {ws} l =
    let R : Bool = all_zero ws (rules_at + 4 * rule_count ws) variables_at in
    let X : Bool = all_zero ws (variables_at + 4 * variable_count ws) constructs_at in
    let C : Bool = all_zero ws (constructs_at + 8 * construct_count ws) terms_at in
    let T : Bool = all_zero ws (terms_at + 3 * term_count ws) literals_at in
    let Y : Bool = all_zero ws (literals_at + 8 * construct_count ws) sets_at in
    let S : Bool = all_zero ws (sets_at + 32 * construct_count ws) table_words in
    let front : (R && X) ≡ true = both_first (R && X) ((C && T) && (Y && S)) l.rest in
    let back : ((C && T) && (Y && S)) ≡ true = both_second (R && X) ((C && T) && (Y && S)) l.rest in
    let middle : (C && T) ≡ true = both_first (C && T) (Y && S) back in
    record {
      rules = both_first R X front;
      variables = both_second R X front;
      constructs = both_first C T middle;
      terms = both_second C T middle;
      literals = both_first Y S (both_second (C && T) (Y && S) back);
    }

-- a variable's last two words: its binder's sign, and none
bound_by : {ws : List ℕ} (l : Laid ws) (x : ℕ) (h : x < variable_count ws) → Bound ws (members_of ws (variable_of l x h).rule) x
bound_by l x h = let r = variable_of l x h in bound_in l r.rule x r.exists r.begins r.ends

variable_unused : {ws : List ℕ} → Laid ws → (x : ℕ) → x < variable_count ws → variable_word ws x 3 ≡ 0
variable_unused {ws} l x h = zero_at ws (variables_at + 4 * x + 3) (variables_at + 4 * x + 4) (bound_by l x h).unused (variables_at + 4 * x + 3) (omega arith) (omega arith)

-- ---- word by word

module _ {ws ws' : List ℕ} (s : Sound ws) (s' : Sound ws') (fits : (k : ℕ) → word ws k < 2 ^ 32) (fits' : (k : ℕ) → word ws' k < 2 ^ 32) (g : SameGrammar ws ws') where
  l : Laid ws
  l = laid_of_sound s

  l' : Laid ws'
  l' = laid_of_sound s'

  abbrev Same : ℕ → Type 0
  Same k = word ws k ≡ word ws' k

  -- an area of `count` elements of `width` words, and zeros after them
  area : (start width count count' end k e o : ℕ) → count ≡ count' → all_zero ws (start + width * count) end ≡ true → all_zero ws' (start + width * count') end ≡ true
      → (e < count → Same (start + width * e + o)) → start + width * e + o ≡ k → k < end → Same k
  area start width count count' end k e o n z z' there place high =
      elim (dec_lt e count) [
        | yes h ↦ subst Same place (there h)
        | no h ↦
            let m : width * count ≤ width * e = mul-le-mul_left width (let q : count ≤ e = omega arith in q) in
            let c : width * count ≡ width * count' = ap (λ (q : ℕ). width * q) n in
            zero_at ws (start + width * count) end z k (omega arith) high ∙ sym (zero_at ws' (start + width * count') end z' k (omega arith) high)
      ]

  header : (k : ℕ) → k < rules_at → (k ≡ 5 → ⊥) → Same k
  header k h apart =
      elim (dec_lt k 6) [
        | yes b ↦ one_of_six (λ n. (n ≡ 5 → ⊥) → Same n) (λ a. l.mark ∙ sym l'.mark) (λ a. g.rules) (λ a. g.constructs) (λ a. g.variables) (λ a. g.terms) (λ a. absurd (a refl)) k b apart
        | no b ↦ zero_at ws 6 rules_at l.header_rest k (omega arith) h ∙ sym (zero_at ws' 6 rules_at l'.header_rest k (omega arith) h)
      ]

  rule_word_same : (r : ℕ) → r < rule_count ws → (k : ℕ) → k < 6 → k < 4 → rule_word ws r k ≡ rule_word ws' r k
  rule_word_same r h =
      one_of_six (λ k. k < 4 → rule_word ws r k ≡ rule_word ws' r k) (λ b. (g.rule r h).0) (λ b. (g.rule r h).1) (λ b. (g.rule r h).2)
      (λ b. (rule_fact l r h).unused ∙ sym (rule_fact l' r (omega (arith, g.rules))).unused) (λ b. absurd (omega arith)) (λ b. absurd (omega arith))

  -- past the counts none of both has a construct
  each_construct : (i : ℕ) → construct_at ws i ≡ construct_at ws' i
  each_construct i =
      elim (dec_lt i (construct_count ws)) [
        | yes h ↦ g.construct i h
        | no h ↦ missing_past l i (omega arith) ∙ sym (missing_past l' i (omega (arith, g.constructs)))
      ]

  variable_word_same : (x : ℕ) → x < variable_count ws → (k : ℕ) → k < 6 → k < 4 → variable_word ws x k ≡ variable_word ws' x k
  variable_word_same x h =
      let h' : x < variable_count ws' = omega (arith, g.variables) in
      let signs : sign_word (construct_at ws (variable_word ws x 0)) ≡ sign_word (construct_at ws' (variable_word ws' x 0)) =
      ap sign_word (each_construct (variable_word ws x 0)) ∙ ap (λ (i : ℕ). sign_word (construct_at ws' i)) (g.variable x h).0 in
      one_of_six (λ k. k < 4 → variable_word ws x k ≡ variable_word ws' x k) (λ b. (g.variable x h).0) (λ b. (g.variable x h).1)
      (λ b. (bound_by l x h).sign ∙ signs ∙ sym (bound_by l' x h').sign) (λ b. variable_unused l x h ∙ sym (variable_unused l' x h')) (λ b. absurd (omega arith)) (λ b. absurd (omega arith))

  construct_word_same : (i : ℕ) → i < construct_count ws → (k : ℕ) → k < 8 → construct_word ws i k ≡ construct_word ws' i k
  construct_word_same i h k b =
      elim (dec_lt k 6) [
        | yes c ↦
            coded ws i (l.kind i h) k c ∙ ap (λ (x : Construct). get_or (code x) k 0) (g.construct i h)
            ∙ sym (coded ws' i (l'.kind i (omega (arith, g.constructs))) k c)
        | no c ↦
            elim (ℕ_discrete k 6) [
              | yes e ↦ rw e (g.condition i h).0
              | no e ↦ let f : k ≡ 7 = seventh k b (omega arith) e in rw f (g.condition i h).1
            ]
      ]
    where
      seventh : (k : ℕ) → k < 8 → 6 ≤ k → (k ≡ 6 → ⊥) → k ≡ 7
      seventh k b low apart = elim (ℕ_discrete k 7) [ yes e ↦ e | no e ↦ absurd (apart (omega (arith, lt_of_ne k 7 (omega arith) e))) ]

  term_word_same : (j : ℕ) → j < term_count ws → (k : ℕ) → k < 6 → k < 3 → Same (terms_at + 3 * j + k)
  term_word_same j h =
      let there : j < term_count ws' = omega (arith, g.terms) in
      let tag : Same (terms_at + 3 * j) = tag_said s fits j h ∙ ap tag_of (g.term j h) ∙ sym (tag_said s' fits' j there) in
      let first : terms_at + 3 * j ≡ terms_at + 3 * j + 0 = omega arith in
      one_of_six (λ k. k < 3 → Same (terms_at + 3 * j + k)) (λ b. subst Same first tag)
      (λ b. low_said s fits j h ∙ ap low_of (g.term j h) ∙ sym (low_said s' fits' j there)) (λ b. high_said s fits j h ∙ ap high_of (g.term j h) ∙ sym (high_said s' fits' j there))
      (λ b. absurd (omega arith)) (λ b. absurd (omega arith)) (λ b. absurd (omega arith))

  below_sets : (k : ℕ) → k < sets_at → (k ≡ 5 → ⊥) → Same k
  below_sets k h apart =
      let z = rest_of l in
      let z' = rest_of l' in
      elim (dec_lt k rules_at) [
        | yes b ↦ header k b apart
        | no a₁ ↦ elim (dec_lt k variables_at) [
          | yes b ↦
              let o : (k - rules_at) % 4 < 4 = omega arith in
              area rules_at 4 (rule_count ws) (rule_count ws') variables_at k ((k - rules_at) / 4) ((k - rules_at) % 4) g.rules z.rules z'.rules (λ e. rule_word_same ((k - rules_at) / 4) e ((k - rules_at) % 4) (omega arith) o) (omega arith) b
          | no a₂ ↦ elim (dec_lt k constructs_at) [
            | yes b ↦
                let o : (k - variables_at) % 4 < 4 = omega arith in
                area variables_at 4 (variable_count ws) (variable_count ws') constructs_at k ((k - variables_at) / 4) ((k - variables_at) % 4) g.variables z.variables z'.variables (λ e. variable_word_same ((k - variables_at) / 4) e ((k - variables_at) % 4) (omega arith) o) (omega arith) b
            | no a₃ ↦ elim (dec_lt k terms_at) [
              | yes b ↦ area constructs_at 8 (construct_count ws) (construct_count ws') terms_at k ((k - constructs_at) / 8) ((k - constructs_at) % 8) g.constructs z.constructs z'.constructs (λ e. construct_word_same ((k - constructs_at) / 8) e ((k - constructs_at) % 8) (omega arith)) (omega arith) b
              | no a₄ ↦ elim (dec_lt k literals_at) [
                | yes b ↦
                    let o : (k - terms_at) % 3 < 3 = omega arith in
                    area terms_at 3 (term_count ws) (term_count ws') literals_at k ((k - terms_at) / 3) ((k - terms_at) % 3) g.terms z.terms z'.terms (λ e. term_word_same ((k - terms_at) / 3) e ((k - terms_at) % 3) (omega arith) o) (omega arith) b
                | no a₅ ↦
                    let i : ℕ = (k - literals_at) / 8 in
                    let m : ℕ = (k - literals_at) % 8 in
                    area literals_at 8 (construct_count ws) (construct_count ws') sets_at k i m g.constructs z.literals z'.literals
                    (λ e. same_literal g l l' i e m (omega arith) (fits (literals_at + 8 * i + m)) (fits' (literals_at + 8 * i + m))) (omega arith) h
              ]
            ]
          ]
        ]
      ]

  pub same_alike : Alike ws ws'
  same_alike = record { long = omega (arith, l.long); long' = omega (arith, l'.long); same = below_sets }

pub one_table : OneTable
one_table ws ws' n n' fits fits' s s' g = alike_equal (same_alike s s' fits fits' g) s s' n n'
