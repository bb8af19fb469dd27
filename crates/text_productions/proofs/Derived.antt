-- A right text is made by productions: the parts that wait, terminal by terminal, are those that the rules are made of.
-- Assumes nothing.
use Prim.Native.Nat.{ℕ, zero, suc, ◌≤◌}
use mathlib.Core.Path.{◌≡◌, refl, subst}
use mathlib.Core.Bool.{Bool, true, false, ◌&&◌}
use mathlib.Core.List.{List, [], ◌∷◌}
use native.Mathlib.Omega.{arith}
use borrow.Author.Tests.{ltb-true}
use lib.Dec.{ltb, eqb}
use lib.ListN.{length}
use Rattle.basis.specs.Limits.{max_nesting}
use Rattle.basis.proofs.Booleans.{both_first, picked}
use Rattle.text_header.proofs.Tests.{choice}
use Rattle.text_parsing.specs.Terminals.{is, is_name, begins, terminal_of, terminals, terminals_from}
use Rattle.text_store.specs.Store.{State, nodes_of, terms_of, insert}
use Rattle.text_parsing.specs.Symbols.{Symbol, want, sign, paren, primary, operand, factors, summands, calculation, item, item_tail, bound, exception, excluded, alternative, alternatives, value_set, counts, counts_tail, test, comparison, condition, joined, chain, atom, factor, concatenation, expression, marked, counts_end, members, branches, character_tail, last_character, width, field_set, bound_name, field_end, colon, case_end, cases, switch_end, rules, rule_end}
use Rattle.text_parsing.specs.Form.{Consumed, go, done, fault, primary_begins, operand_begins, sum_tag, calculation_begins, item_begins, test_begins, comparison_tag, atom_begins, mark_of, consume, right, refused, run}
use Rattle.text_parsing.specs.declared.Terminal.{Terminal}
use Rattle.text_productions.specs.Phrases.{Seen, terminal, signed, opened, number, variable, negated, plain, no_factor, times, no_summand, plus, minus, sum, open_item, value_item, to_bound, alone, some_bound, no_bound, no_exception, except, except_set, except_item, set_alternative, no_alternative, or_alternative, set, counts_to, counts_from, counts_exact, counts_range, test_group, test_compare, compare, tests, one_test, all_of, any_of, no_link, link, literal_atom, character_atom, field_atom, eod_atom, use_atom, group_atom, switch_atom, an_item, one_member, one_branch, no_mark, a_mark, counted_mark, counted, and_member, last_member, or_branch, last_branch, to_character, one_character, range, field_width, binding, not_binding, binder, field, a_case, case_done, no_default, default, further_case, switched, no_rule, a_rule, ruled, Phrases, nothing, then}
use Rattle.text_productions.proofs.Parts.{Ground, Leads, goes, ends, faults, taken, made, by_test}

-- the tags of signs
sum_tags : (P : ℕ → Type 0) (code : ℕ) → P 3 → P 4 → P 0 → P (sum_tag code)
sum_tags P code a b c = picked P (eqb code 43) (λ e. a) (λ e. picked P (eqb code 45) (λ z. b) (λ z. c))

-- within low and high, or none
abbrev Tag : ℕ → ℕ → ℕ → Type 0
Tag low high n = (n ≤ high) × (eqb n 0 ≡ false → low ≤ n)

no_tag : (low high : ℕ) → Tag low high 0
no_tag low high = (omega arith, λ e. let w : ◌≡◌ {A = ℕ} 0 1 = cc in absurd (omega arith))

comparison_tags : (code : ℕ) → Tag 14 19 (comparison_tag code)
comparison_tags code =
    picked T (eqb code 61) (λ e. omega arith)
    (λ e₁. picked T (eqb code 161) (λ e. omega arith)
    (λ e₂. picked T (eqb code 60) (λ e. omega arith)
    (λ e₃. picked T (eqb code 188) (λ e. omega arith)
    (λ e₄. picked T (eqb code 62) (λ e. omega arith)
    (λ e₅. picked T (eqb code 190) (λ e. omega arith) (λ e₆. no_tag 14 19))))))
  where
    T : ℕ → Type 0
    T = Tag 14 19

marks : (code : ℕ) → Tag 1 3 (mark_of code)
marks code =
    picked T (eqb code 63) (λ e. omega arith)
    (λ e₁. picked T (eqb code 42) (λ e. omega arith)
    (λ e₂. picked T (eqb code 43) (λ e. omega arith) (λ e₃. no_tag 1 3)))
  where
    T : ℕ → Type 0
    T = Tag 1 3

-- the last rule: nothing waits below
last_rule : {xs : List ℕ} {st : State} (any : Bool) → any ≡ true → (ks : List Symbol) → ks ≡ [] → Phrases xs (rules any ∷ ks) st st
last_rule {xs} {st} any e ks g = rw (e, g) (then no_rule nothing nothing)

module _ {xs : List ℕ} (s : Terminal) (v : Seen xs s) where
  primary_leads : (o : ℕ) (st : State) (ks : List Symbol) → Leads xs st (primary o ∷ ks) (primary_begins o s st ks)
  unfolding primary_begins
  primary_leads o st ks =
      by_test (is 2 s) (λ e. made (number v e refl) (λ g. g) taken)
      (λ e. by_test (is_name s) (λ n. made (variable v n refl) (λ g. g) taken) (λ n. faults))

  operand_leads : (o : ℕ) (st : State) (ks : List Symbol) → Leads xs st (operand o ∷ ks) (operand_begins o s st ks)
  unfolding operand_begins
  operand_leads o st ks =
      by_test (is 45 s) (λ e. made negated (λ g. g) taken) (λ e. made plain (λ g. g) (primary_leads o st ks))

  calculation_leads : (st : State) (ks : List Symbol) → Leads xs st (calculation ∷ ks) (calculation_begins s st ks)
  calculation_leads st ks = made sum (λ g. g) (operand_leads s.start st (factors s.start ∷ summands s.start ∷ ks))

  item_leads : (st : State) (ks : List Symbol) → Leads xs st (item ∷ ks) (item_begins s st ks)
  unfolding item_begins
  item_leads st ks =
      by_test (is 126 s) (λ e. made open_item (λ g. g) taken) (λ e. made value_item (λ g. g) (calculation_leads st (item_tail ∷ ks)))

  set_leads : (d : ℕ) (st : State) (ks : List Symbol) → Leads xs st (value_set d ∷ ks) (item_begins s st (exception d ∷ alternatives d ∷ ks))
  set_leads d st ks = made set (λ g. g) (item_leads st (exception d ∷ alternatives d ∷ ks))

  test_leads : (d : ℕ) (st : State) (ks : List Symbol) → Leads xs st (test d ∷ ks) (test_begins d s st ks)
  unfolding test_begins
  test_leads d st ks =
      by_test (is 40 s) (λ e. picked (Leads xs st (test d ∷ ks)) (ltb d max_nesting) (λ l. made (test_group (ltb-true d max_nesting l) refl) (λ g. g) taken) (λ l. faults))
      (λ e. made test_compare (λ g. g) (calculation_leads st (comparison ∷ ks)))

  condition_leads : (d : ℕ) (st : State) (ks : List Symbol) → Leads xs st (condition d ∷ ks) (test_begins d s st (joined d ∷ ks))
  condition_leads d st ks = made tests (λ g. g) (test_leads d st (joined d ∷ ks))

  atom_leads : (d : ℕ) (st : State) (ks : List Symbol) → Leads xs st (atom d ∷ ks) (atom_begins d s st ks)
  unfolding atom_begins
  atom_leads d st ks =
      picked P (is 3 s) (λ e. made (literal_atom v e refl) (λ g. g) taken)
      (λ e₁. picked P (is 9 s) (λ e. made (character_atom v e refl) (λ g. g) taken)
      (λ e₂. picked P (is 6 s) (λ e. made (field_atom refl) (λ g. g) taken)
      (λ e₃. picked P (is 7 s) (λ e. made (eod_atom s.start refl) (λ g. g) taken)
      (λ e₄. picked P (is_name s) (λ e. made (use_atom v e refl) (λ g. g) taken)
      (λ e₅. picked P (is 40 s) (λ e. picked P (ltb d max_nesting) (λ l. made (group_atom (ltb-true d max_nesting l) refl) (λ g. g) taken) (λ l. faults))
      (λ e₆. picked P (is 91 s) (λ e. picked P (ltb d max_nesting) (λ l. made (switch_atom (ltb-true d max_nesting l) refl refl refl) (λ g. g) taken) (λ l. faults))
      (λ e₇. faults)))))))
    where
      P : Consumed → Type 0
      P = Leads xs st (atom d ∷ ks)

  factor_leads : (d : ℕ) (st : State) (ks : List Symbol) → Leads xs st (factor d ∷ ks) (atom_begins d s st (marked s.start (nodes_of st) ∷ ks))
  factor_leads d st ks = made (an_item refl) (λ g. g) (atom_leads d st (marked s.start (nodes_of st) ∷ ks))

  concatenation_leads : (d : ℕ) (st : State) (ks : List Symbol) → Leads xs st (concatenation d ∷ ks) (atom_begins d s st (marked s.start (nodes_of st) ∷ members d s.start (nodes_of st) false ∷ ks))
  concatenation_leads d st ks = made (one_member refl) (λ g. g) (factor_leads d st (members d s.start (nodes_of st) false ∷ ks))

  -- signs that have tags
  summand_leads : (o : ℕ) (st : State) (ks : List Symbol) → Leads xs st ks (consume s st ks) → Leads xs st (summands o ∷ ks) (consume s st (summands o ∷ ks))
  unfolding consume
  summand_leads o st ks h =
      sum_tags (λ (n : ℕ). Leads xs st (summands o ∷ ks) (elim (eqb n 0) [ true ↦ consume s st ks | false ↦ go st (operand o ∷ factors o ∷ sign n s.start o ∷ summands o ∷ ks) ]))
      s.code (made plus (λ g. g) taken) (made minus (λ g. g) taken) (made no_summand (λ g. g) h)

  comparison_leads : (st : State) (ks : List Symbol) → Leads xs st (comparison ∷ ks) (consume s st (comparison ∷ ks))
  unfolding consume
  comparison_leads st ks =
      by_test (eqb (comparison_tag s.code) 0) (λ e. faults)
      (λ e. made (compare ((comparison_tags s.code).1 e) (comparison_tags s.code).0) (λ g. g) taken)

  mark_leads : (p i : ℕ) (st : State) (ks : List Symbol) → Leads xs st ks (consume s st ks) → Leads xs st (marked p i ∷ ks) (elim (eqb (mark_of s.code) 0) [ true ↦ consume s st ks | false ↦ go (insert 3 p i (mark_of s.code) s.start 0 0 0 st) ks ])
  mark_leads p i st ks h =
      by_test (eqb (mark_of s.code) 0) (λ e. made no_mark (λ g. g) h)
      (λ e. made (a_mark (mark_of s.code) s.start ((marks s.code).1 e) (marks s.code).0 refl) (λ g. g) taken)

  consumed : (ks : List Symbol) (st : State) → Leads xs st ks (consume s st ks)
  unfolding consume
  consumed [] st = faults
  consumed (want k ∷ ks) st = by_test (is k s) (λ e. made terminal (λ g. g) taken) (λ e. faults)
  consumed (sign tag p o ∷ ks) st = made (signed refl) (λ g. g) (consumed ks _)
  consumed (paren d ∷ ks) st = by_test (ltb d max_nesting) (λ l. by_test (is 40 s) (λ e. made (opened (ltb-true d max_nesting l)) (λ g. g) taken) (λ e. faults)) (λ l. faults)
  -- calculations
  consumed (primary o ∷ ks) st = primary_leads o st ks
  consumed (operand o ∷ ks) st = operand_leads o st ks
  consumed (factors o ∷ ks) st = by_test (is 42 s) (λ e. made times (λ g. g) taken) (λ e. made no_factor (λ g. g) (consumed ks st))
  consumed (summands o ∷ ks) st = summand_leads o st ks (consumed ks st)
  consumed (calculation ∷ ks) st = calculation_leads st ks
  -- sets
  consumed (item ∷ ks) st = item_leads st ks
  consumed (item_tail ∷ ks) st = by_test (is 126 s) (λ e. made to_bound (λ g. g) taken) (λ e. made (alone refl) (λ g. g) (consumed ks _))
  consumed (bound some none p ∷ ks) st = by_test (begins s) (λ e. made some_bound (λ g. g) (calculation_leads st (sign some p 0 ∷ ks))) (λ e. made (no_bound refl) (λ g. g) (consumed ks _))
  consumed (exception d ∷ ks) st = by_test (is 33 s) (λ e. made except (λ g. g) taken) (λ e. made no_exception (λ g. g) (consumed ks st))
  consumed (excluded d ∷ ks) st = by_test (is 40 s) (λ e. picked (Leads xs st (excluded d ∷ ks)) (ltb d max_nesting) (λ l. made (except_set (ltb-true d max_nesting l) refl) (λ g. g) taken) (λ l. faults)) (λ e. made except_item (λ g. g) (item_leads st ks))
  consumed (alternative d ∷ ks) st = made set_alternative (λ g. g) (item_leads st (exception d ∷ ks))
  consumed (alternatives d ∷ ks) st = by_test (is 124 s) (λ e. made or_alternative (λ g. g) taken) (λ e. made no_alternative (λ g. g) (consumed ks st))
  consumed (value_set d ∷ ks) st = set_leads d st ks
  -- counts
  consumed (counts ∷ ks) st = by_test (is 126 s) (λ e. made counts_to (λ g. g) taken) (λ e. made counts_from (λ g. g) (calculation_leads st (counts_tail ∷ ks)))
  consumed (counts_tail ∷ ks) st = by_test (is 126 s) (λ e. made counts_range (λ g. g) taken) (λ e. made counts_exact (λ g. g) (consumed ks st))
  -- conditions
  consumed (test d ∷ ks) st = test_leads d st ks
  consumed (comparison ∷ ks) st = comparison_leads st ks
  consumed (condition d ∷ ks) st = condition_leads d st ks
  consumed (joined d ∷ ks) st = by_test (is 38 s) (λ e. made all_of (λ g. g) taken) (λ e. by_test (is 124 s) (λ n. made any_of (λ g. g) taken) (λ n. made one_test (λ g. g) (consumed ks st)))
  consumed (chain k tag d ∷ ks) st = by_test (is k s) (λ e. made link (λ g. g) taken) (λ e. made no_link (λ g. g) (consumed ks st))
  -- expressions
  consumed (atom d ∷ ks) st = atom_leads d st ks
  consumed (factor d ∷ ks) st = factor_leads d st ks
  consumed (concatenation d ∷ ks) st = concatenation_leads d st ks
  consumed (expression d ∷ ks) st = made (one_branch refl) (λ g. g) (concatenation_leads d st (branches d s.start (nodes_of st) false ∷ ks))
  consumed (marked p i ∷ ks) st = by_test (is 123 s) (λ e. made (counted_mark refl) (λ g. g) taken) (λ e. mark_leads p i st ks (consumed ks st))
  consumed (counts_end p i mark f ∷ ks) st = by_test (is 125 s) (λ e. made (counted refl) (λ g. g) taken) (λ e. faults)
  consumed (members d p i many ∷ ks) st = by_test (is 38 s) (λ e. made and_member (λ g. g) taken) (λ e. made (last_member refl) (λ g. g) (consumed ks _))
  consumed (branches d p i many ∷ ks) st = by_test (is 124 s) (λ e. made or_branch (λ g. g) taken) (λ e. made (last_branch refl) (λ g. g) (consumed ks _))
  -- ranges of characters
  consumed (character_tail p ∷ ks) st = by_test (is 126 s) (λ e. made to_character (λ g. g) taken) (λ e. made (one_character refl) (λ g. g) (consumed ks _))
  consumed (last_character p ∷ ks) st = by_test (is 9 s) (λ e. made (range v e refl) (λ g. g) taken) (λ e. faults)
  -- uint
  consumed (width d p ∷ ks) st = by_test (is 2 s) (λ e. made (field_width v e refl) (λ g. g) taken) (λ e. faults)
  consumed (field_set d p w ∷ ks) st = by_test (is 8 s) (λ e. made (binding refl) (λ g. g) taken) (λ e. made (not_binding refl) (λ g. g) (set_leads d st (field_end p w 0 0 (terms_of st) ∷ ks)))
  consumed (bound_name d p w ∷ ks) st = by_test (is_name s) (λ e. made (binder v e refl refl refl refl) (λ g. g) taken) (λ e. faults)
  consumed (field_end p w q how f ∷ ks) st = by_test (is 41 s) (λ e. made (field refl) (λ g. g) taken) (λ e. faults)
  -- switches
  consumed (colon d f ∷ ks) st = by_test (is 58 s) (λ e. made (a_case refl refl) (λ g. g) taken) (λ e. faults)
  consumed (case_end i f end ∷ ks) st = by_test (is 59 s) (λ e. made (case_done refl) (λ g. g) taken) (λ e. faults)
  consumed (cases d p i ∷ ks) st = by_test (is 93 s) (λ e. made (no_default refl) (λ g. g) taken) (λ e. by_test (is 58 s) (λ n. made default (λ g. g) taken) (λ n. made (further_case refl) (λ g. g) (condition_leads d st (colon d (terms_of st) ∷ cases d p i ∷ ks))))
  consumed (switch_end p i ∷ ks) st = by_test (is 93 s) (λ e. made (switched refl) (λ g. g) taken) (λ e. faults)
  -- rules
  consumed (rules any ∷ ks) st = by_test (is_name s) (λ e. made (a_rule v e refl refl) (λ g. g) taken) (λ e. by_test (any && is 5 s) (λ n. ends (λ g. last_rule any (both_first any (is 5 s) n) ks g)) (λ n. faults))
  consumed (rule_end p i ∷ ks) st = by_test (is 59 s) (λ e. made (ruled refl) (λ g. g) taken) (λ e. faults)

-- ---- all terminals

module _ (xs : List ℕ) (f : State) where
  -- what is shown of the terminals that are left
  abbrev Reads : List Terminal → Type 0
  Reads ss = (st : State) (ks : List Symbol) → Ground ks → run ss st ks ≡ right f → Phrases xs ks st f

  one_more : (s : Terminal) (ss : List Terminal) → Seen xs s → Reads ss → Reads (s ∷ ss)
  unfolding run
  one_more s ss v h st ks g e = by (consumed s v ks st) e
    where
      by : {r : Consumed} → Leads xs st ks r → elim r [ go st' ks' ↦ run ss st' ks' | done st' ↦ right st' | fault ↦ refused s.start ] ≡ right f → Phrases xs ks st f
      by (goes {st'} {ks'} p u) z = p f (h st' ks' (u g) z)
      by (ends {st'} p) z = let w : st' ≡ f = cc in subst (Phrases xs ks st) w (p g)
      by faults z = let w : ◌≡◌ {A = ℕ} 0 1 = cc in absurd (omega arith)

  none_left : Reads []
  unfolding run
  none_left st ks g e = let w : ◌≡◌ {A = ℕ} 0 1 = cc in absurd (omega arith)

  read_all : (n at : ℕ) → Reads (terminals n xs at)
  unfolding terminals
  read_all zero at = none_left
  read_all (suc n) at = one_more (terminal_of xs at) _ (record { at = at; seen = refl }) (choice Reads (eqb (terminal_of xs at).code 5) none_left (read_all n (terminal_of xs at).end))

pub derived : (xs : List ℕ) (st f : State) → run (terminals_from xs 0) st (rules false ∷ []) ≡ right f → Phrases xs (rules false ∷ []) st f
derived xs st f e = read_all xs f (suc (length xs)) 0 st (rules false ∷ []) refl e
