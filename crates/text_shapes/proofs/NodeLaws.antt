-- The words of a right text within the limits are rules made of trees.
-- Assumes nothing.
use Prim.Native.Nat.{ℕ, ◌≤◌}
use mathlib.Core.Path.{◌≡◌, refl, ◌∙◌}
use mathlib.Core.Logic.{inl, inr}
use mathlib.Core.Bool.{false}
use mathlib.Core.List.{List, [], ◌∷◌}
use native.Mathlib.Omega.{arith}
use lib.ListN.{length, replicate, length-replicate}
use Rattle.text_store.specs.Words.{nodes_room, terms_room, rules_room}
use Rattle.basis.specs.Limits.{max_rules, max_constructs, max_variables, max_terms}
use Rattle.text_parsing.specs.Symbols.{Symbol, rules}
use Rattle.text_store.specs.Store.{State, state, blank}
use Rattle.text_productions.specs.Phrases.{Production, terminal, signed, opened as opens, number, variable, negated, plain, no_factor, times, no_summand, plus, minus, sum, open_item, value_item, to_bound, alone, some_bound, no_bound, no_exception, except, except_set, except_item, set_alternative, no_alternative, or_alternative, set, counts_to, counts_from, counts_exact, counts_range, test_group, test_compare, compare, tests, one_test, all_of, any_of, no_link, link, literal_atom, character_atom, field_atom, eod_atom, use_atom, group_atom, switch_atom, an_item, one_member, one_branch, no_mark, a_mark, counted_mark, counted as counted-end, and_member, last_member, or_branch, last_branch, to_character, one_character, range, field_width, binding, not_binding, binder, field, a_case, case_done, no_default, default, further_case, switched, no_rule, a_rule as a-rule-made, ruled, Phrases, nothing, then}
use Rattle.text_shapes.specs.NodeShapes.{Rules}
use Rattle.text_shapes.proofs.Growth.{Grows, production_grows, phrases_grow, Fine, fine_between}
use Rattle.text_shapes.proofs.Claims.{TermFacts, still, opened, Claim, Reads, end, next}
use Rattle.text_shapes.proofs.Atoms.{literal_made, use_made, eod_made, character_made, range_made, character_claim, to_character_claim, group_claim, field_atom_claim, width_claim, binding_claim, not_binding_claim, binder_claim}
use Rattle.text_shapes.proofs.Chains.{gives_same, mark_made, counts_claim, item_claim, chain_begins, chain_goes, chain_ends}
use Rattle.text_shapes.proofs.Switches.{colon_claim, no_default_claim, default_claim, further_claim, switch_claim}
use Rattle.text_shapes.proofs.RuleLaws.{no_rule_claim, rule_claim}

module _ {xs : List ℕ} (facts : TermFacts xs) where
  -- each production makes its symbol's claim of those of its parts
  produced : {k : Symbol} {a b c : State} {qs : List Symbol} → Production xs k a b qs → Phrases xs (k ∷ []) a c → Fine a → Fine c → Reads xs qs b c → Claim xs k a c
  produced terminal u f g end = still
  produced (signed e) u f g r = tt
  produced (opens x0) u f g end = opened x0
  produced (number x0 x1 e) u f g r = tt
  produced (variable x0 x1 e) u f g r = tt
  produced negated u f g r = tt
  produced plain u f g r = tt
  produced no_factor u f g r = tt
  produced times u f g r = tt
  produced no_summand u f g r = tt
  produced plus u f g r = tt
  produced minus u f g r = tt
  produced sum u f g r = tt
  produced open_item u f g r = tt
  produced value_item u f g r = tt
  produced to_bound u f g r = tt
  produced (alone e) u f g r = tt
  produced some_bound u f g r = tt
  produced (no_bound e) u f g r = tt
  produced no_exception u f g r = tt
  produced except u f g r = tt
  produced (except_set x0 x1) u f g r = tt
  produced except_item u f g r = tt
  produced set_alternative u f g r = tt
  produced no_alternative u f g r = tt
  produced or_alternative u f g r = tt
  produced set u f g r = u
  produced counts_to u f g r = u
  produced counts_from u f g r = u
  produced counts_exact u f g r = tt
  produced counts_range u f g r = tt
  produced (test_group x0 x1) u f g r = tt
  produced test_compare u f g r = tt
  produced (compare x0 x1) u f g r = tt
  produced tests u f g r = u
  produced one_test u f g r = tt
  produced all_of u f g r = tt
  produced any_of u f g r = tt
  produced no_link u f g r = tt
  produced link u f g r = tt
  produced (literal_atom x0 x1 e) u f g end = λ h. literal_made f g x0 x1 e
  produced (character_atom x0 x1 x2) u f g r = λ h. character_claim x0 x1 x2 r
  produced (field_atom x0) u f g r = λ h. field_atom_claim x0 r
  produced (eod_atom p e) u f g end = λ h. eod_made f g p e
  produced (use_atom x0 x1 e) u f g end = λ h. use_made f g x0 x1 e
  produced (group_atom x0 x1) u f g r = λ h. group_claim x0 x1 r
  produced (switch_atom x0 x1 x2 x3) u f g r = λ h. switch_claim facts f x0 x1 x2 x3 r
  produced (an_item x0) u f g r = item_claim x0 r
  produced (one_member x0) u f g (next x fx (next y fy end)) = chain_begins x0 x y
  produced (one_branch x0) u f g (next x fx (next y fy end)) = chain_begins x0 x y
  produced no_mark u f g end = λ m v t w. gives_same t w
  produced (a_mark {p = p} how mark x0 x1 e) u f g end = λ m v t w. mark_made facts.same f g p how mark x0 x1 e t w
  produced (counted_mark x0) u f g r = counts_claim facts f x0 r
  produced (counted-end e) u f g end = e
  produced (and_member {many = many}) u f g (next x fx (next y fy end)) = chain_goes many facts.same x y
  produced (last_member {p = p} {many = many} e) u f g end = chain_ends many 2 p (inr refl) facts.same f g e
  produced (or_branch {many = many}) u f g (next x fx (next y fy end)) = chain_goes many facts.same x y
  produced (last_branch {p = p} {many = many} e) u f g end = chain_ends many 1 p (inl refl) facts.same f g e
  produced to_character u f g r = to_character_claim r
  produced (one_character e) u f g end = λ h. character_made f g h e
  produced (range x0 x1 e) u f g end = λ h. range_made f g x0 x1 h e
  produced (field_width x0 x1 x2) u f g r = width_claim x0 x1 x2 r
  produced (binding x0) u f g r = λ h. binding_claim x0 r
  produced (not_binding x0) u f g r = not_binding_claim facts f x0 r
  produced (binder x0 x1 e x3 x4 x5) u f g r = binder_claim facts f x0 x1 e x3 x4 x5 r
  produced (field e) u f g end = e
  produced (a_case x0 x1) u f g r = colon_claim facts.same x0 x1 r
  produced (case_done e) u f g end = e
  produced (no_default {p = p} e) u f g end = λ h. no_default_claim p facts.same f e g
  produced default u f g r = default_claim facts.same r
  produced (further_case x0) u f g r = further_claim facts f x0 r
  produced (switched e) u f g end = e
  produced no_rule u f g end = no_rule_claim
  produced (a-rule-made x0 x1 x2 x3) u f g r = rule_claim facts.same x0 x1 x2 x3 r
  produced (ruled e) u f g end = e

  reads : {ks : List Symbol} {a d : State} → Phrases xs ks a d → Fine a → Fine d → Reads xs ks a d
  reads nothing f g = end
  reads (then {c = c} p u v) f g =
      let h : Fine c = fine_between f (phrases_grow (then p u nothing)) (phrases_grow v) g
      in next (produced p (then p u nothing) f h (reads u (fine_between f (production_grows p) (phrases_grow u) h) h)) h (reads v h g)

zeros : (n : ℕ) → length (replicate {A = ℕ} n 0) ≡ n
zeros n = length-replicate {A = ℕ} n 0

blank_fine : Fine blank
blank_fine =
    record {
      nodes = omega arith;
      terms = omega arith;
      binders = omega arith;
      rules = omega arith;
      node_length = zeros nodes_room;
      term_length = zeros terms_room;
      rule_length = zeros rules_room;
    }

pub shape_of : (xs : List ℕ) → TermFacts xs → (ns ts rs : List ℕ) (n t b r : ℕ) → Phrases xs (rules false ∷ []) blank (state ns ts rs n t b r) → n ≤ max_constructs → t ≤ max_terms → b ≤ max_variables → r ≤ max_rules → Rules xs ns ts rs r n t b 0 0 0 0 × (1 ≤ r)
shape_of xs facts ns ts rs n t b r p h i j k = from (reads facts p blank_fine fine)
  where
    grows : Grows blank (state ns ts rs n t b r)
    grows = phrases_grow p

    fine : Fine (state ns ts rs n t b r)
    fine = record { nodes = h; terms = i; binders = j; rules = k; node_length = grows.node_length ∙ zeros nodes_room; term_length = grows.term_length ∙ zeros terms_room; rule_length = grows.rule_length ∙ zeros rules_room }

    from : Reads xs (rules false ∷ []) blank (state ns ts rs n t b r) → Rules xs ns ts rs r n t b 0 0 0 0 × (1 ≤ r)
    from (next x f end) = (x.rules, x.some refl)
