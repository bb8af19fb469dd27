-- What each production does to what is read: one store at most. A term or node that is stored has the words of its kind, where a sign's tag is one
-- of a sign, and the symbols of a text's rules have no other.
-- Assumes nothing.
use Prim.Native.Nat.{ℕ, ◌^◌, ◌≤◌, ◌<◌}
use mathlib.Core.Path.{◌≡◌, refl, sym, subst}
use mathlib.Core.Logic.{inl}
use mathlib.Core.Bool.{Bool, true, false, ◌&&◌}
use mathlib.Core.List.{List, [], ◌∷◌}
use native.Mathlib.Omega.{arith}
use borrow.Author.Tests.{le-leb, ne_eqb}
use lib.Dec.{eqb}
use Rattle.basis.proofs.Booleans.{picked, both_first, both_second}
use Rattle.text_header.specs.Bytes.{within}
use Rattle.text_header.proofs.Tests.{within_low, within_high}
use Rattle.text_tokens.specs.Tokens.{token_of}
use Rattle.text_parsing.specs.Terminals.{code_of, seen, terminal_of}
use Rattle.text_parsing.specs.declared.Terminal.{Terminal}
use Rattle.text_parsing.specs.Symbols.{Symbol, want, sign, paren, primary, operand, factors, summands, calculation, item, item_tail, bound, exception, excluded, alternative, alternatives, value_set, counts, counts_tail, test, comparison, condition, joined, chain, atom, factor, concatenation, expression, marked, counts_end, members, branches, character_tail, last_character, width, field_set, bound_name, field_end, colon, case_end, cases, switch_end, rules, rule_end}
use Rattle.text_store.specs.Store.{State, nodes_of, terms_of, add, single, insert, condition_on, bind, close_rule}
use Rattle.text_parsing.specs.Form.{chained}
use Rattle.text_productions.specs.Phrases.{Seen, Production, terminal, signed, opened, number, variable, negated, plain, no_factor, times, no_summand, plus, minus, sum, open_item, value_item, to_bound, alone, some_bound, no_bound, no_exception, except, except_set, except_item, set_alternative, no_alternative, or_alternative, set, counts_to, counts_from, counts_exact, counts_range, test_group, test_compare, compare, tests, one_test, all_of, any_of, no_link, link, literal_atom, character_atom, field_atom, eod_atom, use_atom, group_atom, switch_atom, an_item, one_member, one_branch, no_mark, a_mark, counted_mark, counted as counted-end, and_member, last_member, or_branch, last_branch, to_character, one_character, range, field_width, binding, not_binding, binder, field, a_case, case_done, no_default, default, further_case, switched, no_rule, a_rule, ruled}
use Rattle.text_shapes.specs.Stored.{OwnList, of_field, of_counts, no_list, TermWords, a_number, a_use, a_sign}
use Rattle.text_store.proofs.StoreLaws.{ten}

-- ---- the signs' tags are within 3 to 31: so they are none of a number or a use, and neither with 32 more

abbrev pub fit : Symbol → Bool
fit (want k) = true
fit (sign tag p o) = within 3 tag 31
fit (paren d) = true
fit (primary o) = true
fit (operand o) = true
fit (factors o) = true
fit (summands o) = true
fit calculation = true
fit item = true
fit item_tail = true
fit (bound some none p) = within 3 some 31 && within 3 none 31
fit (exception d) = true
fit (excluded d) = true
fit (alternative d) = true
fit (alternatives d) = true
fit (value_set d) = true
fit counts = true
fit counts_tail = true
fit (test d) = true
fit comparison = true
fit (condition d) = true
fit (joined d) = true
fit (chain code tag d) = within 3 tag 31
fit (atom d) = true
fit (factor d) = true
fit (concatenation d) = true
fit (expression d) = true
fit (marked p i) = true
fit (counts_end p i mark f) = true
fit (members d p i many) = true
fit (branches d p i many) = true
fit (character_tail p) = true
fit (last_character p) = true
fit (width d p) = true
fit (field_set d p w) = true
fit (bound_name d p w) = true
fit (field_end p w name how f) = true
fit (colon d f) = true
fit (case_end i f end) = true
fit (cases d p i) = true
fit (switch_end p i) = true
fit (rules any) = true
fit (rule_end p i) = true

abbrev pub fits : List Symbol → Bool
fits [] = true
fits (k ∷ ks) = fit k && fits ks

sign_words : {xs : List ℕ} (tag p o : ℕ) → within 3 tag 31 ≡ true → TermWords xs (tag ∷ 0 ∷ p ∷ o ∷ []) 0
sign_words tag p o f =
    let l : 3 ≤ tag = within_low 3 tag 31 f in
    let h : tag ≤ 31 = within_high 3 tag 31 f in
    a_sign (rw (ne_eqb tag 2 (omega arith), ne_eqb tag 34 (omega arith))) (omega arith) refl

-- the value of a terminal is a number's, cut where it passes 2^62, or 0
abbrev Small : Terminal → Type 0
Small s = s.value < 2 ^ 63

value_small : (xs : List ℕ) (code start end : ℕ) → Small (seen xs code start end)
unfolding seen
value_small xs code start end =
    picked Small (eqb code 1) (λ z. omega arith)
    (λ z. picked Small (eqb code 2) (λ z. omega arith)
    (λ z. picked Small (eqb code 3) (λ z. omega arith) (λ z. omega arith)))

number_small : {xs : List ℕ} {s : Terminal} → Seen xs s → s.value < 2 ^ 63
unfolding terminal_of
number_small {xs} {s} h = subst Small (sym h.seen) (value_small xs (code_of (token_of xs h.at).kind) (token_of xs h.at).start (token_of xs h.at).end)

-- ---- stores

pub data Change (xs : List ℕ) (k : Symbol) (a b : State) : Type 0 where
  same : b ≡ a → Change xs k a b
  term : (tag value place origin : ℕ) → (fit k ≡ true → TermWords xs (tag ∷ value ∷ place ∷ origin ∷ []) 0) → b ≡ add tag value place origin a → Change xs k a b
  last_term : b ≡ single a → Change xs k a b
  node : (kind place i u v w x y : ℕ) → ((size : ℕ) → OwnList (ten kind size place u v w x y) 0) → b ≡ insert kind place i u v w x y a → Change xs k a b
  condition_of : (i from end : ℕ) → b ≡ condition_on i from end a → Change xs k a b
  binder_more : b ≡ bind a → Change xs k a b
  rule_more : (place first : ℕ) → b ≡ close_rule place first a → Change xs k a b

chain_change : {xs : List ℕ} {k : Symbol} {a b : State} (kind : ℕ) (many : Bool) (p i : ℕ) → b ≡ chained kind many p i a → Change xs k a b
chain_change kind true p i e = node kind p i 0 0 0 0 0 (λ size. no_list refl refl) e
chain_change kind false p i e = same e

-- what a production stores, and that its parts are fit
pub changed : {xs : List ℕ} {k : Symbol} {a b : State} {qs : List Symbol} → Production xs k a b qs → Change xs k a b × (fit k ≡ true → fits qs ≡ true)
changed terminal = (same refl, λ f. refl)
changed (signed {tag = g} {p = p} {o = o} e) = (term g 0 p o (λ f. sign_words g p o f) e, λ f. refl)
changed (opened x0) = (same refl, λ f. refl)
changed (number {o = o} {s = s} x0 x1 e) = (term 1 s.value s.start o (λ f. a_number (inl refl) (number_small x0)) e, λ f. refl)
changed (variable {o = o} {s = s} x0 x1 e) = (term 2 0 s.start o (λ f. a_use (inl refl) refl (record { terminal = s; seen = x0; name = x1; place = refl })) e, λ f. refl)
changed negated = (same refl, λ f. refl)
changed plain = (same refl, λ f. refl)
changed no_factor = (same refl, λ f. refl)
changed times = (same refl, λ f. refl)
changed no_summand = (same refl, λ f. refl)
changed plus = (same refl, λ f. refl)
changed minus = (same refl, λ f. refl)
changed sum = (same refl, λ f. refl)
changed open_item = (same refl, λ f. refl)
changed value_item = (same refl, λ f. refl)
changed to_bound = (same refl, λ f. refl)
changed (alone e) = (last_term e, λ f. refl)
changed (some_bound {some = g} {none = h}) = (same refl, λ f. rw (both_first (within 3 g 31) (within 3 h 31) f))
changed (no_bound {some = h} {none = g} {p = p} e) = (term g 0 p 0 (λ f. sign_words g p 0 (both_second (within 3 h 31) (within 3 g 31) f)) e, λ f. refl)
changed no_exception = (same refl, λ f. refl)
changed except = (same refl, λ f. refl)
changed (except_set x0 x1) = (same refl, λ f. refl)
changed except_item = (same refl, λ f. refl)
changed set_alternative = (same refl, λ f. refl)
changed no_alternative = (same refl, λ f. refl)
changed or_alternative = (same refl, λ f. refl)
changed set = (same refl, λ f. refl)
changed counts_to = (same refl, λ f. refl)
changed counts_from = (same refl, λ f. refl)
changed counts_exact = (same refl, λ f. refl)
changed counts_range = (same refl, λ f. refl)
changed (test_group x0 x1) = (same refl, λ f. refl)
changed test_compare = (same refl, λ f. refl)
changed (compare {tag = g} x0 x1) = (same refl, λ f. rw (le-leb 3 g (omega arith), le-leb g 31 (omega arith)))
changed tests = (same refl, λ f. refl)
changed one_test = (same refl, λ f. refl)
changed all_of = (same refl, λ f. refl)
changed any_of = (same refl, λ f. refl)
changed no_link = (same refl, λ f. refl)
changed link = (same refl, λ f. rw f)
changed (literal_atom {a = a} {s = s} x0 x1 e) = (node 6 s.start (nodes_of a) 0 0 0 0 0 (λ size. no_list refl refl) e, λ f. refl)
changed (character_atom x0 x1 x2) = (same refl, λ f. refl)
changed (field_atom x0) = (same refl, λ f. refl)
changed (eod_atom {a = a} p e) = (node 9 p (nodes_of a) 0 0 0 0 0 (λ size. no_list refl refl) e, λ f. refl)
changed (use_atom {a = a} {s = s} x0 x1 e) = (node 5 s.start (nodes_of a) 0 0 0 0 0 (λ size. no_list refl refl) e, λ f. refl)
changed (group_atom x0 x1) = (same refl, λ f. refl)
changed (switch_atom x0 x1 x2 x3) = (same refl, λ f. refl)
changed (an_item x0) = (same refl, λ f. refl)
changed (one_member x0) = (same refl, λ f. refl)
changed (one_branch x0) = (same refl, λ f. refl)
changed no_mark = (same refl, λ f. refl)
changed (a_mark {p = p} {i = i} how mark x0 x1 e) = (node 3 p i how mark 0 0 0 (λ size. no_list refl refl) e, λ f. refl)
changed (counted_mark x0) = (same refl, λ f. refl)
changed (counted-end {p = p} {i = i} {mark = mark} {f = f} {a = a} e) = (node 3 p i 4 mark f (terms_of a) 0 (λ size. of_counts refl refl) e, λ f. refl)
changed and_member = (same refl, λ f. refl)
changed (last_member {p = p} {i = i} {many = many} e) = (chain_change 2 many p i e, λ f. refl)
changed or_branch = (same refl, λ f. refl)
changed (last_branch {p = p} {i = i} {many = many} e) = (chain_change 1 many p i e, λ f. refl)
changed to_character = (same refl, λ f. refl)
changed (one_character {p = p} {a = a} e) = (node 6 p (nodes_of a) 0 0 0 0 0 (λ size. no_list refl refl) e, λ f. refl)
changed (range {p = p} {a = a} {s = s} x0 x1 e) = (node 7 p (nodes_of a) s.start 0 0 0 0 (λ size. no_list refl refl) e, λ f. refl)
changed (field_width x0 x1 x2) = (same refl, λ f. refl)
changed (binding x0) = (same refl, λ f. refl)
changed (not_binding x0) = (same refl, λ f. refl)
changed (binder x0 x1 e x3 x4 x5) = (binder_more e, λ f. refl)
changed (field {p = p} {w = w} {q = q} {how = how} {f = f} {a = a} e) = (node 8 p (nodes_of a) w q f (terms_of a) how (λ size. of_field refl) e, λ f. refl)
changed (a_case x0 x1) = (same refl, λ f. refl)
changed (case_done {i = i} {f = f} {e = k} e) = (condition_of i f k e, λ f. refl)
changed (no_default {p = p} {i = i} e) = (node 4 p i 0 0 0 0 0 (λ size. no_list refl refl) e, λ f. refl)
changed default = (same refl, λ f. refl)
changed (further_case x0) = (same refl, λ f. refl)
changed (switched {p = p} {i = i} e) = (node 4 p i 0 0 0 0 0 (λ size. no_list refl refl) e, λ f. refl)
changed no_rule = (same refl, λ f. refl)
changed (a_rule x0 x1 x2 x3) = (same refl, λ f. refl)
changed (ruled {p = p} {i = i} e) = (rule_more p i e, λ f. refl)
