-- The constructs of a text's tree have places that do not descend: "numbered from 0 in text order, the outer before the inner".
-- Assumes nothing.
use Prim.Native.Nat.{ℕ, suc, ◌+◌, ◌≤◌}
use mathlib.Core.Path.{◌≡◌, refl, subst}
use mathlib.Core.Bool.{Bool, true, false}
use mathlib.Core.List.{List, [], ◌∷◌, ◌++◌}
use native.Mathlib.Omega.{arith}
use lib.ListN.{length}
use Rattle.text_tokens.specs.declared.Kind.{Kind}
use Rattle.tree.specs.Lexemes.{Lexeme, sign, finish, place_of, lexemes}
use Rattle.tree.specs.Tree.{Primary, number, variable, Operand, plain, opposite, Factors, no_factor, times, Product, product, Summands, no_summand, plus, minus, Calculation, sum, Item, everything, only, between, from, up_to_bound, SetPart, Choices, item, item_but_item, item_but_set, last_choice, or_choices, Counts, exactly, at_least_count, at_most, span, TestPart, Tests, compare, test_group, one_test, all_of, any_of, last_conjunct, and_conjuncts, last_disjunct, or_disjuncts, Mark, optional, any_number, one_or_more, counted, concatenation, factor, atom, Part, Tree, literal, range, field, binder, rule_use, eod, group, switch, last_case, case_default, case_cases, once, repeated, last_member, and_members, last_branch, or_branches, Rule, rule, Rules, last_rule, and_rules}
use Rattle.tree.specs.Spelling.{spell_primary, spell_operand, spell_factors, spell_product, spell_summands, spell_calculation, spell_item, spell_set, spell_counts, comparison_sign, spell_tests, spell_mark, spell, spell_rules, spelled}
use Rattle.tree_meaning.specs.Places.{first_byte}
use Rattle.tree_meaning.specs.Pieces.{rules_of, variables_of}
use Rattle.tree_meaning.specs.Counted.{constructs, rule_constructs}
use Rattle.tree_meaning.specs.Grammar.{Construct, constructs_of, body_of, variable_of, rules_constructs, tree_constructs}
use Rattle.tree_meaning.proofs.TokenOrder.{Ascending, next, text_ascends}

-- ---- tokens that are passed over

-- what is left of tokens that ascend from `low`
pub record Passed (low : ℕ) (w : List Lexeme) : Type 0 where
  pub mid : ℕ
  pub on : low ≤ mid
  pub left : Ascending mid w

here : {low : ℕ} {w : List Lexeme} → Ascending low w → Passed low w
here {low} h = record { mid = low; on = omega arith; left = h }

token : {low : ℕ} {t : Lexeme} {w : List Lexeme} → Ascending low (t ∷ w) → Passed low w
token {low} (next {t} p more) = record { mid = suc (place_of t); on = omega (arith, p); left = more }

then : {low : ℕ} {v w : List Lexeme} → Passed low v → ((m : ℕ) → Ascending m v → Passed m w) → Passed low w
then p f = let q = f p.mid p.left in record { mid = q.mid; on = omega (arith, p.on, q.on); left = q.left }

pass_primary : {low : ℕ} (x : Primary) (w : List Lexeme) → Ascending low (spell_primary x w) → Passed low w
unfolding spell_primary
pass_primary (number n) w h = token h
pass_primary (variable x) w h = token h

pass_operand : {low : ℕ} (x : Operand) (w : List Lexeme) → Ascending low (spell_operand x w) → Passed low w
unfolding spell_operand
pass_operand (plain x) w h = pass_primary x w h
pass_operand (opposite s x) w h = then (token h) (λ m k. pass_primary x w k)

pass_factors : {low : ℕ} (x : Factors) (w : List Lexeme) → Ascending low (spell_factors x w) → Passed low w
unfolding spell_factors
pass_factors no_factor w h = here h
pass_factors (times s x more) w h = then (token h) (λ m k. then (pass_operand x (spell_factors more w) k) (λ n l. pass_factors more w l))

pass_product : {low : ℕ} (x : Product) (w : List Lexeme) → Ascending low (spell_product x w) → Passed low w
unfolding spell_product
pass_product (product x more) w h = then (pass_operand x (spell_factors more w) h) (λ m k. pass_factors more w k)

pass_summands : {low : ℕ} (x : Summands) (w : List Lexeme) → Ascending low (spell_summands x w) → Passed low w
unfolding spell_summands
pass_summands no_summand w h = here h
pass_summands (plus s x more) w h = then (token h) (λ m k. then (pass_product x (spell_summands more w) k) (λ n l. pass_summands more w l))
pass_summands (minus s x more) w h = then (token h) (λ m k. then (pass_product x (spell_summands more w) k) (λ n l. pass_summands more w l))

pass_calculation : {low : ℕ} (x : Calculation) (w : List Lexeme) → Ascending low (spell_calculation x w) → Passed low w
unfolding spell_calculation
pass_calculation (sum x more) w h = then (pass_product x (spell_summands more w) h) (λ m k. pass_summands more w k)

pass_item : {low : ℕ} (x : Item) (w : List Lexeme) → Ascending low (spell_item x w) → Passed low w
unfolding spell_item
pass_item (everything s) w h = token h
pass_item (only a) w h = pass_calculation a w h
pass_item (between a s b) w h = then (pass_calculation a (sign Kind.Tilde s ∷ spell_calculation b w) h) (λ m k. then (token k) (λ n l. pass_calculation b w l))
pass_item (from a s) w h = then (pass_calculation a (sign Kind.Tilde s ∷ w) h) (λ m k. token k)
pass_item (up_to_bound s b) w h = then (token h) (λ m k. pass_calculation b w k)

pass_set : {p : SetPart} {d low : ℕ} (x : Choices p d) (w : List Lexeme) → Ascending low (spell_set x w) → Passed low w
unfolding spell_set
pass_set (item a) w h = pass_item a w h
pass_set (item_but_item a s b) w h = then (pass_item a (sign Kind.Bang s ∷ spell_item b w) h) (λ m k. then (token k) (λ n l. pass_item b w l))
pass_set (item_but_set depth a s opens b closes) w h =
    then (pass_item a (sign Kind.Bang s ∷ sign Kind.OpenParen opens ∷ spell_set b (sign Kind.CloseParen closes ∷ w)) h)
    (λ m k. then (token k) (λ n l. then (token l) (λ o r. then (pass_set b (sign Kind.CloseParen closes ∷ w) r) (λ q u. token u))))
pass_set (last_choice a) w h = pass_set a w h
pass_set (or_choices a s b) w h = then (pass_set a (sign Kind.Bar s ∷ spell_set b w) h) (λ m k. then (token k) (λ n l. pass_set b w l))

pass_counts : {low : ℕ} (x : Counts) (w : List Lexeme) → Ascending low (spell_counts x w) → Passed low w
unfolding spell_counts
pass_counts (exactly n) w h = pass_calculation n w h
pass_counts (at_least_count a s) w h = then (pass_calculation a (sign Kind.Tilde s ∷ w) h) (λ m k. token k)
pass_counts (at_most s b) w h = then (token h) (λ m k. pass_calculation b w k)
pass_counts (span a s b) w h = then (pass_calculation a (sign Kind.Tilde s ∷ spell_calculation b w) h) (λ m k. then (token k) (λ n l. pass_calculation b w l))

pass_tests : {p : TestPart} {d low : ℕ} (x : Tests p d) (w : List Lexeme) → Ascending low (spell_tests x w) → Passed low w
unfolding spell_tests
pass_tests (compare a c s b) w h =
    then (pass_calculation a (sign (comparison_sign c) s ∷ spell_calculation b w) h) (λ m k. then (token k) (λ n l. pass_calculation b w l))
pass_tests (test_group depth opens a closes) w h = then (token h) (λ m k. then (pass_tests a (sign Kind.CloseParen closes ∷ w) k) (λ n l. token l))
pass_tests (one_test a) w h = pass_tests a w h
pass_tests (all_of a s b) w h = then (pass_tests a (sign Kind.Ampersand s ∷ spell_tests b w) h) (λ m k. then (token k) (λ n l. pass_tests b w l))
pass_tests (any_of a s b) w h = then (pass_tests a (sign Kind.Bar s ∷ spell_tests b w) h) (λ m k. then (token k) (λ n l. pass_tests b w l))
pass_tests (last_conjunct a) w h = pass_tests a w h
pass_tests (and_conjuncts a s b) w h = then (pass_tests a (sign Kind.Ampersand s ∷ spell_tests b w) h) (λ m k. then (token k) (λ n l. pass_tests b w l))
pass_tests (last_disjunct a) w h = pass_tests a w h
pass_tests (or_disjuncts a s b) w h = then (pass_tests a (sign Kind.Bar s ∷ spell_tests b w) h) (λ m k. then (token k) (λ n l. pass_tests b w l))

pass_mark : {low : ℕ} (x : Mark) (w : List Lexeme) → Ascending low (spell_mark x w) → Passed low w
unfolding spell_mark
pass_mark (optional s) w h = token h
pass_mark (any_number s) w h = token h
pass_mark (one_or_more s) w h = token h
pass_mark (counted opens n closes) w h = then (token h) (λ m k. then (pass_counts n (sign Kind.CloseBrace closes ∷ w) k) (λ o l. token l))

-- ---- places of constructs

-- they do not descend, from `low` up to `high`
unfoldable pub Sorted : (low high : ℕ) → List Construct → Type 0
Sorted low high [] = low ≤ high
Sorted low high (c ∷ more) = (low ≤ c.place) × Sorted c.place high more

sorted_lower : (low m high : ℕ) (cs : List Construct) → low ≤ m → Sorted m high cs → Sorted low high cs
unfolding Sorted
sorted_lower low m high [] p h = omega arith
sorted_lower low m high (c ∷ more) p h = (omega (arith, p, h.0), h.1)

sorted_higher : (low m high : ℕ) (cs : List Construct) → m ≤ high → Sorted low m cs → Sorted low high cs
unfolding Sorted
sorted_higher low m high [] p h = omega arith
sorted_higher low m high (c ∷ more) p h = (h.0, sorted_higher c.place m high more p h.1)

sorted_both : (low m high : ℕ) (cs ds : List Construct) → Sorted low m cs → Sorted m high ds → Sorted low high (cs ++ ds)
unfolding Sorted
sorted_both low m high [] ds p q = sorted_lower low m high ds p q
sorted_both low m high (c ∷ more) ds p q = (p.0, sorted_both c.place m high more ds p.1 q)

-- constructs that are sorted, and what is left of the tokens
pub record Placed (low : ℕ) (cs : List Construct) (w : List Lexeme) : Type 0 where
  pub mid : ℕ
  pub sorted : Sorted low mid cs
  pub left : Ascending mid w

behind : {low : ℕ} {v w : List Lexeme} {cs : List Construct} → Passed low v → ((m : ℕ) → Ascending m v → Placed m cs w) → Placed low cs w
behind {low} {cs} p f = let q = f p.mid p.left in record { mid = q.mid; sorted = sorted_lower low p.mid q.mid cs p.on q.sorted; left = q.left }

before : {low : ℕ} {v w : List Lexeme} {cs : List Construct} → Placed low cs v → ((m : ℕ) → Ascending m v → Passed m w) → Placed low cs w
before {low} {cs} p f = let q = f p.mid p.left in record { mid = q.mid; sorted = sorted_higher low p.mid q.mid cs q.on p.sorted; left = q.left }

both : {low : ℕ} {v w : List Lexeme} (cs ds : List Construct) → Placed low cs v → ((m : ℕ) → Ascending m v → Placed m ds w) → Placed low (cs ++ ds) w
both {low} cs ds p f = let q = f p.mid p.left in record { mid = q.mid; sorted = sorted_both low p.mid q.mid cs ds p.sorted q.sorted; left = q.left }

-- one more in front
in_front : {low : ℕ} {w : List Lexeme} {cs : List Construct} (c : Construct) → low ≤ c.place → Placed c.place cs w → Placed low (c ∷ cs) w
unfolding Sorted
in_front c p q = record { mid = q.mid; sorted = (p, q.sorted); left = q.left }

-- none
alone : {low : ℕ} {w : List Lexeme} → Passed low w → Placed low [] w
unfolding Sorted
alone p = record { mid = p.mid; sorted = p.on; left = p.left }

-- a construct that begins with its token
leaf : {low : ℕ} {t : Lexeme} {v w : List Lexeme} (c : Construct) → place_of t ≡ c.place → Ascending low (t ∷ v) → ((m : ℕ) → Ascending m v → Passed m w) → Placed low (c ∷ []) w
leaf {low} c e (next {t} p more) f =
    let q : low ≤ c.place = omega (arith, e, p) in
    let l : c.place ≤ suc (place_of t) = omega (arith, e) in
    in_front c q (alone (then (record { mid = suc (place_of t); on = l; left = more }) f))

-- ---- where a part of a tree begins

pub record Begins (low p : ℕ) (w : List Lexeme) : Type 0 where
  pub on : low ≤ p
  pub all : Ascending p w

first_token : {low : ℕ} {t : Lexeme} {w : List Lexeme} → Ascending low (t ∷ w) → Begins low (place_of t) (t ∷ w)
first_token (next {t} p more) = let q : place_of t ≤ place_of t = omega arith in record { on = p; all = next {t = t} q more }

begins_atom : {d low : ℕ} (x : Tree atom d) (u v : List Lexeme) → Ascending low (spell x v) → Begins low (first_byte (spell x u)) (spell x v)
unfolding spell
begins_atom (literal l) u v h = first_token h
begins_atom (range a s b one one') u v h = first_token h
begins_atom (field signed depth u opens n comma x closes) v w h = first_token h
begins_atom (binder signed depth u opens n comma v opens' x comma' y closes closes') w z h = first_token h
begins_atom (rule_use x other) u v h = first_token h
begins_atom (eod s) u v h = first_token h
begins_atom (group depth opens x closes) u v h = first_token h
begins_atom (switch depth opens x closes) u v h = first_token h

begins_factor : {d low : ℕ} (x : Tree factor d) (u v : List Lexeme) → Ascending low (spell x v) → Begins low (first_byte (spell x u)) (spell x v)
unfolding spell
begins_factor (once x) u v h = begins_atom x u v h
begins_factor (repeated x m) u v h = begins_atom x (spell_mark m u) (spell_mark m v) h

begins_concatenation : {d low : ℕ} (x : Tree concatenation d) (u v : List Lexeme) → Ascending low (spell x v) → Begins low (first_byte (spell x u)) (spell x v)
unfolding spell
begins_concatenation (last_member x) u v h = begins_factor x u v h
begins_concatenation (and_members x s more) u v h = begins_factor x (sign Kind.Ampersand s ∷ spell more u) (sign Kind.Ampersand s ∷ spell more v) h

-- ---- trees

module _ (body variable : List ℕ → ℕ) where
  pub in_text_order : {p : Part} {d low : ℕ} (begun : Bool) (i : ℕ) (x : Tree p d) (w : List Lexeme) → Ascending low (spell x w) → Placed low (constructs_of body variable begun i x) w
  unfolding spell constructs_of
  in_text_order begun i (literal l) w h = leaf _ refl h (λ m k. here k)
  in_text_order begun i (range a s b one one') w h = leaf _ refl h (λ m k. then (token k) (λ n l. token l))
  in_text_order begun i (field signed depth u opens n comma x closes) w h =
      leaf _ refl h (λ m k. then (token k) (λ q l. then (token l) (λ r j. then (token j) (λ t g. then (pass_set x (sign Kind.CloseParen closes ∷ w) g) (λ y z. token z)))))
  in_text_order begun i (binder signed depth u opens n comma v opens' x comma' y closes closes') w h =
      leaf _ refl h (λ a b. then (token b) (λ a b. then (token b) (λ a b. then (token b) (λ a b. then (token b) (λ a b. then (token b) (λ a b. then (token b) (λ a b. then (token b) (λ a b. then (pass_set y (sign Kind.CloseParen closes ∷ sign Kind.CloseParen closes' ∷ w) b) (λ a b. then (token b) (λ a b. token b))))))))))
  in_text_order begun i (rule_use x other) w h = leaf _ refl h (λ m k. here k)
  in_text_order begun i (eod s) w h = leaf _ refl h (λ m k. here k)
  in_text_order begun i (group depth opens x closes) w h =
      before (behind (token h) (λ m k. in_text_order false i x (sign Kind.CloseParen closes ∷ w) k)) (λ m k. token k)
  in_text_order begun i (switch depth opens x closes) w h =
      let b = first_token h in
      in_front _ b.on (before (behind {v = spell x (sign Kind.CloseBracket closes ∷ w)} (token {w = spell x (sign Kind.CloseBracket closes ∷ w)} b.all) (λ m k. in_text_order false (suc i) x (sign Kind.CloseBracket closes ∷ w) k)) (λ m k. token k))
  in_text_order begun i (last_case c colon x end) w h =
      before (behind (then (pass_tests c (sign Kind.Colon colon ∷ spell x (sign Kind.Semicolon end ∷ w)) h) (λ m k. token k)) (λ m k. in_text_order false i x (sign Kind.Semicolon end ∷ w) k)) (λ m k. token k)
  in_text_order begun i (case_default c colon x end colon' y end') w h =
      let rest = sign Kind.Colon colon' ∷ spell y (sign Kind.Semicolon end' ∷ w) in
      both (constructs_of body variable false i x) (constructs_of body variable false (i + constructs false x) y)
      (before (behind (then (pass_tests c (sign Kind.Colon colon ∷ spell x (sign Kind.Semicolon end ∷ rest)) h) (λ m k. token k)) (λ m k. in_text_order false i x (sign Kind.Semicolon end ∷ rest) k)) (λ m k. then (token k) (λ n l. token l)))
      (λ m k. before (in_text_order false (i + constructs false x) y (sign Kind.Semicolon end' ∷ w) k) (λ n l. token l))
  in_text_order begun i (case_cases c colon x end more) w h =
      both (constructs_of body variable false i x) (constructs_of body variable false (i + constructs false x) more)
      (before (behind (then (pass_tests c (sign Kind.Colon colon ∷ spell x (sign Kind.Semicolon end ∷ spell more w)) h) (λ m k. token k)) (λ m k. in_text_order false i x (sign Kind.Semicolon end ∷ spell more w) k)) (λ m k. token k))
      (λ m k. in_text_order false (i + constructs false x) more w k)
  in_text_order begun i (once x) w h = in_text_order false i x w h
  in_text_order begun i (repeated x m) w h =
      let b = begins_atom x [] (spell_mark m w) h in in_front _ b.on (before (in_text_order false (suc i) x (spell_mark m w) b.all) (λ n l. pass_mark m w l))
  in_text_order begun i (last_member x) w h = in_text_order false i x w h
  in_text_order false i (and_members x s more) w h =
      let rest = sign Kind.Ampersand s ∷ spell more w in
      let b = begins_factor x [] rest h in
      in_front _ b.on
      (both (constructs_of body variable false (suc i) x) (constructs_of body variable true (suc i + constructs false x) more) (before (in_text_order false (suc i) x rest b.all) (λ n l. token l)) (λ n l. in_text_order true (suc i + constructs false x) more w l))
  in_text_order true i (and_members x s more) w h =
      both (constructs_of body variable false i x) (constructs_of body variable true (i + constructs false x) more) (before (in_text_order false i x (sign Kind.Ampersand s ∷ spell more w) h) (λ n l. token l)) (λ n l. in_text_order true (i + constructs false x) more w l)
  in_text_order begun i (last_branch x) w h = in_text_order false i x w h
  in_text_order false i (or_branches x s more) w h =
      let rest = sign Kind.Bar s ∷ spell more w in
      let b = begins_concatenation x [] rest h in
      in_front _ b.on
      (both (constructs_of body variable false (suc i) x) (constructs_of body variable true (suc i + constructs false x) more) (before (in_text_order false (suc i) x rest b.all) (λ n l. token l)) (λ n l. in_text_order true (suc i + constructs false x) more w l))
  in_text_order true i (or_branches x s more) w h =
      both (constructs_of body variable false i x) (constructs_of body variable true (i + constructs false x) more) (before (in_text_order false i x (sign Kind.Bar s ∷ spell more w) h) (λ n l. token l)) (λ n l. in_text_order true (i + constructs false x) more w l)

-- ---- all rules

pub rules_in_text_order : {low : ℕ} (all : List Rule) (i b : ℕ) (t : Rules) (w : List Lexeme) → Ascending low (spell_rules t w) → Placed low (rules_constructs all i b (rules_of t)) w
unfolding spell_rules rules_of rules_constructs
rules_in_text_order all i b (last_rule (rule x is e end)) w h =
    both (constructs_of (body_of 0 all) (variable_of b (variables_of (rule x is e end))) false i e) []
    (before (behind (then (token h) (λ m k. token k)) (λ m k. in_text_order (body_of 0 all) (variable_of b (variables_of (rule x is e end))) false i e (sign Kind.Semicolon end ∷ w) k)) (λ m k. token k))
    (λ m k. alone (here k))
rules_in_text_order all i b (and_rules (rule x is e end) more) w h =
    both (constructs_of (body_of 0 all) (variable_of b (variables_of (rule x is e end))) false i e) (rules_constructs all (i + rule_constructs (rule x is e end)) (b + length (variables_of (rule x is e end))) (rules_of more))
    (before (behind (then (token h) (λ m k. token k)) (λ m k. in_text_order (body_of 0 all) (variable_of b (variables_of (rule x is e end))) false i e (sign Kind.Semicolon end ∷ spell_rules more w) k)) (λ m k. token k))
    (λ m k. rules_in_text_order all (i + rule_constructs (rule x is e end)) (b + length (variables_of (rule x is e end))) more w k)

-- of a text and its tree
pub constructs_in_text_order : (xs : List ℕ) (t : Rules) (end : ℕ) → lexemes xs ≡ spelled t end → (high : ℕ) × Sorted 0 high (tree_constructs t)
constructs_in_text_order xs t end e =
    let q = rules_in_text_order (rules_of t) 0 0 t (finish end ∷ []) (subst (Ascending 0) e (text_ascends xs)) in (q.mid, q.sorted)
