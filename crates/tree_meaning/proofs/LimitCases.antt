-- Trees at a limit and one past it (5), made by repetition: none where no total is passed, else the place of the first rule in which one is.
-- Assumes nothing.
use Prim.Native.Nat.{ℕ, zero, suc, ◌*◌}
use mathlib.Core.Bool.{false}
use mathlib.Core.Path.{◌≡◌, refl}
use mathlib.Core.Option.{none, some}
use lib.Dec.{lit<}
use Rattle.tree.specs.Tree.{number, plain, opposite, no_factor, product, no_summand, sum, Calculation, everything, only, ValueSet, item, last_choice, or_choices, exactly, counted, atom, concatenation, Tree, literal, field, binder, group, once, repeated, last_member, and_members, last_branch, Rule, rule, Rules, last_rule, and_rules}
use Rattle.tree_meaning.proofs.Building.{at, name, num, quote}
use Rattle.tree_meaning.proofs.Computing.{judged, judgement, place_five}

-- rule k, at 100 * k
ruled : ℕ → Tree concatenation 0 → Rule
ruled k x = rule (name (100 * k) "a") (at 0) (last_branch x) (at 0)

-- rules from k on, n and one more, of one body
rules : (k n : ℕ) → Tree concatenation 0 → Rules
rules k zero x = last_rule (ruled k x)
rules k (suc n) x = and_rules (ruled k x) (rules (suc k) n x)

-- n members and one more
chain : ℕ → Tree atom 0 → Tree concatenation 0
chain zero x = last_member (once x)
chain (suc n) x = and_members (once x) (at 0) (chain n x)

character : Tree atom 0
character = literal (quote 0 0 "x")

-- "64 rules"
rules_64 : place_five (judgement (rules 0 63 (chain 0 character))) ≡ none
unfolding judgement rules ruled chain character
rules_64 = refl

rules_66 : place_five (judgement (rules 0 65 (chain 0 character))) ≡ some 6400
unfolding judgement rules ruled chain character
rules_66 = refl

-- "256 constructs": 255 literals and their concatenation; in running totals, 129 of each of three rules
constructs_256 : place_five (judgement (rules 0 0 (chain 254 character))) ≡ none
unfolding judgement rules ruled chain character
constructs_256 = refl

constructs_257 : place_five (judgement (rules 0 0 (chain 255 character))) ≡ some 0
unfolding judgement rules ruled chain character
constructs_257 = refl

constructs_of_three : place_five (judgement (rules 0 2 (chain 127 character))) ≡ some 100
unfolding judgement rules ruled chain character
constructs_of_three = refl

-- "64 variables": binders as written, of one name too
bound : Tree atom 0
bound = binder false (lit< tt) (at 0) (at 0) (num 0 0 8) (at 0) (at 0) (at 0) (name 0 "n") (at 0) (last_choice (item (everything (at 0)))) (at 0) (at 0)

variables_64 : place_five (judgement (rules 0 1 (chain 31 bound))) ≡ none
unfolding judgement rules ruled chain bound
variables_64 = refl

variables_66 : place_five (judgement (rules 0 1 (chain 32 bound))) ≡ some 100
unfolding judgement rules ruled chain bound
variables_66 = refl

variables_65 : place_five (judgement (rules 0 0 (chain 64 bound))) ≡ some 0
unfolding judgement rules ruled chain bound
variables_65 = refl

-- "1,024 numbers, variable uses and signs": n numbers and one more, with a `|` between any two
one : Calculation
one = sum (product (plain (number (num 0 0 1))) no_factor) no_summand

less_one : Calculation
less_one = sum (product (opposite (at 0) (number (num 0 0 1))) no_factor) no_summand

choices : {d : ℕ} → ℕ → ValueSet d
choices zero = last_choice (item (only one))
choices (suc n) = or_choices (item (only one)) (at 0) (choices n)

-- 1,023 of them in a set, and then one or two more in counts: widths, braces and marks are none
sized_by : Calculation → Tree concatenation 0
sized_by c =
    last_member (repeated (group (lit< tt) (at 0) (last_branch (last_member (once (field false (lit< tt) (at 0) (at 0) (num 0 0 8) (at 0) (choices 511) (at 0))))) (at 0)) (counted (at 0) (exactly c) (at 0)))

terms_1024 : judgement (rules 0 0 (sized_by one)) ≡ judged 1 2 0 1024 none none none
unfolding judgement rules ruled sized_by choices one
terms_1024 = refl

terms_1025 : judgement (rules 0 0 (sized_by less_one)) ≡ judged 1 2 0 1025 (some 0) none none
unfolding judgement rules ruled sized_by choices one less_one
terms_1025 = refl

-- 1,024 of the first rule, and then more
terms_of_two : place_five (judgement (rules 0 1 (sized_by one))) ≡ some 100
unfolding judgement rules ruled sized_by choices one
terms_of_two = refl
