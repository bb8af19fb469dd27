-- The parts of a construct come after it, and before the end of its tree: numbers in text order, the outer before the inner.
-- Assumes nothing.
use Prim.Native.Nat.{ℕ, zero, suc, ◌+◌, ◌≤◌, ◌<◌}
use mathlib.Core.Path.{◌≡◌, refl, sym, ap, subst}
use mathlib.Core.Bool.{Bool, true, false}
use mathlib.Core.List.{List, [], ◌∷◌, ◌++◌, Memᴰ}
use mathlib.Core.Option.{Option, some, none-ne-some, some-injective}
use native.Mathlib.Nat.{zero-add}
use native.Mathlib.Omega.{arith}
use lib.ListN.{length, get_or}
use Rattle.basis.proofs.Booleans.{picked}
use Rattle.theory.specs.Grammar.{alternative, concatenation as sequence, repetition, switch as choice-by, use_of, field as bits_of, eod as frame_end}
use Rattle.tree.specs.Tree.{expression, concatenation, cases, Part, Tree, literal, range, field, binder, rule_use, eod, group, switch, last_case, case_default, case_cases, once, repeated, last_member, and_members, last_branch, or_branches, Rule, Rules}
use Rattle.tree_meaning.specs.Values.{is_true}
use Rattle.tree_meaning.specs.Pieces.{rules_of, rule_body, variables_of}
use Rattle.tree_meaning.specs.Counted.{constructs, rule_constructs}
use Rattle.tree_meaning.specs.Grammar.{Context, Values, TreeNode, Construct, plain_at, members, branches, case_bodies, values_at, chosen, constructs_of, body_of, variable_of, rules_constructs, tree_constructs, construct_numbered}
use Rattle.tree_meaning.proofs.Lengths.{some_construct, as_counted, all_constructs, rules_as_counted}

-- from `low` up to `high`, `high` not among them
pub record Between (low high i : ℕ) : Type 0 where
  pub from : low ≤ i
  pub under : i < high

unfoldable pub AllBetween : (low high : ℕ) → List ℕ → Type 0
AllBetween low high [] = Unit {0}
AllBetween low high (i ∷ more) = Between low high i × AllBetween low high more

-- ---- the numbers of parts

pub members_between : {d : ℕ} (low high i : ℕ) (x : Tree concatenation d) → low ≤ i → i + constructs true x ≤ high → AllBetween low high (members i x)
unfolding AllBetween members constructs
members_between low high i (last_member x) l h = let k = some_construct false x in (record { from = l; under = omega arith }, tt)
members_between low high i (and_members x s more) l h =
    let k = some_construct false x in (record { from = l; under = omega arith }, members_between low high (i + constructs false x) more (omega arith) (omega arith))

pub branches_between : {d : ℕ} (low high i : ℕ) (x : Tree expression d) → low ≤ i → i + constructs true x ≤ high → AllBetween low high (branches i x)
unfolding AllBetween branches constructs
branches_between low high i (last_branch x) l h = let k = some_construct false x in (record { from = l; under = omega arith }, tt)
branches_between low high i (or_branches x s more) l h =
    let k = some_construct false x in (record { from = l; under = omega arith }, branches_between low high (i + constructs false x) more (omega arith) (omega arith))

pub cases_between : {d : ℕ} (low high i : ℕ) (x : Tree cases d) → low ≤ i → i + constructs false x ≤ high → AllBetween low high (case_bodies i x)
unfolding AllBetween case_bodies constructs
cases_between low high i (last_case c colon x end) l h = let k = some_construct false x in (record { from = l; under = omega arith }, tt)
cases_between low high i (case_default c colon x end colon' y end') l h =
    let k = some_construct false x in
    let m = some_construct false y in
    (record { from = l; under = omega arith }, (record { from = omega arith; under = omega arith }, tt))
cases_between low high i (case_cases c colon x end more) l h =
    let k = some_construct false x in
    let m = some_construct false more in
    (record { from = l; under = omega arith }, cases_between low high (i + constructs false x) more (omega arith) (omega arith))

-- ---- constructs in order

-- the parts that a construct names lie there
abbrev pub PartsBetween : (low high : ℕ) → TreeNode → Type 0
PartsBetween low high (alternative is) = AllBetween low high is
PartsBetween low high (sequence is) = AllBetween low high is
PartsBetween low high (repetition counts static fixed body) = Between low high body
PartsBetween low high (choice-by which optional is) = AllBetween low high is × ((c : Context) (v : Values) (b : ℕ) → which c v ≡ some b → Memᴰ b is)
PartsBetween low high (use_of enters opens closes body) = Unit {0}
PartsBetween low high (bits_of width admits static binds) = Unit {0}
PartsBetween low high frame_end = Unit {0}

-- of constructs from number i on: those of each after it, and before `end`
unfoldable pub InOrder : (i end : ℕ) → List Construct → Type 0
InOrder i end [] = Unit {0}
InOrder i end (c ∷ more) = PartsBetween (suc i) end c.node × InOrder (suc i) end more

pub in_order_append : (i end : ℕ) (xs ys : List Construct) → InOrder i end xs → InOrder (i + length xs) end ys → InOrder i end (xs ++ ys)
unfolding InOrder
in_order_append i end [] ys p q = subst (λ (n : ℕ). InOrder n end ys) (omega arith) q
in_order_append i end (x ∷ xs) ys p q = (p.0, in_order_append (suc i) end xs ys p.1 (subst (λ (n : ℕ). InOrder n end ys) (omega arith) q))

module _ (body variable : List ℕ → ℕ) where
  -- a case that is chosen is one of the cases
  pub chosen_there : {d : ℕ} (i : ℕ) (x : Tree cases d) (v : Values) (b : ℕ) → chosen variable i x v ≡ some b → Memᴰ b (case_bodies i x)
  unfolding chosen case_bodies
  chosen_there i (last_case c colon x end) v b e =
      picked (λ (o : Option ℕ). o ≡ some b → Memᴰ b (i ∷ [])) (is_true (values_at variable v) c) (λ t f. Memᴰ.head (sym (some-injective i b f))) (λ t f. absurd (none-ne-some b f)) e
  chosen_there i (case_default c colon x end colon' y end') v b e =
      picked (λ (o : Option ℕ). o ≡ some b → Memᴰ b (i ∷ (i + constructs false x) ∷ [])) (is_true (values_at variable v) c) (λ t f. Memᴰ.head (sym (some-injective i b f))) (λ t f. Memᴰ.tail (Memᴰ.head (sym (some-injective (i + constructs false x) b f)))) e
  chosen_there i (case_cases c colon x end more) v b e =
      picked (λ (o : Option ℕ). o ≡ some b → Memᴰ b (i ∷ case_bodies (i + constructs false x) more)) (is_true (values_at variable v) c) (λ t f. Memᴰ.head (sym (some-injective i b f))) (λ t f. Memᴰ.tail (chosen_there (i + constructs false x) more v b f)) e

  -- two trees, one after the other
  both_in_order : {p q : Part} {d e : ℕ} (a b : Bool) (i j end : ℕ) (x : Tree p d) (y : Tree q e) → InOrder i end (constructs_of body variable a i x)
      → InOrder j end (constructs_of body variable b j y) → j ≡ i + constructs a x → InOrder i end (constructs_of body variable a i x ++ constructs_of body variable b j y)
  both_in_order a b i j end x y p q e =
      in_order_append i end (constructs_of body variable a i x) (constructs_of body variable b j y) p (subst (λ (n : ℕ). InOrder n end (constructs_of body variable b j y)) (omega (arith, e, as_counted body variable a i x)) q)

  pub in_order : {p : Part} {d : ℕ} (begun : Bool) (i end : ℕ) (x : Tree p d) → i + constructs begun x ≤ end → InOrder i end (constructs_of body variable begun i x)
  unfolding InOrder constructs constructs_of
  in_order begun i e (literal l) h = (tt, tt)
  in_order begun i e (range a s b one one') h = (tt, tt)
  in_order begun i e (field signed depth u opens n comma x closes) h = (tt, tt)
  in_order begun i e (binder signed depth u opens n comma v opens' x comma' y closes closes') h = (tt, tt)
  in_order begun i e (rule_use x other) h = (tt, tt)
  in_order begun i e (eod s) h = (tt, tt)
  in_order begun i e (group depth opens x closes) h = in_order false i e x h
  in_order begun i e (switch depth opens x closes) h =
      ((cases_between (suc i) e (suc i) x (omega arith) (omega arith), λ c v b. chosen_there (suc i) x v b), in_order false (suc i) e x (omega arith))
  in_order begun i e (last_case c colon x end) h = in_order false i e x h
  in_order begun i e (case_default c colon x end colon' y end') h =
      both_in_order false false i (i + constructs false x) e x y (in_order false i e x (omega arith)) (in_order false (i + constructs false x) e y (omega arith)) refl
  in_order begun i e (case_cases c colon x end more) h =
      both_in_order false false i (i + constructs false x) e x more (in_order false i e x (omega arith)) (in_order false (i + constructs false x) e more (omega arith)) refl
  in_order begun i e (once x) h = in_order false i e x h
  in_order begun i e (repeated x m) h =
      let k = some_construct false x in (record { from = omega arith; under = omega arith }, in_order false (suc i) e x (omega arith))
  in_order begun i e (last_member x) h = in_order false i e x h
  in_order false i e (and_members x s more) h = (
    members_between (suc i) e (suc i) (and_members x s more) (omega arith) (omega arith),
    both_in_order false true (suc i) (suc i + constructs false x) e x more (in_order false (suc i) e x (omega arith)) (in_order true (suc i + constructs false x) e more (omega arith)) refl,
  )
  in_order true i e (and_members x s more) h =
      both_in_order false true i (i + constructs false x) e x more (in_order false i e x (omega arith)) (in_order true (i + constructs false x) e more (omega arith)) refl
  in_order begun i e (last_branch x) h = in_order false i e x h
  in_order false i e (or_branches x s more) h = (
    branches_between (suc i) e (suc i) (or_branches x s more) (omega arith) (omega arith),
    both_in_order false true (suc i) (suc i + constructs false x) e x more (in_order false (suc i) e x (omega arith)) (in_order true (suc i + constructs false x) e more (omega arith)) refl,
  )
  in_order true i e (or_branches x s more) h =
      both_in_order false true i (i + constructs false x) e x more (in_order false i e x (omega arith)) (in_order true (i + constructs false x) e more (omega arith)) refl

-- ---- all rules

pub rules_in_order : (all : List Rule) (i b end : ℕ) (rs : List Rule) → i + all_constructs rs ≤ end → InOrder i end (rules_constructs all i b rs)
unfolding InOrder rules_constructs all_constructs
rules_in_order all i b end [] h = tt
rules_in_order all i b end (r ∷ more) h =
    in_order_append i end (constructs_of (body_of 0 all) (variable_of b (variables_of r)) false i (rule_body r)) (rules_constructs all (i + rule_constructs r) (b + length (variables_of r)) more)
    (in_order (body_of 0 all) (variable_of b (variables_of r)) false i end (rule_body r) (omega arith))
    (subst (λ (n : ℕ). InOrder n end (rules_constructs all (i + rule_constructs r) (b + length (variables_of r)) more)) (ap (λ (n : ℕ). i + n) (sym (as_counted (body_of 0 all) (variable_of b (variables_of r)) false i (rule_body r)))) (rules_in_order all (i + rule_constructs r) (b + length (variables_of r)) end more (omega arith)))

-- the construct of number k among them
pub at_number : (i end k : ℕ) (cs : List Construct) (d : Construct) → InOrder i end cs → k < length cs → PartsBetween (suc (i + k)) end (get_or cs k d).node
unfolding InOrder
at_number i end k [] d h l = absurd (omega arith)
at_number i end zero (c ∷ cs) d h l = subst (λ (n : ℕ). PartsBetween (suc n) end c.node) (omega arith) h.0
at_number i end (suc k) (c ∷ cs) d h l = subst (λ (n : ℕ). PartsBetween (suc n) end (get_or cs k d).node) (omega arith) (at_number (suc i) end k cs d h.1 (omega arith))

-- of a text: the parts of construct i come after it, and are constructs of the text
pub parts_in_range : (t : Rules) (i : ℕ) → i < length (tree_constructs t) → PartsBetween (suc i) (length (tree_constructs t)) (construct_numbered t i).node
parts_in_range t i h =
    subst (λ (n : ℕ). PartsBetween (suc n) (length (tree_constructs t)) (construct_numbered t i).node) (zero-add i)
    (at_number 0 (length (tree_constructs t)) i (tree_constructs t) (plain_at 0 (alternative []))
    (rules_in_order (rules_of t) 0 0 (length (tree_constructs t)) (rules_of t) (omega (arith, rules_as_counted (rules_of t) 0 0 (rules_of t)))) h)
