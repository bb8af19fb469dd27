-- "Uses stand in later members": where 6 is not given, a variable that is used in a member of a rule's top concatenation is bound by an earlier member, and a rule
-- whose body is an alternative has none.
-- Assumes nothing.
use Prim.Native.Nat.{ℕ}
use mathlib.Core.Path.{◌≡◌, refl, sym, ◌∙◌}
use mathlib.Core.Bool.{true, false}
use mathlib.Core.List.{List, [], ◌∷◌, ◌++◌}
use mathlib.Core.Option.{none}
use native.Mathlib.Omega.{arith}
use Rattle.tree.specs.Lexemes.{Name}
use Rattle.tree.specs.Tree.{Mark, optional, any_number, one_or_more, counted, expression, concatenation, factor, atom, Part, Tree, literal, range, field, binder, rule_use, eod, group, switch, last_case, case_default, case_cases, once, repeated, last_member, and_members, last_branch, or_branches, Rule, Rules}
use Rattle.tree_meaning.specs.Pieces.{terms_of, uses_in, Piece, use_of_rule, width, formula, binding, mark_pieces, pieces, rules_of, rule_name, rule_body, variables_of}
use Rattle.tree_meaning.specs.Names.{rule_names, refusal_6}
use Rattle.tree_meaning.proofs.Passing.{UsesRight, NamesRight, RulesNamed, named}

-- ---- what a part of a tree that is no top member binds is misplaced

unfoldable pub Unplaced : List Piece → Type 0
Unplaced [] = Unit {0}
Unplaced (use_of_rule x ∷ more) = Unplaced more
Unplaced (width most n ∷ more) = Unplaced more
Unplaced (formula f ∷ more) = Unplaced more
Unplaced (binding x signed n placed ∷ more) = (placed ≡ false) × Unplaced more

unplaced_both : (ps qs : List Piece) → Unplaced ps → Unplaced qs → Unplaced (ps ++ qs)
unfolding Unplaced
unplaced_both [] qs p q = q
unplaced_both (use_of_rule x ∷ more) qs p q = unplaced_both more qs p q
unplaced_both (width most n ∷ more) qs p q = unplaced_both more qs p q
unplaced_both (formula f ∷ more) qs p q = unplaced_both more qs p q
unplaced_both (binding x signed n placed ∷ more) qs p q = (p.0, unplaced_both more qs p.1 q)

unplaced_mark : (m : Mark) → Unplaced (mark_pieces m)
unfolding Unplaced
unplaced_mark (optional s) = tt
unplaced_mark (any_number s) = tt
unplaced_mark (one_or_more s) = tt
unplaced_mark (counted opens n closes) = tt

pub unplaced : {p : Part} {d : ℕ} (x : Tree p d) → Unplaced (pieces false x)
unfolding Unplaced pieces
unplaced (literal l) = tt
unplaced (range a s b one one') = tt
unplaced (field signed depth u opens n comma x closes) = tt
unplaced (binder signed depth u opens n comma v opens' x comma' y closes closes') = (refl, tt)
unplaced (rule_use x other) = tt
unplaced (eod s) = tt
unplaced (group depth opens x closes) = unplaced x
unplaced (switch depth opens x closes) = unplaced x
unplaced (last_case c colon x end) = unplaced x
unplaced (case_default c colon x end colon' y end') = unplaced_both (pieces false x) (pieces false y) (unplaced x) (unplaced y)
unplaced (case_cases c colon x end more) = unplaced_both (pieces false x) (pieces false more) (unplaced x) (unplaced more)
unplaced (once x) = unplaced x
unplaced (repeated x m) = unplaced_both (mark_pieces m) (pieces false x) (unplaced_mark m) (unplaced x)
unplaced (last_member x) = unplaced x
unplaced (and_members x s more) = unplaced_both (pieces false x) (pieces false more) (unplaced x) (unplaced more)
unplaced (last_branch x) = unplaced x
unplaced (or_branches x s more) = unplaced_both (pieces false x) (pieces false more) (unplaced x) (unplaced more)

-- ---- what is seen

-- every variable that is used among these is one of these names
unfoldable pub Sees : List Name → List Piece → Type 0
Sees names [] = Unit {0}
Sees names (use_of_rule x ∷ more) = Sees names more
Sees names (width most n ∷ more) = Sees names more
Sees names (formula f ∷ more) = UsesRight names (uses_in (terms_of f)) × Sees names more
Sees names (binding x signed n placed ∷ more) = Sees names more

-- the names bound by these and before them, the last first
unfoldable pub bound_after : List Name → List Piece → List Name
bound_after before [] = before
bound_after before (use_of_rule x ∷ more) = bound_after before more
bound_after before (width most n ∷ more) = bound_after before more
bound_after before (formula f ∷ more) = bound_after before more
bound_after before (binding x signed n placed ∷ more) = bound_after (x ∷ before) more

module _ (rules variables : List Name) where
  right_first : (before : List Name) (ps qs : List Piece) → NamesRight rules variables before (ps ++ qs) → NamesRight rules variables before ps
  unfolding NamesRight
  right_first before [] qs h = tt
  right_first before (use_of_rule x ∷ more) qs h = (h.0, h.1, right_first before more qs h.2)
  right_first before (width most n ∷ more) qs h = right_first before more qs h
  right_first before (formula f ∷ more) qs h = (h.0, right_first before more qs h.1)
  right_first before (binding x signed n placed ∷ more) qs h = (h.0, h.1, right_first (x ∷ before) more qs h.2)

  right_second : (before : List Name) (ps qs : List Piece) → NamesRight rules variables before (ps ++ qs) → NamesRight rules variables (bound_after before ps) qs
  unfolding NamesRight bound_after
  right_second before [] qs h = h
  right_second before (use_of_rule x ∷ more) qs h = right_second before more qs h.2
  right_second before (width most n ∷ more) qs h = right_second before more qs h
  right_second before (formula f ∷ more) qs h = right_second before more qs h.1
  right_second before (binding x signed n placed ∷ more) qs h = right_second (x ∷ before) more qs h.2

  -- a part that binds nothing in its place binds nothing
  sees_before : (before : List Name) (ps : List Piece) → Unplaced ps → NamesRight rules variables before ps → Sees before ps
  unfolding NamesRight Unplaced Sees
  sees_before before [] u h = tt
  sees_before before (use_of_rule x ∷ more) u h = sees_before before more u h.2
  sees_before before (width most n ∷ more) u h = sees_before before more u h
  sees_before before (formula f ∷ more) u h = (h.0, sees_before before more u h.1)
  sees_before before (binding x signed n placed ∷ more) u h = let e : true ≡ false = sym h.1 ∙ u.0 in let z : ◌≡◌ {A = ℕ} 0 1 = cc in absurd (omega arith)

  -- ---- members

  item_sees : {d : ℕ} (before : List Name) (x : Tree atom d) → NamesRight rules variables before (pieces true x) → Sees before (pieces true x)
  unfolding NamesRight Sees pieces
  item_sees before (literal l) h = tt
  item_sees before (range a s b one one') h = tt
  item_sees before (field signed depth u opens n comma x closes) h = (h.0, tt)
  item_sees before (binder signed depth u opens n comma v opens' x comma' y closes closes') h = (h.0, tt)
  item_sees before (rule_use x other) h = tt
  item_sees before (eod s) h = tt
  item_sees before (group depth opens x closes) h = sees_before before (pieces false x) (unplaced x) h
  item_sees before (switch depth opens x closes) h = sees_before before (pieces false x) (unplaced x) h

  member_sees : {d : ℕ} (before : List Name) (x : Tree factor d) → NamesRight rules variables before (pieces true x) → Sees before (pieces true x)
  unfolding pieces
  member_sees before (once x) h = item_sees before x h
  member_sees before (repeated x m) h = sees_before before (mark_pieces m ++ pieces false x) (unplaced_both (mark_pieces m) (pieces false x) (unplaced_mark m) (unplaced x)) h

  -- each member sees what the members before it bind
  unfoldable pub MembersSee : {d : ℕ} → List Name → Tree concatenation d → Type 0
  MembersSee before (last_member x) = Sees before (pieces true x)
  MembersSee before (and_members x s more) = Sees before (pieces true x) × MembersSee (bound_after before (pieces true x)) more

  members_see : {d : ℕ} (before : List Name) (x : Tree concatenation d) → NamesRight rules variables before (pieces true x) → MembersSee before x
  unfolding MembersSee pieces
  members_see before (last_member x) h = member_sees before x h
  members_see before (and_members x s more) h =
      (member_sees before x (right_first before (pieces true x) (pieces true more) h), members_see (bound_after before (pieces true x)) more (right_second before (pieces true x) (pieces true more) h))

  -- the body of a rule
  abbrev pub BodySees : {d : ℕ} → Tree expression d → Type 0
  BodySees (last_branch x) = MembersSee [] x
  BodySees (or_branches x s more) = Sees [] (pieces true (or_branches x s more))

  pub body_sees : {d : ℕ} (x : Tree expression d) → NamesRight rules variables [] (pieces true x) → BodySees x
  unfolding pieces
  body_sees (last_branch x) h = members_see [] x h
  body_sees (or_branches x s more) h =
      sees_before [] (pieces false x ++ pieces false more) (unplaced_both (pieces false x) (pieces false more) (unplaced x) (unplaced more)) h

-- each rule of a text for which 6 is not given
unfoldable pub RulesSee : (rules : List Name) → List Rule → Type 0
RulesSee rules [] = Unit {0}
RulesSee rules (r ∷ more) = BodySees rules (variables_of r) (rule_body r) × RulesSee rules more

rules_see : (rules earlier : List Name) (rs : List Rule) → RulesNamed rules earlier rs → RulesSee rules rs
unfolding RulesNamed RulesSee
rules_see rules earlier [] h = tt
rules_see rules earlier (r ∷ more) h = (body_sees rules (variables_of r) (rule_body r) h.1, rules_see rules (rule_name r ∷ earlier) more h.2)

pub later_members : (t : Rules) → refusal_6 t ≡ none → RulesSee (rule_names t) (rules_of t)
later_members t e = rules_see (rule_names t) [] (rules_of t) (named t e)
