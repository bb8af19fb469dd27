-- Refusal 5: "a number of the Limits line passed", at "the rule in which it first is". "Limits: 64 rules, 256 constructs, 64 variables, 1,024 numbers,
-- variable uses and signs (…) in sets, counts and conditions (parentheses free)."
-- Assumes nothing.
use Rattle.std.specs.Prelude.{ℕ, suc, ◌+◌, Bool, true, false, ◌||◌, List, [], ◌∷◌, ◌++◌, ltb, length}
use Rattle.std.proofs.Math.Option.{Option}
use Rattle.basis.specs.Limits.{max_rules, max_constructs, max_variables, max_terms}
use Rattle.tree.specs.Tree.{Part, Tree, literal, range, field, binder, rule_use, eod, group, switch, last_case, case_default, case_cases, once, repeated, last_member, and_members, last_branch, or_branches, Rule, Rules}
use Rattle.tree_meaning.specs.Pieces.{terms_of, Piece, use_of_rule, width, formula, binding, rules_of, rule_name, rule_body, rule_pieces, variables_of}
use Rattle.tree_meaning.specs.Places.{place_if, least}

-- "Constructs are alternatives and concatenations (each one for a whole chain), repetitions, switches, rule uses, literals, ranges, uint, eod." A chain has two
-- or more parts; `begun` says that its construct is counted already. Parentheses are none.
unfoldable pub constructs : {p : Part} {d : ℕ} → (begun : Bool) → Tree p d → ℕ
constructs begun (literal l) = 1
constructs begun (range a s b one one') = 1
constructs begun (field signed depth u opens n comma x closes) = 1
constructs begun (binder signed depth u opens n comma v opens' x comma' y closes closes') = 1
constructs begun (rule_use x other) = 1
constructs begun (eod s) = 1
constructs begun (group depth opens x closes) = constructs false x
constructs begun (switch depth opens x closes) = suc (constructs false x)
constructs begun (last_case c colon x end) = constructs false x
constructs begun (case_default c colon x end colon' y end') = constructs false x + constructs false y
constructs begun (case_cases c colon x end more) = constructs false x + constructs false more
constructs begun (once x) = constructs false x
constructs begun (repeated x m) = suc (constructs false x)
constructs begun (last_member x) = constructs false x
constructs false (and_members x s more) = suc (constructs false x + constructs true more)
constructs true (and_members x s more) = constructs false x + constructs true more
constructs begun (last_branch x) = constructs false x
constructs false (or_branches x s more) = suc (constructs false x + constructs true more)
constructs true (or_branches x s more) = constructs false x + constructs true more

abbrev pub rule_constructs : Rule → ℕ
rule_constructs r = constructs false (rule_body r)

-- "numbers, variable uses and signs (…) in sets, counts and conditions"; a width is none
unfoldable pub terms : List Piece → ℕ
terms [] = 0
terms (use_of_rule x ∷ more) = terms more
terms (width most n ∷ more) = terms more
terms (formula f ∷ more) = length (terms_of f) + terms more
terms (binding x signed n placed ∷ more) = terms more

-- ---- totals from the first rule on

pub record Totals : Type 0 where
  pub rules : ℕ
  pub all_constructs : ℕ
  pub variables : ℕ
  pub all_terms : ℕ

abbrev pub no_rule : Totals
no_rule = record { rules = 0; all_constructs = 0; variables = 0; all_terms = 0 }

-- with one rule more
abbrev pub with_rule : Totals → Rule → Totals
with_rule n r =
    record {
      rules = suc n.rules;
      all_constructs = n.all_constructs + rule_constructs r;
      variables = n.variables + length (variables_of r);
      all_terms = n.all_terms + terms (rule_pieces r);
    }

-- one is passed
abbrev pub is_past : Totals → Bool
is_past n = ltb max_rules n.rules || (ltb max_constructs n.all_constructs || (ltb max_variables n.variables || ltb max_terms n.all_terms))

-- the rules at whose end one is passed, after rules of these totals
unfoldable pub limit_faults : Totals → List Rule → List ℕ
limit_faults n [] = []
limit_faults n (r ∷ more) = place_if (is_past (with_rule n r)) (rule_name r).start ++ limit_faults (with_rule n r) more

abbrev pub refusal_5 : Rules → Option ℕ
refusal_5 t = least (limit_faults no_rule (rules_of t))
