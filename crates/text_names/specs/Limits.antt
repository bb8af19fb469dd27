-- Refusal 5: "a number of the Limits line passed", at "the rule in which it first is". "Limits: 64 rules, 256 constructs, 64 variables, 1,024
-- numbers, variable uses and signs". A rule's words have the totals at its end.
-- Assumes nothing.
use Rattle.std.specs.Prelude.{ℕ, Bool, ◌||◌, List, leb, ltb}
use Rattle.basis.specs.Limits.{max_rules, max_constructs, max_variables, max_terms}
use Rattle.text_names.specs.Counting.{place_if, least_between}
use Rattle.text_store.specs.Words.{named_at, last_node, terms_at_end, binders_at_end}

-- within rule k, or at its end, a total is past its limit
abbrev pub passed_in : List ℕ → ℕ → Bool
passed_in rs k = leb max_rules k || (ltb max_constructs (last_node rs k) || (ltb max_terms (terms_at_end rs k) || ltb max_variables (binders_at_end rs k)))

-- rule k's name, if so
abbrev pub limit_place : List ℕ → ℕ → ℕ
limit_place rs k = place_if (passed_in rs k) (named_at rs k)

-- the place of the refusal among r rules; `nowhere` where there is none. Rules stand in the order of their places, so the least is the first.
abbrev pub refusal_5 : List ℕ → ℕ → ℕ
refusal_5 rs r = least_between 0 r (limit_place rs)
