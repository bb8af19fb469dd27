-- What a text has at a construct, a rule or a name. "Constructs … are numbered from 0 in text order, the outer before the inner; a construct's
-- place is its first byte".
-- Assumes nothing.
use Rattle.std.specs.Prelude.{ℕ, ◌+◌, ◌-◌, cond, List, ltb, length, drop}
use Rattle.basis.specs.Limits.{max_text_bytes}
use Rattle.text_header.specs.Header.{header_of}
use Rattle.text_header.specs.declared.Heading.{Heading}
use Rattle.text_store.specs.Store.{node_words, term_words, rule_words, nodes_of, rules_of}
use Rattle.text_parsing.specs.Form.{Outcome, right, refused}
use Rattle.text_store.specs.Words.{kind_of, place_of, named_at, last_node, terms_at_end, binders_at_end}
use Rattle.text_admission.specs.Admitted.{form}
use Rattle.report_faults.specs.Faults.{from_base, rule_number, first_rule, name_fault}
use Rattle.report_further.specs.Further.{next_fault}
use Rattle.report_places.specs.declared.Located.{Located}
use Rattle.report_places.specs.declared.Query.{Query}

-- rules, constructs, terms and variables up to the end of rule k
abbrev pub totals_of : List ℕ → ℕ → Located
totals_of rs k = Located.Rule (k + 1) (last_node rs k) (terms_at_end rs k) (binders_at_end rs k)

-- of the text xs of the rules, which begin at `base`, with n nodes and r rules
abbrev pub answered : (xs ns ts rs : List ℕ) → (base n r : ℕ) → Query → Located
answered xs ns ts rs base n r (Query.Construct i) = Located.Construct (base + place_of ns i) (kind_of ns i) n
answered xs ns ts rs base n r (Query.Rule at) = totals_of rs (rule_number rs r (at - base))
answered xs ns ts rs base n r (Query.Owner at) = Located.Place (from_base base (named_at rs (rule_number rs r (at - base))))
answered xs ns ts rs base n r (Query.Definition at) = Located.Place (from_base base (first_rule xs rs r (at - base)))
answered xs ns ts rs base n r (Query.Name at) = Located.Name (name_fault xs ns rs base n r (at - base))
answered xs ns ts rs base n r (Query.Fault at) = Located.Place (from_base base (next_fault (at - base) xs ns ts rs r))

-- by the form of the rules
abbrev pub located_in : (xs : List ℕ) → (base : ℕ) → Query → Outcome → Located
located_in xs base q (right st) = answered xs (node_words st) (term_words st) (rule_words st) base (nodes_of st) (rules_of st) q
located_in xs base q (refused p) = Located.Nothing

-- after a header
abbrev pub located_after : List ℕ → Query → Heading → Located
located_after text q (Heading.Rules base) = located_in (drop base text) base q (form (drop base text))
located_after text q (Heading.Wrong p) = Located.Nothing

-- "1 to 8,192 bytes"
abbrev pub located : List ℕ → Query → Located
located text q = cond (ltb max_text_bytes (length text)) Located.Nothing (located_after text q (header_of text))
