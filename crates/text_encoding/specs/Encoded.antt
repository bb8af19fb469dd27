-- The words of a table (docs/TABLE.md) from what is read, without sets and with weight 1: `table_fill` writes those.
-- Assumes nothing.
use Rattle.std.specs.Prelude.{ℕ, ◌+◌, ◌*◌, ◌-◌, ◌/◌, cond, ◌&&◌, List, [], ◌∷◌, ◌++◌, ltb, eqb, get_or, length, replicate}
use Rattle.table_layout.specs.Places.{rules_at, variables_at, constructs_at, terms_at, literals_at}
use Rattle.basis.specs.Limits.{table_words}
use Rattle.text_literals.specs.Literals.{characters_at}
use Rattle.text_store.specs.Words.{kind_of, node_size, place_of, node_mark, last_place, own_from, condition_from, is_binder, term_tag, term_value, stored_term_at, is_use, first_node, last_node}
use Rattle.text_encoding.specs.Lists.{flat, written}
use Rattle.text_encoding.specs.Numbers.{rule_of, first_at, binders_before, variable_of, width_of, is_signed, condition_length, own_length, condition_start, own_start}

-- the mark, how many rules, constructs, variables and terms, and weight 1 until the weight is known
abbrev pub header_words : List ℕ → ℕ → ℕ → List ℕ
header_words ns n r = 1399811687 ∷ r ∷ n ∷ binders_before ns n ∷ condition_start ns n ∷ 1 ∷ []

-- a rule: its body, its first variable, how many it has
abbrev pub rule_words : List ℕ → List ℕ → ℕ → List ℕ
rule_words ns rs k =
    first_node rs k ∷ binders_before ns (first_node rs k) ∷ (binders_before ns (last_node rs k) - binders_before ns (first_node rs k)) ∷ 0 ∷ []

-- a variable, where node i binds one: the construct, its width, and 1 where it is signed
abbrev pub variable_words : List ℕ → List ℕ → ℕ → List ℕ
variable_words xs ns i = cond (is_binder ns i) (i ∷ width_of xs ns i ∷ cond (is_signed xs ns i) 1 0 ∷ 0 ∷ []) []

-- ---- constructs

-- a list's words: from, where it is not empty; else 0
abbrev pub start_word : ℕ → ℕ → ℕ
start_word start n = cond (ltb 0 n) start 0

-- and up to
abbrev pub end_word : ℕ → ℕ → ℕ
end_word start n = cond (ltb 0 n) (start + n) 0

-- the operands of each kind; a repetition's counts and a uint's set are its own list
abbrev pub operands : (xs ns rs : List ℕ) → (r i kind : ℕ) → List ℕ
operands xs ns rs r i kind =
    cond (eqb kind 3) (node_mark ns i ∷ start_word (own_start ns i) (own_length ns i) ∷ end_word (own_start ns i) (own_length ns i) ∷ 0 ∷ [])
    (cond (eqb kind 5) (rule_of xs rs r (place_of ns i) ∷ 0 ∷ 0 ∷ 0 ∷ [])
    (cond (eqb kind 6) (length (characters_at xs (place_of ns i)) ∷ 0 ∷ 0 ∷ 0 ∷ [])
    (cond (eqb kind 7) (get_or (characters_at xs (place_of ns i)) 0 0 ∷ get_or (characters_at xs (last_place ns i)) 0 0 ∷ 0 ∷ 0 ∷ [])
    (cond (eqb kind 8) (width_of xs ns i ∷ start_word (own_start ns i) (own_length ns i) ∷ end_word (own_start ns i) (own_length ns i) ∷ cond (is_binder ns i) (binders_before ns i + 1) 0 ∷ [])
    (0 ∷ 0 ∷ 0 ∷ 0 ∷ [])))))

-- a sint is kind 12 and has a uint's operands
abbrev pub kind_word : List ℕ → List ℕ → ℕ → ℕ
kind_word xs ns i = cond (eqb (kind_of ns i) 8 && is_signed xs ns i) 12 (kind_of ns i)

-- eight words: kind, size, four operands, and the terms of its condition, from and up to
abbrev pub construct_words : (xs ns rs : List ℕ) → (r i : ℕ) → List ℕ
construct_words xs ns rs r i =
    kind_word xs ns i ∷ node_size ns i ∷ (operands xs ns rs r i (kind_of ns i) ++ (start_word (condition_start ns i) (condition_length ns i) ∷ end_word (condition_start ns i) (condition_length ns i) ∷ []))

-- ---- terms

-- term t of those read, in a list of node i of a rule whose first node is a
abbrev pub term_words : (xs ns ts : List ℕ) → (a i t : ℕ) → List ℕ
term_words xs ns ts a i t =
    cond (is_use (term_tag ts t)) (term_tag ts t ∷ variable_of xs ns a i (stored_term_at ts t) ∷ 0 ∷ [])
    (term_tag ts t ∷ term_value ts t ∷ term_value ts t / 4294967296 ∷ [])

-- n terms from term t on
abbrev pub list_words : (xs ns ts : List ℕ) → (a i t n : ℕ) → List ℕ
list_words xs ns ts a i t n = flat n t (term_words xs ns ts a i)

-- "for each construct its condition's terms, then its own": node i, of a rule whose first node is a
abbrev pub two_lists : (xs ns ts : List ℕ) → (a i : ℕ) → List ℕ
two_lists xs ns ts a i = list_words xs ns ts a i (condition_from ns i) (condition_length ns i) ++ list_words xs ns ts a i (own_from ns i) (own_length ns i)

-- the same, whichever rule node i is in
abbrev pub lists_words : (xs ns ts rs : List ℕ) → (r i : ℕ) → List ℕ
lists_words xs ns ts rs r i = two_lists xs ns ts (first_at rs r i) i

-- ---- literals: four bytes to a word, the first lowest

abbrev pub packed : List ℕ → ℕ → ℕ
packed bytes k = get_or bytes k 0 + 256 * (get_or bytes (k + 1) 0 + 256 * (get_or bytes (k + 2) 0 + 256 * get_or bytes (k + 3) 0))

-- node i has 32 bytes there, all 0 where it is no literal
abbrev pub literal_words : List ℕ → List ℕ → ℕ → List ℕ
literal_words xs ns i =
    cond (eqb (kind_of ns i) 6) (flat 8 0 (λ j. packed (characters_at xs (place_of ns i)) (4 * j) ∷ [])) (replicate 8 0)

-- ---- all of it

unfoldable pub encoded : (xs ns ts rs : List ℕ) → (n r : ℕ) → List ℕ
encoded xs ns ts rs n r =
    written
    (written
    (written
    (written (written (written (replicate table_words 0) 0 (header_words ns n r)) rules_at (flat r 0 (rule_words ns rs))) variables_at (flat n 0 (variable_words xs ns)))
    constructs_at
    (flat n 0 (construct_words xs ns rs r)))
    terms_at
    (flat n 0 (lists_words xs ns ts rs r)))
    literals_at
    (flat n 0 (literal_words xs ns))
