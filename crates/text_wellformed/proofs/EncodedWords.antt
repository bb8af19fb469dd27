-- Each word that is encoded, by its place: six areas are written one after the other into zeros, and none reaches into the next.
-- Assumes nothing.
use Prim.Native.Nat.{ℕ, ◌+◌, ◌*◌, ◌≤◌, ◌<◌}
use mathlib.Core.Path.{◌≡◌, refl, ap, ◌∙◌}
use mathlib.Core.Bool.{true}
use mathlib.Core.List.{List}
use native.Mathlib.Omega.{arith}
use native.Mathlib.Nat.{zero-add, mod-eq_of_lt}
use lib.ListN.{length, get_or, replicate, length-replicate, get_or-replicate, get_or-append}
use lib.Seq.{get_or-append-add}
use Rattle.basis.specs.Limits.{max_rules, max_constructs, max_variables, max_terms, table_words}
use Rattle.table_layout.specs.Places.{word, rules_at, variables_at, constructs_at, terms_at, literals_at}
use Rattle.text_store.specs.Words.{own_from, condition_from, is_binder}
use Rattle.text_encoding.proofs.Writing.{written_length}
use Rattle.text_encoding.proofs.Sizes.{variable_length, construct_length, term_length, list_length, lists_words_length, literal_length}
use Rattle.text_encoding.specs.Lists.{flat, sum, narrow, written}
use Rattle.text_encoding.specs.Numbers.{first_at, binds_one, binders_before, condition_length, own_length, lists_length, condition_start, own_start}
use Rattle.text_encoding.specs.Encoded.{header_words, rule_words, variable_words, construct_words, term_words, list_words, lists_words, literal_words, encoded}
use Rattle.text_wellformed.specs.Context.{Words}
use Rattle.text_wellformed.proofs.Areas.{written_below, written_above, written_at, sum_ones, sum_part, flat_length, flat_at, written_flat}

-- ---- how many words each piece has

abbrev one : ℕ → ℕ
one k = 1

rule_length : (ns rs : List ℕ) (k : ℕ) → length (rule_words ns rs k) ≡ 4 * one k
rule_length ns rs k = refl

-- word j of term m of a list, and of a construct's condition and its own list

list_at : (xs ns ts : List ℕ) (a i t n m j : ℕ) → m < n → j < 3 → get_or (list_words xs ns ts a i t n) (3 * m + j) 0 ≡ get_or (term_words xs ns ts a i (t + m)) j 0
list_at xs ns ts a i t n m j h l =
    let e : 3 * m + j ≡ 3 * sum m t one + j = omega (arith, sum_ones m t) in
    rw e (flat_at 3 (term_words xs ns ts a i) one (term_length xs ns ts a i) n t m j h l)

module _ (xs ns ts rs : List ℕ) (r i m j : ℕ) (l : j < 3) where
  abbrev condition_list : List ℕ
  condition_list = list_words xs ns ts (first_at rs r i) i (condition_from ns i) (condition_length ns i)

  abbrev own_list : List ℕ
  own_list = list_words xs ns ts (first_at rs r i) i (own_from ns i) (own_length ns i)

  condition_size : length condition_list ≡ 3 * condition_length ns i
  condition_size = list_length xs ns ts (first_at rs r i) i (condition_from ns i) (condition_length ns i)

  condition_at : m < condition_length ns i → get_or (lists_words xs ns ts rs r i) (3 * m + j) 0 ≡ get_or (term_words xs ns ts (first_at rs r i) i (condition_from ns i + m)) j 0
  condition_at h =
      get_or-append condition_list own_list 0 (3 * m + j) (omega (arith, condition_size))
      ∙ list_at xs ns ts (first_at rs r i) i (condition_from ns i) (condition_length ns i) m j h l

  own_at : m < own_length ns i → get_or (lists_words xs ns ts rs r i) (3 * (condition_length ns i + m) + j) 0 ≡ get_or (term_words xs ns ts (first_at rs r i) i (own_from ns i + m)) j 0
  own_at h =
      let e : 3 * (condition_length ns i + m) + j ≡ length condition_list + (3 * m + j) = omega (arith, condition_size) in
      rw e (get_or-append-add condition_list own_list (3 * m + j) 0 ∙ list_at xs ns ts (first_at rs r i) i (own_from ns i) (own_length ns i) m j h l)

-- ---- words that are 0 from a place on

record Blank (ws : List ℕ) (top : ℕ) : Type 0 where
  many : length ws ≡ table_words
  zeros : (j : ℕ) → top ≤ j → j < table_words → word ws j ≡ 0

next : {ws : List ℕ} {top : ℕ} → Blank ws top → (a : ℕ) (list : List ℕ) → top ≤ a → Blank (written ws a list) (a + length list)
next {ws} b a list h =
    record { many = written_length ws a list ∙ b.many; zeros = λ j l m. written_above ws a list j l ∙ b.zeros j (omega arith) m }

-- ---- all of it

module _ (xs ns ts rs : List ℕ) (n r : ℕ) (zs : List ℕ) where
  abbrev with_header : List ℕ
  with_header = written zs 0 (header_words ns n r)

  abbrev with_rules : List ℕ
  with_rules = written with_header rules_at (flat r 0 (rule_words ns rs))

  abbrev with_variables : List ℕ
  with_variables = written with_rules variables_at (flat n 0 (variable_words xs ns))

  abbrev with_constructs : List ℕ
  with_constructs = written with_variables constructs_at (flat n 0 (construct_words xs ns rs r))

  abbrev with_terms : List ℕ
  with_terms = written with_constructs terms_at (flat n 0 (lists_words xs ns ts rs r))

  abbrev with_literals : List ℕ
  with_literals = written with_terms literals_at (flat n 0 (literal_words xs ns))

  module _ (nodes : n ≤ max_constructs) (rules : r ≤ max_rules) (binders : binders_before ns n ≤ max_variables) (terms : condition_start ns n ≤ max_terms) (blank : Blank zs 0) where
    rules_size : length (flat r 0 (rule_words ns rs)) ≡ 4 * r
    rules_size = flat_length 4 (rule_words ns rs) one (rule_length ns rs) r 0 ∙ ap (λ (z : ℕ). 4 * z) (sum_ones r 0)

    variables_size : length (flat n 0 (variable_words xs ns)) ≡ 4 * binders_before ns n
    variables_size = flat_length 4 (variable_words xs ns) (binds_one ns) (variable_length xs ns) n 0

    constructs_size : length (flat n 0 (construct_words xs ns rs r)) ≡ 8 * n
    constructs_size = flat_length 8 (construct_words xs ns rs r) one (construct_length xs ns rs r) n 0 ∙ ap (λ (z : ℕ). 8 * z) (sum_ones n 0)

    terms_size : length (flat n 0 (lists_words xs ns ts rs r)) ≡ 3 * condition_start ns n
    terms_size = flat_length 3 (lists_words xs ns ts rs r) (lists_length ns) (lists_words_length xs ns ts rs r) n 0

    literals_size : length (flat n 0 (literal_words xs ns)) ≡ 8 * n
    literals_size = flat_length 8 (literal_words xs ns) one (literal_length xs ns) n 0 ∙ ap (λ (z : ℕ). 8 * z) (sum_ones n 0)

    -- behind each area there are zeros
    header_blank : Blank with_header 6
    header_blank = next blank 0 (header_words ns n r) (omega arith)

    rules_blank : Blank with_rules (rules_at + length (flat r 0 (rule_words ns rs)))
    rules_blank = next header_blank rules_at (flat r 0 (rule_words ns rs)) (omega arith)

    variables_blank : Blank with_variables (variables_at + length (flat n 0 (variable_words xs ns)))
    variables_blank = next rules_blank variables_at (flat n 0 (variable_words xs ns)) (omega (arith, rules_size))

    constructs_blank : Blank with_constructs (constructs_at + length (flat n 0 (construct_words xs ns rs r)))
    constructs_blank = next variables_blank constructs_at (flat n 0 (construct_words xs ns rs r)) (omega (arith, variables_size))

    terms_blank : Blank with_terms (terms_at + length (flat n 0 (lists_words xs ns ts rs r)))
    terms_blank = next constructs_blank terms_at (flat n 0 (lists_words xs ns ts rs r)) (omega (arith, constructs_size))

    literals_blank : Blank with_literals (literals_at + length (flat n 0 (literal_words xs ns)))
    literals_blank = next terms_blank literals_at (flat n 0 (literal_words xs ns)) (omega (arith, terms_size))

    -- what is before an area is not changed by those from it on
    before_literals : (j : ℕ) → j < literals_at → word with_literals j ≡ word with_terms j
    before_literals j h = written_below with_terms literals_at (flat n 0 (literal_words xs ns)) j h

    before_terms : (j : ℕ) → j < terms_at → word with_literals j ≡ word with_constructs j
    before_terms j h = before_literals j (omega arith) ∙ written_below with_constructs terms_at (flat n 0 (lists_words xs ns ts rs r)) j h

    before_constructs : (j : ℕ) → j < constructs_at → word with_literals j ≡ word with_variables j
    before_constructs j h = before_terms j (omega arith) ∙ written_below with_variables constructs_at (flat n 0 (construct_words xs ns rs r)) j h

    before_variables : (j : ℕ) → j < variables_at → word with_literals j ≡ word with_rules j
    before_variables j h = before_constructs j (omega arith) ∙ written_below with_rules variables_at (flat n 0 (variable_words xs ns)) j h

    before_rules : (j : ℕ) → j < rules_at → word with_literals j ≡ word with_header j
    before_rules j h = before_variables j (omega arith) ∙ written_below with_header rules_at (flat r 0 (rule_words ns rs)) j h

    -- a word of the header
    header_at : (j : ℕ) → j < 6 → word with_literals j ≡ narrow (get_or (header_words ns n r) j 0)
    header_at j h =
        let e : j ≡ 0 + j = omega arith in
        before_rules j (omega arith) ∙ ap (word with_header) e ∙ written_at zs 0 (header_words ns n r) j (omega (arith, blank.many)) h

    rule_at : (k j : ℕ) → k < r → j < 4 → word with_literals (rules_at + 4 * k + j) ≡ narrow (get_or (rule_words ns rs k) j 0)
    rule_at k j h l =
        before_variables (rules_at + 4 * k + j) (omega arith)
        ∙ written_flat 4 (rule_words ns rs) one (rule_length ns rs) with_header rules_at r k j (rules_at + 4 * k + j) (omega (arith, header_blank.many, sum_ones r 0)) h l (omega (arith, sum_ones k 0))

    variable_at : (i j : ℕ) → i < n → is_binder ns i ≡ true → j < 4 → word with_literals (variables_at + 4 * binders_before ns i + j) ≡ narrow (get_or (variable_words xs ns i) j 0)
    variable_at i j h b l =
        let q : binds_one ns i ≡ 1 = rw b in
        before_constructs (variables_at + 4 * binders_before ns i + j) (omega (arith, sum_part (binds_one ns) n i 0 h, ap (binds_one ns) (zero-add i)))
        ∙ written_flat 4 (variable_words xs ns) (binds_one ns) (variable_length xs ns) with_rules variables_at n i j (variables_at + 4 * binders_before ns i + j) (omega (arith, rules_blank.many)) h (omega arith) refl

    construct_numbered : (i j : ℕ) → i < n → j < 8 → word with_literals (constructs_at + 8 * i + j) ≡ narrow (get_or (construct_words xs ns rs r i) j 0)
    construct_numbered i j h l =
        before_terms (constructs_at + 8 * i + j) (omega arith)
        ∙ written_flat 8 (construct_words xs ns rs r) one (construct_length xs ns rs r) with_variables constructs_at n i j (constructs_at + 8 * i + j) (omega (arith, variables_blank.many, sum_ones n 0)) h l (omega (arith, sum_ones i 0))

    -- word j of the lists of construct i
    lists_at : (i j : ℕ) → i < n → j < 3 * lists_length ns i → word with_literals (terms_at + 3 * condition_start ns i + j) ≡ narrow (get_or (lists_words xs ns ts rs r i) j 0)
    lists_at i j h l =
        before_literals (terms_at + 3 * condition_start ns i + j) (omega (arith, sum_part (lists_length ns) n i 0 h, ap (lists_length ns) (zero-add i)))
        ∙ written_flat 3 (lists_words xs ns ts rs r) (lists_length ns) (lists_words_length xs ns ts rs r) with_constructs terms_at n i j (terms_at + 3 * condition_start ns i + j) (omega (arith, constructs_blank.many)) h l refl

    condition_term : (i m j : ℕ) → i < n → m < condition_length ns i → j < 3 → word with_literals (terms_at + 3 * (condition_start ns i + m) + j) ≡ narrow (get_or (term_words xs ns ts (first_at rs r i) i (condition_from ns i + m)) j 0)
    condition_term i m j h k l =
        let e : terms_at + 3 * (condition_start ns i + m) + j ≡ terms_at + 3 * condition_start ns i + (3 * m + j) = omega arith in
        rw e (lists_at i (3 * m + j) h (omega arith) ∙ ap narrow (condition_at xs ns ts rs r i m j l k))

    own_term : (i m j : ℕ) → i < n → m < own_length ns i → j < 3 → word with_literals (terms_at + 3 * (own_start ns i + m) + j) ≡ narrow (get_or (term_words xs ns ts (first_at rs r i) i (own_from ns i + m)) j 0)
    own_term i m j h k l =
        let e : terms_at + 3 * (own_start ns i + m) + j ≡ terms_at + 3 * condition_start ns i + (3 * (condition_length ns i + m) + j) = omega arith in
        rw e (lists_at i (3 * (condition_length ns i + m) + j) h (omega arith) ∙ ap narrow (own_at xs ns ts rs r i m j l k))

    literal_at : (i j : ℕ) → i < n → j < 8 → word with_literals (literals_at + 8 * i + j) ≡ narrow (get_or (literal_words xs ns i) j 0)
    literal_at i j h l =
        written_flat 8 (literal_words xs ns) one (literal_length xs ns) with_terms literals_at n i j (literals_at + 8 * i + j) (omega (arith, terms_blank.many, sum_ones n 0)) h l (omega (arith, sum_ones i 0))

    small : (k : ℕ) → k < 4294967296 → narrow k ≡ k
    small k h = mod-eq_of_lt h

    all : Words xs ns ts rs n r with_literals
    all =
        record {
          many = literals_blank.many;
          mark_is = header_at 0 (omega arith);
          rules_are = header_at 1 (omega arith) ∙ small r (omega arith);
          constructs_are = header_at 2 (omega arith) ∙ small n (omega arith);
          variables_are = header_at 3 (omega arith) ∙ small (binders_before ns n) (omega arith);
          terms_are = header_at 4 (omega arith) ∙ small (condition_start ns n) (omega arith);
          weight_is = header_at 5 (omega arith);
          header_rest = λ k l h. before_rules k h ∙ header_blank.zeros k l (omega arith);
          rule_at = rule_at;
          rules_rest = λ k l h. before_variables k h ∙ rules_blank.zeros k (omega (arith, rules_size)) (omega arith);
          variable_at = variable_at;
          variables_rest = λ k l h. before_constructs k h ∙ variables_blank.zeros k (omega (arith, variables_size)) (omega arith);
          construct_numbered = construct_numbered;
          constructs_rest = λ k l h. before_terms k h ∙ constructs_blank.zeros k (omega (arith, constructs_size)) (omega arith);
          condition_term = condition_term;
          own_term = own_term;
          terms_rest = λ k l h. before_literals k h ∙ terms_blank.zeros k (omega (arith, terms_size)) (omega arith);
          literal_at = literal_at;
          literals_rest = λ k l h. literals_blank.zeros k (omega (arith, literals_size)) h;
        }

pub encoded_words : (xs ns ts rs : List ℕ) (n r : ℕ) → n ≤ max_constructs → r ≤ max_rules → binders_before ns n ≤ max_variables → condition_start ns n ≤ max_terms → Words xs ns ts rs n r (encoded xs ns ts rs n r)
unfolding encoded
encoded_words xs ns ts rs n r nodes rules binders terms =
    all xs ns ts rs n r (replicate table_words 0) nodes rules binders terms (record { many = length-replicate {A = ℕ} table_words 0; zeros = λ j l h. get_or-replicate {A = ℕ} table_words j 0 0 h })
