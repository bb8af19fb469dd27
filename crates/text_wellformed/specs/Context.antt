-- What is known of a text that has passed 5 and 6 and the widths of 8, and of the words that are encoded from it.
-- Assumes nothing.
use Rattle.std.specs.Prelude.{ℕ, ◌+◌, ◌*◌, ◌^◌, ◌≤◌, ◌<◌, ◌≡◌, ◌⊎◌, true, cond, List, length, get_or}
use Rattle.basis.specs.Limits.{max_text_bytes, max_rules, max_constructs, max_variables, max_terms, table_words}
use Rattle.table_layout.specs.Constructs.{widest_for}
use Rattle.table_layout.specs.Places.{word, rules_at, variables_at, constructs_at, terms_at, literals_at}
use Rattle.text_shapes.specs.NodeShapes.{Unconditioned, Conditioned, tree, Holds, Rules}
use Rattle.text_names.specs.Counting.{nowhere}
use Rattle.text_store.specs.Words.{kind_of, node_mark, own_from, condition_from, is_binder, term_tag, term_value, nodes_room, terms_room, rules_room}
use Rattle.text_names.specs.Names.{refusal_6}
use Rattle.text_encoding.specs.Lists.{narrow}
use Rattle.text_encoding.specs.Numbers.{first_at, binders_before, width_of, condition_length, own_length, condition_start, own_start}
use Rattle.text_encoding.specs.Encoded.{rule_words, variable_words, construct_words, term_words, literal_words}

-- what is read: shaped as its form has it, within 5's limits, with the names that 6 asks for and the widths that 8 does; 2^62 + 1 stands for a number that is more
pub record Readable (xs ns ts rs : List ℕ) (n t b r : ℕ) : Type 0 where
  pub rules : Rules xs ns ts rs r n t b 0 0 0 0
  pub some : 1 ≤ r
  pub node_length : length ns ≡ nodes_room
  pub term_length : length ts ≡ terms_room
  pub rule_length : length rs ≡ rules_room
  pub nodes_limit : n ≤ max_constructs
  pub terms_limit : t ≤ max_terms
  pub binders_limit : b ≤ max_variables
  pub rules_limit : r ≤ max_rules
  pub short : length xs ≤ max_text_bytes
  pub named : refusal_6 xs ns ts rs r ≡ nowhere
  pub widths : (i : ℕ) → i < n → kind_of ns i ≡ 8 → (1 ≤ width_of xs ns i) × (width_of xs ns i ≤ widest_for (cond (is_binder ns i) (binders_before ns i + 1) 0))
  pub numbers : (k : ℕ) → k < t → (term_tag ts k ≡ 1) ⊎ (term_tag ts k ≡ 33) → term_value ts k < 2 ^ 63

-- the words by place
pub record Words (xs ns ts rs : List ℕ) (n r : ℕ) (ws : List ℕ) : Type 0 where
  pub many : length ws ≡ table_words
  pub mark_is : word ws 0 ≡ 1399811687
  pub rules_are : word ws 1 ≡ r
  pub constructs_are : word ws 2 ≡ n
  pub variables_are : word ws 3 ≡ binders_before ns n
  pub terms_are : word ws 4 ≡ condition_start ns n
  pub weight_is : word ws 5 ≡ 1
  pub header_rest : (k : ℕ) → 6 ≤ k → k < rules_at → word ws k ≡ 0
  pub rule_at : (k j : ℕ) → k < r → j < 4 → word ws (rules_at + 4 * k + j) ≡ narrow (get_or (rule_words ns rs k) j 0)
  pub rules_rest : (k : ℕ) → rules_at + 4 * r ≤ k → k < variables_at → word ws k ≡ 0
  pub variable_at : (i j : ℕ) → i < n → is_binder ns i ≡ true → j < 4 → word ws (variables_at + 4 * binders_before ns i + j) ≡ narrow (get_or (variable_words xs ns i) j 0)
  pub variables_rest : (k : ℕ) → variables_at + 4 * binders_before ns n ≤ k → k < constructs_at → word ws k ≡ 0
  pub construct_numbered : (i j : ℕ) → i < n → j < 8 → word ws (constructs_at + 8 * i + j) ≡ narrow (get_or (construct_words xs ns rs r i) j 0)
  pub constructs_rest : (k : ℕ) → constructs_at + 8 * n ≤ k → k < terms_at → word ws k ≡ 0
  pub condition_term : (i m j : ℕ) → i < n → m < condition_length ns i → j < 3 → word ws (terms_at + 3 * (condition_start ns i + m) + j) ≡ narrow (get_or (term_words xs ns ts (first_at rs r i) i (condition_from ns i + m)) j 0)
  pub own_term : (i m j : ℕ) → i < n → m < own_length ns i → j < 3 → word ws (terms_at + 3 * (own_start ns i + m) + j) ≡ narrow (get_or (term_words xs ns ts (first_at rs r i) i (own_from ns i + m)) j 0)
  pub terms_rest : (k : ℕ) → terms_at + 3 * condition_start ns n ≤ k → k < literals_at → word ws k ≡ 0
  pub literal_at : (i j : ℕ) → i < n → j < 8 → word ws (literals_at + 8 * i + j) ≡ narrow (get_or (literal_words xs ns i) j 0)
  pub literals_rest : (k : ℕ) → literals_at + 8 * n ≤ k → k < table_words → word ws k ≡ 0

-- ---- node by node

-- a node other than a counted repetition or a uint has no list of its own
abbrev pub QuietAt : List ℕ → ℕ → Type 0
QuietAt ns i = (kind_of ns i ≡ 8 → ⊥) → ((kind_of ns i ≡ 3) × (node_mark ns i ≡ 4) → ⊥) → own_length ns i ≡ 0

-- all of n nodes are so
abbrev pub Quiet : List ℕ → ℕ → Type 0
Quiet ns n = (i : ℕ) → i < n → QuietAt ns i

-- a tree begins at node i
pub record TreeAt (xs ns ts : List ℕ) (n t i : ℕ) : Type 0 where
  pub end : ℕ
  pub first : ℕ
  pub last : ℕ
  pub count : ℕ
  pub within : end ≤ n
  pub terms_within : last ≤ t
  pub holds : Holds xs ns ts tree i end first last count

-- node i is a case with a condition, or not
pub data ConditionAt (ns ts : List ℕ) (t i : ℕ) : Type 0 where
  without : Unconditioned ns i → ConditionAt ns ts t i
  with_one : {f h : ℕ} → Conditioned ns ts i f h → h ≤ t → ConditionAt ns ts t i

-- every node begins a tree, with a condition or without
pub record Nodes (xs ns ts : List ℕ) (n t : ℕ) : Type 0 where
  pub trees : (i : ℕ) → i < n → TreeAt xs ns ts n t i
  pub conditions : (i : ℕ) → i < n → ConditionAt ns ts t i
