-- "each admitted grammar has one table": when do two lists of words hold the same grammar?
-- Assumes nothing.
use Rattle.std.specs.Prelude.{ℕ, ◌+◌, ◌*◌, ◌^◌, ◌≤◌, ◌<◌, ◌≡◌, List, length}
use Rattle.basis.specs.Limits.{max_weight}
use Rattle.term_words.specs.Words.{term_at}
use Rattle.table_layout.specs.Places.{word, table_words, sets_at, rule_count, construct_count, variable_count, term_count, weight_of, rule_word, variable_word, construct_word}
use Rattle.table_layout.specs.Constructs.{construct_at}
use Rattle.table_layout.specs.Held.{term_words, literal_bytes}
use Rattle.table_layout.specs.declared.Construct.{Construct}
use Rattle.table_judge.specs.Sound.{Sound}

-- The words agree in all that a grammar is read from: below the sets, but for the weight (word 5).
pub record Alike (ws ws' : List ℕ) : Type 0 where
  pub long : sets_at ≤ length ws
  pub long' : sets_at ≤ length ws'
  pub same : (k : ℕ) → k < sets_at → (k ≡ 5 → ⊥) → word ws k ≡ word ws' k

-- What the layout asks of the other words: "weight over 65,535" (11) does not stand there, and words past the sets are 0.
pub record Ended (ws : List ℕ) : Type 0 where
  pub long : table_words ≤ length ws
  pub some_weight : 1 ≤ weight_of ws
  pub weight : weight_of ws ≤ max_weight
  pub zeros : (k : ℕ) → sets_at + 32 * construct_count ws ≤ k → k < table_words → word ws k ≡ 0

-- The words hold the same grammar: rules, variables, constructs, terms and bytes of literals are the same as they are read, whatever their
-- other words are.
pub record SameGrammar (ws ws' : List ℕ) : Type 0 where
  pub rules : rule_count ws ≡ rule_count ws'
  pub constructs : construct_count ws ≡ construct_count ws'
  pub variables : variable_count ws ≡ variable_count ws'
  pub terms : term_count ws ≡ term_count ws'
  -- a rule has its body, its first variable and how many it has
  pub rule : (r : ℕ) → r < rule_count ws → (rule_word ws r 0 ≡ rule_word ws' r 0) × (rule_word ws r 1 ≡ rule_word ws' r 1) × (rule_word ws r 2 ≡ rule_word ws' r 2)
  -- a variable has its binder and its width
  pub variable : (x : ℕ) → x < variable_count ws → (variable_word ws x 0 ≡ variable_word ws' x 0) × (variable_word ws x 1 ≡ variable_word ws' x 1)
  -- a construct is what its words say, under the condition of these terms, from and up to
  pub construct : (i : ℕ) → i < construct_count ws → construct_at ws i ≡ construct_at ws' i
  pub condition : (i : ℕ) → i < construct_count ws → (construct_word ws i 6 ≡ construct_word ws' i 6) × (construct_word ws i 7 ≡ construct_word ws' i 7)
  pub term : (k : ℕ) → k < term_count ws → term_at (term_words ws) k ≡ term_at (term_words ws') k
  pub literal : (i n : ℕ) → i < construct_count ws → construct_at ws i ≡ Construct.Literal n → literal_bytes ws i 0 n ≡ literal_bytes ws' i 0 n

-- "each admitted grammar has one table, sound and with unused words 0": of 16,384 u32 words
abbrev pub OneTable : Type 0
OneTable =
    (ws ws' : List ℕ) → length ws ≡ table_words → length ws' ≡ table_words → ((k : ℕ) → word ws k < 2 ^ 32) → ((k : ℕ) → word ws' k < 2 ^ 32)
    → Sound ws → Sound ws' → SameGrammar ws ws' → ws ≡ ws'
