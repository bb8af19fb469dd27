-- What an answer to a text says: "1 to 11 are tried in order", then 12 and 13 (Req 06); "within one, the smallest place, outer first. A refused grammar changes no word of
-- the table."
-- Assumes nothing.
use Rattle.std.specs.Prelude.{ℕ, ◌+◌, ◌≤◌, ◌<◌, ◌≡◌, ◌⊎◌, List, length, drop, replicate}
use Rattle.basis.specs.Limits.{max_text_bytes, max_weight}
use Rattle.theory.specs.Lookahead.{EmptyBody}
use Rattle.table_layout.specs.Places.{table_words, table_of}
use Rattle.table_layout.specs.Held.{held}
use Rattle.table_reach.specs.Reaching.{Reaches, Acyclic, AllReached, FirstUnreached}
use Rattle.table_conflicts.specs.Conflicts.{Conflicting, Answered}
use Rattle.table_conflicts.specs.declared.Clash.{Clash}
use Rattle.table_judge.specs.Judged.{Passed9, Passed10, Least, None, Weighing, Light, Valueless}
use Rattle.table_judge.specs.Sound.{Sound}
use Rattle.table_hypotheses.specs.OneTable.{Alike}
use Rattle.text_header.specs.Header.{header_of}
use Rattle.text_header.specs.declared.Heading.{Heading}
use Rattle.text_store.specs.Store.{State, node_words, term_words, rule_words, nodes_of, terms_of, rules_of}
use Rattle.text_parsing.specs.Form.{Outcome, right, refused}
use Rattle.text_syntax.specs.Rules.{form_of}
use Rattle.text_names.specs.Counting.{nowhere}
use Rattle.text_store.specs.Words.{place_of, mark_place, named_at, nodes_room, terms_room, rules_room}
use Rattle.text_names.specs.Limits.{refusal_5}
use Rattle.text_names.specs.Names.{refusal_6}
use Rattle.text_encoding.specs.Encoded.{encoded}
use Rattle.text_admission.specs.Extents.{refusal_8}
use Rattle.text_admission.specs.declared.Admission.{Admission}
use Rattle.text_admission.specs.declared.Found.{Found}

-- ---- what a text is, stage by stage. `xs` is the text that follows the empty line

-- the form of the rules: what is read, or the place of refusal 4
abbrev pub form : List ℕ → Outcome
form xs = form_of xs (replicate nodes_room 0) (replicate terms_room 0) (replicate rules_room 0)

-- the words of the table of what is read
abbrev pub words_of : List ℕ → State → List ℕ
words_of xs st = encoded xs (node_words st) (term_words st) (rule_words st) (nodes_of st) (rules_of st)

-- the places of refusals 5, 6 and 8 in what is read
abbrev pub fault_5 : State → ℕ
fault_5 st = refusal_5 (rule_words st) (rules_of st)

abbrev pub fault_6 : List ℕ → State → ℕ
fault_6 xs st = refusal_6 xs (node_words st) (term_words st) (rule_words st) (rules_of st)

abbrev pub fault_8 : List ℕ → State → Found
fault_8 xs st = refusal_8 xs (node_words st) (term_words st) (words_of xs st) (nodes_of st)

-- What is read passes, up to 4 here, and each below asks for the one before it: so "1 to 11 are tried in order".
pub record Right (xs : List ℕ) (st : State) : Type 0 where
  pub formed : form xs ≡ right st

-- no "number of the Limits line passed" (5)
pub record Limited (xs : List ℕ) (st : State) : Type 0 where
  pub passed : Right xs st
  pub none : fault_5 st ≡ nowhere

-- no "name unknown, double, reserved, misplaced or of the wrong kind" (6)
pub record Named (xs : List ℕ) (st : State) : Type 0 where
  pub passed : Limited xs st
  pub none : fault_6 xs st ≡ nowhere

-- no "rule reaches itself" (7)
pub record NotRecursive (xs : List ℕ) (st : State) : Type 0 where
  pub passed : Named xs st
  pub none : Acyclic (words_of xs st)

-- no "number or width outside its limits, or a calculation, or part of one, whose size may pass 2^62" (8)
pub record Bounded (xs : List ℕ) (st : State) : Type 0 where
  pub passed : NotRecursive xs st
  pub none : fault_8 xs st ≡ Found.Nothing

-- 9: "the repetition mark": the least among the constructs with such a body
pub record LeastMark (st : State) (ws : List ℕ) (p : ℕ) : Type 0 where
  pub construct : ℕ
  pub there : construct < nodes_of st
  pub empty : EmptyBody (held ws) construct
  pub mark : p ≡ mark_place (node_words st) construct
  pub least : (i : ℕ) → i < nodes_of st → EmptyBody (held ws) i → p ≤ mark_place (node_words st) i

-- ---- refusals; places count from the first byte of the whole text, `base` is where the rules begin

pub data RulesRefused (xs : List ℕ) (base : ℕ) : (number place : ℕ) → Type 0 where
  -- "rules not of the form above", at the "first token that cannot stand there (text's end if none)"
  by_form : {p place : ℕ} → form xs ≡ refused p → place ≡ base + p → RulesRefused xs base 4 place
  -- "a number of the Limits line passed", at "the rule in which it first is"
  by_limit : {st : State} {place : ℕ} → Right xs st → (fault_5 st ≡ nowhere → ⊥) → place ≡ base + fault_5 st → RulesRefused xs base 5 place
  -- "name unknown, double, reserved, misplaced or of the wrong kind", at "the name"
  by_name : {st : State} {place : ℕ} → Limited xs st → (fault_6 xs st ≡ nowhere → ⊥) → place ≡ base + fault_6 xs st → RulesRefused xs base 6 place
  -- "rule reaches itself", at the "first such rule"
  by_cycle : {st : State} {rule place : ℕ} → Named xs st → Reaches (words_of xs st) rule rule → ((q : ℕ) → q < rule → Reaches (words_of xs st) q q → ⊥) → place ≡ base + named_at (rule_words st) rule → RulesRefused xs base 7 place
  -- "number or width outside its limits, or a calculation …"
  by_size : {st : State} {p place : ℕ} → NotRecursive xs st → fault_8 xs st ≡ Found.At p → place ≡ base + p → RulesRefused xs base 8 place
  -- "repeated body has the empty first window", at "the repetition mark"
  by_empty_body : {st : State} {p place : ℕ} → Bounded xs st → LeastMark st (words_of xs st) p → place ≡ base + p → RulesRefused xs base 9 place
  -- "weight over 65,535", at the "start rule"
  by_weight : {st : State} {place : ℕ} → Bounded xs st → Passed10 (words_of xs st) → Weighing (words_of xs st) (λ n. max_weight < n) → place ≡ base + named_at (rule_words st) 0 → RulesRefused xs base 11 place
  -- "a rule not reached from the start rule, at the first such name" (Req 06)
  by_unreached : {st : State} {rule place : ℕ} → Bounded xs st → Passed10 (words_of xs st) → Light (words_of xs st) → FirstUnreached (words_of xs st) rule → place ≡ base + named_at (rule_words st) rule → RulesRefused xs base 12 place
  -- "a uint whose set has no variable and no value left, at the uint" (Req 06)
  by_no_value : {st : State} {i place : ℕ} → Bounded xs st → Passed10 (words_of xs st) → Light (words_of xs st) → AllReached (words_of xs st) → Least (words_of xs st) (Valueless (words_of xs st)) i → place ≡ base + place_of (node_words st) i → RulesRefused xs base 13 place

-- 10: "clash; the answer carries the least common window", at "the construct"
pub record Clashes (xs : List ℕ) (base place construct : ℕ) (clash : Clash) : Type 0 where
  pub st : State
  pub passed : Bounded xs st
  pub no_empty_body : Passed9 (words_of xs st)
  pub first : Least (words_of xs st) (Conflicting (words_of xs st)) construct
  pub answered : Answered (words_of xs st) construct clash
  pub at : place ≡ base + place_of (node_words st) construct

-- admitted: the grammar passes 4 to 13, and has this weight
pub record Passes (xs : List ℕ) (st : State) (weight : ℕ) : Type 0 where
  pub passed : Bounded xs st
  pub judged : Passed10 (words_of xs st)
  pub weighs : Weighing (words_of xs st) (λ n. n ≡ weight)
  pub limited : weight ≤ max_weight
  pub reached : AllReached (words_of xs st)
  pub valued : None (Valueless (words_of xs st))

-- "each admitted grammar has one table, sound and with unused words 0"; "Words past 16,384 are neither read nor changed."
pub record Tabled (ws old new : List ℕ) : Type 0 where
  pub sound : Sound (table_of new)
  pub same : Alike ws (table_of new)
  pub length_kept : length new ≡ length old
  pub beyond : drop table_words new ≡ drop table_words old

-- the rules pass, and the table that was lent is theirs
pub record RulesPass (xs : List ℕ) (weight : ℕ) (old new : List ℕ) : Type 0 where
  pub st : State
  pub passes : Passes xs st weight
  pub table : Tabled (words_of xs st) old new

-- the answer to the rules of a text
abbrev pub AnsweredRules : (xs : List ℕ) → (base : ℕ) → (old new : List ℕ) → Admission → Type 0
AnsweredRules xs base old new (Admission.Admitted weight) = RulesPass xs weight old new
AnsweredRules xs base old new (Admission.Refused number place) = RulesRefused xs base number place × (new ≡ old)
AnsweredRules xs base old new (Admission.Conflict place construct clash) = Clashes xs base place construct clash × (new ≡ old)

-- ---- the whole text

pub data Refusal (text table : List ℕ) : (number place : ℕ) → Type 0 where
  -- "lent table shorter than 16,384 u32 words"
  short_table : length table < table_words → Refusal text table 1 0
  -- "grammar empty or over 8,192 bytes"
  wrong_size : table_words ≤ length table → (length text ≡ 0) ⊎ (max_text_bytes < length text) → Refusal text table 2 0
  -- "header wrong", at the "start of the line, an unended one too (text's end if none)"
  wrong_header : {place : ℕ} → table_words ≤ length table → 1 ≤ length text → length text ≤ max_text_bytes → header_of text ≡ Heading.Wrong place → Refusal text table 3 place

-- the text is right up to its rules, which begin at `base`
pub record Headed (text table : List ℕ) (base : ℕ) : Type 0 where
  pub table_fits : table_words ≤ length table
  pub some : 1 ≤ length text
  pub short : length text ≤ max_text_bytes
  pub header : header_of text ≡ Heading.Rules base

-- the answer to a text: any bytes, with any words as table
pub data Answers (text old new : List ℕ) (answer : Admission) : Type 0 where
  refused_early : (number place : ℕ) → answer ≡ Admission.Refused number place → Refusal text old number place → new ≡ old → Answers text old new answer
  by_rules : (base : ℕ) → Headed text old base → AnsweredRules (drop base text) base old new answer → Answers text old new answer
