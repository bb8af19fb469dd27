-- Document 01's table "Numbers of refusal", rows 1 to 11, and Req 06's 12 and 13: when each is given, and its place. "1 to 11 are tried in order", "12 and after 11", "13
-- after that". Rows 5 to 13 are sentences about the text's syntax tree (`tree_meaning` `Rows`).
-- Assumes nothing.
use Rattle.std.specs.Prelude.{ℕ, ◌+◌, ◌≤◌, ◌<◌, ◌≡◌, ◌⊎◌, ◌↔◌, List, length, drop}
use Rattle.std.proofs.Math.Option.{some}
use Rattle.basis.specs.Limits.{max_text_bytes, table_words}
use Rattle.basis.specs.Bits.{Bits}
use Rattle.basis.specs.Lookahead.{number as window-number}
use Rattle.theory.specs.Grammar.{alternative, Grammar, ◌∈◌}
use Rattle.theory.specs.Lookahead.{Predicted, LeastConflict}
use Rattle.theory.specs.Weight.{Weighs}
use Rattle.text_header.specs.Header.{header_of}
use Rattle.text_header.specs.declared.Heading.{Heading}
use Rattle.tree.specs.Lexemes.{lexemes}
use Rattle.tree.specs.Tree.{Rules}
use Rattle.tree_form.specs.Form.{FirstFault}
use Rattle.tree_meaning.specs.Grammar.{Context, first_context, Values, construct_numbered, opening, tree_grammar}
use Rattle.tree_meaning.specs.Rows.{PastLimit, WrongName, Recursive, TooLarge, EmptyBodies, HasConflict, Clashes, TooHeavy, Unreached, NoValues}
use Rattle.table_conflicts.specs.declared.Clash.{Clash}
use Rattle.text_admission.specs.Answers.{number_of, place_in, window_in}
use Rattle.text_admission.specs.declared.Admission.{Admission}
use Rattle.admission.specs.Texts.{OfTree, AtPlace}

-- its rows, each by what it is given for
pub data Row : Type 0 where
  short_table : Row
  wrong_size : Row
  wrong_header : Row
  wrong_form : Row
  past_limit : Row
  wrong_name : Row
  recursive : Row
  too_large : Row
  empty_body : Row
  clashing : Row
  too_heavy : Row
  unreached : Row
  no_value : Row

-- the column "No."
abbrev pub number : Row → ℕ
number short_table = 1
number wrong_size = 2
number wrong_header = 3
number wrong_form = 4
number past_limit = 5
number wrong_name = 6
number recursive = 7
number too_large = 8
number empty_body = 9
number clashing = 10
number too_heavy = 11
number unreached = 12
number no_value = 13

-- ---- the table: the row fits at this place, whatever the others do

abbrev pub Fits : (text table : List ℕ) → Row → (place : ℕ) → Type 0
-- "lent table shorter than 16,384 u32 words"
Fits text table short_table p = (length table < table_words) × (p ≡ 0)
-- "grammar empty or over 8,192 bytes"
Fits text table wrong_size p = ((length text ≡ 0) ⊎ (max_text_bytes < length text)) × (p ≡ 0)
-- "header wrong", at the "start of the line, an unended one too (text's end if none)"
Fits text table wrong_header p = header_of text ≡ Heading.Wrong p
-- "rules not of the form above", at the "first token that cannot stand there (text's end if none)"
Fits text table wrong_form p = (base : ℕ) × (q : ℕ) × (header_of text ≡ Heading.Rules base) × FirstFault (lexemes (drop base text)) q × (p ≡ base + q)
Fits text table past_limit p = AtPlace text PastLimit p
Fits text table wrong_name p = AtPlace text WrongName p
Fits text table recursive p = AtPlace text Recursive p
Fits text table too_large p = AtPlace text TooLarge p
Fits text table empty_body p = AtPlace text EmptyBodies p
Fits text table clashing p = AtPlace text Clashes p
Fits text table too_heavy p = AtPlace text TooHeavy p
Fits text table unreached p = AtPlace text Unreached p
Fits text table no_value p = AtPlace text NoValues p

-- no row below number n fits
abbrev pub NoneBelow : (text table : List ℕ) → ℕ → Type 0
NoneBelow text table n = (k : Row) (q : ℕ) → number k < n → Fits text table k q → ⊥

-- the first row that fits
abbrev pub First : (text table : List ℕ) → Row → (place : ℕ) → Type 0
First text table k p = Fits text table k p × NoneBelow text table (number k)

-- ---- what an answer carries

-- "Weight: … grammar, as a use of its start rule": it is n
abbrev pub Weight : ℕ → Rules → Type 0
Weight n t = (w : Context → ℕ → ℕ) × Weighs (tree_grammar t) w × (w first_context opening ≡ n)

-- the first two of these branches, in text order, that have the window
pub record FirstTwo (g : Grammar Context Values) (is : List ℕ) (x : Bits) (first second : ℕ) : Type 0 where
  pub in_order : first < second
  pub first_has : (first ∈ is) × Predicted g first x
  pub second_has : (second ∈ is) × Predicted g second x
  pub others : (j : ℕ) → j ∈ is → Predicted g j x → (j ≡ first) ⊎ (second ≤ j)

-- the branches that an answer names; a repetition's go and stop have no names
abbrev pub Sharing : Grammar Context Values → ℕ → Bits → Clash → Type 0
Sharing g i x Clash.None = ⊥
Sharing g i x (Clash.Branches window first second) = (is : List ℕ) × (g.node i ≡ alternative is) × FirstTwo g is x first second
Sharing g i x (Clash.Passes window) = (is : List ℕ) → g.node i ≡ alternative is → ⊥

-- 10, with a construct and its clash. "within one, the smallest place, outer first": the construct is the first that clashes, as they are numbered "in
-- text order, the outer before the inner", and the place is its place.
pub record Clashed (answer : Admission) (t : Rules) (p : ℕ) : Type 0 where
  pub construct : ℕ
  pub clash : Clash
  pub place : ℕ
  pub answered : answer ≡ Admission.Conflict place construct clash
  pub before : (j : ℕ) → j < construct → HasConflict t j → ⊥
  pub at : p ≡ (construct_numbered t construct).place
  -- "the answer carries the least common window"
  pub window : Bits
  pub carried : window_in clash ≡ some (window-number window)
  pub least : LeastConflict (tree_grammar t) construct window
  pub shared : Sharing (tree_grammar t) construct window clash

-- ---- the claim

-- "Given exactly when": an answer has the number and place of the first row that fits, and 0 exactly where none does
pub record Exactly (text table : List ℕ) (answer : Admission) : Type 0 where
  pub admitted_iff : (number_of answer ≡ 0) ↔ NoneBelow text table 14
  pub refused_iff : (k : Row) (p : ℕ) → ((number_of answer ≡ number k) × (place_in answer ≡ p)) ↔ First text table k p
  -- 0 carries the text's weight
  pub weight : number_of answer ≡ 0 → (n : ℕ) × (answer ≡ Admission.Admitted n) × OfTree text (Weight n)
  -- 10 carries the first construct that clashes, and its least window
  pub clash : number_of answer ≡ 10 → AtPlace text (Clashed answer) (place_in answer)
