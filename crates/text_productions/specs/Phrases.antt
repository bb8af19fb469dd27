-- The form of rules as productions: which parts a part is made of, and what it adds to what is read. `Form.consume` says the same terminal by
-- terminal; a right text is a phrase (`proofs/Derived`). What is read before a part is `a`, and with what it adds itself, `b`.
-- Assumes nothing.
use Rattle.std.specs.Prelude.{ℕ, ◌+◌, ◌≤◌, ◌<◌, ◌≡◌, Bool, true, false, cond, List, [], ◌∷◌, eqb}
use Rattle.basis.specs.Limits.{max_nesting}
use Rattle.text_parsing.specs.Terminals.{is, is_name, terminal_of}
use Rattle.text_store.specs.Store.{State, nodes_of, terms_of, add, single, insert, leaf, condition_on, bind, close_rule}
use Rattle.text_parsing.specs.Symbols.{Symbol, want, sign, paren, primary, operand, factors, summands, calculation, item, item_tail, bound, exception, excluded, alternative, alternatives, value_set, counts, counts_tail, test, comparison, condition, joined, chain, atom, factor, concatenation, expression, marked, counts_end, members, branches, character_tail, last_character, width, field_set, bound_name, field_end, colon, case_end, cases, switch_end, rules, rule_end}
use Rattle.text_parsing.specs.Form.{chained}
use Rattle.text_parsing.specs.declared.Terminal.{Terminal}

-- a terminal of the text
pub record Seen (xs : List ℕ) (s : Terminal) : Type 0 where
  pub at : ℕ
  pub seen : s ≡ terminal_of xs at

-- a part; what is read before it, and with what it adds itself; and the parts that it is made of
pub data Production (xs : List ℕ) : Symbol → State → State → List Symbol → Type 0 where
  terminal : {k : ℕ} {a : State} → Production xs (want k) a a []
  signed : {tag p o : ℕ} {a b : State} → b ≡ add tag 0 p o a → Production xs (sign tag p o) a b []
  opened : {d : ℕ} {a : State} → d < max_nesting → Production xs (paren d) a a []
  -- calculations
  number : {o : ℕ} {a b : State} {s : Terminal} → Seen xs s → is 2 s ≡ true → b ≡ add 1 s.value s.start o a → Production xs (primary o) a b []
  variable : {o : ℕ} {a b : State} {s : Terminal} → Seen xs s → is_name s ≡ true → b ≡ add 2 0 s.start o a → Production xs (primary o) a b []
  negated : {o p : ℕ} {a : State} → Production xs (operand o) a a (primary o ∷ sign 6 p o ∷ [])
  plain : {o : ℕ} {a : State} → Production xs (operand o) a a (primary o ∷ [])
  no_factor : {o : ℕ} {a : State} → Production xs (factors o) a a []
  times : {o p : ℕ} {a : State} → Production xs (factors o) a a (operand o ∷ sign 5 p o ∷ factors o ∷ [])
  no_summand : {o : ℕ} {a : State} → Production xs (summands o) a a []
  plus : {o p : ℕ} {a : State} → Production xs (summands o) a a (operand o ∷ factors o ∷ sign 3 p o ∷ summands o ∷ [])
  minus : {o p : ℕ} {a : State} → Production xs (summands o) a a (operand o ∷ factors o ∷ sign 4 p o ∷ summands o ∷ [])
  sum : {o : ℕ} {a : State} → Production xs calculation a a (operand o ∷ factors o ∷ summands o ∷ [])
  -- sets
  open_item : {p : ℕ} {a : State} → Production xs item a a (bound 10 7 p ∷ [])
  value_item : {a : State} → Production xs item a a (calculation ∷ item_tail ∷ [])
  to_bound : {p : ℕ} {a : State} → Production xs item_tail a a (bound 8 9 p ∷ [])
  alone : {a b : State} → b ≡ single a → Production xs item_tail a b []
  some_bound : {some none p : ℕ} {a : State} → Production xs (bound some none p) a a (calculation ∷ sign some p 0 ∷ [])
  no_bound : {some none p : ℕ} {a b : State} → b ≡ add none 0 p 0 a → Production xs (bound some none p) a b []
  no_exception : {d : ℕ} {a : State} → Production xs (exception d) a a []
  except : {d p : ℕ} {a : State} → Production xs (exception d) a a (excluded d ∷ sign 12 p 0 ∷ [])
  except_set : {d e : ℕ} {a : State} → d < max_nesting → e ≡ d + 1 → Production xs (excluded d) a a (value_set e ∷ want 41 ∷ [])
  except_item : {d : ℕ} {a : State} → Production xs (excluded d) a a (item ∷ [])
  set_alternative : {d : ℕ} {a : State} → Production xs (alternative d) a a (item ∷ exception d ∷ [])
  no_alternative : {d : ℕ} {a : State} → Production xs (alternatives d) a a []
  or_alternative : {d p : ℕ} {a : State} → Production xs (alternatives d) a a (alternative d ∷ sign 11 p 0 ∷ alternatives d ∷ [])
  set : {d : ℕ} {a : State} → Production xs (value_set d) a a (item ∷ exception d ∷ alternatives d ∷ [])
  -- counts
  counts_to : {p : ℕ} {a : State} → Production xs counts a a (calculation ∷ sign 10 p 0 ∷ [])
  counts_from : {a : State} → Production xs counts a a (calculation ∷ counts_tail ∷ [])
  counts_exact : {a : State} → Production xs counts_tail a a []
  counts_range : {p : ℕ} {a : State} → Production xs counts_tail a a (bound 8 9 p ∷ [])
  -- conditions
  test_group : {d e : ℕ} {a : State} → d < max_nesting → e ≡ d + 1 → Production xs (test d) a a (condition e ∷ want 41 ∷ [])
  test_compare : {d : ℕ} {a : State} → Production xs (test d) a a (calculation ∷ comparison ∷ [])
  compare : {tag p : ℕ} {a : State} → 14 ≤ tag → tag ≤ 19 → Production xs comparison a a (calculation ∷ sign tag p 0 ∷ [])
  tests : {d : ℕ} {a : State} → Production xs (condition d) a a (test d ∷ joined d ∷ [])
  one_test : {d : ℕ} {a : State} → Production xs (joined d) a a []
  all_of : {d p : ℕ} {a : State} → Production xs (joined d) a a (test d ∷ sign 13 p 0 ∷ chain 38 13 d ∷ [])
  any_of : {d p : ℕ} {a : State} → Production xs (joined d) a a (test d ∷ sign 11 p 0 ∷ chain 124 11 d ∷ [])
  no_link : {k tag d : ℕ} {a : State} → Production xs (chain k tag d) a a []
  link : {k tag d p : ℕ} {a : State} → Production xs (chain k tag d) a a (test d ∷ sign tag p 0 ∷ chain k tag d ∷ [])
  -- items of expressions
  literal_atom : {d : ℕ} {a b : State} {s : Terminal} → Seen xs s → is 3 s ≡ true → b ≡ leaf 6 s.start 0 0 0 0 0 a → Production xs (atom d) a b []
  character_atom : {d p : ℕ} {a : State} {s : Terminal} → Seen xs s → is 9 s ≡ true → p ≡ s.start → Production xs (atom d) a a (character_tail p ∷ [])
  field_atom : {d e p : ℕ} {a : State} → e ≡ d + 1 → Production xs (atom d) a a (paren d ∷ width e p ∷ [])
  eod_atom : {d : ℕ} {a b : State} (p : ℕ) → b ≡ leaf 9 p 0 0 0 0 0 a → Production xs (atom d) a b []
  use_atom : {d : ℕ} {a b : State} {s : Terminal} → Seen xs s → is_name s ≡ true → b ≡ leaf 5 s.start 0 0 0 0 0 a → Production xs (atom d) a b []
  group_atom : {d e : ℕ} {a : State} → d < max_nesting → e ≡ d + 1 → Production xs (atom d) a a (expression e ∷ want 41 ∷ [])
  switch_atom : {d e f p i : ℕ} {a : State} → d < max_nesting → e ≡ d + 1 → f ≡ terms_of a → i ≡ nodes_of a → Production xs (atom d) a a (condition e ∷ colon e f ∷ cases e p i ∷ [])
  -- expressions
  an_item : {d p i : ℕ} {a : State} → i ≡ nodes_of a → Production xs (factor d) a a (atom d ∷ marked p i ∷ [])
  one_member : {d p i : ℕ} {a : State} → i ≡ nodes_of a → Production xs (concatenation d) a a (factor d ∷ members d p i false ∷ [])
  one_branch : {d p i : ℕ} {a : State} → i ≡ nodes_of a → Production xs (expression d) a a (concatenation d ∷ branches d p i false ∷ [])
  no_mark : {p i : ℕ} {a : State} → Production xs (marked p i) a a []
  a_mark : {p i : ℕ} {a b : State} (how mark : ℕ) → 1 ≤ how → how ≤ 3 → b ≡ insert 3 p i how mark 0 0 0 a → Production xs (marked p i) a b []
  counted_mark : {p i mark f : ℕ} {a : State} → f ≡ terms_of a → Production xs (marked p i) a a (counts ∷ counts_end p i mark f ∷ [])
  counted : {p i mark f : ℕ} {a b : State} → b ≡ insert 3 p i 4 mark f (terms_of a) 0 a → Production xs (counts_end p i mark f) a b []
  and_member : {d p i : ℕ} {many : Bool} {a : State} → Production xs (members d p i many) a a (factor d ∷ members d p i true ∷ [])
  last_member : {d p i : ℕ} {many : Bool} {a b : State} → b ≡ chained 2 many p i a → Production xs (members d p i many) a b []
  or_branch : {d p i : ℕ} {many : Bool} {a : State} → Production xs (branches d p i many) a a (concatenation d ∷ branches d p i true ∷ [])
  last_branch : {d p i : ℕ} {many : Bool} {a b : State} → b ≡ chained 1 many p i a → Production xs (branches d p i many) a b []
  -- ranges of characters
  to_character : {p : ℕ} {a : State} → Production xs (character_tail p) a a (last_character p ∷ [])
  one_character : {p : ℕ} {a b : State} → b ≡ leaf 6 p 0 0 0 0 0 a → Production xs (character_tail p) a b []
  range : {p : ℕ} {a b : State} {s : Terminal} → Seen xs s → is 9 s ≡ true → b ≡ leaf 7 p s.start 0 0 0 0 a → Production xs (last_character p) a b []
  -- uint
  field_width : {d p w : ℕ} {a : State} {s : Terminal} → Seen xs s → is 2 s ≡ true → w ≡ s.start → Production xs (width d p) a a (want 44 ∷ field_set d p w ∷ [])
  binding : {d e p w : ℕ} {a : State} → e ≡ d + 1 → Production xs (field_set d p w) a a (paren d ∷ bound_name e p w ∷ [])
  not_binding : {d p w f : ℕ} {a : State} → f ≡ terms_of a → Production xs (field_set d p w) a a (value_set d ∷ field_end p w 0 0 f ∷ [])
  binder : {d p w q how f : ℕ} {a b : State} {s : Terminal} → Seen xs s → is_name s ≡ true → b ≡ bind a → q ≡ s.start → how ≡ cond (eqb d 2) 1 2 → f ≡ terms_of a → Production xs (bound_name d p w) a b (want 44 ∷ value_set d ∷ want 41 ∷ field_end p w q how f ∷ [])
  field : {p w q how f : ℕ} {a b : State} → b ≡ leaf 8 p w q f (terms_of a) how a → Production xs (field_end p w q how f) a b []
  -- switches
  a_case : {d f i e : ℕ} {a : State} → i ≡ nodes_of a → e ≡ terms_of a → Production xs (colon d f) a a (expression d ∷ case_end i f e ∷ [])
  case_done : {i f e : ℕ} {a b : State} → b ≡ condition_on i f e a → Production xs (case_end i f e) a b []
  no_default : {d p i : ℕ} {a b : State} → b ≡ insert 4 p i 0 0 0 0 0 a → Production xs (cases d p i) a b []
  default : {d p i : ℕ} {a : State} → Production xs (cases d p i) a a (expression d ∷ want 59 ∷ switch_end p i ∷ [])
  further_case : {d p i f : ℕ} {a : State} → f ≡ terms_of a → Production xs (cases d p i) a a (condition d ∷ colon d f ∷ cases d p i ∷ [])
  switched : {p i : ℕ} {a b : State} → b ≡ insert 4 p i 0 0 0 0 0 a → Production xs (switch_end p i) a b []
  -- rules
  no_rule : {a : State} → Production xs (rules true) a a []
  a_rule : {any : Bool} {p i : ℕ} {a : State} {s : Terminal} → Seen xs s → is_name s ≡ true → p ≡ s.start → i ≡ nodes_of a → Production xs (rules any) a a (want 61 ∷ expression 0 ∷ rule_end p i ∷ rules true ∷ [])
  ruled : {p i : ℕ} {a b : State} → b ≡ close_rule p i a → Production xs (rule_end p i) a b []

-- parts one after the other: each by a production, whose own parts are read, and then those that follow
pub data Phrases (xs : List ℕ) : List Symbol → State → State → Type 0 where
  nothing : {a : State} → Phrases xs [] a a
  then : {k : Symbol} {ks qs : List Symbol} {a b c d : State} → Production xs k a b qs → Phrases xs qs b c → Phrases xs ks c d → Phrases xs (k ∷ ks) a d
