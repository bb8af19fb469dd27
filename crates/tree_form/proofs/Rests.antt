-- What may still come for each part that waits: the rest of a tree, how it is spelled, and what it stores.
-- Assumes nothing.
use Prim.Native.Nat.{ℕ, ◌+◌, ◌<◌}
use mathlib.Core.Path.{◌≡◌}
use mathlib.Core.Bool.{Bool, true, false, cond}
use mathlib.Core.List.{List, [], ◌∷◌}
use lib.Dec.{eqb, leb}
use Rattle.text_tokens.specs.declared.Kind.{Kind}
use Rattle.text_store.specs.Store.{State, nodes_of, terms_of, add, single, insert, leaf, condition_on, bind, close_rule}
use Rattle.text_parsing.specs.Symbols.{Symbol}
use Rattle.text_parsing.specs.Form.{chained}
use Rattle.tree.specs.Lexemes.{Sign, Name, Number, Literal, Lexeme, sign, word, numeral, quoted, finish}
use Rattle.tree.specs.Tree.{Primary, Operand, Factors, Summands, Calculation, Item, whole, choice, Choices, item, Counts, Comparison, tests, test, conjuncts, disjuncts, Tests, Mark, Single, expression, concatenation, factor, atom, cases, Tree, Rules}
use Rattle.tree.specs.Spelling.{var_word, spelled_as, spell_primary, spell_operand, spell_factors, spell_product, spell_summands, spell_calculation, spell_item, spell_set, spell_counts, comparison_sign, spell_tests, spell_mark, spell, spell_rules, spelled}
use Rattle.tree_form.specs.Stored.{start_of_primary, start_of_operand, start_of_product, store_product, start_of, store_primary, store_operand, store_factors, store_summands, store_calculation, store_item, store_set, store_counts, tag_of, store_tests, store_mark, how_bound, store, stored}

-- ---- rests that are no part of the tree

-- after `~`
pub data Upper : Type 0 where
  no_upper : Upper
  an_upper : Calculation → Upper

-- after the first calculation of an item or of counts
pub data Reach : Type 0 where
  alone : Reach
  reaches : Sign → Upper → Reach

-- after an item, and after `!`
pub data Exception (d : ℕ) : Type 0 where
  no_exception : Exception d
  but_item : Sign → Item → Exception d
  but_set : d < 16 → Sign → Sign → Choices whole (d + 1) → Sign → Exception d

pub data Excluded (d : ℕ) : Type 0 where
  excluded_item : Item → Excluded d
  excluded_set : d < 16 → Sign → Choices whole (d + 1) → Sign → Excluded d

-- after an alternative
pub data MoreChoices (d : ℕ) : Type 0 where
  no_choice : MoreChoices d
  more_choices : Sign → Choices whole d → MoreChoices d

-- after a test, and in a chain of them
pub data Links (d : ℕ) : Type 0 where
  no_link : Links d
  link : Sign → Tests test d → Links d → Links d

pub data Joined (d : ℕ) : Type 0 where
  not_joined : Joined d
  by_and : Sign → Tests conjuncts d → Joined d
  by_or : Sign → Tests disjuncts d → Joined d

-- after an item of an expression, a member, a branch
pub data Marked : Type 0 where
  no_mark : Marked
  a_mark : Mark → Marked

pub data MoreMembers (d : ℕ) : Type 0 where
  no_member : MoreMembers d
  more_members : Sign → Tree concatenation d → MoreMembers d

pub data MoreBranches (d : ℕ) : Type 0 where
  no_branch : MoreBranches d
  more_branches : Sign → Tree expression d → MoreBranches d

-- after a literal of one character
pub data ToCharacter : Type 0 where
  no_character : ToCharacter
  to_character : Sign → (last : Literal) → Single last → ToCharacter

-- after the comma of `uint`
pub data FieldSet (d : ℕ) : Type 0 where
  plain_set : Choices whole d → Sign → FieldSet d
  bound_set : d < 16 → Sign → Sign → Name → Sign → Choices whole (d + 1) → Sign → Sign → FieldSet d

-- after a case
pub data MoreCases (d : ℕ) : Type 0 where
  no_case : Sign → MoreCases d
  default : Sign → Tree expression d → Sign → Sign → MoreCases d
  more_cases : Tree cases d → Sign → MoreCases d

-- after the text's beginning (false) or a rule (true), with the place of the end
pub data MoreRules : Bool → Type 0 where
  no_rule : ℕ → MoreRules true
  more_rules : {any : Bool} → Rules → ℕ → MoreRules any

-- the kind of sign that a code is
abbrev pub kind_of : ℕ → Kind
kind_of c =
    (cond (eqb c 61) Kind.Equal
    (cond (eqb c 59) Kind.Semicolon
    (cond (eqb c 124) Kind.Bar
    (cond (eqb c 38) Kind.Ampersand
    (cond (eqb c 40) Kind.OpenParen
    (cond (eqb c 41) Kind.CloseParen
    (cond (eqb c 91) Kind.OpenBracket
    (cond (eqb c 93) Kind.CloseBracket
    (cond (eqb c 123) Kind.OpenBrace
    (cond (eqb c 125) Kind.CloseBrace
    (cond (eqb c 63) Kind.Question
    (cond (eqb c 42) Kind.Star
    (cond (eqb c 43) Kind.Plus
    (cond (eqb c 45) Kind.Minus
    (cond (eqb c 126) Kind.Tilde
    (cond (eqb c 33) Kind.Bang
    (cond (eqb c 44) Kind.Comma
    (cond (eqb c 58) Kind.Colon
    (cond (eqb c 60) Kind.Less
    (cond (eqb c 62) Kind.Greater
    (cond (eqb c 161) Kind.Unequal
    (cond (eqb c 188) Kind.AtMost
    (cond (eqb c 190) Kind.AtLeast Kind.Fault)))))))))))))))))))))))

-- ---- how they are spelled, and what they store

unfoldable pub spell_upper : Upper → List Lexeme → List Lexeme
spell_upper no_upper w = w
spell_upper (an_upper b) w = spell_calculation b w

unfoldable pub store_upper : (some none p : ℕ) → Upper → State → State
store_upper some none p no_upper st = add none 0 p 0 st
store_upper some none p (an_upper b) st = add some 0 p 0 (store_calculation b st)

unfoldable pub spell_reach : Reach → List Lexeme → List Lexeme
spell_reach alone w = w
spell_reach (reaches s b) w = sign Kind.Tilde s ∷ spell_upper b w

unfoldable pub store_item_reach : Reach → State → State
store_item_reach alone st = single st
store_item_reach (reaches s b) st = store_upper 8 9 s.start b st

unfoldable pub store_counts_reach : Reach → State → State
store_counts_reach alone st = st
store_counts_reach (reaches s b) st = store_upper 8 9 s.start b st

unfoldable pub spell_exception : {d : ℕ} → Exception d → List Lexeme → List Lexeme
spell_exception no_exception w = w
spell_exception (but_item s b) w = sign Kind.Bang s ∷ spell_item b w
spell_exception (but_set l s o b c) w = sign Kind.Bang s ∷ sign Kind.OpenParen o ∷ spell_set b (sign Kind.CloseParen c ∷ w)

unfoldable pub store_exception : {d : ℕ} → Exception d → State → State
store_exception no_exception st = st
store_exception (but_item s b) st = add 12 0 s.start 0 (store_item b st)
store_exception (but_set l s o b c) st = add 12 0 s.start 0 (store_set b (λ x. x) st)

unfoldable pub spell_excluded : {d : ℕ} → Excluded d → List Lexeme → List Lexeme
spell_excluded (excluded_item b) w = spell_item b w
spell_excluded (excluded_set l o b c) w = sign Kind.OpenParen o ∷ spell_set b (sign Kind.CloseParen c ∷ w)

unfoldable pub store_excluded : {d : ℕ} → Excluded d → State → State
store_excluded (excluded_item b) st = store_item b st
store_excluded (excluded_set l o b c) st = store_set b (λ x. x) st

unfoldable pub spell_choices : {d : ℕ} → MoreChoices d → List Lexeme → List Lexeme
spell_choices no_choice w = w
spell_choices (more_choices s b) w = sign Kind.Bar s ∷ spell_set b w

unfoldable pub store_choices : {d : ℕ} → MoreChoices d → State → State
store_choices no_choice st = st
store_choices (more_choices s b) st = store_set b (add 11 0 s.start 0) st

unfoldable pub spell_links : Kind → {d : ℕ} → Links d → List Lexeme → List Lexeme
spell_links kind no_link w = w
spell_links kind (link s a more) w = sign kind s ∷ spell_tests a (spell_links kind more w)

unfoldable pub store_links : (tag : ℕ) {d : ℕ} → Links d → State → State
store_links tag no_link st = st
store_links tag (link s a more) st = store_links tag more (add tag 0 s.start 0 (store_tests a (λ x. x) st))

unfoldable pub spell_joined : {d : ℕ} → Joined d → List Lexeme → List Lexeme
spell_joined not_joined w = w
spell_joined (by_and s b) w = sign Kind.Ampersand s ∷ spell_tests b w
spell_joined (by_or s b) w = sign Kind.Bar s ∷ spell_tests b w

unfoldable pub store_joined : {d : ℕ} → Joined d → State → State
store_joined not_joined st = st
store_joined (by_and s b) st = store_tests b (add 13 0 s.start 0) st
store_joined (by_or s b) st = store_tests b (add 11 0 s.start 0) st

unfoldable pub spell_marked : Marked → List Lexeme → List Lexeme
spell_marked no_mark w = w
spell_marked (a_mark m) w = spell_mark m w

unfoldable pub store_marked : Marked → (p i : ℕ) → State → State
store_marked no_mark p i st = st
store_marked (a_mark m) p i st = store_mark m p i st

unfoldable pub spell_members : {d : ℕ} → MoreMembers d → List Lexeme → List Lexeme
spell_members no_member w = w
spell_members (more_members s b) w = sign Kind.Ampersand s ∷ spell b w

unfoldable pub store_members : {d : ℕ} → MoreMembers d → (p i : ℕ) (many : Bool) → State → State
store_members no_member p i many st = chained 2 many p i st
store_members (more_members s b) p i many st = chained 2 true p i (store b true st)

unfoldable pub spell_branches : {d : ℕ} → MoreBranches d → List Lexeme → List Lexeme
spell_branches no_branch w = w
spell_branches (more_branches s b) w = sign Kind.Bar s ∷ spell b w

unfoldable pub store_branches : {d : ℕ} → MoreBranches d → (p i : ℕ) (many : Bool) → State → State
store_branches no_branch p i many st = chained 1 many p i st
store_branches (more_branches s b) p i many st = chained 1 true p i (store b true st)

unfoldable pub spell_character : ToCharacter → List Lexeme → List Lexeme
spell_character no_character w = w
spell_character (to_character s b one) w = sign Kind.Tilde s ∷ quoted b ∷ w

unfoldable pub store_character : ToCharacter → (p : ℕ) → State → State
store_character no_character p st = leaf 6 p 0 0 0 0 0 st
store_character (to_character s b one) p st = leaf 7 p b.start 0 0 0 0 st

-- a field's node: its terms are those from f on
abbrev pub store_field : (p w name how f : ℕ) → State → State
store_field p w name how f st = leaf 8 p w name f (terms_of st) how st

unfoldable pub spell_field : {d : ℕ} → FieldSet d → List Lexeme → List Lexeme
spell_field (plain_set x c) w = spell_set x (sign Kind.CloseParen c ∷ w)
spell_field (bound_set l v o x m y c c') w = spelled_as var_word v ∷ sign Kind.OpenParen o ∷ word x ∷ sign Kind.Comma m ∷ spell_set y (sign Kind.CloseParen c ∷ sign Kind.CloseParen c' ∷ w)

unfoldable pub store_fields : {d : ℕ} → FieldSet d → (p w : ℕ) → State → State
store_fields {d} (plain_set x c) p w st = store_field p w 0 0 (terms_of st) (store_set x (λ y. y) st)
store_fields {d} (bound_set l v o x m y c c') p w st = store_field p w x.start (how_bound (d + 1)) (terms_of st) (store_set y (λ z. z) (bind st))

unfoldable pub spell_cases : {d : ℕ} → MoreCases d → List Lexeme → List Lexeme
spell_cases (no_case c) w = sign Kind.CloseBracket c ∷ w
spell_cases (default s y e c) w = sign Kind.Colon s ∷ spell y (sign Kind.Semicolon e ∷ sign Kind.CloseBracket c ∷ w)
spell_cases (more_cases x c) w = spell x (sign Kind.CloseBracket c ∷ w)

unfoldable pub store_cases : {d : ℕ} → MoreCases d → (p i : ℕ) → State → State
store_cases (no_case c) p i st = insert 4 p i 0 0 0 0 0 st
store_cases (default s y e c) p i st = insert 4 p i 0 0 0 0 0 (store y false st)
store_cases (more_cases x c) p i st = insert 4 p i 0 0 0 0 0 (store x false st)

unfoldable pub spell_more_rules : {any : Bool} → MoreRules any → List Lexeme
spell_more_rules (no_rule p) = finish p ∷ []
spell_more_rules (more_rules t p) = spelled t p

unfoldable pub store_more_rules : {any : Bool} → MoreRules any → State → State
store_more_rules (no_rule p) st = st
store_more_rules (more_rules t p) st = stored t st

-- ---- the rest of each part that waits

abbrev pub Rest : Symbol → Type 0
Rest (Symbol.want k) = Sign
Rest (Symbol.sign tag p o) = Unit {0}
Rest (Symbol.paren d) = (d < 16) × Sign
Rest (Symbol.primary o) = Primary
Rest (Symbol.operand o) = Operand
Rest (Symbol.factors o) = Factors
Rest (Symbol.summands o) = Summands
Rest Symbol.calculation = Calculation
Rest Symbol.item = Item
Rest Symbol.item_tail = Reach
Rest (Symbol.bound some none p) = Upper
Rest (Symbol.exception d) = Exception d
Rest (Symbol.excluded d) = Excluded d
Rest (Symbol.alternative d) = Choices choice d
Rest (Symbol.alternatives d) = MoreChoices d
Rest (Symbol.value_set d) = Choices whole d
Rest Symbol.counts = Counts
Rest Symbol.counts_tail = Reach
Rest (Symbol.test d) = Tests test d
Rest Symbol.comparison = Comparison × Sign × Calculation
Rest (Symbol.condition d) = Tests tests d
Rest (Symbol.joined d) = Joined d
Rest (Symbol.chain k tag d) = Links d
Rest (Symbol.atom d) = Tree atom d
Rest (Symbol.factor d) = Tree factor d
Rest (Symbol.concatenation d) = Tree concatenation d
Rest (Symbol.expression d) = Tree expression d
Rest (Symbol.marked p i) = Marked
Rest (Symbol.counts_end p i mark f) = Sign
Rest (Symbol.members d p i many) = MoreMembers d
Rest (Symbol.branches d p i many) = MoreBranches d
Rest (Symbol.character_tail p) = ToCharacter
Rest (Symbol.last_character p) = (l : Literal) × Single l
Rest (Symbol.width d p) = Number × Sign × FieldSet d
Rest (Symbol.field_set d p v) = FieldSet d
Rest (Symbol.bound_name d p v) = Name × Sign × Choices whole d × Sign × Sign
Rest (Symbol.field_end p v name how f) = Sign
Rest (Symbol.colon d f) = Sign × Tree expression d × Sign
Rest (Symbol.case_end i f end) = Sign
Rest (Symbol.cases d p i) = MoreCases d
Rest (Symbol.switch_end p i) = Sign
Rest (Symbol.rules any) = MoreRules any
Rest (Symbol.rule_end p i) = Sign

abbrev pub spell_rest : (k : Symbol) → Rest k → List Lexeme → List Lexeme
spell_rest (Symbol.want k) r w = sign (kind_of k) r ∷ w
spell_rest (Symbol.sign tag p o) r w = w
spell_rest (Symbol.paren d) r w = sign Kind.OpenParen r.1 ∷ w
spell_rest (Symbol.primary o) r w = spell_primary r w
spell_rest (Symbol.operand o) r w = spell_operand r w
spell_rest (Symbol.factors o) r w = spell_factors r w
spell_rest (Symbol.summands o) r w = spell_summands r w
spell_rest Symbol.calculation r w = spell_calculation r w
spell_rest Symbol.item r w = spell_item r w
spell_rest Symbol.item_tail r w = spell_reach r w
spell_rest (Symbol.bound some none p) r w = spell_upper r w
spell_rest (Symbol.exception d) r w = spell_exception r w
spell_rest (Symbol.excluded d) r w = spell_excluded r w
spell_rest (Symbol.alternative d) r w = spell_set r w
spell_rest (Symbol.alternatives d) r w = spell_choices r w
spell_rest (Symbol.value_set d) r w = spell_set r w
spell_rest Symbol.counts r w = spell_counts r w
spell_rest Symbol.counts_tail r w = spell_reach r w
spell_rest (Symbol.test d) r w = spell_tests r w
spell_rest Symbol.comparison r w = sign (comparison_sign r.0) r.1 ∷ spell_calculation r.2 w
spell_rest (Symbol.condition d) r w = spell_tests r w
spell_rest (Symbol.joined d) r w = spell_joined r w
spell_rest (Symbol.chain k tag d) r w = spell_links (kind_of k) r w
spell_rest (Symbol.atom d) r w = spell r w
spell_rest (Symbol.factor d) r w = spell r w
spell_rest (Symbol.concatenation d) r w = spell r w
spell_rest (Symbol.expression d) r w = spell r w
spell_rest (Symbol.marked p i) r w = spell_marked r w
spell_rest (Symbol.counts_end p i mark f) r w = sign Kind.CloseBrace r ∷ w
spell_rest (Symbol.members d p i many) r w = spell_members r w
spell_rest (Symbol.branches d p i many) r w = spell_branches r w
spell_rest (Symbol.character_tail p) r w = spell_character r w
spell_rest (Symbol.last_character p) r w = quoted r.0 ∷ w
spell_rest (Symbol.width d p) r w = numeral r.0 ∷ sign Kind.Comma r.1 ∷ spell_field r.2 w
spell_rest (Symbol.field_set d p v) r w = spell_field r w
spell_rest (Symbol.bound_name d p v) r w = word r.0 ∷ sign Kind.Comma r.1 ∷ spell_set r.2 (sign Kind.CloseParen r.3 ∷ sign Kind.CloseParen r.4 ∷ w)
spell_rest (Symbol.field_end p v name how f) r w = sign Kind.CloseParen r ∷ w
spell_rest (Symbol.colon d f) r w = sign Kind.Colon r.0 ∷ spell r.1 (sign Kind.Semicolon r.2 ∷ w)
spell_rest (Symbol.case_end i f end) r w = sign Kind.Semicolon r ∷ w
spell_rest (Symbol.cases d p i) r w = spell_cases r w
spell_rest (Symbol.switch_end p i) r w = sign Kind.CloseBracket r ∷ w
spell_rest (Symbol.rules any) r w = spell_more_rules r
spell_rest (Symbol.rule_end p i) r w = sign Kind.Semicolon r ∷ w

abbrev pub store_rest : (k : Symbol) → Rest k → State → State
store_rest (Symbol.want k) r st = st
store_rest (Symbol.sign tag p o) r st = add tag 0 p o st
store_rest (Symbol.paren d) r st = st
store_rest (Symbol.primary o) r st = store_primary o r st
store_rest (Symbol.operand o) r st = store_operand o r st
store_rest (Symbol.factors o) r st = store_factors o r st
store_rest (Symbol.summands o) r st = store_summands o r st
store_rest Symbol.calculation r st = store_calculation r st
store_rest Symbol.item r st = store_item r st
store_rest Symbol.item_tail r st = store_item_reach r st
store_rest (Symbol.bound some none p) r st = store_upper some none p r st
store_rest (Symbol.exception d) r st = store_exception r st
store_rest (Symbol.excluded d) r st = store_excluded r st
store_rest (Symbol.alternative d) r st = store_set r (λ x. x) st
store_rest (Symbol.alternatives d) r st = store_choices r st
store_rest (Symbol.value_set d) r st = store_set r (λ x. x) st
store_rest Symbol.counts r st = store_counts r st
store_rest Symbol.counts_tail r st = store_counts_reach r st
store_rest (Symbol.test d) r st = store_tests r (λ x. x) st
store_rest Symbol.comparison r st = add (tag_of r.0) 0 r.1.start 0 (store_calculation r.2 st)
store_rest (Symbol.condition d) r st = store_tests r (λ x. x) st
store_rest (Symbol.joined d) r st = store_joined r st
store_rest (Symbol.chain k tag d) r st = store_links tag r st
store_rest (Symbol.atom d) r st = store r false st
store_rest (Symbol.factor d) r st = store r false st
store_rest (Symbol.concatenation d) r st = store r false st
store_rest (Symbol.expression d) r st = store r false st
store_rest (Symbol.marked p i) r st = store_marked r p i st
store_rest (Symbol.counts_end p i mark f) r st = insert 3 p i 4 mark f (terms_of st) 0 st
store_rest (Symbol.members d p i many) r st = store_members r p i many st
store_rest (Symbol.branches d p i many) r st = store_branches r p i many st
store_rest (Symbol.character_tail p) r st = store_character r p st
store_rest (Symbol.last_character p) r st = leaf 7 p r.0.start 0 0 0 0 st
store_rest (Symbol.width d p) r st = store_fields r.2 p r.0.start st
store_rest (Symbol.field_set d p v) r st = store_fields r p v st
store_rest (Symbol.bound_name d p v) r st = store_field p v r.0.start (how_bound d) (terms_of st) (store_set r.2 (λ x. x) (bind st))
store_rest (Symbol.field_end p v name how f) r st = store_field p v name how f st
store_rest (Symbol.colon d f) r st = condition_on (nodes_of st) f (terms_of st) (store r.1 false st)
store_rest (Symbol.case_end i f end) r st = condition_on i f end st
store_rest (Symbol.cases d p i) r st = store_cases r p i st
store_rest (Symbol.switch_end p i) r st = insert 4 p i 0 0 0 0 0 st
store_rest (Symbol.rules any) r st = store_more_rules r st
store_rest (Symbol.rule_end p i) r st = close_rule p i st

-- the rests of all that waits
abbrev pub Rests : List Symbol → Type 0
Rests [] = Unit {0}
Rests (k ∷ ks) = Rest k × Rests ks

abbrev pub spell_all : (ks : List Symbol) → Rests ks → List Lexeme
spell_all [] r = []
spell_all (k ∷ ks) r = spell_rest k r.0 (spell_all ks r.1)

abbrev pub store_all : (ks : List Symbol) → Rests ks → State → State
store_all [] r st = st
store_all (k ∷ ks) r st = store_all ks r.1 (store_rest k r.0 st)

-- rules wait below all else, and below them nothing; what is wanted is a sign
abbrev pub Ground : List Symbol → Type 0
Ground [] = ⊥
Ground (Symbol.want k ∷ ks) = (leb 10 k ≡ true) × Ground ks
Ground (Symbol.sign tag p o ∷ ks) = Ground ks
Ground (Symbol.paren d ∷ ks) = Ground ks
Ground (Symbol.primary o ∷ ks) = Ground ks
Ground (Symbol.operand o ∷ ks) = Ground ks
Ground (Symbol.factors o ∷ ks) = Ground ks
Ground (Symbol.summands o ∷ ks) = Ground ks
Ground (Symbol.calculation ∷ ks) = Ground ks
Ground (Symbol.item ∷ ks) = Ground ks
Ground (Symbol.item_tail ∷ ks) = Ground ks
Ground (Symbol.bound some none p ∷ ks) = Ground ks
Ground (Symbol.exception d ∷ ks) = Ground ks
Ground (Symbol.excluded d ∷ ks) = Ground ks
Ground (Symbol.alternative d ∷ ks) = Ground ks
Ground (Symbol.alternatives d ∷ ks) = Ground ks
Ground (Symbol.value_set d ∷ ks) = Ground ks
Ground (Symbol.counts ∷ ks) = Ground ks
Ground (Symbol.counts_tail ∷ ks) = Ground ks
Ground (Symbol.test d ∷ ks) = Ground ks
Ground (Symbol.comparison ∷ ks) = Ground ks
Ground (Symbol.condition d ∷ ks) = Ground ks
Ground (Symbol.joined d ∷ ks) = Ground ks
Ground (Symbol.chain k tag d ∷ ks) = (leb 10 k ≡ true) × Ground ks
Ground (Symbol.atom d ∷ ks) = Ground ks
Ground (Symbol.factor d ∷ ks) = Ground ks
Ground (Symbol.concatenation d ∷ ks) = Ground ks
Ground (Symbol.expression d ∷ ks) = Ground ks
Ground (Symbol.marked p i ∷ ks) = Ground ks
Ground (Symbol.counts_end p i mark f ∷ ks) = Ground ks
Ground (Symbol.members d p i many ∷ ks) = Ground ks
Ground (Symbol.branches d p i many ∷ ks) = Ground ks
Ground (Symbol.character_tail p ∷ ks) = Ground ks
Ground (Symbol.last_character p ∷ ks) = Ground ks
Ground (Symbol.width d p ∷ ks) = Ground ks
Ground (Symbol.field_set d p v ∷ ks) = Ground ks
Ground (Symbol.bound_name d p v ∷ ks) = Ground ks
Ground (Symbol.field_end p v name how f ∷ ks) = Ground ks
Ground (Symbol.colon d f ∷ ks) = Ground ks
Ground (Symbol.case_end i f end ∷ ks) = Ground ks
Ground (Symbol.cases d p i ∷ ks) = Ground ks
Ground (Symbol.switch_end p i ∷ ks) = Ground ks
Ground (Symbol.rules any ∷ []) = Unit {0}
Ground (Symbol.rules any ∷ k ∷ ks) = ⊥
Ground (Symbol.rule_end p i ∷ ks) = Ground ks

-- no parenthesis that waits is too deep
abbrev pub Room : List Symbol → Type 0
Room [] = Unit {0}
Room (Symbol.want k ∷ ks) = Room ks
Room (Symbol.sign tag p o ∷ ks) = Room ks
Room (Symbol.paren d ∷ ks) = (d < 16) × Room ks
Room (Symbol.primary o ∷ ks) = Room ks
Room (Symbol.operand o ∷ ks) = Room ks
Room (Symbol.factors o ∷ ks) = Room ks
Room (Symbol.summands o ∷ ks) = Room ks
Room (Symbol.calculation ∷ ks) = Room ks
Room (Symbol.item ∷ ks) = Room ks
Room (Symbol.item_tail ∷ ks) = Room ks
Room (Symbol.bound some none p ∷ ks) = Room ks
Room (Symbol.exception d ∷ ks) = Room ks
Room (Symbol.excluded d ∷ ks) = Room ks
Room (Symbol.alternative d ∷ ks) = Room ks
Room (Symbol.alternatives d ∷ ks) = Room ks
Room (Symbol.value_set d ∷ ks) = Room ks
Room (Symbol.counts ∷ ks) = Room ks
Room (Symbol.counts_tail ∷ ks) = Room ks
Room (Symbol.test d ∷ ks) = Room ks
Room (Symbol.comparison ∷ ks) = Room ks
Room (Symbol.condition d ∷ ks) = Room ks
Room (Symbol.joined d ∷ ks) = Room ks
Room (Symbol.chain k tag d ∷ ks) = Room ks
Room (Symbol.atom d ∷ ks) = Room ks
Room (Symbol.factor d ∷ ks) = Room ks
Room (Symbol.concatenation d ∷ ks) = Room ks
Room (Symbol.expression d ∷ ks) = Room ks
Room (Symbol.marked p i ∷ ks) = Room ks
Room (Symbol.counts_end p i mark f ∷ ks) = Room ks
Room (Symbol.members d p i many ∷ ks) = Room ks
Room (Symbol.branches d p i many ∷ ks) = Room ks
Room (Symbol.character_tail p ∷ ks) = Room ks
Room (Symbol.last_character p ∷ ks) = Room ks
Room (Symbol.width d p ∷ ks) = Room ks
Room (Symbol.field_set d p v ∷ ks) = Room ks
Room (Symbol.bound_name d p v ∷ ks) = Room ks
Room (Symbol.field_end p v name how f ∷ ks) = Room ks
Room (Symbol.colon d f ∷ ks) = Room ks
Room (Symbol.case_end i f end ∷ ks) = Room ks
Room (Symbol.cases d p i ∷ ks) = Room ks
Room (Symbol.switch_end p i ∷ ks) = Room ks
Room (Symbol.rules any ∷ ks) = Room ks
Room (Symbol.rule_end p i ∷ ks) = Room ks

-- opens how parts are spelled and stored
unfoldable pub opened : Unit {0}
unfolding spell_primary spell_operand spell_factors spell_product spell_summands spell_calculation spell_item spell_set spell_counts spell_tests spell_mark spell spell_rules start_of_primary start_of_operand start_of_product store_primary store_operand store_factors store_product store_summands store_calculation store_item store_set store_counts store_tests start_of store_mark store stored spell_upper spell_reach spell_exception spell_excluded spell_choices spell_links spell_joined spell_marked spell_members spell_branches spell_character spell_field spell_cases spell_more_rules store_upper store_item_reach store_counts_reach store_exception store_excluded store_choices store_links store_joined store_marked store_members store_branches store_character store_fields store_cases store_more_rules
opened = tt
