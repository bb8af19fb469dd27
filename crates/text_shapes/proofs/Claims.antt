-- What each symbol adds to what is read, from a state `a` to a state `b`, both within the limits.
-- Assumes nothing.
use Prim.Native.Nat.{ℕ, ◌+◌, ◌≤◌, ◌<◌}
use mathlib.Core.Path.{◌≡◌}
use mathlib.Core.Bool.{Bool, true, false}
use mathlib.Core.List.{List, [], ◌∷◌}
use lib.ListN.{length, get_or}
use Rattle.basis.specs.Limits.{max_nesting, max_terms}
use Rattle.text_store.specs.Words.{node_start, term_start, rule_start, terms_room}
use Rattle.text_parsing.specs.Symbols.{Symbol, want, sign, paren, primary, operand, factors, summands, calculation, item, item_tail, bound, exception, excluded, alternative, alternatives, value_set, counts, counts_tail, test, comparison, condition, joined, chain, atom, factor, concatenation, expression, marked, counts_end, members, branches, character_tail, last_character, width, field_set, bound_name, field_end, colon, case_end, cases, switch_end, rules, rule_end}
use Rattle.text_store.specs.Store.{State, nodes_of, terms_of, insert, leaf, condition_on, close_rule, node_words, term_words, rule_words, binders_of, rules_of}
use Rattle.text_productions.specs.Phrases.{Phrases}
use Rattle.text_shapes.specs.TermShapes.{SetShape, ConditionShape, CountsShape}
use Rattle.text_shapes.specs.NodeShapes.{NumberAt, CharacterAt, Unconditioned, Conditioned, Shape, tree, forest, further, Holds, Rules}
use Rattle.text_shapes.proofs.Moving.{TermsSame}
use Rattle.text_shapes.proofs.Growth.{Fine}

-- ---- lists of terms, as `TermLaws` has them

-- only terms are added
pub record TermsOnly (a b : State) : Type 0 where
  pub node_words_same : node_words b ≡ node_words a
  pub rule_words_same : rule_words b ≡ rule_words a
  pub nodes_same : nodes_of b ≡ nodes_of a
  pub binders_same : binders_of b ≡ binders_of a
  pub rules_same : rules_of b ≡ rules_of a
  pub length_is : length (term_words b) ≡ terms_room
  pub grow : terms_of a ≤ terms_of b
  pub kept : (k : ℕ) → k < term_start (terms_of a) → get_or (term_words b) k 0 ≡ get_or (term_words a) k 0

pub record TermFacts (xs : List ℕ) : Type 0 where
  pub same : TermsSame
  pub set_read : (d : ℕ) (a b : State) → Phrases xs (value_set d ∷ []) a b → length (term_words a) ≡ terms_room → terms_of b ≤ max_terms → d ≤ max_nesting → SetShape (term_words b) (terms_of a) (terms_of b) × TermsOnly a b
  pub condition_read : (d : ℕ) (a b : State) → Phrases xs (condition d ∷ []) a b → length (term_words a) ≡ terms_room → terms_of b ≤ max_terms → d ≤ max_nesting → ConditionShape (term_words b) (terms_of a) (terms_of b) × TermsOnly a b
  pub counts_read : (a b : State) → Phrases xs (counts ∷ []) a b → length (term_words a) ≡ terms_room → terms_of b ≤ max_terms → CountsShape (term_words b) (terms_of a) (terms_of b) × TermsOnly a b

-- ---- what a part leaves

-- the words of the nodes below i, and of all terms and rules, are as before
pub record Kept (i : ℕ) (a b : State) : Type 0 where
  pub nodes : (k : ℕ) → k < node_start i → get_or (node_words b) k 0 ≡ get_or (node_words a) k 0
  pub terms : (k : ℕ) → k < term_start (terms_of a) → get_or (term_words b) k 0 ≡ get_or (term_words a) k 0
  pub rules : (k : ℕ) → k < rule_start (rules_of a) → get_or (rule_words b) k 0 ≡ get_or (rule_words a) k 0
  pub more_terms : terms_of a ≤ terms_of b
  pub more_rules : rules_of a ≤ rules_of b

-- a shape from node i, term f and binder u up to all that is read
pub record Part (xs : List ℕ) (s : Shape) (i f u : ℕ) (st : State) : Type 0 where
  pub count : ℕ
  pub bound : binders_of st ≡ u + count
  pub holds : Holds xs (node_words st) (term_words st) s i (nodes_of st) f (terms_of st) count

-- from a to b a tree is made from node i on, which is no case
pub record Gives (xs : List ℕ) (i f u : ℕ) (a b : State) : Type 0 where
  pub kept : Kept i a b
  pub steady : rules_of b ≡ rules_of a
  pub part : Part xs tree i f u b
  pub free : Unconditioned (node_words b) i

-- a whole tree
abbrev pub Whole : List ℕ → State → State → Type 0
Whole xs a b = Gives xs (nodes_of a) (terms_of a) (binders_of a) a b

-- a case whose condition is the terms from f on: from a to b its body is read
pub record CaseRead (xs : List ℕ) (f : ℕ) (a b : State) : Type 0 where
  pub kept : Kept (nodes_of a) a b
  pub steady : rules_of b ≡ rules_of a
  pub part : Part xs tree (nodes_of a) (terms_of a) (binders_of a) b
  pub case : Conditioned (node_words b) (term_words b) (nodes_of a) f (terms_of a)

-- cases from node i on, to which what follows, if anything, may still be read
pub record Open (xs : List ℕ) (i f u : ℕ) (a : State) : Type 0 where
  pub count : ℕ
  pub bound : binders_of a ≡ u + count
  pub begins : i ≤ nodes_of a
  pub close : (b : State) → Kept (nodes_of a) a b → (γ : ℕ) → Holds xs (node_words b) (term_words b) further (nodes_of a) (nodes_of b) (terms_of a) (terms_of b) γ → Holds xs (node_words b) (term_words b) Shape.cases i (nodes_of b) f (terms_of b) (count + γ)

pub record RulesRead (xs : List ℕ) (any : Bool) (a b : State) : Type 0 where
  pub kept : Kept (nodes_of a) a b
  pub rules : Rules xs (node_words b) (term_words b) (rule_words b) (rules_of b) (nodes_of b) (terms_of b) (binders_of b) (rules_of a) (nodes_of a) (terms_of a) (binders_of a)
  pub some : any ≡ false → rules_of a < rules_of b

-- nothing is added
pub data Still : State → State → Type 0 where
  still : {a : State} → Still a a

pub data Opened (d : ℕ) : State → State → Type 0 where
  opened : {a : State} → d < max_nesting → Opened d a a

-- how many trees there are before it is known whether there is one or several
abbrev pub Several : Bool → ℕ → Type 0
Several true k = 2 ≤ k
Several false k = k ≡ 1

-- trees from i on become one tree
abbrev pub Chained : List ℕ → (d i : ℕ) (many : Bool) → State → State → Type 0
Chained xs d i many a b = d ≤ max_nesting → (k f u : ℕ) → Several many k → Part xs (forest k) i f u a → Gives xs i f u a b

-- ---- the claims

abbrev pub Claim : List ℕ → Symbol → State → State → Type 0
Claim xs (want k) a b = Still a b
Claim xs (sign tag p o) a b = Unit {0}
Claim xs (paren d) a b = Opened d a b
Claim xs (primary o) a b = Unit {0}
Claim xs (operand o) a b = Unit {0}
Claim xs (factors o) a b = Unit {0}
Claim xs (summands o) a b = Unit {0}
Claim xs calculation a b = Unit {0}
Claim xs item a b = Unit {0}
Claim xs item_tail a b = Unit {0}
Claim xs (bound some none p) a b = Unit {0}
Claim xs (exception d) a b = Unit {0}
Claim xs (excluded d) a b = Unit {0}
Claim xs (alternative d) a b = Unit {0}
Claim xs (alternatives d) a b = Unit {0}
Claim xs (value_set d) a b = Phrases xs (value_set d ∷ []) a b
Claim xs counts a b = Phrases xs (counts ∷ []) a b
Claim xs counts_tail a b = Unit {0}
Claim xs (test d) a b = Unit {0}
Claim xs comparison a b = Unit {0}
Claim xs (condition d) a b = Phrases xs (condition d ∷ []) a b
Claim xs (joined d) a b = Unit {0}
Claim xs (chain code tag d) a b = Unit {0}
Claim xs (atom d) a b = d ≤ max_nesting → Whole xs a b
Claim xs (factor d) a b = d ≤ max_nesting → Whole xs a b
Claim xs (concatenation d) a b = d ≤ max_nesting → Whole xs a b
Claim xs (expression d) a b = d ≤ max_nesting → Whole xs a b
Claim xs (marked p i) a b = (f u : ℕ) → Part xs tree i f u a → Unconditioned (node_words a) i → Gives xs i f u a b
Claim xs (counts_end p i mark f) a b = b ≡ insert 3 p i 4 mark f (terms_of a) 0 a
Claim xs (members d p i many) a b = Chained xs d i many a b
Claim xs (branches d p i many) a b = Chained xs d i many a b
Claim xs (character_tail p) a b = CharacterAt xs p → Whole xs a b
Claim xs (last_character p) a b = CharacterAt xs p → Whole xs a b
Claim xs (width d p) a b = d ≤ max_nesting → Whole xs a b
Claim xs (field_set d p w) a b = d ≤ max_nesting → NumberAt xs w → Whole xs a b
Claim xs (bound_name d p w) a b = d ≤ max_nesting → NumberAt xs w → Whole xs a b
Claim xs (field_end p w q how f) a b = b ≡ leaf 8 p w q f (terms_of a) how a
Claim xs (colon d f) a b = d ≤ max_nesting → ConditionShape (term_words a) f (terms_of a) → CaseRead xs f a b
Claim xs (case_end i f e) a b = b ≡ condition_on i f e a
Claim xs (cases d p i) a b = d ≤ max_nesting → (f u : ℕ) → Open xs i f u a → Gives xs i f u a b
Claim xs (switch_end p i) a b = b ≡ insert 4 p i 0 0 0 0 0 a
Claim xs (rules any) a b = RulesRead xs any a b
Claim xs (rule_end p i) a b = b ≡ close_rule p i a

-- symbols one after the other, each with its claim
pub data Reads (xs : List ℕ) : List Symbol → State → State → Type 0 where
  end : {a : State} → Reads xs [] a a
  next : {k : Symbol} {ks : List Symbol} {a c d : State} → Claim xs k a c → Fine c → Reads xs ks c d → Reads xs (k ∷ ks) a d
