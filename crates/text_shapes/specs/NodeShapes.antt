-- Nodes as they are read: trees in preorder. A tree of the nodes from i up to e has the terms from f up to g, in text order, and β binders.
-- Assumes nothing.
use Rattle.std.specs.Prelude.{ℕ, suc, ◌+◌, ◌-◌, ◌≤◌, ◌<◌, ◌≡◌, ◌⊎◌, true, List}
use Rattle.text_store.specs.Words.{kind_of, node_size, place_of, node_mark, last_place, width_place, bound_at, how_bound, own_from, own_end, condition_from, condition_end, named_at, first_node, last_node, terms_at_end, binders_at_end}
use Rattle.text_parsing.specs.Terminals.{is, is_name}
use Rattle.text_parsing.specs.declared.Terminal.{Terminal}
use Rattle.text_productions.specs.Phrases.{Seen}
use Rattle.text_shapes.specs.TermShapes.{SetShape, ConditionShape, CountsShape}

-- ---- what stands at a place of the text

-- a name, reserved or not
pub record NameAt (xs : List ℕ) (p : ℕ) : Type 0 where
  pub terminal : Terminal
  pub seen : Seen xs terminal
  pub name : is_name terminal ≡ true
  pub place : p ≡ terminal.start

-- a number
pub record NumberAt (xs : List ℕ) (p : ℕ) : Type 0 where
  pub terminal : Terminal
  pub seen : Seen xs terminal
  pub number : is 2 terminal ≡ true
  pub place : p ≡ terminal.start

-- a literal of one character
pub record CharacterAt (xs : List ℕ) (p : ℕ) : Type 0 where
  pub terminal : Terminal
  pub seen : Seen xs terminal
  pub character : is 9 terminal ≡ true
  pub place : p ≡ terminal.start

-- a literal of several
pub record LiteralAt (xs : List ℕ) (p : ℕ) : Type 0 where
  pub terminal : Terminal
  pub seen : Seen xs terminal
  pub literal : is 3 terminal ≡ true
  pub place : p ≡ terminal.start

-- ---- nodes

-- kind and size
pub record Headed (ns : List ℕ) (i e kind : ℕ) : Type 0 where
  pub kind_is : kind_of ns i ≡ kind
  pub size_is : node_size ns i ≡ e - i
  pub below : i < e

-- node i is no case of a switch, or the default
pub record Unconditioned (ns : List ℕ) (i : ℕ) : Type 0 where
  pub from_is : condition_from ns i ≡ 0
  pub end_is : condition_end ns i ≡ 0

-- node i is a case with the condition of the terms from f up to h
pub record Conditioned (ns ts : List ℕ) (i f h : ℕ) : Type 0 where
  pub from_is : condition_from ns i ≡ f
  pub end_is : condition_end ns i ≡ h
  pub shape : ConditionShape ts f h

-- a uint: how it binds is 0 (not), 1 (outside any group) or 2
pub record Binds (xs ns : List ℕ) (i β : ℕ) : Type 0 where
  pub how : ((how_bound ns i ≡ 0) × (β ≡ 0)) ⊎ (((how_bound ns i ≡ 1) ⊎ (how_bound ns i ≡ 2)) × (β ≡ 1) × NameAt xs (bound_at ns i))

-- a repetition written `?`, `*` or `+`
pub record Marked (ns : List ℕ) (i : ℕ) : Type 0 where
  pub least : 1 ≤ node_mark ns i
  pub most : node_mark ns i ≤ 3

-- one written with braces; its counts are the terms from m up to g
pub record Counted (ns ts : List ℕ) (i m g : ℕ) : Type 0 where
  pub how : node_mark ns i ≡ 4
  pub from_is : own_from ns i ≡ m
  pub end_is : own_end ns i ≡ g
  pub shape : CountsShape ts m g

-- a uint: its width, and its set, which is the terms from f up to g
pub record Field (xs ns ts : List ℕ) (i f g : ℕ) : Type 0 where
  pub width : NumberAt xs (width_place ns i)
  pub from_is : own_from ns i ≡ f
  pub end_is : own_end ns i ≡ g
  pub shape : SetShape ts f g

-- ---- trees

-- what some nodes in a row are
pub data Shape : Type 0 where
  tree : Shape
  -- so many trees, none a case
  forest : ℕ → Shape
  -- the cases of a switch, at least one with a condition
  cases : Shape
  -- what may follow a case: nothing, the default, or cases
  further : Shape

-- the nodes from i up to e are such a shape, with the terms from f up to g and β binders
pub data Holds (xs ns ts : List ℕ) : Shape → (i e f g β : ℕ) → Type 0 where
  literal_tree : {i e f β : ℕ} → Headed ns i e 6 → e ≡ i + 1 → β ≡ 0 → LiteralAt xs (place_of ns i) ⊎ CharacterAt xs (place_of ns i) → Holds xs ns ts tree i e f f β
  range_tree : {i e f β : ℕ} → Headed ns i e 7 → e ≡ i + 1 → β ≡ 0 → CharacterAt xs (place_of ns i) → CharacterAt xs (last_place ns i) → Holds xs ns ts tree i e f f β
  use_tree : {i e f β : ℕ} → Headed ns i e 5 → e ≡ i + 1 → β ≡ 0 → NameAt xs (place_of ns i) → Holds xs ns ts tree i e f f β
  eod_tree : {i e f β : ℕ} → Headed ns i e 9 → e ≡ i + 1 → β ≡ 0 → Holds xs ns ts tree i e f f β
  uint_tree : {i e f g β : ℕ} → Headed ns i e 8 → e ≡ i + 1 → Field xs ns ts i f g → Binds xs ns i β → Holds xs ns ts tree i e f g β
  marked_tree : {i j e f g β : ℕ} → Headed ns i e 3 → j ≡ i + 1 → Marked ns i → Unconditioned ns j → Holds xs ns ts tree j e f g β → Holds xs ns ts tree i e f g β
  counted_tree : {i j e f m g β : ℕ} → Headed ns i e 3 → j ≡ i + 1 → Counted ns ts i m g → Unconditioned ns j → Holds xs ns ts tree j e f m β → Holds xs ns ts tree i e f g β
  chain_tree : {i j e f g β n kind : ℕ} → Headed ns i e kind → (kind ≡ 1) ⊎ (kind ≡ 2) → j ≡ i + 1 → 2 ≤ n → Holds xs ns ts (forest n) j e f g β → Holds xs ns ts tree i e f g β
  switch_tree : {i j e f g β : ℕ} → Headed ns i e 4 → j ≡ i + 1 → Holds xs ns ts cases j e f g β → Holds xs ns ts tree i e f g β
  no_trees : {i f β : ℕ} → β ≡ 0 → Holds xs ns ts (forest 0) i i f f β
  more_trees : {n i m e f h g β γ δ : ℕ} → Unconditioned ns i → Holds xs ns ts tree i m f h β → Holds xs ns ts (forest n) m e h g γ → δ ≡ β + γ → Holds xs ns ts (forest (suc n)) i e f g δ
  a_case : {i m e f h k g β γ δ : ℕ} → Conditioned ns ts i f h → Holds xs ns ts tree i m h k β → Holds xs ns ts further m e k g γ → δ ≡ β + γ → Holds xs ns ts cases i e f g δ
  no_further : {i f β : ℕ} → β ≡ 0 → Holds xs ns ts further i i f f β
  a_default : {i e f g β : ℕ} → Unconditioned ns i → Holds xs ns ts tree i e f g β → Holds xs ns ts further i e f g β
  more_cases : {i e f g β : ℕ} → Holds xs ns ts cases i e f g β → Holds xs ns ts further i e f g β

-- ---- rules: those from number k up to r have the nodes from i up to n, the terms from f up to t and the binders from u up to b

-- rule k: its first node is i, and at its end there are m nodes, h terms and v binders
pub record Ruled (rs : List ℕ) (k i m h v : ℕ) : Type 0 where
  pub first_is : first_node rs k ≡ i
  pub nodes_are : last_node rs k ≡ m
  pub terms_are : terms_at_end rs k ≡ h
  pub binders_are : binders_at_end rs k ≡ v

-- "A rule is `name = expression ;`", and its expression is one tree
pub data Rules (xs ns ts rs : List ℕ) (r n t b : ℕ) : (k i f u : ℕ) → Type 0 where
  no_rules : {k i f u : ℕ} → k ≡ r → i ≡ n → f ≡ t → u ≡ b → Rules xs ns ts rs r n t b k i f u
  a_rule : {k l i m f h u v β : ℕ} → NameAt xs (named_at rs k) → Ruled rs k i m h v → l ≡ k + 1 → v ≡ u + β → Unconditioned ns i → Holds xs ns ts tree i m f h β → Rules xs ns ts rs r n t b l m h v → Rules xs ns ts rs r n t b k i f u
