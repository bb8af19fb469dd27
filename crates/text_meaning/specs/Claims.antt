-- What is claimed of the sets, counts and conditions of a text: they mean what the trees of document 01 mean (`term_trees`).
-- Assumes nothing.
use Rattle.std.specs.Prelude.{ℕ, ◌+◌, ◌<◌, ◌≡◌, Bool, true, false, cond, List, [], ◌∷◌, ℤ, length, set, Result, Err, ⊤}
use Rattle.std.proofs.Math.Option.{Option, none, some}
use Rattle.basis.specs.Limits.{max_variables}
use Rattle.basis.specs.Bits.{Bits}
use Rattle.basis.specs.Patterns.{pattern_value}
use Rattle.basis.specs.Counts.{Counts, zero_or_more}
use Rattle.term_words.specs.declared.Kind.{Kind}
use Rattle.term_words.specs.declared.Mode.{Mode}
use Rattle.term_words.specs.declared.Term.{Term}
use Rattle.term_evaluation.specs.Variables.{has_variable}
use Rattle.term_sizes.specs.Sizes.{sizes, of_tally}
use Rattle.term_sizes.specs.Inside.{Inside}
use Rattle.term_trees.specs.Trees.{ValueSet, has, Condition, true_at, Repeats, exact, on_from, up_to_bound, spanning, repeats}
use Rattle.term_trees.specs.Postfix.{set_terms, condition_terms, repeat_terms}
use Rattle.theory.specs.Grammar.{◌∈◌, repetition, switch, field}
use Rattle.theory.specs.Machine.{choose}
use Rattle.table_layout.specs.Held.{Context, Values, HeldNode}
use Rattle.text_store.specs.Words.{kind_of, node_mark, is_binder}
use Rattle.text_encoding.specs.Numbers.{binders_before, width_of, is_signed}
use Rattle.text_meaning.specs.Meaning.{counted, parts_of, own_list, condition_list, is_default, no_default, grammar_of}
use Rattle.term_sizes.specs.declared.SizeError.{SizeError}

-- "a calculation, or part of one, whose size may pass 2^62 (variables at their widest, sizes added and multiplied)" is refused. So: the values
-- lie within sizes of the 64 variables at which no calculation of a list passes 2^62.
pub record Fits (sized : List ℤ → Result ⊤ SizeError) (v : Values) : Type 0 where
  pub widest : List ℤ
  pub many : length widest ≡ max_variables
  pub inside : Inside v widest
  pub small : (at : ℕ) → sized widest ≡ Err (SizeError.Exceeds at) → ⊥

-- of a set or a condition
abbrev pub ListFits : Kind → List Term → Values → Type 0
ListFits kind list v = Fits (λ w. sizes kind w 0 list) v

-- of counts
abbrev pub CountsFit : List Term → Values → Type 0
CountsFit list v = Fits (λ w. of_tally (counted Mode.Sizes w list)) v

-- a node is a uint or sint of this width with the set of this list; where it binds, it binds this variable
pub record UintMeans (node : HeldNode) (signed : Bool) (width : ℕ) (list : List Term) (binds : Bool) (variable : ℕ) : Type 0 where
  pub admits : Context → Values → Bits → Bool
  pub static : Bits → Bool
  pub node_is : node ≡ field (λ bits. width) admits static (λ c v bits. cond binds (set v variable (pattern_value signed bits)) v)
  pub tree : ValueSet
  pub list_is : list ≡ set_terms tree
  pub admitted : (c : Context) (v : Values) (bits : Bits) → ListFits Kind.Set list v → admits c v bits ≡ has v tree (pattern_value signed bits)
  -- "a set with a variable counting as `~`"
  pub at_first : (v : Values) (bits : Bits) → ListFits Kind.Set list v → static bits ≡ cond (has_variable list) true (has v tree (pattern_value signed bits))

-- written `{n}`
abbrev pub is_exact_count : Repeats → Bool
is_exact_count (exact n) = true
is_exact_count (on_from a) = false
is_exact_count (up_to_bound b) = false
is_exact_count (spanning a b) = false

-- a node is a repetition of this body with the counts of this list
pub record CountsMean (node : HeldNode) (list : List Term) (body : ℕ) : Type 0 where
  pub counts : Context → Values → Counts
  pub static : Counts
  pub fixed : Bool
  pub node_is : node ≡ repetition counts static fixed body
  pub tree : Repeats
  pub list_is : list ≡ repeat_terms tree
  pub allowed : (c : Context) (v : Values) → CountsFit list v → counts c v ≡ repeats v tree
  -- "counts with a variable allowing all"
  pub at_first : (v : Values) → CountsFit list v → static ≡ cond (has_variable list) zero_or_more (repeats v tree)
  pub fixed_is : fixed ≡ is_exact_count tree

-- the default is always taken
abbrev pub met : Values → Option Condition → Bool
met v none = true
met v (some x) = true_at v x

-- case b is the default, or has this condition
abbrev pub Guards : (xs ns ts rs : List ℕ) → (r b : ℕ) → Option Condition → Type 0
Guards xs ns ts rs r b none = is_default ns b ≡ true
Guards xs ns ts rs r b (some x) = (is_default ns b ≡ false) × (condition_list xs ns ts rs r b ≡ condition_terms x)

-- "the default last and optional": all cases but the last have a condition
unfoldable pub DefaultLast : List ℕ → List ℕ → Type 0
DefaultLast ns [] = Unit {0}
DefaultLast ns (c ∷ []) = Unit {0}
DefaultLast ns (c ∷ d ∷ cs) = (is_default ns c ≡ false) × DefaultLast ns (d ∷ cs)

-- a node is a switch of these cases: "takes its first true case, else the default"; it may take none where it has no default
pub record SwitchMeans (xs ns ts rs : List ℕ) (r : ℕ) (node : HeldNode) (cases : List ℕ) : Type 0 where
  pub chosen : Context → Values → Option ℕ
  pub node_is : node ≡ switch chosen (no_default ns cases) cases
  pub default_last : DefaultLast ns cases
  pub guard : ℕ → Option Condition
  pub guards : (b : ℕ) → b ∈ cases → Guards xs ns ts rs r b (guard b)
  pub takes : (c : Context) (v : Values) → ((b : ℕ) → b ∈ cases → is_default ns b ≡ false → ListFits Kind.Condition (condition_list xs ns ts rs r b) v)
      → chosen c v ≡ choose (λ b. met v (guard b)) cases

-- Sets, counts and cases of what is read (n nodes, r rules) mean what the trees of document 01's forms mean (crate `term_trees`).
pub record Meanings (xs ns ts rs : List ℕ) (n r : ℕ) : Type 0 where
  pub uints : (i : ℕ) → i < n → kind_of ns i ≡ 8 → UintMeans ((grammar_of xs ns ts rs n r).node i) (is_signed xs ns i) (width_of xs ns i) (own_list xs ns ts rs r i) (is_binder ns i) (binders_before ns i)
  pub counted_passes : (i : ℕ) → i < n → kind_of ns i ≡ 3 → node_mark ns i ≡ 4 → CountsMean ((grammar_of xs ns ts rs n r).node i) (own_list xs ns ts rs r i) (i + 1)
  pub switches : (i : ℕ) → i < n → kind_of ns i ≡ 4 → SwitchMeans xs ns ts rs r ((grammar_of xs ns ts rs n r).node i) (parts_of ns i)
