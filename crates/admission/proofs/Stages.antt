-- Stage by stage: what is stored of a text passes a number exactly as its tree does, so a row that was passed does not fit, and one that was not does.
-- Assumes nothing.
use Prim.Native.Nat.{ℕ, ◌+◌, ◌≤◌, ◌<◌}
use mathlib.Core.Path.{◌≡◌, sym, subst, ◌∙◌}
use mathlib.Core.Logic.{◌⊎◌, inl, inr}
use mathlib.Core.List.{List}
use mathlib.Core.Option.{Option, none, some}
use native.Mathlib.Omega.{arith}
use lib.ListN.{length, drop, length-drop}
use Rattle.basis.specs.Limits.{max_text_bytes, table_words}
use Rattle.text_header.specs.Header.{header_of}
use Rattle.text_header.specs.declared.Heading.{Heading}
use Rattle.text_store.specs.Store.{State, blank, rule_words}
use Rattle.text_store.specs.Words.{named_at}
use Rattle.text_parsing.specs.Form.{Outcome, right, refused}
use Rattle.text_syntax.specs.Rules.{form_of}
use Rattle.text_names.specs.Counting.{nowhere}
use Rattle.table_reach.specs.Reaching.{Reaches, Acyclic, AllReached, FirstUnreached}
use Rattle.text_admission.specs.Admitted.{form, words_of, fault_5, fault_6, fault_8, Right, Limited, Named, NotRecursive, Bounded, Headed}
use Rattle.text_admission.specs.declared.Found.{Found}
use Rattle.tree.specs.Lexemes.{lexemes}
use Rattle.tree.specs.Tree.{Rules}
use Rattle.tree_form.specs.Form.{FirstFault}
use Rattle.tree_form.specs.Spelled.{SpellsStored}
use Rattle.tree_form.specs.Stored.{stored}
use Rattle.tree_form.proofs.Formed.{formed}
use Rattle.tree_meaning.specs.Counted.{refusal_5}
use Rattle.tree_meaning.specs.Names.{refusal_6}
use Rattle.tree_meaning.specs.Reaching.{Refusal7, Acyclic as TreeAcyclic, UnreachedAt, Refusal12}
use Rattle.tree_meaning.specs.Sizes.{refusal_8}
use Rattle.tree_meaning.specs.Rows.{PastLimit, WrongName, Recursive, TooLarge}
use Rattle.tree_store.proofs.Limits.{limited, passed_5, given_5}
use Rattle.tree_store.proofs.Names.{passed_6, given_6}
use Rattle.tree_store.proofs.Standing.{SpelledBy}
use Rattle.tree_reach.proofs.Tables.{refused_7_of, acyclic_7_of, refused_12_of, reached_12_of}
use Rattle.tree_sizes.proofs.Sizes.{refused_8, passed_8}
use Rattle.admission.specs.Texts.{TreeOf, AtPlace}
use Rattle.admission.specs.Refusals.{short_table, wrong_size, wrong_header, wrong_form, past_limit, wrong_name, recursive, too_large, Fits, NoneBelow}
use Rattle.admission.proofs.Rows.{one_base, one_tree, below_next, below_1}

-- ---- what is stored, and the tree

-- the form's answer, as the tree's laws have it
read_right : (xs : List ℕ) (st : State) → form xs ≡ right st → SpellsStored (lexemes xs) blank st
unfolding form_of
read_right xs st e = (formed xs blank).right_spelled st e

read_refused : (xs : List ℕ) (p : ℕ) → form xs ≡ refused p → FirstFault (lexemes xs) p
unfolding form_of
read_refused xs p e = (formed xs blank).refused_first p e

fault_refused : (xs : List ℕ) (p : ℕ) → FirstFault (lexemes xs) p → form xs ≡ refused p
unfolding form_of
fault_refused xs p e = (formed xs blank).first_refused p e

-- ---- the rules `xs` of which `st` is read

module _ (xs : List ℕ) (short : length xs ≤ max_text_bytes) (st : State) (r : Right xs st) where
  pub spells : SpellsStored (lexemes xs) blank st
  spells = read_right xs st r.formed

  -- their tree
  abbrev pub tree : Rules
  tree = spells.tree

  pub by : SpelledBy xs tree
  by = record { end = spells.end; spells = spells.spells }

  few : length xs < nowhere
  few = omega (arith, short)

  -- what is read is what is stored of it
  to_stored : (P : State → Type 0) → P st → P (stored tree blank)
  to_stored P = subst P spells.stores

  pub from_stored : (P : State → Type 0) → P (stored tree blank) → P st
  from_stored P = subst P (sym spells.stores)

  pub five : fault_5 st ≡ nowhere → refusal_5 tree ≡ none
  five e = passed_5 few by (to_stored (λ z. fault_5 z ≡ nowhere) e)

  pub at_five : (fault_5 st ≡ nowhere → ⊥) → refusal_5 tree ≡ some (fault_5 st)
  at_five e = from_stored (λ z. refusal_5 tree ≡ some (fault_5 z)) (given_5 few by (to_stored (λ z. fault_5 z ≡ nowhere → ⊥) e))

  module _ (no_5 : refusal_5 tree ≡ none) where
    pub six : fault_6 xs st ≡ nowhere → refusal_6 tree ≡ none
    six e = passed_6 few by (limited tree no_5) (to_stored (λ z. fault_6 xs z ≡ nowhere) e)

    pub at_six : (fault_6 xs st ≡ nowhere → ⊥) → refusal_6 tree ≡ some (fault_6 xs st)
    at_six e = from_stored (λ z. refusal_6 tree ≡ some (fault_6 xs z)) (given_6 few by (limited tree no_5) (to_stored (λ z. fault_6 xs z ≡ nowhere → ⊥) e))

    module _ (no_6 : refusal_6 tree ≡ none) where
      pub seven : Acyclic (words_of xs st) → TreeAcyclic tree
      seven e = acyclic_7_of by no_5 no_6 (to_stored (λ z. Acyclic (words_of xs z)) e)

      pub at_seven : (k : ℕ) → Reaches (words_of xs st) k k → ((q : ℕ) → q < k → Reaches (words_of xs st) q q → ⊥) → Refusal7 tree (named_at (rule_words st) k)
      at_seven k e f =
          from_stored (λ z. Refusal7 tree (named_at (rule_words z) k))
          (refused_7_of by no_5 no_6 k (to_stored (λ z. Reaches (words_of xs z) k k) e) (to_stored (λ z. (q : ℕ) → q < k → Reaches (words_of xs z) q q → ⊥) f))

      pub twelve : AllReached (words_of xs st) → (p : ℕ) → UnreachedAt tree p → ⊥
      twelve e = reached_12_of by no_5 no_6 (to_stored (λ z. AllReached (words_of xs z)) e)

      pub at_twelve : (k : ℕ) → FirstUnreached (words_of xs st) k → Refusal12 tree (named_at (rule_words st) k)
      at_twelve k e = from_stored (λ z. Refusal12 tree (named_at (rule_words z) k)) (refused_12_of by no_5 no_6 k (to_stored (λ z. FirstUnreached (words_of xs z) k) e))

      pub eight : fault_8 xs st ≡ Found.Nothing → refusal_8 tree ≡ none
      eight e = (passed_8 xs tree by no_5 no_6).0 (to_stored (λ z. fault_8 xs z ≡ Found.Nothing) e)

      pub at_eight : (p : ℕ) → fault_8 xs st ≡ Found.At p → refusal_8 tree ≡ some p
      at_eight p e = (refused_8 xs tree by no_5 no_6 p).0 (to_stored (λ z. fault_8 xs z ≡ Found.At p) e)

-- ---- rows that were passed do not fit

wrong_not_right : (h : Heading) (base place : ℕ) → h ≡ Heading.Rules base → h ≡ Heading.Wrong place → ⊥
wrong_not_right h base place e f = let d : Heading.Rules base ≡ Heading.Wrong place = sym e ∙ f in let z : ◌≡◌ {A = ℕ} 0 1 = cc in omega arith

refused_not_right : (o : Outcome) (st : State) (place : ℕ) → o ≡ right st → o ≡ refused place → ⊥
refused_not_right o st place e f = let d : right st ≡ refused place = sym e ∙ f in let z : ◌≡◌ {A = ℕ} 0 1 = cc in omega arith

-- what is none is not some place
pub none_not_some : (o : Option ℕ) (p : ℕ) → o ≡ none → o ≡ some p → ⊥
none_not_some o p e f = let d : ◌≡◌ {A = Option ℕ} none (some p) = sym e ∙ f in let z : ◌≡◌ {A = ℕ} 0 1 = cc in omega arith

some_size : (n : ℕ) → 1 ≤ n → n ≤ max_text_bytes → (n ≡ 0) ⊎ (max_text_bytes < n) → ⊥
some_size n a b (inl e) = omega arith
some_size n a b (inr l) = omega arith

module _ (text table : List ℕ) where
  pub below_2 : table_words ≤ length table → NoneBelow text table 2
  below_2 l = below_next text table short_table (below_1 text table) (λ q e. omega (arith, e.0))

  pub below_3 : table_words ≤ length table → 1 ≤ length text → length text ≤ max_text_bytes → NoneBelow text table 3
  below_3 l a b = below_next text table wrong_size (below_2 l) (λ q e. some_size (length text) a b e.0)

  module _ (base : ℕ) (h : Headed text table base) where
    abbrev pub xs : List ℕ
    xs = drop base text

    pub fitting : length xs ≤ max_text_bytes
    fitting = omega (arith, length-drop base text, h.short)

    pub below_4 : NoneBelow text table 4
    below_4 = below_next text table wrong_header (below_3 h.table_fits h.some h.short) (λ q e. wrong_not_right (header_of text) base q h.header e)

    -- 4 at a token
    pub misformed : (p place : ℕ) → form xs ≡ refused p → place ≡ base + p → Fits text table wrong_form place
    misformed p place e z = (base, p, h.header, read_refused xs p e, z)

    module _ (st : State) where
      module _ (r : Right xs st) where
        abbrev pub tree_of : Rules
        tree_of = tree xs fitting st r

        -- the text's tree
        abbrev pub treed : TreeOf text
        treed = record { base = base; tree = tree_of; end = (by xs fitting st r).end; header = h.header; spells = (by xs fitting st r).spells }

        -- what holds of a tree of the text holds of this
        pub of_this : (P : Rules → ℕ → Type 0) (p : ℕ) → AtPlace text P p → (q : ℕ) × P tree_of q
        of_this P p (x, q, e, z) = (q, subst (λ (t : Rules). P t q) (one_tree x treed).1 e)

        pub below_5 : NoneBelow text table 5
        below_5 = below_next text table wrong_form below_4 not_refused
          where
            not_refused : (q : ℕ) → Fits text table wrong_form q → ⊥
            not_refused q (b, m, k, e, z) =
                refused_not_right (form xs) st m r.formed (fault_refused xs m (subst (λ (n : ℕ). FirstFault (lexemes (drop n text)) m) (one_base (header_of text) b base k h.header) e))

      pub no_5 : (p : Limited xs st) → refusal_5 (tree_of p.passed) ≡ none
      no_5 p = five xs fitting st p.passed p.none

      pub below_6 : Limited xs st → NoneBelow text table 6
      below_6 p =
          below_next text table past_limit (below_5 p.passed)
          (λ q e. (let x = of_this p.passed PastLimit q e in none_not_some (refusal_5 (tree_of p.passed)) x.0 (no_5 p) x.1))

      pub no_6 : (p : Named xs st) → refusal_6 (tree_of p.passed.passed) ≡ none
      no_6 p = six xs fitting st p.passed.passed (no_5 p.passed) p.none

      pub below_7 : Named xs st → NoneBelow text table 7
      below_7 p =
          below_next text table wrong_name (below_6 p.passed)
          (λ q e. (let x = of_this p.passed.passed WrongName q e in none_not_some (refusal_6 (tree_of p.passed.passed)) x.0 (no_6 p) x.1))

      pub below_8 : NotRecursive xs st → NoneBelow text table 8
      below_8 p =
          let n : Named xs st = p.passed in
          below_next text table recursive (below_7 n)
          (λ q e. (let x = of_this n.passed.passed Recursive q e in seven xs fitting st n.passed.passed (no_5 n.passed) (no_6 n) p.none x.0 x.1.recursive))

      pub no_8 : (p : Bounded xs st) → refusal_8 (tree_of p.passed.passed.passed.passed) ≡ none
      no_8 p = let n : Named xs st = p.passed.passed in eight xs fitting st n.passed.passed (no_5 n.passed) (no_6 n) p.none

      pub below_9 : Bounded xs st → NoneBelow text table 9
      below_9 p =
          let r : Right xs st = p.passed.passed.passed.passed in
          below_next text table too_large (below_8 p.passed)
          (λ q e. (let x = of_this r TooLarge q e in none_not_some (refusal_8 (tree_of r)) x.0 (no_8 p) x.1))
