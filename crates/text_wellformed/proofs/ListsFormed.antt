-- Each list of terms of the table is well formed for its kind.
-- Assumes nothing.
use Prim.Native.Nat.{ℕ, ◌+◌, ◌-◌, ◌≤◌, ◌<◌}
use mathlib.Core.Path.{◌≡◌, refl, sym, ap, ◌∙◌}
use mathlib.Core.Logic.{inl, inr}
use mathlib.Core.Bool.{Bool, true, false, cond}
use mathlib.Core.List.{List, [], ◌∷◌, ◌++◌}
use native.Mathlib.Omega.{arith}
use borrow.Author.Tests.{lt-ltb}
use lib.Dec.{eqb}
use lib.ListN.{length, get_or}
use lib.Seq.{get_or-append-add}
use Rattle.basis.specs.Limits.{max_rules, max_variables, max_terms}
use Rattle.term_words.specs.declared.Kind.{Kind}
use Rattle.term_sizes.specs.Sizes.{sizes}
use Rattle.term_trees.specs.Postfix.{set_terms, condition_terms}
use Rattle.term_trees.proofs.Theorems.{set_formed, condition_formed as condition-tree-formed}
use Rattle.table_layout.specs.Held
use Rattle.table_layout.specs.Places.{construct_word}
use Rattle.text_wellformed.proofs.Sums.{sum_below, total_last}
use Rattle.text_shapes.specs.TermShapes.{SetShape, ConditionShape, CountsShape, renamed_set, renamed_condition, renamed_repeats}
use Rattle.text_shapes.specs.NodeShapes.{tree, Holds, literal_tree, range_tree, use_tree, eod_tree, uint_tree, marked_tree, counted_tree, chain_tree, switch_tree}
use Rattle.text_shapes.proofs.ShapeLaws.{set_renamed, condition_renamed, repeats_renamed}
use Rattle.table_wellformed.specs.Lists.{formed, zero_values, list_formed, condition_formed}
use Rattle.table_wellformed.specs.Lists
use Rattle.text_names.specs.Counting.{nowhere}
use Rattle.text_store.specs.Words.{kind_of, node_mark, own_from, own_end, condition_from, condition_end, term_tag, stored_term_at, is_use}
use Rattle.text_encoding.specs.Lists.{narrow}
use Rattle.text_encoding.specs.Numbers
use Rattle.text_encoding.specs.Numbers.{first_at, binders_before, lists_length, condition_length, own_length, condition_start, own_start}
use Rattle.text_encoding.specs.Encoded.{start_word, end_word, operands}
use Rattle.text_wellformed.specs.Context.{Readable, Words, Nodes, ConditionAt, without, with_one, TreeAt}
use Rattle.text_wellformed.specs.Meant.{Formed}
use Rattle.text_wellformed.proofs.NoFaults.{Bound, bound_below, binders_mono, condition_use, own_use}
use Rattle.text_wellformed.proofs.TermsKnown.{known_set, known_condition, known_repeats}
use Rattle.text_wellformed.proofs.TermsListed.{Listed, cut_variable, terms_listed}
use Rattle.text_wellformed.proofs.CountsFormed.{counts_formed}
use Rattle.std.specs.Prelude.{Result, Ok, Err, ⊤}
use Rattle.term_sizes.specs.declared.SizeError.{SizeError}

-- ---- the list of a uint and of counts

pub field_list : {xs ns ts : List ℕ} {i e f g β : ℕ} → Holds xs ns ts tree i e f g β → kind_of ns i ≡ 8 → SetShape ts (own_from ns i) (own_end ns i) × (own_end ns i ≡ g)
field_list (literal_tree h a b c) k = absurd (omega (arith, h.kind_is))
field_list (range_tree h a b c d) k = absurd (omega (arith, h.kind_is))
field_list (use_tree h a b c) k = absurd (omega (arith, h.kind_is))
field_list (eod_tree h a b) k = absurd (omega (arith, h.kind_is))
field_list (uint_tree h a b c) k = (rw (b.from_is, b.end_is) b.shape, b.end_is)
field_list (marked_tree h a b c t) k = absurd (omega (arith, h.kind_is))
field_list (counted_tree h a b c t) k = absurd (omega (arith, h.kind_is))
field_list (chain_tree h (inl z) a b t) k = absurd (omega (arith, h.kind_is))
field_list (chain_tree h (inr z) a b t) k = absurd (omega (arith, h.kind_is))
field_list (switch_tree h a t) k = absurd (omega (arith, h.kind_is))

pub counts_list : {xs ns ts : List ℕ} {i e f g β : ℕ} → Holds xs ns ts tree i e f g β → kind_of ns i ≡ 3 → node_mark ns i ≡ 4 → CountsShape ts (own_from ns i) (own_end ns i) × (own_end ns i ≡ g)
counts_list (literal_tree h a b c) k w = absurd (omega (arith, h.kind_is))
counts_list (range_tree h a b c d) k w = absurd (omega (arith, h.kind_is))
counts_list (use_tree h a b c) k w = absurd (omega (arith, h.kind_is))
counts_list (eod_tree h a b) k w = absurd (omega (arith, h.kind_is))
counts_list (uint_tree h a b c) k w = absurd (omega (arith, h.kind_is))
counts_list (marked_tree h a b c t) k w = absurd (omega (arith, b.most))
counts_list (counted_tree h a b c t) k w = (rw (b.from_is, b.end_is) b.shape, b.end_is)
counts_list (chain_tree h (inl z) a b t) k w = absurd (omega (arith, h.kind_is))
counts_list (chain_tree h (inr z) a b t) k w = absurd (omega (arith, h.kind_is))
counts_list (switch_tree h a t) k w = absurd (omega (arith, h.kind_is))

-- ---- what is not malformed is formed

not_malformed : (x : Result ⊤ SizeError) → (x ≡ Err SizeError.Malformed → ⊥) → formed x ≡ true
not_malformed (Ok u) h = refl
not_malformed (Err SizeError.Malformed) h = absurd (h refl)
not_malformed (Err (SizeError.Exceeds at)) h = refl

cut_small : (xs ns : List ℕ) (a i k : ℕ) → cut_variable xs ns a i k < max_rules
cut_small xs ns a i k = omega arith

-- a list in the table: the terms from f up to e of those read
module _ (xs ns ts ws : List ℕ) (a i s f e : ℕ) (l : Listed xs ns ts ws a i s f (e - f)) where
  listed_set : SetShape ts f e → list_formed Kind.Set ws s (s + (e - f)) ≡ true
  listed_set x =
      rw (terms_listed l (rw x.is (known_set x.tree)), x.is, ← set_renamed (cut_variable xs ns a i) x.tree)
      (not_malformed (sizes Kind.Set zero_values s (set_terms (renamed_set (cut_variable xs ns a i) x.tree))) (set_formed zero_values s (renamed_set (cut_variable xs ns a i) x.tree) (x.room (cut_variable xs ns a i) (cut_small xs ns a i))))

  listed_condition : ConditionShape ts f e → list_formed Kind.Condition ws s (s + (e - f)) ≡ true
  listed_condition x =
      rw (terms_listed l (rw x.is (known_condition x.tree)), x.is, ← condition_renamed (cut_variable xs ns a i) x.tree)
      (not_malformed (sizes Kind.Condition zero_values s (condition_terms (renamed_condition (cut_variable xs ns a i) x.tree))) (condition-tree-formed zero_values s (renamed_condition (cut_variable xs ns a i) x.tree) (x.room (cut_variable xs ns a i) (cut_small xs ns a i))))

  listed_counts : CountsShape ts f e → Lists.counts_formed ws s (s + (e - f)) ≡ true
  listed_counts x =
      counts_formed zero_values (Held.term_words ws) s (s + (e - f)) (renamed_repeats (cut_variable xs ns a i) x.tree) (x.room (cut_variable xs ns a i) (cut_small xs ns a i))
      (rw (terms_listed l (rw x.is (known_repeats x.tree)), x.is) (sym (repeats_renamed (cut_variable xs ns a i) x.tree)))

-- ---- where a construct's condition stands

chosen_length : (b : Bool) (l m : List ℕ) → length l ≡ 4 → length m ≡ 4 → length (cond b l m) ≡ 4
chosen_length true l m p q = p
chosen_length false l m p q = q

operands_length : (xs ns rs : List ℕ) (r i kind : ℕ) → length (operands xs ns rs r i kind) ≡ 4
operands_length xs ns rs r i kind =
    chosen_length (eqb kind 3) _ _ refl (chosen_length (eqb kind 5) _ _ refl (chosen_length (eqb kind 6) _ _ refl (chosen_length (eqb kind 7) _ _ refl (chosen_length (eqb kind 8) _ _ refl refl))))

-- the words after the operands
pub after_operands : (xs ns rs : List ℕ) (r i k : ℕ) (rest : List ℕ) (p : ℕ) → p ≡ 4 + k → get_or (operands xs ns rs r i (kind_of ns i) ++ rest) p 0 ≡ get_or rest k 0
after_operands xs ns rs r i k rest p z =
    let y : p ≡ length (operands xs ns rs r i (kind_of ns i)) + k = rw (operands_length xs ns rs r i (kind_of ns i)) z
    in rw y (get_or-append-add (operands xs ns rs r i (kind_of ns i)) rest k 0)

-- ---- all of them

module _ {xs ns ts rs : List ℕ} {n t b r : ℕ} {ws : List ℕ} (W : Words xs ns ts rs n r ws) (N : Nodes xs ns ts n t) (R : Readable xs ns ts rs n t b r) (few_binders : binders_before ns n ≤ max_variables) (few_terms : condition_start ns n ≤ max_terms)
    (placed : (k : ℕ) → k < t → is_use (term_tag ts k) ≡ true → stored_term_at ts k < nowhere) where
  lists_fit : (i : ℕ) → i < n → own_start ns i + own_length ns i ≤ max_terms
  lists_fit i h = let l : i + 1 ≤ n = omega arith in omega (arith, total_last (lists_length ns) i, sum_below (lists_length ns) (i + 1) n l)

  small_variable : (i : ℕ) → i < n → (p : ℕ) → Bound xs ns (first_at rs r i) i p → binders_before ns (Numbers.binder_of xs ns (first_at rs r i) i p) < max_variables
  small_variable i h p x = let l : i ≤ n = omega arith in omega (arith, bound_below x, binders_mono ns i n l)

  pub own_listed : (i : ℕ) → i < n → own_end ns i ≤ t → Listed xs ns ts ws (first_at rs r i) i (own_start ns i) (own_from ns i) (own_length ns i)
  own_listed i h l =
      record {
        many = W.many;
        fits = lists_fit i h;
        at = λ m j a c. W.own_term i m j h a c;
        numbers = λ m a. R.numbers (own_from ns i + m) (omega arith);
        small = λ m a e. small_variable i h (stored_term_at ts (own_from ns i + m)) (own_use R placed i h (own_from ns i + m) (omega arith) e (omega arith) (omega arith));
      }

  pub condition_listed : (i : ℕ) → i < n → condition_end ns i ≤ t → Listed xs ns ts ws (first_at rs r i) i (condition_start ns i) (condition_from ns i) (condition_length ns i)
  condition_listed i h l =
      record {
        many = W.many;
        fits = omega (arith, lists_fit i h);
        at = λ m j a c. W.condition_term i m j h a c;
        numbers = λ m a. R.numbers (condition_from ns i + m) (omega arith);
        small = λ m a e. small_variable i h (stored_term_at ts (condition_from ns i + m)) (condition_use R placed i h (condition_from ns i + m) (omega arith) e (omega arith) (omega arith));
      }

  set_laid : (i : ℕ) → i < n → kind_of ns i ≡ 8 → list_formed Kind.Set ws (own_start ns i) (own_start ns i + own_length ns i) ≡ true
  set_laid i h k =
      let T : TreeAt xs ns ts n t i = N.trees i h
      in let x : SetShape ts (own_from ns i) (own_end ns i) × (own_end ns i ≡ T.last) = field_list T.holds k
      in listed_set xs ns ts ws (first_at rs r i) i (own_start ns i) (own_from ns i) (own_end ns i) (own_listed i h (omega (arith, x.1, T.terms_within))) x.0

  counts_laid : (i : ℕ) → i < n → kind_of ns i ≡ 3 → node_mark ns i ≡ 4 → Lists.counts_formed ws (own_start ns i) (own_start ns i + own_length ns i) ≡ true
  counts_laid i h k w =
      let T : TreeAt xs ns ts n t i = N.trees i h
      in let x : CountsShape ts (own_from ns i) (own_end ns i) × (own_end ns i ≡ T.last) = counts_list T.holds k w
      in listed_counts xs ns ts ws (first_at rs r i) i (own_start ns i) (own_from ns i) (own_end ns i) (own_listed i h (omega (arith, x.1, T.terms_within))) x.0

  from_word : (i : ℕ) → i < n → construct_word ws i 6 ≡ narrow (start_word (condition_start ns i) (condition_length ns i))
  from_word i h =
      W.construct_numbered i 6 h (omega arith) ∙ ap narrow (after_operands xs ns rs r i 0 (start_word (condition_start ns i) (condition_length ns i) ∷ end_word (condition_start ns i) (condition_length ns i) ∷ []) 4 refl)

  condition_to : (i : ℕ) → i < n → construct_word ws i 7 ≡ narrow (end_word (condition_start ns i) (condition_length ns i))
  condition_to i h =
      W.construct_numbered i 7 h (omega arith) ∙ ap narrow (after_operands xs ns rs r i 1 (start_word (condition_start ns i) (condition_length ns i) ∷ end_word (condition_start ns i) (condition_length ns i) ∷ []) 5 refl)

  pub no_condition : (i : ℕ) → i < n → condition_length ns i ≡ 0 → (construct_word ws i 6 ≡ 0) × (construct_word ws i 7 ≡ 0)
  no_condition i h z = (rw (from_word i h, z), rw (condition_to i h, z))

  pub a_condition : (i : ℕ) → i < n → 0 < condition_length ns i → (construct_word ws i 6 ≡ condition_start ns i) × (construct_word ws i 7 ≡ condition_start ns i + condition_length ns i)
  a_condition i h p =
      let q : narrow (condition_start ns i) ≡ condition_start ns i = omega (arith, lists_fit i h)
      in let o : narrow (condition_start ns i + condition_length ns i) ≡ condition_start ns i + condition_length ns i = omega (arith, lists_fit i h)
      in (rw (from_word i h, lt-ltb 0 (condition_length ns i) p) q, rw (condition_to i h, lt-ltb 0 (condition_length ns i) p) o)

  condition_laid : (i : ℕ) → i < n → ConditionAt ns ts t i → condition_formed ws i ≡ true
  condition_laid i h (without u) =
      let z : (construct_word ws i 6 ≡ 0) × (construct_word ws i 7 ≡ 0) = no_condition i h (omega (arith, u.from_is, u.end_is)) in rw (z.0, z.1) refl
  condition_laid i h (with_one c l) =
      let p : 0 < condition_length ns i = omega (arith, c.from_is, c.end_is, c.shape.some)
      in let z : (construct_word ws i 6 ≡ condition_start ns i) × (construct_word ws i 7 ≡ condition_start ns i + condition_length ns i) = a_condition i h p
      in rw (z.0, z.1, lt-ltb (condition_start ns i) (condition_start ns i + condition_length ns i) (omega arith))
      (listed_condition xs ns ts ws (first_at rs r i) i (condition_start ns i) (condition_from ns i) (condition_end ns i) (condition_listed i h (omega (arith, c.end_is))) (rw (c.from_is, c.end_is) c.shape))

  pub lists_formed : Formed ns n ws
  lists_formed = record { set = set_laid; counts = counts_laid; condition = λ i h. condition_laid i h (N.conditions i h) }
