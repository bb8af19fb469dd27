-- What refusal 8 finds, up to a place p, in the lists of a node, is what the tree says of its formulas. Asked of rules whose widths up to p are right: a formula that stands
-- behind p has no fault up to p, and before p no width is cut.
-- Assumes nothing.
use Prim.Native.Nat.{ℕ, ◌+◌, ◌≤◌, ◌<◌, min}
use mathlib.Core.Path.{◌≡◌, refl, sym, ap, ap₂, subst, ◌∙◌}
use mathlib.Core.Logic.{◌↔◌}
use mathlib.Core.Bool.{Bool, true, false, cond, ◌&&◌}
use mathlib.Core.List.{List, [], ◌∷◌, ◌++◌}
use native.Mathlib.Omega.{arith}
use native.Mathlib.Decide.{dec_le}
use borrow.Author.Tests.{leb-true, le-leb}
use lib.Dec.{leb, eqb}
use lib.IntN.{pos, nat_abs}
use lib.ListN.{length, get_or, length-append}
use Rattle.basis.specs.Limits.{max_width, max_bound_width}
use Rattle.text_tokens.specs.Numbers.{capped, number_value}
use Rattle.table_layout.specs.Constructs.{construct_at}
use Rattle.table_layout.specs.Held
use Rattle.table_sizes.specs.Measures.{widest as table-widest, condition_size, own_size}
use Rattle.table_sizes.proofs.WidestLaws.{widest_length}
use Rattle.text_store.specs.Words.{kind_of, node_size, node_mark, width_place, is_binder, own_from, own_end, condition_from, condition_end}
use Rattle.text_names.specs.Names.{bound_between}
use Rattle.text_encoding.specs.Numbers.{width_of, binders_before, condition_start, own_start, own_length, condition_length}
use Rattle.text_wellformed.specs.Context.{Words}
use Rattle.text_admission.specs.Extents.{list_found}
use Rattle.text_admission.specs.declared.Found.{Found}
use Rattle.tree.specs.Lexemes.{Name, Number, Lexeme}
use Rattle.tree.specs.Tree.{Item, everything, only, between, from, up_to_bound, SetPart, Choices, item, item_but_item, item_but_set, last_choice, or_choices, ValueSet, Condition, Counts, exactly, at_least_count, at_most, span}
use Rattle.tree.specs.Spelling.{spell_set, spell_counts, spell_tests}
use Rattle.tree_meaning.specs.Pieces.{Term, a_number, a_use, a_sign, Component, set_parts, counts_parts, tests_parts, terms_of, uses_in}
use Rattle.tree_meaning.specs.Names.{is_among}
use Rattle.tree_meaning.specs.Sizes.{calculation_faults}
use Rattle.tree_meaning.proofs.Passing.{UsesRight}
use Rattle.tree_store.proofs.Rows.{TermRow, a_term, last_marked, calculation_rows, item_rows, set_rows, counts_rows, tests_rows}
use Rattle.tree_store.proofs.Lengths.{some_calculation}
use Rattle.tree_store.proofs.Standing.{Standing}
use Rattle.tree_store.proofs.Uses.{Here, no_more, set_uses, counts_uses, tests_uses}
use Rattle.tree_store.proofs.Binding.{Before}
use Rattle.tree_grammar.proofs.Lists.{RowsAt}
use Rattle.tree_grammar.proofs.Formulas.{AllHere, uses_here}
use Rattle.tree_grammar.proofs.Firsts.{some_tests}
use Rattle.tree_sizes.proofs.Hits.{Hit, Hits}
use Rattle.tree_sizes.proofs.Tells.{told, set_tells, counts_tells, tests_tells}
use Rattle.tree_sizes.proofs.Reckoning.{Measured}
use Rattle.tree_sizes.proofs.Founds.{Matches, set_found, condition_found, counts_found}
use Rattle.tree_sizes.proofs.Rising.{rising_from, first_hit, Rises, set_rises, counts_rise, tests_rise}
use Rattle.tree_sizes.proofs.Agreeing.{Agree, same_faults}
use Rattle.tree_sizes.proofs.Tables.{number_at, most_at, most_bound, own_written, condition_written, no_list, set_list, wrong_list, counts_list, condition_list, no_condition}
use Rattle.std.specs.Prelude.{Result, ⊤}
use Rattle.term_sizes.specs.declared.SizeError.{SizeError}

-- ---- a formula has a row

marked_some : (A : List TermRow) → 1 ≤ length A → 1 ≤ length (last_marked A)
unfolding last_marked
marked_some [] h = h
marked_some (r ∷ []) h = omega arith
marked_some (r ∷ q ∷ A) h = omega arith

some_item : (x : Item) → 1 ≤ length (item_rows x)
unfolding item_rows
some_item (everything s) = omega arith
some_item (only a) = marked_some (calculation_rows a) (some_calculation a)
some_item (between a s b) = omega (arith, length-append (calculation_rows a) (calculation_rows b ++ (a_term 8 0 s.start 0 ∷ [])), some_calculation a)
some_item (from a s) = omega (arith, length-append (calculation_rows a) (a_term 9 0 s.start 0 ∷ []), some_calculation a)
some_item (up_to_bound s b) = omega (arith, length-append (calculation_rows b) (a_term 10 0 s.start 0 ∷ []), some_calculation b)

some_set : {k : SetPart} {d : ℕ} (x : Choices k d) (J : List TermRow) → 1 ≤ length (set_rows x J)
unfolding set_rows
some_set (item a) J = omega (arith, length-append (item_rows a) J, some_item a)
some_set (item_but_item a s b) J = omega (arith, length-append (item_rows a) (item_rows b ++ (a_term 12 0 s.start 0 ∷ J)), some_item a)
some_set (item_but_set depth a s opens b closes) J = omega (arith, length-append (item_rows a) (set_rows b [] ++ (a_term 12 0 s.start 0 ∷ J)), some_item a)
some_set (last_choice a) J = some_set a J
some_set (or_choices a s b) J = omega (arith, length-append (set_rows a J) (set_rows b (a_term 11 0 s.start 0 ∷ [])), some_set a J)

some_counts : (x : Counts) → 1 ≤ length (counts_rows x)
unfolding counts_rows
some_counts (exactly n) = some_calculation n
some_counts (at_least_count a s) = omega (arith, length-append (calculation_rows a) (a_term 9 0 s.start 0 ∷ []), some_calculation a)
some_counts (at_most s b) = omega (arith, length-append (calculation_rows b) (a_term 10 0 s.start 0 ∷ []), some_calculation b)
some_counts (span a s b) = omega (arith, length-append (calculation_rows a) (calculation_rows b ++ (a_term 8 0 s.start 0 ∷ [])), some_calculation a)

-- ---- the rule that is looked at

-- its nodes go from a up to `end`; numbers and sizes of its variables, by their letters
pub record Ruled (xs ns ts rs ws : List ℕ) (n r : ℕ) (numbered : List ℕ → ℕ) (a end : ℕ) : Type 0 where
  pub words : Words xs ns ts rs n r ws
  pub few_nodes : n ≤ 256
  pub few_terms : condition_start ns n ≤ 1024
  pub few_binders : binders_before ns n ≤ 64
  pub inside : end ≤ n
  pub variables : (i : ℕ) (y : Name) → Here xs y → a ≤ i → i < end → bound_between xs ns a i y.start ≡ true → number_at xs ns rs r i y.start ≡ numbered y.letters

-- what is found in node i: in its condition, in its own list
abbrev pub condition_at : List ℕ → List ℕ → List ℕ → ℕ → Found
condition_at ns ts ws i = list_found ts (condition_from ns i) (condition_start ns i) (condition_size ws i)

-- and in its own list
abbrev pub own_at : List ℕ → List ℕ → List ℕ → ℕ → Found
own_at ns ts ws i = list_found ts (own_from ns i) (own_start ns i) (own_size ws (construct_at ws i))

-- a variable's size in the table, by its letters
abbrev pub cut : List ℕ → (List ℕ → ℕ) → List ℕ → ℕ
cut ws numbered x = nat_abs (get_or (table-widest ws) (numbered x) (pos 0))

-- variables of these names, bound before what stands from q on: their sizes in the table, which are theirs where q is not behind p
abbrev pub Settled : ℕ → List ℕ → (List ℕ → ℕ) → (List ℕ → ℕ) → ℕ → List Name → Type 0
Settled p ws numbered widest q names =
    (y : Name) → is_among names y ≡ true → (numbered y.letters < 64) × (get_or (table-widest ws) (numbered y.letters) (pos 0) ≡ pos (cut ws numbered y.letters)) × (q ≤ p → cut ws numbered y.letters ≡ widest y.letters)

module _ (p : ℕ) {xs ns ts rs ws : List ℕ} {n r : ℕ} {numbered : List ℕ → ℕ} {a end : ℕ} (rule : Ruled xs ns ts rs ws n r numbered a end) (widest : List ℕ → ℕ) where
  -- the same faults, of whichever sizes
  formula_hit : (f : List Component) (found : Found) (q : ℕ) {w : List Lexeme} → Matches found (calculation_faults (cut ws numbered) f) → Rises xs q (calculation_faults (cut ws numbered) f) w → Rises xs q (calculation_faults widest f) w
      → (q ≤ p → calculation_faults (cut ws numbered) f ≡ calculation_faults widest f) → Hit p found ↔ Hits p (calculation_faults widest f)
  formula_hit f found q m u v e = by (dec_le q p)
    where
      first : Hit p found ↔ Hits p (calculation_faults (cut ws numbered) f)
      first = first_hit p q u.mid found (calculation_faults (cut ws numbered) f) m u.rises

      by : Dec (q ≤ p) → Hit p found ↔ Hits p (calculation_faults widest f)
      by (yes l) = (λ h. subst (Hits p) (e l) (first.0 h), λ h. first.1 (subst (Hits p) (sym (e l)) h))
      by (no l) = (λ h. absurd (l (rising_from p q u.mid (calculation_faults (cut ws numbered) f) u.rises (first.0 h))), λ h. absurd (l (rising_from p q v.mid (calculation_faults widest f) v.rises h)))

  agreed : (q : ℕ) (names : List Name) → Settled p ws numbered widest q names → q ≤ p → (l : List Term) → UsesRight names (uses_in l) → Agree (cut ws numbered) widest l
  unfolding Agree UsesRight uses_in
  agreed q names s e [] u = tt
  agreed q names s e (a_number k ∷ l) u = agreed q names s e l u
  agreed q names s e (a_use y ∷ l) u = ((s y u.0).2 e, agreed q names s e l u.1)
  agreed q names s e (a_sign k ∷ l) u = agreed q names s e l u

  module _ (i : ℕ) (names : List Name) (b : Before xs ns a i names) (below : i < end) (q : ℕ) (settled : Settled p ws numbered widest q names) where
    measured : (l : List Term) → UsesRight names (uses_in l) → AllHere xs (uses_in l) → Measured (λ k. number_at xs ns rs r i k) (table-widest ws) (cut ws numbered) l
    unfolding Measured UsesRight AllHere uses_in
    measured [] u h = tt
    measured (a_number k ∷ l) u h = measured l u h
    measured (a_use y ∷ l) u h =
        let e = rule.variables i y h.0 b.begins below (b.before y h.0 ∙ u.0) in
        let s = settled y u.0 in
        (omega (arith, e, s.0, widest_length 64 ws 0), ap (λ (k : ℕ). get_or (table-widest ws) k (pos 0)) e ∙ s.1, measured l u.1 h.1)
    measured (a_sign k ∷ l) u h = measured l u h

    there : i < n
    there = omega (arith, rule.inside)

    many : length (table-widest ws) ≤ 64
    many = omega (arith, widest_length 64 ws 0)

    -- ---- a case's condition

    -- what is found in it is what the tree says
    pub condition_hit : {d : ℕ} (x : Condition d) (t : ℕ) (w : List Lexeme) → condition_from ns i ≡ t → condition_end ns i ≡ t + length (tests_rows x []) → RowsAt ts t (tests_rows x []) → Standing xs q (spell_tests x w)
        → UsesRight names (uses_in (terms_of (tests_parts x))) → Hit p (condition_at ns ts ws i) ↔ Hits p (calculation_faults widest (tests_parts x))
    condition_hit x t w begun upto rows s u =
        formula_hit (tests_parts x) (condition_at ns ts ws i) q matches (tests_rise (cut ws numbered) x w s) (tests_rise widest x w s) (λ l. same_faults (cut ws numbered) widest (tests_parts x) (agreed q names settled l (terms_of (tests_parts x)) u))
      where
        long : condition_length ns i ≡ length (tests_rows x [])
        long = omega (arith, begun, upto)

        here : RowsAt ts (condition_from ns i) (tests_rows x [])
        here = subst (λ (k : ℕ). RowsAt ts k (tests_rows x [])) (sym begun) rows

        sizes_known : Measured (λ k. number_at xs ns rs r i k) (table-widest ws) (cut ws numbered) (terms_of (tests_parts x))
        sizes_known = measured (terms_of (tests_parts x)) u (uses_here (tests_uses x w no_more s))

        matches : Matches (condition_at ns ts ws i) (calculation_faults (cut ws numbered) (tests_parts x))
        matches =
            subst (λ (z : Result ⊤ SizeError). Matches (list_found ts (condition_from ns i) (condition_start ns i) z) (calculation_faults (cut ws numbered) (tests_parts x)))
            (sym (condition_list rule.words rule.few_nodes rule.few_terms rule.few_binders i there (omega (arith, long, some_tests x []))))
            (condition_found (λ k. number_at xs ns rs r i k) (Held.term_words ws) (table-widest ws) (cut ws numbered) ts (condition_from ns i) (condition_start ns i) x (condition_start ns i + condition_length ns i) (ap (λ (k : ℕ). condition_start ns i + k) long) sizes_known here
            (condition_written rule.words rule.few_nodes rule.few_terms rule.few_binders i there (table-widest ws) (cut ws numbered) many (tests_tells x told) sizes_known long here))

    -- ---- counts in braces

    -- what is found in them is what the tree says
    pub counts_hit : (x : Counts) (t : ℕ) (w : List Lexeme) → own_from ns i ≡ t → own_end ns i ≡ t + length (counts_rows x) → RowsAt ts t (counts_rows x) → Standing xs q (spell_counts x w) → UsesRight names (uses_in (terms_of (counts_parts x)))
        → kind_of ns i ≡ 3 → node_mark ns i ≡ 4 → 2 ≤ node_size ns i → i + node_size ns i ≤ n → Hit p (own_at ns ts ws i) ↔ Hits p (calculation_faults widest (counts_parts x))
    counts_hit x t w begun upto rows s u kind mark two inside =
        formula_hit (counts_parts x) (own_at ns ts ws i) q matches (counts_rise (cut ws numbered) x w s) (counts_rise widest x w s) (λ l. same_faults (cut ws numbered) widest (counts_parts x) (agreed q names settled l (terms_of (counts_parts x)) u))
      where
        long : own_length ns i ≡ length (counts_rows x)
        long = omega (arith, begun, upto)

        here : RowsAt ts (own_from ns i) (counts_rows x)
        here = subst (λ (k : ℕ). RowsAt ts k (counts_rows x)) (sym begun) rows

        sizes_known : Measured (λ k. number_at xs ns rs r i k) (table-widest ws) (cut ws numbered) (terms_of (counts_parts x))
        sizes_known = measured (terms_of (counts_parts x)) u (uses_here (counts_uses x w s))

        matches : Matches (own_at ns ts ws i) (calculation_faults (cut ws numbered) (counts_parts x))
        matches =
            subst (λ (z : Result ⊤ SizeError). Matches (list_found ts (own_from ns i) (own_start ns i) z) (calculation_faults (cut ws numbered) (counts_parts x)))
            (sym (counts_list rule.words rule.few_nodes rule.few_terms rule.few_binders i there (omega (arith, long, some_counts x)) kind mark two inside))
            (counts_found (λ k. number_at xs ns rs r i k) (Held.term_words ws) (table-widest ws) (cut ws numbered) ts (own_from ns i) (own_start ns i) x (own_start ns i + own_length ns i) (ap (λ (k : ℕ). own_start ns i + k) long) sizes_known here
            (own_written rule.words rule.few_nodes rule.few_terms rule.few_binders i there (table-widest ws) (cut ws numbered) many (counts_tells x) sizes_known long here))

    -- ---- a uint's set, behind its width

    -- what is found in it is what the tree says; a wrong width leaves no construct, and no fault before it
    pub set_hit : {d : ℕ} (x : ValueSet d) (t : ℕ) (v : Number) (w : List Lexeme) → own_from ns i ≡ t → own_end ns i ≡ t + length (set_rows x []) → RowsAt ts t (set_rows x []) → Standing xs q (spell_set x w) → UsesRight names (uses_in (terms_of (set_parts x)))
        → (binds : Bool) → is_binder ns i ≡ binds → kind_of ns i ≡ 8 → node_size ns i ≡ 1 → width_place ns i ≡ v.start → number_value xs v.start ≡ v.value → v.start ≤ q → (v.start ≤ p → (1 ≤ v.value) × (v.value ≤ cond binds max_bound_width max_width)) → Hit p (own_at ns ts ws i) ↔ Hits p (calculation_faults widest (set_parts x))
    set_hit x t v w begun upto rows s u binds is kind size place value before narrow = by (leb 1 (width_of xs ns i) && leb (width_of xs ns i) (most_at ns i)) refl
      where
        long : own_length ns i ≡ length (set_rows x [])
        long = omega (arith, begun, upto)

        here : RowsAt ts (own_from ns i) (set_rows x [])
        here = subst (λ (k : ℕ). RowsAt ts k (set_rows x [])) (sym begun) rows

        width_is : width_of xs ns i ≡ min 65 (capped v.value)
        width_is = ap (λ (k : ℕ). min 65 (capped k)) (ap (number_value xs) place ∙ value)

        sizes_known : Measured (λ k. number_at xs ns rs r i k) (table-widest ws) (cut ws numbered) (terms_of (set_parts x))
        sizes_known = measured (terms_of (set_parts x)) u (uses_here (set_uses x w no_more s))

        matches : 1 ≤ width_of xs ns i → width_of xs ns i ≤ most_at ns i → Matches (own_at ns ts ws i) (calculation_faults (cut ws numbered) (set_parts x))
        matches low high =
            subst (λ (z : Result ⊤ SizeError). Matches (list_found ts (own_from ns i) (own_start ns i) z) (calculation_faults (cut ws numbered) (set_parts x)))
            (sym (set_list rule.words rule.few_nodes rule.few_terms rule.few_binders i there (omega (arith, long, some_set x [])) kind size low high))
            (set_found (λ k. number_at xs ns rs r i k) (Held.term_words ws) (table-widest ws) (cut ws numbered) ts (own_from ns i) (own_start ns i) x (own_start ns i + own_length ns i) (ap (λ (k : ℕ). own_start ns i + k) long) sizes_known here
            (own_written rule.words rule.few_nodes rule.few_terms rule.few_binders i there (table-widest ws) (cut ws numbered) many (set_tells x told) sizes_known long here))

        most_small : (c : Bool) → cond c max_bound_width max_width ≤ 64
        most_small true = omega arith
        most_small false = omega arith

        both_first : (b c : Bool) → (b && c) ≡ true → b ≡ true
        both_first true c e = refl
        both_first false c e = e

        both_second : (b c : Bool) → (b && c) ≡ true → c ≡ true
        both_second true c e = e
        both_second false c e = let z : ◌≡◌ {A = ℕ} 0 1 = cc in absurd (omega arith)

        wrong : (leb 1 (width_of xs ns i) && leb (width_of xs ns i) (most_at ns i)) ≡ false → (1 ≤ v.value) × (v.value ≤ cond binds max_bound_width max_width) → ⊥
        wrong e z =
            let w : width_of xs ns i ≡ v.value = omega (arith, width_is, z.0, z.1, most_small binds) in
            let f : (leb 1 (width_of xs ns i) && leb (width_of xs ns i) (most_at ns i)) ≡ true = ap₂ ◌&&◌ (le-leb 1 (width_of xs ns i) (omega (arith, w, z.0))) (le-leb (width_of xs ns i) (most_at ns i) (omega (arith, w, z.1, most_bound ns i binds is))) in
            let c : true ≡ false = sym f ∙ e in
            let k : ◌≡◌ {A = ℕ} 0 1 = cc in omega arith

        by : (c : Bool) → (leb 1 (width_of xs ns i) && leb (width_of xs ns i) (most_at ns i)) ≡ c → Hit p (own_at ns ts ws i) ↔ Hits p (calculation_faults widest (set_parts x))
        by true e =
            formula_hit (set_parts x) (own_at ns ts ws i) q
            (matches (leb-true 1 (width_of xs ns i) (both_first (leb 1 (width_of xs ns i)) (leb (width_of xs ns i) (most_at ns i)) e)) (leb-true (width_of xs ns i) (most_at ns i) (both_second (leb 1 (width_of xs ns i)) (leb (width_of xs ns i) (most_at ns i)) e)))
            (set_rises (cut ws numbered) x w s) (set_rises widest x w s) (λ l. same_faults (cut ws numbered) widest (set_parts x) (agreed q names settled l (terms_of (set_parts x)) u))
        by false e =
            let z = wrong_list rule.words rule.few_nodes rule.few_terms rule.few_binders i there (omega (arith, long, some_set x [])) kind size e in
            let rises = set_rises widest x w s in (
              λ h. absurd (subst (λ (k : Result ⊤ SizeError). Hit p (list_found ts (own_from ns i) (own_start ns i) k)) z h),
              λ h. absurd (wrong e (narrow (omega (arith, before, rising_from p q rises.mid (calculation_faults widest (set_parts x)) rises.rises h)))),
            )

  -- ---- nodes without lists

  -- a node without a list of its own
  pub no_own_hit : (i : ℕ) → i < n → eqb (kind_of ns i) 8 ≡ false → kind_of ns i < 10 → (kind_of ns i ≡ 3 → node_mark ns i < 4) → Hit p (own_at ns ts ws i) → ⊥
  no_own_hit i l e k m h = subst (λ (z : Result ⊤ SizeError). Hit p (list_found ts (own_from ns i) (own_start ns i) z)) (no_list rule.words rule.few_nodes rule.few_terms rule.few_binders i l e k m) h

  -- a node that is no case with a condition
  pub no_condition_hit : (i : ℕ) → i < n → condition_from ns i ≡ 0 → condition_end ns i ≡ 0 → Hit p (condition_at ns ts ws i) → ⊥
  no_condition_hit i l e f h =
      subst (λ (z : Result ⊤ SizeError). Hit p (list_found ts (condition_from ns i) (condition_start ns i) z)) (no_condition rule.words rule.few_nodes rule.few_terms rule.few_binders i l (omega (arith, e, f))) h
