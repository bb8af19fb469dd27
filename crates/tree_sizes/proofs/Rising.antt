-- Faults of a formula stand in the order of its calculations: what is found first is the least.
-- Assumes nothing.
use Prim.Native.Nat.{ℕ, ◌≤◌}
use mathlib.Core.Path.{◌≡◌, sym, subst}
use mathlib.Core.Logic.{◌⊎◌, inl, ⊎_elim, ◌↔◌}
use mathlib.Core.Bool.{Bool, true, false}
use mathlib.Core.List.{List, [], ◌∷◌, ◌++◌, append-nil}
use native.Mathlib.Omega.{arith}
use Rattle.text_admission.specs.declared.Found.{Found}
use Rattle.text_tokens.specs.declared.Kind.{Kind}
use Rattle.tree.specs.Lexemes.{Sign, Lexeme, sign}
use Rattle.tree.specs.Tree.{number, variable, plain, opposite, product, Calculation, sum, Item, everything, only, between, from, up_to_bound, SetPart, Choices, item, item_but_item, item_but_set, last_choice, or_choices, Counts, exactly, at_least_count, at_most, span, TestPart, Tests, compare, test_group, one_test, all_of, any_of, last_conjunct, and_conjuncts, last_disjunct, or_disjuncts}
use Rattle.tree.specs.Spelling.{spell_primary, spell_operand, spell_product, spell_calculation, spell_item, spell_set, spell_counts, spell_tests}
use Rattle.tree_meaning.specs.Pieces.{Component, joined_by, item_parts, set_parts, counts_parts, tests_parts}
use Rattle.tree_meaning.specs.Places.{place_if}
use Rattle.tree_meaning.specs.Sizes.{too_large, calculation_faults}
use Rattle.tree_store.proofs.Standing.{Standing, stands, past, after_primary, after_factors, after_summands}
use Rattle.tree_sizes.proofs.Hits.{Hit, Hits}
use Rattle.tree_sizes.proofs.Founds.{Matches}
use Rattle.tree_sizes.proofs.Lists.{fault_of}
use Rattle.tree_sizes.proofs.SetLists.{faults_append}

-- places from `low` up to `high` that do not descend
unfoldable pub Rising : ℕ → List ℕ → ℕ → Type 0
Rising low [] high = low ≤ high
Rising low (p ∷ more) high = (low ≤ p) × Rising p more high

rising_lower : (low m : ℕ) (l : List ℕ) (high : ℕ) → low ≤ m → Rising m l high → Rising low l high
unfolding Rising
rising_lower low m [] high p h = omega arith
rising_lower low m (x ∷ l) high p h = (omega (arith, p, h.0), h.1)

rising_both : (low m high : ℕ) (l k : List ℕ) → Rising low l m → Rising m k high → Rising low (l ++ k) high
unfolding Rising
rising_both low m high [] k p q = rising_lower low m k high p q
rising_both low m high (x ∷ l) k p q = (p.0, rising_both x m high l k p.1 q)

-- a fault up to p stands from `low` on
pub rising_from : (p low high : ℕ) (l : List ℕ) → Rising low l high → Hits p l → low ≤ p
unfolding Rising Hits
rising_from p low high [] r h = absurd h
rising_from p low high (x ∷ l) r h = ⊎_elim (λ (z : x ≤ p). omega (arith, r.0)) (λ z. omega (arith, r.0, rising_from p x high l r.1 z)) h

-- the first of places that rise is found up to p exactly when one of them is
pub first_hit : (p low high : ℕ) (a : Found) (l : List ℕ) → Matches a l → Rising low l high → Hit p a ↔ Hits p l
unfolding Rising Hits
first_hit p low high Found.Nothing l m r = (λ h. absurd h, λ h. subst (Hits p) m h)
first_hit p low high (Found.At o) l m r =
    let s : Rising low (o ∷ m.0) high = subst (λ (k : List ℕ). Rising low k high) m.1 r in (
      λ h. subst (Hits p) (sym m.1) (inl h),
      λ h. ⊎_elim (λ (z : o ≤ p). z) (λ z. rising_from p o high m.0 s.1 z) (let z : (o ≤ p) ⊎ Hits p m.0 = subst (Hits p) m.1 h in z),
    )

-- ---- tokens that are passed

-- these places rise, and the rest of the tokens stands behind them
pub record Rises (xs : List ℕ) (low : ℕ) (l : List ℕ) (w : List Lexeme) : Type 0 where
  pub mid : ℕ
  pub rises : Rising low l mid
  pub left : Standing xs mid w

one_place : (b : Bool) (low p : ℕ) → low ≤ p → Rising low (place_if b p) p
unfolding Rising
one_place true low p h = (h, omega arith)
one_place false low p h = h

module _ {xs : List ℕ} where
  token : {low : ℕ} {t : Lexeme} {w : List Lexeme} → Standing xs low (t ∷ w) → Rises xs low [] w
  unfolding Rising
  token {low} h = record { mid = low; rises = omega arith; left = past h }

  then : {low : ℕ} {v w : List Lexeme} {l k : List ℕ} → Rises xs low l v → ((m : ℕ) → Standing xs m v → Rises xs m k w) → Rises xs low (l ++ k) w
  then {low} {l = l} {k = k} p f = let q = f p.mid p.left in record { mid = q.mid; rises = rising_both low p.mid q.mid l k p.rises q.rises; left = q.left }

  module _ (wide : List ℕ → ℕ) where
    calculation_rises : {low : ℕ} (c : Calculation) (w : List Lexeme) → Standing xs low (spell_calculation c w) → Rises xs low (fault_of wide c) w
    unfolding spell_primary spell_operand spell_product spell_calculation
    calculation_rises {low} (sum (product (plain (number n)) f) more) w (stands a b c s) =
        record { mid = n.start; rises = one_place (too_large wide (sum (product (plain (number n)) f) more)) low n.start a; left = after_summands more (after_factors f s) }
    calculation_rises {low} (sum (product (plain (variable x)) f) more) w (stands a b c s) =
        record { mid = x.start; rises = one_place (too_large wide (sum (product (plain (variable x)) f) more)) low x.start a; left = after_summands more (after_factors f s) }
    calculation_rises {low} (sum (product (opposite g x) f) more) w (stands a b c s) =
        record { mid = g.start; rises = one_place (too_large wide (sum (product (opposite g x) f) more)) low g.start a; left = after_summands more (after_factors f (after_primary x s)) }

    rises_as : {low : ℕ} {w : List Lexeme} {l k : List ℕ} → l ≡ k → Rises xs low l w → Rises xs low k w
    rises_as {low} {w} e h = subst (λ (m : List ℕ). Rises xs low m w) e h

    -- components one after the other
    parted : {low : ℕ} {v w : List Lexeme} (f m : List Component) → Rises xs low (calculation_faults wide f) v → ((n : ℕ) → Standing xs n v → Rises xs n (calculation_faults wide m) w) → Rises xs low (calculation_faults wide (f ++ m)) w
    parted f m p q = rises_as (sym (faults_append wide f m)) (then p q)

    -- behind a sign
    signed : {low : ℕ} {t : Lexeme} {w v : List Lexeme} {l : List ℕ} → Standing xs low (t ∷ v) → ((m : ℕ) → Standing xs m v → Rises xs m l w) → Rises xs low l w
    signed h f = then (token h) f

    last_rises : {low : ℕ} (c : Calculation) (w : List Lexeme) → Standing xs low (spell_calculation c w) → Rises xs low (fault_of wide c ++ []) w
    last_rises c w h = rises_as (sym (append-nil (fault_of wide c))) (calculation_rises c w h)

    two_rise : {low : ℕ} (a : Calculation) (t : Lexeme) (b : Calculation) (w : List Lexeme) → Standing xs low (spell_calculation a (t ∷ spell_calculation b w)) → Rises xs low (fault_of wide a ++ (fault_of wide b ++ [])) w
    two_rise a t b w h = then (calculation_rises a (t ∷ spell_calculation b w) h) (λ m s. signed s (λ n u. last_rises b w u))

    item_rises : {low : ℕ} (x : Item) (w : List Lexeme) → Standing xs low (spell_item x w) → Rises xs low (calculation_faults wide (item_parts x)) w
    unfolding spell_item calculation_faults
    item_rises (everything s) w h = token h
    item_rises (only a) w h = last_rises a w h
    item_rises (between a s b) w h = two_rise a (sign Kind.Tilde s) b w h
    item_rises (from a s) w h = then (calculation_rises a (sign Kind.Tilde s ∷ w) h) (λ m u. token u)
    item_rises (up_to_bound s b) w h = signed h (λ m u. last_rises b w u)

    -- a sign in front of components
    behind : {low : ℕ} {w : List Lexeme} (s : Sign) (m : List Component) → Rises xs low (calculation_faults wide m) w → Rises xs low (calculation_faults wide (joined_by s ∷ m)) w
    unfolding calculation_faults
    behind s m h = h

    -- the faults of a set
    pub set_rises : {k : SetPart} {d low : ℕ} (x : Choices k d) (w : List Lexeme) → Standing xs low (spell_set x w) → Rises xs low (calculation_faults wide (set_parts x)) w
    unfolding spell_set set_parts
    set_rises (item a) w h = item_rises a w h
    set_rises (item_but_item a s b) w h =
        parted (item_parts a) (joined_by s ∷ item_parts b) (item_rises a (sign Kind.Bang s ∷ spell_item b w) h) (λ m u. behind s (item_parts b) (signed u (λ n v. item_rises b w v)))
    set_rises (item_but_set depth a s opens b closes) w h =
        parted (item_parts a) (joined_by s ∷ set_parts b) (item_rises a (sign Kind.Bang s ∷ sign Kind.OpenParen opens ∷ spell_set b (sign Kind.CloseParen closes ∷ w)) h)
        (λ m u. behind s (set_parts b) (signed u (λ n v. signed v (λ o y. rises_as (append-nil (calculation_faults wide (set_parts b))) (then (set_rises b (sign Kind.CloseParen closes ∷ w) y) (λ q z. token z))))))
    set_rises (last_choice a) w h = set_rises a w h
    set_rises (or_choices a s b) w h = parted (set_parts a) (joined_by s ∷ set_parts b) (set_rises a (sign Kind.Bar s ∷ spell_set b w) h) (λ m u. behind s (set_parts b) (signed u (λ n v. set_rises b w v)))

    -- of counts
    pub counts_rise : {low : ℕ} (x : Counts) (w : List Lexeme) → Standing xs low (spell_counts x w) → Rises xs low (calculation_faults wide (counts_parts x)) w
    unfolding spell_counts calculation_faults
    counts_rise (exactly n) w h = last_rises n w h
    counts_rise (at_least_count a s) w h = then (calculation_rises a (sign Kind.Tilde s ∷ w) h) (λ m u. token u)
    counts_rise (at_most s b) w h = signed h (λ m u. last_rises b w u)
    counts_rise (span a s b) w h = two_rise a (sign Kind.Tilde s) b w h

    -- two parts of a condition
    tested : {low : ℕ} {w : List Lexeme} (t : Lexeme) (s : Sign) (f m : List Component) {v : List Lexeme} → Rises xs low (calculation_faults wide f) (t ∷ v) → ((n : ℕ) → Standing xs n v → Rises xs n (calculation_faults wide m) w)
        → Rises xs low (calculation_faults wide (f ++ (joined_by s ∷ m))) w
    tested t s f m p q = parted f (joined_by s ∷ m) p (λ n u. behind s m (signed u q))

    -- of a condition
    pub tests_rise : {k : TestPart} {d low : ℕ} (x : Tests k d) (w : List Lexeme) → Standing xs low (spell_tests x w) → Rises xs low (calculation_faults wide (tests_parts x)) w
    unfolding spell_tests tests_parts calculation_faults
    tests_rise (compare a c s b) w h = two_rise a (sign _ s) b w h
    tests_rise (test_group depth opens a closes) w h =
        signed h (λ m u. rises_as (append-nil (calculation_faults wide (tests_parts a))) (then (tests_rise a (sign Kind.CloseParen closes ∷ w) u) (λ n v. token v)))
    tests_rise (one_test a) w h = tests_rise a w h
    tests_rise (all_of a s b) w h = tested (sign Kind.Ampersand s) s (tests_parts a) (tests_parts b) (tests_rise a (sign Kind.Ampersand s ∷ spell_tests b w) h) (λ n v. tests_rise b w v)
    tests_rise (any_of a s b) w h = tested (sign Kind.Bar s) s (tests_parts a) (tests_parts b) (tests_rise a (sign Kind.Bar s ∷ spell_tests b w) h) (λ n v. tests_rise b w v)
    tests_rise (last_conjunct a) w h = tests_rise a w h
    tests_rise (and_conjuncts a s b) w h = tested (sign Kind.Ampersand s) s (tests_parts a) (tests_parts b) (tests_rise a (sign Kind.Ampersand s ∷ spell_tests b w) h) (λ n v. tests_rise b w v)
    tests_rise (last_disjunct a) w h = tests_rise a w h
    tests_rise (or_disjuncts a s b) w h = tested (sign Kind.Bar s) s (tests_parts a) (tests_parts b) (tests_rise a (sign Kind.Bar s ∷ spell_tests b w) h) (λ n v. tests_rise b w v)
