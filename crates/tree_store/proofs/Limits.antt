-- Refusal 5 of what is stored is refusal 5 of the tree.
-- Assumes nothing.
use Prim.Native.Nat.{ℕ, zero, suc, ◌+◌, ◌-◌, ◌≤◌, ◌<◌, min}
use mathlib.Core.Path.{◌≡◌, refl, sym, ap, subst, ◌∙◌}
use mathlib.Core.Logic.{⊎_elim}
use mathlib.Core.Bool.{Bool, true, false, ◌||◌}
use mathlib.Core.List.{List, [], ◌∷◌, ◌++◌}
use mathlib.Core.Option.{none, some}
use native.Mathlib.Omega.{arith}
use borrow.Author.Tests.{ltb-true, ltb-false, lt-ltb, le-ltb, le-leb, lt-leb}
use lib.Dec.{ltb, leb}
use lib.ListN.{length, get_or}
use Rattle.basis.proofs.Booleans.{which, neither_first, neither_second}
use Rattle.text_store.specs.Store.{blank, rule_words, rules_of}
use Rattle.text_names.specs.Counting.{nowhere, place_if, least_of}
use Rattle.text_names.specs.Limits.{limit_place, refusal_5}
use Rattle.tree.specs.Tree.{Rule, Rules}
use Rattle.tree_form.specs.Stored.{stored}
use Rattle.tree_meaning.specs.Pieces.{rules_of as rules_in, rule_name}
use Rattle.tree_meaning.specs.Places.{place_if as listed-if, lesser, least}
use Rattle.tree_meaning.specs.Counted.{Totals, no_rule, with_rule, is_past, limit_faults, refusal_5 as tree-refusal-5}
use Rattle.tree.specs.Lexemes.{finish}
use Rattle.tree_store.proofs.Rows.{RuleRow, no_rule_row, rule_row, rules_rows, totals, tree_totals}
use Rattle.tree_store.proofs.Low.{or_nowhere, Apart, told_none, told_some, apart_none, apart_if, apart_both}
use Rattle.tree_store.proofs.Standing.{Ascending, ascended, ascends, SpelledBy, spelled_stand, rules_ascend}
use Rattle.tree_store.proofs.Storing.{RuleIs, totalled_tree, rule_read, rules_read}

-- ---- totals that are counted up to one past a limit

past_min : (limit n : ℕ) → ltb limit (min n (limit + 1)) ≡ ltb limit n
past_min limit n =
    ⊎_elim (λ (z : ltb limit n ≡ true). let y : limit < n = ltb-true limit n z in lt-ltb limit (min n (limit + 1)) (omega arith) ∙ sym z)
    (λ (z : ltb limit n ≡ false). let y : n ≤ limit = ltb-false limit n z in le-ltb limit (min n (limit + 1)) (omega arith) ∙ sym z)
    (which (ltb limit n))

rule_past : (k : ℕ) → leb 64 k ≡ ltb 64 (suc k)
rule_past k =
    ⊎_elim (λ (z : ltb 64 (suc k) ≡ true). let y : 64 < suc k = ltb-true 64 (suc k) z in le-leb 64 k (omega arith) ∙ sym z)
    (λ (z : ltb 64 (suc k) ≡ false). let y : suc k ≤ 64 = ltb-false 64 (suc k) z in lt-leb 64 k (omega arith) ∙ sym z)
    (which (ltb 64 (suc k)))

swapped : (a b c d : Bool) → (a || (b || (c || d))) ≡ (a || (b || (d || c)))
swapped true b c d = refl
swapped false true c d = refl
swapped false false true true = refl
swapped false false true false = refl
swapped false false false true = refl
swapped false false false false = refl

-- ---- the place of rule k by its row

abbrev row_place : ℕ → RuleRow → ℕ
row_place k r = place_if (leb 64 k || (ltb 256 r.nodes || (ltb 1024 r.terms || ltb 64 r.binders))) r.place

row_past : (n : Totals) (r : Rule) (k : ℕ) → k ≡ n.rules → row_place k (rule_row n r) ≡ place_if (is_past (with_rule n r)) (rule_name r).start
row_past n r k e =
    ap (λ (q : Bool). place_if q (rule_name r).start)
    ((λ i. (let m = with_rule n r in rule_past k i || (past_min 256 m.all_constructs i || (past_min 1024 m.all_terms i || past_min 64 m.variables i))))
    ∙ swapped (ltb 64 (suc k)) (ltb 256 (with_rule n r).all_constructs) (ltb 1024 (with_rule n r).all_terms) (ltb 64 (with_rule n r).variables)
    ∙ ap (λ (q : ℕ). ltb 64 (suc q) || (ltb 256 (with_rule n r).all_constructs || (ltb 64 (with_rule n r).variables || ltb 1024 (with_rule n r).all_terms))) e)

-- ---- rules in the order of their places

-- no place of a fault is before theirs
later_faults : {most p : ℕ} (n : Totals) (rs : List Rule) → Ascending most p rs → (q : ℕ) → q ≤ p → lesser q (least (limit_faults n rs)) ≡ q
unfolding limit_faults least
later_faults n [] ascended q h = refl
later_faults n (r ∷ rs) (ascends a b more) q h =
    by (is_past (with_rule n r)) (later_faults (with_rule n r) rs more (rule_name r).start (omega arith)) (later_faults (with_rule n r) rs more q (omega arith))
  where
    by : (t : Bool) → lesser (rule_name r).start (least (limit_faults (with_rule n r) rs)) ≡ (rule_name r).start → lesser q (least (limit_faults (with_rule n r) rs)) ≡ q
        → lesser q (least (listed-if t (rule_name r).start ++ limit_faults (with_rule n r) rs)) ≡ q
    by true e f = omega arith
    by false e f = f

-- ---- the first rules, of which the first has number k

-- the store's place of rule k + j, of rules after these totals
unfoldable pub fault_at : Totals → List Rule → ℕ → ℕ
fault_at n [] j = nowhere
fault_at n (r ∷ rs) zero = place_if (is_past (with_rule n r)) (rule_name r).start
fault_at n (r ∷ rs) (suc j) = fault_at (with_rule n r) rs j

row_fault : (n : Totals) (rs : List Rule) (k j : ℕ) → k ≡ n.rules → j < length rs → row_place (k + j) (get_or (rules_rows n rs) j no_rule_row) ≡ fault_at n rs j
unfolding fault_at rules_rows
row_fault n [] k j e h = absurd (omega arith)
row_fault n (r ∷ rs) k zero e h = row_past n r (k + 0) (omega arith)
row_fault n (r ∷ rs) k (suc j) e h =
    ap (λ (q : ℕ). row_place q (get_or (rules_rows (with_rule n r) rs) j no_rule_row)) (let q : k + suc j ≡ suc k + j = omega arith in q)
    ∙ row_fault (with_rule n r) rs (suc k) j (ap suc e) (omega arith)

least_small : (n k : ℕ) (f : ℕ → ℕ) → least_of n k f ≤ nowhere
unfolding least_of
least_small zero k f = omega arith
least_small (suc n) k f = omega (arith, least_small n (k + 1) f)

-- where all of these are at least q, so is the least
least_above : (n k : ℕ) (f : ℕ → ℕ) (q : ℕ) → q ≤ nowhere → ((j : ℕ) → j < n → q ≤ f (k + j)) → q ≤ least_of n k f
unfolding least_of
least_above zero k f q l h = l
least_above (suc n) k f q l h =
    let a : q ≤ f (k + 0) = h 0 (omega arith)
    in let b : q ≤ least_of n (k + 1) f = least_above n (k + 1) f q l (λ j g. subst (λ (i : ℕ). q ≤ f i) (let z : k + suc j ≡ k + 1 + j = omega arith in z) (h (suc j) (omega arith)))
    in let c : k + 0 ≡ k = omega arith
    in omega (arith, subst (λ (i : ℕ). q ≤ f i) c a)

-- the places of rules from p on are
fault_above : {most p : ℕ} (n : Totals) (rs : List Rule) → most ≤ nowhere → Ascending most p rs → (q : ℕ) → q ≤ p → q ≤ nowhere → (j : ℕ) → q ≤ fault_at n rs j
unfolding fault_at
fault_above n [] m ascended q h l j = l
fault_above n (r ∷ rs) m (ascends a b more) q h l zero = by (is_past (with_rule n r))
  where
    by : (t : Bool) → q ≤ place_if t (rule_name r).start
    by true = omega arith
    by false = l
fault_above n (r ∷ rs) m (ascends a b more) q h l (suc j) = fault_above (with_rule n r) rs m more q (omega arith) l j

-- f has the places of these rules, as far as they are kept
pub record Follows (f : ℕ → ℕ) (k : ℕ) (n : Totals) (rs : List Rule) : Type 0 where
  pub number : k ≡ n.rules
  pub follows : (j : ℕ) → j < length rs → k + j < 65 → f (k + j) ≡ fault_at n rs j

follows_next : {f : ℕ → ℕ} {k : ℕ} {n : Totals} {r : Rule} {rs : List Rule} → Follows f k n (r ∷ rs) → Follows f (k + 1) (with_rule n r) rs
unfolding fault_at
follows_next {f} {k} {n} {r} {rs} h =
    record {
      number = omega (arith, h.number);
      follows = λ j a b. ap f (let q : k + 1 + j ≡ k + suc j = omega arith in q) ∙ h.follows (suc j) (omega arith) (omega arith);
    }

-- the least of the rules that are kept is the least of all: the first at fault is among them
least_kept : {most p : ℕ} (f : ℕ → ℕ) (k : ℕ) (n : Totals) (rs : List Rule) → most ≤ nowhere → Ascending most p rs → k ≤ 64 → Follows f k n rs
    → least_of (min (length rs) (65 - k)) k f ≡ or_nowhere (least (limit_faults n rs))
unfolding least_of limit_faults least fault_at
least_kept f k n [] m ascended l h = let z : min 0 (65 - k) ≡ 0 = omega arith in rw z
least_kept {most} {p} f k n (r ∷ rs) m (ascends a b more) l h =
    let z : min (suc (length rs)) (65 - k) ≡ suc (min (length rs) (65 - (k + 1))) = omega arith
    in rw z (⊎_elim past (λ e. within e (least_kept f (k + 1) (with_rule n r) rs m more (few e) (follows_next h))) (which (is_past (with_rule n r))))
  where
    few : is_past (with_rule n r) ≡ false → k + 1 ≤ 64
    few e =
        let d = with_rule n r
        in omega (arith, h.number, ltb-false 64 (suc n.rules) (neither_first (ltb 64 (suc n.rules)) (ltb 256 d.all_constructs || (ltb 64 d.variables || ltb 1024 d.all_terms)) e))

    here : f k ≡ place_if (is_past (with_rule n r)) (rule_name r).start
    here = ap f (let q : k ≡ k + 0 = omega arith in q) ∙ h.follows 0 (omega arith) (omega arith)

    rest : ℕ
    rest = least_of (min (length rs) (65 - (k + 1))) (k + 1) f

    past : is_past (with_rule n r) ≡ true → min (f k) rest ≡ or_nowhere (least (listed-if (is_past (with_rule n r)) (rule_name r).start ++ limit_faults (with_rule n r) rs))
    past e =
        let q : f k ≡ (rule_name r).start = here ∙ ap (λ (t : Bool). place_if t (rule_name r).start) e
        in let u : (rule_name r).start ≤ rest = least_above (min (length rs) (65 - (k + 1))) (k + 1) f (rule_name r).start (omega arith) (λ j g. subst (λ (i : ℕ). (rule_name r).start ≤ i) (sym ((follows_next h).follows j (omega arith) (omega arith))) (fault_above (with_rule n r) rs m more (rule_name r).start (omega arith) (omega arith) j))
        in let v : lesser (rule_name r).start (least (limit_faults (with_rule n r) rs)) ≡ (rule_name r).start = later_faults (with_rule n r) rs more (rule_name r).start (omega arith)
        in let w : min (f k) rest ≡ (rule_name r).start = omega arith
        in w ∙ sym v ∙ ap (λ (t : Bool). or_nowhere (least (listed-if t (rule_name r).start ++ limit_faults (with_rule n r) rs))) (sym e)

    within : is_past (with_rule n r) ≡ false → rest ≡ or_nowhere (least (limit_faults (with_rule n r) rs))
        → min (f k) rest ≡ or_nowhere (least (listed-if (is_past (with_rule n r)) (rule_name r).start ++ limit_faults (with_rule n r) rs))
    within e v =
        let q : f k ≡ nowhere = here ∙ ap (λ (t : Bool). place_if t (rule_name r).start) e
        in let u : min (f k) rest ≡ rest = omega (arith, least_small (min (length rs) (65 - (k + 1))) (k + 1) f)
        in u ∙ v ∙ ap (λ (t : Bool). or_nowhere (least (listed-if t (rule_name r).start ++ limit_faults (with_rule n r) rs))) (sym e)

-- ---- all rules

pub rows_many : (n : Totals) (rs : List Rule) → length (rules_rows n rs) ≡ length rs
unfolding rules_rows
rows_many n [] = refl
rows_many n (r ∷ rs) = ap suc (rows_many (with_rule n r) rs)

read_place : (ws : List ℕ) (k : ℕ) (r : RuleRow) → RuleIs ws k r → limit_place ws k ≡ row_place k r
read_place ws k r h = rw (h.name_is, h.nodes_is, h.terms_is, h.binders_is)

-- of any words that hold the rows of rules that stand in order
pub limits_of : {most p : ℕ} (ws : List ℕ) (r : ℕ) (rs : List Rule) → most ≤ nowhere → Ascending most p rs → r ≡ min (length rs) 65
    → ((k : ℕ) → k < length rs → k < 65 → RuleIs ws k (get_or (rules_rows no_rule rs) k no_rule_row)) → refusal_5 ws r ≡ or_nowhere (least (limit_faults no_rule rs))
limits_of ws r rs m a e h =
    ap (λ (q : ℕ). least_of q 0 (limit_place ws)) (let q : r - 0 ≡ min (length rs) (65 - 0) = omega arith in q)
    ∙ least_kept (limit_place ws) 0 no_rule rs m a (omega arith)
    (record { number = refl; follows = λ j g l. ap (limit_place ws) (let q : 0 + j ≡ j = omega arith in q) ∙ read_place ws j (get_or (rules_rows no_rule rs) j no_rule_row) (h j g (omega arith)) ∙ ap (λ (q : ℕ). row_place q (get_or (rules_rows no_rule rs) j no_rule_row)) (let q : j ≡ 0 + j = omega arith in q) ∙ row_fault no_rule rs 0 j refl g })

-- refusal 5 of what is stored of a tree whose rules stand in order is the tree's
pub limits : {most p : ℕ} (t : Rules) → most ≤ nowhere → Ascending most p (rules_in t) → refusal_5 (rule_words (stored t blank)) (rules_of (stored t blank)) ≡ or_nowhere (tree-refusal-5 t)
limits t m a =
    let e : (tree_totals t).rules ≡ length (rules_in t) = sym (totalled_tree t).in_rules ∙ rows_many no_rule (rules_in t)
    in limits_of (rule_words (stored t blank)) (rules_of (stored t blank)) (rules_in t) m a (rules_read t ∙ ap (λ (q : ℕ). min q 65) e) (λ k g l. rule_read t k (omega arith) l)

limits_apart : {most p : ℕ} (n : Totals) (rs : List Rule) → most < nowhere → Ascending most p rs → Apart (limit_faults n rs)
unfolding limit_faults
limits_apart n [] m a = apart_none
limits_apart n (r ∷ rs) m (ascends e f a) =
    apart_both (listed-if (is_past (with_rule n r)) (rule_name r).start) (limit_faults (with_rule n r) rs) (apart_if (is_past (with_rule n r)) (rule_name r).start (omega arith)) (limits_apart (with_rule n r) rs m a)

-- Refusal 5 of what the reader stores of a text that spells a tree is refusal 5 of the tree.
module _ {xs : List ℕ} {t : Rules} (small : length xs < nowhere) (h : SpelledBy xs t) where
  -- where it stands
  abbrev pub stored_5 : ℕ
  stored_5 = refusal_5 (rule_words (stored t blank)) (rules_of (stored t blank))

  in_order : Ascending (length xs) 0 (rules_in t)
  in_order = rules_ascend t (finish h.end ∷ []) (spelled_stand h)

  pub passed_5 : stored_5 ≡ nowhere → tree-refusal-5 t ≡ none
  passed_5 = told_none stored_5 (tree-refusal-5 t) (sym (limits t (omega arith) in_order)) (limits_apart no_rule (rules_in t) small in_order)

  pub given_5 : (stored_5 ≡ nowhere → ⊥) → tree-refusal-5 t ≡ some stored_5
  given_5 = told_some stored_5 (tree-refusal-5 t) (sym (limits t (omega arith) in_order))

-- ---- where nothing is passed

-- the numbers of the Limits line are not
pub record Limited (t : Rules) : Type 0 where
  pub few_rules : (tree_totals t).rules ≤ 64
  pub few_constructs : (tree_totals t).all_constructs ≤ 256
  pub few_variables : (tree_totals t).variables ≤ 64
  pub few_terms : (tree_totals t).all_terms ≤ 1024

some_none : (p : ℕ) (l : List ℕ) → least (p ∷ l) ≡ none → ⊥
unfolding least
some_none p l e = let z : ◌≡◌ {A = ℕ} 0 1 = cc in omega arith

-- after rules none of which is past
none_past : (n : Totals) (rs : List Rule) → is_past n ≡ false → least (limit_faults n rs) ≡ none → is_past (totals n rs) ≡ false
unfolding limit_faults totals
none_past n [] p e = p
none_past n (r ∷ rs) p e =
    ⊎_elim (λ (z : is_past (with_rule n r) ≡ true). absurd (refused z)) (λ (z : is_past (with_rule n r) ≡ false). none_past (with_rule n r) rs z (later z)) (which (is_past (with_rule n r)))
  where
    told : (b : Bool) → is_past (with_rule n r) ≡ b → least (listed-if b (rule_name r).start ++ limit_faults (with_rule n r) rs) ≡ none
    told b z = ap (λ (c : Bool). least (listed-if c (rule_name r).start ++ limit_faults (with_rule n r) rs)) (sym z) ∙ e

    refused : is_past (with_rule n r) ≡ true → ⊥
    refused z = some_none (rule_name r).start (limit_faults (with_rule n r) rs) (told true z)

    later : is_past (with_rule n r) ≡ false → least (limit_faults (with_rule n r) rs) ≡ none
    later z = told false z

pub limited : (t : Rules) → tree-refusal-5 t ≡ none → Limited t
limited t e =
    let n : Totals = tree_totals t
    in let p : is_past n ≡ false = none_past no_rule (rules_in t) refl e
    in let q : (ltb 256 n.all_constructs || (ltb 64 n.variables || ltb 1024 n.all_terms)) ≡ false = neither_second (ltb 64 n.rules) (ltb 256 n.all_constructs || (ltb 64 n.variables || ltb 1024 n.all_terms)) p
    in let r : (ltb 64 n.variables || ltb 1024 n.all_terms) ≡ false = neither_second (ltb 256 n.all_constructs) (ltb 64 n.variables || ltb 1024 n.all_terms) q
    in record {
      few_rules = ltb-false 64 n.rules (neither_first (ltb 64 n.rules) (ltb 256 n.all_constructs || (ltb 64 n.variables || ltb 1024 n.all_terms)) p);
      few_constructs = ltb-false 256 n.all_constructs (neither_first (ltb 256 n.all_constructs) (ltb 64 n.variables || ltb 1024 n.all_terms) q);
      few_variables = ltb-false 64 n.variables (neither_first (ltb 64 n.variables) (ltb 1024 n.all_terms) r);
      few_terms = ltb-false 1024 n.all_terms (neither_second (ltb 64 n.variables) (ltb 1024 n.all_terms) r);
    }
