-- Which rule a node is in: its nodes go from its first up to its last, and the rule after it begins there.
-- Assumes nothing.
use Prim.Native.Nat.{ℕ, zero, suc, ◌+◌, ◌≤◌, ◌<◌}
use mathlib.Core.Path.{◌≡◌, sym, ap}
use mathlib.Core.Bool.{true, false}
use mathlib.Core.List.{List}
use native.Mathlib.Omega.{arith}
use borrow.Author.Tests.{le-leb, lt-leb}
use lib.Dec.{leb}
use Rattle.text_store.specs.Words.{first_node, last_node}
use Rattle.text_encoding.specs.Numbers.{first_at}
use Rattle.tree.specs.Tree.{Rule, Rules}
use Rattle.tree_meaning.specs.Pieces.{rules_of as rules_in}
use Rattle.tree_meaning.specs.Counted.{Totals, with_rule}
use Rattle.tree_store.proofs.Holding.{compared}
use Rattle.tree_store.proofs.Rowed.{RulesIn, no_rules, rule_then, Rowed}
use Rattle.tree_numbers.proofs.Rules.{At, at_first, at_later, at_below, RuleAt, rule_at}

-- a rule begins after all before it
begins_after : {ws : List ℕ} {n : Totals} {l : List Rule} {j : ℕ} {x : Rule} → RulesIn ws n l → At l j x → n.all_constructs ≤ first_node ws (n.rules + j)
begins_after no_rules a = elim a [ ]
begins_after {ws} {n} (rule_then e f g more) at_first = omega (arith, ap (first_node ws) (let q : n.rules + 0 ≡ n.rules = omega arith in q), f)
begins_after {ws} {n} (rule_then {x = y} e f g more) (at_later {j = j} a) =
    omega (arith, ap (first_node ws) (let q : suc n.rules + j ≡ n.rules + suc j = omega arith in q), begins_after more a)

ends_before : {ws : List ℕ} {n : Totals} {l : List Rule} {i j : ℕ} {x y : Rule} → RulesIn ws n l → At l i x → At l j y → i < j → last_node ws (n.rules + i) ≤ first_node ws (n.rules + j)
ends_before h at_first at_first l = absurd (omega arith)
ends_before h (at_later a) at_first l = absurd (omega arith)
ends_before {ws} {n} (rule_then e f g more) at_first (at_later {j = j} b) l =
    omega (arith, ap (last_node ws) (let q : n.rules + 0 ≡ n.rules = omega arith in q), g, ap (first_node ws) (let q : suc n.rules + j ≡ n.rules + suc j = omega arith in q), begins_after more b)
ends_before {ws} {n} (rule_then {x = z} e f g more) (at_later {j = i} a) (at_later {j = j} b) l =
    omega (arith, ap (last_node ws) (let q : suc n.rules + i ≡ n.rules + suc i = omega arith in q), ap (first_node ws) (let q : suc n.rules + j ≡ n.rules + suc j = omega arith in q), ends_before {n = with_rule n z} more a b (omega arith))

-- the last rule that begins at node i or before
first_at_from : (ws : List ℕ) (k i j : ℕ) → j < k → first_node ws j ≤ i → ((m : ℕ) → j < m → m < k → i < first_node ws m) → first_at ws k i ≡ first_node ws j
unfolding first_at
first_at_from ws zero i j h l f = absurd (omega arith)
first_at_from ws (suc k) i j h l f =
    compared j k
    (λ y. let e : leb (first_node ws k) i ≡ false = lt-leb (first_node ws k) i (f k y (omega arith)) in rw (e, first_at) (first_at_from ws k i j y l (λ m u v. f m u (omega arith))))
    (λ (y : j ≡ k). let e : leb (first_node ws k) i ≡ true = le-leb (first_node ws k) i (omega (arith, ap (first_node ws) y)) in rw (e, first_at) (ap (first_node ws) (sym y)))
    (λ y. absurd (omega arith))

-- node i of rule j: the first node of the rule that it is in is rule j's
pub owner : {t : Rules} {ns ts ws : List ℕ} {r : ℕ} (w : Rowed t ns ts ws r) (i : ℕ) {j : ℕ} {x : Rule} → At (rules_in t) j x → first_node ws j ≤ i → i < last_node ws j → first_at ws r i ≡ first_node ws j
owner {t} {ws = ws} {r} w i {j} a l h =
    first_at_from ws r i j (omega (arith, at_below a, w.number)) l
    (λ m u v.
    let b : RuleAt (rules_in t) m = rule_at (rules_in t) m (omega (arith, w.number))
    in let o : last_node ws (0 + j) ≤ first_node ws (0 + m) = ends_before w.rules_are a b.there u
    in omega (arith, ap (last_node ws) (let q : 0 + j ≡ j = omega arith in q), ap (first_node ws) (let q : 0 + m ≡ m = omega arith in q)))
