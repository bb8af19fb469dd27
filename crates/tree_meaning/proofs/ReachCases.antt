-- Rules that reach themselves (7), and rules that are not reached (12), each with the place of the first.
-- Assumes nothing.
use Prim.Native.Nat.{ℕ}
use mathlib.Core.Path.{◌≡◌, refl}
use mathlib.Core.Logic.{inl, inr}
use native.Mathlib.Omega.{arith}
use lib.Dec.{lit<}
use Rattle.text_header.specs.Spans.{starts}
use Rattle.tree.specs.Tree.{number, plain, no_factor, product, no_summand, sum, exactly, equal, compare, one_test, counted, literal, rule_use, switch, last_case, once, repeated, last_member, and_members, last_branch, rule, Rules, last_rule, and_rules}
use Rattle.tree_meaning.proofs.Building.{bytes, at, name, num, quote}
use Rattle.tree_meaning.proofs.Computing.{tokens, written}
use mathlib.Core.Bool.{cond}
use mathlib.Core.List.Memᴰ
use Rattle.text_tokens.specs.Names.{is_same}
use Rattle.tree_meaning.specs.Pieces.{pieces, rules_of}
use Rattle.tree_meaning.specs.Reaching.{used_in, directly, through, Refusal7, Acyclic, UnreachedAt, Refusal12}
use Rattle.tree_meaning.proofs.Reached.{uses, uses_in, recursive_at, unused_before, none_before, falling, ranked}
use Rattle.tree_meaning.proofs.Unreached.{closed, not_reached, ReachedBefore, none_sooner, none_unreached, unreached_at}

-- `a = "x" & b; b = a;`: K11
unfoldable pub mutual_rules : Rules
unfolding bytes starts
mutual_rules = and_rules (rule (name 0 "a") (at 2) (last_branch (and_members (once (literal (quote 4 7 "x"))) (at 8) (last_member (once (rule_use (name 10 "b") refl))))) (at 11)) (last_rule (rule (name 13 "b") (at 15) (last_branch (last_member (once (rule_use (name 17 "a") refl)))) (at 18)))

mutual_rules_read : tokens "a = \"x\" & b; b = a;" ≡ written mutual_rules 19
unfolding tokens written mutual_rules
mutual_rules_read = refl

-- `a = b; b = c & "x"; c = [1 = 2: b;];`: the first rule only leads to a cycle
unfoldable pub cycle_after : Rules
unfolding bytes starts
cycle_after = and_rules (rule (name 0 "a") (at 2) (last_branch (last_member (once (rule_use (name 4 "b") refl)))) (at 5)) (and_rules (rule (name 7 "b") (at 9) (last_branch (and_members (once (rule_use (name 11 "c") refl)) (at 13) (last_member (once (literal (quote 15 18 "x")))))) (at 18)) (last_rule (rule (name 20 "c") (at 22) (last_branch (last_member (once (switch (lit< tt) (at 24) (last_case (one_test (compare (sum (product (plain (number (num 25 26 1))) no_factor) no_summand) equal (at 27) (sum (product (plain (number (num 29 30 2))) no_factor) no_summand))) (at 30) (last_branch (last_member (once (rule_use (name 32 "b") refl)))) (at 33)) (at 34))))) (at 35))))

cycle_after_read : tokens "a = b; b = c & \"x\"; c = [1 = 2: b;];" ≡ written cycle_after 36
unfolding tokens written cycle_after
cycle_after_read = refl

-- `a = "x"; b = "y" & b{0};`: under `{0}`, in a rule that nothing uses
unfoldable pub self_unused : Rules
unfolding bytes starts
self_unused = and_rules (rule (name 0 "a") (at 2) (last_branch (last_member (once (literal (quote 4 7 "x"))))) (at 7)) (last_rule (rule (name 9 "b") (at 11) (last_branch (and_members (once (literal (quote 13 16 "y"))) (at 17) (last_member (repeated (rule_use (name 19 "b") refl) (counted (at 20) (exactly (sum (product (plain (number (num 21 22 0))) no_factor) no_summand)) (at 22)))))) (at 23)))

self_unused_read : tokens "a = \"x\"; b = \"y\" & b{0};" ≡ written self_unused 24
unfolding tokens written self_unused
self_unused_read = refl

-- `a = c & b; b = a; c = "x";`: through the second of two uses
unfoldable pub second_use : Rules
unfolding bytes starts
second_use = and_rules (rule (name 0 "a") (at 2) (last_branch (and_members (once (rule_use (name 4 "c") refl)) (at 6) (last_member (once (rule_use (name 8 "b") refl))))) (at 9)) (and_rules (rule (name 11 "b") (at 13) (last_branch (last_member (once (rule_use (name 15 "a") refl)))) (at 16)) (last_rule (rule (name 18 "c") (at 20) (last_branch (last_member (once (literal (quote 22 25 "x"))))) (at 25))))

second_use_read : tokens "a = c & b; b = a; c = \"x\";" ≡ written second_use 26
unfolding tokens written second_use
second_use_read = refl

-- `a = b & b; b = "x";`: none
unfoldable pub straight : Rules
unfolding bytes starts
straight = and_rules (rule (name 0 "a") (at 2) (last_branch (and_members (once (rule_use (name 4 "b") refl)) (at 6) (last_member (once (rule_use (name 8 "b") refl))))) (at 9)) (last_rule (rule (name 11 "b") (at 13) (last_branch (last_member (once (literal (quote 15 18 "x"))))) (at 18)))

straight_read : tokens "a = b & b; b = \"x\";" ≡ written straight 19
unfolding tokens written straight
straight_read = refl

-- ---- the places

mutual_rules_7 : Refusal7 mutual_rules 0
unfolding mutual_rules bytes starts rules_of pieces used_in uses_in unused_before
mutual_rules_7 =
    record {
      recursive = recursive_at mutual_rules _ (Memᴰ.head refl) (through (uses {y = bytes "b"} refl) (directly (uses refl)));
      first = none_before mutual_rules 0 refl;
    }

-- nothing uses a
cycle_after_7 : Refusal7 cycle_after 7
unfolding cycle_after bytes starts rules_of pieces used_in uses_in unused_before
cycle_after_7 =
    record {
      recursive = recursive_at cycle_after _ (Memᴰ.tail (Memᴰ.head refl)) (through (uses {y = bytes "c"} refl) (directly (uses refl)));
      first = none_before cycle_after 7 refl;
    }

self_unused_7 : Refusal7 self_unused 9
unfolding self_unused bytes starts rules_of pieces used_in uses_in unused_before
self_unused_7 =
    record {
      recursive = recursive_at self_unused _ (Memᴰ.tail (Memᴰ.head refl)) (directly (uses refl));
      first = none_before self_unused 9 refl;
    }

second_use_7 : Refusal7 second_use 0
unfolding second_use bytes starts rules_of pieces used_in uses_in unused_before
second_use_7 =
    record {
      recursive = recursive_at second_use _ (Memᴰ.head refl) (through (uses {y = bytes "b"} refl) (directly (uses refl)));
      first = none_before second_use 0 refl;
    }

straight_7 : Acyclic straight
unfolding straight bytes starts rules_of pieces used_in falling
straight_7 = ranked (λ x. cond (is_same (bytes "a") x) 1 0) straight refl

-- ---- 12

-- `a = "x"; c = "y"; b = c;`: only b uses c, and nothing uses b: c is the first
unfoldable pub used_by_unreached : Rules
unfolding bytes starts
used_by_unreached = and_rules (rule (name 0 "a") (at 2) (last_branch (last_member (once (literal (quote 4 7 "x"))))) (at 7)) (and_rules (rule (name 9 "c") (at 11) (last_branch (last_member (once (literal (quote 13 16 "y"))))) (at 16)) (last_rule (rule (name 18 "b") (at 20) (last_branch (last_member (once (rule_use (name 22 "c") refl)))) (at 23))))

used_by_unreached_read : tokens "a = \"x\"; c = \"y\"; b = c;" ≡ written used_by_unreached 24
unfolding tokens written used_by_unreached
used_by_unreached_read = refl

used_by_unreached_12 : Refusal12 used_by_unreached 9
unfolding used_by_unreached bytes starts rules_of pieces used_in closed ReachedBefore
used_by_unreached_12 =
    record {
      unreached = unreached_at used_by_unreached _ (Memᴰ.tail (Memᴰ.head refl)) (not_reached (is_same (bytes "a")) {t = used_by_unreached} refl refl (bytes "c") refl);
      first = none_sooner used_by_unreached 9 (inl (inl refl), (inr (omega arith), (inr (omega arith), tt)));
    }

-- `a = c{0}; b = "y"; c = b;`: "Reached by written uses", whatever counts stand around them, and through another rule
unfoldable pub all_reached : Rules
unfolding bytes starts
all_reached = and_rules (rule (name 0 "a") (at 2) (last_branch (last_member (repeated (rule_use (name 4 "c") refl) (counted (at 5) (exactly (sum (product (plain (number (num 6 7 0))) no_factor) no_summand)) (at 7))))) (at 8)) (and_rules (rule (name 10 "b") (at 12) (last_branch (last_member (once (literal (quote 14 17 "y"))))) (at 17)) (last_rule (rule (name 19 "c") (at 21) (last_branch (last_member (once (rule_use (name 23 "b") refl)))) (at 24))))

all_reached_read : tokens "a = c{0}; b = \"y\"; c = b;" ≡ written all_reached 25
unfolding tokens written all_reached
all_reached_read = refl

all_reached_12 : (p : ℕ) → UnreachedAt all_reached p → ⊥
unfolding all_reached bytes starts rules_of pieces used_in uses_in ReachedBefore
all_reached_12 =
    none_unreached all_reached (λ p. (inl (inl refl), (inl (inr (through (uses {y = bytes "c"} refl) (directly (uses refl)))), (inl (inr (directly (uses refl))), tt))))
