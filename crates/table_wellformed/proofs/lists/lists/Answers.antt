use Prim.Native.Nat.{ℕ, ◌-◌}
use mathlib.Core.Path.{◌≡◌, sym, ap, ◌∙◌}
use native.Mathlib.Omega.{arith}
use lib.Dec.{eqb}
use Rattle.table_wellformed.specs.Lists.{lists_from}
use Rattle.table_wellformed.proofs.Pointers.{lists_turn, lists_stop, lists_end}
use Rattle.table_wellformed.proofs.lists.lists.Goals as goal

pub loop-i-init : goal.loop-i-init
loop-i-init c = let none : c.word-count.result - 0 ≡ c.word-count.result = omega arith in ap (λ (n : ℕ). lists_from n c.args.table.now 0 0) none

pub loop-i-preserved : goal.loop-i-preserved
loop-i-preserved c = rw c.after_lists-p.ensures (sym (lists_turn c.args.table.now _ _ _ c.loop-i-test.true (sym c.lists_begin.ensures ∙ c.if-not-lists_begin.false)) ∙ c.loop-i.invariant)

pub returns-then-not-lists_begin : goal.returns-then-not-lists_begin
returns-then-not-lists_begin c = sym (lists_stop c.args.table.now _ _ _ c.loop-i-test.true (sym c.lists_begin.ensures ∙ c.if-not-lists_begin.true)) ∙ c.loop-i.invariant ∙ ap (λ (n : ℕ). lists_from n c.args.table.now 0 0) c.word-count.ensures.0

pub returns : goal.returns
returns c = ap (eqb c.loop-i.p) c.word.ensures.0 ∙ sym (lists_end c.args.table.now _ _ c.loop-i.p c.loop-i-test.false) ∙ c.loop-i.invariant ∙ ap (λ (n : ℕ). lists_from n c.args.table.now 0 0) c.word-count.ensures.0
