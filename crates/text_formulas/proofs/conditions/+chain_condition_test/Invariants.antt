use Rattle.std.proofs.Common.{[], ◌∷◌, ℕ, ◌+◌, ◌-◌, ◌*◌, List}
use Rattle.text_parsing.specs.Cursors.{left}
use Rattle.text_parsing.specs.Symbols.{chain}
use Rattle.text_parsing.proofs.Loops.{Still}
use Rattle.text_formulas.proofs.conditions.+chain_condition_test.Given as goal

abbrev pub decreases-chain : goal.decreases-chain
decreases-chain l = 3 * (17 - l.d) + 1

abbrev pub decreases-condition : goal.decreases-condition
decreases-condition l = 3 * (17 - l.d) + 2

abbrev pub decreases-test : goal.decreases-test
decreases-test l = 3 * (17 - l.d)

abbrev pub invariant-chain-loop-c : goal.invariant-chain-loop-c
invariant-chain-loop-c l = (ns : List ℕ) → Still l.text (chain l.code l.tag l.d ∷ []) l.initial.c ns l.initial.terms l.c ns l.terms

abbrev pub decreases-chain-loop-c : goal.decreases-chain-loop-c
decreases-chain-loop-c l = left l.text l.c
