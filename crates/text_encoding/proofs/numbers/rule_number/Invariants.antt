use Prim.Native.Nat.{ℕ, ◌-◌}
use Rattle.text_store.specs.Words.{named_at}
use Rattle.text_names.specs.Names.{same_name}
use Rattle.text_encoding.proofs.Sums.{Seeking}
use Rattle.text_encoding.proofs.numbers.rule_number.Given as goal

abbrev pub invariant-loop-j : goal.invariant-loop-j
invariant-loop-j l = Seeking l.count 0 (λ (k : ℕ). same_name l.text (named_at l.rules k) l.p) (l.count - l.j) l.j
