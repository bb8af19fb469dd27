use Prim.Native.Nat.{ℕ}
use Rattle.text_names.specs.Names.{same_name}
use Rattle.text_store.specs.Words.{named_at}
use Rattle.text_names.proofs.Loops.{NoneYet}
use Rattle.text_names.proofs.names.named.Given as goal

abbrev pub invariant-loop-j : goal.invariant-loop-j
invariant-loop-j l = NoneYet 0 l.count (λ (j : ℕ). same_name l.text (named_at l.rules j) l.p) l.j
