use Prim.Native.Nat.{◌+◌, ◌-◌}
use mathlib.Core.Path.{sym}
use native.Mathlib.Omega.{arith}
use Rattle.text_store.proofs.Numbers.{at_origin}
use Rattle.text_store.proofs.StoreLaws.{term_none}
use Rattle.text_admission.proofs.extents.term_after.Goals as goal

pub returns-then-t-lt-MAX_TERMS : goal.returns-then-t-lt-MAX_TERMS
returns-then-t-lt-MAX_TERMS c = simp (c.term_word.ensures, c.less-t.ensures)

pub returns-else-t-lt-MAX_TERMS : goal.returns-else-t-lt-MAX_TERMS
returns-else-t-lt-MAX_TERMS c = sym (term_none c.args.terms.now (c.args.f + (c.args.at - c.args.start)) at_origin (omega arith) (omega arith))

pub returns-else-f-lt-MAX_TERMS : goal.returns-else-f-lt-MAX_TERMS
returns-else-f-lt-MAX_TERMS c = sym (term_none c.args.terms.now (c.args.f + (c.args.at - c.args.start)) at_origin (omega arith) (omega arith))
