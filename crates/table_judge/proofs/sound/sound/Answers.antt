use native.Mathlib.Omega.{arith}
use mathlib.Core.Bool.{false≢true}
use Rattle.table_judge.proofs.sound.sound.Goals as goal

pub returns-then-table-lt-TABLE_WORDS : goal.returns-then-table-lt-TABLE_WORDS
returns-then-table-lt-TABLE_WORDS c = ((λ t. absurd (false≢true t)), (λ s. absurd (omega (arith, c.if-table-lt-TABLE_WORDS.true, s.0))))

pub returns : goal.returns
returns c = ((λ t. (c.if-table-lt-TABLE_WORDS.false, c.sound_words.ensures.0 t)), (λ s. c.sound_words.ensures.1 s.1))
