use Prim.Native.Nat.{ℕ, ◌+◌, ◌*◌}
use borrow.Author.Rules.{rules}
use mathlib.Core.Path.{◌≡◌, subst}
use native.Mathlib.Omega.{arith}
use Rattle.lookahead.specs.Inner.{Filled}
use Rattle.lookahead.proofs.SetLaws.{filled_none, filled_more}
use Rattle.term_words.specs.Words.{terms}
use Rattle.table_first_follow.specs.Fields.{Led, Names}
use Rattle.table_first_follow.proofs.WordLaws.{names_all, window_pos}
use Rattle.table_first_follow.proofs.fields.leading.Goals as goal

pub loop-i-init : goal.loop-i-init
loop-i-init c = (filled_none _, search rules)

pub word_of-requires : goal.word_of-requires
word_of-requires c = let w = c in (c.window_count-strings.ensures.1, c.first_bit-half.ensures.1, omega (arith, c.loop-i-test.true))

pub loop-i-preserved : goal.loop-i-preserved
loop-i-preserved c =
    let w = c in
    let a = c.args in (
      filled_more _ _ _ _ (search rules) c.loop-i.invariant.0 (search rules)
          (c.word_of.ensures a.width a.signed a.start (terms a.words.now a.start a.end) c.window_count-strings.ensures.0 c.first_bit-half.ensures.0 (c.first_windows-marks.ensures c.requires)),
      search rules,
    )

pub returns : goal.returns
returns c =
    let a = c.args in
    let l = c.loop-i in
    let e : l.i ≡ 8 = omega (arith, l.invariant.1, c.loop-i-test.false) in
    let P : ℕ → Type 0 = Led a.width a.signed a.words.now a.start a.end in
    names_all P l.out (window_pos a.width a.signed a.start (terms a.words.now a.start a.end))
    (subst (λ (n : ℕ). Filled (λ k w. Names P (64 * k) (64 * k + 64) w) n l.out) e l.invariant.0)
