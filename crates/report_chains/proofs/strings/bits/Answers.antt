use borrow.Author.Tests.{lt-ltb, le-ltb}
use Rattle.report_chains.specs.Strings.{width_of}
use Rattle.report_chains.proofs.strings.bits.Goals as goal

pub returns-then-n-lt2 : goal.returns-then-n-lt2
unfolding width_of
returns-then-n-lt2 c = simp (lt-ltb _ _ c.if-n-lt2.true)

pub returns-then-n-lt4 : goal.returns-then-n-lt4
unfolding width_of
returns-then-n-lt4 c = simp (lt-ltb _ _ c.if-n-lt4.true, le-ltb _ _ c.if-n-lt2.false)

pub returns-then-n-lt8 : goal.returns-then-n-lt8
unfolding width_of
returns-then-n-lt8 c = simp (lt-ltb _ _ c.if-n-lt8.true, le-ltb _ _ c.if-n-lt4.false, le-ltb _ _ c.if-n-lt2.false)

pub returns-then-n-lt16 : goal.returns-then-n-lt16
unfolding width_of
returns-then-n-lt16 c = simp (lt-ltb _ _ c.if-n-lt16.true, le-ltb _ _ c.if-n-lt8.false, le-ltb _ _ c.if-n-lt4.false, le-ltb _ _ c.if-n-lt2.false)

pub returns-then-n-lt32 : goal.returns-then-n-lt32
unfolding width_of
returns-then-n-lt32 c = simp (lt-ltb _ _ c.if-n-lt32.true, le-ltb _ _ c.if-n-lt16.false, le-ltb _ _ c.if-n-lt8.false, le-ltb _ _ c.if-n-lt4.false, le-ltb _ _ c.if-n-lt2.false)

pub returns-then-n-lt64 : goal.returns-then-n-lt64
unfolding width_of
returns-then-n-lt64 c = simp (lt-ltb _ _ c.if-n-lt64.true, le-ltb _ _ c.if-n-lt32.false, le-ltb _ _ c.if-n-lt16.false, le-ltb _ _ c.if-n-lt8.false, le-ltb _ _ c.if-n-lt4.false, le-ltb _ _ c.if-n-lt2.false)

pub returns-then-n-lt128 : goal.returns-then-n-lt128
unfolding width_of
returns-then-n-lt128 c = simp (lt-ltb _ _ c.if-n-lt128.true, le-ltb _ _ c.if-n-lt64.false, le-ltb _ _ c.if-n-lt32.false, le-ltb _ _ c.if-n-lt16.false, le-ltb _ _ c.if-n-lt8.false, le-ltb _ _ c.if-n-lt4.false, le-ltb _ _ c.if-n-lt2.false)

pub returns-then-n-lt256 : goal.returns-then-n-lt256
unfolding width_of
returns-then-n-lt256 c = simp (lt-ltb _ _ c.if-n-lt256.true, le-ltb _ _ c.if-n-lt128.false, le-ltb _ _ c.if-n-lt64.false, le-ltb _ _ c.if-n-lt32.false, le-ltb _ _ c.if-n-lt16.false, le-ltb _ _ c.if-n-lt8.false, le-ltb _ _ c.if-n-lt4.false, le-ltb _ _ c.if-n-lt2.false)

pub returns : goal.returns
unfolding width_of
returns c = simp (le-ltb _ _ c.if-n-lt256.false, le-ltb _ _ c.if-n-lt128.false, le-ltb _ _ c.if-n-lt64.false, le-ltb _ _ c.if-n-lt32.false, le-ltb _ _ c.if-n-lt16.false, le-ltb _ _ c.if-n-lt8.false, le-ltb _ _ c.if-n-lt4.false, le-ltb _ _ c.if-n-lt2.false)
