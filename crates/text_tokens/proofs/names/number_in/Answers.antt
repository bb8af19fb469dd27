use Prim.Native.Nat.{ℕ, ◌-◌, ◌<◌}
use mathlib.Core.Path.{◌≡◌, refl, sym, ap, ◌∙◌}
use mathlib.Core.Bool.{true, false}
use native.Mathlib.Omega.{arith}
use lib.ListN.{length, take, drop}
use Rattle.text_header.specs.Spans.{is_word}
use Rattle.text_header.specs.declared.Class.{Class}
use Rattle.text_header.proofs.Runs.{span_grows}
use Rattle.text_header.proofs.Lines.{line_end, line_at}
use Rattle.text_tokens.proofs.Worded.{word_here, word_later, word_out}
use Rattle.text_tokens.proofs.names.number_in.Goals as goal

pub loop-at-init : goal.loop-at-init
loop-at-init c = (omega arith, omega arith, refl)

pub returns-then-words-end : goal.returns-then-words-end
returns-then-words-end c = sym (word_out c.args.words.now c.args.name.now c.loop-at.at c.loop-at.k (omega (arith, c.span-end.ensures)) c.loop-at.invariant.0) ∙ c.loop-at.invariant.2

pub slice_bounds-spells-count : goal.slice_bounds-spells-count
slice_bounds-spells-count c = omega (arith, c.span-end.ensures, span_grows (Class.Except 10) c.loop-at.at (drop c.loop-at.at c.args.words.now))

pub slice_bounds-spells-start : goal.slice_bounds-spells-start
slice_bounds-spells-start c = omega (arith, c.span-end.ensures, span_grows (Class.Except 10) c.loop-at.at (drop c.loop-at.at c.args.words.now))

pub returns-then-spells : goal.returns-then-spells
returns-then-spells c =
    let ended : line_end c.loop-at.at (drop c.loop-at.at c.args.words.now) < length c.args.words.now = omega (arith, c.span-end.ensures) in
    let judged : is_word false (line_at c.args.words.now c.loop-at.at) c.args.name.now ≡ true = ap (λ (e : ℕ). is_word false (take (e - c.loop-at.at) (drop c.loop-at.at c.args.words.now)) c.args.name.now) (sym c.span-end.ensures) ∙ sym c.spells.ensures ∙ c.if-spells.true in
    sym (word_here c.args.words.now c.args.name.now c.loop-at.at c.loop-at.k ended judged) ∙ c.loop-at.invariant.2

pub overflow_add-k : goal.overflow_add-k
overflow_add-k c = omega (arith, c.loop-at.invariant.1, c.loop-at-test.true)

pub loop-at-smaller : goal.loop-at-smaller
loop-at-smaller c = omega (arith, c.span-end.ensures, span_grows (Class.Except 10) c.loop-at.at (drop c.loop-at.at c.args.words.now))

pub loop-at-preserved : goal.loop-at-preserved
loop-at-preserved c =
    let ended : line_end c.loop-at.at (drop c.loop-at.at c.args.words.now) < length c.args.words.now = omega (arith, c.span-end.ensures) in
    let judged : is_word false (line_at c.args.words.now c.loop-at.at) c.args.name.now ≡ false = ap (λ (e : ℕ). is_word false (take (e - c.loop-at.at) (drop c.loop-at.at c.args.words.now)) c.args.name.now) (sym c.span-end.ensures) ∙ sym c.spells.ensures ∙ c.if-spells.false in
    (omega arith, omega (arith, c.loop-at.invariant.1, c.span-end.ensures, span_grows (Class.Except 10) c.loop-at.at (drop c.loop-at.at c.args.words.now)), rw c.span-end.ensures (sym (word_later c.args.words.now c.args.name.now c.loop-at.at c.loop-at.k ended judged) ∙ c.loop-at.invariant.2))

pub returns : goal.returns
returns c = sym (word_out c.args.words.now c.args.name.now c.loop-at.at c.loop-at.k (omega (arith, c.loop-at-test.false, span_grows (Class.Except 10) c.loop-at.at (drop c.loop-at.at c.args.words.now))) c.loop-at.invariant.0) ∙ c.loop-at.invariant.2
