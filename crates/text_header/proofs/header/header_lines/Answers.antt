use Prim.Native.Nat.{ℕ, ◌-◌, ◌<◌}
use mathlib.Core.Path.{◌≡◌, refl, sym, ap, ◌∙◌}
use mathlib.Core.Bool.{true, false}
use native.Mathlib.Omega.{arith}
use lib.ListN.{length, take, drop}
use Rattle.text_header.specs.Header.{content, is_header_line}
use Rattle.text_header.specs.declared.Class.{Class}
use Rattle.text_header.proofs.Runs.{span_grows}
use Rattle.text_header.proofs.Lines.{line_end, line_at, header_empty, header_wrong, header_turn, header_unended}
use Rattle.text_header.proofs.header.header_lines.Goals as goal

pub loop-at-init : goal.loop-at-init
loop-at-init c = (c.requires, refl)

pub returns-then-text-end : goal.returns-then-text-end
returns-then-text-end c = sym (header_unended c.args.text.now c.loop-at.at (omega (arith, c.span-end.ensures)) c.loop-at.invariant.0) ∙ c.loop-at.invariant.1

pub slice_bounds-content-count : goal.slice_bounds-content-count
slice_bounds-content-count c = omega (arith, c.span-end.ensures, span_grows (Class.Except 10) c.loop-at.at (drop c.loop-at.at c.args.text.now))

pub slice_bounds-content-start : goal.slice_bounds-content-start
slice_bounds-content-start c = omega (arith, c.span-end.ensures, span_grows (Class.Except 10) c.loop-at.at (drop c.loop-at.at c.args.text.now))

pub returns-then-line-eq0 : goal.returns-then-line-eq0
returns-then-line-eq0 c =
    let ended : line_end c.loop-at.at (drop c.loop-at.at c.args.text.now) < length c.args.text.now = omega (arith, c.span-end.ensures) in
    let line : c.content-line.result.now ≡ content (line_at c.args.text.now c.loop-at.at) = c.content-line.ensures ∙ ap (λ (e : ℕ). content (take (e - c.loop-at.at) (drop c.loop-at.at c.args.text.now))) c.span-end.ensures in
    rw c.span-end.ensures (sym (header_empty c.args.text.now c.loop-at.at ended (ap length (sym line) ∙ c.if-line-eq0.true)) ∙ c.loop-at.invariant.1)

pub loop-at-smaller : goal.loop-at-smaller
loop-at-smaller c = omega (arith, c.span-end.ensures, span_grows (Class.Except 10) c.loop-at.at (drop c.loop-at.at c.args.text.now))

pub loop-at-preserved : goal.loop-at-preserved
loop-at-preserved c =
    let ended : line_end c.loop-at.at (drop c.loop-at.at c.args.text.now) < length c.args.text.now = omega (arith, c.span-end.ensures) in
    let line : c.content-line.result.now ≡ content (line_at c.args.text.now c.loop-at.at) = c.content-line.ensures ∙ ap (λ (e : ℕ). content (take (e - c.loop-at.at) (drop c.loop-at.at c.args.text.now))) c.span-end.ensures in
    let some : length (content (line_at c.args.text.now c.loop-at.at)) ≡ 0 → ⊥ = λ z. c.if-line-eq0.false (ap length line ∙ z) in
    let judged : is_header_line (content (line_at c.args.text.now c.loop-at.at)) ≡ true = ap is_header_line (sym line) ∙ sym c.header_line.ensures ∙ c.if-header_line.true in
    (omega arith, rw c.span-end.ensures (sym (header_turn c.args.text.now c.loop-at.at ended some judged) ∙ c.loop-at.invariant.1))

pub returns-else-header_line : goal.returns-else-header_line
returns-else-header_line c =
    let ended : line_end c.loop-at.at (drop c.loop-at.at c.args.text.now) < length c.args.text.now = omega (arith, c.span-end.ensures) in
    let line : c.content-line.result.now ≡ content (line_at c.args.text.now c.loop-at.at) = c.content-line.ensures ∙ ap (λ (e : ℕ). content (take (e - c.loop-at.at) (drop c.loop-at.at c.args.text.now))) c.span-end.ensures in
    let some : length (content (line_at c.args.text.now c.loop-at.at)) ≡ 0 → ⊥ = λ z. c.if-line-eq0.false (ap length line ∙ z) in
    let judged : is_header_line (content (line_at c.args.text.now c.loop-at.at)) ≡ false = ap is_header_line (sym line) ∙ sym c.header_line.ensures ∙ c.if-header_line.false in
    sym (header_wrong c.args.text.now c.loop-at.at ended some judged) ∙ c.loop-at.invariant.1

pub returns : goal.returns
returns c = sym (header_unended c.args.text.now c.loop-at.at (omega (arith, c.loop-at-test.false, span_grows (Class.Except 10) c.loop-at.at (drop c.loop-at.at c.args.text.now))) c.loop-at.invariant.0) ∙ c.loop-at.invariant.1
