use Prim.Native.Nat.{ℕ, ◌+◌, ◌<◌}
use mathlib.Core.Path.{◌≡◌, sym, ap, ◌∙◌}
use mathlib.Core.Bool.{true, false}
use native.Mathlib.Omega.{arith}
use lib.ListN.{length, take, drop, length-take}
use Rattle.text_header.specs.Header.{content, lines, is_first_line, header_lines_of}
use Rattle.text_header.proofs.Lines.{line_end, first_right, first_wrong, first_unended}
use Rattle.text_header.proofs.header.header.Goals as goal

pub returns-then-text-end : goal.returns-then-text-end
returns-then-text-end c = sym (first_unended c.args.text.now (omega (arith, c.span-end.ensures)))

pub slice_bounds-content-end : goal.slice_bounds-content-end
slice_bounds-content-end c = simp length-take (omega arith)

pub returns-then-first_line : goal.returns-then-first_line
returns-then-first_line c =
    let ended : line_end 0 c.args.text.now < length c.args.text.now = omega (arith, c.span-end.ensures) in
    let judged : is_first_line (content (take (line_end 0 c.args.text.now) c.args.text.now)) ≡ true = ap (λ (e : ℕ). is_first_line (content (take e c.args.text.now))) (sym c.span-end.ensures) ∙ ap is_first_line (sym c.content.ensures) ∙ sym c.first_line.ensures ∙ c.if-first_line.true in
    c.header_lines.ensures ∙ ap (λ (e : ℕ). header_lines_of (e + 1) (lines (drop (e + 1) c.args.text.now))) c.span-end.ensures ∙ sym (first_right c.args.text.now ended judged)

pub returns : goal.returns
returns c =
    let ended : line_end 0 c.args.text.now < length c.args.text.now = omega (arith, c.span-end.ensures) in
    let judged : is_first_line (content (take (line_end 0 c.args.text.now) c.args.text.now)) ≡ false = ap (λ (e : ℕ). is_first_line (content (take e c.args.text.now))) (sym c.span-end.ensures) ∙ ap is_first_line (sym c.content.ensures) ∙ sym c.first_line.ensures ∙ c.if-first_line.false in
    sym (first_wrong c.args.text.now ended judged)
