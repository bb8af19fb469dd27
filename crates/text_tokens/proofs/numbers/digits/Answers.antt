use Prim.Native.Nat.{ℕ, ◌+◌, ◌*◌}
use mathlib.Core.Path.{◌≡◌, refl, sym, ap, ap₂, ◌∙◌}
use native.Mathlib.Omega.{arith}
use borrow.Author.Tests.{lt-ltb, le-ltb}
use lib.Dec.{ltb}
use lib.ListN.{get_or}
use Rattle.text_header.specs.Bytes.{digit_of}
use Rattle.text_header.proofs.Tests.{found_some, found_none}
use Rattle.text_tokens.specs.Numbers.{capped}
use Rattle.text_tokens.proofs.Digits.{value_turn, value_stop, value_out}
use Rattle.text_tokens.proofs.numbers.digits.Goals as goal

pub loop-i-init : goal.loop-i-init
loop-i-init c = (omega arith, refl)

pub pushed-v-requires : goal.pushed-v-requires
pushed-v-requires c = omega (arith, c.from.ensures, c.from-in-loop-i.ensures, c.if-radix-d.false, c.requires)

pub loop-i-preserved : goal.loop-i-preserved
loop-i-preserved c =
    let d : digit_of (get_or c.args.text.now c.loop-i.i 0) ≡ c.in-Some.d = found_some (get_or c.args.text.now c.loop-i.i 0) c.in-Some.d (sym c.digit_value.ensures ∙ c.in-Some.is) in
    let p : c.pushed-v.result ≡ capped (c.loop-i.v * c.args.radix + digit_of (get_or c.args.text.now c.loop-i.i 0)) = c.pushed-v.ensures ∙ ap₂ (λ (a b : ℕ). capped (c.loop-i.v * a + b)) c.from.ensures (c.from-in-loop-i.ensures ∙ sym d) in
    (omega (arith, c.pushed-v.ensures), rw p (sym (value_turn c.args.text.now c.args.radix c.loop-i.v c.loop-i.i c.requires.0 c.loop-i-test.true (ap (λ (x : ℕ). ltb x c.args.radix) d ∙ lt-ltb _ _ c.if-radix-d.false)) ∙ c.loop-i.invariant.1))

pub returns-in_default : goal.returns-in_default
returns-in_default c =
    let e : c.loop-i.v ≡ capped c.loop-i.v = omega (arith, c.loop-i.invariant.0) in
    e ∙ ap capped (sym (value_stop c.args.text.now c.args.radix c.loop-i.v c.loop-i.i c.loop-i-test.true (found_none (get_or c.args.text.now c.loop-i.i 0) c.args.radix c.requires.1 (sym c.digit_value.ensures ∙ c.in_default.is)))) ∙ c.loop-i.invariant.1

pub returns-then-radix-d : goal.returns-then-radix-d
returns-then-radix-d c =
    let d : digit_of (get_or c.args.text.now c.loop-i.i 0) ≡ c.in-Some.d = found_some (get_or c.args.text.now c.loop-i.i 0) c.in-Some.d (sym c.digit_value.ensures ∙ c.in-Some.is) in
    let e : c.loop-i.v ≡ capped c.loop-i.v = omega (arith, c.loop-i.invariant.0) in
    e ∙ ap capped (sym (value_stop c.args.text.now c.args.radix c.loop-i.v c.loop-i.i c.loop-i-test.true (ap (λ (x : ℕ). ltb x c.args.radix) d ∙ le-ltb _ _ c.if-radix-d.true))) ∙ c.loop-i.invariant.1

pub returns : goal.returns
returns c = let e : c.loop-i.v ≡ capped c.loop-i.v = omega (arith, c.loop-i.invariant.0) in e ∙ ap capped (sym (value_out c.args.text.now c.args.radix c.loop-i.v c.loop-i.i c.loop-i-test.false)) ∙ c.loop-i.invariant.1
