use Prim.Native.Nat.{suc, ◌+◌, ◌*◌, ◌-◌, ◌<◌}
use native.Mathlib.Omega.{arith}
use native.Mathlib.Nat.{sub-zero}
use borrow.Author.Tests.{eq-eqb, ne_eqb}
use mathlib.Core.Path.{◌≡◌, sym, ◌∙◌, ap}
use mathlib.Core.Bool.{true, false, ◌&&◌}
use lib.Dec.{eqb}
use lib.ListN.{take, drop}
use Rattle.basis.specs.Bits.{value, frame_bits}
use Rattle.table_layout.specs.Held.{literal_byte}
use Rattle.run_actions.specs.Acts.{literal_holds}
use Rattle.run_actions.proofs.Literals.{literal_more, literal_done}
use Rattle.run_actions.proofs.literal_holds.Goals as goal

-- src/lib.rt:251:5
pub loop-k-init : goal.loop-k-init
loop-k-init c = (ap (literal_holds c.args.table.now c.args.frame.now c.args.p c.args.i 0) (sub-zero c.args.n), omega arith)

-- src/lib.rt:252:13
pub literal_byte-want-requires : goal.literal_byte-want-requires
literal_byte-want-requires c = (omega arith, omega arith)

-- src/lib.rt:253:12
pub octet-requires : goal.octet-requires
octet-requires c = (omega arith, omega arith)

-- src/lib.rt:254:13
pub returns-then-octet-want : goal.returns-then-octet-want
returns-then-octet-want c =
    let ws = c.args.table.now in
    let fs = c.args.frame.now in
    let p = c.args.p in
    let i = c.args.i in
    let n = c.args.n in
    let j = c.loop-k.k in
    let e : n - j ≡ suc (n - (j + 1)) = omega arith in
    let b : literal_byte ws i j < 256 = omega arith in
    let step = ap (literal_holds ws fs p i j) e ∙ literal_more ws fs p i j (n - (j + 1)) (omega arith) b in
    let z : eqb (value (take 8 (drop (p + 8 * j) (frame_bits fs)))) (literal_byte ws i j) ≡ false = ne_eqb _ _ (λ y. c.if-octet-want.true (c.octet.ensures.0 ∙ (y ∙ sym c.literal_byte-want.ensures.0))) in
    sym (step ∙ ap (◌&& literal_holds ws fs p i (j + 1) (n - (j + 1))) z) ∙ c.loop-k.invariant.0

-- src/lib.rt:251:5
pub loop-k-preserved : goal.loop-k-preserved
loop-k-preserved c =
    let ws = c.args.table.now in
    let fs = c.args.frame.now in
    let p = c.args.p in
    let i = c.args.i in
    let n = c.args.n in
    let j = c.loop-k.k in
    let e : n - j ≡ suc (n - (j + 1)) = omega arith in
    let b : literal_byte ws i j < 256 = omega arith in
    let step = ap (literal_holds ws fs p i j) e ∙ literal_more ws fs p i j (n - (j + 1)) (omega arith) b in
    let z : eqb (value (take 8 (drop (p + 8 * j) (frame_bits fs)))) (literal_byte ws i j) ≡ true = eq-eqb _ _ (sym c.octet.ensures.0 ∙ (c.if-octet-want.false ∙ c.literal_byte-want.ensures.0)) in
    (sym (step ∙ ap (◌&& literal_holds ws fs p i (j + 1) (n - (j + 1))) z) ∙ c.loop-k.invariant.0, omega arith)

-- src/lib.rt:246:1
pub returns : goal.returns
returns c =
    let e : c.args.n - c.loop-k.k ≡ 0 = omega arith in
    sym (ap (literal_holds c.args.table.now c.args.frame.now c.args.p c.args.i c.loop-k.k) e ∙ literal_done c.args.table.now c.args.frame.now c.args.p c.args.i c.loop-k.k) ∙ c.loop-k.invariant.0
