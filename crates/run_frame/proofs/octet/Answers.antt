use Prim.Native.Nat.{◌/◌}
use native.Mathlib.Omega.{arith}
use Rattle.run_frame.proofs.Reading.{byte_one, byte_more, octet_in_one, octet_in_two}
use Rattle.run_frame.proofs.octet.Goals as goal

pub returns-then-r-eq0 : goal.returns-then-r-eq0
returns-then-r-eq0 c =
    let fs = c.args.frame.now in
    let p = c.args.p in
    (octet_in_one fs p c.wide.result (omega arith) c.if-r-eq0.true c.wide.ensures.1 (byte_one fs (p / 8) c.wide.result (omega arith) c.wide.ensures.0 c.wide.ensures.1), omega arith)

pub returns : goal.returns
returns c =
    let fs = c.args.frame.now in
    let p = c.args.p in
    let a = c.wide-2 in
    let b = c.wide-3 in
    let one = byte_one fs (p / 8) a.result (omega arith) a.ensures.0 a.ensures.1 in
    let two = byte_more fs (p / 8) 1 a.result b.result (omega arith) one b.ensures.0 b.ensures.1 in
    (octet_in_two fs p _ (omega arith) two, omega arith)
