use native.Mathlib.Omega.{arith}
use mathlib.Core.Path.{◌∙◌}
use Rattle.run_frame.proofs.Reading.{byte_one, byte_more}
use Rattle.run_frame.proofs.eight.Goals as goal

pub returns : goal.returns
returns c =
    let fs = c.args.frame.now in
    let q = c.args.q in
    let b1 = byte_one fs q _ (omega arith) c.wide.ensures.0 c.wide.ensures.1 in
    let b2 = byte_more fs q 1 _ _ (omega arith) b1 c.wide-2.ensures.0 c.wide-2.ensures.1 in
    let b3 = byte_more fs q 2 _ _ (omega arith) b2 c.wide-3.ensures.0 c.wide-3.ensures.1 in
    let b4 = byte_more fs q 3 _ _ (omega arith) b3 c.wide-4.ensures.0 c.wide-4.ensures.1 in
    let b5 = byte_more fs q 4 _ _ (omega arith) b4 c.wide-5.ensures.0 c.wide-5.ensures.1 in
    let b6 = byte_more fs q 5 _ _ (omega arith) b5 c.wide-6.ensures.0 c.wide-6.ensures.1 in
    let b7 = byte_more fs q 6 _ _ (omega arith) b6 c.wide-7.ensures.0 c.wide-7.ensures.1 in
    let b8 = byte_more fs q 7 _ _ (omega arith) b7 c.wide-8.ensures.0 c.wide-8.ensures.1 in
    c.joined.ensures ∙ b8
