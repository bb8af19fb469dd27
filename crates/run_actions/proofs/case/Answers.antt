use Prim.Native.Nat.{ℕ, ◌+◌, ◌≤◌}
use native.Mathlib.Omega.{arith}
use mathlib.Core.Path.{sym, ◌∙◌, ap}
use Rattle.run_actions.specs.Acts.{by_case, case_act}
use Rattle.run_actions.specs.declared.Act.{Act}
use Rattle.run_actions.proofs.Walks.{positive}
use Rattle.run_actions.proofs.Parts.{case_end, case_hit, case_missing, case_next}
use Rattle.run_actions.proofs.case.Goals as goal
use Rattle.std.specs.Prelude.{Result, Ok, Bool}
use Rattle.term_words.specs.declared.TermError.{TermError}

-- src/lib.rt:122:15
pub case_holds-requires : goal.case_holds-requires
case_holds-requires c = (omega arith, omega arith)

-- src/lib.rt:124:17
pub returns-then-holds : goal.returns-then-holds
returns-then-holds c = sym (case_hit c.args.table.now c.args.end c.args.values.now c.loop-j.j (Act.Enter c.loop-j.j) c.loop-j-test.true (λ rest. ap (λ (t : Result Bool TermError). by_case t c.loop-j.j rest) (sym c.in-Ok.ensures ∙ ap Ok c.if-holds.true))) ∙ c.loop-j.invariant

-- src/lib.rt:128:17
pub returns-in_default : goal.returns-in_default
returns-in_default c = sym (case_hit c.args.table.now c.args.end c.args.values.now c.loop-j.j Act.Broken c.loop-j-test.true (λ rest. ap (λ (t : Result Bool TermError). by_case t c.loop-j.j rest) (sym c.in_default.ensures))) ∙ c.loop-j.invariant

-- src/lib.rt:136:13
pub returns-then-step-eq0 : goal.returns-then-step-eq0
returns-then-step-eq0 c = sym (case_missing c.args.table.now c.args.end c.args.values.now c.loop-j.j c.loop-j-test.true (sym c.in-Ok.ensures ∙ ap Ok c.if-holds.false) (sym c.size_at-step.ensures.0 ∙ c.if-step-eq0.true)) ∙ c.loop-j.invariant

-- src/lib.rt:121:5
pub loop-j-smaller : goal.loop-j-smaller
loop-j-smaller c = (let z : 1 ≤ c.size_at-step.result = positive c.size_at-step.result c.if-step-eq0.false in omega arith)

-- src/lib.rt:121:5
pub loop-j-preserved : goal.loop-j-preserved
loop-j-preserved c =
    let e = c.size_at-step.ensures.0 in
    ap (λ (x : ℕ). case_act c.args.table.now c.args.values.now (c.loop-j.j + x) c.args.end) e
    ∙ (sym
    (case_next c.args.table.now c.args.end c.args.values.now c.loop-j.j c.loop-j-test.true (sym c.in-Ok.ensures ∙ ap Ok c.if-holds.false)
    (λ z. c.if-step-eq0.false (e ∙ z)))
    ∙ c.loop-j.invariant)

-- src/lib.rt:116:1
pub returns : goal.returns
returns c = sym (case_end c.args.table.now c.args.end c.args.values.now c.loop-j.j c.loop-j-test.false) ∙ c.loop-j.invariant
