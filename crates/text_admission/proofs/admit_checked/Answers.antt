use Prim.Native.Nat.{ℕ, ◌+◌, ◌<◌, ◌≤◌}
use mathlib.Core.Path.{refl, sym, ap, subst, ◌∙◌}
use native.Mathlib.Omega.{arith}
use Rattle.basis.specs.Limits.{max_text_bytes}
use Rattle.text_parsing.specs.Cursors.{state_at}
use Rattle.text_names.specs.Counting.{nowhere}
use Rattle.text_admission.specs.declared.Admission.{Admission}
use Rattle.text_admission.specs.Admitted.{AnsweredRules}
use Rattle.text_admission.proofs.Facts.{basics}
use Rattle.text_admission.proofs.Stages.{place_5, place_6, by_5, by_6, limited, named}
use borrow.Author.Rules.{rules}
use Rattle.text_admission.proofs.admit_checked.Goals as goal

-- src/lib.rt:212:9
pub first_past-past-requires : goal.first_past-past-requires
first_past-past-requires c = (basics c.args.text.now (state_at c.args.c c.args.nodes.now c.args.terms.now c.args.rules.now) c.requires.0).rule_length

-- src/lib.rt:214:9
pub refused-requires : goal.refused-requires
refused-requires c = (c.requires.2, subst (λ (q : ℕ). q ≤ max_text_bytes) (sym c.first_past-past.ensures) (place_5 c.args.text.now (state_at c.args.c c.args.nodes.now c.args.terms.now c.args.rules.now) c.requires.1 (basics c.args.text.now (state_at c.args.c c.args.nodes.now c.args.terms.now c.args.rules.now) c.requires.0) (subst (λ (q : ℕ). q < nowhere) c.first_past-past.ensures c.if-past-lt18446744073709551615.true)))

-- src/lib.rt:214:9
pub returns-then-past-lt18446744073709551615 : goal.returns-then-past-lt18446744073709551615
returns-then-past-lt18446744073709551615 c = subst (AnsweredRules c.args.text.now c.args.base c.args.table.now c.args.table.now) (sym (c.refused.ensures ∙ ap (λ (q : ℕ). Admission.Refused 5 (c.args.base + q)) c.first_past-past.ensures)) (by_5 c.args.text.now (state_at c.args.c c.args.nodes.now c.args.terms.now c.args.rules.now) c.requires.1 (basics c.args.text.now (state_at c.args.c c.args.nodes.now c.args.terms.now c.args.rules.now) c.requires.0) c.args.base c.requires.0 (subst (λ (q : ℕ). q < nowhere) c.first_past-past.ensures c.if-past-lt18446744073709551615.true), refl)

-- src/lib.rt:216:9
pub first_fault-wrong-requires : goal.first_fault-wrong-requires
first_fault-wrong-requires c = let b = (basics c.args.text.now (state_at c.args.c c.args.nodes.now c.args.terms.now c.args.rules.now) c.requires.0) in (b.node_length, b.term_length, b.rule_length)

-- src/lib.rt:218:9
pub refused-requires-then-wrong-lt18446744073709551615 : goal.refused-requires-then-wrong-lt18446744073709551615
refused-requires-then-wrong-lt18446744073709551615 c = (c.requires.2, subst (λ (q : ℕ). q ≤ max_text_bytes) (sym c.first_fault-wrong.ensures) (place_6 c.args.text.now (state_at c.args.c c.args.nodes.now c.args.terms.now c.args.rules.now) c.requires.1 (basics c.args.text.now (state_at c.args.c c.args.nodes.now c.args.terms.now c.args.rules.now) c.requires.0) (subst (λ (q : ℕ). q < nowhere) c.first_fault-wrong.ensures c.if-wrong-lt18446744073709551615.true)))

-- src/lib.rt:218:9
pub returns-then-wrong-lt18446744073709551615 : goal.returns-then-wrong-lt18446744073709551615
returns-then-wrong-lt18446744073709551615 c = subst (AnsweredRules c.args.text.now c.args.base c.args.table.now c.args.table.now) (sym (c.refused-then-wrong-lt18446744073709551615.ensures ∙ ap (λ (q : ℕ). Admission.Refused 6 (c.args.base + q)) c.first_fault-wrong.ensures)) (by_6 c.args.text.now (state_at c.args.c c.args.nodes.now c.args.terms.now c.args.rules.now) c.requires.1 (basics c.args.text.now (state_at c.args.c c.args.nodes.now c.args.terms.now c.args.rules.now) c.requires.0) c.args.base (limited c.args.text.now (state_at c.args.c c.args.nodes.now c.args.terms.now c.args.rules.now) c.requires.1 c.requires.0 c.first_past-past.result c.first_past-past.ensures c.if-past-lt18446744073709551615.false (omega arith)) (subst (λ (q : ℕ). q < nowhere) c.first_fault-wrong.ensures c.if-wrong-lt18446744073709551615.true), refl)

-- src/lib.rt:220:5
pub admit_read-requires : goal.admit_read-requires
admit_read-requires c = (named c.args.text.now (state_at c.args.c c.args.nodes.now c.args.terms.now c.args.rules.now) c.requires.1 (limited c.args.text.now (state_at c.args.c c.args.nodes.now c.args.terms.now c.args.rules.now) c.requires.1 c.requires.0 c.first_past-past.result c.first_past-past.ensures c.if-past-lt18446744073709551615.false (omega arith)) c.first_fault-wrong.result c.first_fault-wrong.ensures c.if-wrong-lt18446744073709551615.false (omega arith), c.requires.1, c.requires.2, c.requires.3)
