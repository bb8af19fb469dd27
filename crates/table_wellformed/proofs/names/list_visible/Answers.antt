use Prim.Native.Nat.{ℕ}
use mathlib.Core.Path.{sym, ap, ◌∙◌}
use Rattle.table_wellformed.proofs.Every.{every_turn, every_stop, every_end}
use mathlib.Core.List.{List}
use Rattle.term_words.specs.Words.{term_at}
use Rattle.table_layout.specs.Held.{term_words}
use Rattle.table_wellformed.specs.Rules.{term_named}
use Rattle.table_wellformed.proofs.names.list_visible.Goals as goal

pub loop-t-preserved : goal.loop-t-preserved
loop-t-preserved c = sym (every_turn _ _ (λ u. term_named c.args.table.now c.args.first c.args.last c.args.i (term_at (term_words c.args.table.now) u)) c.loop-t-test.true (sym (c.term_visible.ensures ∙ ap (term_named c.args.table.now c.args.first c.args.last c.args.i) (c.term_at.ensures ∙ ap (λ (ws : List ℕ). term_at ws c.loop-t.t) c.term_words-words.ensures)) ∙ c.if-not-term_visible.false)) ∙ c.loop-t.invariant

pub returns-then-not-term_visible : goal.returns-then-not-term_visible
returns-then-not-term_visible c = sym (every_stop _ _ (λ u. term_named c.args.table.now c.args.first c.args.last c.args.i (term_at (term_words c.args.table.now) u)) c.loop-t-test.true (sym (c.term_visible.ensures ∙ ap (term_named c.args.table.now c.args.first c.args.last c.args.i) (c.term_at.ensures ∙ ap (λ (ws : List ℕ). term_at ws c.loop-t.t) c.term_words-words.ensures)) ∙ c.if-not-term_visible.true)) ∙ c.loop-t.invariant

pub returns : goal.returns
returns c = sym (every_end _ _ (λ u. term_named c.args.table.now c.args.first c.args.last c.args.i (term_at (term_words c.args.table.now) u)) c.loop-t-test.false) ∙ c.loop-t.invariant
