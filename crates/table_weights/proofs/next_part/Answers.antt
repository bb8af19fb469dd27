use Prim.Native.Nat.{ℕ, ◌+◌}
use mathlib.Core.Path.{◌≡◌, sym, ap, ◌∙◌}
use native.Mathlib.Omega.{arith}
use mathlib.Core.List.{◌∷◌}
use Rattle.table_layout.specs.Held.{size_of, parts}
use Rattle.table_weights.specs.Ruled.{size_at}
use Rattle.table_weights.proofs.Parts.{next_missing, next_last, next_more}
use borrow.Author.Rules.{rules}
use Rattle.table_weights.proofs.next_part.Goals as goal

pub returns-then-size-eq0 : goal.returns-then-size-eq0
returns-then-size-eq0 c = let e : c.size_of-size.result ≡ size_at c.args.table.now c.args.j = c.size_of-size.ensures ∙ ap size_of c.construct_at.ensures in let a = c in (search rules, search rules, λ n. next_missing a.args.table.now a.args.end n a.args.j a.requires (sym e ∙ c.if-size-eq0.true))

pub returns-then-end-j : goal.returns-then-end-j
returns-then-end-j c = let e : c.size_of-size.result ≡ size_at c.args.table.now c.args.j = c.size_of-size.ensures ∙ ap size_of c.construct_at.ensures in let a = c in (search rules, search rules, λ n. next_last a.args.table.now a.args.end n a.args.j a.requires (omega arith))

pub returns : goal.returns
returns c = let e : c.size_of-size.result ≡ size_at c.args.table.now c.args.j = c.size_of-size.ensures ∙ ap size_of c.construct_at.ensures in let a = c in (search rules, search rules, λ n. next_more a.args.table.now a.args.end n a.args.j a.requires (λ z. c.if-size-eq0.false (e ∙ z)) ∙ ap (λ (k : ℕ). ◌∷◌ a.args.j (parts n a.args.table.now (a.args.j + k) a.args.end)) (sym e))
