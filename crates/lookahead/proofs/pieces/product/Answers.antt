use Rattle.lookahead.proofs.SpreadLaws.{product_whole, product_none, product_small, product_spread}
use borrow.Author.Rules.{rules}
use Rattle.lookahead.proofs.pieces.product.Goals as goal

pub returns-then-a-gt0 : goal.returns-then-a-gt0
returns-then-a-gt0 c =
    let a = c.args in
    product_whole a.a a.b a.j c.if-j-gt5.true c.requires.0 c.requires.1 c.if-a-gt0.true

pub returns-then-j-gt5 : goal.returns-then-j-gt5
returns-then-j-gt5 c =
    let a = c.args in
    product_none a.a a.b a.j (search rules)

pub overflow_mul-result : goal.overflow_mul-result
overflow_mul-result c =
    let a = c.args in
    record { fits = product_small a.a a.b a.j c.spread.result c.if-j-gt5.false c.requires.2 (search rules) c.spread.ensures }

pub returns : goal.returns
returns c =
    let a = c.args in
    product_spread a.a a.b a.j c.spread.result c.if-j-gt5.false c.requires.2 (search rules) c.spread.ensures
