use Rattle.std.proofs.Common.{rules}
use Rattle.kind.proofs.Raising.{product_fits, raised_is}
use Rattle.kind.proofs.price.raised.Goals as goal

pub overflow_mul-cents : goal.overflow_mul-cents
overflow_mul-cents c = search (rules, product_fits, c.held.ensures)

pub returns : goal.returns
returns c = search (rules, raised_is, c.held.ensures, c.min.ensures.value)
