use Rattle.std.proofs.Common.{sym, subst}
use Rattle.tightest.specs.Order.{comes_before, Tells}
use Rattle.tightest.proofs.Keeping.{orders, tells}
use Rattle.tightest.proofs.whole.tightest_in_order.Goals as goal

pub returns-clause-tightest : goal.returns-clause-tightest
returns-clause-tightest g c =
    let before = comes_before g.T.Ord.cmp in
    let xs = c.args.items.now in
    subst (Tells before xs) (sym c.handed_in_order.ensures) (tells before (orders g.met.T.Ord.total) xs)
