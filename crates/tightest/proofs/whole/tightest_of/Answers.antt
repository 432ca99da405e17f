use Rattle.std.proofs.Common.{sym, subst}
use Rattle.tightest.specs.Order.{Tells}
use Rattle.tightest.proofs.Keeping.{Orders, tells}
use Rattle.tightest.proofs.whole.tightest_of.Goals as goal

pub returns-clause-tightest : goal.returns-clause-tightest
returns-clause-tightest g c =
    let before = g.T.Ranked.before in
    let met = g.met.T.Ranked in
    let laws : Orders before = record { never = met.never; follows = met.follows; splits = met.splits } in
    let xs = c.args.items.now in
    subst (Tells before xs) (sym c.handed_in.ensures) (tells before laws xs)
