use Rattle.std.proofs.Common.{sym, ◌∙◌, rules, tests}
use Rattle.std.proofs.lemmas.Iterator.{YieldsList-from_slice}
use Rattle.std.proofs.lemmas.Iterator.Search.{any_from_yields_List}
use Rattle.fabric.specs.Paths.{has, links_in}
use Rattle.fabric.proofs.Sharing.{shares_any}
use Rattle.fabric.proofs.path.Path.shares.Goals as goal

pub returns : goal.returns
returns c =
    let q = links_in c.args.other.now in
    any_from_yields_List (λ x. has x q) _ _ _ c.any.ensures.ran (YieldsList-from_slice (links_in c.args.self.now) cc) (λ x b r k. search (rules, tests))
    ∙ sym (shares_any _ q)
