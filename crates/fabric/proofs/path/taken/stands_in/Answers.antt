use Rattle.std.proofs.Common.{sym, ◌∙◌, ◌||◌, ◌==◌, rules, tests}
use Rattle.std.proofs.lemmas.Iterator.{YieldsList-from_slice}
use Rattle.std.proofs.lemmas.Iterator.Consumers.{fold_from_yields_List}
use Rattle.fabric.proofs.Sharing.{has_fold}
use Rattle.fabric.proofs.path.taken.stands_in.Goals as goal

pub returns : goal.returns
returns c =
    let link = c.args.link in
    fold_from_yields_List _ (λ f x. f || (x == link)) _ _ c.fold.ensures.ran (YieldsList-from_slice c.args.links.now cc) (λ a x b q k. search (rules, tests))
    ∙ sym (has_fold link _)
