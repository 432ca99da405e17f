use Rattle.std.proofs.Common.{rules, refl, ◌∙◌}
use Rattle.std.proofs.lemmas.Iterator.{YieldsList-from_range}
use Rattle.std.proofs.lemmas.Iterator.Search.{any_from_yields_List}
use Rattle.medium.specs.Pulls.{pulled_by}
use Rattle.medium.proofs.NodePulls.{under_any}
use Rattle.medium.proofs.words.Words.any.Goals as goal

pub returns : goal.returns
returns c =
    let ws = c.args.self.now.bits in
    let k = c.args.k in
    any_from_yields_List (λ a. pulled_by ws a k) _ _ _ c.any.ensures.ran (YieldsList-from_range 0 256 256 refl refl) (λ x b q h. search rules) ∙ under_any ws k 256
