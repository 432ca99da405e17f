use Rattle.std.proofs.Common.{ℕ, ◌-◌, Bool, not, ◌||◌, refl, ◌∙◌, ap₂, rules, tests, arith}
use Rattle.std.proofs.lemmas.Iterator.{YieldsList-from_range}
use Rattle.std.proofs.lemmas.Iterator.Search.{all_from_yields_List}
use Rattle.timing.specs.Model.{within}
use Rattle.analysis.specs.Marks.{marked}
use Rattle.analysis.specs.Rivals.{next}
use Rattle.analysis.proofs.Ways.{none_first, holds_when_free, every_range}
use Rattle.analysis.proofs.bounding.Rivals.delays_within.Goals as goal

pub returns : goal.returns
unfolding within
returns c = λ b rival.
    let n = c.args.number in
    let i = next c.args.self.now in
    let row = c.args.row.now in
    let marks = c.args.self.now.marks.now in
    let test : ℕ → Bool = λ g. not (marked row.above g) || marked marks g in
    all_from_yields_List test _ _ _ c.all.ensures.ran (YieldsList-from_range 1 n (n - 1) (cc) refl) (λ x b q k. search (rules, tests))
    ∙ every_range (λ g. not (b.H g n) || b.H g i) test n (holds_when_free (b.H 0 n) (b.H 0 i) (none_first b rival.met.told.ordered n))
    (λ g low less. ap₂ (λ (s t : Bool). not s || t) (rival.stands.marks g low less) (rival.met.marks g low (omega arith)))
