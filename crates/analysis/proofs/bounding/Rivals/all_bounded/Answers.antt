use Rattle.std.proofs.Common.{ℕ, ◌+◌, Bool, not, ◌||◌, is_some, Option, ap, ◌∙◌, ap₂, rules, tests, arith}
use Rattle.std.proofs.lemmas.Iterator.{YieldsList-from_slice}
use Rattle.std.proofs.lemmas.Iterator.Consumers.{YieldsList-from_enumerate}
use Rattle.std.proofs.lemmas.Iterator.Search.{all_from_yields_List}
use Rattle.timing.specs.Figures.{settled, bound_of}
use Rattle.analysis.specs.declared.row.Row.{Row}
use Rattle.analysis.specs.Marks.{marked}
use Rattle.analysis.specs.Rivals.{next}
use Rattle.analysis.proofs.Ways.{none_first, holds_when_free, every_row}
use Rattle.analysis.proofs.bounding.Rivals.all_bounded.Goals as goal

pub returns : goal.returns
unfolding settled
returns c = λ b met.
    let i = next c.args.self.now in
    let rows = c.args.self.now.turn.rows.now in
    let marks = c.args.self.now.marks.now in
    let test : ℕ × Row → Bool = λ p. not (marked marks (p.0 + 1)) || is_some p.1.bound in
    all_from_yields_List test _ _ _ c.all.ensures.ran (YieldsList-from_enumerate (YieldsList-from_slice rows cc) cc) (λ x b q k. search (rules, tests))
    ∙ every_row (λ h. not (b.H h i) || is_some (bound_of b h)) test rows (holds_when_free (b.H 0 i) (is_some (bound_of b 0)) (none_first b met.told.ordered i))
    (λ k d less.
    ap₂ (λ (s t : Bool). not s || t) (met.marks (k + 1) (omega arith) (omega arith)) (ap (λ (o : Option ℕ). is_some o) (met.told.standing k d less).bound))
