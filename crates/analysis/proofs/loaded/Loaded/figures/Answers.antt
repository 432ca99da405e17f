use Rattle.std.proofs.Common.{◌≡◌, ◌-◌, ◌<◌, ◌≤◌, length, get_or, Some, vec_items, sym, ap, ◌∙◌, inl, inr, arith}
use Rattle.std.proofs.lemmas.Bool.{cases_lt}
use Rattle.std.proofs.lemmas.Grind.{common_steps}
use Rattle.analysis.specs.Answers.{figures_at}
use Rattle.analysis.proofs.Listing.{figures_there, figures_past, figures_none}
use Rattle.analysis.proofs.loaded.Loaded.figures.Goals as goal

pub returns-then-not-contains : goal.returns-then-not-contains
returns-then-not-contains c =
    let rows = vec_items c.args.self.now.rows in
    elim (cases_lt c.args.flow 1) [
      | inl low ↦
          let first : c.args.flow ≡ 0 = omega (arith, low) in
          sym (ap (figures_at rows) first ∙ figures_none rows)
      | inr high ↦
          let past : length rows < c.args.flow = grind (arith, common_steps) in
          sym (figures_past rows c.args.flow past)
    ]

pub returns : goal.returns
returns c =
    let rows = vec_items c.args.self.now.rows in
    let row = c.index.result.now in
    let low : 1 ≤ c.args.flow = grind (arith, common_steps) in
    let high : c.args.flow ≤ length rows = grind (arith, common_steps) in
    let is : row ≡ get_or rows (c.args.flow - 1) row = grind (arith, common_steps) in
    ap Some c.figures.ensures ∙ figures_there rows c.args.flow row low high is
