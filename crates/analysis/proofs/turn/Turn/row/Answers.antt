use Rattle.std.proofs.Common.{◌≡◌, ℕ, ◌+◌, ◌-◌, ◌*◌, length, ap, ◌∙◌, ap₂, arith}
use Rattle.timing.specs.Model.{Table, alone}
use Rattle.analysis.specs.declared.row.Row.{Row}
use Rattle.analysis.proofs.Marking.{marks_from}
use Rattle.analysis.proofs.turn.Turn.row.Goals as goal

-- a packet's time with nobody else about, as it is worked out
alone_from :
    (b : Table) (i parts one_less length tail : ℕ) → one_less ≡ parts - 1 → parts ≡ b.w i → length ≡ b.S → tail ≡ b.c i → one_less * length + tail ≡ alone b i
unfolding alone
alone_from b i parts one_less length tail less is at last =
    omega (arith, ap₂ (λ (m n : ℕ). m * n) (less ∙ ap (λ (n : ℕ). n - 1) is) at, last)

pub returns-clause-stands : goal.returns-clause-stands
returns-clause-stands c = λ b told meets inside parts tail separation deadline.
    let rows = c.args.self.now.rows.now in
    let i = length rows + 1 in
    let above = c.sharing-above.result in
    let climb = c.in_ok-climb.climb in
    let row : Row =
    record {
      «record» = c.args.flow;
      path = c.args.path;
      parts = c.args.split.parts;
      tail = c.args.split.tail;
      alone = c.saturating_sub.result * c.from-length.result + c.args.split.tail;
      above = above;
      bound = climb.least;
      rounds = climb.rounds;
    } in
    let marks = marks_from b rows c.args.path above row c.args.self.now.few c.sharing-above.ensures meets in
    let own =
    alone_from b i c.from-parts.result c.saturating_sub.result c.from-length.result c.args.split.tail c.saturating_sub.ensures (c.from-parts.ensures ∙ parts)
    (c.from-length.ensures ∙ told.times.length_is) tail in
    let figures = c.in_ok-climb.ensures b (record { told = told; marks = marks }) inside own deadline in
    record { parts = parts; tail = tail; alone_is = own; separation = separation; deadline = deadline; marks = marks; bound = figures.0; rounds = figures.1 }
