use Rattle.std.proofs.Common.{◌≡◌, ℕ, ◌≤◌, false, List, map, vec_items, sym, ap, ◌∙◌, subst, arith, rules}
use Rattle.analysis.specs.declared.row.Row.{Row}
use Rattle.analysis.specs.Loading.{load_checks}
use Rattle.parts.specs.declared.slot.Slot.{Slot}
use Rattle.rows.specs.Blank.{idle}
use Rattle.rows.specs.Filling.{Fills}
use Rattle.rows.specs.Small.{Small}
use Rattle.table.specs.Checks.{first_fault}
use Rattle.run.proofs.Loads.{none_first}
use Rattle.run.proofs.SmallTables.{short_slot, small_rows}
use Rattle.run.specs.Seen.{state_of}
use Rattle.run.proofs.run.Run.load_step.Goals as goal

-- what was loaded passed all checks, and so its flows are small,
pub unreachable-requires : goal.unreachable-requires
unreachable-requires g c =
    let bs = c.args.file.now in
    let N = g.F.Fabric.nodes c.args.fabric.now in
    let R = g.F.Fabric.route c.args.fabric.now in
    let fine = ap (λ (n : ℕ). first_fault (load_checks bs N R n)) (sym c.limit.ensures) ∙ c.in_ok-loaded.ensures.answer.0 in
    let rows = vec_items c.in_ok-loaded.loaded.rows in
    let few : N ≤ 256 = (g.met.F.Fabric.sizes c.args.fabric.now).1 in
    let small = small_rows bs N g.M.Medium.most R fine rows few c.in_ok-loaded.ensures.answer.1.rows_fit in
    subst (Fills c.as_slice.result.now) c.in_default.is c.in_ok-rows.ensures.rows
    (subst (λ (l : List Row). Small (map idle l)) (sym c.as_slice.ensures.value) small)

-- and its slots are short
pub unreachable-requires-in_default-start : goal.unreachable-requires-in_default-start
unreachable-requires-in_default-start g c =
    let bs = c.args.file.now in
    let N = g.F.Fabric.nodes c.args.fabric.now in
    let R = g.F.Fabric.route c.args.fabric.now in
    let fine = ap (λ (n : ℕ). first_fault (load_checks bs N R n)) (sym c.limit.ensures) ∙ c.in_ok-loaded.ensures.answer.0 in
    let length = ap (λ (s : Slot). s.length) c.in_ok-loaded.ensures.answer.1.slot_is in
    omega (arith, short_slot bs N g.M.Medium.most R fine, length, c.start.ensures.none c.in_default-start.is)

pub returns-in_err-rows-clause-memory : goal.returns-in_err-rows-clause-memory
returns-in_err-rows-clause-memory g c = λ _.
    let bs = c.args.file.now in
    let N = g.F.Fabric.nodes c.args.fabric.now in
    let R = g.F.Fabric.route c.args.fabric.now in
    let fine = ap (λ (n : ℕ). first_fault (load_checks bs N R n)) (sym c.limit.ensures) ∙ c.in_ok-loaded.ensures.answer.0 in
    let s = state_of g.M.Medium.levels c.args.self.now in
    let idle : s.owed ≡ false = search rules in
    none_first s bs N g.M.Medium.most R idle fine
