use Rattle.std.proofs.Common.{refl}
use Rattle.fabric.specs.Paths.{has, shares}
use Rattle.table.specs.File.{header_of, flow_at}
use Rattle.parts.specs.Split.{capacity, parts_of, last_flits, tail_of}
use Rattle.rows.specs.Grants.{blocked, decided}
use Rattle.rows.specs.Serving.{ledger_after, grant_count}
use Rattle.timing.specs.Counts.{sum_to, every_to, ceil_div}
use Rattle.timing.specs.Model.{within, figure, alone, jitter, delay, demand}
use Rattle.timing.specs.Staircase.{climb, rounds}
use Rattle.timing.specs.Figures.{base, settled, searched, figure_of, bounds_to, bound_of, rounds_of}
use Rattle.analysis.specs.Loading.{each_flow, load_checks, timing_of}
use Rattle.analysis.specs.Tables.{table_of}
use Rattle.run_vectors.specs.Runs.{slots_from}
use Rattle.run_vectors.proofs.Leads.{leads}
use Rattle.run_vectors.proofs.Computes.{computed-runs}
use Rattle.run_vectors.proofs.cases.cases.Goals as goal

-- the definitions compute each case
pub returns : goal.returns
unfolding has shares header_of flow_at capacity parts_of last_flits tail_of sum_to every_to ceil_div within figure alone jitter delay demand climb rounds base settled searched figure_of bounds_to bound_of rounds_of each_flow load_checks timing_of table_of slots_from leads blocked decided ledger_after grant_count
returns c = (computed-runs refl refl refl (λ x. refl), (computed-runs refl refl refl (λ x. refl), (computed-runs refl refl refl (λ x. refl), (computed-runs refl refl refl (λ x. refl), tt))))
