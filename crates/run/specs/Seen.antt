-- A run, as its calls are defined over it. Assumes nothing.
use Rattle.std.specs.Prelude.{List}
use Rattle.medium.specs.declared.level.Level.{Level}
use Rattle.run.specs.declared.run.Run.{Run}
use Rattle.history.specs.State.{State}
use Rattle.run.specs.Phases.{is_owed, is_ended}

-- the medium is seen by its levels
abbrev pub state_of : {M : Type 0} → (M → List Level) → Run M → State
state_of levels r =
    record {
      number = r.number;
      slot = r.clock.slot;
      times = r.clock.times;
      count = r.count;
      owed = is_owed r.phase;
      ended = is_ended r.phase;
      rows = r.rows;
      levels = levels r.medium;
    }
