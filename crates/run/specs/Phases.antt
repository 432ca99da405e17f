-- The phase of a run, as a state tells it. Assumes nothing.
use Rattle.std.specs.Prelude.{Bool, true, false}
use Rattle.run.specs.declared.phase.Phase.{Phase}
use Rattle.run.specs.declared.phase.Phase.TheVariants.{Open, Owed, Ended}

-- an injection is owed
abbrev pub is_owed : Phase → Bool
is_owed Open = false
is_owed Owed = true
is_owed Ended = false

-- the run has ended
abbrev pub is_ended : Phase → Bool
is_ended Open = false
is_ended Owed = false
is_ended Ended = true
