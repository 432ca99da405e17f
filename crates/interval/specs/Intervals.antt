-- One interval of an arbitration over any medium: it is opened, nodes pull it or keep still, and its level is read.
--   may_pull_if n node pulls   the answer to a node that pulls where it is told to, with n intervals open
--   pulled_if ls node pulls   the levels after it
--   pressed ls b             the levels after somebody pulled the last interval (b), or nobody did
--   quiet_at l                what was read is the level of an interval that nobody pulled
--   some_pull ps              one of the pullers pulls, and is a node that there is
--   heard most ls ps         the answer of a whole interval: the level that is read, or the refusal of the open
--   held most ls ps          the levels after it
use Rattle.std.specs.Prelude.{ℕ, ◌-◌, Bool, true, false, cond, ◌&&◌, ◌||◌, List, [], ◌∷◌, ◌++◌, length, Some, None, Ok, Err, Option, Result, nat_lt, slice_set}
use Rattle.medium.specs.declared.level.Level.{Level}
use Rattle.medium.specs.declared.level.Level.TheVariants.{Recessive, Dominant}
use Rattle.medium.specs.declared.fault.MediumFault.{MediumFault}
use Rattle.medium.specs.declared.fault.MediumFault.TheVariants.{Full}
use Rattle.interval.specs.declared.whole.Puller.{Puller}
use Rattle.medium.specs.Levels.{level_of, may_pull, pulled}

abbrev pub may_pull_if : ℕ → ℕ → Bool → Result (Unit {0}) MediumFault
may_pull_if n node pulls = cond pulls (may_pull n node) (Ok tt)

abbrev pub pulled_if : List Level → ℕ → Bool → List Level
pulled_if ls node pulls = cond pulls (pulled ls node) ls

abbrev pub pressed : List Level → Bool → List Level
pressed ls b = cond b (slice_set ls (length ls - 1) Dominant) ls

abbrev pub quiet_at : Option Level → Bool
quiet_at None = false
quiet_at (Some Dominant) = false
quiet_at (Some Recessive) = true

abbrev pub some_pull : List Puller → Bool
some_pull [] = false
some_pull (p ∷ ps) = (p.pulls && nat_lt p.node 256) || some_pull ps

abbrev pub heard : ℕ → List Level → List Puller → Result Level MediumFault
heard most ls ps = cond (nat_lt (length ls) most) (Ok (level_of (some_pull ps))) (Err Full)

abbrev pub held : ℕ → List Level → List Puller → List Level
held most ls ps = cond (nat_lt (length ls) most) (ls ++ (level_of (some_pull ps) ∷ [])) ls
