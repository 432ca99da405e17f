-- A whole list of calls. Assumes nothing.
--   StepsTo: one call with its answer leads from one run and ledger to the next, as the call is defined
--   Ran: calls with their answers, the newest first, lead there in turn
--   WholePromise: what is promised after them
--   Played: a table was loaded, the calls were made in their order, and the promise holds at the end
use Rattle.std.specs.Prelude.{◌≡◌, ℕ, List, [], ◌∷◌, map, reverse}
use Rattle.analysis.specs.Answers.{Exactly}
use Rattle.analysis.specs.Loading.{timing_of}
use Rattle.calls.specs.declared.event.Call.{Call}
use Rattle.calls.specs.declared.event.Event.{Event}
use Rattle.calls.specs.declared.event.Event.TheVariants.{Released, Arbitrated, Injected, Abandoned, Reported, Told}
use Rattle.calls.specs.declared.record.Record.{Record}
use Rattle.calls.specs.Events.{call_of}
use Rattle.fabric.specs.Routes.{Route}
use Rattle.timing.specs.Model.{Table}
use Rattle.history.specs.State.{State}
use Rattle.history.specs.Steps.{Releases, Arbitrates, Injects, Abandons, Reports, Tells}
use Rattle.history.specs.Counted.{History}
use Rattle.history.specs.Promise.{RunPromise, LedgerPromise}
use Rattle.history.specs.Begun.{Begun}

abbrev pub StepsTo : ℕ → Event → State → List Record → State → List Record → Type 0
StepsTo most (Released i t r) s k s' k' = Releases s k i t r s' k'
StepsTo most (Arbitrated r) s k s' k' = Arbitrates most s r s' × (k' ≡ k)
StepsTo most (Injected p r) s k s' k' = Injects s k p r s' k'
StepsTo most (Abandoned p r) s k s' k' = Abandons s p r s' × (k' ≡ k)
StepsTo most (Reported r) s k s' k' = Reports s k r s' k'
StepsTo most (Told i r) s k s' k' = Tells s i r s' × (k' ≡ k)

abbrev pub Ran : ℕ → History → State → List Record → State → List Record → Type 0
Ran most [] s k s' k' = (s' ≡ s) × (k' ≡ k)
Ran most (e ∷ h) s k s' k' = (m : State) × (l : List Record) × Ran most h s k m l × StepsTo most e m l s' k'

pub record WholePromise (b : Table) (h : History) (s : State) (k : List Record) : Type 0 where
  pub run : RunPromise b h s
  pub ledger : LedgerPromise b h k

-- events are told in their order, the oldest first
pub record Played (most : ℕ) (bs : List ℕ) (route : ℕ → ℕ → ℕ → Route) (number : ℕ) (calls : List Call) (events : List Event) (k : List Record) (s' : State) (k' : List Record) : Type 0 where
  -- each call was made, in the order of the list,
  pub all : map call_of events ≡ calls
  -- from a run that the table was just loaded into; each answer, and what each call left, is as the call is defined
  pub start : State
  pub begun : Begun bs route number start
  pub ran : Ran most (reverse events) start k s' k'
  -- the table's bounds are the least solutions of their equations,
  pub exact : Exactly (timing_of bs route)
  -- and after all of them the whole promise holds
  pub promise : WholePromise (timing_of bs route) (reverse events) s' k'
