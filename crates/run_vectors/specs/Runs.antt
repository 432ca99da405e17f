-- What the definitions say of a worked run, over the mesh of four columns and one row and a medium with 128 intervals. Assumes nothing.
--   fault_of: the first fault of a file
--   calls_in: the calls of the steps, from slot n on; refusals_in: the refusal of each of them
--   refusal_of: an event's refusal, if it is refused
--   Runs: the file is loaded, and the calls are answered so and leave this ledger
use Rattle.std.specs.Prelude.{◌≡◌, ℕ, zero, suc, ◌+◌, ◌*◌, List, [], ◌∷◌, ◌++◌, map, reverse, replicate, Some, None, Ok, Err, Option, Result}
use Rattle.analysis.specs.Loading.{load_checks}
use Rattle.calls.specs.declared.event.Call.{Call}
use Rattle.calls.specs.declared.event.Call.TheVariants.{Release as release, Arbitrate, Inject}
use Rattle.calls.specs.declared.event.Event.{Event}
use Rattle.calls.specs.declared.event.Event.TheVariants.{Released, Arbitrated, Injected, Abandoned, Reported, Told}
use Rattle.calls.specs.declared.record.Record.{Record}
use Rattle.calls.specs.declared.refusal.Refusal.{Refusal}
use Rattle.calls.specs.Events.{no_record, call_of}
use Rattle.fabric.specs.Routes.{Route}
use Rattle.history.specs.Begun.{Begun}
use Rattle.history.specs.Played.{Ran, Played}
use Rattle.history.specs.State.{State}
use Rattle.mesh.specs.Paths.{mesh_route}
use Rattle.table.specs.declared.fault.LoadFault.{LoadFault}
use Rattle.table.specs.Checks.{first_fault}
use Rattle.run_vectors.specs.declared.case.Step.{Step}
use Rattle.run_vectors.specs.declared.case.Step.TheVariants.{Release, Slots}

-- the routes of the mesh, which do not ask for the flow
abbrev pub routes : ℕ → ℕ → ℕ → Route
routes i s d = mesh_route 4 1 s d

abbrev pub fault_of : List ℕ → Option LoadFault
fault_of bs = first_fault (load_checks bs 4 routes 128)

-- m slots from slot n on: each is arbitrated, and injected with its slip, which names run 1
unfoldable pub slots_from : ℕ → ℕ → List Call
slots_from n zero = []
slots_from n (suc m) = slots_from n m ++ (Arbitrate ∷ Inject (record { number = 1; slot = n + m }) ∷ [])

abbrev pub calls_in : ℕ → List Step → List Call
calls_in n [] = []
calls_in n (Release flow cycle refusal ∷ steps) = release flow cycle ∷ calls_in n steps
calls_in n (Slots m ∷ steps) = slots_from n m ++ calls_in (n + m) steps

-- both calls of a slot are accepted
abbrev pub refusals_in : List Step → List (Option Refusal)
refusals_in [] = []
refusals_in (Release flow cycle refusal ∷ steps) = refusal ∷ refusals_in steps
refusals_in (Slots m ∷ steps) = replicate (2 * m) None ++ refusals_in steps

abbrev pub refusal_in : {X : Type 0} → Result X Refusal → Option Refusal
refusal_in (Ok x) = None
refusal_in (Err e) = Some e

abbrev pub refusal_of : Event → Option Refusal
refusal_of (Released flow cycle answer) = refusal_in answer
refusal_of (Arbitrated answer) = refusal_in answer
refusal_of (Injected slip answer) = refusal_in answer
refusal_of (Abandoned slip answer) = refusal_in answer
refusal_of (Reported answer) = refusal_in answer
refusal_of (Told flow answer) = refusal_in answer

-- a ledger with room for three packets
abbrev pub blank : List Record
blank = no_record ∷ no_record ∷ no_record ∷ []

pub record Runs (bs : List ℕ) (steps : List Step) (ledger : List Record) : Type 0 where
  pub loads : fault_of bs ≡ None
  -- the calls lead from a run that the file was just loaded into to this ledger,
  pub start : State
  pub begun : Begun bs routes 1 start
  pub events : List Event
  pub calls : map call_of events ≡ calls_in 0 steps
  pub after : State
  pub ran : Ran 128 (reverse events) start blank after ledger
  -- and whoever loads the file and makes them is answered so, and has this ledger then
  pub answers : (es : List Event) (s : State) (k : List Record) → Played 128 bs routes 1 (calls_in 0 steps) es blank s k → map refusal_of es ≡ refusals_in steps
  pub leaves : (es : List Event) (s : State) (k : List Record) → Played 128 bs routes 1 (calls_in 0 steps) es blank s k → k ≡ ledger
