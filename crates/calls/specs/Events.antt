-- Calls with their answers. Assumes nothing.
--   no_record: what a read past the end of a ledger gives
--   call_of: the call of an event, without its answer
--   first_refusal: the first check of a list that applies
use Rattle.std.specs.Prelude.{Bool, false, cond, List, [], ◌∷◌, Some, None, Option}
use Rattle.calls.specs.declared.record.Record.{Record}
use Rattle.calls.specs.declared.refusal.Refusal.{Refusal}
use Rattle.calls.specs.declared.event.Call.{Call}
use Rattle.calls.specs.declared.event.Call.TheVariants.{Release, Arbitrate, Inject, Abandon, Report, Verdict}
use Rattle.calls.specs.declared.event.Event.{Event}
use Rattle.calls.specs.declared.event.Event.TheVariants.{Released, Arbitrated, Injected, Abandoned, Reported, Told}

abbrev pub no_record : Record
no_record = record { flow = 0; release = 0; first = 0; grants = 0; denials = 0; arrival = 0; pending = false }

abbrev pub call_of : Event → Call
call_of (Released flow cycle answer) = Release flow cycle
call_of (Arbitrated answer) = Arbitrate
call_of (Injected slip answer) = Inject slip
call_of (Abandoned slip answer) = Abandon slip
call_of (Reported answer) = Report
call_of (Told flow answer) = Verdict flow

-- checks in their order, each with the refusal that is answered where it is the first that applies
abbrev pub first_refusal : List (Bool × Refusal) → Option Refusal
first_refusal [] = None
first_refusal (check ∷ rest) = cond check.0 (Some check.1) (first_refusal rest)
