-- What a load leaves. Assumes nothing.
--   refusal_of: the first reason to refuse a load: an injection is owed, and then the first fault of the table
--   run_refusal: that of a load on a run in the state given, over a medium with the limit given
--   early_refusal: the first of those reasons that need no memory
--   BuildsRun: an answer is the first reason to refuse, or a value that keeps what is asked of it
--   Begun: a run that a table was just loaded into
--   LoadBegins: the promise begins there, with no call yet and any ledger
use Rattle.std.specs.Prelude.{◌≡◌, ℕ, Bool, true, false, List, [], map, length, Some, None, Ok, Err, Option, Result, ◌≢◌}
use Rattle.analysis.specs.declared.row.Row.{Row}
use Rattle.analysis.specs.Answers.{Exactly}
use Rattle.analysis.specs.Loading.{load_checks, open_checks, profile_of, timing_of}
use Rattle.analysis.specs.Rows.{RowsFit}
use Rattle.calls.specs.declared.load_refusal.LoadRefusal.{LoadRefusal}
use Rattle.calls.specs.declared.load_refusal.LoadRefusal.TheVariants.{Owed, Fault}
use Rattle.calls.specs.declared.record.Record.{Record}
use Rattle.fabric.specs.Routes.{Route}
use Rattle.parts.specs.Slots.{slot_for}
use Rattle.rows.specs.Blank.{idle}
use Rattle.table.specs.declared.fault.LoadFault.{LoadFault}
use Rattle.table.specs.declared.fault.LoadFault.TheVariants.{NoMemory}
use Rattle.table.specs.Checks.{first_fault}
use Rattle.table.specs.File.{header_of, flows_of}
use Rattle.history.specs.State.{State}
use Rattle.history.specs.Since.{Since, Lists}
use Rattle.history.specs.Promise.{RunPromise, LedgerPromise}

-- what is owed comes before all checks of the table
abbrev pub refusal_of : Bool → Option LoadFault → Option LoadRefusal
refusal_of true fault = Some Owed
refusal_of false None = None
refusal_of false (Some fault) = Some (Fault fault)

abbrev pub run_refusal : State → List ℕ → ℕ → (ℕ → ℕ → ℕ → Route) → ℕ → Option LoadRefusal
run_refusal s bs nodes route most = refusal_of s.owed (first_fault (load_checks bs nodes route most))

-- the first of those that need no memory
abbrev pub early_refusal : State → List ℕ → ℕ → ℕ → Option LoadRefusal
early_refusal s bs nodes most = refusal_of s.owed (first_fault (open_checks (length bs) most nodes (header_of bs)))

-- the first reason, unless there was no memory; or no reason, and a value as asked
abbrev pub BuildsRun : {X : Type 0} → Option LoadRefusal → (X → Type 0) → Result X LoadRefusal → Type 0
BuildsRun refusal P (Ok x) = (refusal ≡ None) × P x
BuildsRun refusal P (Err e) = (e ≢ Fault NoMemory) → refusal ≡ Some e

pub record Begun (bs : List ℕ) (route : ℕ → ℕ → ℕ → Route) (number : ℕ) (s : State) : Type 0 where
  pub number_is : s.number ≡ number
  pub slot : s.slot ≡ 0
  pub times : s.times ≡ slot_for (header_of bs) (profile_of (header_of bs))
  pub count : s.count ≡ 0
  pub owed : s.owed ≡ false
  pub ended : s.ended ≡ false
  pub levels : s.levels ≡ []
  -- nobody released, wanted or was granted, and the figures of each flow are those of the table
  pub flows : List Row
  pub rows : s.rows ≡ map idle flows
  pub fit : RowsFit (slot_for (header_of bs) (profile_of (header_of bs))) (profile_of (header_of bs)) (flows_of bs (header_of bs)) route (header_of bs).flows flows

-- with no call yet the promise holds, and each call after it upholds it
pub record PromiseBegins (most : ℕ) (bs : List ℕ) (route : ℕ → ℕ → ℕ → Route) (s : State) (k : List Record) : Type 0 where
  pub since : Since most (timing_of bs route) [] s
  pub lists : Lists (timing_of bs route) [] k
  pub run : RunPromise (timing_of bs route) [] s
  pub ledger : LedgerPromise (timing_of bs route) [] k

abbrev pub LoadBegins : Type 0
LoadBegins =
    (most number nodes : ℕ) (bs : List ℕ) (route : ℕ → ℕ → ℕ → Route) (s : State) (k : List Record) → first_fault (load_checks bs nodes route most) ≡ None →
    Exactly (timing_of bs route) → Begun bs route number s → PromiseBegins most bs route s k
