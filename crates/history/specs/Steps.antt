-- Each call of a run: its checks in their order, its answer, and the run and the ledger after it. Assumes nothing.
--   …Checks: the checks in their order, each with its refusal; the first that applies is answered
--   released, arbitrated, injected, abandoned: the run after the call is accepted
--   Releases, Arbitrates, Injects, Abandons, Reports, Tells: the answer r, and all that the call leaves
-- A refused call leaves run, medium and ledger as they were.
use Rattle.std.specs.Prelude.{◌≡◌, ℕ, ◌+◌, ◌-◌, Bool, true, false, cond, not, List, [], ◌∷◌, map, length, is_ok, Some, None, Ok, Err, Option, Result, ◌==◌, nat_lt, slice_set}
use Rattle.calls.specs.declared.record.Record.{Record}
use Rattle.calls.specs.declared.refusal.Refusal.{Refusal}
use Rattle.calls.specs.declared.refusal.Refusal.TheVariants.{NoFlow, Ended, Owed, Late, Ahead, Soon, Busy, ShortLedger, FullLedger, WrongSlip, LastSlot}
use Rattle.calls.specs.declared.report.Report.{Report}
use Rattle.calls.specs.declared.report.Verdict.{Verdict}
use Rattle.calls.specs.declared.slip_name.SlipName.{SlipName}
use Rattle.calls.specs.Events.{first_refusal}
use Rattle.rows.specs.Grants.{wants, decided, levels_of}
use Rattle.rows.specs.Releases.{begun, opening}
use Rattle.rows.specs.Serving.{served, ledger_after, grant_count}
use Rattle.rows.specs.Times.{late, ahead, soon, slot_end}
use Rattle.reports.specs.Reports.{report_of}
use Rattle.reports.specs.Verdicts.{verdict_of}
use Rattle.history.specs.State.{State, known, row_of, names}

-- the first refusal, or the value where there is none
abbrev pub unless : {X : Type 0} → Option Refusal → X → Result X Refusal
unless None x = Ok x
unless (Some e) x = Err e

-- release of flow i at cycle t, with the ledger k; its checks need only the ledger's length

abbrev pub release_checks : State → ℕ → ℕ → ℕ → List (Bool × Refusal)
release_checks s len i t =
    (s.ended, Ended)
    ∷ (s.owed, Owed)
    ∷ (not (known s i), NoFlow)
    ∷ (late s.times s.slot i t, Late)
    ∷ (ahead s.times s.slot i t, Ahead)
    ∷ (soon (row_of s i).progress.last (row_of s i).flow.«record».separation t, Soon)
    ∷ (wants (row_of s i), Busy)
    ∷ (nat_lt len s.count, ShortLedger)
    ∷ ((len == s.count), FullLedger)
    ∷ []

abbrev pub released : State → ℕ → ℕ → State
released s i t =
    record {
      number = s.number;
      slot = s.slot;
      times = s.times;
      count = s.count + 1;
      owed = s.owed;
      ended = s.ended;
      rows = slice_set s.rows (i - 1) (begun (row_of s i) t s.count);
      levels = s.levels;
    }

pub record Releases (s : State) (k : List Record) (i t : ℕ) (r : Result (Unit {0}) Refusal) (s' : State) (k' : List Record) : Type 0 where
  pub answer : r ≡ unless (first_refusal (release_checks s (length k) i t)) tt
  pub run : s' ≡ cond (is_ok r) (released s i t) s
  pub ledger : k' ≡ cond (is_ok r) (slice_set k s.count (opening i t s.slot)) k

-- arbitrate, over a medium with the limit given

abbrev pub arbitrate_checks : State → List (Bool × Refusal)
arbitrate_checks s = (s.ended, Ended) ∷ (s.owed, Owed) ∷ ((s.slot == 4294967295), LastSlot) ∷ []

abbrev pub slip_of : State → SlipName
slip_of s = record { number = s.number; slot = s.slot }

abbrev pub arbitrated : ℕ → State → State
arbitrated most s =
    record {
      number = s.number;
      slot = s.slot;
      times = s.times;
      count = s.count;
      owed = true;
      ended = s.ended;
      rows = decided most [] s.rows;
      levels = levels_of most (decided most [] s.rows);
    }

pub record Arbitrates (most : ℕ) (s : State) (r : Result SlipName Refusal) (s' : State) : Type 0 where
  pub answer : r ≡ unless (first_refusal (arbitrate_checks s)) (slip_of s)
  pub run : s' ≡ cond (is_ok r) (arbitrated most s) s

-- inject, with a slip that names p

abbrev pub inject_checks : State → ℕ → SlipName → List (Bool × Refusal)
inject_checks s len p = (not (names s p), WrongSlip) ∷ (nat_lt len s.count, ShortLedger) ∷ []

abbrev pub injected : State → State
injected s =
    record {
      number = s.number;
      slot = s.slot + 1;
      times = s.times;
      count = s.count;
      owed = false;
      ended = s.ended;
      rows = map served s.rows;
      levels = s.levels;
    }

pub record Injects (s : State) (k : List Record) (p : SlipName) (r : Result ℕ Refusal) (s' : State) (k' : List Record) : Type 0 where
  pub answer : r ≡ unless (first_refusal (inject_checks s (length k) p)) (grant_count s.rows)
  pub run : s' ≡ cond (is_ok r) (injected s) s
  pub ledger : k' ≡ cond (is_ok r) (ledger_after (slot_end s.times s.slot) s.rows k) k

-- abandon, with a slip that names p

abbrev pub abandon_checks : State → SlipName → List (Bool × Refusal)
abandon_checks s p = (not (names s p), WrongSlip) ∷ []

abbrev pub abandoned : State → State
abandoned s =
    record {
      number = s.number;
      slot = s.slot;
      times = s.times;
      count = s.count;
      owed = false;
      ended = true;
      rows = s.rows;
      levels = s.levels;
    }

pub record Abandons (s : State) (p : SlipName) (r : Result (Unit {0}) Refusal) (s' : State) : Type 0 where
  pub answer : r ≡ unless (first_refusal (abandon_checks s p)) tt
  pub run : s' ≡ cond (is_ok r) (abandoned s) s

-- report and verdict change nothing

pub record Reports (s : State) (k : List Record) (r : Result Report Refusal) (s' : State) (k' : List Record) : Type 0 where
  pub answer : r ≡ report_of s.rows s.count k
  pub run : s' ≡ s
  pub ledger : k' ≡ k

pub record Tells (s : State) (i : ℕ) (r : Result Verdict Refusal) (s' : State) : Type 0 where
  pub answer : r ≡ verdict_of s.rows i
  pub run : s' ≡ s
