-- A worked run by computation. Assumes nothing.
--   told: the refusals and the ledger; Computes: what is computed of them, from any run that the load may leave
use Rattle.std.proofs.Common.{◌≡◌, ℕ, true, List, map, reverse, None, Option, sym, ap, ◌∙◌, subst}
use mathlib.Core.List.{reverse-reverse}
use Rattle.calls.specs.declared.event.Event.{Event}
use Rattle.calls.specs.declared.record.Record.{Record}
use Rattle.calls.specs.declared.refusal.Refusal.{Refusal}
use Rattle.history.specs.Played.{Ran, Played}
use Rattle.history.specs.State.{State}
use Rattle.table.specs.File.{header_of}
use Rattle.run_vectors.specs.declared.case.Step.{Step}
use Rattle.run_vectors.specs.Runs.{routes, fault_of, calls_in, refusals_in, refusal_of, blank, Runs}
use Rattle.run_vectors.proofs.Leads.{Led, end, end-ran, end-calls, only_end}
use Rattle.run_vectors.proofs.Starts.{Spares, start_of, begun-is, roomy_for, begun-for}

abbrev pub told : Led → List (Option Refusal) × List Record
told x = (map refusal_of (reverse x.events), x.ledger)

abbrev pub Computes : List ℕ → List Step → List Record → Type 0
Computes bs steps ledger = (x : Spares bs routes) → told (end 128 (start_of bs routes 1 x) blank (calls_in 0 steps)) ≡ (refusals_in steps, ledger)

-- every play is told so
every :
    (bs : List ℕ) (steps : List Step) (ledger : List Record) → (header_of bs).flows ≡ 3 → Computes bs steps ledger →
    (es : List Event) (s : State) (k : List Record) → Played 128 bs routes 1 (calls_in 0 steps) es blank s k →
    told (record { events = reverse es; run = s; ledger = k }) ≡ (refusals_in steps, ledger)
every bs steps ledger three computes es s k played =
    let start = begun-is bs routes 1 played.start three played.begun in
    ap told (only_end 128 played.start blank (calls_in 0 steps) es s k played.all played.ran ∙ ap (λ (m : State). end 128 m blank (calls_in 0 steps)) start.1)
    ∙ computes start.0

pub computed-runs :
    {bs : List ℕ} {steps : List Step} {ledger : List Record} → fault_of bs ≡ None → (header_of bs).flows ≡ 3 → roomy_for bs routes ≡ true → Computes bs steps ledger →
    Runs bs steps ledger
computed-runs {bs} {steps} {ledger} loads three room computes =
    let some = begun-for bs routes 1 three room in
    let start = start_of bs routes 1 some.0 in
    let last = end 128 start blank (calls_in 0 steps) in
    record {
      loads = loads;
      start = start;
      begun = some.1;
      events = reverse last.events;
      calls = end-calls 128 start blank (calls_in 0 steps);
      after = last.run;
      ran =
          subst (λ (k : List Record). Ran 128 (reverse (reverse last.events)) start blank last.run k) (ap (λ t. t.1) (computes some.0))
          (end-ran 128 start blank (calls_in 0 steps));
      answers = λ es s k played. sym (ap (map refusal_of) (reverse-reverse es)) ∙ ap (λ t. t.0) (every bs steps ledger three computes es s k played);
      leaves = λ es s k played. ap (λ t. t.1) (every bs steps ledger three computes es s k played);
    }
