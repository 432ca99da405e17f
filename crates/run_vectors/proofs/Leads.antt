-- Where calls lead: each has one answer, and leaves one run and one ledger. Assumes nothing.
--   answer_to: a call with its answer; run_after, records_after: what it leaves
--   leads: all of it for a list of calls, the newest first
use Rattle.std.proofs.Common.{◌≡◌, ℕ, cond, List, [], ◌∷◌, map, reverse, length, set, is_ok, sym, refl, ap, ◌∙◌, subst}
use mathlib.Core.List.{reverse_aux, reverse-reverse}
use Rattle.calls.specs.declared.event.Call.{Call}
use Rattle.calls.specs.declared.event.Call.TheVariants.{Release, Arbitrate, Inject, Abandon, Report, Verdict}
use Rattle.calls.specs.declared.event.Event.{Event}
use Rattle.calls.specs.declared.event.Event.TheVariants.{Released, Arbitrated, Injected, Abandoned, Reported, Told}
use Rattle.calls.specs.declared.record.Record.{Record}
use Rattle.calls.specs.Events.{call_of, first_refusal}
use Rattle.reports.specs.Reports.{report_of}
use Rattle.reports.specs.Verdicts.{verdict_of}
use Rattle.rows.specs.Releases.{opening}
use Rattle.rows.specs.Serving.{ledger_after, grant_count}
use Rattle.rows.specs.Times.{slot_end}
use Rattle.history.specs.Counted.{History}
use Rattle.history.specs.Played.{StepsTo, Ran}
use Rattle.history.specs.State.{State}
use Rattle.history.specs.Steps.{unless, release_checks, released, arbitrate_checks, slip_of, arbitrated, inject_checks, injected, abandon_checks, abandoned}

abbrev pub answer_to : State → List Record → Call → Event
answer_to s k (Release i t) = Released i t (unless (first_refusal (release_checks s (length k) i t)) tt)
answer_to s k Arbitrate = Arbitrated (unless (first_refusal (arbitrate_checks s)) (slip_of s))
answer_to s k (Inject p) = Injected p (unless (first_refusal (inject_checks s (length k) p)) (grant_count s.rows))
answer_to s k (Abandon p) = Abandoned p (unless (first_refusal (abandon_checks s p)) tt)
answer_to s k Report = Reported (report_of s.rows s.count k)
answer_to s k (Verdict i) = Told i (verdict_of s.rows i)

abbrev pub run_after : ℕ → State → Event → State
run_after most s (Released i t r) = cond (is_ok r) (released s i t) s
run_after most s (Arbitrated r) = cond (is_ok r) (arbitrated most s) s
run_after most s (Injected p r) = cond (is_ok r) (injected s) s
run_after most s (Abandoned p r) = cond (is_ok r) (abandoned s) s
run_after most s (Reported r) = s
run_after most s (Told i r) = s

abbrev pub records_after : State → List Record → Event → List Record
records_after s k (Released i t r) = cond (is_ok r) (set k s.count (opening i t s.slot)) k
records_after s k (Arbitrated r) = k
records_after s k (Injected p r) = cond (is_ok r) (ledger_after (slot_end s.times s.slot) s.rows k) k
records_after s k (Abandoned p r) = k
records_after s k (Reported r) = k
records_after s k (Told i r) = k

pub record Led : Type 0 where
  -- the newest first
  pub events : History
  pub run : State
  pub ledger : List Record

abbrev pub onward : ℕ → Led → Call → Led
onward most x c =
    let e = answer_to x.run x.ledger c in
    record { events = e ∷ x.events; run = run_after most x.run e; ledger = records_after x.run x.ledger e }

unfoldable pub leads : ℕ → List Call → State → List Record → Led
leads most [] s k = record { events = []; run = s; ledger = k }
leads most (c ∷ cs) s k = onward most (leads most cs s k) c

-- what is computed is as the call is defined,
computed-steps :
    (most : ℕ) (s : State) (k : List Record) (c : Call) → StepsTo most (answer_to s k c) s k (run_after most s (answer_to s k c)) (records_after s k (answer_to s k c))
computed-steps most s k (Release i t) = record { answer = refl; run = refl; ledger = refl }
computed-steps most s k Arbitrate = (record { answer = refl; run = refl }, refl)
computed-steps most s k (Inject p) = record { answer = refl; run = refl; ledger = refl }
computed-steps most s k (Abandon p) = (record { answer = refl; run = refl }, refl)
computed-steps most s k Report = record { answer = refl; run = refl; ledger = refl }
computed-steps most s k (Verdict i) = (record { answer = refl; run = refl }, refl)

answers-call : (s : State) (k : List Record) (c : Call) → call_of (answer_to s k c) ≡ c
answers-call s k (Release i t) = refl
answers-call s k Arbitrate = refl
answers-call s k (Inject p) = refl
answers-call s k (Abandon p) = refl
answers-call s k Report = refl
answers-call s k (Verdict i) = refl

-- and nothing else is
record Computed (most : ℕ) (e : Event) (s : State) (k : List Record) (s' : State) (k' : List Record) : Type 0 where
  answer : e ≡ answer_to s k (call_of e)
  run : s' ≡ run_after most s e
  ledger : k' ≡ records_after s k e

steps-computed : (most : ℕ) (e : Event) (s : State) (k : List Record) (s' : State) (k' : List Record) → StepsTo most e s k s' k' → Computed most e s k s' k'
steps-computed most (Released i t r) s k s' k' x = record { answer = ap (Released i t) x.answer; run = x.run; ledger = x.ledger }
steps-computed most (Arbitrated r) s k s' k' x = record { answer = ap Arbitrated x.0.answer; run = x.0.run; ledger = x.1 }
steps-computed most (Injected p r) s k s' k' x = record { answer = ap (Injected p) x.answer; run = x.run; ledger = x.ledger }
steps-computed most (Abandoned p r) s k s' k' x = record { answer = ap (Abandoned p) x.0.answer; run = x.0.run; ledger = x.1 }
steps-computed most (Reported r) s k s' k' x = record { answer = ap Reported x.answer; run = x.run; ledger = x.ledger }
steps-computed most (Told i r) s k s' k' x = record { answer = ap (Told i) x.0.answer; run = x.0.run; ledger = x.1 }

map_back : {X Y : Type 0} (f : X → Y) (xs acc : List X) → map f (reverse_aux xs acc) ≡ reverse_aux (map f xs) (map f acc)
map_back f [] acc = refl
map_back f (x ∷ xs) acc = map_back f xs (x ∷ acc)

module _ (most : ℕ) (s : State) (k : List Record) where
  led-ran : (cs : List Call) → Ran most (leads most cs s k).events s k (leads most cs s k).run (leads most cs s k).ledger
  unfolding leads
  led-ran [] = (refl, refl)
  led-ran (c ∷ cs) =
      let x = leads most cs s k in
      (x.run, x.ledger, led-ran cs, computed-steps most x.run x.ledger c)

  led-calls : (cs : List Call) → map call_of (leads most cs s k).events ≡ cs
  unfolding leads
  led-calls [] = refl
  led-calls (c ∷ cs) = let x = leads most cs s k in λ i. answers-call x.run x.ledger c i ∷ led-calls cs i

  ran-led : (h : History) (s' : State) (k' : List Record) → Ran most h s k s' k' → record { events = h; run = s'; ledger = k' } ≡ leads most (map call_of h) s k
  unfolding leads
  ran-led [] s' k' x = λ i. record { events = []; run = x.0 i; ledger = x.1 i }
  ran-led (e ∷ h) s' k' x =
      let m = x.0 in
      let l = x.1 in
      let step = steps-computed most e m l s' k' x.3 in
      let run = step.run ∙ ap (run_after most m) step.answer in
      let ledger = step.ledger ∙ ap (records_after m l) step.answer in
      (λ i. record { events = step.answer i ∷ h; run = run i; ledger = ledger i })
      ∙ ap (λ y. onward most y (call_of e)) (ran-led h m l x.2)

  module _ (calls : List Call) where
    -- where the calls lead, in their order
    abbrev pub end : Led
    end = leads most (reverse calls) s k

    pub end-ran : Ran most (reverse (reverse end.events)) s k end.run end.ledger
    end-ran = subst (λ (h : History). Ran most h s k end.run end.ledger) (sym (reverse-reverse end.events)) (led-ran (reverse calls))

    pub end-calls : map call_of (reverse end.events) ≡ calls
    end-calls = map_back call_of end.events [] ∙ ap reverse (led-calls (reverse calls)) ∙ reverse-reverse calls

    -- and they lead nowhere else
    pub only_end : (events : List Event) (s' : State) (k' : List Record) → map call_of events ≡ calls → Ran most (reverse events) s k s' k' → record { events = reverse events; run = s'; ledger = k' } ≡ end
    only_end events s' k' all ran = ran-led (reverse events) s' k' ran ∙ ap (λ cs. leads most cs s k) (map_back call_of events [] ∙ ap reverse all)
