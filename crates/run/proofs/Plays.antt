-- Calls that are made in turn. Assumes nothing.
use Rattle.std.proofs.Common.{◌≡◌, ℕ, ◌+◌, ◌<◌, List, [], ◌∷◌, ◌++◌, map, reverse, length, get_or, take, sym, ap, ◌∙◌, subst, ap₂}
use mathlib.Core.List.{reverse-append}
use Rattle.std.proofs.lemmas.List.{map_push, take_more, length_push}
use Rattle.calls.specs.declared.event.Call.{Call}
use Rattle.calls.specs.declared.event.Event.{Event}
use Rattle.calls.specs.declared.event.Event.TheVariants.{Released, Arbitrated, Injected, Abandoned, Reported, Told}
use Rattle.calls.specs.declared.record.Record.{Record}
use Rattle.calls.specs.Events.{call_of}
use Rattle.timing.specs.Model.{Table}
use Rattle.history.specs.State.{State}
use Rattle.history.specs.Counted.{History}
use Rattle.history.specs.Since.{Since, Lists}
use Rattle.history.specs.Promise.{Upholds}
use Rattle.history.specs.Played.{StepsTo, Ran}
use Rattle.history.proofs.Upheld.{release_upholds, arbitrate_upholds, inject_upholds, abandon_upholds, report_upholds, verdict_upholds}

-- after the first i calls, from a run and a ledger at the start to those now
pub record SoFar (most : ℕ) (s₀ : State) (k₀ : List Record) (calls : List Call) (i : ℕ) (events : List Event) (s : State) (k : List Record) : Type 0 where
  pub count : length events ≡ i
  pub all : map call_of events ≡ take i calls
  pub ran : Ran most (reverse events) s₀ k₀ s k
  pub since : (b : Table) → Since most b [] s₀ → Lists b [] k₀ → Since most b (reverse events) s × Lists b (reverse events) k

-- a call that leads on as it is defined keeps the promise
step_upholds : (most : ℕ) (e : Event) (s : State) (k : List Record) (s' : State) (k' : List Record) → StepsTo most e s k s' k' → Upholds most e s k s' k'
step_upholds most (Released i t r) s k s' k' x = release_upholds most s s' k k' i t r x
step_upholds most (Arbitrated r) s k s' k' x = subst (Upholds most (Arbitrated r) s k s') (sym x.1) (arbitrate_upholds most s s' k r x.0)
step_upholds most (Injected p r) s k s' k' x = inject_upholds most s s' k k' p r x
step_upholds most (Abandoned p r) s k s' k' x = subst (Upholds most (Abandoned p r) s k s') (sym x.1) (abandon_upholds most s s' k p r x.0)
step_upholds most (Reported r) s k s' k' x = report_upholds most s s' k k' r x
step_upholds most (Told i r) s k s' k' x = subst (Upholds most (Told i r) s k s') (sym x.1) (verdict_upholds most s s' k i r x.0)

newest : (events : List Event) (e : Event) → reverse (events ++ (e ∷ [])) ≡ e ∷ reverse events
newest events e = reverse-append events (e ∷ [])

module _ (most : ℕ) (s₀ : State) (k₀ : List Record) (calls : List Call) (i : ℕ) (events : List Event) (s : State) (k : List Record) where
  -- one call more
  pub one_more :
      (e : Event) (s' : State) (k' : List Record) (d : Call) (events' : List Event) → i < length calls → call_of e ≡ get_or calls i d → StepsTo most e s k s' k' →
      events' ≡ events ++ (e ∷ []) → SoFar most s₀ k₀ calls i events s k → SoFar most s₀ k₀ calls (i + 1) events' s' k'
  one_more e s' k' d events' within call step pushed far =
      let back = sym (ap reverse pushed ∙ newest events e) in
      record {
        count = ap length pushed ∙ length_push events e ∙ ap (λ n. n + 1) far.count;
        all = ap (map call_of) pushed ∙ map_push call_of events e ∙ ap₂ (λ (cs : List Call) (c : Call). cs ++ (c ∷ [])) far.all call ∙ sym (take_more calls i d within);
        ran = subst (λ (h : History). Ran most h s₀ k₀ s' k') back (s, k, far.ran, step);
        since = λ b u l.
            let old = far.since b u l in
            let new = step_upholds most e s k s' k' step b (reverse events) old.0 in
            subst (λ (h : History). Since most b h s' × Lists b h k') back (new.0, (new.2 old.1).0);
      }
