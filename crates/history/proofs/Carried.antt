-- Calls that change no row: refused ones, the end of a run, reports and verdicts. Assumes nothing.
use Rattle.std.proofs.Common.{◌≡◌, ℕ, ◌+◌, ◌<◌, Bool, cond, not, List, [], ◌∷◌, get_or, None, Ok, Err, Result, sym, refl, ap, ◌∙◌, subst, ap₂, arith}
use mathlib.Core.Path.{fun_ext}
use Rattle.calls.specs.declared.event.Event.{Event}
use Rattle.calls.specs.declared.event.Event.TheVariants.{Released, Arbitrated, Injected, Abandoned, Reported, Told}
use Rattle.calls.specs.declared.record.Record.{Record}
use Rattle.calls.specs.declared.refusal.Refusal.{Refusal}
use Rattle.calls.specs.declared.refusal.Refusal.TheVariants.{Busy}
use Rattle.calls.specs.declared.slip_name.SlipName.{SlipName}
use Rattle.calls.specs.declared.report.Report.{Report}
use Rattle.calls.specs.declared.report.Verdict.{Verdict}
use Rattle.medium.specs.Levels.{levels_of}
use Rattle.packets.specs.Calls.{Accepted, no_packet, ledger, granted, wants, slot_of, last_of, left_of, made_of, place_of}
use Rattle.packets.proofs.Arbiter.{granted_same}
use Rattle.timing.specs.Model.{Table}
use Rattle.timing.specs.Figures.{bound_of}
use Rattle.history.specs.State.{State, row_of}
use Rattle.history.specs.Steps.{abandoned}
use Rattle.history.specs.Counted.{History, accepted, owed_after, ended_after, begun_in, wanted_in, levels_in, recorded}
use Rattle.history.specs.Since.{Since, Lists, Follows, NeverHeld, CountedRight}

-- Two histories that count alike.
pub record Alike (b : Table) (h h' : History) : Type 0 where
  pub calls : accepted h' ≡ accepted h
  pub begun : begun_in h' ≡ begun_in h
  pub wanted : (i : ℕ) → wanted_in b h' i ≡ wanted_in b h i

pub levels_alike : (b : Table) (h h' : History) → Alike b h h' → levels_in b h' ≡ levels_in b h
levels_alike b h h' a =
    ap₂ (λ (t : Bool) (f : ℕ → Bool). cond t (levels_of (λ k. not (granted b f (k + 1))) b.z) []) a.begun (fun_ext a.wanted)

pub follows_alike : (b : Table) (h h' : History) → Alike b h h' → (i : ℕ) (s : State) → Follows b h i (row_of s i).progress → Follows b h' i (row_of s i).progress
follows_alike b h h' a i s f =
    record {
      left = f.left ∙ ap (λ l. left_of b l i) (sym a.calls);
      place = f.place ∙ ap (λ l. place_of l i) (sym a.calls);
      last = f.last ∙ ap (λ l. last_of l i) (sym a.calls);
      denials = λ more. f.denials more ∙ ap (λ l. (get_or (ledger b l) (place_of l i) no_packet).denials) (sym a.calls);
      wanted = f.wanted ∙ sym (a.wanted i);
      granted = f.granted ∙ granted_same b (wanted_in b h) (wanted_in b h') (λ k. sym (a.wanted k)) i;
    }

-- The run stays as it was.
pub stays :
    (most : ℕ) (b : Table) (h h' : History) (s : State) → Alike b h h' → owed_after h' ≡ owed_after h → ended_after h' ≡ ended_after h → NeverHeld b h' → Since most b h s →
    Since most b h' s
stays most b h h' s a owed ended free u =
    record {
      table = u.table;
      lawful = subst (Accepted b) (sym a.calls) u.lawful;
      slot = u.slot ∙ ap slot_of (sym a.calls);
      count = u.count ∙ ap made_of (sym a.calls);
      owed = u.owed ∙ sym owed;
      ended = u.ended ∙ sym ended;
      each = λ i f. follows_alike b h h' a i s (u.each i f);
      levels = u.levels ∙ sym (levels_alike b h h' a);
      short = u.short;
      waiting = λ e i. a.wanted i ∙ u.waiting (sym owed ∙ e) i ∙ ap (λ l. wants b (ledger b l) i) (sym a.calls);
      room = λ e. u.room (sym owed ∙ e);
      free = free;
    }

-- The ledger stays as it was.
pub lists_alike : (b : Table) (h h' : History) (k : List Record) → accepted h' ≡ accepted h → CountedRight b h' → Lists b h k → Lists b h' k
lists_alike b h h' k same told l =
    record {
      long = omega (arith, l.long, ap made_of same);
      each = λ p less. l.each p (omega (arith, less, ap made_of same)) ∙ ap (λ c. recorded b (get_or (ledger b c) p no_packet)) (sym same);
      told = told;
    }

-- An event of one kind is none of another.
abbrev pub kind : Event → ℕ
kind (Released i t r) = 0
kind (Arbitrated r) = 1
kind (Injected p r) = 2
kind (Abandoned p r) = 3
kind (Reported r) = 4
kind (Told i r) = 5

pub no_release : (b : Table) (h : History) (e : Event) → 0 < kind e → NeverHeld b h → NeverHeld b (e ∷ h)
no_release b h e other free = (λ i t same. absurd (omega (arith, ap kind same, other)), free)

pub no_report : (b : Table) (h : History) (e : Event) → (kind e ≡ 4 → ⊥) → CountedRight b h → CountedRight b (e ∷ h)
no_report b h e other told = (λ r same. absurd (other (ap kind same)), told)

-- Refused calls, one kind after the other.
pub release_refused : (most : ℕ) (b : Table) (h : History) (s : State) (i t : ℕ) (x : Refusal) → (x ≡ Busy → bound_of b i ≡ None) → Since most b h s → Since most b (Released i t (Err x) ∷ h) s
release_refused most b h s i t x held u =
    stays most b h (Released i t (Err x) ∷ h) s (record { calls = refl; begun = refl; wanted = λ j. refl }) refl refl
    ((λ j v same. let flow : i ≡ j = cc in let why : x ≡ Busy = cc in ap (bound_of b) (sym flow) ∙ held why), u.free) u

pub arbitrate_refused : (most : ℕ) (b : Table) (h : History) (s : State) (x : Refusal) → Since most b h s → Since most b (Arbitrated (Err x) ∷ h) s
arbitrate_refused most b h s x u =
    stays most b h (Arbitrated (Err x) ∷ h) s (record { calls = refl; begun = refl; wanted = λ j. refl }) refl refl (no_release b h (Arbitrated (Err x)) (omega arith) u.free) u

pub inject_refused : (most : ℕ) (b : Table) (h : History) (s : State) (p : SlipName) (x : Refusal) → Since most b h s → Since most b (Injected p (Err x) ∷ h) s
inject_refused most b h s p x u =
    stays most b h (Injected p (Err x) ∷ h) s (record { calls = refl; begun = refl; wanted = λ j. refl }) refl refl (no_release b h (Injected p (Err x)) (omega arith) u.free) u

pub abandon_refused : (most : ℕ) (b : Table) (h : History) (s : State) (p : SlipName) (x : Refusal) → Since most b h s → Since most b (Abandoned p (Err x) ∷ h) s
abandon_refused most b h s p x u =
    stays most b h (Abandoned p (Err x) ∷ h) s (record { calls = refl; begun = refl; wanted = λ j. refl }) refl refl (no_release b h (Abandoned p (Err x)) (omega arith) u.free) u

-- What tells and changes nothing.
pub report_since : (most : ℕ) (b : Table) (h : History) (s : State) (r : Result Report Refusal) → Since most b h s → Since most b (Reported r ∷ h) s
report_since most b h s r u =
    stays most b h (Reported r ∷ h) s (record { calls = refl; begun = refl; wanted = λ j. refl }) refl refl (no_release b h (Reported r) (omega arith) u.free) u

pub verdict_since : (most : ℕ) (b : Table) (h : History) (s : State) (i : ℕ) (r : Result Verdict Refusal) → Since most b h s → Since most b (Told i r ∷ h) s
verdict_since most b h s i r u =
    stays most b h (Told i r ∷ h) s (record { calls = refl; begun = refl; wanted = λ j. refl }) refl refl (no_release b h (Told i r) (omega arith) u.free) u

-- The end of a run.
pub abandon_since : (most : ℕ) (b : Table) (h : History) (s : State) (p : SlipName) → Since most b h s → Since most b (Abandoned p (Ok tt) ∷ h) (abandoned s)
abandon_since most b h s p u =
    let same : Alike b h (Abandoned p (Ok tt) ∷ h) = record { calls = refl; begun = refl; wanted = λ j. refl } in
    let t = u.table in
    record {
      table = record { exact = t.exact; flows = t.flows; fits = t.fits; times = t.times; each = t.each; meets = t.meets };
      lawful = u.lawful;
      slot = u.slot;
      count = u.count;
      owed = refl;
      ended = refl;
      each = λ i f. follows_alike b h (Abandoned p (Ok tt) ∷ h) same i s (u.each i f);
      levels = u.levels;
      short = u.short;
      waiting = λ e. cc;
      room = λ e. cc;
      free = no_release b h (Abandoned p (Ok tt)) (omega arith) u.free;
    }
