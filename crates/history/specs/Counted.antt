-- What is counted from a list of calls with their answers, the newest first, since a table was loaded. Assumes nothing.
--   accepted: its accepted releases and injections; the packets that these make are `ledger b (accepted h)`
--   owed_after, ended_after: an injection is owed; the run was abandoned
--   wanted_in, granted_in: who wanted, and was granted, in the slot last arbitrated
--   levels_in: what the medium holds
--   arrival_of, recorded: a packet's arrival, and its record in the ledger
use Rattle.std.specs.Prelude.{ℕ, ◌+◌, ◌*◌, Bool, true, false, cond, not, List, [], ◌∷◌, Ok, Err}
use Rattle.calls.specs.declared.event.Event.{Event}
use Rattle.calls.specs.declared.event.Event.TheVariants.{Released, Arbitrated, Injected, Abandoned, Reported, Told}
use Rattle.calls.specs.declared.record.Record.{Record}
use Rattle.medium.specs.declared.level.Level.{Level}
use Rattle.medium.specs.Levels.{levels_of}
use Rattle.packets.specs.Calls.{Call, release, inject, Packet, is_open, wants, granted, ledger}
use Rattle.timing.specs.Model.{Table}

abbrev pub History : Type 0
History = List Event

abbrev pub accepted : History → List Call
accepted [] = []
accepted (Released i t (Ok _) ∷ h) = release i t ∷ accepted h
accepted (Released i t (Err _) ∷ h) = accepted h
accepted (Arbitrated _ ∷ h) = accepted h
accepted (Injected p (Ok _) ∷ h) = inject ∷ accepted h
accepted (Injected p (Err _) ∷ h) = accepted h
accepted (Abandoned p _ ∷ h) = accepted h
accepted (Reported _ ∷ h) = accepted h
accepted (Told i _ ∷ h) = accepted h

-- from an accepted arbitrate to the accepted inject or abandon
abbrev pub owed_after : History → Bool
owed_after [] = false
owed_after (Released i t _ ∷ h) = owed_after h
owed_after (Arbitrated (Ok _) ∷ h) = true
owed_after (Arbitrated (Err _) ∷ h) = owed_after h
owed_after (Injected p (Ok _) ∷ h) = false
owed_after (Injected p (Err _) ∷ h) = owed_after h
owed_after (Abandoned p (Ok _) ∷ h) = false
owed_after (Abandoned p (Err _) ∷ h) = owed_after h
owed_after (Reported _ ∷ h) = owed_after h
owed_after (Told i _ ∷ h) = owed_after h

abbrev pub ended_after : History → Bool
ended_after [] = false
ended_after (Released i t _ ∷ h) = ended_after h
ended_after (Arbitrated _ ∷ h) = ended_after h
ended_after (Injected p _ ∷ h) = ended_after h
ended_after (Abandoned p (Ok _) ∷ h) = true
ended_after (Abandoned p (Err _) ∷ h) = ended_after h
ended_after (Reported _ ∷ h) = ended_after h
ended_after (Told i _ ∷ h) = ended_after h

-- some slot was arbitrated
abbrev pub begun_in : History → Bool
begun_in [] = false
begun_in (Released i t _ ∷ h) = begun_in h
begun_in (Arbitrated (Ok _) ∷ h) = true
begun_in (Arbitrated (Err _) ∷ h) = begun_in h
begun_in (Injected p _ ∷ h) = begun_in h
begun_in (Abandoned p _ ∷ h) = begun_in h
begun_in (Reported _ ∷ h) = begun_in h
begun_in (Told i _ ∷ h) = begun_in h

-- those that had an open packet as it was arbitrated; nobody before the first slot is
abbrev pub wanted_in : Table → History → ℕ → Bool
wanted_in b [] i = false
wanted_in b (Released j t _ ∷ h) i = wanted_in b h i
wanted_in b (Arbitrated (Ok _) ∷ h) i = wants b (ledger b (accepted h)) i
wanted_in b (Arbitrated (Err _) ∷ h) i = wanted_in b h i
wanted_in b (Injected p _ ∷ h) i = wanted_in b h i
wanted_in b (Abandoned p _ ∷ h) i = wanted_in b h i
wanted_in b (Reported _ ∷ h) i = wanted_in b h i
wanted_in b (Told j _ ∷ h) i = wanted_in b h i

-- from flow 1 on, one that wanted and shares no link with a flow granted before it
abbrev pub granted_in : Table → History → ℕ → Bool
granted_in b h i = granted b (wanted_in b h) i

-- one level for each flow, recessive exactly where it was granted
abbrev pub levels_in : Table → History → List Level
levels_in b h = cond (begun_in h) (levels_of (λ k. not (granted_in b h (k + 1))) b.z) []

-- every slot since its first gave it a grant or a denial, and then its last part travels
abbrev pub arrival_of : Table → Packet → ℕ
arrival_of b p = (p.first + p.grants + p.denials) * b.S + b.c p.flow

abbrev pub recorded : Table → Packet → Record
recorded b p =
    record {
      flow = p.flow;
      release = p.time;
      first = p.first;
      grants = p.grants;
      denials = p.denials;
      arrival = cond (is_open b p) 0 (arrival_of b p);
      pending = is_open b p;
    }
