-- What an injection leaves in a row and in the ledger. Assumes nothing.
--   served: a row after it; noted: a packet's record, from its row's own counts
--   wrote: the ledger after one row; ledger_after: after all of them
--   one: a row's grant, counted; grant_count: the grants of all rows
use Rattle.std.specs.Prelude.{ℕ, ◌+◌, ◌-◌, min, Bool, cond, not, ◌&&◌, List, [], ◌∷◌, nat_lt, slice_index_or, slice_set}
use Rattle.calls.specs.declared.record.Record.{Record}
use Rattle.calls.specs.Events.{no_record}
use Rattle.rows.specs.declared.flow_row.FlowRow.{FlowRow}

-- it wanted and was granted; it wanted and was denied
abbrev pub won : FlowRow → Bool
won r = r.progress.wanted && r.progress.granted

abbrev pub lost : FlowRow → Bool
lost r = r.progress.wanted && not r.progress.granted

-- a grant less to come, or a denial more; denials are counted in 32 bits, which a run's slots never pass
abbrev pub served : FlowRow → FlowRow
served r =
    record {
      flow = r.flow;
      progress =
          record {
            left = cond (won r) (r.progress.left - 1) r.progress.left;
            denials = cond (lost r) (min (r.progress.denials + 1) 4294967295) r.progress.denials;
            place = r.progress.place;
            last = r.progress.last;
            wanted = r.progress.wanted;
            granted = r.progress.granted;
          };
    }

-- grants, denials, arrival and state are written, and nothing else; the slot ends at the cycle given
abbrev pub noted : ℕ → FlowRow → Record → Record
noted end r p =
    record {
      flow = p.flow;
      release = p.release;
      first = p.first;
      grants = r.flow.parts - r.progress.left;
      denials = r.progress.denials;
      arrival = cond (nat_lt 0 r.progress.left) 0 (end + r.flow.tail);
      pending = nat_lt 0 r.progress.left;
    }

abbrev pub wrote : ℕ → FlowRow → List Record → List Record
wrote end r l =
    cond r.progress.wanted (slice_set l r.progress.place (noted end (served r) (slice_index_or l r.progress.place no_record))) l

unfoldable pub ledger_after : ℕ → List FlowRow → List Record → List Record
ledger_after end [] l = l
ledger_after end (r ∷ rs) l = ledger_after end rs (wrote end r l)

abbrev pub one : FlowRow → ℕ
one r = cond (won r) 1 0

unfoldable pub grant_count : List FlowRow → ℕ
grant_count [] = 0
grant_count (r ∷ rs) = one r + grant_count rs
