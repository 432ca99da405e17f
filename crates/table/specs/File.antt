-- What the bytes of a flow table mean. Assumes nothing.
--   header_of: the header, 32 bytes
--   flow_at, link_at, entry_at, u16_at: the record that begins at a byte
--   flows_of, links_of, entries_of, numbers_of: the sections
use Rattle.std.specs.Prelude.{ℕ, ◌+◌, ◌*◌, List, map}
use Rattle.std.specs.List.{range_with_len}
use Rattle.fabric.specs.declared.route.Ends.{Ends}
use Rattle.table.specs.declared.header.Header.{Header}
use Rattle.table.specs.declared.records.FlowRecord.{FlowRecord}
use Rattle.table.specs.declared.records.RouteEntry.{RouteEntry}
use Rattle.table.specs.Bytes.{u16_at, u32_at}

unfoldable pub header_of : List ℕ → Header
header_of bs =
    record {
      flows = u16_at bs 0;
      width = u16_at bs 2;
      height = u16_at bs 4;
      profile = u16_at bs 6;
      spare = u16_at bs 8;
      links = u16_at bs 10;
      flows_at = u32_at bs 12;
      links_at = u32_at bs 16;
      routes_at = u32_at bs 20;
      numbers_at = u32_at bs 24;
      numbers = u16_at bs 28;
      reserved = u16_at bs 30;
    }

-- a flow record has 16 bytes
unfoldable pub flow_at : List ℕ → ℕ → FlowRecord
flow_at bs at =
    record {
      source = u16_at bs at;
      destination = u16_at bs (at + 2);
      payload = u32_at bs (at + 4);
      separation = u32_at bs (at + 8);
      deadline = u32_at bs (at + 12);
    }

-- a link record has 4 bytes: the vertices where it begins and ends
unfoldable pub link_at : List ℕ → ℕ → Ends
link_at bs at = record { start = u16_at bs at; stop = u16_at bs (at + 2) }

-- a route entry has 4 bytes
unfoldable pub entry_at : List ℕ → ℕ → RouteEntry
entry_at bs at = record { length = u16_at bs at; position = u16_at bs (at + 2) }

-- n records of so many bytes each, from a byte on
abbrev pub records_at : {X : Type 0} → (ℕ → X) → ℕ → ℕ → ℕ → List X
records_at read size at n = map (λ i. read (at + size * i)) (range_with_len 0 n)

abbrev pub flows_of : List ℕ → Header → List FlowRecord
flows_of bs h = records_at (flow_at bs) 16 h.flows_at h.flows

abbrev pub links_of : List ℕ → Header → List Ends
links_of bs h = records_at (link_at bs) 4 h.links_at h.links

-- one entry for each flow; none in a table that means a mesh
abbrev pub entries_of : List ℕ → Header → List RouteEntry
entries_of bs h = records_at (entry_at bs) 4 h.routes_at h.flows

abbrev pub numbers_of : List ℕ → Header → List ℕ
numbers_of bs h = records_at (u16_at bs) 2 h.numbers_at h.numbers
