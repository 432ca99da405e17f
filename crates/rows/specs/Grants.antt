-- Who is granted in a slot, and what the medium then holds. Assumes nothing.
--   wants: a flow has an open packet
--   blocked a gs k: one of the first k flows shares a link (a) and was granted (gs)
--   granting most gs r: the next flow is granted, where gs tells of the flows before it, on a medium with the limit given
--   decided most gs rows: the rows after their flows' intervals, in turn
--   levels_of most rows: the levels of these intervals
use Rattle.std.specs.Prelude.{ℕ, zero, suc, Bool, false, not, ◌&&◌, ◌||◌, List, [], ◌∷◌, ◌++◌, map, length, take, nat_lt, slice_index_or}
use Rattle.analysis.specs.declared.above.Above.{Above}
use Rattle.analysis.specs.Marks.{marked}
use Rattle.medium.specs.declared.level.Level.{Level}
use Rattle.medium.specs.Levels.{level_of}
use Rattle.rows.specs.declared.flow_row.FlowRow.{FlowRow}

abbrev pub wants : FlowRow → Bool
wants r = nat_lt 0 r.progress.left

unfoldable pub blocked : Above → List Bool → ℕ → Bool
blocked a gs zero = false
blocked a gs (suc k) = blocked a gs k || (marked a (suc k) && slice_index_or gs k false)

-- a flow whose interval the medium cannot open is not granted; a table never has more flows than its medium has intervals
abbrev pub granting : ℕ → List Bool → FlowRow → Bool
granting most gs r = nat_lt (length gs) most && (wants r && not (blocked r.flow.above gs (length gs)))

abbrev pub mark : FlowRow → Bool → FlowRow
mark r g =
    record {
      flow = r.flow;
      progress =
          record {
            left = r.progress.left;
            denials = r.progress.denials;
            place = r.progress.place;
            last = r.progress.last;
            wanted = wants r;
            granted = g;
          };
    }

unfoldable pub decided : ℕ → List Bool → List FlowRow → List FlowRow
decided most gs [] = []
decided most gs (r ∷ rs) = mark r (granting most gs r) ∷ decided most (gs ++ (granting most gs r ∷ [])) rs

abbrev pub grants_of : List FlowRow → List Bool
grants_of rs = map (λ (r : FlowRow). r.progress.granted) rs

-- recessive exactly where the flow is granted
abbrev pub levels_of : ℕ → List FlowRow → List Level
levels_of most rs = map (λ g. level_of (not g)) (take most (grants_of rs))
