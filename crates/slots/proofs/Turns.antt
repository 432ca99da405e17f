-- One flow more of an arbitration. Assumes nothing.
--   press_next: one more of the flows above a flow pulls its interval or keeps still
--   interval_ran: a flow whose interval is opened, and whether it is then granted
--   turn_more, turn_all: a loop over all flows
use Rattle.std.proofs.Common.{◌≡◌, ℕ, ◌+◌, ◌<◌, ◌≤◌, min, Bool, true, false, cond, not, ◌&&◌, ◌||◌, ltb, List, [], ◌∷◌, ◌++◌, map, length, get_or, take, drop, set, is_err, Ok, Err, Result, sym, refl, ap, ◌∙◌, subst, ⊎_elim, append_assoc, append-nil, add-one, arith}
use Rattle.std.proofs.lemmas.List.{get_or-map, length-map, length_push, length-set, length-take-le, take_all, take-append-le, take_more_set, drop_all, drop_more, drop-set-lt, map_push}
use Rattle.std.proofs.lemmas.Bool.{cases_lt, lt-ltb, le-ltb, ltb-true, not-false}
use Rattle.analysis.specs.declared.above.Above.{Above}
use Rattle.analysis.specs.Marks.{marked}
use Rattle.medium.specs.declared.level.Level.{Level}
use Rattle.medium.specs.declared.fault.MediumFault.{MediumFault}
use Rattle.medium.specs.declared.fault.MediumFault.TheVariants.{Full}
use Rattle.medium.specs.Levels.{level_of, may_open, opened, read_at}
use Rattle.interval.specs.Intervals.{pulled_if, pressed, quiet_at}
use Rattle.interval.proofs.OneInterval.{press_more, contested}
use Rattle.rows.specs.declared.flow_row.FlowRow.{FlowRow}
use Rattle.rows.specs.Blank.{no_row}
use Rattle.rows.specs.Small.{IsSmall, Small}
use Rattle.rows.specs.Grants.{wants, blocked, granting, mark, decided, grants_of, levels_of}

abbrev granted : FlowRow → Bool
granted r = r.progress.granted

-- the node of a small row
pub near_at : (rs : List FlowRow) (k : ℕ) (row : FlowRow) → Small rs → k < length rs → row ≡ get_or rs k row → row.flow.record.source < 256
near_at rs k row small lt here = (subst (λ (r : FlowRow). IsSmall r.flow) (sym here) (small k row lt)).near

-- the flow above stands in row h
pub press_next : (ls now new : List Level) (a : Above) (rs : List FlowRow) (h node : ℕ) (row : FlowRow) (pulls : Bool) → Small rs → h < length rs → row ≡ get_or rs h row → node ≡ row.flow.record.source
    → pulls ≡ (marked a (h + 1) && row.progress.granted) → now ≡ pressed ls (blocked a (grants_of rs) h) → new ≡ pulled_if now node pulls → new ≡ pressed ls (blocked a (grants_of rs) (h + 1))
unfolding blocked
press_next ls now new a rs h node row pulls small lt here from told before after =
    let gs = grants_of rs in
    press_more ls now new (blocked a gs h) pulls node (omega (arith, near_at rs h row small lt here)) before after
    ∙ ap (λ p. pressed ls (blocked a gs h || p)) told
    ∙ ap (λ g. pressed ls (blocked a gs h || (marked a (h + 1) && g))) (ap granted here ∙ sym (get_or-map granted rs h row false lt))
    ∙ ap (λ n. pressed ls (blocked a gs h || (marked a n && get_or gs h false))) (add-one h)
    ∙ ap (λ n. pressed ls (blocked a gs n)) (sym (add-one h))

-- a medium refuses an open exactly at its limit
refused : (b : Bool) (r : Result (Unit {0}) MediumFault) → r ≡ cond b (Ok tt) (Err Full) → is_err r ≡ not b
refused true r e = ap is_err e
refused false r e = ap is_err e

-- whether a flow is granted, by the rows of the flows before it, below the limit of the medium
granting_under : (m : ℕ) (bs : List FlowRow) (row : FlowRow) → length bs < m → granting m (grants_of bs) row ≡ (wants row && not (blocked row.flow.above (grants_of bs) (length bs)))
granting_under m bs row under =
    let rest = blocked row.flow.above (grants_of bs) in
    ap (λ n. ltb n m && (wants row && not (rest n))) (length-map bs granted) ∙ ap (λ b. b && (wants row && not (rest (length bs)))) (lt-ltb (length bs) m under)

quiet_wants : (w b : Bool) → not (not w || b) ≡ (w && not b)
quiet_wants true b = refl
quiet_wants false b = refl

twice_not : (b : Bool) → not (not b) ≡ b
twice_not true = refl
twice_not false = refl

pub interval_ran : (m : ℕ) (bs : List FlowRow) (row : FlowRow) (ls start begun end : List Level) (r : Result (Unit {0}) MediumFault) (node : ℕ) (own quiet : Bool) → IsSmall row.flow
    → length ls ≡ min (length bs) m → r ≡ may_open m (length ls) → false ≡ is_err r → start ≡ opened m ls → node ≡ row.flow.record.source → own ≡ not (wants row) → begun ≡ pulled_if start node own
    → end ≡ pressed begun (blocked row.flow.above (grants_of bs) (length bs)) → quiet ≡ quiet_at (read_at end (length bs))
    → (quiet ≡ granting m (grants_of bs) row) × (end ≡ cond (ltb (length bs) m) (ls ++ (level_of (not quiet) ∷ [])) ls)
interval_ran m bs row ls start begun end r node own quiet small before answer accepted opening from rests first others read =
    let room : ltb (length ls) m ≡ true = not-false (ltb (length ls) m) (sym (refused (ltb (length ls) m) r answer) ∙ sym accepted) in
    let under : length bs < m = omega (arith, ltb-true (length ls) m room) in
    let rest = blocked row.flow.above (grants_of bs) (length bs) in
    let ran = contested m ls start begun end own rest node (length bs) (omega arith) under (omega (arith, small.near)) opening first others in
    let told : quiet ≡ not (own || rest) = read ∙ ran.1 in (
      told ∙ ap (λ o. not (o || rest)) rests ∙ quiet_wants (wants row) rest ∙ sym (granting_under m bs row under),
      ran.0
          ∙ ap (λ b. ls ++ (level_of b ∷ [])) (sym (ap not told ∙ twice_not (own || rest)))
          ∙ ap (λ b. cond b (ls ++ (level_of (not quiet) ∷ [])) ls) (sym (lt-ltb (length bs) m under)),
    )

abbrev level_for : Bool → Level
level_for g = level_of (not g)

mark_more : (m k : ℕ) (rs : List FlowRow) → k < length rs →
    let x = mark (get_or rs k no_row) (granting m (grants_of (take k rs)) (get_or rs k no_row)) in
    take (k + 1) (set rs k x) ++ decided m (grants_of (take (k + 1) (set rs k x))) (drop (k + 1) (set rs k x)) ≡ take k rs ++ decided m (grants_of (take k rs)) (drop k rs)
unfolding decided
mark_more m k rs lt =
    let r = get_or rs k no_row in
    let gs = grants_of (take k rs) in
    let x = mark r (granting m gs r) in
    let front : take (k + 1) (set rs k x) ≡ take k rs ++ (x ∷ []) = take_more_set rs k x lt in
    let rest : drop (k + 1) (set rs k x) ≡ drop (k + 1) rs = drop-set-lt (k + 1) rs k x (omega arith) in
    let grants : grants_of (take k rs ++ (x ∷ [])) ≡ gs ++ (x.progress.granted ∷ []) = map_push granted (take k rs) x in
    ap (λ t. t ++ decided m (grants_of t) (drop (k + 1) (set rs k x))) front
    ∙ ap (λ t. (take k rs ++ (x ∷ [])) ++ decided m (grants_of (take k rs ++ (x ∷ []))) t) rest
    ∙ ap (λ t. (take k rs ++ (x ∷ [])) ++ decided m t (drop (k + 1) rs)) grants
    ∙ append_assoc (take k rs) (x ∷ []) (decided m (gs ++ (x.progress.granted ∷ [])) (drop (k + 1) rs))
    ∙ sym (ap (λ t. take k rs ++ decided m gs t) (drop_more rs k no_row lt))

grant_count_lem : (rs : List FlowRow) (k : ℕ) → k ≤ length rs → length (grants_of (take k rs)) ≡ k
grant_count_lem rs k le = length-map (take k rs) granted ∙ length-take-le k rs le

take_push : (gs : List Bool) (g : Bool) (m : ℕ) → length gs < m → take m (gs ++ (g ∷ [])) ≡ take m gs ++ (g ∷ [])
take_push gs g m lt =
    take_all m (gs ++ (g ∷ [])) (omega (arith, length_push gs g)) ∙ ap (λ t. t ++ (g ∷ [])) (sym (take_all m gs (omega arith)))

level_more : (m k : ℕ) (rs : List FlowRow) (x : FlowRow) → k < length rs
    → levels_of m (take (k + 1) (set rs k x)) ≡ cond (ltb k m) (levels_of m (take k rs) ++ (level_of (not x.progress.granted) ∷ [])) (levels_of m (take k rs))
level_more m k rs x lt =
    let gs = grants_of (take k rs) in
    let g = x.progress.granted in
    let ls = map level_for (take m gs) in
    let long : length gs ≡ k = grant_count_lem rs k (omega arith) in
    ap (levels_of m) (take_more_set rs k x lt)
    ∙ ap (λ t. map level_for (take m t)) (map_push granted (take k rs) x)
    ∙ ⊎_elim
    (λ under. ap (map level_for) (take_push gs g m (omega arith)) ∙ map_push level_for (take m gs) g ∙ ap (λ b. cond b (ls ++ (level_for g ∷ [])) ls) (sym (lt-ltb k m under)))
    (λ over. ap (map level_for) (take-append-le m gs (g ∷ []) (omega arith)) ∙ ap (λ b. cond b (ls ++ (level_for g ∷ [])) ls) (sym (le-ltb k m over)))
    (cases_lt k m)

-- the rows where the first k flows had their intervals, the rows that the slot began with, and the levels of the medium by then:
-- the others are decided as from the start
pub record Partly (m k : ℕ) (now was : List FlowRow) (ls : List Level) : Type 0 where
  pub count : length now ≡ length was
  pub rows : take k now ++ decided m (grants_of (take k now)) (drop k now) ≡ decided m [] was
  pub levels : ls ≡ levels_of m (take k now)

-- one flow more, where the rows before it and its own are read of the rows
pub turn_more : (m k : ℕ) (rs new was bs : List FlowRow) (row : FlowRow) (ls end : List Level) (g : Bool) → k < length rs → bs ≡ take k rs → row ≡ get_or rs k no_row → g ≡ granting m (grants_of bs) row
    → end ≡ cond (ltb (length bs) m) (ls ++ (level_of (not g) ∷ [])) ls → new ≡ set rs k (mark (get_or rs k no_row) g) → Partly m k rs was ls → Partly m (k + 1) new was end
turn_more m k rs new was bs row ls end g lt before here answer after marking inv =
    let r = get_or rs k no_row in
    let told : g ≡ granting m (grants_of (take k rs)) r = answer ∙ ap (λ t. granting m (grants_of t) row) before ∙ ap (granting m (grants_of (take k rs))) here in
    let x = mark r (granting m (grants_of (take k rs)) r) in
    let count : length bs ≡ k = ap length before ∙ length-take-le k rs (omega arith) in
    let now : new ≡ set rs k x = marking ∙ ap (λ b. set rs k (mark r b)) told in
    record {
      count = ap length now ∙ length-set rs k x ∙ inv.count;
      rows = ap (λ t. take (k + 1) t ++ decided m (grants_of (take (k + 1) t)) (drop (k + 1) t)) now ∙ mark_more m k rs lt ∙ inv.rows;
      levels =
          after
          ∙ ap (λ n. cond (ltb n m) (ls ++ (level_for g ∷ [])) ls) count
          ∙ ap (λ b. cond (ltb k m) (ls ++ (level_for b ∷ [])) ls) told
          ∙ ap (λ l. cond (ltb k m) (l ++ (level_for x.progress.granted ∷ [])) l) inv.levels
          ∙ sym (level_more m k rs x lt)
          ∙ sym (ap (λ t. levels_of m (take (k + 1) t)) now);
    }

pub turn_all : (m k : ℕ) (rs was : List FlowRow) (ls : List Level) → length rs ≤ k → Partly m k rs was ls → (rs ≡ decided m [] was) × (ls ≡ levels_of m (decided m [] was))
unfolding decided
turn_all m k rs was ls done inv =
    let whole : take k rs ≡ rs = take_all k rs done in
    let rows : rs ≡ decided m [] was =
    sym (append-nil rs) ∙ sym (ap (λ t. t ++ []) whole) ∙ sym (ap (λ t. take k rs ++ decided m (grants_of (take k rs)) t) (drop_all k rs done)) ∙ inv.rows in
    (rows, inv.levels ∙ ap (levels_of m) (whole ∙ rows))
