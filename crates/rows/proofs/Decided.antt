-- Who is granted in a slot, flow by flow. Assumes nothing.
--   decided_length, decided_row: a slot's intervals change the marks of each row, and nothing else
--   grant_at: whether a flow was granted, read from its row
--   decided_granted: a flow is granted exactly where it wants, and no flow above that shares a link was granted
use Rattle.std.proofs.Common.{◌≡◌, ℕ, zero, suc, ◌<◌, ◌≤◌, Bool, false, not, ◌&&◌, ◌||◌, ltb, List, [], ◌∷◌, ◌++◌, length, get_or, take, sym, refl, ap, ◌∙◌, append_assoc, append-nil, arith}
use Rattle.std.proofs.lemmas.List.{get_or-map, get_or-take, length-map, length-take-le, take-map}
use Rattle.std.proofs.lemmas.Bool.{lt-ltb, le-ltb}
use Rattle.analysis.specs.declared.above.Above.{Above}
use Rattle.analysis.specs.Marks.{marked}
use Rattle.rows.specs.declared.flow_row.FlowRow.{FlowRow}
use Rattle.rows.specs.Blank.{no_row}
use Rattle.rows.specs.Grants.{wants, blocked, granting, mark, decided, grants_of}

pub decided_length : (most : ℕ) (gs : List Bool) (rs : List FlowRow) → length (decided most gs rs) ≡ length rs
unfolding decided
decided_length most gs [] = refl
decided_length most gs (r ∷ rs) = ap suc (decided_length most (gs ++ (granting most gs r ∷ [])) rs)

-- each row is marked by what is known of the flows before it
pub decided_get : (most : ℕ) (gs : List Bool) (rs : List FlowRow) (k : ℕ) → k < length rs
    → get_or (decided most gs rs) k no_row ≡ mark (get_or rs k no_row) (granting most (gs ++ grants_of (take k (decided most gs rs))) (get_or rs k no_row))
unfolding decided
decided_get most gs [] k lt = absurd (omega arith)
decided_get most gs (r ∷ rs) zero lt = ap (λ hs. mark r (granting most hs r)) (sym (append-nil gs))
decided_get most gs (r ∷ rs) (suc k) lt =
    let g = granting most gs r in
    let rest = grants_of (take k (decided most (gs ++ (g ∷ [])) rs)) in
    decided_get most (gs ++ (g ∷ [])) rs k (omega arith)
    ∙ ap (λ hs. mark (get_or rs k no_row) (granting most hs (get_or rs k no_row))) (append_assoc gs (g ∷ []) rest)

pub decided_row : (most : ℕ) (rs : List FlowRow) (k : ℕ) → k < length rs
    → get_or (decided most [] rs) k no_row ≡ mark (get_or rs k no_row) (get_or (decided most [] rs) k no_row).progress.granted
decided_row most rs k lt =
    let is = decided_get most [] rs k lt in
    is ∙ ap (mark (get_or rs k no_row)) (sym (ap (λ (r : FlowRow). r.progress.granted) is))

pub grant_at : (rs : List FlowRow) (k : ℕ) → k < length rs → get_or (grants_of rs) k false ≡ (get_or rs k no_row).progress.granted
grant_at rs k lt = get_or-map (λ (r : FlowRow). r.progress.granted) rs k no_row false lt

-- only the first flows tell whether a flow is blocked
pub blocked_take : (a : Above) (gs : List Bool) (n k : ℕ) → k ≤ n → blocked a (take n gs) k ≡ blocked a gs k
unfolding blocked
blocked_take a gs n zero le = refl
blocked_take a gs n (suc k) le =
    ap (λ b. b || (marked a (suc k) && get_or (take n gs) k false)) (blocked_take a gs n k (omega arith))
    ∙ ap (λ b. blocked a gs k || (marked a (suc k) && b)) (get_or-take n gs k false (omega arith))

pub grants_front : (rs : List FlowRow) (k : ℕ) → k ≤ length rs → length (take k (grants_of rs)) ≡ k
grants_front rs k le = length-take-le k (grants_of rs) (omega (arith, length-map rs (λ (r : FlowRow). r.progress.granted)))

-- the grant of the next flow, below the limit of the medium and at it
pub granting_in : (most : ℕ) (rs : List FlowRow) (k : ℕ) (r : FlowRow) → k ≤ length rs → k < most
    → granting most (take k (grants_of rs)) r ≡ (wants r && not (blocked r.flow.above (grants_of rs) k))
granting_in most rs k r le lt =
    let gs = grants_of rs in
    ap (λ n. ltb n most && (wants r && not (blocked r.flow.above (take k gs) n))) (grants_front rs k le)
    ∙ ap (λ b. b && (wants r && not (blocked r.flow.above (take k gs) k))) (lt-ltb k most lt)
    ∙ ap (λ b. wants r && not b) (blocked_take r.flow.above gs k k (omega arith))

pub granting_out : (most : ℕ) (rs : List FlowRow) (k : ℕ) (r : FlowRow) → k ≤ length rs → most ≤ k → granting most (take k (grants_of rs)) r ≡ false
granting_out most rs k r le over =
    let gs = grants_of rs in
    ap (λ n. ltb n most && (wants r && not (blocked r.flow.above (take k gs) n))) (grants_front rs k le)
    ∙ ap (λ b. b && (wants r && not (blocked r.flow.above (take k gs) k))) (le-ltb k most over)

pub decided_granted : (most : ℕ) (rs : List FlowRow) (k : ℕ) → k < length rs → k < most
    → (get_or (decided most [] rs) k no_row).progress.granted ≡ (wants (get_or rs k no_row) && not (blocked (get_or rs k no_row).flow.above (grants_of (decided most [] rs)) k))
decided_granted most rs k lt under =
    let ds = decided most [] rs in
    let r = get_or rs k no_row in
    ap (λ (q : FlowRow). q.progress.granted) (decided_get most [] rs k lt)
    ∙ ap (λ gs. granting most gs r) (sym (take-map (λ (q : FlowRow). q.progress.granted) k ds))
    ∙ granting_in most ds k r (omega (arith, decided_length most [] rs)) under
