-- Rows that are small: one row more, and a flow that is not small. Assumes nothing.
use Rattle.std.proofs.Common.{◌≡◌, ℕ, ◌^◌, ◌<◌, false, true, ◌&&◌, ltb, List, [], ◌∷◌, ◌++◌, map, length, get_or, sym, ap, ◌∙◌, subst, inl, inr, arith}
use Rattle.std.proofs.lemmas.List.{get_or-map, length-map, length_push, get_or_push, get_or_append_left}
use Rattle.std.proofs.lemmas.Bool.{both_ways, cases_lt, and_parts, ltb-true, lt-ltb}
use Rattle.analysis.specs.declared.row.Row.{Row}
use Rattle.rows.specs.declared.flow_row.FlowRow.{FlowRow}
use Rattle.rows.specs.Blank.{idle}
use Rattle.rows.specs.Small.{IsSmall, Small}

pub small_more : (rows new : List FlowRow) (row : FlowRow) → Small rows → IsSmall row.flow → new ≡ rows ++ (row ∷ []) → Small new
small_more rows new row before here after k d less =
    let size : length new ≡ length (rows ++ (row ∷ [])) = ap length after in
    elim (cases_lt k (length rows)) [
      | inl old ↦
          let same = ap (λ (l : List FlowRow). get_or l k d) after ∙ get_or_append_left rows (row ∷ []) d k old in
          subst (λ (r : FlowRow). IsSmall r.flow) (sym same) (before k d old)
      | inr last ↦
          let at : length rows ≡ k = omega (arith, size, length_push rows row) in
          let same = ap (λ (l : List FlowRow). get_or l k d) after ∙ get_or_push rows row d k at in
          subst (λ (r : FlowRow). IsSmall r.flow) (sym same) here
    ]

-- what the test of a flow tells
pub passed_small : (flow : Row) → (ltb flow.record.source 256 && ltb flow.tail (2 ^ 60)) ≡ true → IsSmall flow
passed_small flow e =
    let parts = and_parts (ltb flow.record.source 256) (ltb flow.tail (2 ^ 60)) e in
    record { near = ltb-true flow.record.source 256 parts.0; brief = ltb-true flow.tail (2 ^ 60) parts.1 }

small_passed : (flow : Row) → IsSmall flow → (ltb flow.record.source 256 && ltb flow.tail (2 ^ 60)) ≡ true
small_passed flow small = rw (lt-ltb flow.record.source 256 small.near) (lt-ltb flow.tail (2 ^ 60) small.brief)

-- a flow that fails it is not small
pub failed_small : (flows : List Row) (k : ℕ) (flow : Row) → k < length flows → flow ≡ get_or flows k flow → (ltb flow.record.source 256 && ltb flow.tail (2 ^ 60)) ≡ false
    → Small (map idle flows) → ⊥
failed_small flows k flow less here e small =
    let row = small k (idle flow) (omega (arith, length-map flows idle)) in
    let at = get_or-map idle flows k flow (idle flow) less ∙ ap idle (sym here) in
    let one = subst (λ (r : FlowRow). IsSmall r.flow) at row in
    both_ways (ltb flow.record.source 256 && ltb flow.tail (2 ^ 60)) e (small_passed flow one)
