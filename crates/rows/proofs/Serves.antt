-- One flow more of an injection: what is left to serve gives what all flows give from the start. Assumes nothing.
--   small_turn: the row of the next flow is small
--   serve_more, serve_all: a loop over all flows
--   small_served: served rows are small; whole: the rows of a vector that was lent whole
use Rattle.std.proofs.Common.{◌≡◌, ℕ, ◌+◌, ◌<◌, ◌≤◌, List, [], ◌∷◌, ◌++◌, map, length, get_or, take, drop, set, sym, ap, ap₂, ◌∙◌, subst, append-nil, arith}
use Rattle.std.proofs.lemmas.List.{get_or-map, length-map, take_all, take_more_set, drop_all, drop-set-lt, drop_more, map_more}
use Rattle.std.proofs.lemmas.Grind.{drop_more_same}
use Rattle.calls.specs.declared.record.Record.{Record}
use Rattle.rows.specs.declared.flow_row.FlowRow.{FlowRow}
use Rattle.rows.specs.Serving.{served, wrote, ledger_after, one, grant_count}
use Rattle.rows.specs.Small.{IsSmall, Small}

-- the rows where the first k flows were served, what they were before, and the ledger and the grants by then
pub record Partly (end k : ℕ) (now was : List FlowRow) (l l₀ : List Record) (grants : ℕ) : Type 0 where
  pub front : take k now ≡ map served (take k was)
  pub back : drop k now ≡ drop k was
  pub ledger : ledger_after end (drop k was) l ≡ ledger_after end was l₀
  pub count : grants + grant_count (drop k was) ≡ grant_count was
  pub few : grants ≤ k

-- the row of the next flow is as it was, and so small
turn : (now was : List FlowRow) (k : ℕ) (d : FlowRow) → length now ≡ length was → k < length was → drop k now ≡ drop k was → get_or now k d ≡ get_or was k d
turn now was k d same lt back =
    let parts : get_or now k d ∷ drop (k + 1) now ≡ get_or was k d ∷ drop (k + 1) was = sym (drop_more now k d (omega arith)) ∙ back ∙ drop_more was k d lt in
    cc

pub small_turn : (now was : List FlowRow) (k : ℕ) (d : FlowRow) → length now ≡ length was → k < length was → drop k now ≡ drop k was → Small was → IsSmall (get_or now k d).flow
small_turn now was k d same lt back small = subst (λ (r : FlowRow). IsSmall r.flow) (sym (turn now was k d same lt back)) (small k d lt)

one_le : (r : FlowRow) → one r ≤ 1
one_le r = grind arith

pub serve_more : (end k : ℕ) (now was : List FlowRow) (l l₁ l₀ : List Record) (d row : FlowRow) (grants n : ℕ) → length now ≡ length was → k < length was → n ≡ one (get_or now k d)
    → row ≡ served (get_or now k d) → l₁ ≡ wrote end (get_or now k d) l → Partly end k now was l l₀ grants → Partly end (k + 1) (set now k row) was l₁ l₀ (grants + n)
unfolding ledger_after grant_count
serve_more end k now was l l₁ l₀ d row grants n same lt answer after written inv =
    let is = turn now was k d same lt inv.back in
    let rest = drop_more was k d lt in
    record {
      front =
          take_more_set now k row (omega arith)
          ∙ ap₂ (λ (rs : List FlowRow) (r : FlowRow). rs ++ (r ∷ [])) inv.front (after ∙ ap served is)
          ∙ sym (map_more served was k d lt);
      back = drop-set-lt (k + 1) now k row (omega arith) ∙ drop_more_same now was k inv.back;
      ledger = ap (ledger_after end (drop (k + 1) was)) (written ∙ ap (λ r. wrote end r l) is) ∙ sym (ap (λ t. ledger_after end t l) rest) ∙ inv.ledger;
      count = omega (arith, inv.count, ap grant_count rest, answer, ap one is);
      few = omega (arith, inv.few, answer, one_le (get_or now k d));
    }

pub serve_all : (end k : ℕ) (now was : List FlowRow) (l l₀ : List Record) (grants : ℕ) → length now ≡ length was → length was ≤ k → Partly end k now was l l₀ grants
    → (grants ≡ grant_count was) × (now ≡ map served was) × (l ≡ ledger_after end was l₀)
unfolding ledger_after grant_count
serve_all end k now was l l₀ grants same done inv =
    let none = drop_all k was done in (
      omega (arith, inv.count, ap grant_count none),
      sym (take_all k now (omega arith)) ∙ inv.front ∙ ap (map served) (take_all k was done),
      sym (ap (λ t. ledger_after end t l) none) ∙ inv.ledger,
    )

pub small_served : (rows : List FlowRow) → Small rows → Small (map served rows)
small_served rows small k d lt =
    let within : k < length rows = omega (arith, length-map rows served) in
    subst (λ (r : FlowRow). IsSmall r.flow) (sym (get_or-map served rows k d d within)) (small k d within)

pub whole : (now was : List FlowRow) (n : ℕ) → length now ≡ length was → n ≡ length was → take n (now ++ drop (length now) was) ≡ now
whole now was n same all = simp (drop_all (length now) was (omega arith), append-nil) (take_all n now (omega arith))
