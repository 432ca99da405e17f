-- What an injection leaves in each row, and in each record. Assumes nothing.
--   served_at: each row is served
--   ledger_length, ledger_other: no record comes or goes, and one that no row that wanted has its place at stays as it is
--   ledger_at: the record of a row that wanted, and that is alone at its place
use Rattle.std.proofs.Common.{◌≡◌, ℕ, zero, suc, ◌<◌, Bool, true, false, cond, List, [], ◌∷◌, map, length, get_or, set, sym, refl, ap, ◌∙◌, arith}
use Rattle.std.proofs.lemmas.List.{get_or-map, get_or-set_same, get_or-set_other, length-set}
use Rattle.calls.specs.declared.record.Record.{Record}
use Rattle.calls.specs.Events.{no_record}
use Rattle.rows.specs.declared.flow_row.FlowRow.{FlowRow}
use Rattle.rows.specs.Blank.{no_row}
use Rattle.rows.specs.Serving.{served, noted, wrote, ledger_after}

pub served_at : (rs : List FlowRow) (k : ℕ) → k < length rs → get_or (map served rs) k no_row ≡ served (get_or rs k no_row)
served_at rs k lt = get_or-map served rs k no_row no_row lt

-- a record that is put in, or not
put_length : (b : Bool) (l : List Record) (p : ℕ) (x : Record) → length (cond b (set l p x) l) ≡ length l
put_length true l p x = length-set l p x
put_length false l p x = refl

put_other : (b : Bool) (l : List Record) (p q : ℕ) (x : Record) → (b ≡ true → p ≡ q → ⊥) → get_or (cond b (set l p x) l) q no_record ≡ get_or l q no_record
put_other true l p q x apart = get_or-set_other l p q x no_record (λ e. apart refl (sym e))
put_other false l p q x apart = refl

wrote_length : (end : ℕ) (r : FlowRow) (l : List Record) → length (wrote end r l) ≡ length l
wrote_length end r l =
    let place = r.progress.place in
    put_length r.progress.wanted l place (noted end (served r) (get_or l place no_record))

wrote_other : (end : ℕ) (r : FlowRow) (l : List Record) (p : ℕ) → (r.progress.wanted ≡ true → r.progress.place ≡ p → ⊥) → get_or (wrote end r l) p no_record ≡ get_or l p no_record
wrote_other end r l p apart =
    let place = r.progress.place in
    put_other r.progress.wanted l place p (noted end (served r) (get_or l place no_record)) apart

wrote_here : (end : ℕ) (r : FlowRow) (l : List Record) → r.progress.wanted ≡ true → r.progress.place < length l
    → get_or (wrote end r l) r.progress.place no_record ≡ noted end (served r) (get_or l r.progress.place no_record)
wrote_here end r l wanted lt =
    let place = r.progress.place in
    let new = noted end (served r) (get_or l place no_record) in
    ap (λ b. get_or (cond b (set l place new) l) place no_record) wanted ∙ get_or-set_same l place new no_record lt

pub ledger_length : (end : ℕ) (rs : List FlowRow) (l : List Record) → length (ledger_after end rs l) ≡ length l
unfolding ledger_after
ledger_length end [] l = refl
ledger_length end (r ∷ rs) l = ledger_length end rs (wrote end r l) ∙ wrote_length end r l

pub ledger_other : (end : ℕ) (rs : List FlowRow) (l : List Record) (p : ℕ)
    → ((k : ℕ) → k < length rs → (get_or rs k no_row).progress.wanted ≡ true → (get_or rs k no_row).progress.place ≡ p → ⊥)
    → get_or (ledger_after end rs l) p no_record ≡ get_or l p no_record
unfolding ledger_after
ledger_other end [] l p apart = refl
ledger_other end (r ∷ rs) l p apart =
    ledger_other end rs (wrote end r l) p (λ k lt. apart (suc k) (omega arith)) ∙ wrote_other end r l p (apart 0 (omega arith))

pub ledger_at : (end : ℕ) (rs : List FlowRow) (l : List Record) (k : ℕ) → k < length rs → (get_or rs k no_row).progress.wanted ≡ true → (get_or rs k no_row).progress.place < length l
    → ((j : ℕ) → j < length rs → (j ≡ k → ⊥) → (get_or rs j no_row).progress.wanted ≡ true → (get_or rs j no_row).progress.place ≡ (get_or rs k no_row).progress.place → ⊥)
    → get_or (ledger_after end rs l) (get_or rs k no_row).progress.place no_record ≡ noted end (served (get_or rs k no_row)) (get_or l (get_or rs k no_row).progress.place no_record)
unfolding ledger_after
ledger_at end [] l k lt wanted inside alone = absurd (omega arith)
ledger_at end (r ∷ rs) l zero lt wanted inside alone =
    ledger_other end rs (wrote end r l) r.progress.place (λ j q. alone (suc j) (omega arith) (omega arith)) ∙ wrote_here end r l wanted inside
ledger_at end (r ∷ rs) l (suc k) lt wanted inside alone =
    ledger_at end rs (wrote end r l) k (omega arith) wanted (omega (arith, wrote_length end r l)) (λ j q ne. alone (suc j) (omega arith) (omega arith))
    ∙ ap (noted end (served (get_or rs k no_row))) (wrote_other end r l (get_or rs k no_row).progress.place (alone 0 (omega arith) (omega arith)))
