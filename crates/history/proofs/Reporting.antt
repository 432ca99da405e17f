-- A report counts the packets. Assumes nothing.
use Rattle.std.proofs.Common.{◌≡◌, ℕ, suc, ◌+◌, ◌<◌, ◌≤◌, Bool, true, false, cond, not, ltb, List, [], ◌∷◌, length, get_or, take, Ok, Err, count_by, Result, sym, refl, ap, ◌∙◌, ap₂, arith}
use Rattle.std.proofs.lemmas.List.{length-take-le, get_or-take}
use Rattle.std.proofs.lemmas.Bool.{ltb-false}
use Rattle.std.proofs.lemmas.List.Sums.{sum_by-cons}
use Rattle.calls.specs.declared.event.Event.TheVariants.{Reported}
use Rattle.calls.specs.declared.record.Record.{Record}
use Rattle.calls.specs.declared.report.Report.{Report}
use Rattle.calls.specs.declared.refusal.Refusal.{Refusal}
use Rattle.calls.specs.declared.refusal.Refusal.TheVariants.{ShortLedger}
use Rattle.calls.specs.Events.{no_record}
use Rattle.packets.specs.Calls.{Packet, no_packet, is_open, ledger}
use Rattle.packets.proofs.Steps.{ledger_length}
use Rattle.reports.proofs.Counting.{counts_add}
use Rattle.reports.specs.Reports.{arrived_in, pending_in, told, report_of}
use Rattle.rows.specs.declared.flow_row.FlowRow.{FlowRow}
use Rattle.timing.specs.Model.{Table}
use Rattle.history.specs.State.{State}
use Rattle.history.specs.Counted.{History, accepted}
use Rattle.history.specs.Since.{Since, Lists, Counts}
use Rattle.history.proofs.Carried.{lists_alike}

-- records and packets that are open at the same places
alike :
    (b : Table) (k : List Record) (ps : List Packet) → length k ≡ length ps → ((p : ℕ) → p < length k → (get_or k p no_record).pending ≡ is_open b (get_or ps p no_packet)) →
    (arrived_in k ≡ count_by (λ p. not (is_open b p)) ps) × (pending_in k ≡ count_by (is_open b) ps)
alike b [] [] long same = (refl, refl)
alike b [] (q ∷ ps) long same = absurd (omega arith)
alike b (r ∷ k) [] long same = absurd (omega arith)
alike b (r ∷ k) (q ∷ ps) long same =
    let here : r.pending ≡ is_open b q = same 0 (omega arith) in
    let rest = alike b k ps (omega arith) (λ p less. same (suc p) (omega arith)) in (
      ap₂ (λ (x y : ℕ). x + y) (ap (λ c. cond c 0 1) here ∙ turned (is_open b q)) rest.0 ∙ sym (sum_by-cons (λ p. cond (not (is_open b p)) 1 0) q ps),
      ap₂ (λ (x y : ℕ). x + y) (ap (λ c. cond c 1 0) here) rest.1 ∙ sym (sum_by-cons (λ p. cond (is_open b p) 1 0) q ps),
    )
  where
    turned : (c : Bool) → ◌≡◌ {A = ℕ} (cond c 0 1) (cond (not c) 1 0)
    turned true = refl
    turned false = refl

-- the answer, where the ledger is long enough
pub report_is : (rows : List FlowRow) (count : ℕ) (k : List Record) (r : Report) → Ok r ≡ report_of rows count k → (count ≤ length k) × (r ≡ told rows (take count k))
report_is rows count k r e = go (ltb (length k) count) refl
  where
    go : (c : Bool) → ltb (length k) count ≡ c → (count ≤ length k) × (r ≡ told rows (take count k))
    go true is = let z : ◌≡◌ {A = Result Report Refusal} (Ok r) (Err ShortLedger) = e ∙ ap (λ c. cond c (Err ShortLedger) (Ok (told rows (take count k)))) is in cc
    go false is = let z : ◌≡◌ {A = Result Report Refusal} (Ok r) (Ok (told rows (take count k))) = e ∙ ap (λ c. cond c (Err ShortLedger) (Ok (told rows (take count k)))) is in (ltb-false (length k) count is, cc)

pub report_counts :
    (most : ℕ) (b : Table) (h : History) (s : State) (k : List Record) (r : Report) → Since most b h s → Lists b h k → Ok r ≡ report_of s.rows s.count k → Counts b (accepted h) r
report_counts most b h s k r u l e =
    let answer = report_is s.rows s.count k r e in
    let front = take s.count k in
    let size : length front ≡ s.count = length-take-le s.count k answer.0 in
    let made = ledger_length b (accepted h) in
    let both = alike b front (ledger b (accepted h)) (omega (arith, size, made, u.count))
    (λ p less. ap (λ (x : Record). x.pending) (get_or-take s.count k p no_record (omega (arith, size)) ∙ l.each p (omega (arith, size, u.count)))) in
    record {
      accepted = ap (λ (x : Report). x.accepted) answer.1 ∙ size ∙ u.count ∙ sym made;
      arrived = ap (λ (x : Report). x.arrived) answer.1 ∙ both.0;
      pending = ap (λ (x : Report). x.pending) answer.1 ∙ both.1;
      sum = ap (λ (x : Report). x.accepted) answer.1 ∙ sym (counts_add front) ∙ sym (ap (λ (x : Report). x.arrived + x.pending) answer.1);
    }

pub report_lists :
    (most : ℕ) (b : Table) (h : History) (s : State) (k : List Record) (r : Result Report Refusal) → r ≡ report_of s.rows s.count k → Since most b h s → Lists b h k →
    Lists b (Reported r ∷ h) k
report_lists most b h s k r is u l =
    lists_alike b h (Reported r ∷ h) k refl ((λ q same. let eq : r ≡ Ok q = cc in report_counts most b h s k q u l (sym eq ∙ is)), l.told) l
