-- An arbitration grants those whom the calls say. Assumes nothing.
use Rattle.std.proofs.Common.{◌≡◌, ℕ, zero, suc, ◌+◌, ◌-◌, ◌<◌, ◌≤◌, Bool, true, false, not, ◌&&◌, ◌||◌, eqb, ltb, List, [], ◌∷◌, map, length, get_or, Ok, sym, refl, ap, ◌∙◌, subst, ap₂, ⊎_elim, arith, take_all}
use Rattle.std.proofs.lemmas.List.FromFn.{fill_by_all}
use Rattle.std.proofs.lemmas.List.{get_or-map, length-map}
use Rattle.std.proofs.lemmas.Bool.{cases_Bool, and_left, eqb-false}
use Rattle.analysis.specs.declared.above.Above.{Above}
use Rattle.analysis.specs.Marks.{marked}
use Rattle.analysis.specs.Standing.{Stands}
use Rattle.calls.specs.declared.event.Event.TheVariants.{Arbitrated}
use Rattle.calls.specs.declared.slip_name.SlipName.{SlipName}
use Rattle.medium.specs.declared.level.Level.TheVariants.{Recessive}
use Rattle.medium.specs.Levels.{level_of}
use Rattle.fabric.specs.Paths.{links_in, shares}
use Rattle.packets.specs.Calls.{ledger, granted, wants}
use Rattle.packets.proofs.Arbiter.{granted_is}
use Rattle.packets.proofs.Rows.{wanting}
use Rattle.rows.specs.declared.flow_row.FlowRow.{FlowRow}
use Rattle.analysis.specs.declared.row.Row.{Row}
use Rattle.rows.specs.Blank.{no_row}
use Rattle.rows.specs.Grants.{blocked, decided, grants_of, levels_of, mark}
use Rattle.rows.specs.Grants as rows
use Rattle.rows.proofs.Decided.{decided_length, decided_row, decided_granted, grant_at}
use Rattle.timing.specs.Counts.{some_to}
use Rattle.timing.specs.Model.{Table, Flow}
use Rattle.history.specs.State.{State, row_of}
use Rattle.history.specs.Steps.{arbitrated}
use Rattle.history.specs.Counted.{History, accepted, levels_in}
use Rattle.history.specs.Since.{Since, Holds, Follows}
use Rattle.history.proofs.Carried.{no_release}

-- The marks of a flow over the flows before it, and the flows that delay it.
blocked_some :
    (a : Above) (gs : List Bool) (test : ℕ → Bool) (k : ℕ) → test 0 ≡ false → ((j : ℕ) → j < k → (marked a (suc j) && get_or gs j false) ≡ test (suc j)) →
    blocked a gs k ≡ some_to (suc k) test
unfolding blocked some_to
blocked_some a gs test zero none same = sym none
blocked_some a gs test (suc k) none same =
    ap₂ ◌||◌ (blocked_some a gs test k none (λ j less. same j (omega arith))) (same k (omega arith))

module _ (most : ℕ) (b : Table) (h : History) (s : State) (u : Since most b h s) where
  abbrev after : List FlowRow
  after = decided most [] s.rows

  -- who wants, by the packets of the calls so far
  abbrev want : ℕ → Bool
  want = wants b (ledger b (accepted h))

  place_in : (i : ℕ) → Flow b i → i - 1 < length s.rows
  place_in i f = omega (arith, f.from, f.upto, u.table.flows)

  row_wants : (i : ℕ) → Flow b i → rows.wants (row_of s i) ≡ want i
  row_wants i f = ap (ltb 0) (u.each i f).left ∙ sym (wanting b u.table.exact.lawful (accepted h) u.lawful i)

  nobody : (i j : ℕ) → (j ≡ 0) → b.H j i ≡ false
  nobody i j zero_is =
      ⊎_elim (λ (yes : b.H j i ≡ true). absurd (omega (arith, (u.table.exact.lawful.higher j i yes).0))) (λ (no : b.H j i ≡ false). no) (cases_Bool (b.H j i))

  -- the grants, from flow 1 on
  granted_upto : (n i : ℕ) → Flow b i → i ≤ n → (get_or after (i - 1) no_row).progress.granted ≡ granted b want i
  granted_upto zero i f below = absurd (omega (arith, f.from))
  granted_upto (suc n) i f below =
      let k = i - 1 in
      let back : suc k ≡ i = omega (arith, f.from) in
      let row = row_of s i in
      let test = λ (j : ℕ). b.H j i && granted b want j in
      let same = λ (j : ℕ) (less : j < k).
      let flow : Flow b (suc j) = record { from = omega arith; upto = omega (arith, f.upto) } in
      let place : suc j - 1 ≡ j = omega arith in
      ap₂ ◌&&◌ ((u.table.each i f).marks (suc j) (omega arith) (omega arith))
      (grant_at after j (omega (arith, decided_length most [] s.rows, place_in i f)) ∙ ap (λ m. (get_or after m no_row).progress.granted) (sym place) ∙ granted_upto n (suc j) flow (omega arith)) in
      decided_granted most s.rows k (place_in i f) (omega (arith, f.upto, f.from, u.table.fits))
      ∙ ap₂ (λ x y. x && not y) (row_wants i f)
      (blocked_some row.flow.above (grants_of after) test k (and_left (b.H 0 i) (granted b want 0) (nobody i 0 refl)) same ∙ ap (λ m. some_to m test) back)
      ∙ sym (granted_is b want i)

  -- a row after it: what load fixed stays, and so does the open packet
  row_is : (i : ℕ) → Flow b i → get_or after (i - 1) no_row ≡ mark (row_of s i) (granted b want i)
  row_is i f = decided_row most s.rows (i - 1) (place_in i f) ∙ ap (mark (row_of s i)) (granted_upto i i f (omega arith))

  flow_is : (i : ℕ) → Flow b i → (row_of (arbitrated most s) i).flow ≡ (row_of s i).flow
  flow_is i f = ap (λ (r : FlowRow). r.flow) (row_is i f)

  holds : Holds most b (arbitrated most s)
  holds =
      let t = u.table in
      record {
        exact = t.exact;
        flows = decided_length most [] s.rows ∙ t.flows;
        fits = t.fits;
        times = t.times;
        each = λ i f. subst (λ (r : Row). Stands b r i) (sym (flow_is i f)) (t.each i f);
        meets = λ j i g f. t.meets j i g f ∙ ap₂ (λ (x y : Row). ltb j i && shares (links_in x.path) (links_in y.path)) (sym (flow_is j g)) (sym (flow_is i f));
      }

  follows : (p : SlipName) (i : ℕ) → Flow b i → Follows b (Arbitrated (Ok p) ∷ h) i (row_of (arbitrated most s) i).progress
  follows p i f =
      let old = u.each i f in
      let P : FlowRow → Type 0 = λ r. Follows b (Arbitrated (Ok p) ∷ h) i r.progress in
      subst P (sym (row_is i f))
      (record {
        left = old.left;
        place = old.place;
        last = old.last;
        denials = old.denials;
        wanted = row_wants i f;
        granted = refl;
      })

  level_list : (p : SlipName) → levels_of most after ≡ levels_in b (Arbitrated (Ok p) ∷ h)
  level_list p =
      let gs = grants_of after in
      let count : length gs ≡ b.z = length-map after (λ (r : FlowRow). r.progress.granted) ∙ decided_length most [] s.rows ∙ u.table.flows in
      ap (map (λ g. level_of (not g))) (take_all most gs (omega (arith, count, u.table.fits)))
      ∙ fill_by_all (λ k. level_of (not (granted b want (k + 1)))) (map (λ g. level_of (not g)) gs) b.z Recessive
      (length-map gs (λ g. level_of (not g)) ∙ count)
      (λ k less.
      let flow : Flow b (k + 1) = record { from = omega arith; upto = omega arith } in
      let place : k + 1 - 1 ≡ k = omega arith in
      get_or-map (λ g. level_of (not g)) gs k false Recessive (omega (arith, count))
      ∙ ap (λ g. level_of (not g))
      (grant_at after k (omega (arith, decided_length most [] s.rows, u.table.flows)) ∙ ap (λ m. (get_or after m no_row).progress.granted) (sym place) ∙ granted_upto (k + 1) (k + 1) flow (omega arith)))

  pub arbitrate_since : (p : SlipName) → eqb s.slot 4294967295 ≡ false → Since most b (Arbitrated (Ok p) ∷ h) (arbitrated most s)
  arbitrate_since p below =
      record {
        table = holds;
        lawful = u.lawful;
        slot = u.slot;
        count = u.count;
        owed = refl;
        ended = u.ended;
        each = follows p;
        levels = level_list p;
        short = u.short;
        waiting = λ _ i. refl;
        room = λ _. omega (arith, u.short, eqb-false s.slot 4294967295 below);
        free = no_release b h (Arbitrated (Ok p)) (omega arith) u.free;
      }
