-- Which checks of a call applied, from its answer. Assumes nothing.
use Rattle.std.proofs.Common.{◌≡◌, Bool, true, false, List, [], ◌∷◌, Some, None, Ok, Err, Option, sym, refl, ap, ◌∙◌, ⊎_elim}
use Rattle.std.proofs.lemmas.Bool.{cases_Bool}
use Rattle.calls.specs.declared.refusal.Refusal.{Refusal}
use Rattle.calls.specs.declared.refusal.Refusal.TheVariants.{NoFlow, Ended, Owed, Late, Ahead, Soon, Busy, ShortLedger, FullLedger}
use Rattle.calls.specs.Events.{first_refusal}
use Rattle.history.specs.Steps.{unless}

-- an accepted call: no check applied
pub accepted_none : {X : Type 0} (o : Option Refusal) (x y : X) → Ok x ≡ unless o y → o ≡ None
accepted_none None x y e = refl
accepted_none (Some r) x y e = cc

-- a refused call: the first check that applied
pub refused_some : {X : Type 0} (o : Option Refusal) (r : Refusal) (y : X) → Err r ≡ unless o y → o ≡ Some r
refused_some None r y e = cc
refused_some (Some q) r y e = cc

-- where none of the checks applied, the first did not, and none of the rest
pub passed : (t : Bool) (r : Refusal) (rest : List (Bool × Refusal)) → first_refusal ((t, r) ∷ rest) ≡ None → (t ≡ false) × (first_refusal rest ≡ None)
passed true r rest e = cc
passed false r rest e = (refl, e)

-- where another check was the first, this one did not apply
pub skipped : (t : Bool) (r q : Refusal) (rest : List (Bool × Refusal)) → (r ≡ q → ⊥) → first_refusal ((t, r) ∷ rest) ≡ Some q → (t ≡ false) × (first_refusal rest ≡ Some q)
skipped true r q rest other e = let same : r ≡ q = cc in absurd (other same)
skipped false r q rest other e = (refl, e)

-- The checks of a release, by their tests in the order of the checks.
abbrev pub nine : (ended owed unknown late ahead soon busy short full : Bool) → List (Bool × Refusal)
nine ended owed unknown late ahead soon busy short full =
    (ended, Ended) ∷ (owed, Owed) ∷ (unknown, NoFlow) ∷ (late, Late) ∷ (ahead, Ahead) ∷ (soon, Soon) ∷ (busy, Busy) ∷ (short, ShortLedger) ∷ (full, FullLedger) ∷ []

-- those that come before the one for an open packet
pub record BeforeBusy (ended owed unknown late ahead soon : Bool) : Type 0 where
  pub going : ended ≡ false
  pub idle : owed ≡ false
  pub flow : unknown ≡ false
  pub in_time : late ≡ false
  pub not_ahead : ahead ≡ false
  pub apart : soon ≡ false

module _ (ended owed unknown late ahead soon busy short full : Bool) where
  abbrev from_full : List (Bool × Refusal)
  from_full = (full, FullLedger) ∷ []

  abbrev from_short : List (Bool × Refusal)
  from_short = (short, ShortLedger) ∷ from_full

  abbrev from_busy : List (Bool × Refusal)
  from_busy = (busy, Busy) ∷ from_short

  abbrev from_soon : List (Bool × Refusal)
  from_soon = (soon, Soon) ∷ from_busy

  abbrev from_ahead : List (Bool × Refusal)
  from_ahead = (ahead, Ahead) ∷ from_soon

  abbrev from_late : List (Bool × Refusal)
  from_late = (late, Late) ∷ from_ahead

  abbrev from_flow : List (Bool × Refusal)
  from_flow = (unknown, NoFlow) ∷ from_late

  abbrev from_owed : List (Bool × Refusal)
  from_owed = (owed, Owed) ∷ from_flow

  pub release_passed : first_refusal (nine ended owed unknown late ahead soon busy short full) ≡ None →
      BeforeBusy ended owed unknown late ahead soon × (busy ≡ false) × (short ≡ false) × (full ≡ false)
  release_passed e =
      let a = passed ended Ended from_owed e in
      let b = passed owed Owed from_flow a.1 in
      let c = passed unknown NoFlow from_late b.1 in
      let d = passed late Late from_ahead c.1 in
      let f = passed ahead Ahead from_soon d.1 in
      let g = passed soon Soon from_busy f.1 in
      let h = passed busy Busy from_short g.1 in
      let i = passed short ShortLedger from_full h.1 in
      (record { going = a.0; idle = b.0; flow = c.0; in_time = d.0; not_ahead = f.0; apart = g.0 }, h.0, i.0, (passed full FullLedger [] i.1).0)

  pub release_busy : first_refusal (nine ended owed unknown late ahead soon busy short full) ≡ Some Busy → BeforeBusy ended owed unknown late ahead soon × (busy ≡ true)
  release_busy e =
      let a = skipped ended Ended Busy from_owed (λ x. cc) e in
      let b = skipped owed Owed Busy from_flow (λ x. cc) a.1 in
      let c = skipped unknown NoFlow Busy from_late (λ x. cc) b.1 in
      let d = skipped late Late Busy from_ahead (λ x. cc) c.1 in
      let f = skipped ahead Ahead Busy from_soon (λ x. cc) d.1 in
      let g = skipped soon Soon Busy from_busy (λ x. cc) f.1 in
      let last : busy ≡ false → busy ≡ true = λ no.
      let h = ap (λ t. first_refusal ((t, Busy) ∷ from_short)) (sym no) ∙ g.1 in
      let i = skipped short ShortLedger Busy from_full (λ x. cc) h in
      let j = (skipped full FullLedger Busy [] (λ x. cc) i.1).1 in
      cc in
      (record { going = a.0; idle = b.0; flow = c.0; in_time = d.0; not_ahead = f.0; apart = g.0 }, ⊎_elim (λ (yes : busy ≡ true). yes) last (cases_Bool busy))
