-- Slips in answers. Assumes nothing.
--   named: an answer with the slip by what it names; bare: a refusal without the slip that it hands back
--   HandedBack: a refusal hands back the slip that was handed in
use Rattle.std.specs.Prelude.{◌≡◌, Ok, Err, Result}
use Rattle.calls.specs.declared.refusal.Refusal.{Refusal}
use Rattle.calls.specs.declared.slip_name.SlipName.{SlipName}
use Rattle.run.specs.declared.slip.Slip.{Slip}

abbrev pub named : Result Slip Refusal → Result SlipName Refusal
named (Ok slip) = Ok slip.name
named (Err e) = Err e

abbrev pub bare : {X : Type 0} → Result X (Refusal × Slip) → Result X Refusal
bare (Ok x) = Ok x
bare (Err e) = Err e.0

abbrev pub HandedBack : {X : Type 0} → Slip → Result X (Refusal × Slip) → Type 0
HandedBack slip (Ok x) = Unit {0}
HandedBack slip (Err e) = e.1 ≡ slip
