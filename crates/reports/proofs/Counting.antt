-- The counts of a ledger's records add up, and rest on what the records say of being open and on nothing else. Assumes nothing.
use Rattle.std.proofs.Common.{◌≡◌, ◌+◌, List, [], ◌∷◌, length, refl, arith}
use Rattle.std.proofs.lemmas.Bool.Decides.{nat_tests}
use Rattle.calls.specs.declared.record.Record.{Record}
use Rattle.reports.specs.Reports.{arrived_in, pending_in}

pub counts_add : (k : List Record) → arrived_in k + pending_in k ≡ length k
counts_add [] = refl
counts_add (r ∷ k) = grind (arith, nat_tests, counts_add k)
