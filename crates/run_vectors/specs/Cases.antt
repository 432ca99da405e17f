-- What the definitions say of a worked case: a file over the mesh of four columns and one row, and a run of it. Assumes nothing.
use Rattle.run_vectors.specs.declared.case.Case.{Case}
use Rattle.run_vectors.specs.Runs.{Runs}

abbrev pub Holds : Case → Type 0
Holds c = Runs c.file c.steps c.ledger
