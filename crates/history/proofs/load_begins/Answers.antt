use Rattle.history.proofs.Beginning.{load_begins}
use Rattle.history.proofs.load_begins.Goals as goal

pub returns : goal.returns
returns c = load_begins
