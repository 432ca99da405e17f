use Rattle.timing.proofs.Staircase.{search_finds}
use Rattle.timing.proofs.search_finds.Goals as goal

pub returns : goal.returns
returns c = search_finds
