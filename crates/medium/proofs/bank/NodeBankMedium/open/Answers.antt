use Rattle.std.proofs.Common.{arith}
use Rattle.std.proofs.lemmas.Bool.Decides.{nat_tests}
use Rattle.medium.specs.Pulls.{pulled_at}
use Rattle.medium.proofs.LevelLists.{levels_length, levels_more}
use Rattle.medium.proofs.bank.NodeBankMedium.open.Goals as goal

pub returns : goal.returns
returns c =
    let s = c.args.self.now in
    let told = pulled_at s.words.bits in
    let wide = levels_length told s.count in
    let more = levels_more told s.count (s.clear s.count (omega arith) (omega arith)) in
    record { answer = grind (arith, nat_tests); after = grind (arith, nat_tests) }
