use Rattle.std.proofs.Common.{◌-◌, ◌<◌, ap, ◌∙◌, arith}
use Rattle.std.proofs.lemmas.Bool.Decides.{nat_tests}
use Rattle.medium.specs.Pulls.{bank_levels, pulled_at}
use Rattle.medium.proofs.Refusals.{pull_accepted}
use Rattle.medium.proofs.LevelLists.{levels_length}
use Rattle.medium.proofs.NodePulls.{other_same, pull_last}
use Rattle.medium.proofs.bank.NodeBankMedium.pull.Goals as goal

-- The pull leaves the intervals that are not open yet as they were.
pub invariant_of-self-clause-clear : goal.invariant_of-self-clause-clear
invariant_of-self-clause-clear c =
    let s = c.args.self.now in
    let may : (0 < s.count) × (c.args.node < 256) = pull_accepted _ _ c.in_ok-check_pull.ensures in
    λ k l h.
    ap (λ ws. pulled_at ws k) c.pull.ensures
    ∙ other_same s.words.bits c.args.node (s.count - 1) k s.words.long (omega arith) (omega arith) h (omega arith)
    ∙ s.clear k l h

pub returns-clause-after : goal.returns-clause-after
returns-clause-after c =
    let s = c.args.self.now in
    let may : (0 < s.count) × (c.args.node < 256) = pull_accepted _ _ c.in_ok-check_pull.ensures in
    let ws = s.words.bits in
    let wide = levels_length (pulled_at ws) s.count in
    let last = pull_last ws c.args.node s.count s.words.long (omega arith) (omega arith) s.few in
    let told = ap (λ vs. bank_levels vs s.count) c.pull.ensures in
    grind (arith, nat_tests)
