use Rattle.std.proofs.Common.{ap, ◌∙◌}
use Rattle.medium.specs.Pulls.{pulled_at}
use Rattle.medium.proofs.NodePulls.{cleared}
use Rattle.medium.proofs.bank.NodeBank.new.Goals as goal

pub invariant_of-result-clause-clear : goal.invariant_of-result-clause-clear
invariant_of-result-clause-clear c = λ k l h. ap (λ ws. pulled_at ws k) c.new.ensures ∙ cleared k
