use Rattle.std.proofs.Common.{ap, ◌∙◌}
use Rattle.medium.specs.Pulls.{pulled_at}
use Rattle.medium.proofs.NodePulls.{cleared}
use Rattle.medium.proofs.bank.NodeBankMedium.clear.Goals as goal

pub invariant_of-self-clause-clear : goal.invariant_of-self-clause-clear
invariant_of-self-clause-clear c = λ k l h. ap (λ ws. pulled_at ws k) c.clear.ensures ∙ cleared k
