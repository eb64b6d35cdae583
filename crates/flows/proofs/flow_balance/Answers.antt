use Rattle.flows.proofs.Balance.{flow_balance_lem}
use Rattle.flows.proofs.flow_balance.Goals as goal

pub returns : goal.returns
returns c = flow_balance_lem
