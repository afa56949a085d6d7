use Rattle.ci_shared.proofs.Orders
use Rattle.ci_shared.proofs.laws.script_orders.Goals as goal

pub returns : goal.returns
returns c = Orders.script_orders
