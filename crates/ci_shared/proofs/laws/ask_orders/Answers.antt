use Rattle.ci_shared.proofs.Orders
use Rattle.ci_shared.proofs.laws.ask_orders.Goals as goal

pub returns : goal.returns
returns c = Orders.ask_orders
