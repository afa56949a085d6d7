use Rattle.ci_base.proofs.PrivateKinds.{private_kind}
use Rattle.ci_builtin.proofs.laws.gives_its_kind.Goals as goal

pub returns : goal.returns
returns c = private_kind
