use Rattle.proto_wire.proofs.VarintLaws.{varints_are_spelled}
use Rattle.proto_wire.proofs.laws.varints_are_spelled.Goals as goal

pub returns : goal.returns
returns c = varints_are_spelled
