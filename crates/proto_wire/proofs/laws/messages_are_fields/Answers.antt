use Rattle.proto_wire.proofs.MessageLaws.{fields_stand, some_fields, no_other_fields}
use Rattle.proto_wire.proofs.laws.messages_are_fields.Goals as goal

pub returns-clause-stand : goal.returns-clause-stand
returns-clause-stand c = fields_stand

pub returns-clause-some : goal.returns-clause-some
returns-clause-some c = some_fields

pub returns-clause-only : goal.returns-clause-only
returns-clause-only c = no_other_fields
