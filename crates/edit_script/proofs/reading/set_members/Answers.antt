use Rattle.std.proofs.Common.{ap}
use Rattle.decimal_json.specs.Tree.{fields_of}
use Rattle.decimal_json.specs.View.{tree_of}
use Rattle.edit_script.proofs.reading.set_members.Goals as goal

pub members_of-requires : goal.members_of-requires
members_of-requires c = (fields_of c.in-Object.field-0, ap tree_of c.in-Object.is)
