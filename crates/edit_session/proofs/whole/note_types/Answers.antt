use Rattle.decimal_json.specs.View.{tree_of}
use Rattle.edit_findings.proofs.DocumentLaws.{layers_are_there}
use Rattle.edit_session.proofs.FollowLaws.{typed_layers}
use Rattle.edit_session.proofs.whole.note_types.Goals as goal

pub returns-clause-typed : goal.returns-clause-typed
returns-clause-typed c = typed_layers (tree_of c.args.document.now) c.documents_have_distinct_members.ensures c.requires

pub returns-clause-there : goal.returns-clause-there
returns-clause-there c = layers_are_there (tree_of c.args.document.now) c.documents_have_distinct_members.ensures c.requires
