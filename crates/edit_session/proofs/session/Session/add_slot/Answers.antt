use Rattle.std.proofs.Common.{length, ap, arith}
use Rattle.std.proofs.lemmas.List.{length-map}
use Rattle.decimal_json.specs.View.{tree_of}
use Rattle.style_edits.proofs.DocumentLaws.{layers_listed}
use Rattle.edit_session.proofs.session.Session.add_slot.Goals as goal

pub insert-requires : goal.insert-requires
insert-requires c =
    let js = c.layers_of-count.result.now in
    let is = layers_listed (tree_of c.args.self.now.document) js c.layers_of-count.ensures in
    let same = length-map js tree_of in
    omega (arith, c.requires.slots, ap length is, same)
