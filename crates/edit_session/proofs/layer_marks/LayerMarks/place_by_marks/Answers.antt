use Rattle.std.proofs.Common.{◌∙◌, ap, sym}
use Rattle.std.specs.List.{position}
use Rattle.std.specs.Prelude.{nat_eq}
use Rattle.decimal_json.specs.View.{tree_of}
use Rattle.style_edits.specs.Layers.{layer_list}
use Rattle.edit_session.proofs.MarkLaws.{nowhere_marked}
use Rattle.edit_session.proofs.layer_marks.LayerMarks.place_by_marks.Goals as goal

pub returns-in-None : goal.returns-in-None
returns-in-None c =
    let marks = c.args.self.now.marks.items in
    nowhere_marked c.args.id.now (layer_list (tree_of c.args.document.now)) marks c.requires.marks.0
    (sym c.in-None.is ∙ (c.first_marked.ensures ∙ ap (λ m. position (λ one. nat_eq one m) marks) c.requires.mark))
