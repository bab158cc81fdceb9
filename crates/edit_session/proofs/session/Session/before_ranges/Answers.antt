use Rattle.std.proofs.Common.{◌∙◌, ap, sym}
use Rattle.std.proofs.lemmas.List.{length-map}
use Rattle.decimal_json.specs.View.{tree_of}
use Rattle.style_edits.proofs.DocumentLaws.{layers_listed}
use Rattle.std.specs.Prelude.{length}
use Rattle.edit_session.proofs.session.Session.before_ranges.Goals as goal

pub returns-clause-before : goal.returns-clause-before
returns-clause-before c =
    let js = c.layers_of.result.now in
    record {
      places = c.places.ensures;
      count = sym (length-map js tree_of) ∙ ap length (layers_listed (tree_of c.make_ready-made.new.self.document) js c.layers_of.ensures);
    }
