use Rattle.std.proofs.Common.{◌∙◌, ap, map, sym, subst}
use Rattle.decimal_json.specs.View.{tree_of}
use Rattle.feature_index.specs.Indexes.{AreIndexed}
use Rattle.style_edits.specs.Layers.{layer_list}
use Rattle.style_layout.specs.Outlines.{layer_outline}
use Rattle.edit_session.specs.LayerMarks.{AreMarks}
use Rattle.edit_session.specs.View.{tiles_of, IsWholeDocument}
use Rattle.edit_session.specs.declared.session.Session.{Session}
use Rattle.edit_session.proofs.AppliedLaws.{whole_with}
use Rattle.edit_session.proofs.GlobalCells.{values_change_no_cell}
use Rattle.edit_session.proofs.SteadyLayers.{style_steady}
use Rattle.edit_session.proofs.session.Session.set_global.Goals as goal
use Rattle.edit_session.proofs.session.Session.set_global.Goals.{then-self+in_ok-self, else-self}

pub returns-clause-ready : goal.returns-clause-ready
returns-clause-ready c =
    let s = c.args.self.now in
    let document = tree_of s.document in
    let new = c.set_global.new.globals in
    let ready = c.requires.ready.0 in
    let marks = c.requires.ready.1 in
    let whole = whole_with s.layers.limit (tiles_of s) document new s.globals ready.is_accepted in
    let counted = ready.is_counted ∙ sym (values_change_no_cell (tiles_of s) document new s.globals) in
    let is_ready = λ (x : Session). IsWholeDocument (tiles_of x) x.globals (tree_of x.document) x.layers × (AreMarks x.marks (layer_list (tree_of x.document)) × AreIndexed (tiles_of x) x.indexes) in
    elim c.if-self.branch [
      | then-self+in_ok-self w ↦
          subst is_ready (sym w.self-is) (record { is_limited = ready.is_limited; is_accepted = whole; is_prepared = w.in_ok-self.ensures; is_counted = counted; is_noted = ready.is_noted }, marks)
      | else-self w ↦
          subst is_ready (sym w.self-is) (
            record {
              is_limited = ready.is_limited;
              is_accepted = whole;
              is_prepared = ready.is_prepared ∙ ap (map layer_outline) (sym (style_steady document new s.globals (ready.is_noted w.if-self.false)));
              is_counted = counted;
              is_noted = ready.is_noted;
            },
            marks,
          )
    ]
