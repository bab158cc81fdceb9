use Rattle.std.proofs.Common.{ℕ, List, Bool}
use Rattle.decimal_json.specs.View.{tree_of}
use Rattle.edit_script.specs.View.{command_seen}
use Rattle.feature_index.specs.Indexes.{AreIndexed}
use Rattle.style_edits.specs.Layers.{layer_list}
use Rattle.edit_session.specs.Answering.{AreAccepted}
use Rattle.edit_session.specs.SessionState.{SessionState}
use Rattle.edit_session.specs.View.{tiles_of}
use Rattle.edit_session.proofs.ViewsFollow.{FirstFollowed}
use Rattle.edit_session.proofs.session.Session.follow_in_all.Given as goal

abbrev pub invariant-loop-view : goal.invariant-loop-view
invariant-loop-view l = record {
  indexed : AreIndexed (tiles_of l.self) l.indexes;
  followed : (scripts : List ℕ → Bool) (p : SessionState)
      → AreAccepted (tiles_of l.self) l.self.globals (layer_list (tree_of l.self.document)) scripts p (command_seen l.command) l.before l.fn.views
      → FirstFollowed (tiles_of l.self) scripts p (command_seen l.command) l.view-index l.fn.views l.views;
}
