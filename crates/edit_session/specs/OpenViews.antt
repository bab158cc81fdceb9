-- Several views of one style under edit. Source: own.
use Rattle.std.specs.Prelude.{ℕ, ℤ, List, [], map, Bool}
use Rattle.edit_script.specs.Edit.{Edit}
use Rattle.kept_layers.specs.Changes.{nothing_kept}
use Rattle.kept_layers.specs.KeptLayers.{StyleKept}
use Rattle.style_edits.specs.Layers.{layer_list}
use Rattle.style_layout.specs.Shown.{SourceTile}
use Rattle.edit_session.specs.Applied.{FeatureStates, applied}
use Rattle.edit_session.specs.SessionState.{SessionState}

-- A view that is open: its name, its zoom in millionths, the states of features in it, which cells it keeps of the
-- layers of the style, and the number of evaluations of its last listing.
pub record OpenView : Type 0 where
  pub name : List ℕ
  pub zoom : ℤ
  pub states : FeatureStates
  pub kept : StyleKept
  pub last : ℕ

-- a view of a style in which no feature has a state, and of which nothing is kept
abbrev pub fresh_view : SessionState → List ℕ → ℤ → OpenView
fresh_view p name zoom = record {
  name = name;
  zoom = zoom;
  states = λ source layer id. [];
  kept = nothing_kept (layer_list p.document);
  last = 0;
}

-- what a view shows: the style, by what is of the view
abbrev pub shown_in : SessionState → OpenView → SessionState
shown_in p v = record p { zoom = v.zoom; states = v.states; kept = v.kept; last = v.last }

-- what is left of the view, by what is shown in it
abbrev pub view_left : OpenView → SessionState → OpenView
view_left v after = record v { zoom = after.zoom; states = after.states; kept = after.kept; last = after.last }

-- over tiles, with the test on texts that can be shown; `can_change` says whether the test of images can change
module _ (tiles : List SourceTile) (scripts : List ℕ → Bool) (can_change : Bool) where
  -- what is left of a view after an edit in it
  abbrev pub after_edit : SessionState → Edit → OpenView → OpenView
  after_edit p edit v = view_left v (applied tiles scripts can_change (shown_in p v) edit).0

  -- An edit of the style is one in every view.
  abbrev pub in_each : SessionState → Edit → List OpenView → List OpenView
  in_each p edit vs = map (after_edit p edit) vs
