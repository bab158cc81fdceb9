-- What the program's values are to a clause.
use Rattle.std.specs.Prelude.{◌≡◌, ◌≤◌, ℕ, List, [], ◌∷◌, length, map, Bool, false, None}
use Rattle.decimal_json.specs.Tree.{Tree}
use Rattle.decimal_json.specs.View.{tree_of}
use Rattle.expr_nodes.specs.Evaluators.{Sized}
use Rattle.feature_index.specs.Indexes.{AreIndexed}
use Rattle.feature_states.specs.Members.{members_at}
use Rattle.global_laws.specs.GlobalLaw.{items_name_globals}
use Rattle.kept_layers.specs.View.{AreNumbered, HoldsLayers, IsRightIn, kept_seen}
use Rattle.kept_layers.specs.declared.kept_layers.KeptLayers.{KeptLayers}
use Rattle.form_pool.specs.PoolSlots.{pool_slots}
use Rattle.form_pool.specs.declared.form_pool.FormPool.{FormPool}
use Rattle.prop_values.specs.Data.{Data}
use Rattle.style_edits.specs.Layers.{layer_list}
use Rattle.style_parts.specs.Parts.{layers_of}
use Rattle.style_layout.specs.CodeView.{layers_seen, tile_seen}
use Rattle.style_layout.specs.Layers.{style_layers}
use Rattle.style_layout.specs.Outlines.{layer_outline}
use Rattle.style_layout.specs.Shown.{SourceTile}
use Rattle.style_layout.specs.StyleLayout.{cell_count}
use Rattle.edit_session.specs.Applied.{Reply, done, listed, counted, styled, refused, whole_refusal}
use Rattle.edit_session.specs.LayerMarks.{AreMarks}
use Rattle.edit_session.specs.OpenViews.{OpenView, shown_in}
use Rattle.edit_session.specs.Ranges.{ranged_document}
use Rattle.edit_session.specs.Opening.{cell_limit, Fault, has_findings, unknown_source, not_vector, too_many_cells}
use Rattle.edit_session.specs.Opening.{zoom_range}
use Rattle.edit_session.specs.SessionState.{SessionState, scene_of}
use Rattle.edit_session.specs.declared.answer.Answer.{Answer}
use Rattle.edit_session.specs.declared.answer.Answer.TheVariants.{Done, Listing, Stats, Style, Refused}
use Rattle.edit_session.specs.declared.layers.PreparedLayers.{PreparedLayers}
use Rattle.edit_session.specs.declared.opening.OpenFault.{OpenFault}
use Rattle.edit_session.specs.declared.opening.OpenFault.TheVariants.{Findings, UnknownSource, NotVector, CellLimit}
use Rattle.edit_session.specs.declared.opening.OpenFault.TheVariants.{ZoomRange}
use Rattle.edit_session.specs.declared.session.Session.{Session}
use Rattle.edit_session.specs.declared.view.View.{View}

-- ---- answers

abbrev pub reply_seen : Answer → Reply
reply_seen Done = done
reply_seen (Listing text) = listed text.items
reply_seen (Stats n) = counted n
reply_seen (Style text) = styled text.items
reply_seen (Refused refusal) = refused refusal

abbrev pub fault_seen : OpenFault → Fault
fault_seen Findings = has_findings
fault_seen (UnknownSource source) = unknown_source source.now
fault_seen (NotVector source) = not_vector source.now
fault_seen (CellLimit count) = too_many_cells count
fault_seen ZoomRange = zoom_range

-- ---- a session

-- What a session represents, with the test of images that is handed in: its document with the ranges that are still to
-- be set of its layers, and what it is shown by. Source: own.
abbrev pub session_state : Session → (List ℕ → Bool) → SessionState
session_state session has_image = record {
  document = ranged_document session.ranges (tree_of session.document);
  zoom = session.zoom;
  states = members_at session.states;
  has_image = has_image;
  globals = session.globals;
  limit = session.layers.limit;
  kept = kept_seen session.kept;
  last = session.last;
}

-- a view that is open
abbrev pub view_seen : View → OpenView
view_seen view = record {
  name = view.name;
  zoom = view.zoom;
  states = members_at view.states;
  kept = kept_seen view.kept;
  last = view.last;
}

-- what a session represents through a view, by what the view is shown by and what is kept of it
abbrev pub state_in : Session → View → (List ℕ → Bool) → SessionState
state_in session view has_image = shown_in (session_state session has_image) (view_seen view)

-- the tiles that it was opened over
abbrev pub tiles_of : Session → List SourceTile
tiles_of session = map tile_seen session.tiles.items

-- a call on it has answered that an allocation failed
abbrev pub lacks_memory : Session → Bool
lacks_memory session = session.lacks_memory

-- A text in the layers of a document is `global-state`: where none is, no value of them reads the global state.
abbrev pub reads_globals : Tree → Bool
reads_globals document = items_name_globals (layers_of document)

-- a document over tiles that breaks no rule and is within its limit of cells, with its layers, their cells, and whether
-- they read the global state
pub record IsWholeDocument (tiles : List SourceTile) (globals : List (List ℕ × Data)) (document : Tree)
    (layers : PreparedLayers) : Type 0 where
  pub is_limited : layers.limit ≤ cell_limit
  pub is_accepted : whole_refusal layers.limit tiles globals document ≡ None
  pub is_prepared : layers_seen layers.style ≡ map layer_outline (style_layers globals document)
  pub is_counted : layers.cells ≡ cell_count tiles (style_layers globals document)
  pub is_noted : layers.reads_globals ≡ false → reads_globals document ≡ false

-- so it is with the document that a session has; and its marks are those of the layers, and its indexes those of the
-- features of its tiles
abbrev pub IsReady : Session → Type 0
IsReady session =
    IsWholeDocument (tiles_of session) session.globals (tree_of session.document) session.layers
    × (AreMarks session.marks (layer_list (tree_of session.document)) × AreIndexed (tiles_of session) session.indexes)

-- ---- what is kept

-- the expressions of an evaluator, by their slots
abbrev pub slots_of : FormPool → List Sized
slots_of = pool_slots

-- What is kept is of the layers of a document, and right by what they are shown by.
pub record IsKept (tiles : List SourceTile) (scripts : List ℕ → Bool) (p : SessionState)
    (kept : KeptLayers) : Type 0 where
  pub numbered : AreNumbered kept
  pub holds : HoldsLayers slots_of tiles p.globals (layer_list p.document) kept
  pub right : IsRightIn slots_of tiles p.globals (scene_of scripts p) (layer_list p.document) kept

-- ---- what holds until an allocation fails

-- there is a slot for each layer, in which a range may be that is still to be set of it
abbrev pub HasSlots : Session → Type 0
HasSlots session = length session.ranges ≡ length (layer_list (tree_of session.document))

-- A session can be used: a fact that says nothing of what is kept.
abbrev pub IsUsable : Session → Type 0
IsUsable session = lacks_memory session ≡ false → IsReady session × HasSlots session

-- What holds of a session from its opening on, by the tests of images and scripts that are handed in to each call.
pub record IsSoundSession (session : Session) (has_image scripts : List ℕ → Bool) : Type 0 where
  pub ready : IsUsable session
  pub kept : lacks_memory session ≡ false →
      IsKept (tiles_of session) scripts (session_state session has_image) session.kept

-- What holds of a view of it from its opening on.
abbrev pub IsSoundView : Session → (has_image scripts : List ℕ → Bool) → View → Type 0
IsSoundView session has_image scripts view =
    lacks_memory session ≡ false → IsKept (tiles_of session) scripts (state_in session view has_image) view.kept

-- So it is with each of several views.
abbrev pub AreSoundViews : Session → (has_image scripts : List ℕ → Bool) → List View → Type 0
AreSoundViews session has_image scripts [] = Unit {0}
AreSoundViews session has_image scripts (v ∷ vs) =
    IsSoundView session has_image scripts v × AreSoundViews session has_image scripts vs
