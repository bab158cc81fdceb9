-- What an edit does to what a session represents, and what is answered.
use Rattle.std.specs.Prelude.{ℕ, List, [], ◌∷◌, Bool, true, false, Option, Some, None, option_map, if◌then◌else◌}
use Rattle.std.specs.Option.{option_or}
use Rattle.std.specs.Str.{bytes_eq}
use Rattle.decimal_json.specs.JsonText.{json_text}
use Rattle.decimal_json.specs.Tree.{Tree}
use Rattle.decimal_json.specs.declared.paths.PathPart.{PathPart}
use Rattle.edit_script.specs.Edit as edits
use Rattle.edit_script.specs.Edit.{Edit}
use Rattle.feature_states.specs.Features.{same_feature, left_of}
use Rattle.host_ops.specs.Change.{count_after}
use Rattle.kept_layers.specs.EditedKept.{edited_kept}
use Rattle.kept_layers.specs.KeptLayers.{StyleKept, evaluations_of, is_stale_global, is_stale_image, is_stale_state}
use Rattle.kept_layers.specs.KeptLayers.{is_stale_zoom, kept_after, kept_of_each, nodes_of}
use Rattle.listing_text.specs.Listing.{listing}
use Rattle.prop_values.specs.Changes.{with_member, without_key, merged}
use Rattle.prop_values.specs.Data.{Data, null, pairs_of, entries_of}
use Rattle.prop_values.specs.Equality.{at_key}
use Rattle.style_edits.specs.Causes.{first_cause}
use Rattle.style_edits.specs.Edited.{edited}
use Rattle.style_edits.specs.Faults.{edit_fault}
use Rattle.style_edits.specs.Layers.{layer_list}
use Rattle.style_edits.specs.Places.{places_of}
use Rattle.style_edits.specs.declared.faults.EditFault.{EditFault}
use Rattle.style_edits.specs.declared.faults.EditFault.TheVariants as faults
use Rattle.style_layout.specs.Globals.{globals_of}
use Rattle.style_layout.specs.Layers.{style_layers}
use Rattle.style_layout.specs.Shown.{SourceTile}
use Rattle.style_layout.specs.StyleLayout.{cell_count, layout_of}
use Rattle.style_rules.specs.Findings.{findings}
use Rattle.edit_session.specs.Opening.{within_limit}
use Rattle.edit_session.specs.SessionState.{SessionState, scene_of}
use Rattle.edit_session.specs.declared.answer.Refusal.{Refusal}
use Rattle.edit_session.specs.declared.answer.Refusal.TheVariants.{UnknownLayer, UnknownBefore, UnknownSource}
use Rattle.edit_session.specs.declared.answer.Refusal.TheVariants.{ZoomRange, UnknownProperty, Finding, CellLimit}
use Rattle.edit_session.specs.declared.answer.Refusal.TheVariants.{FixedImages}

-- ---- the states of features

abbrev pub FeatureStates : Type 0
FeatureStates = List ℕ → List ℕ → ℕ → List (List ℕ × Data)

-- the states with that of one feature changed
abbrev pub changed_state : List ℕ → List ℕ → ℕ → (List (List ℕ × Data) → List (List ℕ × Data)) → FeatureStates →
    FeatureStates
changed_state source layer id change states s l i =
    if same_feature source layer id s l i then change (states s l i) else states s l i

-- ---- the test of images

-- the test, with one name reported to be there or not
abbrev pub with_image : List ℕ → Bool → (List ℕ → Bool) → List ℕ → Bool
with_image name present has_image other = if bytes_eq name other then present else has_image other

-- the edits that are reported to the test of images
abbrev pub tells_image : Edit → Bool
tells_image (edits.add_image name) = true
tells_image (edits.remove_image name) = true
tells_image _ = false

-- How many reports the test of images had, once an edit is done or refused: an image is reported once, and where the
-- test cannot change that is not counted. Source: own.
abbrev pub tell_count_after : Bool → Edit → ℕ → ℕ
tell_count_after can_change edit n = if tells_image edit then count_after can_change n else n

-- ---- the global state

-- a value that is set: null gives the default in its place
abbrev pub value_or_default : Data → Option Data → Option Data
value_or_default null default = default
value_or_default d default = Some d

abbrev pub with_or_without : List ℕ → Option Data → List (List ℕ × Data) → List (List ℕ × Data)
with_or_without name (Some d) globals = with_member name d globals
with_or_without name None globals = without_key name globals

-- the default that a document has for a name, or none
abbrev pub default_of : Tree → List ℕ → Option Data
default_of document name = at_key name (pairs_of (globals_of document))

-- A name gets a value; null gives it the default, and where there is none takes it away. Source: own.
abbrev pub with_global : Tree → List ℕ → Data → List (List ℕ × Data) → List (List ℕ × Data)
with_global document name d globals = with_or_without name (value_or_default d (default_of document name)) globals

-- ---- what is kept

-- The cells that are kept after an edit that is accepted: all that were, but those that it makes stale. Source: own.
abbrev pub kept_left : List SourceTile → SessionState → Edit → StyleKept
kept_left tiles p (edits.set_zoom zoom) =
    kept_of_each (is_stale_zoom p.globals p.zoom zoom) (layer_list p.document) p.kept
kept_left tiles p (edits.set_state source layer id members) =
    kept_of_each (is_stale_state tiles p.globals source layer id) (layer_list p.document) p.kept
kept_left tiles p (edits.remove_state source layer id key) =
    kept_of_each (is_stale_state tiles p.globals source layer id) (layer_list p.document) p.kept
kept_left tiles p (edits.add_image name) = kept_of_each (is_stale_image p.globals) (layer_list p.document) p.kept
kept_left tiles p (edits.remove_image name) = kept_of_each (is_stale_image p.globals) (layer_list p.document) p.kept
kept_left tiles p (edits.set_global name d) = kept_of_each (is_stale_global p.globals) (layer_list p.document) p.kept
kept_left tiles p edit = edited_kept (places_of p.document edit) edit (layer_list p.document) p.kept

-- ---- what a session represents after an edit that is accepted. Source: own.

-- what it represents but for what is kept
abbrev pub changed_by : Edit → SessionState → SessionState
changed_by (edits.set_zoom zoom) p = record p { zoom = zoom }
changed_by (edits.set_state source layer id members) p =
    record p { states = changed_state source layer id (λ kept. merged kept (entries_of members)) p.states }
changed_by (edits.remove_state source layer id key) p =
    record p { states = changed_state source layer id (left_of key) p.states }
changed_by (edits.add_image name) p = record p { has_image = with_image name true p.has_image }
changed_by (edits.remove_image name) p = record p { has_image = with_image name false p.has_image }
changed_by (edits.set_global name d) p = record p { globals = with_global p.document name d p.globals }
changed_by edit p = record p { document = edited p.document edit }

abbrev pub presented_after : List SourceTile → SessionState → Edit → SessionState
presented_after tiles p edit = record (changed_by edit p) { kept = kept_left tiles p edit }

-- ---- why an edit is refused

-- the faults of edits are refusals of the same names
abbrev pub refusal_of : EditFault → Refusal
refusal_of faults.UnknownLayer = UnknownLayer
refusal_of faults.UnknownBefore = UnknownBefore
refusal_of faults.UnknownSource = UnknownSource
refusal_of faults.ZoomRange = ZoomRange
refusal_of faults.UnknownProperty = UnknownProperty

-- the first finding
abbrev pub first_finding : List (List PathPart × ℕ) → Option Refusal
first_finding [] = None
first_finding (f ∷ fs) = Some (Finding (record { path = f.0; rule = f.1 }))

abbrev pub limit_refusal : (limit count : ℕ) → Option Refusal
limit_refusal limit count = if within_limit limit count then None else Some CellLimit

-- images are reported to a test that cannot change
abbrev pub images_refusal : Bool → Edit → Option Refusal
images_refusal can_change (edits.add_image name) = if can_change then None else Some FixedImages
images_refusal can_change (edits.remove_image name) = if can_change then None else Some FixedImages
images_refusal can_change edit = None

-- ---- a listing

-- the cells that it asks are kept, and those that were not are counted
abbrev pub listed_after : List SourceTile → (List ℕ → Bool) → SessionState → SessionState
listed_after tiles scripts p = record p {
  kept = kept_after (scene_of scripts p) tiles p.globals (layer_list p.document) p.kept;
  last = evaluations_of (scene_of scripts p) tiles p.globals (layer_list p.document) p.kept;
}

-- The steps that a command counts: at least so many where it is answered, and at most so many in any case. Only a
-- listing counts any. Source: own.
abbrev pub least_steps : List SourceTile → (List ℕ → Bool) → SessionState → Edit → ℕ
least_steps tiles scripts p edits.list =
    evaluations_of (scene_of scripts p) tiles p.globals (layer_list p.document) p.kept
least_steps tiles scripts p edit = 0

abbrev pub most_steps : List SourceTile → (List ℕ → Bool) → SessionState → Edit → ℕ
most_steps tiles scripts p edits.list = nodes_of (scene_of scripts p) tiles p.globals (layer_list p.document) p.kept
most_steps tiles scripts p edit = 0

-- ---- what is answered

-- The text of a listing over tiles, with the test on texts that can be shown: that of the full layout. Source: own.
abbrev pub listing_of : List SourceTile → (List ℕ → Bool) → SessionState → List ℕ
listing_of tiles scripts p = listing (layout_of (scene_of scripts p) tiles p.globals p.document)

pub data Reply : Type 0 where
  -- the edit is accepted
  done : Reply
  -- the listing's text
  listed : List ℕ → Reply
  -- the number of evaluations of the last listing
  counted : ℕ → Reply
  -- the text of the style as JSON
  styled : List ℕ → Reply
  refused : Refusal → Reply

-- an edit that is refused changes nothing
abbrev pub unless_refused : Option Refusal → SessionState → SessionState → SessionState × Reply
unless_refused None before after = (after, done)
unless_refused (Some refusal) before after = (before, refused refusal)

-- a whole document over tiles breaks a rule, or has more cells than it may by the values of the global state
abbrev pub whole_refusal : (limit : ℕ) → List SourceTile → List (List ℕ × Data) → Tree → Option Refusal
whole_refusal limit tiles globals document =
    option_or (first_finding (findings document))
    (limit_refusal limit (cell_count tiles (style_layers globals document)))

-- an edit of the layers of a document, which makes another document
abbrev pub edits_layers : Edit → Bool
edits_layers (edits.set_paint layer name value) = true
edits_layers (edits.set_layout layer name value) = true
edits_layers (edits.set_filter layer filter) = true
edits_layers (edits.set_range layer min max) = true
edits_layers (edits.add_layer layer before) = true
edits_layers (edits.remove_layer id) = true
edits_layers (edits.move_layer id before) = true
edits_layers _ = false

-- A command in which no allocation has to succeed: layers go or move, their ranges of zooms or the zoom change, a state
-- is removed, the number of evaluations is asked. Source: own.
abbrev pub needs_no_memory : Edit → Bool
needs_no_memory edits.stats = true
needs_no_memory (edits.set_zoom zoom) = true
needs_no_memory (edits.remove_state source layer id key) = true
needs_no_memory (edits.set_range layer min max) = true
needs_no_memory (edits.remove_layer id) = true
needs_no_memory (edits.move_layer id before) = true
needs_no_memory _ = false

-- The document that an edit makes is refused. Every other edit leaves the document, and as many cells as there were:
-- so no value of the global state is refused.
abbrev pub document_refusal : List SourceTile → SessionState → Edit → Option Refusal
document_refusal tiles p edit =
    if edits_layers edit then whole_refusal p.limit tiles p.globals (edited p.document edit) else None

-- over tiles, with the test on texts that can be shown; `can_change` says whether the test of images can change
module _ (tiles : List SourceTile) (scripts : List ℕ → Bool) (can_change : Bool) where
  -- The first cause that holds: a fault of the edit, of the whole edited document, or that images cannot change.
  -- Source: own.
  abbrev pub refusal : SessionState → Edit → Option Refusal
  refusal p edit = first_cause (
      option_map refusal_of (edit_fault p.document edit) ∷
      document_refusal tiles p edit ∷
      images_refusal can_change edit ∷ [])

  -- What a session represents after an edit, and what is answered. Source: own.
  abbrev pub applied : SessionState → Edit → SessionState × Reply
  applied p edits.list = (listed_after tiles scripts p, listed (listing_of tiles scripts p))
  applied p edits.stats = (p, counted p.last)
  applied p edits.style = (p, styled (json_text p.document))
  applied p edit = unless_refused (refusal p edit) p (presented_after tiles p edit)

-- ---- several views

-- The edits that belong to a view: what it is shown by, and what is asked of what it shows. All others belong to the
-- style, which all views show.
abbrev pub is_of_view : Edit → Bool
is_of_view (edits.set_zoom zoom) = true
is_of_view (edits.set_state source layer id members) = true
is_of_view (edits.remove_state source layer id key) = true
is_of_view edits.list = true
is_of_view edits.stats = true
is_of_view edit = false
