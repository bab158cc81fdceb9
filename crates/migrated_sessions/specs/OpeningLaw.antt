-- A migrated style opens and is listed as the style is. Source: own.
use Rattle.std.specs.Prelude.{◌≡◌, ℕ, ℤ, List, Bool}
use Rattle.decimal_json.specs.Tree.{Tree}
use Rattle.prop_values.specs.Data.{Data}
use Rattle.edit_session.specs.Applied.{listing_of}
use Rattle.edit_session.specs.Opening.{open_fault}
use Rattle.edit_session.specs.SessionState.{SessionState, opened}
use Rattle.migrate_soundness.specs.SoundnessLaw.{HasNoFinding}
use Rattle.style_layout.specs.Layers.{style_layers}
use Rattle.style_layout.specs.Shown.{SourceTile}
use Rattle.style_layout.specs.StyleLayout.{cell_count}
use Rattle.style_migrate.specs.Migrated.{migrated}
use Rattle.style_rules.specs.Levels.{HasDistinctMembers}

-- Each migrated document, well formed or not, has as many cells as the document, over all tiles and with any
-- values of the global state.
abbrev pub MigratedDocumentsHaveAsManyCells : Type 0
MigratedDocumentsHaveAsManyCells =
    (tiles : List SourceTile) (globals : List (List ℕ × Data)) (document : Tree) →
    cell_count tiles (style_layers globals (migrated document)) ≡ cell_count tiles (style_layers globals document)

-- Each document without findings opens after it was migrated where it opened before, and else has the same
-- fault: with any limit of cells, over all tiles, with the same sources and as many cells, and at every zoom.
abbrev pub MigratedStylesOpenAlike : Type 0
MigratedStylesOpenAlike =
    (document : Tree) → HasDistinctMembers document → HasNoFinding document →
    (limit : ℕ) (tiles : List SourceTile) (zoom : ℤ) →
    open_fault limit (migrated document) tiles zoom ≡ open_fault limit document tiles zoom

-- Each document, well formed or not, begins a session after it was migrated as it did before, but for the document:
-- with the same values of the global state, and with nothing kept of as many layers.
abbrev pub MigratedSessionsBeginAlike : Type 0
MigratedSessionsBeginAlike =
    (limit : ℕ) (document : Tree) (zoom : ℤ) (has_image : List ℕ → Bool) →
    opened limit (migrated document) zoom has_image
    ≡ record (opened limit document zoom has_image) { document = migrated document }

-- Each session over a migrated document has the listing that it has over the document, whatever is kept. How many
-- evaluations it makes is not promised.
abbrev pub MigratedStylesAreListedAlike : Type 0
MigratedStylesAreListedAlike =
    (tiles : List SourceTile) (scripts : List ℕ → Bool) (p : SessionState) →
    listing_of tiles scripts (record p { document = migrated p.document }) ≡ listing_of tiles scripts p
