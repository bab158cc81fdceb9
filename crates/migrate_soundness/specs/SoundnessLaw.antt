-- A document without findings has none after it was migrated. Source: own.
use Rattle.std.specs.Prelude.{◌≡◌, []}
use Rattle.decimal_json.specs.Tree.{Tree}
use Rattle.style_migrate.specs.Migrated.{migrated}
use Rattle.style_rules.specs.Findings.{findings, notes}
use Rattle.style_rules.specs.Levels.{HasDistinctMembers}

-- A document of which no place breaks a rule.
abbrev pub HasNoFinding : Tree → Type 0
HasNoFinding document = findings document ≡ []

-- Each document without findings has none after it was migrated.
abbrev pub SoundDocumentsStaySound : Type 0
SoundDocumentsStaySound =
    (document : Tree) → HasDistinctMembers document → HasNoFinding document → HasNoFinding (migrated document)

-- In each document without findings the same values and filters are outside after it was migrated.
abbrev pub SoundDocumentsKeepTheirNotes : Type 0
SoundDocumentsKeepTheirNotes =
    (document : Tree) → HasDistinctMembers document → HasNoFinding document →
    notes (migrated document) ≡ notes document
