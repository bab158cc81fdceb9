-- A document without findings has none after it was simplified. Source: own.
use Rattle.std.specs.Prelude.{◌≡◌, []}
use Rattle.decimal_json.specs.Sound.{IsSound}
use Rattle.decimal_json.specs.Tree.{Tree}
use Rattle.style_rules.specs.Findings.{findings, notes}
use Rattle.style_simplify.specs.SimplifiedStyle.{simplified}

-- Each sound document without findings has none after it was simplified.
abbrev pub SimplifiedDocumentsHaveNoFinding : Type 0
SimplifiedDocumentsHaveNoFinding =
    (document : Tree) → IsSound 0 document → findings document ≡ [] → findings (simplified document) ≡ []

-- In each sound document without findings the same values and filters are outside after it was simplified.
abbrev pub SimplifiedDocumentsKeepTheirNotes : Type 0
SimplifiedDocumentsKeepTheirNotes =
    (document : Tree) → IsSound 0 document → findings document ≡ [] → notes (simplified document) ≡ notes document
