-- What is written of the answer to a line of a script. Source: own.
use Rattle.std.specs.Prelude.{ℕ, List, ◌++◌, codes, decimal, Bool, true, false}
use Rattle.decimal_json.specs.Place.{path_json}
use Rattle.edit_script.specs.declared.command.LineFault.{LineFault}
use Rattle.edit_script.specs.declared.command.LineFault.TheVariants.{Json, Form, Number}
use Rattle.edit_session.specs.Applied.{Reply, done, listed, counted, styled, refused}
use Rattle.edit_session.specs.declared.answer.Refusal.{Refusal}
use Rattle.edit_session.specs.declared.answer.Refusal.TheVariants.{UnknownLayer, UnknownBefore, UnknownSource}
use Rattle.edit_session.specs.declared.answer.Refusal.TheVariants.{ZoomRange, UnknownProperty, Finding, CellLimit}
use Rattle.edit_session.specs.declared.answer.Refusal.TheVariants.{FixedImages}
use Rattle.program_runs.specs.Outcome.{line}

abbrev pub fault_name : LineFault → List ℕ
fault_name Json = codes "Json"
fault_name Form = codes "Form"
fault_name Number = codes "Number"

-- a finding with its path, as a JSON string, and the number of the rule
abbrev pub refusal_text : Refusal → List ℕ
refusal_text UnknownLayer = codes "UnknownLayer"
refusal_text UnknownBefore = codes "UnknownBefore"
refusal_text UnknownSource = codes "UnknownSource"
refusal_text ZoomRange = codes "ZoomRange"
refusal_text UnknownProperty = codes "UnknownProperty"
refusal_text (Finding f) = codes "Finding " ++ (path_json f.path ++ (codes " V" ++ decimal f.rule))
refusal_text CellLimit = codes "CellLimit"
refusal_text FixedImages = codes "FixedImages"

-- the line of this number is accepted, or refused by this name
abbrev pub ok_line : ℕ → List ℕ
ok_line number = line (codes "ok " ++ decimal number)

abbrev pub refused_line : ℕ → List ℕ → List ℕ
refused_line number name = line (codes "refused " ++ (decimal number ++ (codes " " ++ name)))

-- how many cells the last listing evaluated
abbrev pub stats_line : ℕ → List ℕ
stats_line n = line (codes "stats " ++ decimal n)

abbrev pub reply_text : ℕ → Reply → List ℕ
reply_text number done = ok_line number
reply_text number (listed text) = text
reply_text number (counted n) = stats_line n
reply_text number (styled text) = line text
reply_text number (refused refusal) = refused_line number (refusal_text refusal)

abbrev pub is_refused : Reply → Bool
is_refused done = false
is_refused (listed text) = false
is_refused (counted n) = false
is_refused (styled text) = false
is_refused (refused refusal) = true
