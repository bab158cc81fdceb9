-- The lines on standard error that refuse what was read.
use Rattle.std.specs.Prelude.{ℕ, zero, suc, List, [], ◌++◌, codes, decimal}
use Rattle.decimal_json.specs.JsonText.{text_json}
use Rattle.json_tokens.specs.declared.kind.JsonKind.{JsonKind}
use Rattle.json_tokens.specs.declared.kind.JsonKind.TheVariants.{Syntax, Utf8, DuplicateKey, Depth, NumberLength}
use Rattle.json_tokens.specs.declared.kind.JsonKind.TheVariants.{LoneSurrogate}
use Rattle.program_runs.specs.Outcome.{RunOutcome, refused}

-- the tile of a source
abbrev pub tile_text : List ℕ → List ℕ
tile_text source = codes "tile " ++ text_json source

-- the kinds of faults of JSON
abbrev pub json_kind_name : JsonKind → List ℕ
json_kind_name Syntax = codes "Syntax"
json_kind_name Utf8 = codes "Utf8"
json_kind_name DuplicateKey = codes "DuplicateKey"
json_kind_name Depth = codes "Depth"
json_kind_name NumberLength = codes "NumberLength"
json_kind_name LoneSurrogate = codes "LoneSurrogate"

-- of tiles of one source, which one it is: the first has no number
abbrev pub tile_number : ℕ → List ℕ
tile_number zero = []
tile_number (suc n) = codes " tile " ++ decimal (suc n)

-- a file is longer than it may be
abbrev pub too_long : (what which : List ℕ) → RunOutcome
too_long what which = refused (what ++ (codes " TooLong" ++ which))

-- no JSON text: the kind of the fault, and its place in bytes from the beginning
abbrev pub no_json : (what : List ℕ) → JsonKind → ℕ → RunOutcome
no_json what kind at = refused (what ++ (codes " json " ++ (json_kind_name kind ++ (codes " " ++ decimal at))))
