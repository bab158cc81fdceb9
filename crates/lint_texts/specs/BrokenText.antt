-- The line of a file that is no JSON text, and of one that is no style for another cause, as one that is longer than a
-- style may be. Source: own.
use Rattle.std.specs.Prelude.{ℕ, List, [], ◌∷◌, codes, drop, take}
use Rattle.json_tokens.specs.declared.kind.JsonKind.{JsonKind}
use Rattle.json_tokens.specs.declared.kind.JsonKind.TheVariants.{Syntax, Utf8, DuplicateKey, Depth, NumberLength}
use Rattle.json_tokens.specs.declared.kind.JsonKind.TheVariants.{LoneSurrogate}
use Rattle.finding_sentences.specs.TextSentence.{text_sentence}
use Rattle.finding_sentences.specs.Words.{words}
use Rattle.text_places.specs.LineColumn.{after_bytes, first_place}
use Rattle.lint_texts.specs.LintLine.{LintLine}
use Rattle.lint_texts.specs.declared.line.Severity.TheVariants.{Error}

abbrev pub kind_name : JsonKind → List ℕ
kind_name Syntax = codes "Syntax"
kind_name Utf8 = codes "Utf8"
kind_name DuplicateKey = codes "DuplicateKey"
kind_name Depth = codes "Depth"
kind_name NumberLength = codes "NumberLength"
kind_name LoneSurrogate = codes "LoneSurrogate"

abbrev pub broken_message : JsonKind → (rest : List ℕ) → List ℕ
broken_message kind rest =
    words (codes "no JSON text: " ∷ text_sentence kind rest ∷ codes " [" ∷ kind_name kind ∷ codes "]" ∷ [])

-- by the fault: its kind, and its place in bytes
abbrev pub broken_line : (bytes : List ℕ) → JsonKind → (at : ℕ) → LintLine
broken_line bytes kind at =
    record {
      severity = Error;
      place = after_bytes first_place (take at bytes);
      message = broken_message kind (drop at bytes);
    }

-- of a whole file
abbrev pub file_line : (message : List ℕ) → LintLine
file_line message = record { severity = Error; place = first_place; message = message }

-- in bytes
abbrev pub style_limit : ℕ
style_limit = 4194304

abbrev pub long_file_message : List ℕ
long_file_message = codes "style: must have at most 4194304 bytes [TooLong]"
