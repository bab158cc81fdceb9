-- What the words of a command line ask for.
use Rattle.std.specs.Prelude.{ℕ, ℤ, pos, ◌+◌, ◌-◌, ◌*◌, List, [], ◌∷◌, length, filter, codes, nat_eq, nat_le, Bool, not}
use Rattle.std.specs.Prelude.{◌&&◌, Option, Some, None, option_map, Result, Ok, Err, if◌then◌else◌}
use Rattle.std.specs.List.{before_first, after_first, list_all}
use Rattle.std.specs.Str.{bytes_eq}
use Rattle.fixed_num.specs.Decimal.{read_text}
use Rattle.fixed_num.specs.declared.decimal.NumFault.{NumFault}
use Rattle.lint_texts.specs.declared.form.LintForm.{LintForm}
use Rattle.lint_texts.specs.declared.form.LintForm.TheVariants.{Plain, Annotations}
use Rattle.style_program.specs.declared.words.ScriptKind.{ScriptKind}
use Rattle.style_program.specs.declared.words.ScriptKind.TheVariants.{Replay, Desk}

-- a source, and the name of the file of a tile of it
abbrev pub TileWord : Type 0
TileWord = List ℕ × List ℕ

-- what `eval` is given: the name of the file of a style, and tiles
pub record EvalWords : Type 0 where
  pub style : List ℕ
  -- in millionths
  pub zoom : ℤ
  pub tiles : List TileWord

-- what `replay` and `desk` are given beside: the name of the file of a script
pub record ScriptWords : Type 0 where
  pub script : List ℕ
  pub shown : EvalWords

pub data Asked : Type 0 where
  -- the value of an expression, which is JSON text
  Value : (expression : List ℕ) → Asked
  -- what a style breaks: the name of its file
  Validate : (style : List ℕ) → Asked
  -- what each of several styles breaks: the names of their files
  Lint : LintForm → (styles : List (List ℕ)) → Asked
  -- a style in expressions
  Migrate : (style : List ℕ) → Asked
  -- a style with the same meaning and less in it
  Simplify : (style : List ℕ) → Asked
  -- what a style shows
  Eval : EvalWords → Asked
  -- what it shows while it is edited by a script, alone or in several views
  Script : ScriptKind → ScriptWords → Asked
  -- what a tile holds: the name of its file
  Tile : (tile : List ℕ) → Asked
  -- how much it shows of so many features that are made
  Generate : (features : ℕ) → Asked
  Help : Asked
  Version : Asked
  -- an unknown command or wrong arguments
  Wrong : Asked

-- two texts, neither of them empty
abbrev pub both : List ℕ → List ℕ → Option (List ℕ × List ℕ)
both [] b = None
both (a ∷ as_) [] = None
both (a ∷ as_) (b ∷ bs) = Some (a ∷ as_, b ∷ bs)

-- `SOURCE=TILE`, cut at its first `=`, which is 61
abbrev pub source_and_tile : List ℕ → Option (List ℕ × List ℕ)
source_and_tile word = both (before_first (λ b. nat_eq b 61) word) (after_first (λ b. nat_eq b 61) word)

-- the tiles that words name, or nothing where a word has another form
abbrev pub and_tile : Option TileWord → Option (List TileWord) → Option (List TileWord)
and_tile (Some t) (Some ts) = Some (t ∷ ts)
and_tile _ _ = None

abbrev pub tiles_named : List (List ℕ) → Option (List TileWord)
tiles_named [] = Some []
tiles_named (w ∷ ws) = and_tile (source_and_tile w) (tiles_named ws)

-- ---- at most 64 tiles of each of at most sixteen sources

abbrev pub most_sources : ℕ
most_sources = 16

abbrev pub most_tiles : ℕ
most_tiles = 64

abbrev pub is_of : (source : List ℕ) → TileWord → Bool
is_of source t = bytes_eq t.0 source

-- how many of the tiles are of a source
abbrev pub count_of : List ℕ → List TileWord → ℕ
count_of source tiles = length (filter (is_of source) tiles)

-- the sources of tiles, each once
abbrev pub sources_of : List TileWord → List (List ℕ)
sources_of [] = []
sources_of (t ∷ ts) = t.0 ∷ filter (λ source. not (bytes_eq source t.0)) (sources_of ts)

abbrev pub are_allowed : List TileWord → Bool
are_allowed tiles =
    nat_le (length (sources_of tiles)) most_sources
    && list_all (λ (t : TileWord). nat_le (count_of t.0 tiles) most_tiles) tiles

abbrev pub if_allowed : Option (List TileWord) → Option (List TileWord)
if_allowed (Some tiles) = if are_allowed tiles then Some tiles else None
if_allowed None = None

-- a style at a zoom, which is a decimal within the bound, over tiles
abbrev pub shown_words : List ℕ → Result ℤ NumFault → List (List ℕ) → Option EvalWords
shown_words style (Ok zoom) words =
    option_map (λ tiles. record { style = style; zoom = zoom; tiles = tiles }) (if_allowed (tiles_named words))
shown_words style (Err fault) words = None

abbrev pub asked_eval : Option EvalWords → Asked
asked_eval (Some w) = Eval w
asked_eval None = Wrong

abbrev pub asked_replay : List ℕ → Option EvalWords → Asked
asked_replay script (Some w) = Script Replay (record { script = script; shown = w })
asked_replay script None = Wrong

-- the script is before the zoom
abbrev pub asked_with_script : (style script : List ℕ) → List (List ℕ) → Asked
asked_with_script style script (zoom ∷ tiles) = asked_replay script (shown_words style (read_text zoom) tiles)
asked_with_script style script [] = Wrong

abbrev pub asked_desk : List ℕ → Option EvalWords → Asked
asked_desk script (Some w) = Script Desk (record { script = script; shown = w })
asked_desk script None = Wrong

-- `eval` and `desk` have two words more and their tiles, and `replay` three and its tiles
abbrev pub asked_of_more : (command style word : List ℕ) → List (List ℕ) → Asked
asked_of_more command style word words =
    if bytes_eq command (codes "eval") then asked_eval (shown_words style (read_text word) words) else
    if bytes_eq command (codes "desk") then asked_desk word (shown_words style (Ok (pos 0)) words) else
    if bytes_eq command (codes "replay") then asked_with_script style word words else
    Wrong

-- `--help` and `--version` are alone
abbrev pub asked_alone : List ℕ → Asked
asked_alone word =
    if bytes_eq word (codes "--help") then Help else if bytes_eq word (codes "--version") then Version else Wrong

-- ---- a number of features: a word of one to six digits, from 1 to 100,000

abbrev pub is_digit : ℕ → Bool
is_digit b = nat_le 48 b && nat_le b 57

-- the number that digits say, after those before them
abbrev pub digits_value : (before : ℕ) → List ℕ → ℕ
digits_value before [] = before
digits_value before (b ∷ bs) = digits_value (10 * before + (b - 48)) bs

abbrev pub most_features : ℕ
most_features = 100000

abbrev pub features_named : List ℕ → Option ℕ
features_named word =
    if list_all is_digit word
    && (nat_le (length word) 6 && (nat_le 1 (digits_value 0 word) && nat_le (digits_value 0 word) most_features))
    then Some (digits_value 0 word) else None

abbrev pub asked_generate : Option ℕ → Asked
asked_generate (Some features) = Generate features
asked_generate None = Wrong

-- `value`, `validate`, `migrate`, `simplify`, `tile` and `generate` have one word more
abbrev pub asked_of_one : (command word : List ℕ) → Asked
asked_of_one command word =
    if bytes_eq command (codes "value") then Value word else
    if bytes_eq command (codes "validate") then Validate word else
    if bytes_eq command (codes "migrate") then Migrate word else
    if bytes_eq command (codes "simplify") then Simplify word else
    if bytes_eq command (codes "tile") then Tile word else
    if bytes_eq command (codes "generate") then asked_generate (features_named word) else
    Wrong

-- ---- `lint` has styles, at most 64, and before them perhaps the word that asks for annotations

abbrev pub most_styles : ℕ
most_styles = 64

abbrev pub asked_styles : LintForm → List (List ℕ) → Asked
asked_styles form [] = Wrong
asked_styles form (style ∷ styles) =
    if nat_le (length (style ∷ styles)) most_styles then Lint form (style ∷ styles) else Wrong

abbrev pub asked_lint : List (List ℕ) → Asked
asked_lint [] = Wrong
asked_lint (word ∷ words) =
    if bytes_eq word (codes "--github") then asked_styles Annotations words else asked_styles Plain (word ∷ words)

-- every other command has as many words as are said above
abbrev pub asked_with : (command : List ℕ) → List (List ℕ) → Asked
asked_with command [] = Wrong
asked_with command (word ∷ []) = asked_of_one command word
asked_with command (style ∷ word ∷ words) = asked_of_more command style word words

abbrev pub asked_command : (command : List ℕ) → List (List ℕ) → Asked
asked_command command words = if bytes_eq command (codes "lint") then asked_lint words else asked_with command words

abbrev pub asked : List (List ℕ) → Asked
asked [] = Wrong
asked (word ∷ []) = asked_alone word
asked (command ∷ word ∷ words) = asked_command command (word ∷ words)
