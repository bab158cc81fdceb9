-- The run of each command, and of the words after the program's name.
use Rattle.std.specs.Prelude.{ℕ, List, [], ◌++◌, codes, Bool, true, false}
use Rattle.lint_runs.specs.LintRun.{lint_run}
use Rattle.program_runs.specs.declared.status.Ending.TheVariants.{Fine, Usage}
use Rattle.program_runs.specs.Outcome.{line, said, told}
use Rattle.program_runs.specs.Runs.{Run, ends}
use Rattle.style_program.specs.EvalRun.{eval_run}
use Rattle.style_program.specs.GenerateRun.{generate_run}
use Rattle.style_program.specs.ReplayRun.{script_kind_run}
use Rattle.style_program.specs.TileRun.{tile_run}
use Rattle.style_program.specs.MigrateRun.{migrate_run}
use Rattle.style_program.specs.SimplifyRun.{simplify_run}
use Rattle.style_program.specs.ValidateRun.{validate_run}
use Rattle.style_program.specs.ValueRun.{value_run}
use Rattle.style_program.specs.Words as words

-- Source: own.
abbrev pub help_text : List ℕ
help_text =
    line (codes "pirgesh checks, upgrades and evaluates MapLibre styles. Every answer is proved.") ++
    line [] ++
    line (codes "usage: pirgesh value EXPR") ++
    line (codes "       pirgesh validate STYLE") ++
    line (codes "       pirgesh lint [--github] STYLE ..") ++
    line (codes "       pirgesh migrate STYLE") ++
    line (codes "       pirgesh simplify STYLE") ++
    line (codes "       pirgesh eval STYLE ZOOM [SOURCE=TILE ..]") ++
    line (codes "       pirgesh replay STYLE SCRIPT ZOOM [SOURCE=TILE ..]") ++
    line (codes "       pirgesh desk STYLE SCRIPT [SOURCE=TILE ..]") ++
    line (codes "       pirgesh tile TILE") ++
    line (codes "       pirgesh generate N") ++
    line (codes "       pirgesh --help") ++
    line (codes "       pirgesh --version") ++
    line [] ++
    line (codes "  value     the value of an expression as JSON, or error and the fault's name") ++
    line (codes "  validate  the rules that a style breaks and invalid, or what may fail and valid") ++
    line (codes "  lint      what validate reports of 1 to 64 styles, with file, line and column; --github writes annotations") ++
    line (codes "  migrate   a style with its legacy forms as expressions, or the rules that it breaks and invalid") ++
    line (codes "  simplify  a style with the same meaning and less in it, and the filters that no feature passes") ++
    line (codes "  eval      what a style shows at a zoom over tiles of its sources") ++
    line (codes "  replay    the answer to each line of a script, which edits the style and asks for listings") ++
    line (codes "  desk      as replay, for several views of one style, each with a zoom and states of its own") ++
    line (codes "  tile      the layers of a vector tile, their features, and the properties of each feature") ++
    line (codes "  generate  how many lines and bytes replay writes of a style over N features that are made; no file is read") ++
    line [] ++
    line (codes "STYLE, SCRIPT and TILE are files, and /dev/stdin is standard input. ZOOM is a number from 0 to 24.") ++
    line (codes "SOURCE names a source of the style. TILE is an uncompressed vector tile. N is from 1 to 100000.") ++
    line (codes "EXPR is one word, so quote it:") ++
    line [] ++
    line (codes "  pirgesh value '[\"+\",0.1,0.2]'") ++
    line (codes "  pirgesh validate style.json") ++
    line (codes "  pirgesh eval style.json 14.5 town=tile.mvt") ++
    line (codes "  gzip -dc tile.mvt.gz | pirgesh eval style.json 14.5 town=/dev/stdin") ++
    line [] ++
    line (codes "Exit status, and the line on standard error:") ++
    line (codes "  0  everything was written") ++
    line
    (codes "  1  value gave a fault, the style is invalid, lint found an error, or a line of the script was refused") ++
    line (codes "  2  usage: unknown command or wrong arguments") ++
    line (codes "  3  refused ..: the expression, style, tile or script is not accepted, and why") ++
    line (codes "  4  read NAME: this file could not be read") ++
    line (codes "  5  standard output or standard error could not be written") ++
    line (codes "  6  memory was not enough") ++
    line (codes "  7  an argument is not UTF-8") ++
    line [] ++
    line (codes "docs/MESSAGES.md explains each message, and docs/REFERENCE.md is the manual.")

abbrev pub version_text : List ℕ
version_text = line (codes "pirgesh 0.1.0")

-- the commands that list what a style shows: only those evaluate cells
abbrev pub lists_cells : words.Asked → Bool
lists_cells (words.Eval w) = true
lists_cells (words.Script kind w) = true
lists_cells (words.Generate features) = true
lists_cells _ = false

-- `can_change` says whether the test of images can change
module _ (images scripts : List ℕ → Bool) (can_change : Bool) where
  -- the run that is asked for
  abbrev pub asked_run : words.Asked → Run
  asked_run (words.Value expression) = value_run images scripts expression
  asked_run (words.Validate style) = validate_run style
  asked_run (words.Lint form styles) = lint_run form styles
  asked_run (words.Migrate style) = migrate_run style
  asked_run (words.Simplify style) = simplify_run style
  asked_run (words.Eval w) = eval_run w images scripts
  asked_run (words.Script kind w) = script_kind_run kind w images scripts can_change
  asked_run (words.Tile tile) = tile_run tile
  asked_run (words.Generate features) = generate_run features images scripts can_change
  asked_run words.Help = ends (said help_text Fine)
  asked_run words.Version = ends (said version_text Fine)
  asked_run words.Wrong = ends (told (codes "usage") Usage)

  -- the run of the words
  abbrev pub run_of : List (List ℕ) → Run
  run_of ws = asked_run (words.asked ws)
