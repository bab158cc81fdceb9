-- A request of the program without the place of its texts in memory.
use Rattle.std.specs.Prelude.{map, string_bytes}
use Rattle.style_program.specs.declared.words.AnswerRequest.{AnswerRequest}
use Rattle.style_program.specs.declared.words.AnswerRequest.TheVariants as code
use Rattle.style_program.specs.declared.words.EvalRequest.{EvalRequest}
use Rattle.style_program.specs.declared.words.ListingRequest.{ListingRequest}
use Rattle.style_program.specs.declared.words.ListingRequest.TheVariants as listing
use Rattle.style_program.specs.declared.words.ScriptRequest.{ScriptRequest}
use Rattle.style_program.specs.declared.words.Request.{Request}
use Rattle.style_program.specs.declared.words.Request.TheVariants as request
use Rattle.style_program.specs.declared.words.TileWord.{TileWord}
use Rattle.style_program.specs.Words as words
use Rattle.style_program.specs.Words.{EvalWords, ScriptWords, Asked, Value, Validate, Lint, Migrate, Simplify, Eval}
use Rattle.style_program.specs.Words.{Script, Tile, Generate, Help, Version, Wrong}

abbrev pub tile_word : TileWord → words.TileWord
tile_word t = (t.source.now, t.tile.now)

abbrev pub eval_words : EvalRequest → EvalWords
eval_words r = record { style = r.style.now; zoom = r.zoom; tiles = map tile_word r.tiles.items }

abbrev pub script_words : ScriptRequest → ScriptWords
script_words r = record { script = r.script.now; shown = eval_words r.shown }

abbrev pub answer_asked : AnswerRequest → Asked
answer_asked (code.Value expression) = Value expression.now
answer_asked (code.Validate style) = Validate style.now
answer_asked (code.Lint form styles) = Lint form (map string_bytes styles.now)
answer_asked (code.Migrate style) = Migrate style.now
answer_asked (code.Simplify style) = Simplify style.now
answer_asked (code.Tile tile) = Tile tile.now
answer_asked code.Help = Help
answer_asked code.Version = Version
answer_asked code.Wrong = Wrong

abbrev pub listing_asked : ListingRequest → Asked
listing_asked (listing.Eval r) = Eval (eval_words r)
listing_asked (listing.Generate features) = Generate features

abbrev pub asked_by : Request → Asked
asked_by (request.Answer r) = answer_asked r
asked_by (request.Listing r) = listing_asked r
asked_by (request.Script r) = Script r.kind (script_words r)
