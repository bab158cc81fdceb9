-- What a property or an argument takes, in words. Source: own.
use Rattle.std.specs.Prelude.{ℕ, ℤ, List, [], ◌∷◌, ◌++◌, codes, decimal, Bool, true, false, Option, Some, None}
use Rattle.std.specs.Prelude.{if◌then◌else◌}
use Rattle.fixed_num.specs.NumberText.{number_text}
use Rattle.decimal_json.specs.JsonText.{text_json}
use Rattle.prop_values.specs.Choices.{texts_of}
use Rattle.prop_values.specs.declared.kinds.Item.{Item}
use Rattle.prop_values.specs.declared.kinds.Item.TheVariants as items
use Rattle.prop_values.specs.declared.kinds.Kind.{Kind}
use Rattle.prop_values.specs.declared.kinds.Kind.TheVariants as kinds
use Rattle.prop_values.specs.declared.kinds.Want.{Want}
use Rattle.prop_values.specs.declared.kinds.Want.TheVariants as wants
use Rattle.property_tables.specs.Rows.{AllowedReads, Limits, RowData}
use Rattle.finding_sentences.specs.Words.{words}

-- texts as JSON strings, with commas between them
abbrev pub texts_after : List (List ℕ) → List ℕ
texts_after [] = []
texts_after (t ∷ ts) = words (codes ", " ∷ text_json t ∷ texts_after ts ∷ [])

abbrev pub texts_listed : List (List ℕ) → List ℕ
texts_listed [] = []
texts_listed (t ∷ ts) = text_json t ++ texts_after ts

abbrev pub item_words : Item → List ℕ
item_words items.Any = codes "values"
item_words items.Boolean = codes "booleans"
item_words items.Number = codes "numbers"
item_words items.Text = codes "texts"

abbrev pub want_words : Want → List ℕ
want_words wants.Any = codes "a value"
want_words wants.Shown = codes "a text"
want_words wants.Boolean = codes "true or false"
want_words wants.Number = codes "a number"
want_words wants.Text = codes "a text"
want_words wants.Color = codes "a color"
want_words wants.Object = codes "an object"
want_words wants.Image = codes "the name of an image"
want_words (wants.List item None) = words (codes "an array of " ∷ item_words item ∷ [])
want_words (wants.List item (Some n)) = words (codes "an array of " ∷ decimal n ∷ codes " " ∷ item_words item ∷ [])
want_words (wants.Enum choice) = words (codes "one of " ∷ texts_listed (texts_of choice) ∷ [])
want_words (wants.EnumList choice) = words (codes "an array of some of " ∷ texts_listed (texts_of choice) ∷ [])

-- the least and the most number
abbrev pub limit_words : (least most : Option ℤ) → List ℕ
limit_words None None = []
limit_words (Some least) None = words (codes " of at least " ∷ number_text least ∷ [])
limit_words None (Some most) = words (codes " of at most " ∷ number_text most ∷ [])
limit_words (Some least) (Some most) = words (codes " from " ∷ number_text least ∷ codes " to " ∷ number_text most ∷ [])

-- what a literal of a row is
unfoldable pub row_words : RowData → List ℕ
row_words row = words (want_words row.want ∷ limit_words row.limits.least row.limits.most ∷ [])

-- what an expression gives
abbrev pub kind_words : Kind → List ℕ
kind_words kinds.Any = codes "a value of any type"
kind_words kinds.Boolean = codes "true or false"
kind_words kinds.Number = codes "a number"
kind_words kinds.Text = codes "a text"
kind_words kinds.Color = codes "a color"
kind_words kinds.Object = codes "an object"
kind_words kinds.Image = codes "an image"
kind_words (kinds.List item count) = words (codes "an array of " ∷ item_words item ∷ [])

-- what a value may read
abbrev pub reads_words : (zoom feature state : Bool) → List ℕ
reads_words zoom feature true = codes "the zoom, the feature and its state"
reads_words zoom true false = codes "the zoom and the feature"
reads_words true false false = codes "the zoom alone"
reads_words false false false = codes "nothing"

-- that of a row, and of filters
abbrev pub allowed_words : Option RowData → List ℕ
allowed_words (Some row) = reads_words row.reads.zoom row.reads.feature row.reads.state
allowed_words None = reads_words true true false
