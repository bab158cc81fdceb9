-- A legacy function and its expression say the same, and so do a token text and its expression. Source: own.
use Rattle.std.specs.Prelude.{◌≡◌, ℕ, ℤ, List, [], Bool, true, false, Some, is_some, Ok}
use Rattle.decimal_json.specs.Tree.{Tree}
use Rattle.prop_values.specs.Data.{Data, text}
use Rattle.prop_values.specs.declared.kinds.Want.{Want}
use Rattle.property_tables.specs.Fitting.{fit}
use Rattle.property_tables.specs.Rows.{RowData, row_of}
use Rattle.property_tables.specs.declared.layer_type.LayerType.{LayerType}
use Rattle.property_tables.specs.declared.property_row.Place.{Place}
use Rattle.tile_reader.specs.declared.tile.Feature.{Feature}
use Rattle.expr_syntax.specs.Mentioned.{nothing, mentions}
use Rattle.expr_syntax.specs.ReadView.{uses_globals}
use Rattle.expr_syntax.specs.Reading.{reading_with}
use Rattle.expr_syntax.specs.Term.{Term}
use Rattle.expr_syntax.specs.declared.world_parts.Mentions.{Mentions}
use Rattle.expr_types.specs.Checked.{checked}
use Rattle.expr_types.specs.Typing.{TypedNodes}
use Rattle.operator_values.specs.Evaluated.{Evaluated}
use Rattle.eval_face.specs.Meaning.{mean}
use Rattle.eval_face.specs.World.{feature_world}
use Rattle.legacy_functions.specs.AskedParts.{asks_feature, asks_zoom}
use Rattle.legacy_functions.specs.Form as legacy
use Rattle.legacy_functions.specs.Function.{Function, has_zooms}
use Rattle.legacy_functions.specs.Meaning.{value_of}
use Rattle.legacy_functions.specs.ToExpression.{function_expression}
use Rattle.legacy_functions.specs.Tokens.{has_tokens, token_text, token_expression}

-- A row of the table of properties.
abbrev pub IsTableRow : RowData → Type 0
IsTableRow row =
    (t : LayerType) × (place : Place) × (name : List ℕ) × (number : ℕ)
    × (row_of t place name ≡ Some (number, row))

-- Whatever the zoom, the state and the two tests are, an expression gives of every feature under a want what
-- is said of the zoom and the feature: a value, or a fault.
abbrev pub GivesAlways : Term → Want → (ℤ → Feature → Evaluated) → Type 0
GivesAlways e want said =
    (zoom : ℤ) (feature : Feature) (state : List (List ℕ × Data)) (images scripts : List ℕ → Bool) →
    mean e want [] (feature_world zoom feature state images scripts) ≡ said zoom feature

-- An expression is inside and reads as a term without a fault, whatever the values of the global state are.
abbrev pub ReadsAlways : Tree → Term → Type 0
ReadsAlways t e = (values : List (List ℕ × Data)) → reading_with t values ≡ Ok (Some e)

-- The expression of a function that was read, and is not outside, gives under the row's want the value of the
-- function, or its fault.
abbrev pub ExpressionsMeanTheirFunctions : Type 0
ExpressionsMeanTheirFunctions =
    (row : RowData) (t : Tree) (f : Function) → IsTableRow row →
    legacy.form row t ≡ Some (Some f) →
    (e : Term) × ReadsAlways (function_expression row f) e
    × GivesAlways e row.want (value_of row f)

-- The expression of a token text gives under every want the text, fitted to the want.
abbrev pub TokenExpressionsMeanTheirTexts : Type 0
TokenExpressionsMeanTheirTexts =
    (s : List ℕ) →
    (e : Term) × ReadsAlways (token_expression s) e
    × ((want : Want) → GivesAlways e want (λ zoom feature. fit want (text (token_text s feature))))

-- ---- types

-- The row lets its values read what the function goes by: the zoom, and the feature where it has a property.
pub record IsAllowedOn (row : RowData) (f : Function) : Type 0 where
  pub zoom : has_zooms f ≡ true → row.reads.zoom ≡ true
  pub feature : is_some f.property ≡ true → row.reads.feature ≡ true

-- The expression of a function that was read, and is allowed on its row, is well typed as a value of the row:
-- there is no type fault, each node reads what it may, and the zoom is where it may be.
abbrev pub MigratedFunctionsAreTyped : Type 0
MigratedFunctionsAreTyped =
    (row : RowData) (t : Tree) (f : Function) → IsTableRow row →
    legacy.form row t ≡ Some (Some f) →
    IsAllowedOn row f → (e : Term) (values : List (List ℕ × Data)) →
    reading_with (function_expression row f) values ≡ Ok (Some e) →
    (found : TypedNodes) × (checked e row.want (Some row) ≡ Ok found)

-- The expression of a token text is well typed as a value of each row that takes token texts.
abbrev pub MigratedTokenTextsAreTyped : Type 0
MigratedTokenTextsAreTyped =
    (row : RowData) (s : List ℕ) → IsTableRow row → row.takes_tokens ≡ true →
    (e : Term) (values : List (List ℕ × Data)) → reading_with (token_expression s) values ≡ Ok (Some e) →
    (found : TypedNodes) × (checked e row.want (Some row) ≡ Ok found)

-- ---- what is read of the world

-- What a function mentions of the world: the zoom where its stops ask for it, and the feature where it has a
-- property or an output that asks for it; never the state of the feature, nor the images.
abbrev pub function_mentions : RowData → Function → Mentions
function_mentions row f = record {
  zoom = asks_zoom row f;
  feature = asks_feature f;
  state = false;
  image = false;
}

-- The expression of a function that was read mentions what the function mentions.
abbrev pub MigratedFunctionsMentionTheSame : Type 0
MigratedFunctionsMentionTheSame =
    (row : RowData) (t : Tree) (f : Function) → IsTableRow row →
    legacy.form row t ≡ Some (Some f) →
    (e : Term) (values : List (List ℕ × Data)) →
    reading_with (function_expression row f) values ≡ Ok (Some e) →
    mentions e ≡ function_mentions row f

-- The expression of a token text mentions the feature where the text has tokens, and nothing else.
abbrev pub MigratedTokenTextsMentionTheFeature : Type 0
MigratedTokenTextsMentionTheFeature =
    (s : List ℕ) (e : Term) (values : List (List ℕ × Data)) →
    reading_with (token_expression s) values ≡ Ok (Some e) →
    mentions e ≡ record nothing { feature = has_tokens s }

-- No expression of a function that was read, nor of a token text, has a node of the global state.
abbrev pub MigratedFunctionsUseNoGlobals : Type 0
MigratedFunctionsUseNoGlobals =
    (row : RowData) (t : Tree) (f : Function) → IsTableRow row →
    legacy.form row t ≡ Some (Some f) →
    uses_globals (function_expression row f) ≡ false

abbrev pub MigratedTokenTextsUseNoGlobals : Type 0
MigratedTokenTextsUseNoGlobals = (s : List ℕ) → uses_globals (token_expression s) ≡ false
