-- The expression of a legacy function of a row of the table is a call or a bare literal.
use Rattle.std.proofs.Common.{◌≡◌, ◌∙◌, ℕ, List, [], ◌∷◌, refl, sym, true, false, ◌⊎◌, inl, inr}
use Rattle.std.specs.Prelude.{Bool, ◌&&◌, Option, Some, None, Result, Ok, Err, if◌then◌else◌}
use Rattle.fixed_num.specs.declared.decimal.NumFault.{NumFault}
use Rattle.decimal_json.specs.Tree as json
use Rattle.decimal_json.specs.Tree.{Tree, Fields}
use Rattle.prop_values.specs.Data.{Data, Pairs, map}
use Rattle.prop_values.specs.JsonData.{then_data, fields_data}
use Rattle.prop_values.specs.declared.kinds.Want.{Want}
use Rattle.prop_values.specs.declared.kinds.Want.TheVariants as wants
use Rattle.property_tables.specs.Defaults.{fitted}
use Rattle.property_tables.specs.Fitting.{fit}
use Rattle.property_tables.specs.Literals.{has_form, keeps_limits, literal_read, literal_of}
use Rattle.property_tables.specs.Rows.{RowData}
use Rattle.legacy_functions.specs.Form as legacy
use Rattle.legacy_functions.specs.Function.{Spelled, Output, literal, tokens, Way, even, curved, stepped}
use Rattle.legacy_functions.specs.Function.{PropertyRule, numeric, categorical, Body, plain, zoomed, identity, Function}
use Rattle.legacy_functions.specs.Meaning.{zoom_way}
use Rattle.legacy_functions.specs.ToExpression.{output_expression, way_expression, stop_branches, zoom_expression}
use Rattle.legacy_functions.specs.ToExpression.{rule_expression, rule_branches, named_property}
use Rattle.legacy_functions.specs.ToExpression.{identity_expression, body_expression}
use Rattle.legacy_functions.specs.ToExpression.{function_expression, default_by}
use Rattle.legacy_functions.proofs.SoundRules.{HasSome, IsOutputOf, AreNumberStops, IsBodyOf}
use Rattle.legacy_functions.proofs.SoundFunctions.{read_is_sound}
use Rattle.value_forms.specs.Forms.{is_expression, is_token_text}
use Rattle.legacy_laws.specs.LegacyFunctionLaw.{IsTableRow}
use Rattle.legacy_laws.proofs.TableRows.{is_property_want, IsRegular, table_rows}
use Rattle.legacy_laws.proofs.FunctionProperties.{GoesBy, read_goes}

-- ---- a literal of a row of the table is no object

none_either : (b : Bool) (nothing : Option Data) → nothing ≡ None → (if b then nothing else None) ≡ None
none_either true nothing h = h
none_either false nothing h = refl

map_fits_nowhere : (want : Want) (ps : Pairs) (b : Bool) → is_property_want want ≡ true
    → (if has_form want (map ps) && b then fitted (fit want (map ps)) else None) ≡ None
map_fits_nowhere wants.Any ps b h = absurd (cc)
map_fits_nowhere wants.Shown ps b h = refl
map_fits_nowhere wants.Boolean ps b h = none_either b None refl
map_fits_nowhere wants.Number ps b h = none_either b None refl
map_fits_nowhere wants.Text ps b h = absurd (cc)
map_fits_nowhere wants.Color ps b h = none_either b None refl
map_fits_nowhere wants.Object ps b h = absurd (cc)
map_fits_nowhere wants.Image ps b h = refl
map_fits_nowhere (wants.List i n) ps b h = none_either b None refl
map_fits_nowhere (wants.Enum c) ps b h = none_either b None refl
map_fits_nowhere (wants.EnumList c) ps b h = none_either b None refl

read_nowhere : (row : RowData) (r : Result Pairs NumFault) → is_property_want row.want ≡ true
    → literal_read row (then_data r (λ ps. Ok (map ps))) ≡ None
read_nowhere row (Ok ps) h = map_fits_nowhere row.want ps (keeps_limits row.limits (map ps)) h
read_nowhere row (Err past) h = refl

object_is_none : (row : RowData) (fs : Fields) (d : Data) → is_property_want row.want ≡ true
    → literal_of (json.object fs) row ≡ Some d → ⊥
object_is_none row fs d h is =
    let none : literal_of (json.object fs) row ≡ None = read_nowhere row (fields_data fs) h in
    let both : Some d ≡ None = sym is ∙ none in
    absurd (cc)

-- ---- the two forms

abbrev pub is_scalar : Tree → Bool
is_scalar (json.list ts) = false
is_scalar (json.object fs) = false
is_scalar _ = true

-- null, a boolean, a number, or a text without tokens where the row takes these
pub record IsBareLiteral (row : RowData) (e : Tree) : Type 0 where
  pub scalar : is_scalar e ≡ true
  pub tokens : is_token_text row e ≡ false
  pub value : (d : Data) × (literal_of e row ≡ Some d)

abbrev pub IsMigratedForm : RowData → Tree → Type 0
IsMigratedForm row e = (is_expression e ≡ true) ⊎ IsBareLiteral row e

module _ (row : RowData) (regular : IsRegular row) where
  output_forms : (o : Output) → IsOutputOf row o → IsMigratedForm row (output_expression o)
  output_forms (literal json.null d) h = inr (record { scalar = refl; tokens = refl; value = (d, h.0) })
  output_forms (literal (json.boolean b) d) h = inr (record { scalar = refl; tokens = refl; value = (d, h.0) })
  output_forms (literal (json.number n) d) h = inr (record { scalar = refl; tokens = refl; value = (d, h.0) })
  output_forms (literal (json.text s) d) h = inr (record { scalar = refl; tokens = h.1; value = (d, h.0) })
  output_forms (literal (json.list ts) d) h = inl refl
  output_forms (literal (json.object fs) d) h = absurd (object_is_none row fs d regular.want h.0)
  output_forms (tokens s) h = inl refl

  -- only steps with one stop are not a call
  over_zoom : (way : Way) (ss : List (Spelled × Output)) → AreNumberStops row ss → HasSome ss
      → IsMigratedForm row (way_expression way zoom_expression (stop_branches ss))
  over_zoom even ss h some = inl refl
  over_zoom (curved base) ss h some = inl refl
  over_zoom stepped [] h some = absurd some
  over_zoom stepped (s ∷ []) h some = output_forms s.1 h.0.1
  over_zoom stepped (s ∷ t ∷ ss) h some = inl refl

  rule_is_call : (property default : Tree) (rule : PropertyRule)
      → is_expression (rule_expression property default rule) ≡ true
  rule_is_call property default (numeric way stops) = refl
  rule_is_call property default (categorical stops) = refl

  over_zooms : (way : Way) (property default : Tree) (rs : List (Spelled × PropertyRule)) → HasSome rs
      → is_expression (way_expression way zoom_expression (rule_branches property default rs)) ≡ true
  over_zooms even property default rs some = refl
  over_zooms (curved base) property default rs some = refl
  over_zooms stepped property default [] some = absurd some
  over_zooms stepped property default (r ∷ []) some = rule_is_call property default r.1
  over_zooms stepped property default (r ∷ s ∷ rs) some = refl

  identity_is_call : (want : Want) (property default : Tree)
      → is_expression (identity_expression want property default) ≡ true
  identity_is_call wants.Any property default = refl
  identity_is_call wants.Shown property default = refl
  identity_is_call wants.Boolean property default = refl
  identity_is_call wants.Number property default = refl
  identity_is_call wants.Text property default = refl
  identity_is_call wants.Color property default = refl
  identity_is_call wants.Object property default = refl
  identity_is_call wants.Image property default = refl
  identity_is_call (wants.List i n) property default = refl
  identity_is_call (wants.Enum c) property default = refl
  identity_is_call (wants.EnumList c) property default = refl

  body_forms : (default : Tree) (property : Option (List ℕ)) (body : Body) → IsBodyOf row body
      → GoesBy property body → IsMigratedForm row (body_expression row default property body)
  body_forms default (Some name) (plain rule) h goes = inl (rule_is_call _ default rule)
  body_forms default None (plain (numeric way ss)) h goes = over_zoom way ss h.1.0 h.1.1.0
  body_forms default None (plain (categorical ss)) h goes = absurd goes
  body_forms default (Some name) (zoomed rs) h goes =
      inl (over_zooms (zoom_way row) (named_property (Some name)) default rs h.1.0)
  body_forms default None (zoomed rs) h goes = absurd goes
  body_forms default (Some name) identity h goes =
      inl (identity_is_call row.want (named_property (Some name)) default)
  body_forms default None identity h goes = absurd goes

-- The expression of a function of a row of the table that was read.
pub function_forms : (row : RowData) (t : Tree) (f : Function) → IsTableRow row
    → legacy.form row t ≡ Some (Some f) → IsMigratedForm row (function_expression row f)
function_forms row t f of_table read =
    body_forms row (table_rows row of_table) (default_by f.fallback row) f.property f.body
    (read_is_sound row t f read).body (read_goes row t f read)
