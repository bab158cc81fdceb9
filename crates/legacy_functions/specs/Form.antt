-- Which objects are legacy functions of a row, and which of these are outside. Source: own.
use Rattle.std.specs.Prelude.{ℕ, ℤ, pos, List, [], ◌∷◌, Bool, true, false, not, ◌&&◌, ◌||◌, codes, Option, Some, None}
use Rattle.std.specs.Prelude.{is_some, is_none, option_map, option_and_then, int_le, int_lt, Result, Ok, Err}
use Rattle.std.specs.Prelude.{if◌then◌else◌}
use Rattle.std.specs.List.{list_any}
use Rattle.std.specs.Ordering.{int_eq}
use Rattle.std.specs.Str.{bytes_eq}
use Rattle.fixed_num.specs.Decimal.{read_text}
use Rattle.fixed_num.specs.declared.decimal.NumFault.{NumFault}
use Rattle.decimal_json.specs.Accessors.{text_in}
use Rattle.decimal_json.specs.Tree as json
use Rattle.decimal_json.specs.Tree.{Tree, Trees, no_trees, tree, Fields, no_fields, field, field_at}
use Rattle.prop_values.specs.Data.{Data}
use Rattle.prop_values.specs.Equality.{same_flag, same_text}
use Rattle.property_tables.specs.Literals.{literal_of}
use Rattle.property_tables.specs.Rows.{RowData}
use Rattle.legacy_functions.specs.Function.{Spelled, Input, flag, number, word, Output, literal, tokens, Way, even}
use Rattle.legacy_functions.specs.Function.{curved, stepped, PropertyRule, numeric, categorical, Body, plain, zoomed}
use Rattle.legacy_functions.specs.Function.{identity, Function}
use Rattle.legacy_functions.specs.Tokens.{has_tokens}
use Rattle.legacy_functions.specs.declared.function.FunctionType.{FunctionType}
use Rattle.legacy_functions.specs.declared.function.FunctionType.TheVariants.{Exponential, Interval, Categorical}
use Rattle.legacy_functions.specs.declared.function.FunctionType.TheVariants.{Identity}

-- nothing unless a test holds
abbrev pub where_true : {A : Type 0} → Bool → Option A → Option A
where_true true found = found
where_true false found = None

-- what each gives, in their order; nothing where one gives nothing
abbrev pub and_first : {A : Type 0} → Option A → Option (List A) → Option (List A)
and_first (Some x) (Some xs) = Some (x ∷ xs)
and_first (Some x) None = None
and_first None later = None

abbrev pub each_of : {A B : Type 0} → (A → Option B) → List A → Option (List B)
each_of form [] = Some []
each_of form (x ∷ xs) = and_first (form x) (each_of form xs)

abbrev pub is_named : List ℕ → List (List ℕ) → Bool
is_named name names = list_any (bytes_eq name) names

-- ---- members: `stops`, `property`, `base`, `type`, `default`, `colorSpace`, and no other

abbrev pub has_known_members : Fields → Bool
has_known_members no_fields = true
has_known_members (field k t fs) =
    is_named k (codes "stops" ∷ codes "property" ∷ codes "base" ∷ codes "type" ∷ codes "default" ∷ codes "colorSpace" ∷
    []) && has_known_members fs

-- what a member may be, where it is there: else it is nothing
abbrev pub member_form : {A : Type 0} → (Tree → Option A) → Option Tree → Option (Option A)
member_form form (Some t) = option_map Some (form t)
member_form form None = Some None

-- ---- the four types

abbrev pub kind_named : List ℕ → Option FunctionType
kind_named name =
    if bytes_eq name (codes "exponential") then Some Exponential else
    if bytes_eq name (codes "interval") then Some Interval else
    if bytes_eq name (codes "categorical") then Some Categorical else
    if bytes_eq name (codes "identity") then Some Identity else
    None

-- exponential needs a row that ramps
abbrev pub kind_allowed : RowData → FunctionType → Bool
kind_allowed row Exponential = row.reads.ramps
kind_allowed row Interval = true
kind_allowed row Categorical = true
kind_allowed row Identity = true

abbrev pub if_allowed : RowData → Option FunctionType → Option FunctionType
if_allowed row (Some kind) = where_true (kind_allowed row kind) (Some kind)
if_allowed row None = None

-- without `type` it is exponential where the row ramps, else interval
abbrev pub kind_form : RowData → Option Tree → Option FunctionType
kind_form row (Some (json.text name)) = if_allowed row (kind_named name)
kind_form row (Some _) = None
kind_form row None = Some (if row.reads.ramps then Exponential else Interval)

-- numbers are those within the bound
abbrev pub spelled_number : List ℕ → Result ℤ NumFault → Option Spelled
spelled_number n (Ok z) = Some (record { spelled = n; value = z })
spelled_number n (Err past) = None

abbrev pub number_form : Tree → Option Spelled
number_form (json.number n) = spelled_number n (read_text n)
number_form _ = None

-- ---- outputs and the default are literals of the row; where the row takes tokens a text with tokens is a
-- token text

abbrev pub literal_form : Tree → Option Data → Option Output
literal_form t (Some d) = Some (literal t d)
literal_form t None = None

abbrev pub text_output : Bool → List ℕ → Option Data → Option Output
text_output true s (Some d) = Some (tokens s)
text_output true s None = None
text_output false s found = literal_form (json.text s) found

abbrev pub output_form : RowData → Tree → Option Output
output_form row (json.text s) = text_output (row.takes_tokens && has_tokens s) s (literal_of (json.text s) row)
output_form row t = literal_form t (literal_of t row)

-- ---- inputs

-- a number, and for categories a text or a boolean too
abbrev pub input_form : Bool → Tree → Option Input
input_form any (json.number n) = option_map number (spelled_number n (read_text n))
input_form any (json.text s) = where_true any (Some (word s))
input_form any (json.boolean b) = where_true any (Some (flag b))
input_form any _ = None

-- an input, and the zoom of one that is an object of exactly these two
abbrev pub PlacedInput : Type 0
PlacedInput = Option Spelled × Input

abbrev pub has_two_fields : Fields → Bool
has_two_fields (field k t (field l u no_fields)) = true
has_two_fields _ = false

abbrev pub zoomed_input : Bool → Option Tree → Option Tree → Option PlacedInput
zoomed_input any (Some zoom) (Some value) =
    option_and_then (λ z. option_map (λ i. (Some z, i)) (input_form any value)) (number_form zoom)
zoomed_input any _ _ = None

abbrev pub object_input : Bool → Fields → Option PlacedInput
object_input any fs =
    where_true (has_two_fields fs) (zoomed_input any (field_at (codes "zoom") fs) (field_at (codes "value") fs))

abbrev pub placed_input : Bool → Tree → Option PlacedInput
placed_input any (json.object fs) = object_input any fs
placed_input any t = option_map (λ i. (None, i)) (input_form any t)

-- ---- stops: arrays of an input and an output, at least one

abbrev pub PlacedStop : Type 0
PlacedStop = PlacedInput × Output

abbrev pub stop_form : RowData → Bool → Tree → Option PlacedStop
stop_form row any (json.list (tree i (tree o no_trees))) =
    option_and_then (λ p. option_map (λ out. (p, out)) (output_form row o)) (placed_input any i)
stop_form row any _ = None

abbrev pub each_stop : RowData → Bool → Trees → Option (List PlacedStop)
each_stop row any no_trees = Some []
each_stop row any (tree t ts) = and_first (stop_form row any t) (each_stop row any ts)

abbrev pub stops_form : RowData → Bool → Tree → Option (List PlacedStop)
stops_form row any (json.list (tree t ts)) = each_stop row any (tree t ts)
stops_form row any _ = None

-- either no input has a zoom, or each has one
abbrev pub Stop : Type 0
Stop = Input × Output

abbrev pub plain_stop : PlacedStop → Option Stop
plain_stop s = where_true (is_none s.0.0) (Some (s.0.1, s.1))

abbrev pub plain_stops : List PlacedStop → Option (List Stop)
plain_stops ss = each_of plain_stop ss

abbrev pub zoomed_stop : PlacedStop → Option (Spelled × Stop)
zoomed_stop s = option_map (λ zoom. (zoom, (s.0.1, s.1))) s.0.0

abbrev pub zoomed_stops : List PlacedStop → Option (List (Spelled × Stop))
zoomed_stops ss = each_of zoomed_stop ss

-- ---- what the inputs of a rule have to be

-- not below the number before, where there is one
abbrev pub is_not_below : Option ℤ → ℤ → Bool
is_not_below None z = true
is_not_below (Some before) z = int_le before z

-- the numbers among the inputs do not descend
abbrev pub never_descend : Option ℤ → List Stop → Bool
never_descend before [] = true
never_descend before ((number n, o) ∷ ss) = is_not_below before n.value && never_descend (Some n.value) ss
never_descend before ((flag b, o) ∷ ss) = never_descend before ss
never_descend before ((word s, o) ∷ ss) = never_descend before ss

abbrev pub same_input : Input → Input → Bool
same_input (flag a) (flag b) = same_flag a b
same_input (number m) (number n) = int_eq m.value n.value
same_input (word s) (word t) = same_text s t
same_input _ _ = false

-- no input is one of those that were seen, nor equal to another
abbrev pub all_differ : (Input → Bool) → List Stop → Bool
all_differ seen [] = true
all_differ seen (s ∷ ss) = not (seen s.0) && all_differ (λ i. same_input s.0 i || seen i) ss

abbrev pub number_stops : List Stop → List (Spelled × Output)
number_stops [] = []
number_stops ((number n, o) ∷ ss) = (n, o) ∷ number_stops ss
number_stops ((flag b, o) ∷ ss) = number_stops ss
number_stops ((word s, o) ∷ ss) = number_stops ss

abbrev pub equals_before : Option ℤ → ℤ → Bool
equals_before None z = false
equals_before (Some before) z = int_eq before z

-- a stop whose input equals the one before is dropped
abbrev pub without_repeated : Option ℤ → List (Spelled × Output) → List (Spelled × Output)
without_repeated before [] = []
without_repeated before (s ∷ ss) =
    if equals_before before s.0.value then without_repeated before ss else s ∷ without_repeated (Some s.0.value) ss

-- a list that has an element
abbrev pub some_of : {A : Type 0} → List A → Option (List A)
some_of [] = None
some_of (x ∷ xs) = Some (x ∷ xs)

-- a rule over numbers, or of categories where no way is given
abbrev pub rule_form : Option Way → List Stop → Option PropertyRule
rule_form (Some way) ss =
    where_true (never_descend None ss) (option_map (numeric way) (some_of (without_repeated None (number_stops ss))))
rule_form None ss = where_true (never_descend None ss && all_differ (λ i. false) ss) (Some (categorical ss))

-- ---- stops by their zooms, which do not descend

abbrev pub zooms_never_descend : Option ℤ → List (Spelled × Stop) → Bool
zooms_never_descend before [] = true
zooms_never_descend before (s ∷ ss) = is_not_below before s.0.value && zooms_never_descend (Some s.0.value) ss

-- a stop before groups of one zoom each, whose text is that of the first stop
abbrev pub with_group : Spelled × Stop → List (Spelled × List Stop) → List (Spelled × List Stop)
with_group s [] = (s.0, s.1 ∷ []) ∷ []
with_group s (g ∷ gs) = if int_eq s.0.value g.0.value then (s.0, s.1 ∷ g.1) ∷ gs else (s.0, s.1 ∷ []) ∷ g ∷ gs

abbrev pub by_zoom : List (Spelled × Stop) → List (Spelled × List Stop)
by_zoom [] = []
by_zoom (s ∷ ss) = with_group s (by_zoom ss)

abbrev pub group_form : Option Way → Spelled × List Stop → Option (Spelled × PropertyRule)
group_form way g = option_map (λ rule. (g.0, rule)) (rule_form way g.1)

abbrev pub rules_form : Option Way → List (Spelled × List Stop) → Option (List (Spelled × PropertyRule))
rules_form way gs = each_of (group_form way) gs

abbrev pub zoomed_body : Option (List (Spelled × PropertyRule)) → Option Body
zoomed_body found = option_map zoomed (option_and_then some_of found)

abbrev pub zoomed_form : Option Way → List (Spelled × Stop) → Option Body
zoomed_form way ss = where_true (zooms_never_descend None ss) (zoomed_body (rules_form way (by_zoom ss)))

abbrev pub plain_form : Option Way → List PlacedStop → Option Body
plain_form way ss = option_map plain (option_and_then (rule_form way) (plain_stops ss))

abbrev pub begins_with_zoom : List PlacedStop → Bool
begins_with_zoom [] = false
begins_with_zoom (s ∷ ss) = is_some s.0.0

-- with a property the inputs may have zooms
abbrev pub body_of : Option Way → Bool → List PlacedStop → Option Body
body_of way has_property ss =
    if has_property && begins_with_zoom ss then option_and_then (zoomed_form way) (zoomed_stops ss) else
    plain_form way ss

-- ---- the members together

pub record FunctionMembers : Type 0 where
  pub kind : FunctionType
  pub base : Option Spelled
  pub property : Option (List ℕ)
  pub fallback : Option Output
  pub stops : Option Tree
  pub has_space : Bool

infixl 10 ◌>>=◌
abbrev ◌>>=◌ : {A B : Type 0} → Option A → (A → Option B) → Option B
found >>= go = option_and_then go found

abbrev pub members_form : RowData → Fields → Option FunctionMembers
members_form row fs = where_true (has_known_members fs) (do
  kind ← kind_form row (field_at (codes "type") fs)
  base ← member_form number_form (field_at (codes "base") fs)
  property ← member_form text_in (field_at (codes "property") fs)
  fallback ← member_form (output_form row) (field_at (codes "default") fs)
  Some (record {
    kind = kind;
    base = base;
    property = property;
    fallback = fallback;
    stops = field_at (codes "stops") fs;
    has_space = is_some (field_at (codes "colorSpace") fs);
  }))

-- a base of 1 goes evenly
abbrev pub base_way : Option Spelled → Way
base_way None = even
base_way (Some base) = if int_eq base.value (pos 1000000) then even else curved base

-- no way: categories, or the property itself
abbrev pub way_by : FunctionType → Option Spelled → Option Way
way_by Exponential base = Some (base_way base)
way_by Interval base = Some stepped
way_by Categorical base = None
way_by Identity base = None

abbrev pub is_categories : FunctionType → Bool
is_categories Categorical = true
is_categories _ = false

abbrev pub stops_body : RowData → FunctionMembers → Option Body
stops_body row ms = do
  stops ← ms.stops
  placed ← stops_form row (is_categories ms.kind) stops
  body_of (way_by ms.kind ms.base) (is_some ms.property) placed

abbrev pub kind_body : FunctionType → RowData → FunctionMembers → Option Body
kind_body Exponential row ms = stops_body row ms
kind_body Interval row ms = stops_body row ms
kind_body Categorical row ms = where_true (is_some ms.property) (stops_body row ms)
kind_body Identity row ms = where_true (is_some ms.property && is_none ms.stops) (Some identity)

-- ---- what is outside: a color space; and of exponential functions a base that is not above 0, and one other
-- than 1 over zooms

abbrev pub is_zoomed : Body → Bool
is_zoomed (zoomed rules) = true
is_zoomed _ = false

abbrev pub is_outside_base : Way → Bool → Bool
is_outside_base even over_zooms = false
is_outside_base stepped over_zooms = false
is_outside_base (curved base) over_zooms = not (int_lt (pos 0) base.value) || over_zooms

abbrev pub is_outside_way : Option Way → Bool → Bool
is_outside_way (Some way) over_zooms = is_outside_base way over_zooms
is_outside_way None over_zooms = false

-- a function, or none where it is outside
abbrev pub inside : FunctionMembers → Body → Option Function
inside ms body =
    if ms.has_space || is_outside_way (way_by ms.kind ms.base) (is_zoomed body) then None
    else Some (record { property = ms.property; fallback = ms.fallback; body = body })

-- The legacy function that an object is on a row, or none where it is outside. Nothing: it is ill-formed.
abbrev pub function_form : RowData → Fields → Option (Option Function)
function_form row fs = option_and_then (λ ms. option_map (inside ms) (kind_body ms.kind row ms)) (members_form row fs)

abbrev pub form : RowData → Tree → Option (Option Function)
form row (json.object fs) = function_form row fs
form row _ = None
