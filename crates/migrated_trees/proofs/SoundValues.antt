-- The migrated value of a row of the table is sound where the value is: the expression of a function opens
-- few arrays, and an array of scalars inside of these. It is shown inside of at most 45 arrays and objects.
use Rattle.std.proofs.Common.{ℕ, suc, ◌≤◌, List, [], ◌∷◌, ◌++◌, refl, arith, true, false}
use Rattle.std.specs.Prelude.{Bool, codes, IsUtf8, Option, Some, None, if◌then◌else◌}
use Rattle.decimal_json.specs.Sound.{IsSound, AreSound}
use Rattle.decimal_json.specs.Tree as json
use Rattle.decimal_json.specs.Tree.{Tree, trees_of}
use Rattle.prop_values.specs.declared.kinds.Want.{Want}
use Rattle.prop_values.specs.declared.kinds.Want.TheVariants as wants
use Rattle.property_tables.specs.Rows.{RowData}
use Rattle.legacy_functions.specs.Form as functions
use Rattle.legacy_functions.specs.Function.{Spelled, Input, flag, number, word, Output, Way, even, curved}
use Rattle.legacy_functions.specs.Function.{stepped}
use Rattle.legacy_functions.specs.Function.{PropertyRule, numeric, categorical, Body, plain, zoomed, identity, Function}
use Rattle.legacy_functions.specs.Meaning.{zoom_way}
use Rattle.legacy_functions.specs.ToExpression.{default_by, Branches, branch_elements, curve_expression}
use Rattle.legacy_functions.specs.ToExpression.{way_expression, stop_branches, kind_case, input_tree}
use Rattle.legacy_functions.specs.ToExpression.{category_elements}
use Rattle.legacy_functions.specs.ToExpression.{rule_expression, zoom_expression, zoom_rule_expression}
use Rattle.legacy_functions.specs.ToExpression.{rule_branches}
use Rattle.legacy_functions.specs.ToExpression.{identity_expression, named_property, plain_expression}
use Rattle.legacy_functions.specs.ToExpression.{body_expression}
use Rattle.legacy_functions.specs.Tokens.{call, property_expression}
use Rattle.legacy_functions.proofs.SoundRules.{OfSome}
use Rattle.value_forms.specs.declared.forms.Form.TheVariants as forms
use Rattle.value_forms.specs.Forms.{form_of}
use Rattle.value_forms.specs.declared.forms.Form.{Form}
use Rattle.style_migrate.specs.Migrated.{function_or, tokens_or, value_by_form}
use Rattle.migrated_trees.specs.SoundTreesLaw.{MigratedValuesAreSound}
use Rattle.migrated_trees.proofs.AsciiTexts.{ascii_is_utf8}
use Rattle.migrated_trees.proofs.SoundLiterals.{IsSoundUpTo, IsSoundRow, rows_are_sound, default_sound}
use Rattle.migrated_trees.proofs.SoundReading.{IsSoundNumber, IsSoundInput, IsSoundOutput, IsSoundWay}
use Rattle.migrated_trees.proofs.SoundReading.{AreSoundStops}
use Rattle.migrated_trees.proofs.SoundReading.{AreSoundNumbers, IsSoundRule, AreSoundRules, IsSoundBody}
use Rattle.migrated_trees.proofs.SoundReading.{HasSoundParts}
use Rattle.migrated_trees.proofs.SoundReading.{form_sound}
use Rattle.migrated_trees.proofs.SoundTexts.{called, tokens_sound}

-- ---- branches

abbrev AreSoundBranches : ℕ → Branches → Type 0
AreSoundBranches most [] = Unit {0}
AreSoundBranches most (b ∷ bs) = (IsSoundNumber b.0 × IsSoundUpTo most b.1) × AreSoundBranches most bs

branches_sound : (most k : ℕ) (bs : Branches) → k ≤ most → AreSoundBranches most bs
    → AreSound k (trees_of (branch_elements bs))
branches_sound most k [] low h = tt
branches_sound most k (b ∷ bs) low h = (h.0.0, (h.0.1 k low, branches_sound most k bs low h.1))

curve_sound : (way : Way) (k : ℕ) → k ≤ 60 → IsSoundWay way → IsSound k (curve_expression way)
curve_sound even k low h = called (codes "linear") k [] refl (omega (arith, low)) tt
curve_sound (curved base) k low h =
    called (codes "exponential") k (json.number base.spelled ∷ []) refl (omega (arith, low)) (h, tt)
curve_sound stepped k low h = called (codes "linear") k [] refl (omega (arith, low)) tt

module _ (most : ℕ) (within : most ≤ 50) (x : Tree) (input : IsSoundUpTo most x) where
  ramp_sound : (way : Way) (bs : Branches) (k : ℕ) → suc k ≤ most → IsSoundWay way → AreSoundBranches most bs
      → AreSound (suc k) (trees_of (curve_expression way ∷ x ∷ branch_elements bs))
  ramp_sound way bs k low w h = (
    curve_sound way (suc k) (omega (arith, within, low)) w,
    (input (suc k) low, branches_sound most (suc k) bs low h),
  )

  way_sound : (way : Way) (bs : Branches) (k : ℕ) → suc k ≤ most → IsSoundWay way → AreSoundBranches most bs
      → IsSound k (way_expression way x bs)
  way_sound even bs k low w h =
      called (codes "interpolate") k (curve_expression even ∷ x ∷ branch_elements bs) refl
      (omega (arith, within, low))
      (ramp_sound even bs k low w h)
  way_sound (curved base) bs k low w h =
      called (codes "interpolate") k (curve_expression (curved base) ∷ x ∷ branch_elements bs) refl
      (omega (arith, within, low)) (ramp_sound (curved base) bs k low w h)
  way_sound stepped [] k low w h = tt
  way_sound stepped (b ∷ []) k low w h = h.0.1 k (omega (arith, low))
  way_sound stepped (b ∷ c ∷ bs) k low w h =
      called (codes "step") k (x ∷ b.1 ∷ branch_elements (c ∷ bs)) refl (omega (arith, within, low))
      (input (suc k) low, (h.0.1 (suc k) low, branches_sound most (suc k) (c ∷ bs) low h.1))

stops_are_branches : (ss : List (Spelled × Output)) → AreSoundNumbers ss → AreSoundBranches 50 (stop_branches ss)
stops_are_branches [] h = tt
stops_are_branches (s ∷ ss) h = (h.0, stops_are_branches ss h.1)

-- ---- parts

property_sound : (name : List ℕ) (k : ℕ) → IsUtf8 name → k ≤ 60 → IsSound k (property_expression name)
property_sound name k h low = called (codes "get") k (json.text name ∷ []) refl (omega (arith, low)) (h, tt)

named_sound : (property : Option (List ℕ)) → OfSome IsUtf8 property → IsSoundUpTo 50 (named_property property)
named_sound (Some name) h k low = property_sound name k h (omega (arith, low))
named_sound None h k low = tt

zoom_sound : IsSoundUpTo 50 zoom_expression
zoom_sound k low = called (codes "zoom") k [] refl (omega (arith, low)) tt

input_sound : (i : Input) (k : ℕ) → IsSoundInput i → IsSound k (input_tree i)
input_sound (flag b) k h = tt
input_sound (number n) k h = h
input_sound (word s) k h = h

module _ (property default : Tree) (named : IsSoundUpTo 50 property) (else_sound : IsSoundUpTo 50 default) where
  case_sound : (kind : List ℕ) (e : Tree) (k : ℕ) → IsUtf8 kind → k ≤ 47 → IsSound (suc k) e
      → IsSound k (kind_case kind property e default)
  case_sound kind e k letters low h =
      let type_tree : Tree = call (codes "typeof") (property ∷ []) in
      let test_tree : Tree = call (codes "==") (type_tree ∷ json.text kind ∷ []) in
      let type_of = called (codes "typeof") (suc (suc k)) (property ∷ []) refl (omega (arith, low))
      (named (suc (suc (suc k))) (omega (arith, low)), tt) in
      let test = called (codes "==") (suc k) (type_tree ∷ json.text kind ∷ []) refl (omega (arith, low))
      (type_of, (letters, tt)) in
      called (codes "case") k (test_tree ∷ e ∷ default ∷ []) refl (omega (arith, low))
      (test, (h, (else_sound (suc k) (omega (arith, low)), tt)))

  categories_sound : (ss : List (Input × Output)) (k : ℕ) → k ≤ 47 → AreSoundStops ss
      → AreSound k (trees_of (category_elements property ss ++ default ∷ []))
  categories_sound [] k low h = (else_sound k (omega (arith, low)), tt)
  categories_sound (s ∷ ss) k low h =
      let test = called (codes "==") k (property ∷ input_tree s.0 ∷ []) refl (omega (arith, low))
      (named (suc k) (omega (arith, low)), (input_sound s.0 (suc k) h.0.0, tt)) in
      (test, (h.0.1 k (omega (arith, low)), categories_sound ss k low h.1))

  rule_sound : (rule : PropertyRule) (k : ℕ) → k ≤ 46 → IsSoundRule rule
      → IsSound k (rule_expression property default rule)
  rule_sound (numeric way stops) k low h =
      let e = way_sound 50 (omega arith) property named way (stop_branches stops) (suc k) (omega (arith, low)) h.0
      (stops_are_branches stops h.1) in
      case_sound (codes "number") (way_expression way property (stop_branches stops)) k
      (ascii_is_utf8 (codes "number") refl) (omega (arith, low)) e
  rule_sound (categorical stops) k low h =
      called (codes "case") k (category_elements property stops ++ default ∷ []) refl (omega (arith, low))
      (categories_sound stops (suc k) (omega (arith, low)) h)

  rules_sound : (rs : List (Spelled × PropertyRule)) → AreSoundRules rs
      → AreSoundBranches 46 (rule_branches property default rs)
  rules_sound [] h = tt
  rules_sound (r ∷ rs) h = ((h.0.0, λ k low. rule_sound r.1 k low h.0.1), rules_sound rs h.1)

  identity_case : (kind : List ℕ) (k : ℕ) → IsUtf8 kind → k ≤ 45
      → IsSound k (kind_case kind property property default)
  identity_case kind k letters low =
      case_sound kind property k letters (omega (arith, low)) (named (suc k) (omega (arith, low)))

  identity_sound : (want : Want) (k : ℕ) → k ≤ 45 → IsSound k (identity_expression want property default)
  identity_sound wants.Any k low = identity_case (codes "string") k (ascii_is_utf8 (codes "string") refl) low
  identity_sound wants.Shown k low =
      called (codes "coalesce") k (property ∷ default ∷ []) refl (omega (arith, low))
      (named (suc k) (omega (arith, low)), (else_sound (suc k) (omega (arith, low)), tt))
  identity_sound wants.Boolean k low =
      identity_case (codes "boolean") k (ascii_is_utf8 (codes "boolean") refl) low
  identity_sound wants.Number k low = identity_case (codes "number") k (ascii_is_utf8 (codes "number") refl) low
  identity_sound wants.Text k low = identity_case (codes "string") k (ascii_is_utf8 (codes "string") refl) low
  identity_sound wants.Color k low = identity_case (codes "string") k (ascii_is_utf8 (codes "string") refl) low
  identity_sound wants.Object k low = identity_case (codes "string") k (ascii_is_utf8 (codes "string") refl) low
  identity_sound wants.Image k low = identity_case (codes "string") k (ascii_is_utf8 (codes "string") refl) low
  identity_sound (wants.List i n) k low = identity_case (codes "array") k (ascii_is_utf8 (codes "array") refl) low
  identity_sound (wants.Enum c) k low = identity_case (codes "string") k (ascii_is_utf8 (codes "string") refl) low
  identity_sound (wants.EnumList c) k low =
      identity_case (codes "array") k (ascii_is_utf8 (codes "array") refl) low

-- ---- functions

if_way_sound : (b : Bool) → IsSoundWay (if b then even else stepped)
if_way_sound true = tt
if_way_sound false = tt

zoom_rule_sound : (default : Tree) (rule : PropertyRule) (k : ℕ) → IsSoundUpTo 50 default → k ≤ 45 → IsSoundRule rule
    → IsSound k (zoom_rule_expression default rule)
zoom_rule_sound default (numeric way stops) k d low h =
    way_sound 50 (omega arith) zoom_expression zoom_sound way (stop_branches stops) k (omega (arith, low)) h.0
    (stops_are_branches stops h.1)
zoom_rule_sound default (categorical stops) k d low h = d k (omega (arith, low))

plain_sound : (property : Option (List ℕ)) (default : Tree) (rule : PropertyRule) (k : ℕ) → OfSome IsUtf8 property
    → IsSoundUpTo 50 default → k ≤ 45 → IsSoundRule rule → IsSound k (plain_expression property default rule)
plain_sound (Some name) default rule k p d low h =
    rule_sound (property_expression name) default (named_sound (Some name) p) d rule k (omega (arith, low)) h
plain_sound None default rule k p d low h = zoom_rule_sound default rule k d low h

body_sound : (row : RowData) (default : Tree) (property : Option (List ℕ)) (body : Body) (k : ℕ)
    → OfSome IsUtf8 property → IsSoundUpTo 50 default → k ≤ 45 → IsSoundBody body
    → IsSound k (body_expression row default property body)
body_sound row default property (plain rule) k p d low h = plain_sound property default rule k p d low h
body_sound row default property (zoomed rules) k p d low h =
    way_sound 46 (omega arith) zoom_expression (λ m small. zoom_sound m (omega (arith, small))) (zoom_way row)
    (rule_branches (named_property property) default rules) k (omega (arith, low)) (if_way_sound row.reads.ramps)
    (rules_sound (named_property property) default (named_sound property p) d rules h)
body_sound row default property identity k p d low h =
    identity_sound (named_property property) default (named_sound property p) d row.want k low

fallback_sound : (row : RowData) (o : Option Output) → IsSoundRow row → OfSome IsSoundOutput o
    → IsSoundUpTo 50 (default_by o row)
fallback_sound row (Some o) of_row h = h
fallback_sound row None of_row h = default_sound row.fallback of_row.default

-- ---- values

found_sound : (row : RowData) (t : Tree) (found : Option (Option Function)) (k : ℕ) → IsSoundRow row → k ≤ 45
    → IsSound k t → OfSome (OfSome HasSoundParts) found → IsSound k (function_or row t found)
found_sound row t (Some (Some f)) k of_row low h parts =
    body_sound row (default_by f.fallback row) f.property f.body k parts.property
    (fallback_sound row f.fallback of_row parts.fallback) low parts.body
found_sound row t (Some None) k of_row low h parts = h
found_sound row t None k of_row low h parts = h

text_sound : (t : Tree) (k : ℕ) → k ≤ 45 → IsSound k t → IsSound k (tokens_or t)
text_sound json.null k low h = tt
text_sound (json.boolean b) k low h = tt
text_sound (json.number n) k low h = h
text_sound (json.text s) k low h = tokens_sound s k (omega (arith, low)) h
text_sound (json.list ts) k low h = h
text_sound (json.object fs) k low h = h

formed_sound : (form : Form) (row : RowData) (t : Tree) (k : ℕ) → IsSoundRow row → k ≤ 45 → IsSound k t
    → IsSound k (value_by_form form row t)
formed_sound forms.Function row t k of_row low h =
    found_sound row t (functions.form row t) k of_row low h
    (form_sound row of_row.want k t h)
formed_sound forms.TokenText row t k of_row low h = text_sound t k low h
formed_sound forms.Expression row t k of_row low h = h
formed_sound forms.Literal row t k of_row low h = h

pub values_are_sound : MigratedValuesAreSound
values_are_sound row t k of_table low h =
    formed_sound (form_of row t) row t k (rows_are_sound row of_table) (omega (arith, low)) h
