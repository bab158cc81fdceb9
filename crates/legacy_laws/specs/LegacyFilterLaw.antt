-- A legacy filter and its expression say the same. Source: own.
use Rattle.std.specs.Prelude.{◌≡◌, ℕ, ℤ, List, [], Bool, false, true, ◌||◌, Some, None, Ok, Err, if◌then◌else◌}
use Rattle.decimal_json.specs.Tree.{Tree}
use Rattle.prop_values.specs.Data.{Data, boolean}
use Rattle.prop_values.specs.declared.fault.EvalFault.TheVariants.{NotOrdered}
use Rattle.prop_values.specs.declared.kinds.Kind.TheVariants as kinds
use Rattle.prop_values.specs.declared.kinds.Want.TheVariants as wants
use Rattle.tile_reader.specs.declared.tile.Feature.{Feature}
use Rattle.expr_syntax.specs.Mentioned.{nothing, mentions}
use Rattle.expr_syntax.specs.ReadView.{uses_globals}
use Rattle.expr_syntax.specs.Reading.{reading_with}
use Rattle.expr_syntax.specs.Term.{Term}
use Rattle.expr_types.specs.Checked.{checked}
use Rattle.expr_types.specs.Own.{faults_if}
use Rattle.expr_types.specs.Typing.{TypedNodes}
use Rattle.eval_face.specs.Meaning.{mean}
use Rattle.eval_face.specs.World.{feature_world}
use Rattle.legacy_filters.specs.declared.filter.Test.{Test}
use Rattle.legacy_filters.specs.declared.filter.Test.TheVariants.{Ordered}
use Rattle.legacy_filters.specs.AskedParts.{asks_feature, is_order_of}
use Rattle.legacy_filters.specs.Filter.{Filter, flag, test, group, Filters, no_filters, filter}
use Rattle.legacy_filters.specs.Form as legacy
use Rattle.legacy_filters.specs.Meaning.{passes}
use Rattle.legacy_filters.specs.Split.{is_legacy}
use Rattle.legacy_filters.specs.Migrated.{migrated_filter}
use Rattle.legacy_filters.specs.ToExpression.{expression}

-- Whatever the zoom, the state and the two tests are, an expression gives of every feature under Boolean
-- whether it passes a filter.
abbrev pub SaysTheSame : Term → Filter → Type 0
SaysTheSame e f =
    (zoom : ℤ) (feature : Feature) (state : List (List ℕ × Data)) (images scripts : List ℕ → Bool) →
    mean e wants.Boolean [] (feature_world zoom feature state images scripts)
    ≡ Ok (boolean (passes f feature))

-- The expression of a filter that was read is inside and reads without a fault, whatever the values of the
-- global state are, and says the same as the filter. So it never ends with a fault.
abbrev pub ExpressionsMeanTheirFilters : Type 0
ExpressionsMeanTheirFilters =
    (t : Tree) (f : Filter) → legacy.reading t ≡ Ok f →
    (e : Term) × ((values : List (List ℕ × Data)) → reading_with (expression f) values ≡ Ok (Some e))
    × SaysTheSame e f

-- ---- types

-- an order with a number or a text; with a boolean the expression is `false`
abbrev pub is_order : Test → Bool
is_order (Ordered order v) = is_order_of v
is_order t = false

-- whether a filter contains such an order
abbrev mutual
  pub has_order : Filter → Bool
  has_order (flag b) = false
  has_order (test key t) = is_order t
  has_order (group g fs) = some_order fs

  pub some_order : Filters → Bool
  some_order no_filters = false
  some_order (filter f fs) = has_order f || some_order fs

-- The expression of a filter that was read is well typed as a filter: there is no type fault, and no node
-- reads what a filter may not read. Its kind is Boolean. The only fault that may be listed is NotOrdered, and
-- it is listed exactly where the filter has an order: `typeof` is before the order, so that the fault never
-- comes, but kinds do not show it.
abbrev pub MigratedFiltersAreTyped : Type 0
MigratedFiltersAreTyped =
    (t : Tree) (f : Filter) → legacy.reading t ≡ Ok f →
    (e : Term) (values : List (List ℕ × Data)) → reading_with (expression f) values ≡ Ok (Some e) →
    (found : TypedNodes) × (checked e wants.Boolean None ≡ Ok found) × (found.node.kind ≡ kinds.Boolean)
    × (found.node.may ≡ faults_if (has_order f) NotOrdered)

-- ---- what is read of the world

-- The expression of a filter that was read mentions the feature where the filter asks for it, and nothing
-- else.
abbrev pub MigratedFiltersMentionTheFeature : Type 0
MigratedFiltersMentionTheFeature =
    (t : Tree) (f : Filter) → legacy.reading t ≡ Ok f →
    (e : Term) (values : List (List ℕ × Data)) → reading_with (expression f) values ≡ Ok (Some e) →
    mentions e ≡ record nothing { feature = asks_feature f }

-- It has no node of the global state.
abbrev pub MigratedFiltersUseNoGlobals : Type 0
MigratedFiltersUseNoGlobals = (t : Tree) (f : Filter) → legacy.reading t ≡ Ok f → uses_globals (expression f) ≡ false

-- ---- migrating again

abbrev pub MigratedFiltersStay : Type 0
MigratedFiltersStay = (t : Tree) → migrated_filter (migrated_filter t) ≡ migrated_filter t
