-- A migrated filter lets the same features pass as the filter.
use Rattle.std.proofs.Common.{◌≡◌, ◌∙◌, ℕ, List, refl, ap, sym, subst, true, false}
use Rattle.std.specs.Prelude.{Bool, Some, Ok, Err, if◌then◌else◌}
use Rattle.decimal_json.specs.Tree.{Tree}
use Rattle.prop_values.specs.Data.{Data}
use Rattle.expr_syntax.specs.Reading.{reading_with}
use Rattle.eval_face.specs.Resolved.{passes}
use Rattle.legacy_filters.specs.Filter.{Filter}
use Rattle.legacy_filters.specs.Form.{FilterRead, reading}
use Rattle.legacy_filters.specs.Laws.{NoExpressionIsLegacy}
use Rattle.legacy_filters.specs.Migrated.{expression_or_itself}
use Rattle.legacy_filters.specs.Split.{is_legacy}
use Rattle.legacy_filters.specs.ToExpression.{expression}
use Rattle.legacy_laws.specs.LegacyFilterLaw.{ExpressionsMeanTheirFilters}
use Rattle.style_layout.specs.Forms.{LayerFilter, condition, legacy_filter}
use Rattle.style_layout.specs.Forms.{condition_of, legacy_of, layer_filter, feature_in}
use Rattle.style_layout.specs.Forms.{expression_value, expression_mentions}
use Rattle.migrate_laws.specs.MigratedLaw.{LetsTheSamePass, filter_mentions, MigratedFiltersAreTheSame}

module _ (globals : List (List ℕ × Data)) where
  abbrev filter_by : Bool → FilterRead → Tree → LayerFilter
  filter_by b r t = if b then legacy_of r else condition_of (reading_with t globals)

  itself : (s : LayerFilter) → LetsTheSamePass s s
  itself s = record { passes = λ world. refl; outside = refl }

  of_filters : (new old s r : LayerFilter) → new ≡ s → old ≡ r → LetsTheSamePass s r → LetsTheSamePass new old
  of_filters new old s r is was same =
      let first = subst (λ x. LetsTheSamePass x r) (sym is) same in
      subst (λ y. LetsTheSamePass new y) (sym was) first

  read_same : ExpressionsMeanTheirFilters → NoExpressionIsLegacy → (t : Tree) (f : Filter) → reading t ≡ Ok f
      → LetsTheSamePass (layer_filter globals (Some (expression f))) (legacy_filter f)
  read_same means none t f read =
      let (e, reads, says) = means t f read in
      let new = expression f in
      let is = ap (λ b. filter_by b (reading new) new) (none t f read) ∙ ap condition_of (reads globals) in
      of_filters (layer_filter globals (Some new)) (legacy_filter f) (condition e) (legacy_filter f) is refl
      (record {
        passes = λ world.
            ap passes (says world.zoom (feature_in world) world.state world.has_image world.is_supported);
        outside = refl;
      })

  filter_same : ExpressionsMeanTheirFilters → NoExpressionIsLegacy → (t : Tree) (b : Bool) (r : FilterRead)
      → is_legacy t ≡ b → reading t ≡ r
      → LetsTheSamePass (layer_filter globals (Some (if b then expression_or_itself r t else t)))
      (layer_filter globals (Some t))
  filter_same means none t false r legacy read = itself (layer_filter globals (Some t))
  filter_same means none t true (Ok f) legacy read =
      let was = ap (λ b. filter_by b (reading t) t) legacy ∙ ap legacy_of read in
      let new = layer_filter globals (Some (expression f)) in
      let same = read_same means none t f read in
      of_filters new (layer_filter globals (Some t)) new (legacy_filter f) refl was same
  filter_same means none t true (Err fault) legacy read = itself (layer_filter globals (Some t))

  read_mentions : ExpressionsMeanTheirFilters → NoExpressionIsLegacy → (t : Tree) (f : Filter) → reading t ≡ Ok f
      → filter_mentions globals (layer_filter globals (Some (expression f))) ≡ filter_mentions globals (legacy_filter f)
  read_mentions means none t f read =
      let (e, reads, says) = means t f read in
      let new = expression f in
      let is = ap (λ b. filter_by b (reading new) new) (none t f read) ∙ ap condition_of (reads globals) in
      ap (filter_mentions globals) is ∙ sym (ap (λ r. expression_mentions (expression_value r)) (reads globals))

  mentions_same : ExpressionsMeanTheirFilters → NoExpressionIsLegacy → (t : Tree) (b : Bool) (r : FilterRead)
      → is_legacy t ≡ b → reading t ≡ r
      → filter_mentions globals (layer_filter globals (Some (if b then expression_or_itself r t else t)))
      ≡ filter_mentions globals (layer_filter globals (Some t))
  mentions_same means none t false r legacy read = refl
  mentions_same means none t true (Ok f) legacy read =
      let was = ap (λ b. filter_by b (reading t) t) legacy ∙ ap legacy_of read in
      read_mentions means none t f read ∙ sym (ap (filter_mentions globals) was)
  mentions_same means none t true (Err fault) legacy read = refl

pub filters_are_the_same : ExpressionsMeanTheirFilters → NoExpressionIsLegacy → MigratedFiltersAreTheSame
filters_are_the_same means none globals t = record {
  passes = filter_same globals means none t (is_legacy t) (reading t) refl refl;
  mentions = mentions_same globals means none t (is_legacy t) (reading t) refl refl;
}
