-- The expression of a filter decides which features pass.
use Rattle.std.proofs.Common.{◌≡◌, ℕ, List, refl, ap, sym, subst}
use Rattle.std.specs.Prelude.{Bool, true, false, Option, Some, None, option_map, Ok, Err, if◌then◌else◌}
use Rattle.decimal_json.specs.Tree as json
use Rattle.decimal_json.specs.Tree.{Tree}
use Rattle.prop_values.specs.Data.{Data}
use Rattle.expr_syntax.specs.Reading.{Reading, reading_with}
use Rattle.expr_syntax.specs.ReadView.{uses_globals}
use Rattle.eval_face.specs.Resolved.{passes}
use Rattle.legacy_filters.specs.Form as filters
use Rattle.legacy_filters.specs.Split.{is_legacy}
use Rattle.legacy_filters.specs.ToExpression.{expression}
use Rattle.legacy_laws.specs.LegacyFilterLaw.{ExpressionsMeanTheirFilters}
use Rattle.style_layout.specs.Forms.{condition_of, feature_in, legacy_filter, legacy_of}
use Rattle.asked_cells.specs.Expressions.{CellExpression}
use Rattle.cell_sources.specs.CellExpressions.{expression_of_filter, legacy_tree, read_as_filter, term_read}
use Rattle.cell_sources.specs.CellLaws.{IsDecidedBy, ExpressionsDecideFilters}

module _ (globals : List (List ℕ × Data)) where
  abbrev read_from : Tree → Reading → Option CellExpression
  read_from t r = option_map (expression_of_filter (uses_globals t)) (term_read r)

  condition_decides : (t : Tree) (r : Reading) → IsDecidedBy (condition_of r) (read_from t r)
  condition_decides t (Ok (Some e)) = (refl, λ world. refl)
  condition_decides t (Ok None) = λ world. refl
  condition_decides t (Err fault) = λ world. refl

  legacy_decides : ExpressionsMeanTheirFilters → (t : Tree) (read : filters.FilterRead) → filters.reading t ≡ read
      → IsDecidedBy (legacy_of read) (read_as_filter globals (legacy_tree read))
  legacy_decides means t (Ok f) is =
      let (e, reads, says) = means t f is in
      subst (λ r. IsDecidedBy (legacy_filter f) (read_from (expression f) r)) (sym (reads globals))
      (refl, λ world. ap passes (sym (says world.zoom (feature_in world) world.state world.has_image world.is_supported)))
  legacy_decides means t (Err fault) is = λ world. refl

  split_decides : ExpressionsMeanTheirFilters → (t : Tree) (b : Bool)
      → IsDecidedBy (if b then legacy_of (filters.reading t) else condition_of (reading_with t globals))
      (read_as_filter globals (if b then legacy_tree (filters.reading t) else Some t))
  split_decides means t true = legacy_decides means t (filters.reading t) refl
  split_decides means t false = condition_decides t (reading_with t globals)

pub filters_decide : ExpressionsMeanTheirFilters → ExpressionsDecideFilters
filters_decide means globals json.null = split_decides globals means json.null (is_legacy json.null)
filters_decide means globals (json.boolean b) = λ world. refl
filters_decide means globals (json.number n) = split_decides globals means (json.number n) (is_legacy (json.number n))
filters_decide means globals (json.text s) = split_decides globals means (json.text s) (is_legacy (json.text s))
filters_decide means globals (json.list ts) = split_decides globals means (json.list ts) (is_legacy (json.list ts))
filters_decide means globals (json.object fs) = split_decides globals means (json.object fs) (is_legacy (json.object fs))
