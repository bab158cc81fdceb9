-- The cells that a listing asks of a layer, by the sources of its items.
use Rattle.std.proofs.Common.{◌≡◌, ◌∙◌, ℕ, ◌+◌, List, [], ◌∷◌, ◌++◌, length, Bool, true, false, Option, Some, None, refl, sym, ap, arith, if◌then◌else◌}
use Rattle.tile_reader.specs.declared.tile.Feature.{Feature}
use Rattle.expr_syntax.specs.TermSize.{nodes}
use Rattle.expr_nodes.specs.Evaluators.{Sized, nodes_in}
use Rattle.layer_buckets.specs.declared.cell.CellItem.{CellItem}
use Rattle.layer_buckets.specs.declared.cell.CellItem.TheVariants as items
use Rattle.layer_buckets.specs.declared.cell.Source.{Source}
use Rattle.listing_text.specs.declared.show.Show.{Show}
use Rattle.listing_text.specs.declared.show.Show.TheVariants.{Plain, Hidden, Unread, OutsideFilter}
use Rattle.style_layout.specs.Forms.{Property, Scene}
use Rattle.style_layout.specs.Layers.{StyleLayer}
use Rattle.style_layout.specs.Shown.{LayerFeature, SourceTile, is_shown, layer_features, numbered, with_state}
use Rattle.asked_cells.specs.Asked.{AskedCell, asked_by, common_asked, each_asked, feature_asked, features_asked, filter_asked, has_own_cells, is_listed, item_asked, own_filter_asked, passed_asked, shown_asked, value_asked, values_asked}
use Rattle.asked_cells.specs.Asking.{has_feature_cells}
use Rattle.asked_cells.specs.Expressions.{CellExpression, IsSourced, LayerExpressions}
use Rattle.asked_cells.proofs.SourceLaws.{own_cells_same}
use Rattle.bare_listing.specs.BareListing.{asked_nodes}
use Rattle.bare_listing.specs.Costs.{common_cost, each_cost, feature_cost, nodes_by, one_of, own_cost, shown_cost, value_cost, values_cost}
use Rattle.bare_listing.specs.Given.{ItemSources}

-- ---- sums over asked cells

module _ (amount : AskedCell → ℕ) where
  abbrev total : List AskedCell → ℕ
  total [] = 0
  total (a ∷ asked) = amount a + total asked

  total_more : (xs ys : List AskedCell) → total (xs ++ ys) ≡ total xs + total ys
  total_more [] ys = omega arith
  total_more (x ∷ xs) ys = let rest = total_more xs ys in omega (arith, rest)

  total_if : (b : Bool) (xs : List AskedCell) → total (if b then xs else []) ≡ (if b then total xs else 0)
  total_if true xs = refl
  total_if false xs = refl

  total_unless : (b : Bool) (xs : List AskedCell) → total (if b then [] else xs) ≡ (if b then 0 else total xs)
  total_unless true xs = refl
  total_unless false xs = refl

  -- ---- by the sources

  module _ (cost : Option Source → ℕ) (x : LayerExpressions) (scene : Scene) (sources : ItemSources)
      (same : (feature : Option LayerFeature) (item : CellItem) → total (item_asked x scene feature item) ≡ cost (sources item))
      (own : has_own_cells (x items.Filter) ≡ has_feature_cells (sources items.Filter)) where
    value_total : (feature : Option LayerFeature) (p : Property)
        → total (value_asked x scene feature p) ≡ (if is_listed feature p then value_cost cost sources p else 0)
    value_total feature p = total_if (is_listed feature p) (item_asked x scene feature (items.Property p.row.number))
        ∙ ap (λ n. if is_listed feature p then n else 0) (same feature (items.Property p.row.number))

    values_total : (feature : Option LayerFeature) (ps : List Property)
        → total (values_asked x scene feature ps) ≡ values_cost cost sources feature ps
    values_total feature [] = refl
    values_total feature (p ∷ ps) = total_more (value_asked x scene feature p) (values_asked x scene feature ps)
        ∙ (λ i. value_total feature p i + values_total feature ps i)

    common_total : total (common_asked x scene) ≡ common_cost cost sources
    common_total = total_unless (has_own_cells (x items.Filter)) (filter_asked x scene None)
        ∙ (λ i. if own i then 0 else same None items.Filter i)

    own_total : (f : LayerFeature) → total (own_filter_asked x scene f) ≡ own_cost cost sources
    own_total f = total_if (has_own_cells (x items.Filter)) (filter_asked x scene (Some f))
        ∙ (λ i. if own i then same (Some f) items.Filter i else 0)

    feature_total : (layer : StyleLayer) (f : LayerFeature)
        → total (feature_asked x scene layer f) ≡ feature_cost cost sources scene layer f
    feature_total layer f =
        let shown = is_shown scene layer f in
        total_more (own_filter_asked x scene f) (passed_asked x scene shown f layer.properties)
        ∙ (λ i. own_total f i + (total_if shown (values_asked x scene (Some f) layer.properties)
        ∙ ap (λ n. if shown then n else 0) (values_total (Some f) layer.properties)) i)

    each_total : (layer : StyleLayer) (nfs : List (ℕ × Feature))
        → total (each_asked x scene layer nfs) ≡ each_cost cost sources scene layer nfs
    each_total layer [] = refl
    each_total layer (nf ∷ nfs) =
        total_more (feature_asked x scene layer (with_state scene layer nf)) (each_asked x scene layer nfs)
        ∙ (λ i. feature_total layer (with_state scene layer nf) i + each_total layer nfs i)

    shown_total : (layer : StyleLayer) (show : Show) (tiles : List SourceTile)
        → total (shown_asked x scene tiles show layer) ≡ shown_cost cost sources scene layer show tiles
    shown_total layer Plain tiles =
        let all = numbered 0 (layer_features tiles layer) in
        total_more (values_asked x scene None layer.properties) (features_asked x scene tiles layer)
        ∙ (λ i. values_total None layer.properties i + (total_more (common_asked x scene) (each_asked x scene layer all)
        ∙ (λ j. common_total j + each_total layer all j)) i)
    shown_total layer OutsideFilter tiles = values_total None layer.properties
    shown_total layer Hidden tiles = refl
    shown_total layer Unread tiles = refl

-- ---- their number, and the nodes of their expressions

count_total : (asked : List AskedCell) → length asked ≡ total (λ (a : AskedCell). 1) asked
count_total [] = refl
count_total (a ∷ asked) = let rest = count_total asked in omega (arith, rest)

nodes_total : (asked : List AskedCell) → asked_nodes asked ≡ total (λ (a : AskedCell). a.nodes) asked
nodes_total [] = refl
nodes_total (a ∷ asked) = ap (λ n. a.nodes + n) (nodes_total asked)

module _ (slots : List Sized) (scene : Scene) where
  one_asked : (item : CellItem) (o : Option CellExpression) (source : Option Source) → IsSourced slots item o source
      → (feature : Option LayerFeature) → total (λ (a : AskedCell). 1) (asked_by scene o feature item) ≡ one_of source
  one_asked item None source is feature = sym (ap one_of is)
  one_asked item (Some e) source (slot, is, at) feature = sym (ap one_of is)

  nodes_asked : (item : CellItem) (o : Option CellExpression) (source : Option Source) → IsSourced slots item o source
      → (feature : Option LayerFeature) → total (λ (a : AskedCell). a.nodes) (asked_by scene o feature item) ≡ nodes_by slots source
  nodes_asked item None source is feature = sym (ap (nodes_by slots) is)
  nodes_asked item (Some e) source (slot, is, at) feature =
      let here : nodes_by slots source ≡ nodes e.term = ap (nodes_by slots) is ∙ ap nodes_in at in omega (arith, here)

  module _ (x : LayerExpressions) (sources : ItemSources) (sourced : (item : CellItem) → IsSourced slots item (x item) (sources item))
      (layer : StyleLayer) (show : Show) (tiles : List SourceTile) where
    own : has_own_cells (x items.Filter) ≡ has_feature_cells (sources items.Filter)
    own = sym (own_cells_same slots items.Filter (x items.Filter) (sources items.Filter) (sourced items.Filter))

    pub shown_number : shown_cost one_of sources scene layer show tiles ≡ length (shown_asked x scene tiles show layer)
    shown_number = sym (count_total (shown_asked x scene tiles show layer) ∙ shown_total (λ (a : AskedCell). 1) one_of x scene sources
        (λ feature item. one_asked item (x item) (sources item) (sourced item) feature) own layer show tiles)

    pub shown_nodes : shown_cost (nodes_by slots) sources scene layer show tiles ≡ asked_nodes (shown_asked x scene tiles show layer)
    shown_nodes = sym (nodes_total (shown_asked x scene tiles show layer) ∙ shown_total (λ (a : AskedCell). a.nodes) (nodes_by slots) x scene
        sources (λ feature item. nodes_asked item (x item) (sources item) (sourced item) feature) own layer show tiles)
