-- What kept values give of the listing of a layer is the listing.
use Rattle.std.proofs.Common.{◌≡◌, ◌∙◌, ℕ, ℤ, List, [], ◌∷◌, ◌++◌, Bool, true, false, Option, Some, None, map, refl, sym, ap, subst, if◌then◌else◌}
use Rattle.std.specs.Prelude.{IfSome, OnOk, Result, Ok, Err}
use Rattle.std.specs.Option.{option_and_then}
use Rattle.std.specs.List.{AllByRecursion}
use Rattle.std.specs.Str.{bytes_eq}
use Rattle.std.proofs.lemmas.List.{append_assoc}
use Rattle.tile_reader.specs.declared.tile.Feature.{Feature}
use Rattle.expr_nodes.specs.Evaluators.{Sized}
use Rattle.layer_buckets.specs.Seen.{evaluator_of, source_of}
use Rattle.layer_buckets.specs.declared.buckets.Buckets.{Buckets}
use Rattle.layer_buckets.specs.declared.cell.CellItem.TheVariants as items
use Rattle.layer_buckets.specs.declared.cell.Source.{Source}
use Rattle.listing_text.specs.Layout.{FeatureOut}
use Rattle.listing_text.specs.Listing.{below_layer, layer_line, layer_lines}
use Rattle.listing_text.specs.declared.show.Show.{Show}
use Rattle.listing_text.specs.declared.show.Show.TheVariants.{Plain, Hidden, Unread, OutsideFilter}
use Rattle.stable_order.specs.InOrder.{in_order}
use Rattle.stable_order.specs.Keys.{key_before}
use Rattle.style_layout.proofs.OrderedLists.{map_in_order}
use Rattle.style_layout.specs.CodeView.{scene_seen}
use Rattle.style_layout.specs.Forms.{Property, Scene}
use Rattle.style_layout.specs.Layers.{StyleLayer, has_features, property_named, show_of, sort_property, sort_row}
use Rattle.style_layout.specs.Shown.{SourceTile, feature_out, goes_before, layer_features, numbered, ordered, sort_key, with_state}
use Rattle.style_layout.specs.Tests.{Tests}
use Rattle.style_layout.specs.declared.scene.Scene.{Scene as Handed}
use Rattle.style_layout.specs.StyleLayout.{features_shown, layer_out, values_shown}
use Rattle.asked_cells.specs.Asked.{IsDecided, LayerCell, common_asked, common_cell, each_asked, features_asked, shown_asked, values_asked}
use Rattle.asked_cells.specs.Asking.{common_answer}
use Rattle.asked_cells.specs.Counted.{KeptValues, is_asked, kept_in}
use Rattle.asked_cells.specs.Expressions.{AreGiven, IsGivenBy, IsSourced, LayerExpressions}
use Rattle.cell_listing.specs.KeptListing.{AreKnown, IsWritable, kept_feature, kept_key, kept_values, key_goes_before, key_ordered, passed}
use Rattle.cell_listing.specs.Listable.{AllReadAsListed, IsListable, ReadsAsListed}
use Rattle.cell_listing.proofs.CellLaws.{asked_first, asked_then}
use Rattle.cell_listing.proofs.FeatureLaws.{FeatureAgrees, PassedAgrees, are_numbered, features_agree, none_typed, passed_agree, passed_same}
use Rattle.cell_listing.proofs.OrderLaws.{each_in_order, each_so, one_order}
use Rattle.cell_listing.proofs.ValueLaws.{AgreesIfListed, AllAgree, IsKept, key_agrees, known_values, listed_values, values_agree}

-- ---- the property that orders features

abbrev WithExpression : LayerExpressions → Property → Type 0
WithExpression x p = IsGivenBy p (x (items.Property p.row.number)) × ReadsAsListed p (x (items.Property p.row.number))

with_expressions : (x : LayerExpressions) (ps : List Property) → AreGiven x ps → AllReadAsListed x ps → AllByRecursion (WithExpression x) ps
with_expressions x [] given reads = tt
with_expressions x (p ∷ ps) given reads = ((given.0, reads.0), with_expressions x ps given.1 reads.1)

-- what holds of each property holds of the one of a name
module _ (P : Property → Type 0) where
  named_by : (p q : Property) (here : Bool) (rest : Option Property) → (if here then Some q else rest) ≡ Some p → P q → (rest ≡ Some p → P p) → P p
  named_by p q true rest is first later = subst (λ (o : Option Property). IfSome o P) is first
  named_by p q false rest is first later = later is

  named_has : (name : List ℕ) (ps : List Property) (p : Property) → property_named name ps ≡ Some p → AllByRecursion P ps → P p
  named_has name [] p is each = cc
  named_has name (q ∷ ps) p is each =
      named_by p q (bytes_eq q.row.name name) (property_named name ps) is each.0 (λ found. named_has name ps p found each.1)

  sort_by : (o : Option (List ℕ)) (ps : List Property) (p : Property) → option_and_then (λ name. property_named name ps) o ≡ Some p
      → AllByRecursion P ps → P p
  sort_by None ps p is each = cc
  sort_by (Some name) ps p is each = named_has name ps p is each

-- ---- features in their order

module _ (scene : Scene) (layer : StyleLayer) (kept : KeptValues) where
  abbrev Passes : ℕ × Feature → Type 0
  Passes nf = AllAgree scene kept (Some nf.0) (Some (with_state scene layer nf)) layer.properties

  one_out : (nf : ℕ × Feature) → Passes nf → feature_out scene layer (with_state scene layer nf) ≡ kept_feature kept layer.properties nf
  one_out nf agree = λ i. record {
    number = nf.0;
    id = nf.1.id;
    shape = nf.1.shape;
    values = sym (listed_values scene kept (Some nf.0) (Some (with_state scene layer nf)) layer.properties agree) i;
  }

  all_out : (nfs : List (ℕ × Feature)) → AllByRecursion Passes nfs
      → map (feature_out scene layer) (map (with_state scene layer) nfs) ≡ map (kept_feature kept layer.properties) nfs
  all_out [] agree = refl
  all_out (nf ∷ nfs) agree = λ i. one_out nf agree.0 i ∷ all_out nfs agree.1 i

  module _ (x : LayerExpressions) (given : AreGiven x layer.properties) (reads : AllReadAsListed x layer.properties)
      (own : AllAgree scene kept None None layer.properties) where
    key_of_one : (p : Property) → sort_property layer.type layer.properties ≡ Some p → (nf : ℕ × Feature) → Passes nf
        → kept_key kept p nf.0 ≡ sort_key scene p (with_state scene layer nf)
    key_of_one p is nf agree =
        let f = with_state scene layer nf in
        let row = sort_row layer.type in
        let by = sort_by (WithExpression x) row layer.properties p is (with_expressions x layer.properties given reads) in
        key_agrees scene f p kept nf.0 (x (items.Property p.row.number)) by.0 by.1
        (sort_by (AgreesIfListed scene kept (Some nf.0) (Some f)) row layer.properties p is agree)
        (sort_by (AgreesIfListed scene kept None None) row layer.properties p is own)

    in_order_out : (o : Option Property) → sort_property layer.type layer.properties ≡ o → (nfs : List (ℕ × Feature)) → AllByRecursion Passes nfs
        → map (feature_out scene layer) (ordered scene o (map (with_state scene layer) nfs))
        ≡ map (kept_feature kept layer.properties) (key_ordered kept o nfs)
    in_order_out None is nfs agree = all_out nfs agree
    in_order_out (Some p) is nfs agree =
        let state = with_state scene layer in
        let by_key = λ (a b : ℕ × Feature). key_before (sort_key scene p (state a)) (sort_key scene p (state b)) in
        let same : in_order (key_goes_before kept p) nfs ≡ in_order by_key nfs =
        one_order (λ (nf : ℕ × Feature). kept_key kept p nf.0) (λ (nf : ℕ × Feature). sort_key scene p (state nf)) key_before nfs
        (each_so Passes (λ nf. kept_key kept p nf.0 ≡ sort_key scene p (state nf)) (key_of_one p is) nfs agree) in
        ap (map (feature_out scene layer)) (sym (map_in_order state by_key (goes_before scene p) (λ a b. refl) nfs) ∙ ap (map state) (sym same))
        ∙ all_out (in_order (key_goes_before kept p) nfs) (each_in_order Passes (key_goes_before kept p) nfs agree)

-- ---- a layer

module _ (scene : Scene) (tiles : List SourceTile) (layer : StyleLayer) (x : LayerExpressions) (kept : KeptValues) (slots : List Sized)
    (o : Option Source) (sourced : IsSourced slots items.Filter (x items.Filter) o) (decided : IsDecided scene (x items.Filter) layer)
    (given : AreGiven x layer.properties) (reads : AllReadAsListed x layer.properties) where
  abbrev all : List (ℕ × Feature)
  all = numbered 0 (layer_features tiles layer)

  abbrev pass : List (ℕ × Feature)
  pass = passed kept (common_answer o layer.filter (kept common_cell)) all

  abbrev Agree : ℕ × Feature → Type 0
  Agree nf = FeatureAgrees scene tiles layer x kept slots o sourced decided given nf

  all_agree : (typed : Bool) → has_features layer.type ≡ typed
      → ((c : LayerCell) → is_asked (features_asked x scene tiles layer) c ≡ true → IsKept scene tiles layer x kept c)
      → AllByRecursion Agree all
  all_agree true typed asks =
      let common = common_asked x scene in
      let each = each_asked x scene layer all in
      features_agree scene tiles layer x kept slots o sourced decided given typed (λ c is. asks c (asked_first common each c is)) all
      (are_numbered (layer_features tiles layer)) (λ c is. asks c (asked_then common each c is))
  all_agree false typed asks =
      subst (λ fs. AllByRecursion Agree (numbered 0 fs)) (sym (none_typed tiles layer typed)) tt

  own_agree : ((c : LayerCell) → is_asked (values_asked x scene None layer.properties) c ≡ true → IsKept scene tiles layer x kept c)
      → AllAgree scene kept None None layer.properties
  own_agree asks = values_agree scene tiles layer x kept None refl layer.properties given asks

  pub writable : (show : Show) → ((c : LayerCell) → is_asked (shown_asked x scene tiles show layer) c ≡ true → IsKept scene tiles layer x kept c)
      → IsWritable kept show layer.properties pass
  writable Plain asks =
      let own = values_asked x scene None layer.properties in
      let features = features_asked x scene tiles layer in (
        known_values scene kept None None layer.properties (own_agree (λ c is. asks c (asked_first own features c is))),
        each_so (PassedAgrees scene tiles layer x kept slots o sourced decided given) (λ (nf : ℕ × Feature). AreKnown kept (Some nf.0) layer.properties)
            (λ nf agree. known_values scene kept (Some nf.0) (Some (with_state scene layer nf)) layer.properties agree) pass
            (passed_agree scene tiles layer x kept slots o sourced decided given all
            (all_agree (has_features layer.type) refl (λ c is. asks c (asked_then own features c is)))),
      )
  writable OutsideFilter asks = known_values scene kept None None layer.properties (own_agree asks)
  writable Hidden asks = tt
  writable Unread asks = tt

  abbrev outs : List FeatureOut
  outs = map (kept_feature kept layer.properties) (key_ordered kept (sort_property layer.type layer.properties) pass)

  pub below_same : (show : Show) → ((c : LayerCell) → is_asked (shown_asked x scene tiles show layer) c ≡ true → IsKept scene tiles layer x kept c)
      → below_layer show (kept_values kept None layer.properties) outs
      ≡ below_layer show (values_shown scene tiles show layer) (features_shown scene tiles show layer)
  below_same Plain asks =
      let values = values_asked x scene None layer.properties in
      let features = features_asked x scene tiles layer in
      let own = own_agree (λ c is. asks c (asked_first values features c is)) in
      let agree = all_agree (has_features layer.type) refl (λ c is. asks c (asked_then values features c is)) in
      let sort = sort_property layer.type layer.properties in
      let same : outs ≡ features_shown scene tiles Plain layer =
      sym (ap (λ fs. map (feature_out scene layer) (ordered scene sort fs)) (passed_same scene tiles layer x kept slots o sourced decided given all agree)
      ∙ in_order_out scene layer kept x given reads own sort refl pass
      (passed_agree scene tiles layer x kept slots o sourced decided given all agree)) in
      λ i. below_layer Plain (listed_values scene kept None None layer.properties own i) (same i)
  below_same OutsideFilter asks = ap (λ values. below_layer OutsideFilter values outs)
      (listed_values scene kept None None layer.properties (own_agree asks))
  below_same Hidden asks = refl
  below_same Unread asks = refl

-- the lines of a layer in two parts
lines_by : {A B : Type 0} (r : Result A B) (old mid new line below whole : List ℕ) → mid ≡ old ++ line → below ≡ whole
    → OnOk r (new ≡ mid ++ below) → OnOk r (new ≡ old ++ (line ++ whole))
lines_by (Ok x) old mid new line below whole first same after =
    after ∙ (ap (λ m. m ++ below) first ∙ (append_assoc old line below ∙ ap (λ rest. old ++ (line ++ rest)) same))
lines_by (Err x) old mid new line below whole first same after = tt

-- how a layer is shown, by the zoom of the program's scene
pub shown_at : {V : Type 0} (tests : V → Tests) (s : Handed V) (layer : StyleLayer) (zoom : ℤ) (show : Show) → zoom ≡ s.zoom
    → show ≡ show_of zoom layer → show ≡ show_of (scene_seen tests s).zoom layer
unfolding scene_seen
shown_at tests s layer zoom show same is = is ∙ ap (λ z. show_of z layer) same

-- ---- a layer that can be listed

module _ {E : Type 0} (slots : E → List Sized) (number : ℕ) (scene : Scene) (tiles : List SourceTile) (layer : StyleLayer) (b : Buckets E)
    (h : IsListable slots number scene tiles layer b) where
  abbrev kept_there : KeptValues
  kept_there = kept_in b number

  abbrev pub passing : List (ℕ × Feature)
  passing = passed kept_there (common_answer (source_of b number items.Filter) layer.filter (kept_there common_cell))
      (numbered 0 (layer_features tiles layer))

  layer_writable : IsWritable kept_there (show_of scene.zoom layer) layer.properties passing
  layer_writable = writable scene tiles layer h.expressions kept_there (slots (evaluator_of b)) (source_of b number items.Filter)
      (h.sourced items.Filter) h.decided h.given h.reads (show_of scene.zoom layer) h.kept

  abbrev pub kept_below : Show → List ℕ
  kept_below show = below_layer show (kept_values kept_there None layer.properties)
      (map (kept_feature kept_there layer.properties) (key_ordered kept_there (sort_property layer.type layer.properties) passing))

  layer_same : kept_below (show_of scene.zoom layer) ≡ below_layer (show_of scene.zoom layer)
      (values_shown scene tiles (show_of scene.zoom layer) layer) (features_shown scene tiles (show_of scene.zoom layer) layer)
  layer_same = below_same scene tiles layer h.expressions kept_there (slots (evaluator_of b)) (source_of b number items.Filter)
      (h.sourced items.Filter) h.decided h.given h.reads (show_of scene.zoom layer) h.kept

  -- The lines that were written are those of the layer.
  pub layer_listed : {A B : Type 0} (r : Result A B) (old mid new : List ℕ) (show : Show) → show ≡ show_of scene.zoom layer
      → mid ≡ old ++ layer_line layer.id layer.type show → OnOk r (new ≡ mid ++ kept_below show)
      → OnOk r (new ≡ old ++ layer_lines (layer_out scene tiles layer))
  layer_listed r old mid new show is =
      subst (λ (s : Show). mid ≡ old ++ layer_line layer.id layer.type s → OnOk r (new ≡ mid ++ kept_below s)
      → OnOk r (new ≡ old ++ layer_lines (layer_out scene tiles layer))) (sym is)
      (λ line below. lines_by r old mid new (layer_line layer.id layer.type (show_of scene.zoom layer)) (kept_below (show_of scene.zoom layer))
      (below_layer (show_of scene.zoom layer) (values_shown scene tiles (show_of scene.zoom layer) layer)
      (features_shown scene tiles (show_of scene.zoom layer) layer)) line layer_same below)

  pub layer_ready : (show : Show) → show ≡ show_of scene.zoom layer → IsWritable kept_there show layer.properties passing
  layer_ready show is = subst (λ (s : Show). IsWritable kept_there s layer.properties passing) (sym is) layer_writable
