use Rattle.std.proofs.Common.{◌≡◌, ◌<◌, ℕ, length, get_or, refl, sym, ap, subst, ◌∙◌, arith, vec_len}
use Rattle.std.specs.Prelude.{◌&&◌, ◌+◌, nat_eq, slice_index_or, false, Option, None, if◌then◌else◌}
use Rattle.std.specs.Str.{bytes_eq}
use Rattle.std.proofs.lemmas.List.{length-map}
use Rattle.decimal_json.specs.Tree.{null}
use Rattle.layer_buckets.proofs.Places.{and_true}
use Rattle.layer_buckets.specs.Cells.{reads_state}
use Rattle.layer_buckets.specs.Seen.{IsSound, kept_at, source_of}
use Rattle.layer_buckets.specs.declared.cell.Cell.{Cell}
use Rattle.noted_places.proofs.NotedLaws.{below_get}
use Rattle.noted_places.specs.Places.{places_in}
use Rattle.style_layout.specs.CodeView.{layer_seen, layers_seen}
use Rattle.style_layout.specs.Shown.{layer_features}
use Rattle.form_pool.specs.PoolSlots.{pool_slots}
use Rattle.kept_layers.specs.Holding.{HasLayer, IsRight, Pairwise, style_kept}
use Rattle.kept_layers.specs.KeptLayers.{id_at, is_feature, is_stale_state, outline_of, prepared_layer, prepared_layers}
use Rattle.feature_index.specs.Ids.{is_id}
use Rattle.feature_index.specs.Indexes.{AreIndexed}
use Rattle.feature_index.specs.declared.indexes.FeatureIndexes.{FeatureIndexes}
use Rattle.kept_layers.specs.View.{globals_in, tiles_in, trees_in}
use Rattle.kept_layers.proofs.DropLaws.{all_kept, all_right, all_still, bare_still}
use Rattle.kept_layers.proofs.Lists.{get_same, pairs_lengths}
use Rattle.kept_layers.proofs.NumberedLaws.{still_numbered}
use Rattle.kept_layers.proofs.OneLayers.{few_at, outline_at, outline_within, prepared_at}
use Rattle.kept_layers.proofs.SceneLaws.{state_means}
use Rattle.kept_layers.proofs.StateLaws.{not_shown}
use Rattle.kept_layers.proofs.TurnLaws.{AreTurned, all_turned, layer_turned, none_turned, outline_feature, passed_by}
use Rattle.kept_layers.specs.declared.kept_layers.KeptLayers.{KeptLayers}
use Rattle.kept_layers.proofs.kept_layers.KeptLayers.turn_state.Goals as goal
use Rattle.kept_layers.proofs.kept_layers.KeptLayers.turn_state.Goals.{then-shows, else-shows}

pub loop-index-init : goal.loop-index-init
loop-index-init c =
    let s = c.args.style.now in
    record {
      numbers = refl;
      reads = refl;
      states = refl;
      sound = c.requires.numbered.sound;
      indexed = c.requires.indexed;
      turned = none_turned pool_slots (tiles_in s) (globals_in s) c.args.source.now c.args.source_layer.now c.args.id c.args.self.now.cells.buckets
          c.args.self.now.numbers.items (trees_in s) (places_in c.args.self.now.state_places);
    }

pub at-place-requires : goal.at-place-requires
at-place-requires c = subst (λ v. c.loop-index.index < length (places_in v)) (sym c.loop-index.invariant.states)
    (omega (arith, c.loop-index-test.true, c.len-index-end.ensures))

pub layer-shown-requires : goal.layer-shown-requires
layer-shown-requires c =
    let s = c.args.style.now in
    let old = c.args.self.now.cells.buckets in
    let ns = c.args.self.now.numbers.items in
    let ps = places_in c.args.self.now.state_places in
    let index = c.loop-index.index in
    let place = c.at-place.result in
    let placed : place ≡ get_or ps index place = c.at-place.ensures ∙ ap (λ v. get_or (places_in v) index place) c.loop-index.invariant.states in
    let more : index < length ps = omega (arith, c.loop-index-test.true, c.len-index-end.ensures) in
    let within : place < length ns = subst (λ p. p < length ns) (sym placed) (below_get (length ns) ps index place more c.requires.numbered.states.within) in
    let same = pairs_lengths (HasLayer pool_slots (tiles_in s) (globals_in s) old) ns (trees_in s) c.requires.holds in
    outline_within (globals_in s) (trees_in s) (layers_seen s.style.now) place (omega (arith, same, within)) c.requires.prepared.prepared

pub drop_features-requires-clause-few : goal.drop_features-requires-clause-few
drop_features-requires-clause-few c =
    let s = c.args.style.now in
    let old = c.args.self.now.cells.buckets in
    let ns = c.args.self.now.numbers.items in
    let ps = places_in c.args.self.now.state_places in
    let index = c.loop-index.index in
    let place = c.at-place.result in
    let placed : place ≡ get_or ps index place = c.at-place.ensures ∙ ap (λ v. get_or (places_in v) index place) c.loop-index.invariant.states in
    let more : index < length ps = omega (arith, c.loop-index-test.true, c.len-index-end.ensures) in
    let within : place < length ns = subst (λ p. p < length ns) (sym placed) (below_get (length ns) ps index place more c.requires.numbered.states.within) in
    let same = pairs_lengths (HasLayer pool_slots (tiles_in s) (globals_in s) old) ns (trees_in s) c.requires.holds in
    let inside : place < length (trees_in s) = omega (arith, same, within) in
    let known = prepared_layer (globals_in s) (slice_index_or (trees_in s) place null) in
    let found = c.layer-shown.ensures
    ∙ outline_at (globals_in s) (trees_in s) (layers_seen s.style.now) place null (layer_seen c.layer-shown.result.now) inside c.requires.prepared.prepared in
    let counted : place < length (prepared_layers (globals_in s) (trees_in s)) =
    omega (arith, same, length-map (trees_in s) (prepared_layer (globals_in s)), within) in
    subst (λ l. length (layer_features (tiles_in s) l) < 4294967295) (sym found)
    (subst (λ l. length (layer_features (tiles_in s) l) < 4294967295)
    (prepared_at (globals_in s) (trees_in s) (prepared_layers (globals_in s) (trees_in s)) place null known inside refl)
    (few_at (tiles_in s) (prepared_layers (globals_in s) (trees_in s)) place 4294967295 known counted c.requires.prepared.few))

pub index-number-requires : goal.index-number-requires
index-number-requires c =
    let ns = c.args.self.now.numbers.items in
    let ps = places_in c.args.self.now.state_places in
    let index = c.loop-index.index in
    let place = c.at-place.result in
    let placed : place ≡ get_or ps index place = c.at-place.ensures ∙ ap (λ v. get_or (places_in v) index place) c.loop-index.invariant.states in
    let more : index < length ps = omega (arith, c.loop-index-test.true, c.len-index-end.ensures) in
    let within : place < length ns = subst (λ p. p < length ns) (sym placed) (below_get (length ns) ps index place more c.requires.numbered.states.within) in
    let same = ap (λ v. vec_len v) c.loop-index.invariant.numbers in
    omega (arith, within, same, c.args.self.now.numbers.ok.0)

pub loop-index-preserved : goal.loop-index-preserved
loop-index-preserved c =
    let s = c.args.style.now in
    let old = c.args.self.now.cells.buckets in
    let now = c.loop-index.self.cells.buckets in
    let ns = c.args.self.now.numbers.items in
    let ps = places_in c.args.self.now.state_places in
    let ts = trees_in s in
    let index = c.loop-index.index in
    let place = c.at-place.result in
    let i = c.loop-index.invariant in
    let placed : place ≡ get_or ps index place = c.at-place.ensures ∙ ap (λ v. get_or (places_in v) index place) i.states in
    let more : index < length ps = omega (arith, c.loop-index-test.true, c.len-index-end.ensures) in
    let within : place < length ns = subst (λ p. p < length ns) (sym placed) (below_get (length ns) ps index place more c.requires.numbered.states.within) in
    let same = pairs_lengths (HasLayer pool_slots (tiles_in s) (globals_in s) old) ns ts c.requires.holds in
    let counted : place < length ts = omega (arith, same, within) in
    let shown = layer_seen c.layer-shown.result.now in
    let is_shown : shown ≡ outline_of (globals_in s) (get_or ts place null) = c.layer-shown.ensures
    ∙ outline_at (globals_in s) ts (layers_seen s.style.now) place null shown counted c.requires.prepared.prepared in
    let Turned : KeptLayers × FeatureIndexes → Type 0 = λ kx. record {
      numbers : kx.0.numbers ≡ c.args.self.now.numbers;
      reads : kx.0.reads_globals ≡ c.args.self.now.reads_globals;
      states : kx.0.state_places ≡ c.args.self.now.state_places;
      sound : IsSound kx.0.cells.buckets;
      indexed : AreIndexed (tiles_in s) kx.1;
      turned : AreTurned pool_slots (tiles_in s) (globals_in s) c.args.source.now c.args.source_layer.now c.args.id old ns ts ps (index + 1) kx.0.cells.buckets;
    } in
    elim c.if-shows.branch [
      | then-shows w ↦
          let both = and_true (bytes_eq c.args.source.now shown.source) (bytes_eq c.args.source_layer.now shown.source_layer) (sym w.if-shows.ensures) in
          let here : w.index-number.result.now ≡ get_or ns place 0 = w.index-number.ensures ∙ (ap (λ v. get_or v.items place w.index-number.result.now) i.numbers
          ∙ get_same ns place w.index-number.result.now 0 within) in
          let kept : (cell : Cell) → kept_at w.drop_features.new.self.cells.buckets cell
          ≡ (if (nat_eq (get_or ns place 0) cell.layer && is_id c.args.id (id_at (tiles_in s) shown cell.feature))
          && reads_state (source_of now cell.layer cell.item) then None else kept_at now cell) =
          subst (λ n. (cell : Cell) → kept_at w.drop_features.new.self.cells.buckets cell
          ≡ (if (nat_eq n cell.layer && is_id c.args.id (id_at (tiles_in s) shown cell.feature))
          && reads_state (source_of now cell.layer cell.item) then None else kept_at now cell)) here w.drop_features.ensures.kept in
          subst Turned (λ j. (sym w.self-is j, sym w.indexes-is j)) (record {
            numbers = w.drop_features.ensures.numbers ∙ i.numbers;
            reads = w.drop_features.ensures.reads ∙ i.reads;
            states = w.drop_features.ensures.states ∙ i.states;
            sound = w.drop_features.ensures.sound;
            indexed = w.drop_features.ensures.indexed;
            turned = layer_turned pool_slots (tiles_in s) (globals_in s) c.args.source.now c.args.source_layer.now c.args.id old ns ts ps index now i.turned
                place more placed within c.requires.numbered.apart c.requires.holds w.drop_features.new.self.cells.buckets shown is_shown both.0 both.1
                w.drop_features.ensures.still kept;
          })
      | else-shows w ↦
          let none : (o : Option ℕ) → is_feature c.args.source.now c.args.source_layer.now c.args.id (prepared_layer (globals_in s) (get_or ts place null)) o ≡ false =
          λ o. sym (outline_feature c.args.source.now c.args.source_layer.now c.args.id (prepared_layer (globals_in s) (get_or ts place null)) o)
          ∙ ap (λ l. is_feature c.args.source.now c.args.source_layer.now c.args.id l o) (sym is_shown)
          ∙ not_shown c.args.source.now c.args.source_layer.now c.args.id shown o (sym w.if-shows.ensures) in
          subst Turned (λ j. (sym w.self-is j, sym w.indexes-is j)) (record {
            numbers = i.numbers;
            reads = i.reads;
            states = i.states;
            sound = i.sound;
            indexed = i.indexed;
            turned = passed_by pool_slots (tiles_in s) (globals_in s) c.args.source.now c.args.source_layer.now c.args.id old ns ts ps index now i.turned
                place more placed within c.requires.numbered.apart c.requires.holds none;
          })
    ]

pub returns-clause-numbered : goal.returns-clause-numbered
returns-clause-numbered c =
    let old = c.args.self.now.cells.buckets in
    let now = c.loop-index.self.cells.buckets in
    let i = c.loop-index.invariant in
    still_numbered c.args.self.now c.loop-index.self i.numbers i.reads i.states i.sound i.turned.still
    (bare_still old now i.turned.still i.turned.fewer c.requires.numbered.bare) c.requires.numbered

pub returns-clause-drops : goal.returns-clause-drops
returns-clause-drops c =
    let s = c.args.style.now in
    let old = c.args.self.now.cells.buckets in
    let now = c.loop-index.self.cells.buckets in
    let ns = c.args.self.now.numbers.items in
    let i = c.loop-index.invariant in
    let stale = is_stale_state (tiles_in s) (globals_in s) c.args.source.now c.args.source_layer.now c.args.id in
    let same = pairs_lengths (HasLayer pool_slots (tiles_in s) (globals_in s) old) ns (trees_in s) c.requires.holds in
    let drops = all_turned pool_slots (tiles_in s) (globals_in s) c.args.source.now c.args.source_layer.now c.args.id old ns (trees_in s) (places_in c.args.self.now.state_places)
    c.loop-index.index now (omega (arith, c.loop-index-test.false, c.len-index-end.ensures)) same
    c.requires.numbered.states c.requires.holds i.turned in
    record {
      kept = ap (λ v. style_kept now v.items) i.numbers ∙ all_kept pool_slots (tiles_in s) (globals_in s) old now stale ns (trees_in s) drops;
      holds = subst (λ v. Pairwise (HasLayer pool_slots (tiles_in s) (globals_in s) now) v.items (trees_in s)) (sym i.numbers)
          (all_still pool_slots (tiles_in s) (globals_in s) old now i.turned.still ns (trees_in s) c.requires.holds);
      right = λ before after turns right. subst (λ v. Pairwise (IsRight pool_slots (tiles_in s) (globals_in s) now after) v.items (trees_in s)) (sym i.numbers)
          (all_right pool_slots (tiles_in s) (globals_in s) old now stale before after
          (λ t cell fresh. state_means c.agreeing_worlds_give_one_meaning.ensures (tiles_in s) (globals_in s) c.args.source.now c.args.source_layer.now c.args.id
          before after turns t cell fresh) ns (trees_in s) drops right);
    }
