use Rattle.std.proofs.Common.{◌≡◌, ◌+◌, ◌<◌, ◌≤◌, length, get_or, refl, ap, sym, subst, ◌∙◌, arith, vec_len}
use Rattle.std.proofs.lemmas.List.{length-map}
use Rattle.form_pool.specs.PoolSlots.{pool_slots}
use Rattle.layer_buckets.specs.Seen.{IsSound, kept_at}
use Rattle.style_layout.specs.CodeView.{document_layer, scene_seen}
use Rattle.kept_layers.proofs.ListLaws.{CountsFirst, all_counts, bare_counts, bare_stops, failed_counts, layers_length, leaves_same, lines_split, no_lines, none_counted, this_few, this_layer, this_listable, this_there, this_within}
use Rattle.kept_layers.proofs.NumberedLaws.{asked_numbered}
use Rattle.kept_layers.specs.KeptLayers.{prepared_layer, prepared_layers}
use Rattle.kept_layers.specs.View.{globals_in, kept_seen, tiles_in, trees_in}
use Rattle.text_pieces.proofs.PieceLaws.{begins, breaks_off, ends, goes_on, lacks, left_is}
use Rattle.kept_layers.proofs.kept_layers.KeptLayers.list_bare.Goals as goal

pub loop-place-init : goal.loop-place-init
loop-place-init g c =
    let scene = scene_seen g.V.TextTests.tests c.args.scene.now in
    let style = c.args.style.now in
    record {
      numbered = c.requires.numbered;
      numbers = refl;
      buckets = refl;
      counts = none_counted pool_slots scene (tiles_in style) (globals_in style) c.args.self.now.numbers.items (trees_in style)
          c.args.self.now.cells.buckets c.args.steps.now c.requires.holds c.requires.right;
      text = begins g.O.Sink.held g.O.Sink.faults c.args.pieces.now _;
    }

pub index-requires : goal.index-requires
index-requires g c =
    let same = ap (λ v. vec_len v) c.loop-place.invariant.numbers in
    omega (arith, same, c.loop-place-test.true, c.len-place-end.ensures)

pub listed_layer-requires-clause-within : goal.listed_layer-requires-clause-within
listed_layer-requires-clause-within g c =
    let ns = c.args.self.now.numbers.items in
    let i = c.loop-place.invariant in
    let k = c.loop-place.place in
    let x = c.index.result.now in
    let within : k < length ns = omega (arith, c.loop-place-test.true, c.len-place-end.ensures, c.args.self.now.numbers.ok.0) in
    let is : x ≡ get_or ns k x = c.index.ensures ∙ ap (λ v. get_or v.items k x) i.numbers in
    let style = c.args.style.now in
    let there = this_within i.counts x within is (prepared_layers (globals_in style) (trees_in style)) refl in
    omega (arith, there, length-map (trees_in style) (prepared_layer (globals_in style)))

pub write_bare_layer-requires-clause-few : goal.write_bare_layer-requires-clause-few
write_bare_layer-requires-clause-few g c =
    let ns = c.args.self.now.numbers.items in
    let i = c.loop-place.invariant in
    let k = c.loop-place.place in
    let x = c.index.result.now in
    let within : k < length ns = omega (arith, c.loop-place-test.true, c.len-place-end.ensures, c.args.self.now.numbers.ok.0) in
    let is : x ≡ get_or ns k x = c.index.ensures ∙ ap (λ v. get_or v.items k x) i.numbers in
    let layer = document_layer c.listed_layer.result in
    let found = this_layer i.counts x within is (prepared_layers (globals_in c.args.style.now) (trees_in c.args.style.now)) layer refl c.listed_layer.ensures in
    this_few i.counts x within is layer found c.requires.prepared.few

pub write_bare_layer-requires-clause-listable : goal.write_bare_layer-requires-clause-listable
write_bare_layer-requires-clause-listable g c =
    let ns = c.args.self.now.numbers.items in
    let i = c.loop-place.invariant in
    let k = c.loop-place.place in
    let x = c.index.result.now in
    let within : k < length ns = omega (arith, c.loop-place-test.true, c.len-place-end.ensures, c.args.self.now.numbers.ok.0) in
    let is : x ≡ get_or ns k x = c.index.ensures ∙ ap (λ v. get_or v.items k x) i.numbers in
    let layer = document_layer c.listed_layer.result in
    let found = this_layer i.counts x within is (prepared_layers (globals_in c.args.style.now) (trees_in c.args.style.now)) layer refl c.listed_layer.ensures in
    this_listable i.counts x within is layer found c.filters_are_decided.ensures c.properties_are_given.ensures
    c.properties_are_read_by_expressions.ensures

pub returns-in_err-more-clause-numbered : goal.returns-in_err-more-clause-numbered
returns-in_err-more-clause-numbered g c =
    let ns = c.args.self.now.numbers.items in
    let i = c.loop-place.invariant in
    let k = c.loop-place.place in
    let x = c.index.result.now in
    let within : k < length ns = omega (arith, c.loop-place-test.true, c.len-place-end.ensures, c.args.self.now.numbers.ok.0) in
    let is : x ≡ get_or ns k x = c.index.ensures ∙ ap (λ v. get_or v.items k x) i.numbers in
    let same = c.write_bare_layer.ensures.stays in
    asked_numbered c.loop-place.self _ refl refl refl (subst IsSound (sym same) i.numbered.sound)
    x (leaves_same x c.loop-place.self.cells.buckets c.write_bare_layer.new.cells.buckets same) (this_there i.counts x within is) i.numbered

pub returns-in_err-more-clause-counts : goal.returns-in_err-more-clause-counts
returns-in_err-more-clause-counts g c =
    let scene = scene_seen g.V.TextTests.tests c.args.scene.now in
    let style = c.args.style.now in
    let ns = c.args.self.now.numbers.items in
    let i = c.loop-place.invariant in
    let k = c.loop-place.place in
    let x = c.index.result.now in
    let within : k < length ns = omega (arith, c.loop-place-test.true, c.len-place-end.ensures, c.args.self.now.numbers.ok.0) in
    let is : x ≡ get_or ns k x = c.index.ensures ∙ ap (λ v. get_or v.items k x) i.numbers in
    let layer = document_layer c.listed_layer.result in
    let found = this_layer i.counts x within is (prepared_layers (globals_in c.args.style.now) (trees_in c.args.style.now)) layer refl c.listed_layer.ensures in
    failed_counts scene (tiles_in style) (globals_in style) (trees_in style) (kept_seen c.args.self.now) c.args.steps.now c.write_bare_layer.new.steps
    c.from_residual.result c.from_residual.ensures.0
    (bare_stops i.counts x within is layer found (λ cell. ap (λ b. kept_at b cell) i.buckets ∙ c.requires.bare cell) c.write_bare_layer.new.steps
    c.write_bare_layer.result c.write_bare_layer.ensures.evaluates)

pub returns-in_err-evaluated-clause-numbered : goal.returns-in_err-evaluated-clause-numbered
returns-in_err-evaluated-clause-numbered g c =
    let ns = c.args.self.now.numbers.items in
    let i = c.loop-place.invariant in
    let k = c.loop-place.place in
    let x = c.index.result.now in
    let within : k < length ns = omega (arith, c.loop-place-test.true, c.len-place-end.ensures, c.args.self.now.numbers.ok.0) in
    let is : x ≡ get_or ns k x = c.index.ensures ∙ ap (λ v. get_or v.items k x) i.numbers in
    let same = c.write_bare_layer.ensures.stays in
    asked_numbered c.loop-place.self _ refl refl refl (subst IsSound (sym same) i.numbered.sound)
    x (leaves_same x c.loop-place.self.cells.buckets c.write_bare_layer.new.cells.buckets same) (this_there i.counts x within is) i.numbered

pub returns-in_err-evaluated-clause-counts : goal.returns-in_err-evaluated-clause-counts
returns-in_err-evaluated-clause-counts g c =
    let scene = scene_seen g.V.TextTests.tests c.args.scene.now in
    let style = c.args.style.now in
    let ns = c.args.self.now.numbers.items in
    let i = c.loop-place.invariant in
    let k = c.loop-place.place in
    let x = c.index.result.now in
    let within : k < length ns = omega (arith, c.loop-place-test.true, c.len-place-end.ensures, c.args.self.now.numbers.ok.0) in
    let is : x ≡ get_or ns k x = c.index.ensures ∙ ap (λ v. get_or v.items k x) i.numbers in
    let layer = document_layer c.listed_layer.result in
    let found = this_layer i.counts x within is (prepared_layers (globals_in c.args.style.now) (trees_in c.args.style.now)) layer refl c.listed_layer.ensures in
    failed_counts scene (tiles_in style) (globals_in style) (trees_in style) (kept_seen c.args.self.now) c.args.steps.now c.write_bare_layer.new.steps
    c.from_residual-in_err-evaluated.result c.from_residual-in_err-evaluated.ensures.0
    (bare_stops i.counts x within is layer found (λ cell. ap (λ b. kept_at b cell) i.buckets ∙ c.requires.bare cell) c.write_bare_layer.new.steps
    c.write_bare_layer.result c.write_bare_layer.ensures.evaluates)

pub loop-place-preserved : goal.loop-place-preserved
loop-place-preserved g c =
    let scene = scene_seen g.V.TextTests.tests c.args.scene.now in
    let ns = c.args.self.now.numbers.items in
    let i = c.loop-place.invariant in
    let k = c.loop-place.place in
    let x = c.index.result.now in
    let within : k < length ns = omega (arith, c.loop-place-test.true, c.len-place-end.ensures, c.args.self.now.numbers.ok.0) in
    let is : x ≡ get_or ns k x = c.index.ensures ∙ ap (λ v. get_or v.items k x) i.numbers in
    let layer = document_layer c.listed_layer.result in
    let found = this_layer i.counts x within is (prepared_layers (globals_in c.args.style.now) (trees_in c.args.style.now)) layer refl c.listed_layer.ensures in
    let same = c.write_bare_layer.ensures.stays in
    record {
      numbered = asked_numbered c.loop-place.self _ refl refl refl (subst IsSound (sym same) i.numbered.sound)
          x (leaves_same x c.loop-place.self.cells.buckets c.write_bare_layer.new.cells.buckets same) (this_there i.counts x within is) i.numbered;
      numbers = i.numbers;
      buckets = same ∙ i.buckets;
      counts = subst (λ b. CountsFirst pool_slots scene (tiles_in c.args.style.now) (globals_in c.args.style.now) ns (trees_in c.args.style.now)
          (kept_seen c.args.self.now) (k + 1) b c.in_ok-evaluated.evaluated c.args.steps.now c.write_bare_layer.new.steps) (sym same)
          (bare_counts i.counts x within is layer found (λ cell. ap (λ b. kept_at b cell) i.buckets ∙ c.requires.bare cell)
          c.write_bare_layer.new.steps c.in_ok-more.more c.in_ok-more.ensures.evaluates c.in_ok-evaluated.evaluated c.in_ok-evaluated.ensures);
      text = goes_on g.O.Sink.held g.O.Sink.faults c.args.pieces.now c.loop-place.pieces _ _ _ _ c.in_ok-more.ensures.text
          (left_is g.O.Sink.held g.O.Sink.faults c.args.pieces.now c.loop-place.pieces _ _ _
          (lines_split scene (tiles_in c.args.style.now) (prepared_layers (globals_in c.args.style.now) (trees_in c.args.style.now)) k layer
          (this_within i.counts x within is (prepared_layers (globals_in c.args.style.now) (trees_in c.args.style.now)) refl)
          c.listed_layer.ensures) i.text);
    }

pub returns-clause-numbered : goal.returns-clause-numbered
returns-clause-numbered g c =
    c.loop-place.invariant.numbered

pub returns-clause-counts : goal.returns-clause-counts
returns-clause-counts g c =
    all_counts c.loop-place.invariant.counts
    (omega (arith, c.loop-place-test.false, c.len-place-end.ensures, c.args.self.now.numbers.ok.0))

pub returns-clause-text : goal.returns-clause-text
returns-clause-text g c =
    let scene = scene_seen g.V.TextTests.tests c.args.scene.now in
    let layers = prepared_layers (globals_in c.args.style.now) (trees_in c.args.style.now) in
    let i = c.loop-place.invariant in
    let past : length c.args.self.now.numbers.items ≤ c.loop-place.place =
    omega (arith, c.loop-place-test.false, c.len-place-end.ensures, c.args.self.now.numbers.ok.0) in
    let all : length layers ≤ c.loop-place.place = omega (arith, past, layers_length i.counts layers refl) in
    ends g.O.Sink.held g.O.Sink.faults c.args.pieces.now c.loop-place.pieces _
    (left_is g.O.Sink.held g.O.Sink.faults c.args.pieces.now c.loop-place.pieces _ _ _
    (no_lines scene (tiles_in c.args.style.now) layers c.loop-place.place all) i.text)

pub returns-in_err-more-clause-text : goal.returns-in_err-more-clause-text
returns-in_err-more-clause-text g c =
    let scene = scene_seen g.V.TextTests.tests c.args.scene.now in
    let ns = c.args.self.now.numbers.items in
    let i = c.loop-place.invariant in
    let k = c.loop-place.place in
    let x = c.index.result.now in
    let within : k < length ns = omega (arith, c.loop-place-test.true, c.len-place-end.ensures, c.args.self.now.numbers.ok.0) in
    let is : x ≡ get_or ns k x = c.index.ensures ∙ ap (λ v. get_or v.items k x) i.numbers in
    let layers = prepared_layers (globals_in c.args.style.now) (trees_in c.args.style.now) in
    let layer = document_layer c.listed_layer.result in
    breaks_off g.O.Sink.held g.O.Sink.faults c.from_residual.result c.args.pieces.now c.loop-place.pieces _ _ _ _
    c.from_residual.ensures.1 c.in_err-more.ensures.text
    (left_is g.O.Sink.held g.O.Sink.faults c.args.pieces.now c.loop-place.pieces _ _ _
    (lines_split scene (tiles_in c.args.style.now) layers k layer (this_within i.counts x within is layers refl) c.listed_layer.ensures) i.text)

pub returns-in_err-evaluated-clause-text : goal.returns-in_err-evaluated-clause-text
returns-in_err-evaluated-clause-text g c =
    let scene = scene_seen g.V.TextTests.tests c.args.scene.now in
    let ns = c.args.self.now.numbers.items in
    let i = c.loop-place.invariant in
    let k = c.loop-place.place in
    let x = c.index.result.now in
    let within : k < length ns = omega (arith, c.loop-place-test.true, c.len-place-end.ensures, c.args.self.now.numbers.ok.0) in
    let is : x ≡ get_or ns k x = c.index.ensures ∙ ap (λ v. get_or v.items k x) i.numbers in
    let layers = prepared_layers (globals_in c.args.style.now) (trees_in c.args.style.now) in
    let layer = document_layer c.listed_layer.result in
    lacks g.O.Sink.held g.O.Sink.faults c.from_residual-in_err-evaluated.result c.args.pieces.now c.write_bare_layer.new.pieces _ _ _
    c.from_residual-in_err-evaluated.ensures.1 refl
    (goes_on g.O.Sink.held g.O.Sink.faults c.args.pieces.now c.loop-place.pieces _ _ _ _ c.in_ok-more.ensures.text
    (left_is g.O.Sink.held g.O.Sink.faults c.args.pieces.now c.loop-place.pieces _ _ _
    (lines_split scene (tiles_in c.args.style.now) layers k layer (this_within i.counts x within is layers refl) c.listed_layer.ensures) i.text))
