use Rattle.std.proofs.Common.{◌≡◌, ◌+◌, ◌<◌, ◌≤◌, length, get_or, refl, ap, sym, subst, ◌∙◌, arith, vec_len}
use Rattle.style_layout.specs.CodeView.{document_layer, scene_seen}
use Rattle.std.proofs.lemmas.List.{length-map}
use Rattle.form_pool.specs.PoolSlots.{pool_slots}
use Rattle.kept_layers.proofs.ListLaws.{all_counts, all_kept_after, asked_counts, asked_keeps, failed_counts, layers_length, lines_end, lines_first, lines_next, most_taken, none_counted, stops_here, this_kept_layer, this_layer, this_there, this_within}
use Rattle.kept_layers.proofs.NumberedLaws.{asked_numbered}
use Rattle.kept_layers.specs.Holding.{AreHeld, AreRightIn, style_kept}
use Rattle.kept_layers.specs.KeptLayers.{prepared_layer, prepared_layers}
use Rattle.kept_layers.specs.View.{globals_in, kept_seen, tiles_in, trees_in}
use Rattle.kept_layers.proofs.kept_layers.KeptLayers.list_layers.Goals as goal

pub loop-place-init : goal.loop-place-init
loop-place-init g c =
    let scene = scene_seen g.V.TextTests.tests c.args.scene.now in
    let style = c.args.style.now in
    record {
      numbered = c.requires.numbered;
      numbers = refl;
      counts = none_counted pool_slots scene (tiles_in style) (globals_in style) c.args.self.now.numbers.items (trees_in style)
          c.args.self.now.cells.buckets c.args.steps.now c.requires.holds c.requires.right;
      keeps = refl;
      text = lines_first scene (tiles_in style) c.args.out.now.items (prepared_layers (globals_in style) (trees_in style));
    }

pub index-requires : goal.index-requires
index-requires g c =
    let same = ap (λ v. vec_len v) c.loop-place.invariant.numbers in
    omega (arith, same, c.loop-place-test.true, c.len-place-end.ensures)

pub listed_layer-requires-clause-within : goal.listed_layer-requires-clause-within
listed_layer-requires-clause-within g c =
    let ns = c.args.self.now.numbers.items in
    let i = c.loop-place.invariant in
    let k = c.loop-place.place in
    let x = c.index.result.now in
    let within : k < length ns = omega (arith, c.loop-place-test.true, c.len-place-end.ensures, c.args.self.now.numbers.ok.0) in
    let is : x ≡ get_or ns k x = c.index.ensures ∙ ap (λ v. get_or v.items k x) i.numbers in
    let style = c.args.style.now in
    let there = this_within i.counts x within is (prepared_layers (globals_in style) (trees_in style)) refl in
    omega (arith, there, length-map (trees_in style) (prepared_layer (globals_in style)))

pub list_layer-requires-clause-sound : goal.list_layer-requires-clause-sound
list_layer-requires-clause-sound g c =
    c.loop-place.invariant.numbered.sound

pub list_layer-requires-clause-layer : goal.list_layer-requires-clause-layer
list_layer-requires-clause-layer g c =
    let ns = c.args.self.now.numbers.items in
    let i = c.loop-place.invariant in
    let k = c.loop-place.place in
    let x = c.index.result.now in
    let within : k < length ns = omega (arith, c.loop-place-test.true, c.len-place-end.ensures, c.args.self.now.numbers.ok.0) in
    let is : x ≡ get_or ns k x = c.index.ensures ∙ ap (λ v. get_or v.items k x) i.numbers in
    let layer = document_layer c.listed_layer.result in
    let found = this_layer i.counts x within is (prepared_layers (globals_in c.args.style.now) (trees_in c.args.style.now)) layer refl c.listed_layer.ensures in
    this_kept_layer i.counts x within is layer found c.requires.prepared.few

pub returns-in_err-more-clause-numbered : goal.returns-in_err-more-clause-numbered
returns-in_err-more-clause-numbered g c =
    let ns = c.args.self.now.numbers.items in
    let i = c.loop-place.invariant in
    let k = c.loop-place.place in
    let x = c.index.result.now in
    let within : k < length ns = omega (arith, c.loop-place-test.true, c.len-place-end.ensures, c.args.self.now.numbers.ok.0) in
    let is : x ≡ get_or ns k x = c.index.ensures ∙ ap (λ v. get_or v.items k x) i.numbers in
    let leaves = c.list_layer.ensures.sources in
    asked_numbered c.loop-place.self c.list_layer.new.self c.list_layer.ensures.numbers c.list_layer.ensures.reads c.list_layer.ensures.states c.list_layer.ensures.sound
    x leaves (this_there i.counts x within is) i.numbered

pub returns-in_err-more-clause-counts : goal.returns-in_err-more-clause-counts
returns-in_err-more-clause-counts g c =
    let scene = scene_seen g.V.TextTests.tests c.args.scene.now in
    let style = c.args.style.now in
    let ns = c.args.self.now.numbers.items in
    let i = c.loop-place.invariant in
    let k = c.loop-place.place in
    let x = c.index.result.now in
    let within : k < length ns = omega (arith, c.loop-place-test.true, c.len-place-end.ensures, c.args.self.now.numbers.ok.0) in
    let is : x ≡ get_or ns k x = c.index.ensures ∙ ap (λ v. get_or v.items k x) i.numbers in
    let layer = document_layer c.listed_layer.result in
    let found = this_layer i.counts x within is (prepared_layers (globals_in c.args.style.now) (trees_in c.args.style.now)) layer refl c.listed_layer.ensures in
    failed_counts scene (tiles_in style) (globals_in style) (trees_in style) (kept_seen c.args.self.now) c.args.steps.now c.list_layer.new.steps
    c.from_residual.result c.from_residual.ensures.0
    (stops_here i.counts x within is layer found c.filters_are_decided.ensures c.list_layer.new.self.cells.buckets c.list_layer.new.steps
    c.list_layer.result c.list_layer.ensures.asks)

pub returns-in_err-number-clause-numbered : goal.returns-in_err-number-clause-numbered
returns-in_err-number-clause-numbered g c =
    let ns = c.args.self.now.numbers.items in
    let i = c.loop-place.invariant in
    let k = c.loop-place.place in
    let x = c.index.result.now in
    let within : k < length ns = omega (arith, c.loop-place-test.true, c.len-place-end.ensures, c.args.self.now.numbers.ok.0) in
    let is : x ≡ get_or ns k x = c.index.ensures ∙ ap (λ v. get_or v.items k x) i.numbers in
    let leaves = c.list_layer.ensures.sources in
    asked_numbered c.loop-place.self c.list_layer.new.self c.list_layer.ensures.numbers c.list_layer.ensures.reads c.list_layer.ensures.states c.list_layer.ensures.sound
    x leaves (this_there i.counts x within is) i.numbered

pub returns-in_err-number-clause-counts : goal.returns-in_err-number-clause-counts
returns-in_err-number-clause-counts g c =
    let scene = scene_seen g.V.TextTests.tests c.args.scene.now in
    let style = c.args.style.now in
    let ns = c.args.self.now.numbers.items in
    let i = c.loop-place.invariant in
    let k = c.loop-place.place in
    let x = c.index.result.now in
    let within : k < length ns = omega (arith, c.loop-place-test.true, c.len-place-end.ensures, c.args.self.now.numbers.ok.0) in
    let is : x ≡ get_or ns k x = c.index.ensures ∙ ap (λ v. get_or v.items k x) i.numbers in
    let layer = document_layer c.listed_layer.result in
    let found = this_layer i.counts x within is (prepared_layers (globals_in c.args.style.now) (trees_in c.args.style.now)) layer refl c.listed_layer.ensures in
    let law = c.filters_are_decided.ensures in
    let asked = c.list_layer.new.self.cells.buckets in
    let leaves = c.list_layer.ensures.sources in
    failed_counts scene (tiles_in style) (globals_in style) (trees_in style) (kept_seen c.args.self.now) c.args.steps.now c.list_layer.new.steps
    c.from_residual-in_err-number.result c.from_residual-in_err-number.ensures.0
    (most_taken (asked_counts i.counts x within is layer found law asked c.list_layer.new.steps c.requires.numbered.apart c.in_ok-more.more c.in_ok-more.ensures.asks leaves
    (c.loop-place.number + c.in_ok-more.more) refl))

pub loop-place-preserved : goal.loop-place-preserved
loop-place-preserved g c =
    let scene = scene_seen g.V.TextTests.tests c.args.scene.now in
    let ns = c.args.self.now.numbers.items in
    let i = c.loop-place.invariant in
    let k = c.loop-place.place in
    let x = c.index.result.now in
    let within : k < length ns = omega (arith, c.loop-place-test.true, c.len-place-end.ensures, c.args.self.now.numbers.ok.0) in
    let is : x ≡ get_or ns k x = c.index.ensures ∙ ap (λ v. get_or v.items k x) i.numbers in
    let layer = document_layer c.listed_layer.result in
    let found = this_layer i.counts x within is (prepared_layers (globals_in c.args.style.now) (trees_in c.args.style.now)) layer refl c.listed_layer.ensures in
    let law = c.filters_are_decided.ensures in
    let asked = c.list_layer.new.self.cells.buckets in
    let leaves = c.list_layer.ensures.sources in
    record {
      numbered = asked_numbered c.loop-place.self c.list_layer.new.self c.list_layer.ensures.numbers c.list_layer.ensures.reads c.list_layer.ensures.states c.list_layer.ensures.sound
          x leaves (this_there i.counts x within is) i.numbered;
      numbers = c.list_layer.ensures.numbers ∙ i.numbers;
      counts = asked_counts i.counts x within is layer found law asked c.list_layer.new.steps c.requires.numbered.apart c.in_ok-more.more c.in_ok-more.ensures.asks leaves
          c.in_ok-number.number c.in_ok-number.ensures;
      keeps = asked_keeps i.counts x within is layer found law asked c.list_layer.new.steps c.requires.numbered.apart c.in_ok-more.more c.in_ok-more.ensures.asks leaves i.keeps;
      text = lines_next scene (tiles_in c.args.style.now) c.args.out.now.items c.loop-place.out.items c.list_layer.new.out.items
          (prepared_layers (globals_in c.args.style.now) (trees_in c.args.style.now)) k layer (this_within i.counts x within is (prepared_layers (globals_in c.args.style.now) (trees_in c.args.style.now)) refl)
          c.listed_layer.ensures i.text c.in_ok-more.ensures.lines;
    }

pub returns-clause-numbered : goal.returns-clause-numbered
returns-clause-numbered g c =
    c.loop-place.invariant.numbered

pub returns-clause-counts : goal.returns-clause-counts
returns-clause-counts g c =
    all_counts c.loop-place.invariant.counts
    (omega (arith, c.loop-place-test.false, c.len-place-end.ensures, c.args.self.now.numbers.ok.0))

pub returns-clause-listed : goal.returns-clause-listed
returns-clause-listed g c =
    let scene = scene_seen g.V.TextTests.tests c.args.scene.now in
    let style = c.args.style.now in
    let i = c.loop-place.invariant in
    let now = c.loop-place.self.cells.buckets in
    let past : length c.args.self.now.numbers.items ≤ c.loop-place.place =
    omega (arith, c.loop-place-test.false, c.len-place-end.ensures, c.args.self.now.numbers.ok.0) in
    record {
      kept = ap (λ v. style_kept now v.items) i.numbers ∙ all_kept_after i.counts past i.keeps;
      holds = subst (λ v. AreHeld pool_slots (tiles_in style) (globals_in style) now v.items (trees_in style)) (sym i.numbers) i.counts.holds;
      right = subst (λ v. AreRightIn pool_slots (tiles_in style) (globals_in style) now scene v.items (trees_in style)) (sym i.numbers) i.counts.right;
    }

pub returns-clause-text : goal.returns-clause-text
returns-clause-text g c =
    let scene = scene_seen g.V.TextTests.tests c.args.scene.now in
    let layers = prepared_layers (globals_in c.args.style.now) (trees_in c.args.style.now) in
    let i = c.loop-place.invariant in
    let past : length c.args.self.now.numbers.items ≤ c.loop-place.place =
    omega (arith, c.loop-place-test.false, c.len-place-end.ensures, c.args.self.now.numbers.ok.0) in
    let all : length layers ≤ c.loop-place.place = omega (arith, past, layers_length i.counts layers refl) in
    lines_end scene (tiles_in c.args.style.now) c.args.out.now.items c.loop-place.out.items layers c.loop-place.place all i.text
