use Rattle.std.proofs.Common.{◌≡◌, ℕ, map, nat_eq, sym, ap, subst, ◌∙◌}
use Rattle.std.specs.Prelude.{Some, true}
use Rattle.tile_reader.specs.declared.tile.Feature.{Feature}
use Rattle.layer_buckets.specs.Cells.{feature_eq, reads_state}
use Rattle.layer_buckets.specs.Seen.{kept_at, source_of}
use Rattle.style_layout.specs.CodeView.{layer_seen, tile_seen}
use Rattle.style_layout.specs.Walk.{features_left}
use Rattle.feature_index.specs.Ids.{is_id}
use Rattle.kept_layers.proofs.StateLaws.{found_by, hit_first, hits, hits_all, left_by, left_next, left_none}
use Rattle.kept_layers.proofs.kept_layers.KeptLayers.drop_walked.Goals as goal

pub loop-feature-preserved-then-eq : goal.loop-feature-preserved-then-eq
loop-feature-preserved-then-eq c =
    let old = c.args.self.now.cells.buckets in
    let now = c.loop-feature.self.cells.buckets in
    let new = c.drop_cells.new.self in
    let i = c.loop-feature.invariant in
    let e = c.drop_cells.ensures in
    let later = features_left c.next.new.self in
    let nf : ℕ × Feature = (c.in-Some.feature, c.in-Some.found.now) in
    let is : is_id c.args.id nf.1.id ≡ true = subst (λ o. is_id c.args.id o ≡ true) c.get.ensures (found_by c.args.id c.get.result c.if-eq.ensures) in
    record {
      few = c.next.ensures.few;
      numbers = i.numbers;
      reads = i.reads;
      states = i.states;
      sound = e.sound;
      still = record {
        evaluator = e.evaluator ∙ i.still.evaluator;
        source = λ l item. e.sources l item ∙ i.still.source l item;
        features = λ l. e.features l ∙ i.still.features l;
      };
      kept = λ cell.
          let here = nat_eq c.args.number cell.layer in
          let reads = reads_state (source_of old cell.layer cell.item) in
          let this = feature_eq (Some nf.0) cell.feature in
          let dropped = e.kept cell ∙ ap (λ o. left_by here this (reads_state o) (kept_at now cell)) (i.still.source cell.layer cell.item) in
          ap (left_by here (hits c.args.id later cell.feature) reads) dropped
          ∙ (left_next here reads this (hits c.args.id later cell.feature) (kept_at now cell)
          ∙ (ap (λ h. left_by here h reads (kept_at now cell)) (sym (ap (λ l. hits c.args.id l cell.feature) c.in-Some.ensures.left ∙ hit_first c.args.id nf later cell.feature is))
          ∙ i.kept cell));
    }

pub returns-clause-kept : goal.returns-clause-kept
returns-clause-kept c = λ cell.
    let old = c.args.self.now.cells.buckets in
    let now = c.loop-feature.self.cells.buckets in
    let here = nat_eq c.args.number cell.layer in
    let reads = reads_state (source_of old cell.layer cell.item) in
    sym (left_none here reads (kept_at now cell))
    ∙ (ap (λ l. left_by here (hits c.args.id l cell.feature) reads (kept_at now cell)) (sym c.in_default.ensures.left)
    ∙ (c.loop-feature.invariant.kept cell
    ∙ ap (λ h. left_by here h reads (kept_at old cell)) (hits_all c.args.id (map tile_seen c.args.tiles.now) (layer_seen c.args.shown.now) cell.feature)))
