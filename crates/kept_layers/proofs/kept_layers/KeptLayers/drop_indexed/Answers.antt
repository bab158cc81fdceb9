use Rattle.std.proofs.Common.{nat_eq, refl, sym, ap, ◌∙◌}
use Rattle.std.specs.Prelude.{Some}
use Rattle.feature_index.specs.Ids.{numbers_left}
use Rattle.layer_buckets.specs.Cells.{feature_eq, reads_state}
use Rattle.layer_buckets.specs.Seen.{kept_at, source_of}
use Rattle.kept_layers.specs.Turning.{is_listed}
use Rattle.kept_layers.proofs.StateLaws.{left_by, left_next, left_none, listed_first, listed_none}
use Rattle.kept_layers.proofs.kept_layers.KeptLayers.drop_indexed.Goals as goal

pub loop-feature-init : goal.loop-feature-init
loop-feature-init c =
    let old = c.args.self.now.cells.buckets in
    let (ids, is) = c.requires.indexed in
    record {
      walk = c.numbers-found.ensures.walk ids is;
      numbers = refl;
      reads = refl;
      states = refl;
      sound = c.requires.sound;
      still = record { evaluator = refl; source = λ l item. refl; features = λ l. refl };
      kept = λ cell. ap (λ ns. left_by (nat_eq c.args.number cell.layer) (is_listed ns cell.feature)
          (reads_state (source_of old cell.layer cell.item)) (kept_at old cell)) c.numbers-found.ensures.left;
    }

pub loop-feature-preserved : goal.loop-feature-preserved
loop-feature-preserved c =
    let old = c.args.self.now.cells.buckets in
    let now = c.loop-feature.self.cells.buckets in
    let i = c.loop-feature.invariant in
    let e = c.drop_cells.ensures in
    let later = numbers_left c.next.new.self in
    let n = c.in-Some.feature in
    record {
      walk = c.next.ensures.walk;
      numbers = i.numbers;
      reads = i.reads;
      states = i.states;
      sound = e.sound;
      still = record {
        evaluator = e.evaluator ∙ i.still.evaluator;
        source = λ l item. e.sources l item ∙ i.still.source l item;
        features = λ l. e.features l ∙ i.still.features l;
      };
      kept = λ cell.
          let here = nat_eq c.args.number cell.layer in
          let reads = reads_state (source_of old cell.layer cell.item) in
          let this = feature_eq (Some n) cell.feature in
          let dropped = e.kept cell ∙ ap (λ o. left_by here this (reads_state o) (kept_at now cell)) (i.still.source cell.layer cell.item) in
          ap (left_by here (is_listed later cell.feature) reads) dropped
          ∙ (left_next here reads this (is_listed later cell.feature) (kept_at now cell)
          ∙ (ap (λ h. left_by here h reads (kept_at now cell)) (sym (ap (λ ns. is_listed ns cell.feature) c.in-Some.ensures.left ∙ listed_first n later cell.feature))
          ∙ i.kept cell));
    }

pub returns-clause-kept : goal.returns-clause-kept
returns-clause-kept c = λ cell.
    let old = c.args.self.now.cells.buckets in
    let now = c.loop-feature.self.cells.buckets in
    let here = nat_eq c.args.number cell.layer in
    let reads = reads_state (source_of old cell.layer cell.item) in
    sym (left_none here reads (kept_at now cell))
    ∙ (ap (λ hit. left_by here hit reads (kept_at now cell)) (sym (listed_none cell.feature))
    ∙ (ap (λ ns. left_by here (is_listed ns cell.feature) reads (kept_at now cell)) (sym c.in_default.ensures.left)
    ∙ c.loop-feature.invariant.kept cell))
