use Rattle.std.proofs.Common.{◌≡◌, length, refl, sym, ap, subst, ◌∙◌, arith}
use Rattle.std.specs.Prelude.{insert, is_some, Some, None}
use Rattle.decimal_json.specs.Tree.{object, fields_of}
use Rattle.decimal_json.specs.View.{tree_of}
use Rattle.layer_buckets.specs.Cells.{reads_globals, reads_state}
use Rattle.layer_buckets.specs.Seen.{features_of}
use Rattle.noted_places.specs.Places.{AreNoted, NotesIf, places_in}
use Rattle.style_layout.specs.Shown.{layer_features}
use Rattle.style_layout.specs.CodeView.{layer_seen}
use Rattle.asked_cells.specs.Expressions.{HasExpressions}
use Rattle.cell_sources.specs.CellExpressions.{item_expression}
use Rattle.form_pool.specs.PoolSlots.{pool_slots}
use Rattle.kept_layers.specs.Changes.{globals_of, tiles_of}
use Rattle.kept_layers.specs.Holding.{AreApart, AreThere, HasLayer, IsRight, Pairwise, ReadsNoState, style_kept}
use Rattle.kept_layers.specs.KeptLayers.{layer_expressions}
use Rattle.kept_layers.proofs.ChangeLaws.{added_features, added_kept, added_leaves, more_held, more_kept, more_right}
use Rattle.kept_layers.proofs.HoldingLaws.{absent_other, bare_left, none_is_not, there_insert, there_left}
use Rattle.kept_layers.proofs.Lists.{apart_insert}
use Rattle.kept_layers.proofs.NumberedLaws.{noted_items, noted_left, off_first, off_second, states_added}
use Rattle.kept_layers.proofs.kept_layers.KeptLayers.add.Goals as goal

-- no place is beyond the layers
pub follow_insert-requires : goal.follow_insert-requires
follow_insert-requires c = λ p noted. omega (arith, c.requires.numbered.states.within p noted, c.len-count.ensures, c.args.self.now.numbers.ok.0)

pub returns : goal.returns
returns c =
    let old = c.args.self.now.cells.buckets in
    let mid = c.add_layer.new.self.buckets in
    let new = c.add_sources.new.buckets in
    let ns = c.args.self.now.numbers.items in
    let n = c.in_ok-number.number in
    let place = c.args.place in
    let one = c.args.one.now in
    let t = tree_of one.layer.now in
    let numbered = c.requires.numbered in
    let count = length (layer_features (tiles_of one) (layer_seen one.prepared.now)) in
    let a = c.in_ok-add_layer.ensures in
    let e = c.in_ok-add_sources.ensures in
    let items = c.in-Ok.ensures.items in
    let absent : features_of old n ≡ None = c.in_ok-number.ensures in
    let left = added_leaves pool_slots n count old mid new a.evaluator a.sources a.kept a.ok e.others e.kept in
    let features = added_features pool_slots n count old mid new a.evaluator a.sources a.kept a.ok e.others e.kept in
    let none = added_kept pool_slots n count old mid new a.evaluator a.sources a.kept a.ok e.others e.kept (numbered.bare n absent) in
    let other = absent_other old n ns absent numbered.there in
    let values = c.values-values.result in
    let reads = c.layer_reads_globals-reads.result in
    let reads_now = c.layer_reads_state-reads_state.result in
    let ps = places_in c.args.self.now.state_places in
    let v = c.values-values.ensures in
    let sources : HasExpressions pool_slots n (layer_expressions (globals_of one) t) new =
    subst (λ x. HasExpressions pool_slots n x new) (λ i. item_expression (v.globals i) (v.layer_type i) (v.members i)) e.sources in
    let this : HasLayer pool_slots (tiles_of one) (globals_of one) new n t = record {
      sources = sources;
      features = features ∙ ap (λ l. Some (length (layer_features (tiles_of one) l))) c.requires.layer.prepared;
    } in
    record {
      numbered = record {
        sound = e.sound;
        apart = subst AreApart (sym items) (apart_insert n ns place other numbered.apart);
        there = subst (AreThere new) (sym items) (there_insert new n ns place (ap is_some features) (there_left pool_slots n old new left ns other numbered.there));
        bare = bare_left pool_slots n old new left numbered.bare (λ gone. absurd (none_is_not (features_of new n) gone (ap is_some features)));
        noted = λ off. noted_left pool_slots n old new left (numbered.noted (off_first c.args.self.now.reads_globals reads off))
            (noted_items reads_globals refl pool_slots n values.globals.now values.layer_type (object (fields_of values.members.now)) new e.sources
            (c.layer_reads_globals-reads.ensures (off_second c.args.self.now.reads_globals reads off)));
        states = subst (λ l. AreNoted (ReadsNoState new) l (places_in c.note_if.new.self)) (sym items)
            (states_added pool_slots n old new left ns ps (places_in c.note_if.new.self) other numbered.states place c.requires.within reads_now
            (subst (λ l. NotesIf reads_now place l (places_in c.note_if.new.self)) c.follow_insert.ensures c.in_ok-note_if.ensures.ok)
            (λ off. noted_items reads_state refl pool_slots n values.globals.now values.layer_type (object (fields_of values.members.now)) new e.sources
            (c.layer_reads_state-reads_state.ensures off)));
      };
      kept = ap (style_kept new) items ∙ more_kept pool_slots n place old new ns left other none;
      holds = λ ts held. subst (λ l. Pairwise (HasLayer pool_slots (tiles_of one) (globals_of one) new) l (insert ts place t)) (sym items)
          (more_held pool_slots n place old new ns left other (tiles_of one) (globals_of one) t ts this held);
      right = λ scene ts held right. subst (λ l. Pairwise (IsRight pool_slots (tiles_of one) (globals_of one) new scene) l (insert ts place t)) (sym items)
          (more_right pool_slots n place old new ns left other (tiles_of one) (globals_of one) scene t ts none right);
    }
