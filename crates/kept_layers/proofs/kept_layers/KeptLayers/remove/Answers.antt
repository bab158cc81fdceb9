use Rattle.std.proofs.Common.{◌≡◌, map, get_or, sym, ap, subst, ◌∙◌}
use Rattle.std.specs.Prelude.{remove}
use Rattle.layer_buckets.specs.Cells.{reads_globals}
use Rattle.noted_places.proofs.NotedLaws.{noted_remove, noted_same}
use Rattle.noted_places.specs.Places.{AreNoted, after_remove, places_in, without_place}
use Rattle.form_pool.specs.PoolSlots.{pool_slots}
use Rattle.kept_layers.specs.Holding.{AreApart, AreThere, HasLayer, IsRight, Pairwise, ReadsNoState, style_kept}
use Rattle.kept_layers.proofs.ChangeLaws.{less_held, less_kept, less_right, removed_bare, removed_leaves, rest_other}
use Rattle.kept_layers.proofs.HoldingLaws.{bare_left, there_left, there_remove}
use Rattle.kept_layers.proofs.Lists.{apart_remove}
use Rattle.kept_layers.proofs.NumberedLaws.{noted_left, unread_gone}
use Rattle.kept_layers.proofs.kept_layers.KeptLayers.remove.Goals as goal

pub returns : goal.returns
returns c =
    let old = c.args.self.now.cells.buckets in
    let new = c.remove.new.self in
    let ns = c.args.self.now.numbers.items in
    let n = c.remove-number.result in
    let place = c.args.place in
    let ps = places_in c.args.self.now.state_places in
    let numbered = c.requires.numbered in
    let is : n ≡ get_or ns place n = c.remove-number.ensures.value in
    let items = c.remove-number.ensures.items in
    let e = c.remove.ensures in
    let left = removed_leaves pool_slots n old new e.evaluator e.sources e.features e.kept in
    let bare = removed_bare pool_slots n old new e.evaluator e.sources e.features e.kept in
    let other = rest_other pool_slots n place n old new ns c.requires.within is numbered.apart left in
    record {
      numbered = record {
        sound = e.sound;
        apart = subst AreApart (sym items) (apart_remove ns place numbered.apart);
        there = subst (AreThere new) (sym items) (there_left pool_slots n old new left (remove ns place) other (there_remove old ns place numbered.there));
        bare = bare_left pool_slots n old new left numbered.bare (λ none. bare);
        noted = λ off. noted_left pool_slots n old new left (numbered.noted off) (λ item. ap reads_globals (bare.sources item));
        states = subst (AreNoted (ReadsNoState new) _) (sym c.follow_remove.ensures)
            (subst (λ l. AreNoted (ReadsNoState new) l (map (after_remove place) (without_place place ps))) (sym items)
            (noted_remove (ReadsNoState new) ns ps
            (noted_same (ReadsNoState old) ns ps numbered.states (ReadsNoState new) (λ p d inside none. unread_gone n old new e.sources (get_or ns p d) none))
            place c.requires.within));
      };
      kept = ap (style_kept new) items ∙ less_kept pool_slots n place n old new ns c.requires.within is numbered.apart left;
      holds = λ tiles globals ts held. subst (λ l. Pairwise (HasLayer pool_slots tiles globals new) l (remove ts place)) (sym items)
          (less_held pool_slots n place n old new ns c.requires.within is numbered.apart left tiles globals ts held);
      right = λ tiles globals scene ts held right. subst (λ l. Pairwise (IsRight pool_slots tiles globals new scene) l (remove ts place)) (sym items)
          (less_right pool_slots n place n old new ns c.requires.within is numbered.apart left tiles globals scene ts right);
    }
