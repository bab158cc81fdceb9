use Rattle.std.proofs.Common.{◌≡◌, map, get_or, sym, ap, subst, ◌∙◌}
use Rattle.std.specs.Prelude.{insert, remove, is_some}
use Rattle.std.proofs.lemmas.List.{get_or-map, with_items_is}
use Rattle.decimal_json.proofs.Edits.{map_insert, map_remove}
use Rattle.layer_buckets.specs.Seen.{features_of}
use Rattle.noted_places.proofs.NotedLaws.{noted_alike, noted_move}
use Rattle.noted_places.specs.Places.{AreNoted, after_move, places_in}
use Rattle.form_pool.specs.PoolSlots.{pool_slots}
use Rattle.kept_layers.specs.Holding.{AreApart, AreThere, HasLayer, IsOther, IsRight, Pairwise, ReadsNoState, kept_of}
use Rattle.kept_layers.specs.KeptLayers.{none_kept}
use Rattle.kept_layers.proofs.HoldingLaws.{there_at, there_insert, there_remove}
use Rattle.kept_layers.proofs.Lists.{apart_insert, apart_remove, get_same, pairs_move, removed_other}
use Rattle.kept_layers.proofs.kept_layers.KeptLayers.move_layer.Goals as goal

pub returns : goal.returns
returns c =
    let b = c.args.self.now.cells.buckets in
    let ns = c.args.self.now.numbers.items in
    let ps = places_in c.args.self.now.state_places in
    let from = c.args.from in
    let to = c.args.to in
    let n = get_or ns from 0 in
    let numbered = c.requires.numbered in
    let is : n ≡ get_or ns from n = get_same ns from 0 n c.requires.from in
    let items = with_items_is c.args.self.now.numbers c.move_element.new.items (c.move_element.ensures.len ∙ c.as_mut_slice.ensures.len)
    ∙ (c.move_element.ensures.moved 0 ∙ ap (λ l. insert (remove l from) to (get_or l from 0)) c.as_mut_slice.ensures.value) in
    record {
      numbered = record {
        sound = numbered.sound;
        apart = subst AreApart (sym items) (apart_insert n (remove ns from) to
            (subst (λ k. IsOther k (remove ns from)) (sym is) (removed_other ns from n c.requires.from numbered.apart)) (apart_remove ns from numbered.apart));
        there = subst (AreThere b) (sym items) (there_insert b n (remove ns from) to
            (ap (λ k. is_some (features_of b k)) is ∙ there_at b ns from n c.requires.from numbered.there) (there_remove b ns from numbered.there));
        bare = numbered.bare;
        noted = numbered.noted;
        states = noted_alike (ReadsNoState b) _ (map (after_move from to) ps)
            (subst (λ l. AreNoted (ReadsNoState b) l (map (after_move from to) ps)) (sym items)
            (noted_move (ReadsNoState b) ns ps numbered.states from to c.requires.from c.requires.to 0))
            (places_in c.follow_move.new.self) c.follow_move.ensures;
      };
      kept = ap (map (kept_of b)) items ∙ (map_insert (kept_of b) (remove ns from) to n
          ∙ (λ i. insert (map_remove (kept_of b) ns from i) to ((ap (kept_of b) is ∙ sym (get_or-map (kept_of b) ns from n none_kept c.requires.from)) i)));
      holds = λ tiles globals ts other held. subst (λ l. Pairwise (HasLayer pool_slots tiles globals b) l (insert (remove ts from) to (get_or ts from other))) (sym items)
          (pairs_move (HasLayer pool_slots tiles globals b) ns ts from to n other c.requires.from is held);
      right = λ tiles globals scene ts other held right. subst (λ l. Pairwise (IsRight pool_slots tiles globals b scene) l (insert (remove ts from) to (get_or ts from other))) (sym items)
          (pairs_move (IsRight pool_slots tiles globals b scene) ns ts from to n other c.requires.from is right);
    }
