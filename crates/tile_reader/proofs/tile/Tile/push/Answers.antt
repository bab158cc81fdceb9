-- The new layer follows the others: its name differs from theirs, and the index knows its place.
use Rattle.std.proofs.Common.{◌≡◌, [], ◌∷◌, ◌++◌, sym, subst, ap, ◌∙◌}
use Rattle.key_index.specs.Index.{IsIndexed}
use Rattle.key_index.specs.Keys.{LacksKey, HasDistinctKeys}
use Rattle.tile_reader.specs.Names.{names}
use Rattle.tile_reader.proofs.Names.{names_more, names_differ}
use Rattle.tile_reader.proofs.tile.Tile.push.Goals as goal

pub invariant_of-self-2 : goal.invariant_of-self-2
invariant_of-self-2 c =
    let layers = c.self.inside.layers.items in
    let layer = c.args.layer in
    let slice : c.as_slice.result.now ≡ layers = c.as_slice.ensures.value ∙ c.reserve.ensures.items in
    let lacks : LacksKey layer.name (names layers) = subst (λ ls. LacksKey layer.name (names ls)) (sym c.self.view_is) c.requires in
    let added : c.push.new.self.items ≡ layers ++ layer ∷ [] = c.in_ok-push.ensures.items ∙ ap (λ ls. ls ++ layer ∷ []) c.reserve.ensures.items in
    let keys : names c.as_slice.result.now ++ c.as_str.result.now ∷ [] ≡ names c.push.new.self.items =
    ap (λ ls. names ls ++ c.as_str.result.now ∷ []) slice ∙ (ap (λ name. names layers ++ name ∷ []) c.as_str.ensures ∙ (sym (names_more layers layer) ∙ ap names (sym added))) in (
      subst (λ ls. HasDistinctKeys (names ls)) (sym added) (names_differ layers layer c.self.invariant.0 lacks),
      subst (IsIndexed c.note_next.new.self) keys c.in_ok-note_next.ensures.ok,
    )
