use Rattle.std.proofs.Common.{◌≡◌, ◌∙◌, [], true, false, ap, sym, if◌then◌else◌}
use Rattle.layer_buckets.specs.declared.cell.CellItem.TheVariants.{Property}
use Rattle.style_layout.specs.CodeView.{scene_seen}
use Rattle.asked_cells.specs.Asked.{is_listed, item_asked, value_asked}
use Rattle.asked_cells.specs.Counted.{kept_in}
use Rattle.asked_cells.specs.SeenCells.{cell_feature, property_at}
use Rattle.asked_cells.proofs.AskLaws.{asks_same, meant_same, none_asked}
use Rattle.asked_cells.proofs.view_cells.ViewCells.ask_value.Goals as goal

pub returns-then-is_listed-clause-asks : goal.returns-then-is_listed-clause-asks
returns-then-is_listed-clause-asks g c = λ x meaning s right meant.
    let at = c.args.at.now in
    let scene = scene_seen g.V.TextTests.tests at.scene.now in
    let feature = cell_feature c.args.feature in
    let p = property_at c.args.at.now c.args.property.now in
    let item = item_asked x scene feature (Property p.row.number) in
    let value = value_asked x scene feature p in
    let listed : is_listed feature p ≡ true = sym (c.is_listed.ensures at.layer) ∙ c.if-is_listed.true in
    let same : item ≡ value = sym (ap (λ b. if b then item else []) listed) in
    asks_same meaning item value (kept_in c.args.self.now.buckets at.number) (kept_in c.ask_item.new.self.buckets at.number)
    c.ask_item.result c.args.steps.now c.ask_item.new.steps same
    (c.ask_item.ensures.asks x meaning s right (meant_same meaning item value same meant))

pub returns-else-is_listed-clause-asks : goal.returns-else-is_listed-clause-asks
returns-else-is_listed-clause-asks g c = λ x meaning s right meant.
    let at = c.args.at.now in
    let scene = scene_seen g.V.TextTests.tests at.scene.now in
    let feature = cell_feature c.args.feature in
    let p = property_at c.args.at.now c.args.property.now in
    let kept = kept_in c.args.self.now.buckets at.number in
    let listed : is_listed feature p ≡ false = sym (c.is_listed.ensures at.layer) ∙ c.if-is_listed.false in
    let same : [] ≡ value_asked x scene feature p =
    sym (ap (λ b. if b then item_asked x scene feature (Property p.row.number) else []) listed) in
    asks_same meaning [] (value_asked x scene feature p) kept kept _ c.args.steps.now c.args.steps.now same
    (none_asked meaning kept c.args.steps.now)
