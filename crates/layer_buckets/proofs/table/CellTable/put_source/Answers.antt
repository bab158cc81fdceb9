use Rattle.std.proofs.Common.{◌≡◌, ◌∙◌, List, Some, true, is_some, sym, ap, subst, arith}
use Rattle.std.specs.List.{slice_get}
use Rattle.layer_buckets.specs.LaidOut.{column_of, features_in}
use Rattle.layer_buckets.specs.Sources.{HasStates}
use Rattle.layer_buckets.specs.declared.layers.LayerColumns.{LayerColumns}
use Rattle.layer_buckets.proofs.SourceLaws.{item_unkept, table_put, put_has}
use Rattle.layer_buckets.proofs.table.CellTable.put_source.Goals as goal

pub set_source-requires-clause-column : goal.set_source-requires-clause-column
set_source-requires-clause-column c =
    let t = c.drop_item.new.self in
    let l = c.args.layer in
    let i = c.args.source.now.item in
    let column : column_of t.layers.items l i ≡ Some c.args.column = ap (λ ls. column_of ls l i) c.drop_item.ensures.kept.layers ∙ c.requires.column in
    let below = c.drop_item.ensures.table.laid.below l i c.args.column column in
    omega (arith, c.drop_item.ensures.table.listed)

pub set_source-requires-clause-unkept : goal.set_source-requires-clause-unkept
set_source-requires-clause-unkept c =
    let t = c.drop_item.new.self in
    let l = c.args.layer in
    let i = c.args.source.now.item in
    item_unkept c.args.self.now t l i c.args.column (ap (λ ls. column_of ls l i) c.drop_item.ensures.kept.layers ∙ c.requires.column) c.drop_item.ensures.dropped

pub returns-clause-table : goal.returns-clause-table
returns-clause-table c =
    let t = c.drop_item.new.self in
    let l = c.args.layer in
    let i = c.args.source.now.item in
    let same = c.drop_item.ensures.kept.layers in
    let P : List LayerColumns → Type 0 = λ ls. is_some (features_in (slice_get ls l)) ≡ true in
    let Q : List LayerColumns → Type 0 = λ ls. c.args.source.now.mentions.state ≡ true → HasStates (slice_get ls l) c.args.first_state in
    table_put t c.set_source.new.self l i c.args.column c.args.first_state (Some c.args.source.now) c.drop_item.ensures.table (ap (λ ls. column_of ls l i) same ∙ c.requires.column) (subst P (sym same) c.requires.there) (subst Q (sym same) c.requires.states) c.set_source.ensures.columns c.set_source.ensures.keeping c.set_source.ensures.count c.set_source.ensures.lists

pub returns-clause-layers : goal.returns-clause-layers
returns-clause-layers c = c.drop_item.ensures.kept.layers

pub returns-clause-changed : goal.returns-clause-changed
returns-clause-changed c =
    let t = c.drop_item.new.self in
    let l = c.args.layer in
    let i = c.args.source.now.item in
    let same = c.drop_item.ensures.kept.layers in
    let P : List LayerColumns → Type 0 = λ ls. is_some (features_in (slice_get ls l)) ≡ true in
    let Q : List LayerColumns → Type 0 = λ ls. c.args.source.now.mentions.state ≡ true → HasStates (slice_get ls l) c.args.first_state in
    put_has t c.set_source.new.self l i c.args.column c.args.first_state (Some c.args.source.now) c.drop_item.ensures.table (ap (λ ls. column_of ls l i) same ∙ c.requires.column) (subst P (sym same) c.requires.there) (subst Q (sym same) c.requires.states) c.set_source.ensures.columns c.args.self.now c.drop_item.ensures.kept c.drop_item.ensures.dropped c.set_source.ensures.kept_outcome
