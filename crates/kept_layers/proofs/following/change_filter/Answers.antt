use Rattle.std.proofs.Common.{sym, subst, Some}
use Rattle.std.proofs.lemmas.Result.{on_ok_weaker}
use Rattle.layer_buckets.specs.declared.cell.CellItem.TheVariants.{Filter}
use Rattle.form_pool.specs.PoolSlots.{pool_slots}
use Rattle.kept_layers.specs.Following.{ChangesAt}
use Rattle.kept_layers.proofs.following.change_filter.Goals as goal

pub returns-in-Some : goal.returns-in-Some
returns-in-Some c =
    on_ok_weaker c.change.result
    (λ done. subst (λ o. ChangesAt pool_slots c.args.style.now o (λ t. Some Filter) c.args.kept.now c.change.new.self) (sym c.in-Some.is)
    (c.one-one.result, record { layer = c.one-one.ensures.layer; globals = c.one-one.ensures.globals; tiles = c.one-one.ensures.tiles }, done))
    c.change.ensures
