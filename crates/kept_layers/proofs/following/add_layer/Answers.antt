use Rattle.std.proofs.Common.{◌≡◌, ◌-◌, length, ap, subst, ◌∙◌, arith}
use Rattle.std.specs.Prelude.{unwrap_or}
use Rattle.std.proofs.lemmas.List.{length-map}
use Rattle.std.proofs.lemmas.Result.{on_ok_weaker}
use Rattle.decimal_json.specs.View.{tree_of}
use Rattle.form_pool.specs.PoolSlots.{pool_slots}
use Rattle.kept_layers.specs.View.{kept_seen}
use Rattle.kept_layers.specs.Following.{AddsAt}
use Rattle.kept_layers.proofs.following.add_layer.Goals as goal

pub returns : goal.returns
returns c =
    let last : length c.args.style.now.layers.now - 1 ≡ length (kept_seen c.args.kept.now) =
    omega (arith, c.requires.counted, length-map c.args.style.now.layers.now tree_of) in
    let e : c.unwrap_or-place.result ≡ unwrap_or c.args.before (length (kept_seen c.args.kept.now)) =
    c.unwrap_or-place.ensures ∙ ap (unwrap_or c.args.before) last in
    on_ok_weaker c.add.result
    (λ done. subst (λ p. AddsAt pool_slots c.args.style.now p c.args.kept.now c.add.new.self) e
    (c.one-one.result, record { layer = c.one-one.ensures.layer; globals = c.one-one.ensures.globals; tiles = c.one-one.ensures.tiles }, done))
    c.add.ensures
