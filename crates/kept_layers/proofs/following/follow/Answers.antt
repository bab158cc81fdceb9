use Rattle.std.proofs.lemmas.Result.{on_ok_weaker}
use Rattle.edit_script.specs.View.{command_seen}
use Rattle.form_pool.specs.PoolSlots.{pool_slots}
use Rattle.kept_layers.specs.EditedKept.{edited_kept}
use Rattle.kept_layers.specs.View.{kept_seen}
use Rattle.kept_layers.proofs.TidyLaws.{followed_tidy}
use Rattle.kept_layers.proofs.following.follow.Goals as goal

pub tidy-requires-clause-numbered : goal.tidy-requires-clause-numbered
tidy-requires-clause-numbered c =
    let (before, is) = c.requires.edited in
    (c.in_ok-follow_edit.ensures.followed before is).numbered

pub tidy-requires-clause-holds : goal.tidy-requires-clause-holds
tidy-requires-clause-holds c =
    let (before, is) = c.requires.edited in
    (c.in_ok-follow_edit.ensures.followed before is).holds

pub returns-then-takes_memory-clause-followed : goal.returns-then-takes_memory-clause-followed
returns-then-takes_memory-clause-followed c = λ before is.
    on_ok_weaker c.tidy.result
    (followed_tidy pool_slots c.args.kept.now c.follow_edit.new.kept c.tidy.new.self c.args.style.now before
    (edited_kept c.args.places (command_seen c.args.command.now) before (kept_seen c.args.kept.now)) (c.in_ok-follow_edit.ensures.followed before is))
    c.tidy.ensures
