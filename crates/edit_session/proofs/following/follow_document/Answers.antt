use Rattle.std.proofs.lemmas.Result.{on_ok_weaker}
use Rattle.edit_script.specs.View.{command_seen}
use Rattle.style_edits.specs.Layers.{layer_list}
use Rattle.edit_session.proofs.FollowingLaws.{after_document, is_edit_of, tells_nothing}
use Rattle.edit_session.proofs.following.follow_document.Goals as goal

pub follow-requires-clause-numbered : goal.follow-requires-clause-numbered
follow-requires-clause-numbered c = c.requires.accepted.2.right.numbered

pub follow-requires-clause-edited : goal.follow-requires-clause-edited
follow-requires-clause-edited c =
    let (scripts, p, a) = c.requires.accepted in (
      layer_list p.document,
      is_edit_of c.args.style.now scripts p c.args.before.now c.args.kept.now c.args.kept.now (command_seen c.args.command.now) c.requires.document a,
    )

pub returns-clause-followed : goal.returns-clause-followed
returns-clause-followed c = λ scripts p a.
    let e = command_seen c.args.command.now in
    let b = c.args.before.now in
    on_ok_weaker c.follow.result
    (after_document c.args.style.now scripts p b c.args.kept.now c.follow.new.kept e c.requires.document a)
    (c.follow.ensures.followed (layer_list p.document) (is_edit_of c.args.style.now scripts p b c.args.kept.now c.args.kept.now e c.requires.document a))

pub returns-clause-images : goal.returns-clause-images
returns-clause-images c = tells_nothing (command_seen c.args.command.now) c.requires.document
