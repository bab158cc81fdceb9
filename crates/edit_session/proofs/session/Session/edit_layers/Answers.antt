use Rattle.std.proofs.Common.{refl, sym, ◌∙◌}
use Rattle.decimal_json.specs.View.{tree_of}
use Rattle.edit_script.specs.View.{command_seen}
use Rattle.style_edits.specs.Edited.{edited}
use Rattle.style_rules.specs.Findings.{findings}
use Rattle.edit_session.specs.View.{tiles_of}
use Rattle.edit_session.specs.PlainView.{plain_state}
use Rattle.edit_session.proofs.AppliedLaws.{accepted_is_sound, found_nothing, layers_refused, whole_by_finding}
use Rattle.edit_session.proofs.session.Session.edit_layers.Goals as goal

pub finding_refusal-requires-clause-sound : goal.finding_refusal-requires-clause-sound
finding_refusal-requires-clause-sound c =
    let s = c.args.self.now in accepted_is_sound s.layers.limit (tiles_of s) s.globals (tree_of s.document) c.requires.ready.0.is_accepted

pub edit_sound-requires-clause-sound : goal.edit_sound-requires-clause-sound
edit_sound-requires-clause-sound c =
    found_nothing (findings (edited (tree_of c.args.self.now.document) (command_seen c.args.command.now))) (sym c.in-None.is ∙ c.in_ok-refusal.ensures.finding)

pub returns-in-Some-clause-answer : goal.returns-in-Some-clause-answer
returns-in-Some-clause-answer c = λ has_image scripts can_change.
    let s = c.args.self.now in
    let made = edited (tree_of s.document) (command_seen c.args.command.now) in
    layers_refused (tiles_of s) scripts can_change (plain_state s has_image) (command_seen c.args.command.now)
    c.requires.layers c.requires.possible made refl c.in-Some.refusal (tree_of s.document)
    (whole_by_finding s.layers.limit (tiles_of s) s.globals made c.in-Some.refusal (sym c.in-Some.is ∙ c.in_ok-refusal.ensures.finding)) refl
