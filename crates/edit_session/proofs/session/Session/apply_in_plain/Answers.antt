use Rattle.std.proofs.Common.{◌∙◌, ◌+◌, ◌≤◌, ap, subst}
use Rattle.std.specs.Prelude.{OnOk}
use Rattle.edit_script.specs.View.{command_seen}
use Rattle.edit_session.specs.Applied.{least_steps, most_steps}
use Rattle.edit_session.specs.View.{lacks_memory, tiles_of}
use Rattle.edit_session.specs.PlainView.{plain_state}
use Rattle.edit_session.specs.declared.session.Session.{Session}
use Rattle.edit_session.proofs.ViewLaws.{answered_through, own_sound, own_stays, sound_through, view_sound}
use Rattle.edit_session.proofs.session.Session.apply_in_plain.Goals as goal

pub apply_plain-answer-requires : goal.apply_plain-answer-requires
apply_plain-answer-requires g c =
    let images = (goal.HostOp-dyn g c.args.images.now).test c.args.images.now.1 in
    let scripts = (goal.HostOp-dyn g c.args.scripts.now).test c.args.scripts.now.1 in
    sound_through c.args.self.now c.exchange.new.self c.args.view.now images scripts c.exchange.ensures.session c.requires.session c.requires.view

pub returns-clause-answer : goal.returns-clause-answer
returns-clause-answer g c =
    let images = goal.HostOp-dyn g c.args.images.now in
    let scripts = (goal.HostOp-dyn g c.args.scripts.now).test c.args.scripts.now.1 in
    answered_through c.apply_plain-answer.result c.args.self.now c.exchange.new.self c.apply_plain-answer.new.self c.exchange-2.new.self
    c.args.view.now c.exchange.new.view c.exchange-2.new.view (images.test c.args.images.now.1) (images.test c.apply_plain-answer.new.images) scripts
    (images.changes c.args.images.now.1) (command_seen c.args.command.now)
    c.exchange.ensures.session c.exchange.ensures.view c.exchange-2.ensures.session c.exchange-2.ensures.view c.apply_plain-answer.ensures.answer

pub returns-clause-own : goal.returns-clause-own
returns-clause-own g c =
    let images = goal.HostOp-dyn g c.args.images.now in
    let scripts = (goal.HostOp-dyn g c.args.scripts.now).test c.args.scripts.now.1 in
    own_stays c.apply_plain-answer.result c.args.self.now c.exchange.new.self c.apply_plain-answer.new.self c.exchange-2.new.self
    c.args.view.now c.exchange.new.view c.exchange-2.new.view (images.test c.args.images.now.1) (images.test c.apply_plain-answer.new.images) scripts
    (images.changes c.args.images.now.1) (command_seen c.args.command.now)
    c.exchange.ensures.session c.exchange.ensures.view c.exchange-2.ensures.session c.exchange-2.ensures.view c.apply_plain-answer.ensures.answer c.requires.command

pub returns-clause-name : goal.returns-clause-name
returns-clause-name g c =
    ap (λ v. v.name) c.exchange-2.ensures.view ∙ ap (λ v. v.name) c.exchange.ensures.view

pub returns-clause-tiles : goal.returns-clause-tiles
returns-clause-tiles g c =
    ap tiles_of c.exchange-2.ensures.session ∙ (c.apply_plain-answer.ensures.tiles ∙ ap tiles_of c.exchange.ensures.session)

pub returns-clause-sound_view : goal.returns-clause-sound_view
returns-clause-sound_view g c =
    let images = goal.HostOp-dyn g c.args.images.now in
    let scripts = (goal.HostOp-dyn g c.args.scripts.now).test c.args.scripts.now.1 in
    view_sound c.apply_plain-answer.result c.args.self.now c.exchange.new.self c.apply_plain-answer.new.self c.exchange-2.new.self
    c.args.view.now c.exchange.new.view c.exchange-2.new.view (images.test c.args.images.now.1) (images.test c.apply_plain-answer.new.images) scripts
    (images.changes c.args.images.now.1) (command_seen c.args.command.now)
    c.exchange.ensures.session c.exchange.ensures.view c.exchange-2.ensures.session c.exchange-2.ensures.view c.apply_plain-answer.ensures.sound

pub returns-clause-sound : goal.returns-clause-sound
returns-clause-sound g c =
    let images = goal.HostOp-dyn g c.args.images.now in
    let scripts = (goal.HostOp-dyn g c.args.scripts.now).test c.args.scripts.now.1 in
    let own = own_stays c.apply_plain-answer.result c.args.self.now c.exchange.new.self c.apply_plain-answer.new.self c.exchange-2.new.self
    c.args.view.now c.exchange.new.view c.exchange-2.new.view (images.test c.args.images.now.1) (images.test c.apply_plain-answer.new.images) scripts
    (images.changes c.args.images.now.1) (command_seen c.args.command.now)
    c.exchange.ensures.session c.exchange.ensures.view c.exchange-2.ensures.session c.exchange-2.ensures.view c.apply_plain-answer.ensures.answer c.requires.command in
    own_sound c.apply_plain-answer.result c.args.self.now c.exchange.new.self c.apply_plain-answer.new.self c.exchange-2.new.self
    c.args.view.now c.exchange.new.view c.exchange-2.new.view (images.test c.args.images.now.1) (images.test c.apply_plain-answer.new.images) scripts
    (images.changes c.args.images.now.1) (command_seen c.args.command.now)
    c.exchange.ensures.session c.exchange.ensures.view c.exchange-2.ensures.session c.exchange-2.ensures.view c.apply_plain-answer.ensures.sound
    own c.apply_plain-answer.ensures.tiles c.apply_plain-answer.ensures.lacks c.apply_plain-answer.ensures.memory c.requires.session

pub returns-clause-lacks : goal.returns-clause-lacks
returns-clause-lacks g c = ap lacks_memory c.exchange-2.ensures.session ∙ c.apply_plain-answer.ensures.lacks

pub returns-clause-memory : goal.returns-clause-memory
returns-clause-memory g c = λ lacks. c.apply_plain-answer.ensures.memory (ap lacks_memory c.exchange.ensures.session ∙ lacks)

pub returns-clause-least : goal.returns-clause-least
returns-clause-least g c =
    let images = goal.HostOp-dyn g c.args.images.now in
    let scripts = (goal.HostOp-dyn g c.args.scripts.now).test c.args.scripts.now.1 in
    subst (λ (s : Session). OnOk c.apply_plain-answer.result (c.args.steps.now + least_steps (tiles_of s) scripts
    (plain_state s (images.test c.args.images.now.1)) (command_seen c.args.command.now) ≤ c.apply_plain-answer.new.steps))
    c.exchange.ensures.session c.apply_plain-answer.ensures.least

pub returns-clause-most : goal.returns-clause-most
returns-clause-most g c =
    let images = goal.HostOp-dyn g c.args.images.now in
    let scripts = (goal.HostOp-dyn g c.args.scripts.now).test c.args.scripts.now.1 in
    subst (λ (s : Session). c.apply_plain-answer.new.steps ≤ c.args.steps.now + most_steps (tiles_of s) scripts
    (plain_state s (images.test c.args.images.now.1)) (command_seen c.args.command.now))
    c.exchange.ensures.session c.apply_plain-answer.ensures.most
