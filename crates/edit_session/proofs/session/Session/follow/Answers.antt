use Rattle.std.proofs.Common.{◌∙◌, List, ap, map, sym, subst}
use Rattle.std.specs.Prelude.{OnOk}
use Rattle.edit_script.specs.View.{command_seen}
use Rattle.feature_index.specs.Indexes.{AreIndexed}
use Rattle.style_layout.specs.CodeView.{tile_seen}
use Rattle.style_layout.specs.Shown.{SourceTile}
use Rattle.edit_session.specs.Answering.{FollowsEdit, IsAccepted, IsOfAccepted}
use Rattle.edit_session.proofs.ListedLaws.{Parts}
use Rattle.edit_session.proofs.session.Session.follow.Goals as goal

pub follow_command-requires-clause-accepted : goal.follow_command-requires-clause-accepted
follow_command-requires-clause-accepted c =
    let s = c.args.self.now in
    let over = c.shown_style-style.ensures.tiles ∙ ap (map tile_seen) c.as_slice.ensures.value in
    subst (λ (x : Parts). IsOfAccepted x.0 x.1.0 x.1.1 (command_seen c.args.command.now) c.args.before.now s.kept)
    (λ k. (sym over k, (sym c.shown_style-style.ensures.globals k, sym c.shown_style-style.ensures.layers k))) c.requires.accepted

pub follow_command-requires-clause-indexed : goal.follow_command-requires-clause-indexed
follow_command-requires-clause-indexed c =
    let s = c.args.self.now in
    let over = c.shown_style-style.ensures.tiles ∙ ap (map tile_seen) c.as_slice.ensures.value in
    subst (λ (ts : List SourceTile). AreIndexed ts s.indexes) (sym over) c.requires.ready.1.1

pub returns-clause-indexed : goal.returns-clause-indexed
returns-clause-indexed c =
    let over = c.shown_style-style.ensures.tiles ∙ ap (map tile_seen) c.as_slice.ensures.value in
    subst (λ (ts : List SourceTile). AreIndexed ts c.follow_command.new.indexes) over c.follow_command.ensures.indexed

pub returns-clause-followed : goal.returns-clause-followed
returns-clause-followed c = λ scripts p a.
    let s = c.args.self.now in
    let over = c.shown_style-style.ensures.tiles ∙ ap (map tile_seen) c.as_slice.ensures.value in
    let e = command_seen c.args.command.now in
    let there = subst (λ (x : Parts). IsAccepted x.0 x.1.0 x.1.1 scripts p e c.args.before.now s.kept)
    (λ k. (sym over k, (sym c.shown_style-style.ensures.globals k, sym c.shown_style-style.ensures.layers k))) a in
    subst (λ (ts : List SourceTile). OnOk c.follow_command.result (FollowsEdit ts scripts p e c.follow_command.new.kept)) over
    (c.follow_command.ensures.followed scripts p there)
