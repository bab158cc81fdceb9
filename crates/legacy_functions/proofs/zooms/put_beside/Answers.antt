use Rattle.std.proofs.Common.{◌∙◌, ap, sym}
use Rattle.std.specs.Prelude.{map}
use Rattle.std.proofs.lemmas.Result.{on_ok_weaker}
use Rattle.legacy_functions.specs.Form.{by_zoom}
use Rattle.legacy_functions.specs.GroupView.{zoomed_stop_seen, group_seen, onto}
use Rattle.legacy_functions.proofs.GroupLaws.{put_into}
use Rattle.legacy_functions.proofs.zooms.put_beside.Goals as goal

pub returns-then-has_zoom : goal.returns-then-has_zoom
returns-then-has_zoom c = λ later. on_ok_weaker c.put_into.result
    (λ e. ap (λ gs. onto gs (by_zoom later)) e ∙ put_into (map group_seen c.args.groups.now.items) (group_seen c.args.last) (zoomed_stop_seen c.args.stop) later (sym c.has_zoom.ensures ∙ c.if-has_zoom.true))
    c.put_into.ensures
