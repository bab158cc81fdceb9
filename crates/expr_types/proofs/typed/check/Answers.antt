use Rattle.std.specs.Prelude.{Ok, Err, option_map, is_some}
use Rattle.std.proofs.Common.{◌≡◌, ap, sym, ◌∙◌, []}
use Rattle.property_tables.specs.RowView.{row_seen}
use Rattle.expr_syntax.specs.TermView.{term_of}
use Rattle.expr_types.specs.Allowed.{allowed_by}
use Rattle.expr_types.specs.MisplacedReads.{all_noted}
use Rattle.expr_types.specs.Typing.{typed}
use Rattle.expr_types.specs.Visits.{visits}
use Rattle.expr_types.specs.declared.standing.Standing.TheVariants.{Reached}
use Rattle.expr_types.proofs.JudgedLaws.{fault_kept, stray_found, mapped_some}
use Rattle.expr_types.proofs.VisitLaws.{unread_found, zoom_found}
use Rattle.expr_types.proofs.typed.check.Goals as goal

pub returns-in-Err : goal.returns-in-Err
returns-in-Err c =
    fault_kept (typed (term_of c.args.expression.now) c.args.want.now [] []) c.in-Err.fault (option_map (λ r. row_seen r.now) c.args.row) (term_of c.args.expression.now, c.args.want.now) (visits (term_of c.args.expression.now) Reached [])
    (sym c.in-Err.is ∙ c.in_ok-typed.ensures)

pub returns : goal.returns
returns c =
    let noted = c.in_ok-found.ensures ∙ ap (λ s. all_noted (allowed_by (option_map (λ r. row_seen r.now) c.args.row)) (visits (term_of c.args.expression.now) Reached []) s) c.none.ensures in
    c.unless_misplaced.ensures ∙
    stray_found (typed (term_of c.args.expression.now) c.args.want.now [] []) c.in_ok-found.found.unread c.in_ok-found.found.zoom (option_map (λ r. row_seen r.now) c.args.row) c.is_some.result c.in-Ok.typed (term_of c.args.expression.now, c.args.want.now) (visits (term_of c.args.expression.now) Reached [])
    (sym c.in-Ok.is ∙ c.in_ok-typed.ensures)
    (ap (λ s. s.unread) noted ∙ unread_found (allowed_by (option_map (λ r. row_seen r.now) c.args.row)) (visits (term_of c.args.expression.now) Reached []))
    (ap (λ s. s.zoom) noted ∙ zoom_found (allowed_by (option_map (λ r. row_seen r.now) c.args.row)) (visits (term_of c.args.expression.now) Reached []))
    (c.is_some.ensures ∙ mapped_some (λ r. row_seen r.now) c.args.row)
