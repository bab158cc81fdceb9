-- The row of the name of a slot decides whether a text is a name.
use Rattle.std.proofs.Common.{◌≡◌, ◌∙◌, sym, ap, subst, false}
use Rattle.std.specs.Str.{bytes_eq}
use Rattle.std.proofs.lemmas.Slice.Eq.{bytes_eq-Decides}
use Rattle.expr_syntax.specs.declared.names.Name.{Name}
use Rattle.expr_syntax.specs.Rows.{OperatorRow}
use Rattle.expr_syntax.specs.Names.{row}
use Rattle.expr_syntax.specs.Slots.{slot_of, name_in}
use Rattle.expr_syntax.proofs.NameLaws.{name_found, name_lost}
use Rattle.expr_syntax.proofs.names.operator_named.Goals as goal

pub returns-then-eq : goal.returns-then-eq
returns-then-eq c =
    let text = c.args.text.now in
    let same = (bytes_eq-Decides c.row.result.now.text.now text).0 (sym c.if-eq.ensures) in
    sym (name_found c.name_in-name.result text (ap (λ (r : OperatorRow). r.text) (sym c.row.ensures) ∙ same))

pub returns-else-eq : goal.returns-else-eq
returns-else-eq c =
    let text = c.args.text.now in
    let of_slot = c.name_in-name.ensures ∙ ap name_in (c.slot.ensures.slot ∙ ap slot_of c.as_bytes.ensures.value) in
    let other = subst (λ (r : OperatorRow). bytes_eq r.text text ≡ false) c.row.ensures (sym c.if-eq.ensures) in
    sym (name_lost text (subst (λ (n : Name). bytes_eq (row n).text text ≡ false) of_slot other))
