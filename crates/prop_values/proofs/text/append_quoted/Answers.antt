use Rattle.std.proofs.Common.{◌++◌, sym, subst, ap, ◌∙◌}
use Rattle.std.specs.Str.{IsUtf8}
use Rattle.decimal_json.specs.JsonText.{text_json}
use Rattle.prop_values.proofs.Quoted.{quoted_utf8}
use Rattle.prop_values.proofs.text.append_quoted.Goals as goal

pub returns : goal.returns
returns c =
    let written = c.deref.ensures.value ∙ c.in_ok-write_text.ensures.ok ∙ ap (λ x. x ++ text_json c.args.text.now) c.new-quoted.ensures.items in
    absurd (c.in-Err.ensures.cases.0 (subst IsUtf8 (sym written) (quoted_utf8 c.args.text.now c.utf8.text)))
