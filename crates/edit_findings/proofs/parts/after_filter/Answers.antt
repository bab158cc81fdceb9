use Rattle.std.proofs.Common.{◌≡◌, ◌∙◌, ℕ, [], ap, sym, Bool, false, Option, Some}
use Rattle.std.proofs.lemmas.Result.{IfOk-weaker}
use Rattle.std.specs.Prelude.{codes, if◌then◌else◌}
use Rattle.decimal_json.specs.Tree.{Tree}
use Rattle.decimal_json.specs.View.{tree_of}
use Rattle.style_edits.specs.Layer.{is_null}
use Rattle.style_rules.specs.Findings.{findings_in, reports_or}
use Rattle.style_rules.specs.Values.{filter_mark}
use Rattle.edit_findings.specs.FoundAfter.{filter_found, member_path}
use Rattle.edit_findings.proofs.parts.after_filter.Goals as goal

-- a filter that is put
put : (o : Option ℕ) (i : ℕ) (t : Tree) → o ≡ Some i → is_null t ≡ false →
    filter_found o t ≡ findings_in (reports_or (filter_mark t) (member_path i (codes "filter")) [])
put o i t is some =
    ap (λ layer. filter_found layer t) is
    ∙ ap (λ (b : Bool). if b then [] else findings_in (reports_or (filter_mark t) (member_path i (codes "filter")) [])) some

pub returns : goal.returns
returns c =
    IfOk-weaker c.filter_findings.result _ _
    (λ found is. is ∙ sym (put c.args.layer c.in-Some.layer (tree_of c.args.filter.now) c.in-Some.is (sym c.is_null.ensures ∙ c.if-is_null.false)))
    c.filter_findings.ensures
