use Rattle.std.proofs.Common.{ap, ◌∙◌, string_bytes, length}
use Rattle.std.proofs.lemmas.Str.{IsUtf8-string_bytes}
use Rattle.std.specs.Rc.{rc_slice_items}
use Rattle.shared_text.proofs.Rests.{whole_range}
use Rattle.shared_text.proofs.text.Text.of.Goals as goal

pub invariant_of-result : goal.invariant_of-result
invariant_of-result c =
    let s = c.args.text in
    let same = c.in_ok-from_vec.ensures ∙ ap (λ v. v.items) c.into_bytes.ensures.value in
    whole_range (string_bytes s) (rc_slice_items c.in_ok-from_vec.field-0) _ (ap length c.as_str-count.ensures.value) same (IsUtf8-string_bytes s)
