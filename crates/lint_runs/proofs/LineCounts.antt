-- Each error and each warning has a line, which has a byte at least.
use Rattle.std.specs.Prelude.{◌≡◌, ℕ, ◌+◌, ◌≤◌, List, [], ◌∷◌, ◌++◌, length, codes, count_by, flat_map, Bool, true, false, cond}
use Rattle.std.proofs.Common.{arith}
use Rattle.std.proofs.lemmas.List.{length-append}
use Rattle.std.proofs.lemmas.List.Sums.{sum_by-cons}
use Rattle.finding_sentences.specs.Words.{words}
use Rattle.lint_texts.specs.LineText.{annotation_place, annotation_severity, line_text, message_byte, plain_place, plain_severity}
use Rattle.lint_texts.specs.LintLine.{LintLine}
use Rattle.lint_texts.specs.declared.form.LintForm.{LintForm}
use Rattle.lint_texts.specs.declared.form.LintForm.TheVariants.{Plain, Annotations}

ends_in_byte : (ws : List (List ℕ)) → 1 ≤ length (words (ws ++ codes "\n" ∷ []))
ends_in_byte [] = omega arith
ends_in_byte (w ∷ ws) =
    let e = length-append w (words (ws ++ codes "\n" ∷ [])) in
    let some = ends_in_byte ws in
    omega arith

has_byte : (form : LintForm) (file : List ℕ) (l : LintLine) → 1 ≤ length (line_text form file l)
has_byte Plain file l = ends_in_byte (plain_place file l.place ∷ plain_severity l.severity ∷ codes ": " ∷ l.message ∷ [])
has_byte Annotations file l = ends_in_byte (annotation_severity l.severity ∷ annotation_place file l.place ∷ flat_map message_byte l.message ∷ [])

one_at_most : (b : Bool) → cond b 1 0 ≤ 1
one_at_most true = omega arith
one_at_most false = omega arith

pub counted_lines : (test : LintLine → Bool) (form : LintForm) (file : List ℕ) (ls : List LintLine)
    → count_by test ls ≤ length (flat_map (line_text form file) ls)
counted_lines test form file [] = omega arith
counted_lines test form file (l ∷ ls) =
    let rest = counted_lines test form file ls in
    let texts = length-append (line_text form file l) (flat_map (line_text form file) ls) in
    let counts : count_by test (l ∷ ls) ≡ cond (test l) 1 0 + count_by test ls = sum_by-cons (λ (y : LintLine). cond (test y) 1 0) l ls in
    let one = one_at_most (test l) in
    let byte = has_byte form file l in
    omega arith
