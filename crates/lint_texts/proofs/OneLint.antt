-- A file has one lint.
use Rattle.std.proofs.Common.{◌≡◌, ◌∙◌, ◌⊎◌, sym, ap, arith, inl, inr, ℕ, List}
use Rattle.json_tokens.specs.Rules.{all_rules}
use Rattle.json_tokens.specs.declared.kind.JsonKind.{JsonKind}
use Rattle.decimal_json.specs.OneFault.{EachHasOneFault}
use Rattle.decimal_json.specs.OneTree.{EachSpellsOneTree}
use Rattle.decimal_json.specs.Tree.{Tree}
use Rattle.lint_texts.specs.LintedStyle.{IsLintedBrokenText, IsLintedDocument, LintedStyle, linted_broken_text, linted_document}
use Rattle.lint_texts.specs.OneLint.{EachFileHasOneLint}
use Rattle.lint_texts.specs.declared.form.LintForm.{LintForm}

one_document : EachSpellsOneTree → (form : LintForm) (file bytes : List ℕ) (a b : LintedStyle)
    → IsLintedDocument form file bytes a → IsLintedDocument form file bytes b → a ≡ b
one_document trees form file bytes a b (t, spells, p) (u, also, q) =
    p ∙ (ap (λ (x : Tree). linted_document form file bytes x) (trees all_rules bytes t u spells also) ∙ sym q)

one_broken : EachHasOneFault → (form : LintForm) (file bytes : List ℕ) (a b : LintedStyle)
    → IsLintedBrokenText form file bytes a → IsLintedBrokenText form file bytes b → a ≡ b
one_broken faults form file bytes a b (kind, at, none, place, cause, p) (other, there, nor, spot, why, q) =
    let same = faults bytes at there kind other place spot cause why in
    p
    ∙ (ap (λ (k : JsonKind). linted_broken_text form file bytes k at) same.1
    ∙ (ap (λ (n : ℕ). linted_broken_text form file bytes other n) same.0 ∙ sym q))

one_short : EachSpellsOneTree → EachHasOneFault → (form : LintForm) (file bytes : List ℕ) (a b : LintedStyle)
    → IsLintedDocument form file bytes a ⊎ IsLintedBrokenText form file bytes a
    → IsLintedDocument form file bytes b ⊎ IsLintedBrokenText form file bytes b → a ≡ b
one_short trees faults form file bytes a b (inl p) (inl q) = one_document trees form file bytes a b p q
one_short trees faults form file bytes a b (inl (t, spells, p)) (inr (kind, at, none, place, cause, q)) = absurd (none (t, spells))
one_short trees faults form file bytes a b (inr (kind, at, none, place, cause, p)) (inl (t, spells, q)) = absurd (none (t, spells))
one_short trees faults form file bytes a b (inr p) (inr q) = one_broken faults form file bytes a b p q

pub one_lint : EachSpellsOneTree → EachHasOneFault → EachFileHasOneLint
one_lint trees faults form file bytes a b (inl (long, p)) (inl (also, q)) = p ∙ sym q
one_lint trees faults form file bytes a b (inl (long, p)) (inr (short, q)) = absurd (omega (arith, long, short))
one_lint trees faults form file bytes a b (inr (short, p)) (inl (long, q)) = absurd (omega (arith, long, short))
one_lint trees faults form file bytes a b (inr (short, p)) (inr (also, q)) = one_short trees faults form file bytes a b p q
