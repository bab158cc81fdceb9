-- Diagnostics with their places, and their lines.
use Rattle.std.specs.Prelude.{◌≡◌, ℕ, ◌+◌, ◌≤◌, List, [], ◌∷◌, ◌++◌, Bool, cond, count_by, flat_map, length, map, Result, Ok, Err, IfOk}
use Rattle.std.proofs.Common.{refl, sym, ap, ◌∙◌, inr}
use Rattle.std.proofs.lemmas.List.Sums.{sum_by-cons}
use Rattle.json_tokens.specs.Rules.{all_rules}
use Rattle.json_tokens.specs.declared.kind.JsonKind.{JsonKind}
use Rattle.decimal_json.specs.Parses.{IsAccepted, IsKind, IsPlace}
use Rattle.decimal_json.specs.Tree.{Tree}
use Rattle.text_places.specs.TextPlace.{text_place}
use Rattle.lint_texts.specs.BrokenText.{style_limit}
use Rattle.lint_texts.specs.DiagnosticLine.{diagnostic_line, diagnostic_path, diagnostic_severity}
use Rattle.lint_texts.specs.Diagnostics.{StyleDiagnostic}
use Rattle.lint_texts.specs.LineText.{line_text}
use Rattle.lint_texts.specs.LintLine.{LintLine, is_error, is_warning}
use Rattle.lint_texts.specs.LintedStyle.{IsLinted, LintedStyle, linted_broken_text, linted_diagnostics}
use Rattle.lint_texts.specs.Views.{placed_text}
use Rattle.lint_texts.specs.declared.form.LintForm.{LintForm}
use Rattle.lint_texts.specs.declared.line.Severity.{Severity}

-- each at its own place
lines_at_places : (form : LintForm) (file text : List ℕ) (t : Tree) (ds : List StyleDiagnostic)
    → placed_text form file t (map (text_place text t) (map diagnostic_path ds)) ds ≡ flat_map (line_text form file) (map (diagnostic_line text t) ds)
lines_at_places form file text t [] = refl
lines_at_places form file text t (d ∷ ds) =
    ap (λ (z : List ℕ). line_text form file (diagnostic_line text t d) ++ z) (lines_at_places form file text t ds)

-- a line is as severe as its diagnostic
lines_counted : (test : Severity → Bool) (text : List ℕ) (t : Tree) (ds : List StyleDiagnostic)
    → count_by (λ (l : LintLine). test l.severity) (map (diagnostic_line text t) ds) ≡ count_by (λ (d : StyleDiagnostic). test (diagnostic_severity d)) ds
lines_counted test text t [] = refl
lines_counted test text t (d ∷ ds) =
    let line : LintLine → ℕ = λ l. cond (test l.severity) 1 0 in
    let diagnostic : StyleDiagnostic → ℕ = λ e. cond (test (diagnostic_severity e)) 1 0 in
    sum_by-cons line (diagnostic_line text t d) (map (diagnostic_line text t) ds)
    ∙ (ap (λ (n : ℕ). diagnostic d + n) (lines_counted test text t ds) ∙ sym (sum_by-cons diagnostic d ds))

abbrev made : List ℕ → ℕ → ℕ → LintedStyle
made text errors warnings = record { text = text; errors = errors; warnings = warnings }

pub linted_is : (form : LintForm) (file text : List ℕ) (t : Tree) (ds : List StyleDiagnostic) (out : List ℕ) (errors warnings : ℕ)
    → out ≡ placed_text form file t (map (text_place text t) (map diagnostic_path ds)) ds
    → errors ≡ count_by (λ (d : StyleDiagnostic). is_error (diagnostic_severity d)) ds
    → warnings ≡ count_by (λ (d : StyleDiagnostic). is_warning (diagnostic_severity d)) ds
    → made out errors warnings ≡ linted_diagnostics form file text t ds
linted_is form file text t ds out errors warnings written some fewer =
    let whole = linted_diagnostics form file text t ds in
    ap (λ (z : List ℕ). made z errors warnings) (written ∙ lines_at_places form file text t ds)
    ∙ (ap (λ (n : ℕ). made whole.text n warnings) (some ∙ sym (lines_counted is_error text t ds))
    ∙ ap (λ (n : ℕ). made whole.text whole.errors n) (fewer ∙ sym (lines_counted is_warning text t ds)))

-- ---- bytes that are no JSON text

if_ok_all : {A : Type 0} {E : Type 0} {P : A → Type 0} {Q : A → Type 0} (r : Result A E) → ((x : A) → P x → Q x) → IfOk r P → IfOk r Q
if_ok_all (Ok x) f h = f x h
if_ok_all (Err e) f h = h

pub broken_is : {A : Type 0} {E : Type 0} (r : Result A E) (seen : A → LintedStyle) (form : LintForm) (file bytes : List ℕ) (kind : JsonKind) (at : ℕ)
    → length bytes ≤ style_limit → IsPlace bytes at → IsKind kind bytes at → (IsAccepted all_rules bytes → ⊥)
    → IfOk r (λ linted. seen linted ≡ linted_broken_text form file bytes kind at) → IfOk r (λ linted. IsLinted form file bytes (seen linted))
broken_is r seen form file bytes kind at short place cause none h =
    if_ok_all r (λ linted same. inr (short, inr (kind, at, none, place, cause, same))) h
