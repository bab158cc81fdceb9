-- A turn of the loop over styles.
use Rattle.std.specs.Prelude.{◌≡◌, ℕ, ◌+◌, ◌<◌, List, [], ◌∷◌, length, map, Option, string_bytes, String}
use Rattle.std.specs.Global.{Global}
use Rattle.std.proofs.Common.{refl, sym, ap, subst, get_or, drop, arith}
use Rattle.std.proofs.lemmas.List.{drop_more}
use Rattle.lint_texts.specs.declared.form.LintForm.{LintForm}
use Rattle.lint_runs.specs.LintRun.{LintedStyles, lint_parts, lint_run}
use Rattle.program_runs.specs.FailedReads.{NoneFailed}
use Rattle.program_runs.specs.Progress.{ComesTo, HaltsAt, Halts}
use Rattle.program_runs.specs.Runs.{Run, IsFileless}
use Rattle.program_runs.specs.declared.halt.RunHalt.{RunHalt}
use Rattle.program_runs.proofs.Going.{leads_on, halts_on}

pub none_below : {X : Type 0} (xs : List X) (i : ℕ) → i < length xs → xs ≡ [] → ⊥
none_below xs i below is = let e = ap length is in omega arith

-- a run that reads no file has no styles
pub no_names : (form : LintForm) (names : List (String Global)) → IsFileless (lint_run form (map string_bytes names)) → names ≡ []
no_names form [] fileless = refl
no_names form (name ∷ names) fileless = absurd fileless

module _ (form : LintForm) (files mid : List ℕ → Option (List ℕ)) (same : mid ≡ files) (whole : (LintedStyles → Run) → Run) (names : List (String Global)) (i : ℕ) (x : String Global)
    (name : List ℕ) (all : LintedStyles) (below : i < length names) (is : x ≡ get_or names i x) (lent : name ≡ string_bytes x) (asked_old asked_mid : List (List ℕ)) where
  abbrev later : List (List ℕ)
  later = map string_bytes (drop (i + 1) names)

  abbrev pub AtTurn : ℕ → LintedStyles → List (List ℕ) → Type 0
  AtTurn n have asked = (k : LintedStyles → Run) → ComesTo files (whole k) (lint_parts form have (map string_bytes (drop n names)) k) asked_old asked

  turn : AtTurn i all asked_mid → (k : LintedStyles → Run) → ComesTo files (whole k) (lint_parts form all (name ∷ later) k) asked_old asked_mid
  turn come k =
      subst (λ n. ComesTo files (whole k) (lint_parts form all (n ∷ later) k) asked_old asked_mid) (sym lent)
      (subst (λ y. ComesTo files (whole k) (lint_parts form all (string_bytes y ∷ later) k) asked_old asked_mid) (sym is)
      (subst (λ ys. ComesTo files (whole k) (lint_parts form all (map string_bytes ys) k) asked_old asked_mid) (drop_more names i x below) (come k)))

  pub leads_style : AtTurn i all asked_mid → (new : LintedStyles) (asked_new : List (List ℕ))
      → ((ns : List (List ℕ)) (k : LintedStyles → Run) → ComesTo mid (lint_parts form all (name ∷ ns) k) (lint_parts form new ns k) asked_mid asked_new) → AtTurn (i + 1) new asked_new
  leads_style come new asked_new goes = λ k.
      leads_on files (whole k) (lint_parts form all (name ∷ later) k) (lint_parts form new later k) asked_old asked_mid asked_new (turn come k)
      (subst (λ f. ComesTo f (lint_parts form all (name ∷ later) k) (lint_parts form new later k) asked_mid asked_new) same (goes later k))

  pub halts_style : AtTurn i all asked_mid → (old now new : ℕ) (failed_old failed_now failed_new : Option (List ℕ)) (asked_new : List (List ℕ)) (h : RunHalt)
      → NoneFailed old now failed_old failed_now → ((ns : List (List ℕ)) → Halts mid (lint_parts form all (name ∷ ns)) now new failed_now failed_new asked_mid asked_new h)
      → Halts files whole old new failed_old failed_new asked_old asked_new h
  halts_style come old now new failed_old failed_now failed_new asked_new h before halts = λ k.
      halts_on files (whole k) (lint_parts form all (name ∷ later) k) old now new failed_old failed_now failed_new asked_old asked_mid asked_new h (turn come k) before
      (subst (λ f. HaltsAt f (lint_parts form all (name ∷ later) k) now new failed_now failed_new asked_mid asked_new h) same (halts later k))
