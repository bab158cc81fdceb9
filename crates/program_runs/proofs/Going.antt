-- From part of a run to the run.
use Rattle.std.specs.Prelude.{◌≡◌, ℕ, List, Option, Result, Ok, Err, IfOk, IfErr}
use Rattle.std.proofs.Common.{sym, subst, ◌∙◌, ap, inr}
use Rattle.std.specs.Result.{IsErrAnd}
use Rattle.outside_io.specs.Counts.{raised}
use Rattle.program_runs.specs.declared.answer.RunOutput.{RunOutput}
use Rattle.program_runs.specs.declared.halt.RunHalt.{RunHalt}
use Rattle.program_runs.specs.declared.halt.RunHalt.TheVariants.{Stopped, Refused}
use Rattle.program_runs.specs.declared.halt.RunStop.TheVariants.{NoMemory, Unread}
use Rattle.program_runs.specs.FailedReads.{NoneFailed}
use Rattle.program_runs.specs.Progress.{outcome_of, ComesTo, HaltsAt, GoesOn, Halts}
use Rattle.decimal_json.specs.Tree.{Tree}
use Rattle.decimal_json.specs.declared.fault.JsonFault.{JsonFault}
use Rattle.program_runs.specs.Runs.{Run, explains, IsParsed, HasOutcome}

none_on : (old mid new : ℕ) (failed_old failed_mid failed_new : Option (List ℕ)) → NoneFailed old mid failed_old failed_mid → NoneFailed mid new failed_mid failed_new → NoneFailed old new failed_old failed_new
none_on old mid new failed_old failed_mid failed_new a b = (b.0 ∙ a.0, b.1 ∙ a.1)

module _ (files : List ℕ → Option (List ℕ)) where
  pub leads_on : (a b c : Run) (x y z : List (List ℕ)) → ComesTo files a b x y → ComesTo files b c y z → ComesTo files a c x z
  leads_on a b c x y z f g = record {
    outcomes = λ all o d. f.outcomes all o (g.outcomes all o d);
    reads = λ now r. f.reads now (g.reads now r);
    says = λ now text s. f.says now text (g.says now text s);
    counts = λ now steps s. f.counts now steps (g.counts now steps s);
  }

  pub halts_on : (run rest : Run) (old mid new : ℕ) (failed_old failed_mid failed_new : Option (List ℕ)) (asked_old asked_mid asked_new : List (List ℕ)) (h : RunHalt)
      → ComesTo files run rest asked_old asked_mid → NoneFailed old mid failed_old failed_mid
      → HaltsAt files rest mid new failed_mid failed_new asked_mid asked_new h → HaltsAt files run old new failed_old failed_new asked_old asked_new h
  halts_on run rest old mid new failed_old failed_mid failed_new asked_old asked_mid asked_new (Stopped NoMemory) leads before halts =
      (none_on old mid new failed_old failed_mid failed_new before halts.0, leads.reads asked_new halts.1)
  halts_on run rest old mid new failed_old failed_mid failed_new asked_old asked_mid asked_new (Stopped (Unread name)) leads before halts =
      record { counted = halts.counted ∙ ap raised before.0; noted = halts.noted; reached = leads.reads asked_new halts.reached; last = halts.last }
  halts_on run rest old mid new failed_old failed_mid failed_new asked_old asked_mid asked_new (Refused answer) leads before halts =
      (none_on old mid new failed_old failed_mid failed_new before halts.0, leads.outcomes asked_new (outcome_of answer) halts.1)

  -- bytes that were parsed
  pub goes_explained : (bytes : List ℕ) (parsed : Result Tree JsonFault) (asked : List (List ℕ)) → IsParsed bytes parsed
      → GoesOn files (explains bytes) asked asked parsed
  goes_explained bytes parsed asked is = λ k. record {
    outcomes = λ all o d. (parsed, is, d);
    reads = λ now r. inr (parsed, is, r);
    says = λ now text s. (parsed, is, s);
    counts = λ now steps s. inr (parsed, is, s);
  }

-- A part after a part. The value of the first is x, which the code borrows as y; the known contents of files
-- are the same after it.
module _ {A B : Type 0} (files : List ℕ → Option (List ℕ)) (first : (B → Run) → Run) (rest : B → (A → Run) → Run) where
  abbrev pub both : (A → Run) → Run
  both k = first (λ x. rest x k)

  pub halts_first : (old new : ℕ) (failed_old failed_new : Option (List ℕ)) (asked_old asked_new : List (List ℕ)) (h : RunHalt)
      → Halts files first old new failed_old failed_new asked_old asked_new h → Halts files both old new failed_old failed_new asked_old asked_new h
  halts_first old new failed_old failed_new asked_old asked_new h halts = λ k. halts (λ x. rest x k)

  module _ (asked_old asked_mid : List (List ℕ)) (x y : B) (goes : GoesOn files first asked_old asked_mid x) (lent : y ≡ x) (then_files : List ℕ → Option (List ℕ)) (same : then_files ≡ files) where
    leads_rest : (k : A → Run) → ComesTo files (both k) (rest y k) asked_old asked_mid
    leads_rest k = subst (λ z. ComesTo files (both k) (rest z k) asked_old asked_mid) (sym lent) (goes (λ z. rest z k))

    pub goes_both : (asked_new : List (List ℕ)) {T E : Type 0} (view : T → A) (r : Result T E)
        → IfOk r (λ t. GoesOn then_files (rest y) asked_mid asked_new (view t)) → IfOk r (λ t. GoesOn files both asked_old asked_new (view t))
    goes_both asked_new view (Ok t) goes = λ k.
        leads_on files (both k) (rest y k) (k (view t)) asked_old asked_mid asked_new (leads_rest k)
        (subst (λ f. ComesTo f (rest y k) (k (view t)) asked_mid asked_new) same (goes k))
    goes_both asked_new view (Err e) goes = tt

    pub halts_second : {T : Type 0} (old mid new : ℕ) (failed_old failed_mid failed_new : Option (List ℕ)) (asked_new : List (List ℕ)) (r : Result T RunHalt)
        → NoneFailed old mid failed_old failed_mid → IfErr r (λ h. Halts then_files (rest y) mid new failed_mid failed_new asked_mid asked_new h)
        → IfErr r (λ h. Halts files both old new failed_old failed_new asked_old asked_new h)
    halts_second old mid new failed_old failed_mid failed_new asked_new (Ok t) before halts = tt
    halts_second old mid new failed_old failed_mid failed_new asked_new (Err h) before halts = λ k.
        halts_on files (both k) (rest y k) old mid new failed_old failed_mid failed_new asked_old asked_mid asked_new h (leads_rest k) before
        (subst (λ f. HaltsAt f (rest y k) mid new failed_mid failed_new asked_mid asked_new h) same (halts k))

-- The rest of a run after a part whose value is x; the known contents of files are the same after it.
module _ {B : Type 0} (files : List ℕ → Option (List ℕ)) (part : (B → Run) → Run) (asked_old asked_mid : List (List ℕ)) (x : B)
    (goes : GoesOn files part asked_old asked_mid x) (then_files : List ℕ → Option (List ℕ)) (same : then_files ≡ files) (k : B → Run) (asked_new : List (List ℕ)) where
  pub outcome_after : {E : Type 0} (r : Result RunOutput E)
      → IfOk r (λ a. HasOutcome then_files (k x) asked_mid asked_new (outcome_of a)) → IfOk r (λ a. HasOutcome files (part k) asked_old asked_new (outcome_of a))
  outcome_after (Ok a) d = (goes k).outcomes asked_new (outcome_of a) (subst (λ f. HasOutcome f (k x) asked_mid asked_new (outcome_of a)) same d)
  outcome_after (Err e) d = tt

  pub halts_later : {T : Type 0} (old mid new : ℕ) (failed_old failed_mid failed_new : Option (List ℕ)) (r : Result T RunHalt)
      → NoneFailed old mid failed_old failed_mid → IfErr r (λ h. HaltsAt then_files (k x) mid new failed_mid failed_new asked_mid asked_new h)
      → IfErr r (λ h. HaltsAt files (part k) old new failed_old failed_new asked_old asked_new h)
  halts_later old mid new failed_old failed_mid failed_new (Ok t) before halts = tt
  halts_later old mid new failed_old failed_mid failed_new (Err h) before halts =
      halts_on files (part k) (k x) old mid new failed_old failed_mid failed_new asked_old asked_mid asked_new h (goes k) before
      (subst (λ f. HaltsAt f (k x) mid new failed_mid failed_new asked_mid asked_new h) same halts)

-- the error that a `?` hands on
pub at_residual : {T : Type 0} (P : RunHalt → Type 0) (h : RunHalt) (r : Result T RunHalt) → IsErrAnd r (λ e. e ≡ h) → P h → IfErr r P
at_residual P h (Ok x) is p = tt
at_residual P h (Err e) is p = subst P (sym is) p
