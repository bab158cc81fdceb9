-- `eval` writes what `replay` writes of a script that asks for the listing alone. Source: own.
use Rattle.std.specs.Prelude.{◌≡◌, ℕ, List, [], ◌∷◌, ◌++◌, codes, Bool, Option, Some, ◌⊎◌}
use Rattle.program_runs.specs.Outcome.{RunOutcome}
use Rattle.program_runs.specs.Runs.{Run, HasOutcome}
use Rattle.style_program.specs.EvalRun.{eval_run}
use Rattle.style_program.specs.ReplayRun.{replay_run}
use Rattle.style_program.specs.Words.{ScriptWords}

abbrev pub list_script : List ℕ
list_script = codes "[\"list\"]"

-- a run has this outcome, and reads the files of these names
abbrev pub Comes : (List ℕ → Option (List ℕ)) → Run → List (List ℕ) → RunOutcome → Type 0
Comes files run names o = HasOutcome files run [] names o

-- names of files, and then perhaps one more
abbrev pub PerhapsMore : List ℕ → (names more : List (List ℕ)) → Type 0
PerhapsMore name names more = (more ≡ names) ⊎ (more ≡ names ++ name ∷ [])

-- Where the contents of a script are `["list"]`, each outcome of `replay` with it is one of `eval`, of the same style,
-- zoom and tiles, and each of `eval` is one of `replay`: with the same texts, the same ending, and as many steps at
-- least and at most. `replay` reads the files that `eval` reads, and then the script unless it has ended.
abbrev pub EvalIsReplayOfList : Type 0
EvalIsReplayOfList =
    (files : List ℕ → Option (List ℕ)) (w : ScriptWords) (images scripts : List ℕ → Bool) (can_change : Bool)
    (o : RunOutcome) →
    files w.script ≡ Some list_script →
    ((more : List (List ℕ)) → Comes files (replay_run w images scripts can_change) more o →
    (names : List (List ℕ)) × Comes files (eval_run w.shown images scripts) names o × PerhapsMore w.script names more)
    × ((names : List (List ℕ)) → Comes files (eval_run w.shown images scripts) names o →
    (more : List (List ℕ)) × Comes files (replay_run w images scripts can_change) more o
    × PerhapsMore w.script names more)
