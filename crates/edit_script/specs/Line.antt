-- What reading a line answers.
use Rattle.std.specs.Prelude.{◌≡◌, ℕ, List, Result, Err, ◌⊎◌}
use Rattle.json_tokens.specs.Rules.{all_rules}
use Rattle.decimal_json.specs.Grammar.{Spells}
use Rattle.decimal_json.specs.Parses.{IsAccepted}
use Rattle.decimal_json.specs.Tree.{Tree}
use Rattle.edit_script.specs.declared.command.LineFault.{LineFault}
use Rattle.edit_script.specs.declared.command.LineFault.TheVariants.{Json}
use Rattle.edit_script.specs.Command.{command_of}
use Rattle.edit_script.specs.Edit.{Edit}

-- The answer to the bytes of a line: what the tree gives that they spell, or Json where they spell none. Source: own.
abbrev pub AnswersLine : (line : List ℕ) (read : Result Edit LineFault) → Type 0
AnswersLine line read =
    ((t : Tree) × Spells all_rules line t × (read ≡ command_of t))
    ⊎ ((IsAccepted all_rules line → ⊥) × (read ≡ Err Json))
