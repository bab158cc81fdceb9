-- Laws. The statements are to be believed; their proofs are in proofs/.
use Rattle.std.specs.Prelude.{◌≢◌, Err}
use Rattle.decimal_json.specs.Tree.{Tree}
use Rattle.edit_script.specs.declared.command.LineFault.TheVariants.{Json}
use Rattle.edit_script.specs.Command.{command_of}

-- A tree is a command or has another fault than being no JSON: the answer to a line is Json exactly where it spells no
-- tree.
abbrev pub EachTreeIsRead : Type 0
EachTreeIsRead = (t : Tree) → command_of t ≢ Err Json
