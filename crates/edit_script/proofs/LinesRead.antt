-- What is read of the tree that a line spells is the answer to the line.
use Rattle.std.proofs.Common.{inl, inr, subst}
use Rattle.std.specs.Prelude.{◌≡◌, ℕ, List, Result, Ok, Err, IfOk, refl}
use Rattle.decimal_json.specs.Parsed.{Parses}
use Rattle.decimal_json.specs.View.{tree_of}
use Rattle.decimal_json.specs.declared.fault.JsonFault.{JsonFault}
use Rattle.decimal_json.specs.declared.tree.Json.{Json}
use Rattle.edit_script.specs.declared.command.Command.{Command}
use Rattle.edit_script.specs.declared.command.LineFault.{LineFault}
use Rattle.edit_script.specs.declared.command.LineFault.TheVariants.{Json as NoJson}
use Rattle.edit_script.specs.Command.{command_of}
use Rattle.edit_script.specs.Line.{AnswersLine}
use Rattle.edit_script.specs.View.{read_seen}

pub spelled : {E : Type 0} (line : List ℕ) (json : Json) (parsed : Result Json JsonFault) (r : Result (Result Command LineFault) E) → parsed ≡ Ok json → Parses line parsed → IfOk r (λ read. read_seen read ≡ command_of (tree_of json)) → IfOk r (λ read. AnswersLine line (read_seen read))
spelled line json parsed (Ok read) e p q = inl (tree_of json, (subst (Parses line) e p).0, q)
spelled line json parsed (Err none) e p q = tt

pub unspelled : (line : List ℕ) (fault : JsonFault) (parsed : Result Json JsonFault) → parsed ≡ Err fault → Parses line parsed → AnswersLine line (Err NoJson)
unspelled line fault parsed e p = inr ((subst (Parses line) e p).2, refl)
