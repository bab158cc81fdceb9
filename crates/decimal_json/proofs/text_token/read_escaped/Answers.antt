use Rattle.std.proofs.Common.{ℕ, string_bytes, sym, ◌∙◌, ap}
use Rattle.std.specs.Prelude.{Some, Option}
use Rattle.std.specs.Global.{Global}
use Rattle.decimal_json.proofs.Whole.{reads_nothing, reads_more, gives_end, gives_close, gives_stop}
use Rattle.decimal_json.proofs.text_token.read_escaped.Goals as goal

pub loop-byte-init : goal.loop-byte-init
loop-byte-init c = reads_nothing c.args.cursor.now c.new-text.result.items c.new-text.ensures.items

pub returns-in_default-clause-gives : goal.returns-in_default-clause-gives
returns-in_default-clause-gives c = gives_end (string_bytes {Z = Global}) c.args.cursor.now c.loop-byte.cursor c.loop-byte.text.items c.loop-byte.due c.loop-byte.invariant (sym c.in_default.ensures)

pub returns-then-byte-eq34-clause-gives : goal.returns-then-byte-eq34-clause-gives
returns-then-byte-eq34-clause-gives c =
    gives_close (string_bytes {Z = Global}) c.args.cursor.now c.loop-byte.cursor c.loop-byte.text.items c.loop-byte.due c.loop-byte.invariant (sym c.in-Some.ensures ∙ ap Some c.if-byte-eq34.true) c.close.result c.close.new.cursor c.close.ensures.closes

pub loop-byte-preserved : goal.loop-byte-preserved
loop-byte-preserved c =
    reads_more c.args.cursor.now c.loop-byte.cursor c.loop-byte.text.items c.loop-byte.due c.loop-byte.invariant c.read_piece.new.cursor c.read_piece.new.text.items c.in-Ok.next_due c.in-Ok.ensures.gives

pub returns-in-Err-clause-gives : goal.returns-in-Err-clause-gives
returns-in-Err-clause-gives c =
    gives_stop (string_bytes {Z = Global}) (λ (d : Option ℕ). d) c.args.cursor.now c.loop-byte.cursor c.loop-byte.text.items c.loop-byte.due c.loop-byte.invariant c.in-Err.halt c.read_piece.new.cursor c.read_piece.new.text.items c.in-Err.ensures.gives
