use Rattle.std.proofs.Common.{◌-◌, length, drop, arith, length-drop}
use Rattle.std.proofs.lemmas.List.{length-take}
use Rattle.outside_io.proofs.KnownBytes.{appends_more}
use Rattle.outside_io.proofs.host_sink.HostSinkSink.write.Goals as goal

pub loop-at-preserved : goal.loop-at-preserved
loop-at-preserved g c = let piece = c.args.piece.now in record {
  within = omega (arith, c.in-Ok.ensures.bound, length-take (length piece - c.loop-at.at) (drop c.loop-at.at piece), length-drop c.loop-at.at piece);
  faults = c.loop-at.invariant.faults;
  written = appends_more _ _ _ c.loop-at.at c.in-Ok.taken c.args.piece.now c.loop-at.invariant.written c.in-Ok.ensures.bytes;
}
