use Rattle.std.proofs.Common.{◌∙◌, ◌+◌, sym, ap, Ok}
use Rattle.decimal_json.specs.View.{path_of}
use Rattle.legacy_filters.specs.View.{part_read}
use Rattle.legacy_filters.proofs.PartLists.{part_kept, group_filter, group_read, group_refused}
use Rattle.legacy_filters.proofs.reading.+reading.Goals as goal

pub read_group-loop-i-preserved : goal.read_group-loop-i-preserved
read_group-loop-i-preserved t c =
    part_kept c.args.elements.now c.loop-i.i (c.args.count + 1) (path_of c.args.here.now) c.index-elements-i.result c.loop-i.parts.items c.push.new.self.items c.in-Ok.part _
    c.loop-i-test.true c.index-elements-i.is c.in_ok-push-in-Ok.ensures.items (ap part_read (sym c.in-Ok.is) ∙ c.in_ok-part.ensures) c.loop-i.invariant

pub read_group-returns : goal.read_group-returns
read_group-returns t c =
    ap Ok (group_filter c.args.group c.loop-i.parts)
    ∙ group_read c.args.group c.args.elements.now c.loop-i.i c.args.count (path_of c.args.here.now) c.loop-i.parts.items c.if-count-ge-MOST_OPEN.false c.loop-i-test.false c.loop-i.invariant

pub read_group-returns-in-Err : goal.read_group-returns-in-Err
read_group-returns-in-Err t c =
    group_refused c.args.group c.args.elements.now c.loop-i.i c.args.count (path_of c.args.here.now) c.index-elements-i.result c.loop-i.parts.items c.in-Err.fault
    c.if-count-ge-MOST_OPEN.false c.loop-i-test.true c.index-elements-i.is (ap part_read (sym c.in-Err.is) ∙ c.in_ok-part.ensures) c.loop-i.invariant
