use Rattle.std.proofs.Common.{arith, subst, ap, ◌∙◌, None, Some, Vec, Global}
use Rattle.desk_types.specs.declared.command.Entry.{Entry}
use Rattle.desk_codec.specs.Packets.{PacketOf}
use Rattle.desk_frames.proofs.Steps.{goes_short, goes_whole, goes_over, goes_nowhere}
use Rattle.desk_frames.proofs.frame.go_on.Goals as goal

pub returns-then-left-eq0-clause-after : goal.returns-then-left-eq0-clause-after
returns-then-left-eq0-clause-after c = goes_short c.args.announced c.args.left c.args.start c.args.entries.now.items
    c.args.more c.requires (omega arith) (omega arith)

pub returns-in-Some-clause-after : goal.returns-in-Some-clause-after
returns-in-Some-clause-after c =
    goes_whole c.args.announced c.args.left c.args.start c.args.entries.now.items c.args.more
    c.requires c.in-Some.packet c.replace.new.dest.items (omega arith) (omega arith)
    (ap (λ (v : Vec Entry Global). v.items) c.replace.ensures.after ∙ c.new.ensures.items)
    (subst (λ (v : Vec Entry Global). PacketOf c.args.start v.items (Some c.in-Some.packet)) c.replace.ensures.value
    c.in-Some.ensures)

pub returns-in-None-clause-after : goal.returns-in-None-clause-after
returns-in-None-clause-after c = goes_nowhere c.args.announced c.args.left c.args.start c.args.entries.now.items
    c.args.more c.requires c.replace.new.dest.items (omega arith)
    (subst (λ (v : Vec Entry Global). PacketOf c.args.start v.items None) c.replace.ensures.value c.in-None.ensures)

pub returns-then-left-gt0-clause-after : goal.returns-then-left-gt0-clause-after
returns-then-left-gt0-clause-after c = goes_over c.args.announced c.args.left c.args.start c.args.entries.now.items
    c.args.more c.requires c.args.entries.now.items (omega arith) (omega arith)
