use Rattle.std.proofs.Common.{subst, arith, Result, Ok, Err, ℕ, List}
use Rattle.desk_types.specs.declared.command.Entry.{Entry}
use Rattle.desk_codec.specs.Entries.{FrontEntry}
use Rattle.desk_codec.specs.declared.fault.Lack.{Lack}
use Rattle.desk_codec.proofs.Wholes.{begins, goes, no_entry_left, no_start_found, none_over, packet_left}
use Rattle.desk_codec.proofs.packet.whole_packet.Goals as goal

pub returns-in-Err : goal.returns-in-Err
returns-in-Err c = no_start_found c.args.bytes.now _ c.in-Err.ensures

pub loop-more-init : goal.loop-more-init
loop-more-init c = rw c.new-entries.ensures.items
    (begins c.args.bytes.now c.in-Ok.found.0 c.in-Ok.found.1 c.in-Ok.ensures)

pub loop-more-preserved : goal.loop-more-preserved
loop-more-preserved c = rw c.in_ok-push-in-Ok-2.ensures.items
    (goes c.args.bytes.now c.in-Ok.found.0 c.loop-more.entries.items c.loop-more.at c.loop-more.more
    c.in-Ok-2.size c.in-Ok-2.entry c.loop-more.invariant (omega arith)
    (subst (λ (x : List ℕ). FrontEntry c.in-Ok.found.0.head.version x (Ok (c.in-Ok-2.entry, c.in-Ok-2.size)))
    c.after.ensures
    (subst (λ (r : Result (Entry × ℕ) Lack). FrontEntry c.in-Ok.found.0.head.version c.after.result.now r)
    c.in-Ok-2.is c.in_ok-entry.ensures)))

pub returns-in-Err-2 : goal.returns-in-Err-2
returns-in-Err-2 c = no_entry_left c.args.bytes.now c.in-Ok.found.0 c.loop-more.entries.items c.loop-more.at
    c.loop-more.more c.loop-more.invariant c.in-Err-2.field-0 (omega arith)
    (subst (λ (x : List ℕ). FrontEntry c.in-Ok.found.0.head.version x (Err c.in-Err-2.field-0)) c.after.ensures
    (subst (λ (r : Result (Entry × ℕ) Lack). FrontEntry c.in-Ok.found.0.head.version c.after.result.now r)
    c.in-Err-2.is
    c.in_ok-entry.ensures))

pub returns-then-at-bytes : goal.returns-then-at-bytes
returns-then-at-bytes c = none_over c.args.bytes.now c.in-Ok.found.0 c.loop-more.entries.items c.loop-more.at
    c.loop-more.more c.loop-more.invariant (omega arith) (omega arith)

pub returns : goal.returns
returns c = packet_left c.args.bytes.now c.in-Ok.found.0 c.loop-more.entries.items c.loop-more.at
    c.loop-more.more c.loop-more.invariant (omega arith) (omega arith) c.packet_of.result c.packet_of.ensures
