use Rattle.std.proofs.Common.{sym, ap, subst, ◌∙◌, true, false, ◌≡◌, ◌||◌, List}
use Rattle.desk_types.specs.Packet.{IsInRange}
use Rattle.std.specs.List.{list_any}
use Rattle.desk_types.specs.declared.command.Entry.{Entry}
use Rattle.desk_codec.specs.Version.{version_by, is_new_entry}
use Rattle.desk_codec.specs.Starts.{tells_new_place}
use Rattle.desk_codec.proofs.Packets.{other_version, out_of_range, packet_is}
use Rattle.desk_codec.proofs.packet.packet_of.Goals as goal

pub returns-then-start-version_by : goal.returns-then-start-version_by
returns-then-start-version_by c =
    let needed = c.needs_two.ensures ∙ ap (λ (es : List Entry). tells_new_place c.args.start || list_any is_new_entry
    es) c.as_slice.ensures.value in
    other_version c.args.start c.args.entries.items
    (λ e. c.if-start-version_by.true (e ∙ ap version_by (sym needed) ∙ sym c.version_by.ensures))

pub returns-then-is_in_range : goal.returns-then-is_in_range
returns-then-is_in_range c =
    let needed = c.needs_two.ensures ∙ ap (λ (es : List Entry). tells_new_place c.args.start || list_any is_new_entry
    es) c.as_slice.ensures.value in
    rw (c.new.ensures, c.message_of-message.ensures)
    (packet_is c.args.start c.args.entries.items c.requires.made c.requires.fit c.requires.count
    (c.if-start-version_by.false ∙ c.version_by.ensures ∙ ap version_by needed)
    (subst IsInRange c.message_of-message.ensures (c.is_in_range.ensures.0 c.if-is_in_range.true)))

pub returns-else-is_in_range : goal.returns-else-is_in_range
returns-else-is_in_range c = out_of_range c.args.start c.args.entries.items
    (λ range. let e : true ≡ false =
    sym (c.is_in_range.ensures.1 (subst IsInRange (sym c.message_of-message.ensures) range)) ∙ c.if-is_in_range.false in
    absurd cc)
