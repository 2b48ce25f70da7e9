use Rattle.std.proofs.Common.{◌≡◌, ◌≤◌, ◌+◌, ◌++◌, length, take, drop, slice_range, arith, rules, sym, ap, subst, ◌∙◌}
use Rattle.std.proofs.lemmas.List.{take_at}
use Rattle.std.specs.Io.KnownBytes.{Consumes}
use Rattle.desk_records.specs.Streams.{opened_bytes}
use Rattle.desk_records.proofs.Opening.{part_given}
use Rattle.desk_records.proofs.opened.Opened.give.Goals as goal

pub returns-clause-bytes : goal.returns-clause-bytes
returns-clause-bytes g c =
    let self = c.args.self.now in
    let block = self.key.block.value in
    let held = take self.held self.room.items in
    let left = g.R.Read.remaining self.inner in
    let k = c.min-count.result in
    let within : self.from + k ≤ self.until = search rules in
    let copied : c.copy_from_slice.new.self ≡ slice_range self.room.items self.from (self.from + k) =
    c.copy_from_slice.ensures.after ∙ ap (λ l. slice_range l self.from (self.from + k)) c.as_slice.ensures.value in
    let long : length c.copy_from_slice.new.self ≡ k = search rules in
    let shown : take k (c.copy_from_slice.new.self ++ drop k c.args.buf.now)
    ≡ slice_range self.room.items self.from (self.from + k) =
    take_at c.copy_from_slice.new.self (drop k c.args.buf.now) k long ∙ copied in
    subst (Consumes (opened_bytes block self.count (slice_range self.room.items self.from self.until) held left)
    (opened_bytes block self.count (slice_range self.room.items (self.from + k) self.until) held left)) (sym shown)
    (part_given block self.count self.room.items self.from self.until k held left within)
