use Rattle.std.proofs.Common.{◌≡◌, ◌+◌, true, take, rules, ap, ◌∙◌, sym}
use Rattle.desk_records.specs.Records.{is_right}
use Rattle.desk_records.proofs.Opening.{record_opened}
use Rattle.desk_records.proofs.opened.Opened.take_record.Goals as goal

pub returns-clause-ok : goal.returns-clause-ok
returns-clause-ok g c =
    let self = c.args.self.now in
    let next : c.in-Some.next ≡ self.count + 1 = search rules in
    let right : is_right self.key.block.value self.count (take self.held self.room.items) ≡ true =
    ap (λ l. is_right self.key.block.value self.count (take self.held l)) (sym c.as_slice.ensures.value)
    ∙ c.is_right.ensures c.if-not-is_right.false in
    record_opened self.key.block.value self.count c.in-Some.next c.args.carried self.held self.room.items
    (g.R.Read.remaining self.inner) c.requires.held next right
