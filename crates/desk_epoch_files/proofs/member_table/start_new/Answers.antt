use Rattle.std.proofs.Common.{subst}
use Rattle.desk_epoch_files.specs.Members.{ShowsMember}
use Rattle.desk_epoch_files.proofs.member_table.start_new.Goals as goal

pub returns-in-Ok-clause-stands : goal.returns-in-Ok-clause-stands
returns-in-Ok-clause-stands g c other clean =
    let made = c.in-Ok.ensures.made clean in
    (made.0, subst (λ row. ShowsMember g.S.Store made.0 c.make_member.new.connection row) c.asked-row.ensures made.1)
