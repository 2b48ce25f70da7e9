use Rattle.desk_file.proofs.faults.store_fault_status.Goals as goal

pub returns-in-Referring-clause-referring : goal.returns-in-Referring-clause-referring
returns-in-Referring-clause-referring g c =
    let p = c.refusal_status_with.ensures.printed in
    rw c.in-Referring.is (rw (← c.as_str.ensures.value) (c.shown.result.now, p.0, p.1, p.2, p.3))
