use Rattle.std.proofs.Common.{◌≡◌, subst}
use Rattle.sqlite.specs.Held.{state}
use Rattle.desk_naming.specs.Named.{NamesOwner}
use Rattle.desk_file.proofs.Reading.{owner_read}
use Rattle.desk_file.proofs.faults.cause_of.Goals as goal

pub returns-in-Ok-Some-clause-node : goal.returns-in-Ok-Some-clause-node
returns-in-Ok-Some-clause-node g c o printed clean =
    let same : c.in-Ok-Some.owner ≡ o = cc in
    let names = rw c.in-Ok-Some.field-0-is at (c.in-Ok-Some.ensures.found clean) in
    subst (NamesOwner (state g.S.Store c.args.connection.now).now) same names

pub returns-in-Ok-Some-clause-read : goal.returns-in-Ok-Some-clause-read
returns-in-Ok-Some-clause-read g c =
    owner_read g.S.Store c.args.connection.now c.named_owner.new.connection c.named_owner.ensures.keeps
    c.named_owner.ensures.left c.in-Ok-Some.ensures.same

pub returns-in-Ok-None-clause-read : goal.returns-in-Ok-None-clause-read
returns-in-Ok-None-clause-read g c =
    owner_read g.S.Store c.args.connection.now c.named_owner.new.connection c.named_owner.ensures.keeps
    c.named_owner.ensures.left c.in-Ok-None.ensures.same
