use Rattle.std.proofs.Common.{rules, ◌≡◌, subst}
use Rattle.desk_file.specs.Names.{name_in_epoch}
use Rattle.desk_epoch_files.specs.Causes.{BlamesFile}
use Rattle.desk_epoch_files.specs.Opening.{IsOthersFile, MakesNext}
use Rattle.desk_epoch_files.proofs.Making.{found_on, refused_on}
use Rattle.desk_epoch_files.proofs.next_file.make_file.Goals as goal

pub returns-clause-made : goal.returns-clause-made
returns-clause-made g c =
    let may_open = g.D.NamedDatabases.may_open c.args.databases.now in
    let found = c.in-Ok-open.connection in
    let name : c.as_str.result.now ≡ name_in_epoch c.args.file.now c.args.epoch = search rules in
    found_on (may_open (name_in_epoch c.args.file.now c.args.epoch))
    (MakesNext g.D.Pages.Store c.args.owner.now c.args.epoch c.args.has_ended) found
    (subst (λ at. may_open at found) name c.in-Ok-open.ensures.opened)
    c.make_state-connection.result.1 c.make_state-connection.ensures.made

pub returns-clause-other : goal.returns-clause-other
returns-clause-other g c =
    let may_open = g.D.NamedDatabases.may_open c.args.databases.now in
    let found = c.in-Ok-open.connection in
    let name : c.as_str.result.now ≡ name_in_epoch c.args.file.now c.args.epoch = search rules in
    refused_on (may_open (name_in_epoch c.args.file.now c.args.epoch))
    (IsOthersFile g.D.Pages.Store c.args.owner.now c.args.epoch) BlamesFile found
    (subst (λ at. may_open at found) name c.in-Ok-open.ensures.opened)
    c.make_state-connection.result.1 c.make_state-connection.ensures.other
