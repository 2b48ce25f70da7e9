use Rattle.desk_epoch_files.specs.Causes.{BlamesMember}
use Rattle.desk_epoch_files.specs.Members.{IsStartedOtherwise, StartsWith}
use Rattle.desk_epoch_files.proofs.Making.{refused_on}
use Rattle.desk_epoch_files.proofs.Members.{started_on}
use Rattle.desk_epoch_files.proofs.member_table.start_in_file.Goals as goal

pub returns-clause-starts : goal.returns-clause-starts
returns-clause-starts g c = started_on (g.D.NamedDatabases.may_open c.args.databases.now c.args.file.now)
    (StartsWith g.D.Pages.Store c.args.given c.args.places) c.in-Ok.connection c.in-Ok.ensures.opened
    c.start_in_database-started.result c.start_in_database-started.ensures.starts

pub returns-clause-other : goal.returns-clause-other
returns-clause-other g c = refused_on (g.D.NamedDatabases.may_open c.args.databases.now c.args.file.now)
    (IsStartedOtherwise g.D.Pages.Store c.args.given c.args.places) BlamesMember c.in-Ok.connection
    c.in-Ok.ensures.opened c.start_in_database-started.result c.start_in_database-started.ensures.other
