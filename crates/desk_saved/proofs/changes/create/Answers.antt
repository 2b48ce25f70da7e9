use Rattle.desk_saved.specs.declared.changes.DeskTable.TheVariants as tables
use Rattle.desk_saved.proofs.MissingTables.{made}
use Rattle.desk_saved.proofs.changes.create.Goals as goal

pub returns-in-Node-clause-made : goal.returns-in-Node-clause-made
returns-in-Node-clause-made g c clean inside =
    rw c.in-Node.is (made g.S.Store _ _ tables.Node _ c.execute.ensures.ran clean inside)

pub returns-in-Entries-clause-made : goal.returns-in-Entries-clause-made
returns-in-Entries-clause-made g c clean inside =
    rw c.in-Entries.is (made g.S.Store _ _ tables.Entries _ c.execute-in-Entries.ensures.ran clean inside)

pub returns-in-Clients-clause-made : goal.returns-in-Clients-clause-made
returns-in-Clients-clause-made g c clean inside =
    rw c.in-Clients.is (made g.S.Store _ _ tables.Clients _ c.execute-in-Clients.ensures.ran clean inside)
