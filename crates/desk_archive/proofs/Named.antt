-- A database that names a node has a table of the node.
use Rattle.std.proofs.Common.{codes, IsTrue, subst, sym}
use Rattle.sqlite.specs.Effect.{Database}
use Rattle.desk_saved.specs.File.{HasNoTable, bears}
use Rattle.desk_naming.specs.Named.{NamesOwner}
use Rattle.desk_naming.specs.Tables.{node_table}
use Rattle.desk_naming.specs.TableInSchema.{StandsAt}
use Rattle.desk_naming.specs.declared.named.NamedOwner.{NamedOwner}
use Rattle.desk_saved.proofs.DeskTables.{borne}

pub named_there : (db : Database) (o : NamedOwner) → NamesOwner db o → ¬ HasNoTable db.schema
named_there db o names none =
    let place = names.table.node.at in
    let stands : StandsAt db.schema (node_table names.table.node.tree) place =
    subst (λ s. StandsAt s (node_table names.table.node.tree) place) (sym names.schema) names.table.node.stands in
    let there : IsTrue (bears db.schema (codes "node")) = borne _ 0 place db.schema.tables stands.named in
    let gone = none.0 in
    cc
