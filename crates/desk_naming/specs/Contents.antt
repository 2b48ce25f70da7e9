-- What a connection shows of its database, by short names.
use Rattle.sqlite_schema.specs.declared.schema.Schema.{Schema}
use Rattle.sqlite_trees.specs.Tree.{Trees}
use Rattle.sqlite_trees.specs.declared.store.Store.{Ghosts}
use Rattle.sqlite.specs.Held.{Held, state}

-- the schema that it shows
abbrev pub schema_of : {S : Type 0} → Ghosts S → Held S → Schema
schema_of g connection = (state g connection).now.schema

-- the rows that it shows, by the numbers of their trees
abbrev pub trees_of : {S : Type 0} → Ghosts S → Held S → Trees
trees_of g connection = (state g connection).now.trees
