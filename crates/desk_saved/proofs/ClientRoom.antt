-- A database of version 1 to which the table of the clients can be added has a desk once it is made.
use Rattle.std.proofs.Common.{◌<◌, length, refl, arith}
use Rattle.std.specs.List.{AllByRecursion}
use Rattle.sqlite_schema.specs.declared.schema.Schema.{Schema}
use Rattle.sqlite_schema.specs.declared.schema.Table.{Table}
use Rattle.sqlite_keyed.proofs.ListLemmas.{all-slice_get}
use Rattle.sqlite_catalog.specs.Change.{created, next_tree}
use Rattle.desk_naming.specs.Tables.{node_table, entry_table, client_table}
use Rattle.desk_naming.specs.TableInSchema.{StandsAt}
use Rattle.desk_saved.specs.ForeignKeys.{IsOtherName, NamesNone}
use Rattle.desk_saved.specs.DeskTables.{Layout}
use Rattle.desk_saved.specs.OldFile.{GrowsTo, HasOldTables, HasRoomForClients}
use Rattle.desk_saved.proofs.DeskTables.{two_trees, node_entry}
use Rattle.desk_saved.proofs.OldTables.{old_node, old_entry}
use Rattle.desk_saved.proofs.Room.{trees_below, stands_still, stands_last, names_are_names, lacks_none, is_small}
use Rattle.desk_saved.proofs.Room.{with_one}

module _ (schema : Schema) (old : HasOldTables schema) (room : HasRoomForClients schema) where
  abbrev with_clients : Schema
  with_clients = created schema (client_table 0)

  node_stands : StandsAt with_clients (node_table old.tables.node.tree) old.tables.node.at
  node_stands = stands_still schema (node_table old.tables.node.tree) (client_table 0) old.tables.node.at
      (old_node schema old)

  entry_stands : StandsAt with_clients (entry_table old.tables.entry.tree) old.tables.entry.at
  entry_stands = stands_still schema (entry_table old.tables.entry.tree) (client_table 0) old.tables.entry.at
      (old_entry schema old)

  client_stands : StandsAt with_clients (client_table (next_tree schema)) (length schema.tables)
  client_stands = stands_last schema (client_table 0) room.client.table names_are_names.2
      (is_small (next_tree schema) room.small)

  node_below : old.tables.node.tree < next_tree schema
  node_below = all-slice_get (λ (t : Table). t.tree < next_tree schema) schema.tables old.tables.node.at
      (node_table old.tables.node.tree) (old_node schema old).found (trees_below schema)

  entry_below : old.tables.entry.tree < next_tree schema
  entry_below = all-slice_get (λ (t : Table). t.tree < next_tree schema) schema.tables old.tables.entry.at
      (entry_table old.tables.entry.tree) (old_entry schema old).found (trees_below schema)

  unnamed : NamesNone with_clients
  unnamed = with_one (λ (child : Table). AllByRecursion IsOtherName child.references) schema.tables _ room.unnamed tt

  pub grown_desk : Layout
  grown_desk = record {
    schema = with_clients;
    node = record { tree = old.tables.node.tree; at = old.tables.node.at; stands = node_stands };
    entry = record { tree = old.tables.entry.tree; at = old.tables.entry.at; stands = entry_stands };
    client = record { tree = next_tree schema; at = length schema.tables; stands = client_stands };
    apart = (
      two_trees schema old.tables.node.at (node_table old.tables.node.tree) (entry_table old.tables.entry.tree)
          (old_node schema old).found (old_entry schema old).own node_entry,
      (λ e. absurd (omega (arith, node_below, e))),
      (λ e. absurd (omega (arith, entry_below, e))),
    );
    unnamed = unnamed;
  }

  pub grows : GrowsTo schema grown_desk
  unfolding grown_desk
  grows = record {
    client_can = record { free = room.client; alone = lacks_none schema (client_table 0) refl room.sequence };
    desk = refl;
    client_is = refl;
  }
