use Rattle.std.proofs.Common.{◌≡◌, codes, Some, sym, ap, ◌∙◌}
use Rattle.std.specs.Option.{option_copied}
use Rattle.desk_naming.specs.TableInSchema.{table_of}
use Rattle.desk_saved.proofs.DeskTables.{tables_stand, tables_of, node_there, entry_there, client_there}
use Rattle.desk_saved.proofs.schema.has_tables.Goals as goal

pub returns : goal.returns
returns c =
    let node : table_of c.args.schema.now (codes "node") ≡ Some c.in-Some.node.now =
    sym c.find_table.ensures ∙ ap option_copied c.in-Some.is in
    let entry : table_of c.args.schema.now (codes "entry") ≡ Some c.in-Some-find_table.entry.now =
    sym c.find_table-2.ensures ∙ ap option_copied c.in-Some-find_table.is in
    let client : table_of c.args.schema.now (codes "client") ≡ Some c.in-Some-find_table-2.client.now =
    sym c.find_table-3.ensures ∙ ap option_copied c.in-Some-find_table-2.is in (
      λ are. tables_stand c.args.schema.now c.in-Some.node.now c.in-Some-find_table.entry.now
          c.in-Some-find_table-2.client.now node entry client (c.are_tables.ensures.0 are),
      λ tables. c.are_tables.ensures.1 (tables_of c.args.schema.now c.in-Some.node.now
          c.in-Some-find_table.entry.now c.in-Some-find_table-2.client.now node entry client tables),
    )

pub returns-in_default : goal.returns-in_default
returns-in_default c = (
  λ is. absurd cc,
  λ tables. absurd (node_there c.args.schema.now tables
      (sym c.find_table.ensures ∙ ap option_copied c.in_default.is)),
)

pub returns-in_default-find_table : goal.returns-in_default-find_table
returns-in_default-find_table c = (
  λ is. absurd cc,
  λ tables. absurd (entry_there c.args.schema.now tables
      (sym c.find_table-2.ensures ∙ ap option_copied c.in_default-find_table.is)),
)

pub returns-in_default-find_table-2 : goal.returns-in_default-find_table-2
returns-in_default-find_table-2 c = (
  λ is. absurd cc,
  λ tables. absurd (client_there c.args.schema.now tables
      (sym c.find_table-3.ensures ∙ ap option_copied c.in_default-find_table-2.is)),
)
