use Rattle.std.proofs.Common.{◌≡◌, codes, Some, sym, ap, ◌∙◌}
use Rattle.std.specs.Option.{option_copied}
use Rattle.desk_naming.specs.TableInSchema.{table_of}
use Rattle.desk_saved.proofs.OldTables.{old_stand, old_of, old_node_there, old_entry_there}
use Rattle.desk_saved.proofs.schema.has_old_tables.Goals as goal

pub returns : goal.returns
returns c =
    let node : table_of c.args.schema.now (codes "node") ≡ Some c.in-Some.node.now =
    sym c.find_table.ensures ∙ ap option_copied c.in-Some.is in
    let entry : table_of c.args.schema.now (codes "entry") ≡ Some c.in-Some-find_table.entry.now =
    sym c.find_table-2.ensures ∙ ap option_copied c.in-Some-find_table.is in (
      λ are. old_stand c.args.schema.now c.in-Some.node.now c.in-Some-find_table.entry.now node entry
          (c.are_old_tables.ensures.0 are),
      λ old. c.are_old_tables.ensures.1 (old_of c.args.schema.now c.in-Some.node.now
          c.in-Some-find_table.entry.now node entry old),
    )

pub returns-in_default : goal.returns-in_default
returns-in_default c = (
  λ is. absurd cc,
  λ old. absurd (old_node_there c.args.schema.now old (sym c.find_table.ensures ∙ ap option_copied c.in_default.is)),
)

pub returns-in_default-find_table : goal.returns-in_default-find_table
returns-in_default-find_table c = (
  λ is. absurd cc,
  λ old. absurd (old_entry_there c.args.schema.now old
      (sym c.find_table-2.ensures ∙ ap option_copied c.in_default-find_table.is)),
)
