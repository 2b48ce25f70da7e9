use Rattle.std.proofs.Common.{◌≡◌, false}
use Rattle.desk_saved.proofs.DeskTables.{desk_of, desk_tables, unnamed_of}
use Rattle.desk_saved.proofs.schema.is_desk_schema.Goals as goal

pub returns-then-has_tables : goal.returns-then-has_tables
returns-then-has_tables c = (
  λ unnamed. desk_of c.args.schema.now (c.has_tables.ensures.0 c.if-has_tables.true)
      (c.names_none.ensures.0 unnamed),
  λ desk. c.names_none.ensures.1 (unnamed_of c.args.schema.now desk),
)

pub returns-else-has_tables : goal.returns-else-has_tables
returns-else-has_tables c = (
  λ are. absurd (let are_not : c.has_tables.result ≡ false = c.if-has_tables.false in cc),
  λ desk. c.has_tables.ensures.1 (desk_tables c.args.schema.now desk),
)
