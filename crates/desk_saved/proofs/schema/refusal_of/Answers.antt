use Rattle.std.proofs.Common.{inl, inr, refl}
use Rattle.desk_saved.proofs.DeskTables.{desk_of}
use Rattle.desk_saved.proofs.schema.refusal_of.Goals as goal

pub returns-then-has_tables : goal.returns-then-has_tables
returns-then-has_tables g c =
    let tables = rw c.schema-schema.ensures.value at (c.has_tables.ensures.0 c.if-has_tables.true) in
    inr (
      refl,
      inl (record {
        tables = tables;
        named = λ unnamed. c.requires.other (desk_of _ tables unnamed);
      }),
    )
