-- What refuses a read, and which tables stand where more do.
use Rattle.std.proofs.Common.{◌≡◌, ◌⊎◌, ◌∙◌, inl, inr, sym}
use Rattle.sqlite_schema.specs.declared.schema.Schema.{Schema}
use Rattle.desk_types.specs.declared.refusal.Refusal.{Refusal}
use Rattle.desk_types.specs.declared.refusal.Refusal.TheVariants as refusals
use Rattle.desk_saved.specs.Opening.{IsOpeningRefusal}
use Rattle.desk_saved.specs.DeskTables.{node_table_of, log_tables, HasLogTables}
use Rattle.desk_naming.specs.Named.{HasNodeTable}
use Rattle.desk_saved.specs.SchemaRefusals.{IsDeskSchema}

-- what refuses a read tells of no other file
pub read_refusal : (r : Refusal) → (r ≡ refusals.StoreFault) ⊎ (r ≡ refusals.WantOfMemory)
    → IsOpeningRefusal r × ¬ (r ≡ refusals.WrongFile)
read_refusal r (inl fault) = (inr (inl fault), λ wrong. let it = sym fault ∙ wrong in cc)
read_refusal r (inr want) = (inl want, λ wrong. let it = sym want ∙ wrong in cc)

-- the table of the node stands where the entries' does too, and both where all three do
pub node_in_log : (schema : Schema) → HasLogTables schema → HasNodeTable schema
node_in_log schema stand = (node_table_of stand.0, stand.1)

pub log_in_desk : (schema : Schema) → IsDeskSchema schema → HasLogTables schema
log_in_desk schema stand = (log_tables stand.0, stand.1)
