-- What the columns of the table of the node stand for, wherever it stands.
use Rattle.std.proofs.Common.{◌≡◌, ℕ, List, [], ◌∷◌, codes, Some, None, Option, Ok, refl, false, Bool}
use Rattle.std.specs.Prelude.{slice_get}
use Rattle.sqlite_value.specs.declared.keys.Collation.{Collation}
use Rattle.sqlite_value.specs.declared.keys.Collation.TheVariants.{Binary}
use Rattle.sqlite_sql.specs.Term.{col}
use Rattle.sqlite_schema.specs.declared.schema.Schema.{Schema}
use Rattle.sqlite_resolve.specs.declared.scope.Output.{Output}
use Rattle.sqlite_resolve.specs.declared.state.State.{State}
use Rattle.sqlite_resolve.specs.Scope.{column, Context, Name}
use Rattle.desk_naming.specs.Tables.{node_table}
use Rattle.sqlite_tied.specs.Compute.{everything}

-- in a query over the one table
abbrev pub over_one : Schema → ℕ → Name → List Output → Bool → Bool → Context
over_one schema at name shown may_aggregate may_alias = record {
  schema = schema;
  levels = record { tables = record { name = name; table = at; slot = 1; shared = [] } ∷ []; shown = shown } ∷ [];
  may_aggregate = may_aggregate;
  may_alias = may_alias;
}

abbrev pub Reads : Context → Name → ℕ → Option Collation → Type 0
Reads cx name place carried = (s : State)
    → column cx None name s ≡ Ok (col 1 place, record s { last = record { collation = carried; is_written = false } })

module _ (schema : Schema) (t at : ℕ) (found : slice_get schema.tables at ≡ Some (node_table t)) (sh : List Output)
    (agg al : Bool) where
  abbrev cx : Context
  cx = over_one schema at (codes "node") sh agg al

  pub slot_is : Reads cx (codes "slot") 0 None
  unfolding everything
  slot_is s = rw found (rw found refl)

  pub version_is : Reads cx (codes "version") 2 (Some Binary)
  unfolding everything
  version_is s = rw found (rw found refl)

  pub id_is : Reads cx (codes "id") 3 (Some Binary)
  unfolding everything
  id_is s = rw found (rw found refl)

  pub n_is : Reads cx (codes "n") 4 (Some Binary)
  unfolding everything
  n_is s = rw found (rw found refl)

  pub domain_is : Reads cx (codes "domain") 5 (Some Binary)
  unfolding everything
  domain_is s = rw found (rw found refl)

  pub view_is : Reads cx (codes "view_no") 6 (Some Binary)
  unfolding everything
  view_is s = rw found (rw found refl)

  pub normal_is : Reads cx (codes "normal_no") 7 (Some Binary)
  unfolding everything
  normal_is s = rw found (rw found refl)

  pub commit_is : Reads cx (codes "commit_no") 8 (Some Binary)
  unfolding everything
  commit_is s = rw found (rw found refl)
