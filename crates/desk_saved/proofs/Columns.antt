-- What the columns of the entries and of the clients stand for, wherever their tables stand.
use Rattle.std.proofs.Common.{◌≡◌, ℕ, List, codes, Some, None, refl, Bool}
use Rattle.std.specs.Prelude.{slice_get}
use Rattle.sqlite_value.specs.declared.keys.Collation.TheVariants.{Binary}
use Rattle.sqlite_schema.specs.declared.schema.Schema.{Schema}
use Rattle.sqlite_resolve.specs.declared.scope.Output.{Output}
use Rattle.desk_naming.specs.Tables.{entry_table, client_table}
use Rattle.sqlite_tied.specs.Compute.{everything}
use Rattle.desk_naming.proofs.NodeColumns.{over_one, Reads}

module _ (schema : Schema) (t at : ℕ) (found : slice_get schema.tables at ≡ Some (entry_table t)) (sh : List Output)
    (agg al : Bool) where
  pub place_is : Reads (over_one schema at (codes "entry") sh agg al) (codes "place") 0 None
  unfolding everything
  place_is s = rw found (rw found refl)

  pub client_is : Reads (over_one schema at (codes "entry") sh agg al) (codes "client") 2 (Some Binary)
  unfolding everything
  client_is s = rw found (rw found refl)

  pub number_is : Reads (over_one schema at (codes "entry") sh agg al) (codes "number") 3 (Some Binary)
  unfolding everything
  number_is s = rw found (rw found refl)

  pub body_is : Reads (over_one schema at (codes "entry") sh agg al) (codes "body") 4 (Some Binary)
  unfolding everything
  body_is s = rw found (rw found refl)

module _ (schema : Schema) (t at : ℕ) (found : slice_get schema.tables at ≡ Some (client_table t)) (sh : List Output)
    (agg al : Bool) where
  pub key_is : Reads (over_one schema at (codes "client") sh agg al) (codes "client") 0 None
  unfolding everything
  key_is s = rw found (rw found refl)

  pub latest_number_is : Reads (over_one schema at (codes "client") sh agg al) (codes "number") 2 (Some Binary)
  unfolding everything
  latest_number_is s = rw found (rw found refl)

  pub latest_place_is : Reads (over_one schema at (codes "client") sh agg al) (codes "place") 3 (Some Binary)
  unfolding everything
  latest_place_is s = rw found (rw found refl)
