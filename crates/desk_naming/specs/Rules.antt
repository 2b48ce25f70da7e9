-- What a schema says of a table beside its columns.
use Rattle.std.specs.Prelude.{◌≡◌, ℕ, List, [], ◌∷◌, false, pos, Some, slice_get}
use Rattle.sqlite_value.specs.declared.keys.Collation.TheVariants as collations
use Rattle.sqlite_value.specs.declared.value.Value.TheVariants as cells
use Rattle.sqlite_sql.specs.declared.ops.BinaryOp.TheVariants.{Compare}
use Rattle.sqlite_sql.specs.declared.ops.CompareOp.TheVariants.{Eq}
use Rattle.sqlite_schema.specs.declared.code.Op.{Op}
use Rattle.sqlite_schema.specs.declared.code.Op.TheVariants as ops
use Rattle.sqlite_schema.specs.declared.schema.Table.{Table}

-- The first column is the INTEGER PRIMARY KEY, and but for CHECKs there is no rule: no UNIQUE, no foreign key, no
-- default that is computed or reads the time, and no AUTOINCREMENT.
pub record HasKeyAlone (table : Table) : Type 0 where
  pub key : table.key ≡ Some 0
  pub primary : table.primary ≡ 0 ∷ []
  pub uniques : table.uniques ≡ []
  pub orders : table.orders ≡ []
  pub references : table.references ≡ []
  pub computed : table.computed ≡ []
  pub stamps : table.stamps ≡ record { places = []; terms = []; formats = [] }
  pub is_counted : table.is_counted ≡ false

-- a node compares the first column of a row with 1
pub record ComparesSlot (nodes : List Op) (at : ℕ) : Type 0 where
  pub slot : ℕ
  pub one : ℕ
  pub equals : slice_get nodes at ≡ Some (ops.Binary (Compare Eq collations.Binary) slot one)
  pub slot_is : slice_get nodes slot ≡ Some (ops.Column 1 0)
  pub one_is : slice_get nodes one ≡ Some (ops.Literal (cells.Int (pos 1)))
