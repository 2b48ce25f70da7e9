-- The three tables of a saved state, and the texts that read them.
use Rattle.std.specs.Prelude.{ℕ, List, [], ◌∷◌, true, false, codes, Some, pos}
use Rattle.sqlite_value.specs.declared.keys.Collation.TheVariants.{Binary}
use Rattle.sqlite_value.specs.declared.value.Value.TheVariants.{Null, Int}
use Rattle.sqlite_sql.specs.declared.ops.BinaryOp.TheVariants.{Compare}
use Rattle.sqlite_sql.specs.declared.ops.CompareOp.TheVariants.{Eq}
use Rattle.sqlite_sql.specs.Term.{Term, op2, col, lit}
use Rattle.sqlite_schema.specs.declared.schema.Column.{Column}
use Rattle.sqlite_schema.specs.declared.schema.Kind.{Kind}
use Rattle.sqlite_schema.specs.declared.schema.Kind.TheVariants.{Integer, Text, Any}
use Rattle.sqlite_schema.specs.declared.schema.Table.{Table}

-- a column that is never NULL
abbrev pub column_of : List ℕ → Kind → Column
column_of name kind = record {
  name = name;
  kind = kind;
  is_strict = false;
  not_null = true;
  default =
      Null;
  collation = Binary;
}

-- a table of a desk in a tree: its first column is the key, and nothing else is asked of it but the CHECKs
abbrev pub desk_table : List ℕ → List Column → List Term → ℕ → Table
desk_table name columns checks tree = record {
  name = name;
  tree = tree;
  columns = columns;
  key = Some 0;
  primary = 0 ∷ [];
  uniques = [];
  orders = [];
  checks = checks;
  references = [];
  computed = [];
  stamps = record { places = []; terms = []; formats = [] };
  is_counted = false;
}

-- the column of the key, which is stored as NULL
abbrev pub key_column : List ℕ → Column
key_column name = record (column_of name Integer) { not_null = false }

-- the table of the entries, in a tree
abbrev pub entry_table : ℕ → Table
entry_table tree = desk_table (codes "entry")
    (key_column (codes "place") ∷ column_of (codes "client") Integer ∷ column_of (codes "number") Integer
    ∷ column_of (codes "body") Any ∷ []) [] tree

-- the CHECK of the table of the node: slot = 1
abbrev pub slot_is_one : Term
slot_is_one = op2 (Compare Eq Binary) (col 1 0) (lit (Int (pos 1)))

-- the table of the node, in a tree
abbrev pub node_table : ℕ → Table
node_table tree = desk_table (codes "node")
    (key_column (codes "slot") ∷ column_of (codes "version") Integer ∷ column_of (codes "id") Integer
    ∷ column_of (codes "n") Integer ∷ column_of (codes "domain") Text ∷ column_of (codes "view_no") Integer
    ∷ column_of (codes "normal_no") Integer ∷ column_of (codes "commit_no") Integer ∷ []) (slot_is_one ∷ []) tree

-- the table of the clients, in a tree
abbrev pub client_table : ℕ → Table
client_table tree = desk_table (codes "client")
    (key_column (codes "client") ∷ column_of (codes "number") Integer ∷ column_of (codes "place") Integer ∷ []) [] tree

-- the text that reads the entries
abbrev pub read_entries : List ℕ
read_entries = codes "SELECT place, client, number, body FROM entry ORDER BY place"

-- the text that reads the row of the node
abbrev pub read_node : List ℕ
read_node = codes "SELECT slot, version, id, n, domain, view_no, normal_no, commit_no FROM node"

-- the text that reads the clients
abbrev pub read_clients : List ℕ
read_clients = codes "SELECT client, number, place FROM client ORDER BY client"
