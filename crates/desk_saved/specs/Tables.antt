-- The texts that make and change the three tables, and the rows as their trees hold them.
use Rattle.std.specs.Prelude.{ℕ, List, [], ◌∷◌, ◌++◌, codes, pos}
use Rattle.sqlite_value.specs.declared.value.Value.TheVariants.{Null, Int, Blob, Text as Words}
use Rattle.sqlite_value.specs.Order.{Row}

-- the text that makes the table of the node
abbrev pub make_node : List ℕ
make_node =
    codes "CREATE TABLE node (slot INTEGER PRIMARY KEY CHECK (slot = 1),\n"
    ++ (codes "  version INTEGER NOT NULL, id INTEGER NOT NULL, n INTEGER NOT NULL,\n"
    ++ (codes "  domain TEXT NOT NULL, view_no INTEGER NOT NULL,\n"
    ++ codes "  normal_no INTEGER NOT NULL, commit_no INTEGER NOT NULL)"))

-- the text that makes the table of the entries
abbrev pub make_entry : List ℕ
make_entry =
    codes "CREATE TABLE entry (place INTEGER PRIMARY KEY, client INTEGER NOT NULL,\n"
    ++ codes "  number INTEGER NOT NULL, body BLOB NOT NULL)"

-- the text that makes the table of the clients
abbrev pub make_client : List ℕ
make_client = codes "CREATE TABLE client (client INTEGER PRIMARY KEY, number INTEGER NOT NULL, place INTEGER NOT NULL)"

-- the text that takes out the row of a client
abbrev pub cut_client : List ℕ
cut_client = codes "DELETE FROM client WHERE client = ?1"

-- the text that puts the row of a client
abbrev pub add_client : List ℕ
add_client = codes "INSERT INTO client VALUES (?1, ?2, ?3)"

-- the text that takes out the entries past a place
abbrev pub cut_entries : List ℕ
cut_entries = codes "DELETE FROM entry WHERE place > ?1"

-- the text that puts an entry
abbrev pub add_entry : List ℕ
add_entry = codes "INSERT INTO entry VALUES (?1, ?2, ?3, ?4)"

-- the text that sets the numbers of the node
abbrev pub set_node : List ℕ
set_node = codes "UPDATE node SET view_no = ?1, normal_no = ?2, commit_no = ?3"

-- the text that sets the version of a file
abbrev pub set_version : List ℕ
set_version = codes "UPDATE node SET version = 2"

-- the text that puts the row of a node that has done nothing
abbrev pub first_node : List ℕ
first_node = codes "INSERT INTO node VALUES (1, 2, ?1, ?2, ?3, 0, 0, 0)"

-- a row of `entry` as the tree holds it: the rowid, the column of the key, which is stored as NULL, and the others
abbrev pub stored : ℕ → ℕ → ℕ → List ℕ → Row
stored place client number body = Int (pos place) ∷ Null ∷ Int (pos client) ∷ Int (pos number) ∷ Blob body ∷ []

-- a row of `client` as the tree holds it
abbrev pub stored_client : ℕ → ℕ → ℕ → Row
stored_client client number place = Int (pos client) ∷ Null ∷ Int (pos number) ∷ Int (pos place) ∷ []

-- the one row of `node` as its tree holds it
abbrev pub node_row : ℕ → ℕ → ℕ → List ℕ → ℕ → ℕ → ℕ → Row
node_row version id n domain view normal commit =
    Int (pos 1) ∷ Null ∷ Int (pos version) ∷ Int (pos id) ∷ Int (pos n) ∷ Words domain ∷ Int (pos view)
    ∷ Int (pos normal) ∷ Int (pos commit) ∷ []
