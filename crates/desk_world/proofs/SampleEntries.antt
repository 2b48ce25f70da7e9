-- The domain and the entries of the sample runs.
use Rattle.std.specs.Prelude.{ℕ, List, None, codes, pos}
use Rattle.desk_types.specs.declared.command.Command.TheVariants.{Open}
use Rattle.desk_types.specs.declared.command.Entry.{Entry}

abbrev pub domain : List ℕ
domain = codes "desk.example"

-- a client's request of a number, which opens an incident
abbrev pub entry : ℕ → ℕ → Entry
entry client number = record {
  client = client;
  number = number;
  command =
      Open (pos 1772366400) (codes "fire") (codes "12 Elm St") None None;
}
