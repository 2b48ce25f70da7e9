-- What foreign keys say of the three tables.
use Rattle.std.specs.Prelude.{◌≡◌, ◌||◌, ℕ, List, Bool, codes, false}
use Rattle.std.specs.List.{AllByRecursion}
use Rattle.sqlite_schema.specs.declared.schema.Schema.{Schema}
use Rattle.sqlite_schema.specs.declared.schema.Reference.{Reference}
use Rattle.sqlite_schema.specs.Names.{same_name}

-- whether SQL takes a name for that of one of the three tables
abbrev pub is_desk_name : List ℕ → Bool
is_desk_name name =
    same_name (codes "node") name || same_name (codes "entry") name || same_name (codes "client") name

-- a foreign key by another name than those of the three tables
abbrev pub IsOtherName : Reference → Type 0
IsOtherName ref = is_desk_name ref.parent ≡ false

-- no foreign key of any table names one of the three
abbrev pub NamesNone : Schema → Type 0
NamesNone schema = AllByRecursion (λ t. AllByRecursion IsOtherName t.references) schema.tables
