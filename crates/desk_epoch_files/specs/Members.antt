-- The table of a node's first file that preserves what the node was started with.
use Rattle.std.specs.Prelude.{◌≡◌, ◌⊎◌, ℕ, List, [], ◌∷◌, Option, IfSome, unwrap_or, codes, pos}
use Rattle.sqlite_value.specs.declared.value.Value.TheVariants.{Int}
use Rattle.sqlite_value.specs.Order.{Row}
use Rattle.sqlite_trees.specs.declared.store.Store.{Ghosts}
use Rattle.sqlite_resolve.specs.declared.error.CompileError.{CompileError}
use Rattle.sqlite.specs.declared.error.Error.TheVariants.{SqlInputError}
use Rattle.sqlite.specs.State.{HasCleanDisk, Shown, FailsToQuery}
use Rattle.sqlite.specs.Held.{Held, state}
use Rattle.desk_types.specs.declared.limits.TheConstants.{LOG_ENTRIES}
use Rattle.desk_naming.specs.declared.named.NamedOwner.{NamedOwner}
use Rattle.desk_naming.specs.Named.{NamesOwner, NamesNobody}
use Rattle.desk_epoch_files.specs.declared.member_row.MemberRow.{MemberRow}

-- the row of a node that began with its group, with epochs of full logs, which stands in no table
abbrev pub default_row : MemberRow
default_row = record { token = 0; places = LOG_ENTRIES }

-- the row of a new node, for which this token is named, or none, and so many places
abbrev pub asked_row : Option ℕ → ℕ → MemberRow
asked_row given places = record { token = unwrap_or given 0; places = places }

-- so many places are those of the row, and the token that is named, where one is
abbrev pub IsAskedFor : MemberRow → Option ℕ → ℕ → Type 0
IsAskedFor row given places = (row.places ≡ places) × IfSome given (λ token. token ≡ row.token)

-- the query of the table
abbrev pub read_member : List ℕ
read_member = codes "SELECT token, places FROM member"

-- the rows of the table: one, of the token and the places
abbrev pub member_rows : MemberRow → List Row
member_rows row = (Int (pos row.token) ∷ Int (pos row.places) ∷ []) ∷ []

-- rows are those of no node
abbrev pub IsNoMember : List Row → Type 0
IsNoMember rows = (row : MemberRow) → ¬ (rows ≡ member_rows row)

module _ {S : Type 0} (g : Ghosts S) where
  -- the database answers the query by this row
  abbrev pub ShowsMember : Held S → Held S → MemberRow → Type 0
  ShowsMember old new row = Shown read_member [] (state g old) (state g new) (member_rows row)

  -- the database has a table of this name with other rows
  abbrev pub ShowsNoMember : Held S → Held S → Type 0
  ShowsNoMember old new = (rows : List Row) × Shown read_member [] (state g old) (state g new) rows × IsNoMember rows

  -- the query is none in the database, which has no such table, or one without those columns
  abbrev pub HasNoMemberTable : Held S → Held S → Type 0
  HasNoMemberTable old new =
      (e : CompileError) × FailsToQuery read_member [] (state g old) (state g new) (SqlInputError e)

  -- the database has no such table, but is a node's file
  abbrev pub IsWithoutRow : Held S → Type 0
  IsWithoutRow found = (asked : Held S) × HasNoMemberTable found asked
      × (owner : NamedOwner) × NamesOwner (state g asked).now owner

  -- the database preserves this row: it stands in its table, or it is the default one of a node's file without it
  abbrev pub Preserves : Held S → Held S → MemberRow → Type 0
  Preserves found read row = ShowsMember found read row ⊎ ((row ≡ default_row) × IsWithoutRow found)

  -- the database has no such table, and is no node's file
  abbrev pub PreservesNone : Held S → Type 0
  PreservesNone found = (asked : Held S) × HasNoMemberTable found asked × NamesNobody (state g asked).now

  -- A node that is started over a first file, with this token named, or none, and so many places, has this token: the
  -- file preserves it, with these places. Where it preserves none, the token is the one that is named, or 0. But for
  -- the default row, they stand in its table then.
  pub record StartsWith (given : Option ℕ) (places : ℕ) (found : Held S) (token : ℕ) : Type 0 where
    pub read : Held S
    pub preserved : HasCleanDisk (state g read) → Preserves found read (record { token = token; places = places })
        ⊎ (PreservesNone found × (token ≡ unwrap_or given 0))
    pub last : Held S
    pub stands : ¬ (record { token = token; places = places } ≡ default_row) → HasCleanDisk (state g last)
        → (before : Held S) × ShowsMember before last (record { token = token; places = places })

  -- a first file is that of a node which was started otherwise, or its table has other rows
  abbrev pub IsStartedOtherwise : Option ℕ → ℕ → Held S → Type 0
  IsStartedOtherwise given places found = (read : Held S) × (HasCleanDisk (state g read) → ShowsNoMember found read
      ⊎ ((row : MemberRow) × Preserves found read row × ¬ (IsAskedFor row given places)))

  -- the first file may be found as one over which a node starts so with this token
  abbrev pub MayStartWith : Option ℕ → ℕ → (List ℕ → Held S → Type 0) → List ℕ → ℕ → Type 0
  MayStartWith given places may_open file token =
      (found : Held S) × may_open file found × StartsWith given places found token

  -- the first file may be found as that of a node which was started otherwise
  abbrev pub MayBeStartedOtherwise : Option ℕ → ℕ → (List ℕ → Held S → Type 0) → List ℕ → Type 0
  MayBeStartedOtherwise given places may_open file =
      (found : Held S) × may_open file found × IsStartedOtherwise given places found
