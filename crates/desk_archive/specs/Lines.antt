-- The document lines of entries, as they are written.
use Rattle.std.specs.Prelude.{◌≡◌, ◌≤◌, ◌-◌, ◌+◌, ℕ, List, [], ◌∷◌, ◌++◌, length, take, drop, Option}
use Rattle.std.specs.Io.KnownBytes.{Appends}
use Rattle.desk_types.specs.declared.command.Entry.{Entry}
use Rattle.desk_output.specs.Prefixes.{AppendsPrefix}
use Rattle.desk_archive.specs.Document.{IsLineOf}

-- the document lines of entries, in their order
abbrev pub AreLinesOf : List Entry → List ℕ → Type 0
AreLinesOf [] lines = lines ≡ []
AreLinesOf (e ∷ more) lines =
    (line : List ℕ) × (rest : List ℕ) × IsLineOf e line × AreLinesOf more rest × (lines ≡ line ++ rest)

-- known bytes grow by the lines of these entries
abbrev pub AppendsLines : List Entry → Option (List ℕ) → Option (List ℕ) → Type 0
AppendsLines entries old new = (lines : List ℕ) × AreLinesOf entries lines × Appends old new lines

-- known bytes grow by the lines of the first of these entries, of which the last line may be cut short
abbrev pub AppendsFirstLines : List Entry → Option (List ℕ) → Option (List ℕ) → Type 0
AppendsFirstLines entries old new = (count : ℕ) × (lines : List ℕ) × (count ≤ length entries)
    × AreLinesOf (take count entries) lines × AppendsPrefix old new lines

-- the entries from a place on, where the first has the place after so many others
abbrev pub entries_from : ℕ → ℕ → List Entry → List Entry
entries_from past from entries = drop (from - (past + 1)) entries
