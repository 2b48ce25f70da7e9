-- The rule of a history, and what its step tells.
use Rattle.std.specs.Prelude.{ℕ, ◌≡◌, ◌==◌, true, List, [], ◌∷◌, ◌++◌, length, take, ◌-◌, MatchBool}
use Rattle.desk_types.specs.declared.command.Entry.{Entry}
use Rattle.logbook.specs.Pages.{Cell, Step, View, Book, Named}

-- The first word is the length of the history. A book has two words, of which the second stays 0.
abbrev pub HoldsLength : List Cell → List Entry → Type 0
HoldsLength cells log = cells ≡ (length log, true) ∷ (0, true) ∷ []

-- the word of a book that holds the length
abbrev pub length_word : Book → Named
length_word b = record { tracked = true; key = 0; book = b }

-- The entry was added to all that had been seen; or the history was longer, and was seen.
abbrev pub Adds : Step Entry → View Entry ℕ → ℕ → View Entry ℕ → Type 0
Adds s v found w = MatchBool (found == s.old) (w.0 ≡ v.0 ++ s.ask ∷ []) (length w.0 ≡ found)

-- The list ends with this entry.
abbrev pub EndsWith : List Entry → Entry → Type 0
EndsWith list entry = list ≡ take (length list - 1) list ++ entry ∷ []
