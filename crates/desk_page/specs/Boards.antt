-- The boards that a page's server shows.
use Rattle.std.specs.Prelude.{◌≡◌, ℕ, Bool, true, false, ◌&&◌, nat_lt, List, [], ◌∷◌, ◌++◌, codes, decimal}
use Rattle.std.specs.Prelude.{Option, Some, None, option_map, if◌then◌else◌}
use Rattle.desk_lines.specs.Lines.{lines_of}
use Rattle.desk_lines.specs.Served.{Served}
use Rattle.desk_page.specs.Reported.{place_listed}

-- the document that asks for all open incidents
abbrev pub list_document : ℕ → List ℕ
list_document session = codes "{\"do\":\"list\",\"session\":" ++ (decimal session ++ codes ",\"state\":\"open\"}")

-- the document that asks for the board's counts
abbrev pub show_document : ℕ → List ℕ
show_document session = codes "{\"do\":\"show\",\"session\":" ++ (decimal session ++ codes "}")

module _ {S : Type 0} (answers : S → List ℕ → List ℕ → S → Type 0) where
  -- A handler wrote this for the lines of a text.
  abbrev pub Writes : S → List ℕ → S → List ℕ → Type 0
  Writes old text new out = Served answers old (Some []) (lines_of text) new (Some out)

  -- some handler wrote this for the lines of a text
  abbrev pub IsWritten : List ℕ → List ℕ → Type 0
  IsWritten text out = (old new : S) × Writes old text new out

  -- a handler gave this line to a list
  abbrev pub IsListed : List ℕ → Type 0
  IsListed line = (session : ℕ) × IsWritten (list_document session) line

-- a place is above the other, where there is another
abbrev pub is_above : Option ℕ → ℕ → Bool
is_above None place = true
is_above (Some after) place = nat_lt after place

-- the same of a place that is announced, if one is
abbrev pub is_reported_above : Option ℕ → Option ℕ → Bool
is_reported_above after None = false
is_reported_above after (Some place) = is_above after place

-- A handler gave this line to a list, and it is of a place above the other.
abbrev pub IsNewer : {S : Type 0} → (S → List ℕ → List ℕ → S → Type 0) → Option ℕ → List ℕ → Type 0
IsNewer answers after line = (is_reported_above after (place_listed line) ≡ true) × ∥ IsListed answers line ∥₁

-- this is the place of a board that a handler listed
abbrev pub IsListedPlace : {S : Type 0} → (S → List ℕ → List ℕ → S → Type 0) → ℕ → Type 0
IsListedPlace answers place = (line : List ℕ) × (place_listed line ≡ Some place) × ∥ IsListed answers line ∥₁

-- the last board that was announced, with its place
abbrev pub last_of : List (ℕ × List ℕ) → Option (ℕ × List ℕ)
last_of [] = None
last_of (board ∷ []) = Some board
last_of (board ∷ next ∷ boards) = last_of (next ∷ boards)

-- each board's place is above that of the board before it
abbrev pub rises : List (ℕ × List ℕ) → Bool
rises [] = true
rises (board ∷ []) = true
rises (board ∷ next ∷ boards) = nat_lt board.0 next.0 && rises (next ∷ boards)

-- the line of the board that was announced last, if one was, where it is of a place above the other
abbrev pub newer_of : Option ℕ → Option (ℕ × List ℕ) → Option (List ℕ)
newer_of after None = None
newer_of after (Some board) = if is_above after board.0 then Some board.1 else None

-- a board is of a place above that of the last of these
abbrev pub is_next : List (ℕ × List ℕ) → ℕ → Bool
is_next boards place = is_above (option_map (λ last. last.0) (last_of boards)) place

-- the boards that were announced, and one more where it is of a place above the last
abbrev pub reported_with : List (ℕ × List ℕ) → ℕ × List ℕ → List (ℕ × List ℕ)
reported_with boards board = if is_next boards board.0 then boards ++ board ∷ [] else boards

-- Where a reply tells the place of a list, there is a board with just that place and line, and else there is none.
abbrev pub IsBoardOf : List ℕ → Option (ℕ × List ℕ) → Type 0
IsBoardOf reply board = board ≡ option_map (λ place. (place, reply)) (place_listed reply)
