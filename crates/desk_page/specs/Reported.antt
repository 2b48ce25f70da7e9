-- What a reply line tells of its place.
use Rattle.std.specs.Prelude.{ℕ, List, [], ◌∷◌, ◌++◌, length, take, drop, codes, if◌then◌else◌, Option, Some, None}
use Rattle.desk_follow.specs.Places.{place_by_value}
use Rattle.desk_http.specs.Texts.{same}

-- what stands after the first place at which a mark stands, if it stands in the text
abbrev pub after_mark : List ℕ → List ℕ → Option (List ℕ)
after_mark mark [] = None
after_mark mark (b ∷ text) =
    if same (take (length mark) (b ∷ text)) mark then Some (drop (length mark) (b ∷ text)) else after_mark mark text

-- the place that a reply line tells after a mark
unfoldable pub place_in_reply : List ℕ → List ℕ → Option ℕ
place_in_reply mark reply = place_by_value (after_mark mark reply)

-- a text in quotes, as JSON has it
abbrev pub quoted : List ℕ → List ℕ
quoted text = 34 ∷ (text ++ 34 ∷ [])

-- what a reply line that is answered by this word has before its place; no text within quotes has it
abbrev pub place_mark : List ℕ → List ℕ
place_mark word = quoted (codes "ok") ++ (58 ∷ (quoted word ++ (44 ∷ (quoted (codes "place") ++ 58 ∷ []))))

-- the place of a list
abbrev pub place_listed : List ℕ → Option ℕ
place_listed reply = place_in_reply (place_mark (codes "list")) reply

-- the place of a board that is shown
abbrev pub place_shown : List ℕ → Option ℕ
place_shown reply = place_in_reply (place_mark (codes "board")) reply
