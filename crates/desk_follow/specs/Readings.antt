-- What is read of a reply line: which refusal it tells, by the members that stand before its number.
use Rattle.std.specs.Prelude.{ℕ, ◌==◌, ◌||◌, ◌&&◌, ◌-◌, nat_le, nat_lt, Bool, List, [], ◌∷◌, ◌++◌, codes}
use Rattle.std.specs.Prelude.{if◌then◌else◌, Option, Some, None, is_some}
use Rattle.desk_types.specs.Lists.{split_at}
use Rattle.desk_follow.specs.declared.course.Course.{Course}
use Rattle.desk_follow.specs.declared.course.Course.TheVariants as courses

-- what stands after a prefix, where the text begins with it
abbrev pub after_prefix : List ℕ → List ℕ → Option (List ℕ)
after_prefix [] text = Some text
after_prefix (p ∷ prefix) [] = None
after_prefix (p ∷ prefix) (b ∷ text) = if b == p then after_prefix prefix text else None

-- a member's name as a reply line spells it, with its colon
abbrev pub key_of : List ℕ → List ℕ
key_of name = 34 ∷ (name ++ 34 ∷ 58 ∷ [])

-- what stands after the comma, if there is one
abbrev pub past_comma : List ℕ → Option (List ℕ × List ℕ) → List ℕ
past_comma text None = text
past_comma text (Some parts) = parts.1

-- what stands after a member's value, if the text begins with this member; the value is a number and has no comma
abbrev pub past_value : List ℕ → Option (List ℕ) → List ℕ
past_value text None = text
past_value text (Some value) = past_comma text (split_at 44 value)

abbrev pub past_member : List ℕ → List ℕ → List ℕ
past_member name text = past_value text (after_prefix (key_of name) text)

-- the text begins with the number of a refusal after which a line is asked again
abbrev pub is_later : List ℕ → Bool
is_later text =
    is_some (after_prefix (codes "32") text)
    || (is_some (after_prefix (codes "34") text) || is_some (after_prefix (codes "40") text))

-- what is done by the text from a refusal's number on, if there is one
abbrev pub course_by_number : Option (List ℕ) → Course
course_by_number None = courses.Final
course_by_number (Some text) = if is_later text then courses.Later else courses.Final

-- what is done where these digits tell the primary
abbrev pub course_at : ℕ → List ℕ → Course
course_at count [] = courses.Later
course_at count (b ∷ c ∷ digits) = courses.Later
course_at count (b ∷ []) = if nat_le 48 b && nat_lt (b - 48) count then courses.At (b - 48) else courses.Later

-- the same of the parts of a text at its comma
abbrev pub course_by_parts : ℕ → Option (List ℕ × List ℕ) → Course
course_by_parts count None = courses.Later
course_by_parts count (Some parts) = course_at count parts.0

-- what is done by the members of a reply, the first of which may tell the primary
abbrev pub course_by_members : ℕ → List ℕ → Option (List ℕ) → Course
course_by_members count text None =
    course_by_number (after_prefix (key_of (codes "refusal"))
    (past_member (codes "place") (past_member (codes "number") text)))
course_by_members count text (Some node) = course_by_parts count (split_at 44 node)

-- what is done by what stands after the brace of a reply line, if there is one
abbrev pub course_by_object : ℕ → Option (List ℕ) → Course
course_by_object count None = courses.Final
course_by_object count (Some text) = course_by_members count text (after_prefix (key_of (codes "node")) text)

-- What is done about a line after these bytes of a reply, of a group of so many nodes. That it is what the table says
-- of each outcome's line is the law of `desk_follow::laws::table`.
unfoldable pub course_of : ℕ → List ℕ → Course
course_of count line = course_by_object count (after_prefix (123 ∷ []) line)
