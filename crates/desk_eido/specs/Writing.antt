-- The tokens of a reply while they are written.
use Rattle.std.specs.Prelude.{ℕ, List, [], ◌∷◌, ◌++◌, map, decimal, Option}
use Rattle.std.specs.Fmt.{signed_decimal}
use Rattle.std.specs.List.{flat_map}
use Rattle.json.specs.Token.{Token, key, string, number, begin_object, begin_array, end_array}
use Rattle.json.specs.Tree.{members_tokens}
use Rattle.serde_json.specs.Data.{Members}
use Rattle.serde_json.specs.Written.{members_outline}
use Rattle.desk_eido.specs.ReplyLine.{Content, count, seconds, text, texts, rows, ReplyMember, optional_member}

-- the tokens of a row
abbrev pub row_tokens : Members → List Token
row_tokens r = begin_object ∷ members_tokens (members_outline r)

-- the tokens of what a member holds
abbrev pub content_tokens : Content → List Token
content_tokens (count n) = number (decimal n) ∷ []
content_tokens (seconds z) = number (signed_decimal z) ∷ []
content_tokens (text t) = string t ∷ []
content_tokens (texts ts) = begin_array ∷ (map string ts ++ end_array ∷ [])
content_tokens (rows rs) = begin_array ∷ (flat_map row_tokens rs ++ end_array ∷ [])

-- with a member of this name after them
abbrev pub with_content : List ℕ → Content → List Token → List Token
with_content name content ts = ts ++ (key name ∷ content_tokens content)

-- with all these after them
abbrev pub with_all : List ReplyMember → List Token → List Token
with_all [] ts = ts
with_all (m ∷ rest) ts = with_all rest (with_content m.0 m.1 ts)

-- with a text under this name, where there is one
abbrev pub with_optional : List ℕ → Option (List ℕ) → List Token → List Token
with_optional name o ts = with_all (optional_member name o) ts
