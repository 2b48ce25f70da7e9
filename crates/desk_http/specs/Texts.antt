-- Which host and which site a text names.
use Rattle.std.specs.Prelude.{ℕ, ◌==◌, ◌||◌, Bool, true, false, List, [], ◌∷◌, length, take, drop, codes, nat_eq}
use Rattle.std.specs.Prelude.{if◌then◌else◌, Option, Some, None}
use Rattle.std.specs.Cmp.Lexicographic.{pointwise}

-- two texts are one and the same
abbrev pub same : List ℕ → List ℕ → Bool
same = pointwise nat_eq

-- what stands after a prefix, where the text begins with it
abbrev pub stripped : List ℕ → List ℕ → Option (List ℕ)
stripped prefix text =
    if same (take (length prefix) text) prefix then Some (drop (length prefix) text) else None

-- nothing more stands after a host's name, or a colon and its port
abbrev pub is_end_or_port : List ℕ → Bool
is_end_or_port [] = true
is_end_or_port (b ∷ rest) = b == 58

-- the same of what stands after the name, if it stands there
abbrev pub ends_host : Option (List ℕ) → Bool
ends_host None = false
ends_host (Some rest) = is_end_or_port rest

-- the host has this name, at any port
abbrev pub names_host : List ℕ → List ℕ → Bool
names_host name host = ends_host (stripped name host)

-- the host is this one, by a name that a host has on itself alone
abbrev pub is_own_host : List ℕ → Bool
is_own_host host =
    names_host (codes "127.0.0.1") host || (names_host (codes "localhost") host || names_host (codes "[::1]") host)

-- this is the text, if there is one
abbrev pub is_text : Option (List ℕ) → List ℕ → Bool
is_text None text = false
is_text (Some found) text = same found text

-- the origin is the site of the host
abbrev pub is_own_origin : List ℕ → List ℕ → Bool
is_own_origin origin host = is_text (stripped (codes "http://") origin) host
