-- What a request's head says of the host and the site that it is of.
use Rattle.std.specs.Prelude.{ℕ, ◌&&◌, Bool, false, not, List, [], ◌∷◌, codes, Option, Some, None, option_map, is_some}
use Rattle.http.specs.declared.request.Parts.{Parts}
use Rattle.http_header.specs.HeaderMap.{get_all}
use Rattle.http_header.specs.Token.{lowercase}
use Rattle.http_uri.specs.Uri.{uri_authority}
use Rattle.desk_http.specs.Texts.{is_own_host, is_own_origin, is_text}

-- the value of a list that has one alone
abbrev pub sole : {A : Type 0} → List A → Option A
sole [] = None
sole (x ∷ []) = Some x
sole (x ∷ y ∷ rest) = None

-- the value of the field of this name, where the head has exactly one such field
abbrev pub field_in : List ℕ → Parts → Option (List ℕ)
field_in name head = option_map (λ value. value.bytes) (sole (get_all head.headers (lowercase name)))

-- the host is this one, if there is one
abbrev pub is_own : Option (List ℕ) → Bool
is_own None = false
is_own (Some host) = is_own_host host

-- The request is meant for this host, and its target names none.
abbrev pub has_own_host : Parts → Bool
has_own_host head = not (is_some (uri_authority head.uri)) && is_own (field_in (codes "host") head)

-- the origin is the site of the host, where there are both
abbrev pub is_site_of : Option (List ℕ) → Option (List ℕ) → Bool
is_site_of (Some host) (Some origin) = is_own_origin origin host
is_site_of (Some host) None = false
is_site_of None origin = false

-- the request comes from a page of the host that it is meant for
abbrev pub has_own_origin : Parts → Bool
has_own_origin head = is_site_of (field_in (codes "host") head) (field_in (codes "origin") head)

-- the request's body is JSON
abbrev pub is_json : Parts → Bool
is_json head = is_text (field_in (codes "content-type") head) (codes "application/json")

-- The request comes from this site's own page.
abbrev pub is_own_site : Parts → Bool
is_own_site head = has_own_host head && (has_own_origin head && is_json head)
