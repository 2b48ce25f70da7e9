-- The fields that hold a browser to this site.
use Rattle.std.specs.Prelude.{List, [], ◌∷◌, ◌++◌, codes}
use Rattle.http1.specs.Fields.{Header}

-- what a page of this site may load and ask
abbrev pub source_fields : List Header
source_fields = (
  codes "content-security-policy",
  codes "default-src 'none'; script-src 'self'; style-src 'self'; img-src 'self'; connect-src 'self'; "
      ++ codes "base-uri 'none'; form-action 'none'; frame-ancestors 'none'; require-trusted-types-for 'script'",
)
    ∷ (codes "x-content-type-options", codes "nosniff") ∷ []

-- what other sites learn of this one, and what is saved
abbrev pub site_fields : List Header
site_fields =
    (codes "referrer-policy", codes "no-referrer") ∷ (codes "cross-origin-resource-policy", codes "same-origin")
    ∷ (codes "cross-origin-opener-policy", codes "same-origin") ∷ (codes "cache-control", codes "no-store") ∷ []

abbrev pub policy_fields : List Header
policy_fields = source_fields ++ site_fields
