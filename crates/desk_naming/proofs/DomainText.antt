-- The text of a domain is UTF-8.
use Rattle.std.proofs.Common.{◌≡◌, ◌<◌, ℕ, zero, suc, List, [], ◌∷◌, true, get_or, arith}
use Rattle.std.specs.List.{list_all}
use Rattle.std.specs.Str.{IsUtf8}
use Rattle.std.proofs.lemmas.Bool.Decides.{nat_tests}
use Rattle.std.proofs.lemmas.Str.{IsUtf8-from_ascii}
use Rattle.desk_types.specs.Identifier.{is_domain_byte, IsLowerDomain}
use Rattle.desk_types.proofs.Bytes.{and_parts}

domain_byte_low : (b : ℕ) → is_domain_byte b ≡ true → b < 128
domain_byte_low b h = grind (arith, nat_tests)

all_low : (bytes : List ℕ) → list_all is_domain_byte bytes ≡ true → (i : ℕ) → get_or bytes i 0 < 128
all_low [] h i = omega arith
all_low (b ∷ bytes) h zero = domain_byte_low b (and_parts _ _ h).0
all_low (b ∷ bytes) h (suc i) = all_low bytes (and_parts _ _ h).1 i

pub domain_utf8 : (domain : List ℕ) → IsLowerDomain domain → IsUtf8 domain
domain_utf8 domain lower = IsUtf8-from_ascii domain (all_low domain lower.valid.bytes)
