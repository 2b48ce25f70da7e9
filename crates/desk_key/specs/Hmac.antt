-- HMAC (RFC 2104, section 2) with SHA-256 of FIPS 180-4. Keys, messages and tags are lists of bytes.
use Rattle.std.specs.Prelude.{ℕ, List, ◌++◌, ◌-◌, length, map, replicate, bit_xor, nat_lt, if◌then◌else◌}
use Rattle.sha2.specs.Sha256.{sha256}

-- the bytes as a block of 64, filled up by zeros
abbrev pub filled_block : List ℕ → List ℕ
filled_block bytes = bytes ++ replicate (64 - length bytes) 0

-- the key as a block: one that is longer than a block is its digest
abbrev pub key_block : List ℕ → List ℕ
key_block key = if nat_lt 64 (length key) then filled_block (sha256 key) else filled_block key

-- a block, each byte of it xor a byte: ipad is 0x36, opad is 0x5c
abbrev pub padded_block : ℕ → List ℕ → List ℕ
padded_block pad block = map (λ byte. bit_xor byte pad) block

-- the tag of a message under a key's block: H(K xor opad, H(K xor ipad, text))
abbrev pub tag_under : List ℕ → List ℕ → List ℕ
tag_under block message = sha256 (padded_block 0x5c block ++ sha256 (padded_block 0x36 block ++ message))

-- the tag of a message under a key
abbrev pub hmac_sha256 : List ℕ → List ℕ → List ℕ
hmac_sha256 key message = tag_under (key_block key) message
