-- The length of a tag.
use Rattle.std.proofs.Common.{◌≡◌, ℕ, List, ◌++◌, length}
use Rattle.sha2.specs.Sha256.{sha256}
use Rattle.sha2.proofs.Facts256.{length-sha256}
use Rattle.desk_key.specs.Hmac.{padded_block, tag_under}

pub length-tag : (block message : List ℕ) → length (tag_under block message) ≡ 32
length-tag block message = length-sha256 (padded_block 0x5c block ++ sha256 (padded_block 0x36 block ++ message))
