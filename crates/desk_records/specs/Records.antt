-- Records, by which the bytes of one direction of a connection go after a handshake. Their key is a block of HMAC, and
-- their counts rise by one.
use Rattle.std.specs.Prelude.{ℕ, zero, suc, ◌+◌, ◌&&◌, Bool, List, [], ◌++◌, length, take, drop, nat_le, if◌then◌else◌}
use Rattle.std.specs.Int.{w32, w64, from_be_bytes, to_be_bytes}
use Rattle.desk_key.specs.Hmac.{tag_under}
use Rattle.desk_key.specs.declared.hmac.TheConstants.{TAG_BYTES}
use Rattle.desk_records.specs.declared.record.TheConstants.{RECORD_BYTES, LENGTH_BYTES, OTHER_BYTES}
use Rattle.desk_records.specs.Same.{are_same}

-- bytes with the tag of a count and of these bytes after them
abbrev pub with_tag : List ℕ → ℕ → List ℕ → List ℕ
with_tag block count front = front ++ tag_under block (to_be_bytes w64 count ++ front)

-- the bytes of a record: the length of what it carries, that, and the tag
abbrev pub record_bytes : List ℕ → ℕ → List ℕ → List ℕ
record_bytes block count payload = with_tag block count (to_be_bytes w32 (length payload) ++ payload)

-- the length with which bytes begin
abbrev pub payload_length : List ℕ → ℕ
payload_length bytes = from_be_bytes w32 (take LENGTH_BYTES bytes)

-- what the record carries with which bytes begin
abbrev pub payload_of : List ℕ → List ℕ
payload_of bytes = take (payload_length bytes) (drop LENGTH_BYTES bytes)

-- what stands after that record
abbrev pub after_record : List ℕ → List ℕ
after_record bytes = drop (payload_length bytes + OTHER_BYTES) bytes

-- Whether the bytes begin with a right record of this count: it carries 1 to 65,536 bytes, it is there to its end, and
-- its tag is that of its count, its length and what it carries.
unfoldable pub is_right : List ℕ → ℕ → List ℕ → Bool
is_right block count bytes =
    (nat_le 1 (payload_length bytes) && nat_le (payload_length bytes) RECORD_BYTES)
    && (nat_le (payload_length bytes + OTHER_BYTES) (length bytes)
    && are_same (take TAG_BYTES (drop (payload_length bytes + LENGTH_BYTES) bytes))
    (tag_under block (to_be_bytes w64 count ++ take (payload_length bytes + LENGTH_BYTES) bytes)))

-- a run of right records: the bytes that they carry, in order, the count of the record after them, and what stands
-- there
pub record RecordRun : Type 0 where
  pub given : List ℕ
  pub count : ℕ
  pub rest : List ℕ

-- a run with a record more before it
abbrev pub with_first : List ℕ → RecordRun → RecordRun
with_first payload run = record { given = payload ++ run.given; count = run.count; rest = run.rest }

-- the longest run of right records, of so many at most, with which the bytes begin
unfoldable pub run_of_most : ℕ → List ℕ → ℕ → List ℕ → RecordRun
run_of_most zero block count bytes = record { given = []; count = count; rest = bytes }
run_of_most (suc most) block count bytes = if is_right block count bytes
    then with_first (payload_of bytes) (run_of_most most block (suc count) (after_record bytes))
    else record { given = []; count = count; rest = bytes }

-- the longest run of right records with which the bytes begin, the first of them of this count: it has fewer records
-- than there are bytes
abbrev pub record_run : List ℕ → ℕ → List ℕ → RecordRun
record_run block count bytes = run_of_most (length bytes) block count bytes
