-- Laws of records.
use Rattle.std.specs.Prelude.{◌≡◌, ◌≤◌, ℕ, zero, suc, ◌+◌, List, [], ◌∷◌, ◌++◌, length, flat_map, false}
use Rattle.std.specs.List.{AllByRecursion}
use Rattle.desk_records.specs.declared.record.TheConstants.{RECORD_BYTES}
use Rattle.desk_records.specs.Records.{record_bytes, record_run, is_right, RecordRun}

-- what a record may carry
abbrev pub IsPayload : List ℕ → Type 0
IsPayload payload = (1 ≤ length payload) × (length payload ≤ RECORD_BYTES)

-- the records of payloads, one after the other, the first of this count
abbrev pub records_bytes : List ℕ → ℕ → List (List ℕ) → List ℕ
records_bytes block count [] = []
records_bytes block count (payload ∷ more) = record_bytes block count payload ++ records_bytes block (suc count) more

-- What is sealed reads back so, whatever stands after it: the payloads in order, and then what the rest gives from the
-- next count on.
abbrev pub ReadsBack : Type 0
ReadsBack = (block : List ℕ) (count : ℕ) (payloads : List (List ℕ)) (rest : List ℕ) →
    AllByRecursion IsPayload payloads →
    (record_run block count (records_bytes block count payloads ++ rest)).given
    ≡ flat_map (λ payload. payload) payloads ++ (record_run block (count + length payloads) rest).given

-- A run ends where no right record of its count begins.
abbrev pub EndsAtFirstWrong : Type 0
EndsAtFirstWrong = (block : List ℕ) (count : ℕ) (bytes : List ℕ) →
    is_right block (record_run block count bytes).count (record_run block count bytes).rest ≡ false
