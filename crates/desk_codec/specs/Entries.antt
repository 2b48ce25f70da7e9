-- The entry that bytes begin with which are still coming.
use Rattle.std.specs.Prelude.{◌≡◌, ◌==◌, ◌&&◌, ◌||◌, ◌+◌, ◌≤◌, ◌<◌, ◌⊎◌, not, ℕ, Bool, true, List, ◌++◌, length, take}
use Rattle.std.specs.Prelude.{drop, nat_lt, nat_le, if◌then◌else◌, Result, Ok, Err}
use Rattle.std.specs.Int.{w16, w64, from_be_bytes}
use Rattle.desk_types.specs.NumberRange.{is_number}
use Rattle.desk_types.specs.declared.command.Entry.{Entry}
use Rattle.desk_types.specs.declared.limits.TheConstants.{BODY_BYTES}
use Rattle.desk_codec.specs.declared.TheConstants.{ENTRY_HEAD_BYTES}
use Rattle.desk_codec.specs.declared.entry.EntryHead.{EntryHead}
use Rattle.desk_codec.specs.declared.fault.Lack.{Lack}
use Rattle.desk_codec.specs.declared.fault.Lack.TheVariants.{Needs, NoSpelling}
use Rattle.desk_codec.specs.Ranges.{FitsEntry}
use Rattle.desk_codec.specs.Spelling.{SpellsEntry, entry_spelling}
use Rattle.desk_codec.specs.Version.{is_new_entry}

-- what an entry's first bytes tell
abbrev pub announced_head : List ℕ → EntryHead
announced_head bytes = record {
  client = from_be_bytes w64 (take 8 bytes);
  number = from_be_bytes w64 (take 8 (drop 8 bytes));
  body = from_be_bytes w16 (take 2 (drop 16 bytes));
}

-- whether its client, its number, and the length of its body are in range
abbrev pub fits_entry_head : EntryHead → Bool
fits_entry_head h =
    is_number h.client && (is_number h.number && (nat_le 1 h.body && nat_le h.body BODY_BYTES))

-- what stands before an entry's body, where all of it is there and in range
unfoldable pub front_entry_head : List ℕ → Result EntryHead Lack
front_entry_head bytes =
    if nat_lt (length bytes) ENTRY_HEAD_BYTES then Err Needs
    else if fits_entry_head (announced_head bytes) then Ok (announced_head bytes) else Err NoSpelling

-- whether a packet of this version can have an entry
abbrev pub is_entry_in : ℕ → Entry → Bool
is_entry_in version e = (version == 2) || not (is_new_entry e)

-- an entry's head, or the body of which the head tells the length, is not all there
abbrev pub EntryNeeds : List ℕ → Type 0
EntryNeeds bytes = (length bytes < ENTRY_HEAD_BYTES)
    ⊎ ((h : EntryHead) × (front_entry_head bytes ≡ Ok h) × (length bytes < ENTRY_HEAD_BYTES + h.body))

-- However the bytes go on, no entry begins them that a packet of this version can have.
abbrev pub BeginsNoEntry : ℕ → List ℕ → Type 0
BeginsNoEntry version bytes = (e : Entry) (more others : List ℕ) → FitsEntry e → is_entry_in version e ≡ true →
    bytes ++ more ≡ entry_spelling e ++ others → ⊥

-- What bytes begin with: so many of them are an entry of the version; or more are needed; or no entry begins so.
abbrev pub FrontEntry : ℕ → List ℕ → Result (Entry × ℕ) Lack → Type 0
FrontEntry version bytes (Ok x) = (x.1 ≤ length bytes) × SpellsEntry x.0 (take x.1 bytes)
    × (is_entry_in version x.0 ≡ true)
FrontEntry version bytes (Err Needs) = EntryNeeds bytes
FrontEntry version bytes (Err NoSpelling) = BeginsNoEntry version bytes
