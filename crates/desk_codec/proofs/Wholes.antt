-- The packet of all of the bytes.
use Rattle.std.proofs.Common.{◌≡◌, ℕ, ◌+◌, ◌-◌, ◌<◌, ◌≤◌, List, [], ◌∷◌, ◌++◌, length, take, drop, Option, Some, None}
use Rattle.std.proofs.Common.{sym, ap, ◌∙◌, append_assoc, append-nil, arith}
use Rattle.std.specs.Prelude.{Ok, Err}
use Rattle.std.specs.List.{flat_map}
use Rattle.std.proofs.lemmas.List.{length-append, length-drop, length-take-le, take_at, take-append-drop, take_all}
use Rattle.std.proofs.lemmas.List.Concat.{flat_map-append, flat_map-cons}
use Rattle.desk_types.specs.declared.command.Entry.{Entry}
use Rattle.desk_types.specs.declared.packet.Message.{Message}
use Rattle.desk_codec.specs.declared.fault.Lack.{Lack}
use Rattle.desk_codec.specs.declared.fault.Lack.TheVariants.{Needs, NoSpelling}
use Rattle.desk_codec.specs.declared.start.PacketStart.{PacketStart}
use Rattle.desk_codec.specs.Entries.{FrontEntry}
use Rattle.desk_codec.specs.Packets.{HasBegun, PacketOf, WholePacket, begun}
use Rattle.desk_codec.specs.Ranges.{FitsEntries}
use Rattle.desk_codec.specs.Spelling.{SpellsPacket, entry_spelling, packet_spelling}
use Rattle.desk_codec.specs.Starts.{FrontStart, start_spelling}
use Rattle.desk_codec.proofs.Leads.{no_entry, only_these, short_none, short_start, these_are}

-- what was read so far, and how many entries are to come
pub record SoFar (bytes : List ℕ) (f : PacketStart) (es : List Entry) (at more : ℕ) : Type 0 where
  pub has : HasBegun f es more
  pub within : at ≤ length bytes
  pub front : take at bytes ≡ begun f es

pub begins : (bytes : List ℕ) (f : PacketStart) (count : ℕ) → FrontStart bytes (Ok (f, count)) →
    SoFar bytes f [] count f.count
begins bytes f count h = record {
  has = record { reads = h.3; kind = h.2; fit = tt; count = omega arith };
  within = h.0;
  front = h.1 ∙ sym (append-nil (start_spelling f));
}

fit_more : (es : List Entry) (e : Entry) → FitsEntries es → FitsEntries (e ∷ []) → FitsEntries (es ++ e ∷ [])
fit_more [] e f g = g
fit_more (d ∷ es) e f g = (f.0, fit_more es e f.1 g)

-- another entry came
pub begun_more : (f : PacketStart) (es : List Entry) (e : Entry) (more : ℕ) → HasBegun f es more → 0 < more →
    FitsEntries (e ∷ []) → HasBegun f (es ++ e ∷ []) (more - 1)
begun_more f es e more has some fit = record {
  reads = has.reads;
  kind = has.kind;
  fit = fit_more es e has.fit fit;
  count = omega (arith, length-append es (e ∷ []), has.count, some);
}

pub begun_with : (f : PacketStart) (es : List Entry) (e : Entry) → begun f (es ++ e ∷ []) ≡ begun f es ++
    entry_spelling e
begun_with f es e =
    ap (λ r. start_spelling f ++ r) (flat_map-append entry_spelling es (e ∷ []))
    ∙ ap (λ r. start_spelling f ++ (flat_map entry_spelling es ++ r))
    (flat_map-cons entry_spelling e [] ∙ append-nil (entry_spelling e))
    ∙ sym (append_assoc (start_spelling f) (flat_map entry_spelling es) (entry_spelling e))

pub goes : (bytes : List ℕ) (f : PacketStart) (es : List Entry) (at more size : ℕ) (e : Entry) →
    SoFar bytes f es at more → 0 < more → FrontEntry f.head.version (drop at bytes) (Ok (e, size)) →
    SoFar bytes f (es ++ e ∷ []) (at + size) (more - 1)
goes bytes f es at more size e s some h =
    let b = begun f es in
    let x = drop at bytes in
    let k : length (take at bytes) ≡ at = length-take-le at bytes s.within in
    let len : length (take size x) ≡ size = length-take-le size x h.0 in
    let whole : bytes ≡ (b ++ take size x) ++ drop size x =
    sym (take-append-drop at bytes) ∙ ap (λ r. r ++ x) s.front ∙ ap (λ r. b ++ r) (sym (take-append-drop size x))
    ∙ sym (append_assoc b (take size x) (drop size x)) in
    record {
      has = begun_more f es e more s.has some (h.1.fits, tt);
      within = omega (arith, s.within, h.0, length-drop at bytes);
      front = ap (take (at + size)) whole
          ∙ take_at (b ++ take size x) (drop size x) (at + size)
          (omega (arith, length-append b (take size x), len, k, ap length s.front))
          ∙ ap (λ r. b ++ r) h.1.spelling ∙ sym (begun_with f es e);
    }

module _ (bytes : List ℕ) (f : PacketStart) (es : List Entry) (at more : ℕ) (s : SoFar bytes f es at more) where
  parts : bytes ≡ begun f es ++ drop at bytes
  parts = sym (take-append-drop at bytes) ∙ ap (λ r. r ++ drop at bytes) s.front

  pub no_entry_left : (lack : Lack) → 0 < more → FrontEntry f.head.version (drop at bytes) (Err lack) →
      WholePacket bytes None
  no_entry_left NoSpelling some h m spells =
      no_entry f es more s.has (drop at bytes) some h m [] [] spells.fits
      (ap (λ r. r ++ []) (sym parts ∙ spells.spelling))
  no_entry_left Needs some h m spells =
      short_none f es more s.has (drop at bytes) some h m spells.fits (sym parts ∙ spells.spelling)

  spelled : (m : Message) → SpellsPacket m bytes → begun f es ++ drop at bytes ≡ packet_spelling m ++ []
  spelled m spells = sym parts ∙ spells.spelling ∙ sym (append-nil (packet_spelling m))

  pub none_over : more ≡ 0 → at < length bytes → WholePacket bytes None
  none_over none lt m spells =
      let whole = these_are f es more s.has none m (drop at bytes) [] spells.fits (spelled m spells) in
      omega (arith, lt, ap length spells.spelling, ap length whole, ap length s.front, length-take-le at bytes s.within)

  pub packet_left : more ≡ 0 → length bytes ≤ at → (p : Option Message) → PacketOf f es p → WholePacket bytes p
  packet_left none le None h = λ m spells.
      let same = only_these f es more s.has none m (drop at bytes) [] spells.fits (spelled m spells) in
      h m spells.fits same.0 same.1
  packet_left none le (Some m) h = record {
    fits = h.0;
    spelling = sym (take_all at bytes le) ∙ s.front ∙ sym h.1;
  }

pub no_start_found : (bytes : List ℕ) (lack : Lack) → FrontStart bytes (Err lack) → WholePacket bytes None
no_start_found bytes NoSpelling h m spells = h m [] [] spells.fits (ap (λ r. r ++ []) spells.spelling)
no_start_found bytes Needs h m spells = short_start bytes h.0 m spells.fits spells.spelling
