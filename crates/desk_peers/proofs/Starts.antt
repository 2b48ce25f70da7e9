-- What a stream begins with.
use Rattle.std.proofs.Common.{◌≡◌, ◌≢◌, ◌⊎◌, inl, inr, ◌<◌, ◌≤◌, ◌+◌, ℕ, Bool, true, false, List, [], ◌∷◌, ◌++◌, Option}
use Rattle.std.proofs.Common.{◌==◌, ◌^◌, slice_index_or, if◌then◌else◌, eqb-true, lit<}
use Rattle.std.proofs.Common.{Result, Ok, Err, IfErr, OnOk}
use Rattle.std.proofs.Common.{None, Some, length, take, drop, refl, sym, ap, subst, ◌∙◌, append_assoc, append-nil}
use Rattle.std.proofs.Common.{arith}
use Rattle.std.proofs.lemmas.List.{take_at, take-append-drop, length-append, length-drop, length-take}
use Rattle.std.proofs.lemmas.Nat.{be_bytes_4, be_bytes_8}
use Rattle.std.proofs.KnownBytes.{Consumes-trans, Consumes-nil}
use Rattle.std.proofs.lemmas.List.Concat.{flat_map-cons}
use Rattle.std.specs.Int.{w32, w64, from_be_bytes}
use Rattle.std.specs.Io.KnownBytes.{Consumes}
use Rattle.desk_types.specs.declared.limits.TheConstants.{LOG_ENTRIES}
use Rattle.desk_types.specs.declared.packet.Message.{Message}
use Rattle.desk_types.specs.declared.refusal.Refusal.{Refusal}
use Rattle.desk_types.specs.declared.refusal.Refusal.TheVariants as refusals
use Rattle.desk_codec.specs.Spelling.{long, frame_spelling, PacketsFit}
use Rattle.desk_codec.proofs.Fields.{wide64}
use Rattle.desk_codec.proofs.Forms.{IsBytes, IsBytes-take, IsBytes-drop}
use Rattle.desk_frames.specs.Received.{HasNoFrame}
use Rattle.desk_frames.specs.Stream.{AreFit, BeginsNone, Standing, Open}
use Rattle.desk_frames.specs.Stream.{Holds, Fed, IsFeedRefusal, announced_length, frames_spelling}
use Rattle.desk_frames.proofs.Cuttings.{holds_none, stays_bad}
use Rattle.desk_frames.proofs.FirstFrames.{bad_length, frame_length}
use Rattle.desk_mailbox.specs.declared.item.Item.{Item}
use Rattle.desk_types.specs.declared.epoch_packet.Purpose.{Purpose}
use Rattle.desk_types.specs.declared.epoch_packet.Purpose.TheVariants.{Step, Ask, Tell}
use Rattle.desk_peers.specs.declared.header.EpochHeader.{EpochHeader}
use Rattle.desk_peers.specs.declared.header.TheConstants.{HEADER_MARK, PLACES_MARK, HEADER_BYTES, MARK_BYTES}
use Rattle.desk_peers.specs.declared.header.TheConstants.{STEP, ASK, TELL}
use Rattle.desk_peers.specs.Headers.{purpose_number, purpose_of, is_untold, header_mark, header_bytes}
use Rattle.desk_peers.specs.Headers.{header_spelling, FitsPlaces, BeginsNoHeader, HasNoHeader}
use Rattle.desk_peers.specs.Headers.{BeginsNoConnection, OthersBeginNone}
use Rattle.desk_peers.specs.Incoming.{
  HasPutOf,
  HasPutOnlyOf,
  HasTakenStream,
  HasTakenWhole,
  HasFilled,
  FailsToFill,
  BeginsUnder,
  IsNoBeginning,
  HasNoBeginning,
  HasFramesAfter,
  EndsEarly,
  EndsFrames,
  IsTakeFault,
}
use Rattle.desk_peers.proofs.Putting.{put_none}
use Rattle.desk_peers.proofs.Headers.{mark, mark_high, mark_first, header_written, header_unwritten}
use Rattle.desk_peers.proofs.Headers.{frame_no_header, untold_places}

-- ---- bytes that begin with no header, or with no frame

pub short_no_header : (places : ℕ) (bytes : List ℕ) → length bytes < HEADER_BYTES → HasNoHeader places bytes
short_no_header places bytes lt h others is f e =
    let n : length bytes ≡ length (header_bytes places h ++ others) = ap length e in
    let m : length (header_bytes places h) ≡ HEADER_BYTES = refl in
    omega (arith, lt, n, m, length-append (header_bytes places h) others)

pub short_no_frame : PacketsFit → (bytes : List ℕ) → length bytes < MARK_BYTES → HasNoFrame bytes
short_no_frame fit bytes lt = holds_none fit (Open bytes) bytes (refl, inl lt)

-- what begins with a mark begins no frame
pub marked_no_frame : PacketsFit → (places : ℕ) (bytes : List ℕ) → FitsPlaces places → 4 ≤ length bytes →
    announced_length bytes ≡ header_mark places → BeginsNone bytes
marked_no_frame fit places bytes fits le is =
    bad_length fit bytes le (inr (omega (arith, is, (mark_high places fits).0)))

-- what begins with something else than the mark begins no header
pub other_no_header : (places : ℕ) (bytes : List ℕ) → FitsPlaces places → 4 ≤ length bytes →
    announced_length bytes ≢ header_mark places → BeginsNoHeader places bytes
other_no_header places bytes fits le other h more others is f e =
    other (mark_first places bytes more others h fits le e)

pub bad_no_frame : (bytes : List ℕ) → BeginsNone bytes → HasNoFrame bytes
bad_no_frame bytes bad m others f e = bad m [] others f (append-nil bytes ∙ e)

pub bad_no_header : (places : ℕ) (bytes : List ℕ) → BeginsNoHeader places bytes → HasNoHeader places bytes
bad_no_header places bytes bad h others is f e = bad h [] others is f (append-nil bytes ∙ e)

-- ---- the bytes of a header

none_some : (p : Purpose) → None ≡ Some p → ⊥
none_some p e = let stuck : ⊥ = cc in stuck

pub head_tail : (xs : List ℕ) (n : ℕ) → length xs ≡ n + 1 → xs ≡ slice_index_or xs 0 0 ∷ drop 1 xs
head_tail [] n e = absurd (omega (arith, e))
head_tail (x ∷ xs) n e = refl

-- a number has one purpose

number_as : (n : ℕ) (p : Purpose) (a b c : Bool) → (n == STEP) ≡ a → (n == ASK) ≡ b → (n == TELL) ≡ c →
    (if a then Some Step else if b then Some Ask else if c then Some Tell else None) ≡ Some p → n ≡ purpose_number p
number_as n p true b c e f g is =
    let same : Step ≡ p = cc in eqb-true n STEP e ∙ ap purpose_number same
number_as n p false true c e f g is =
    let same : Ask ≡ p = cc in eqb-true n ASK f ∙ ap purpose_number same
number_as n p false false true e f g is =
    let same : Tell ≡ p = cc in eqb-true n TELL g ∙ ap purpose_number same
number_as n p false false false e f g is = absurd (none_some p is)

pub number_of_purpose : (n : ℕ) (p : Purpose) → purpose_of n ≡ Some p → n ≡ purpose_number p
number_of_purpose n p e = number_as n p (n == STEP) (n == ASK) (n == TELL) refl refl refl e

-- bytes that begin with the mark and a purpose's number
module _ (places : ℕ) (bytes : List ℕ) (len : length bytes ≡ HEADER_BYTES) where
  abbrev rest : List ℕ
  rest = drop 4 bytes

  abbrev number : List ℕ
  number = drop 1 rest

  rest_length : length rest ≡ 9
  rest_length = omega (arith, length-drop 4 bytes, len)

  number_length : length number ≡ 8
  number_length = omega (arith, length-drop 1 rest, rest_length)

  -- are its header
  pub written_bytes : (p : Purpose) → IsBytes bytes → from_be_bytes w32 (take 4 bytes) ≡ header_mark places →
      purpose_of (slice_index_or rest 0 0) ≡ Some p →
      bytes ≡ header_bytes places (record { epoch = from_be_bytes w64 number; purpose = p })
  written_bytes p fits is purpose =
      let front : length (take 4 bytes) ≡ 4 = omega (arith, length-take 4 bytes, len) in
      let mark_is : mark places ≡ take 4 bytes =
      be_bytes_4 (take 4 bytes) (header_mark places) front (IsBytes-take 4 bytes fits) (sym is) in
      let number_is : long (from_be_bytes w64 number) ≡ number =
      be_bytes_8 number (from_be_bytes w64 number) number_length
      (IsBytes-drop 1 rest (IsBytes-drop 4 bytes fits)) refl in
      sym (take-append-drop 4 bytes) ∙ ap (λ t. t ++ rest) (sym mark_is)
      ∙ ap (λ t. mark places ++ t) (head_tail rest 8 rest_length
      ∙ ap (λ n. n ∷ number) (number_of_purpose (slice_index_or rest 0 0) p purpose)
      ∙ ap (λ t. purpose_number p ∷ t) (sym number_is))

  pub fits_number : IsBytes bytes → from_be_bytes w64 number < 2 ^ 64
  fits_number fits = wide64.below number (IsBytes-drop 1 rest (IsBytes-drop 4 bytes fits))

  -- as a reader of them says it
  pub written_all : (e : ℕ) (p : Purpose) → e ≡ from_be_bytes w64 number → IsBytes bytes →
      from_be_bytes w32 (take 4 bytes) ≡ header_mark places → purpose_of (slice_index_or rest 0 0) ≡ Some p →
      is_untold places (record { epoch = e; purpose = p }) ≡ false →
      (bytes ≡ header_spelling places (record { epoch = e; purpose = p }))
      × (is_untold places (record { epoch = e; purpose = p }) ≡ false) × (e < 2 ^ 64)
  written_all e p epoch fits is purpose other = (
    written_bytes p fits is purpose ∙ ap (λ n. header_bytes places (record { epoch = n; purpose = p })) (sym epoch)
        ∙ sym (header_written places (record { epoch = e; purpose = p }) other),
    other,
    subst (λ n. n < 2 ^ 64) (sym epoch) (fits_number fits),
  )

-- ---- the first bytes of frames

begun : (old : Standing) → old ≡ Open [] → Holds old []
begun old e = subst (λ s. Holds s []) (sym e) (refl, inl (lit< tt))

few_as : PacketsFit → (ms : List Message) (bytes rest : List ℕ) (new : Standing) → AreFit ms →
    length bytes ≤ MARK_BYTES → bytes ≡ frames_spelling ms ++ rest → Holds new rest → Holds new bytes
few_as fit [] bytes rest new f le e holds = subst (Holds new) (sym e) holds
few_as fit (m ∷ ms) bytes rest new f le e holds =
    let first = frame_spelling m in
    let least = (fit m f.0).0 in
    let n : length bytes ≡ length (first ++ (frames_spelling ms ++ rest)) =
    ap length (e ∙ ap (λ t. t ++ rest) (flat_map-cons frame_spelling m ms)
    ∙ append_assoc first (frames_spelling ms) rest) in
    absurd (omega (arith, le, n, least, frame_length m, length-append first (frames_spelling ms ++ rest)))

-- a reader to which they were fed stands after them
pub few_hold : PacketsFit → (old new : Standing) (bytes : List ℕ) (ms : List Message) → old ≡ Open [] →
    length bytes ≤ MARK_BYTES → Fed old bytes (Ok ms) new → Holds new bytes
few_hold fit old new bytes ms e le fed =
    let more = fed.2.1 [] (begun old e) in few_as fit ms bytes more.0 new fed.2.0 le more.1 more.2

pub few_refused : (old new : Standing) (bytes : List ℕ) (r : Refusal) → old ≡ Open [] →
    IsFeedRefusal old bytes r new → (r ≡ refusals.WantOfMemory) ⊎ ((r ≡ refusals.FrameFault) × BeginsNone bytes)
few_refused old new bytes r e (inl h) = inl h.0
few_refused old new bytes r e (inr h) =
    inr (h.0, stays_bad old [] bytes (begun old e) (h.2 [] (begun old e)))

-- ---- a header and the frames after it

longer_no_header : (places : ℕ) (bytes piece : List ℕ) → BeginsNoHeader places bytes →
    BeginsNoHeader places (bytes ++ piece)
longer_no_header places bytes piece bad h more others is f e =
    bad h (piece ++ more) others is f (sym (append_assoc bytes piece more) ∙ e)

-- the header of the first epoch's steps
abbrev first_header : EpochHeader
first_header = record { epoch = 0; purpose = Step }

module _ (places : ℕ) (from : Option ℕ) (input mid left : Option (List ℕ)) (h : EpochHeader) (bytes : List ℕ)
    (a b : List Item) (s : BeginsUnder places input mid h bytes) where
  taken_of : (rest : List ℕ) → HasFramesAfter bytes mid left (HasPutOf h from a b) rest →
      HasTakenStream places from input left a b rest
  taken_of rest k =
      let text : (header_spelling places h ++ bytes) ++ k.piece
      ≡ header_spelling places h ++ (frames_spelling k.packets ++ rest) =
      append_assoc (header_spelling places h) bytes k.piece ∙ ap (λ t. header_spelling places h ++ t) k.parts in
      record {
        header = h;
        packets = k.packets;
        fits = s.fits;
        fit = k.fit;
        read = subst (Consumes input left) text
            (Consumes-trans input mid left (header_spelling places h ++ bytes) k.piece s.read k.read);
        put = k.done;
      }

  pub whole_of : HasFramesAfter bytes mid left (HasPutOf h from a b) [] → HasTakenWhole places from input left a b
  whole_of k = inr (taken_of [] k)

  pub ends_of : (r : Refusal) → EndsFrames h from r bytes mid left a b → EndsEarly places from r input left a b
  unfolding taken_of
  ends_of r k =
      let parts = k.followed.parts in
      let bad : is_untold places h ≡ true → BeginsNoHeader places (frames_spelling k.followed.packets ++ k.rest) =
      λ untold. subst (BeginsNoHeader places) parts
      (longer_no_header places bytes k.followed.piece (s.none untold)) in
      inr (record {
        rest = k.rest;
        taken = taken_of k.rest k.followed;
        frame_fault = k.frame_fault;
        header_fault = λ e untold. bad untold;
        read_fault = k.read_fault;
        header_read_fault = λ e untold. bad_no_header places _ (bad untold);
      })

-- ---- bytes that are read one after the other

-- so many were read so far
abbrev Filled : Option (List ℕ) → Option (List ℕ) → List ℕ → List ℕ → Type 0
Filled input now old bytes = (more : List ℕ) × Consumes input now more × (bytes ≡ old ++ more)

pub filled_none : (input : Option (List ℕ)) (bytes : List ℕ) → Filled input input bytes bytes
filled_none input bytes = ([], Consumes-nil input, sym (append-nil bytes))

-- ---- a header that was begun, by its mark

module _ (fit : PacketsFit) (places : ℕ) (place_fits : FitsPlaces places) (front more : List ℕ)
    (len : length front ≡ MARK_BYTES) (is : from_be_bytes w32 front ≡ header_mark places) where
  pub marked : announced_length (front ++ more) ≡ header_mark places
  marked = ap (from_be_bytes w32) (take_at front more 4 len) ∙ is

  no_frame : BeginsNone (front ++ more)
  no_frame = marked_no_frame fit places (front ++ more) place_fits
      (omega (arith, len, length-append front more)) marked

  pub cut_header : (r : Refusal) → r ≡ refusals.ReadFault → length (front ++ more) < HEADER_BYTES →
      IsNoBeginning places r (front ++ more)
  cut_header r e lt =
      inr (inr (e, bad_no_frame (front ++ more) no_frame, short_no_header places (front ++ more) lt))

  pub bad_header : (r : Refusal) → r ≡ refusals.FrameFault → BeginsNoHeader places (front ++ more) →
      IsNoBeginning places r (front ++ more)
  bad_header r e bad = inr (inl (e, (bad, λ same. no_frame)))

  -- it was not read whole
  pub unread_header : (r : Refusal) → (r ≡ refusals.WantOfMemory)
      ⊎ ((r ≡ refusals.ReadFault) × (length (front ++ more) < HEADER_BYTES)) → IsNoBeginning places r (front ++ more)
  unread_header r (inl want) = inl want
  unread_header r (inr (e, lt)) = cut_header r e lt

-- ---- the first four bytes

short_start : PacketsFit → (places : ℕ) (r : Refusal) (bytes : List ℕ) → r ≡ refusals.ReadFault →
    length bytes < MARK_BYTES → IsNoBeginning places r bytes
short_start fit places r bytes e lt =
    inr (inr (e, short_no_frame fit bytes lt, short_no_header places bytes (omega (arith, lt))))

start_as : PacketsFit → (places : ℕ) (r : Refusal) (bytes : List ℕ) → (r ≡ refusals.WantOfMemory)
    ⊎ ((r ≡ refusals.ReadFault) × (length ([] ++ bytes) < MARK_BYTES)) → IsNoBeginning places r bytes
start_as fit places r bytes (inl want) = inl want
start_as fit places r bytes (inr (e, lt)) = short_start fit places r bytes e lt

-- they were not read
pub unread_start : PacketsFit → (places : ℕ) (r : Refusal) (input left : Option (List ℕ)) (old : List ℕ) → old ≡ [] →
    FailsToFill r input left old MARK_BYTES → HasNoBeginning places r input left
unread_start fit places r input left old none k = record {
  bytes = k.more;
  read = k.read;
  which = start_as fit places r k.more (subst (λ t. (r ≡ refusals.WantOfMemory)
      ⊎ ((r ≡ refusals.ReadFault) × (length (t ++ k.more) < MARK_BYTES))) none k.which);
}

module _ (places : ℕ) (input left : Option (List ℕ)) (old bytes : List ℕ) (none : old ≡ [])
    (k : HasFilled input left old bytes MARK_BYTES) where
  pub all_read : Consumes input left bytes
  all_read = subst (Consumes input left) (sym (k.new_is ∙ ap (λ t. t ++ k.more) none)) k.read

  -- there are fewer
  pub starts_short : PacketsFit → (r : Refusal) → r ≡ refusals.ReadFault → length bytes < MARK_BYTES →
      HasNoBeginning places r input left
  starts_short fit r e lt =
      record { bytes = bytes; read = all_read; which = short_start fit places r bytes e lt }

  -- they are no mark, where a header is always told
  pub starts_other : FitsPlaces places → places ≢ LOG_ENTRIES → (r : Refusal) → r ≡ refusals.FrameFault →
      4 ≤ length bytes → announced_length bytes ≢ header_mark places → HasNoBeginning places r input left
  starts_other fits told r e le other = record {
    bytes = bytes;
    read = all_read;
    which = inr (inl (e, (other_no_header places bytes fits le other, λ same. absurd (told same))));
  }

-- the mark was read, and not the rest of the header
pub rest_unread : (places : ℕ) (input mid left : Option (List ℕ)) (old bytes : List ℕ) → old ≡ [] →
    HasFilled input mid old bytes MARK_BYTES → (r : Refusal) →
    (more : List ℕ) × Consumes mid left more × IsNoBeginning places r (bytes ++ more) →
    HasNoBeginning places r input left
rest_unread places input mid left old bytes none k r (more, read, which) = record {
  bytes = bytes ++ more;
  read = Consumes-trans input mid left bytes more (all_read places input mid old bytes none k) read;
  which = which;
}

-- ---- a whole stream

fault_as : (places : ℕ) (r : Refusal) (bytes : List ℕ) → IsNoBeginning places r bytes → IsTakeFault r
fault_as places r bytes (inl want) = inr (inl want)
fault_as places r bytes (inr (inl h)) = inr (inr (inl h.0))
fault_as places r bytes (inr (inr h)) = inr (inr (inr h.0))

pub fault_of_none : (places : ℕ) (r : Refusal) (input left : Option (List ℕ)) → HasNoBeginning places r input left →
    IsTakeFault r
fault_of_none places r input left k = fault_as places r k.bytes k.which

module _ {A : Type 0} (places : ℕ) (from : Option ℕ) (input mid left : Option (List ℕ)) (h : EpochHeader)
    (bytes : List ℕ) (a b : List Item) (s : BeginsUnder places input mid h bytes) where
  pub ends_when : (r : Result A Refusal) → IfErr r (λ r. EndsFrames h from r bytes mid left a b) →
      IfErr r (λ r. EndsEarly places from r input left a b)
  ends_when (Ok x) k = tt
  ends_when (Err r) k = ends_of places from input mid left h bytes a b s r k

  pub whole_when : (r : Result A Refusal) → OnOk r (HasFramesAfter bytes mid left (HasPutOf h from a b) []) →
      OnOk r (HasTakenWhole places from input left a b)
  whole_when (Ok x) k = whole_of places from input mid left h bytes a b s k
  whole_when (Err r) k = tt

pub no_packets_put : (from : Option ℕ) (a : List Item) → HasPutOnlyOf from a a
no_packets_put from a = (first_header, [], put_none first_header from a)

-- ---- epochs of other places

-- two numbers of places have two marks
marks_as : (places others : ℕ) (b c : Bool) → (places == LOG_ENTRIES) ≡ b → (others == LOG_ENTRIES) ≡ c →
    FitsPlaces places → FitsPlaces others →
    (if b then HEADER_MARK else PLACES_MARK + places) ≡ (if c then HEADER_MARK else PLACES_MARK + others) →
    places ≡ others
marks_as places others true true e d f k is = eqb-true places LOG_ENTRIES e ∙ sym (eqb-true others LOG_ENTRIES d)
marks_as places others true false e d f k is = absurd (omega (arith, k, is))
marks_as places others false true e d f k is = absurd (omega (arith, f, is))
marks_as places others false false e d f k is = omega (arith, is)

marks_differ : (places others : ℕ) → FitsPlaces places → FitsPlaces others → places ≢ others →
    header_mark places ≢ header_mark others
unfolding header_mark
marks_differ places others f k other is =
    other (marks_as places others (places == LOG_ENTRIES) (others == LOG_ENTRIES) refl refl f k is)

-- what begins with another mark begins no connection
marked_begins_none : PacketsFit → (places others : ℕ) (h : EpochHeader) (rest : List ℕ) → FitsPlaces places →
    FitsPlaces others → places ≢ others → BeginsNoConnection others (header_bytes places h ++ rest)
marked_begins_none fit places others h rest f k other =
    let bytes = header_bytes places h ++ rest in
    let len : length (header_bytes places h) ≡ HEADER_BYTES = refl in
    let le : 4 ≤ length bytes = omega (arith, len, length-append (header_bytes places h) rest) in
    let is : announced_length bytes ≡ header_mark places =
    mark_first places bytes [] (rest ++ []) h f le (append_assoc (header_bytes places h) rest []) in (
      other_no_header others bytes k le (λ same. marks_differ places others f k other (sym is ∙ same)),
      λ same. marked_no_frame fit places bytes f le is,
    )

-- nor do frames, where a header is always told
frames_begin_none : PacketsFit → (others : ℕ) (ms : List Message) → FitsPlaces others → others ≢ LOG_ENTRIES →
    AreFit ms → frames_spelling ms ≢ [] → BeginsNoConnection others (frames_spelling ms)
frames_begin_none fit others [] k told f some = absurd (some refl)
frames_begin_none fit others (m ∷ ms) k told f some = (
  λ g more rest is fits e. frame_no_header fit others m g (frames_spelling ms ++ more) rest k f.0
      (sym (append_assoc (frame_spelling m) (frames_spelling ms) more)
      ∙ ap (λ t. t ++ more) (sym (flat_map-cons frame_spelling m ms)) ∙ e),
  λ same. absurd (told same),
)

others_as : PacketsFit → (places others : ℕ) (h : EpochHeader) (ms : List Message) (b : Bool) →
    is_untold places h ≡ b → FitsPlaces places → FitsPlaces others → places ≢ others → AreFit ms →
    header_spelling places h ++ frames_spelling ms ≢ [] →
    BeginsNoConnection others (header_spelling places h ++ frames_spelling ms)
others_as fit places others h ms true e f k other am some =
    let bytes : header_spelling places h ++ frames_spelling ms ≡ frames_spelling ms =
    ap (λ t. t ++ frames_spelling ms) (header_unwritten places h e) in
    subst (BeginsNoConnection others) (sym bytes)
    (frames_begin_none fit others ms k (λ same. other (untold_places places h e ∙ sym same)) am
    (λ none. some (bytes ∙ none)))
others_as fit places others h ms false e f k other am some =
    subst (λ t. BeginsNoConnection others (t ++ frames_spelling ms)) (sym (header_written places h e))
    (marked_begins_none fit places others h (frames_spelling ms) f k other)

pub others_begin_none : PacketsFit → OthersBeginNone
others_begin_none fit places others h ms f k other am some =
    others_as fit places others h ms (is_untold places h) refl f k other am some
