-- Headers, and the frames after them.
use Rattle.std.proofs.Common.{◌≡◌, ◌==◌, ◌&&◌, ◌≤◌, ◌<◌, ◌+◌, ◌^◌, ℕ, Bool, true, false, List, [], ◌∷◌, ◌++◌}
use Rattle.std.proofs.Common.{length, take, drop, refl, sym, ap, subst, ◌∙◌, append_assoc, MatchBool, arith}
use Rattle.std.proofs.Common.{Some, if◌then◌else◌, eqb-true}
use Rattle.std.proofs.lemmas.List.{append_cancel_left, take_at, drop_at, take-append-le, length-append}
use Rattle.std.proofs.lemmas.List.Concat.{flat_map-cons}
use Rattle.std.proofs.lemmas.Nat.{from_be_bytes-to_be_bytes_4, from_be_bytes-to_be_bytes_8}
use Rattle.std.specs.Int.{w32, w64, to_be_bytes, from_be_bytes}
use Rattle.desk_types.specs.declared.limits.TheConstants.{FRAME_BYTES, LOG_ENTRIES}
use Rattle.desk_types.specs.declared.packet.Message.{Message}
use Rattle.desk_codec.specs.Ranges.{FitsMessage}
use Rattle.desk_codec.specs.Spelling.{long, packet_spelling, frame_spelling, FramesBeginNone, PacketsFit}
use Rattle.desk_frames.specs.Stream.{AreFit, announced_length, frames_spelling}
use Rattle.desk_frames.proofs.FirstFrames.{announced_is, frame_length}
use Rattle.desk_types.specs.declared.epoch_packet.Purpose.{Purpose}
use Rattle.desk_types.specs.declared.epoch_packet.Purpose.TheVariants.{Step, Ask, Tell}
use Rattle.desk_peers.specs.declared.header.EpochHeader.{EpochHeader}
use Rattle.desk_peers.specs.declared.header.TheConstants.{HEADER_MARK, PLACES_MARK, STEP}
use Rattle.desk_peers.specs.Headers.{purpose_number, purpose_of, is_first, is_untold, header_bytes, header_mark}
use Rattle.desk_peers.specs.Headers.{header_spelling, FitsHeader, FitsPlaces, HasHeader, HasNoHeader}
use Rattle.desk_peers.specs.Headers.{FramesBeginNoHeader, HeadersAreOne, HeadersAreWritten, StreamsAreOne}

-- the mark of a header, in bytes
abbrev pub mark : ℕ → List ℕ
mark places = to_be_bytes w32 (header_mark places)

-- what stands after it
abbrev pub after_mark : EpochHeader → List ℕ
after_mark h = purpose_number h.purpose ∷ long h.epoch

-- The mark is a number of four bytes, and no frame is as long.
high_as : (places : ℕ) (b : Bool) → FitsPlaces places →
    (FRAME_BYTES < (if b then HEADER_MARK else PLACES_MARK + places))
    × ((if b then HEADER_MARK else PLACES_MARK + places) < 2 ^ 32)
high_as places true fits = (omega arith, omega arith)
high_as places false fits = (omega (arith, fits), omega (arith, fits))

pub mark_high : (places : ℕ) → FitsPlaces places →
    (FRAME_BYTES < header_mark places) × (header_mark places < 2 ^ 32)
unfolding header_mark
mark_high places fits = high_as places (places == LOG_ENTRIES) fits

pub mark_number : (places : ℕ) → FitsPlaces places → from_be_bytes w32 (mark places) ≡ header_mark places
mark_number places fits = from_be_bytes-to_be_bytes_4 (header_mark places) (mark_high places fits).1

-- what begins with the mark's bytes
pub mark_front : (places : ℕ) (bytes more others : List ℕ) → FitsPlaces places → 4 ≤ length bytes →
    bytes ++ more ≡ mark places ++ others → announced_length bytes ≡ header_mark places
mark_front places bytes more others fits le e =
    let front : take 4 bytes ≡ mark places = sym (take-append-le 4 bytes more le) ∙ ap (take 4) e
    ∙ take_at (mark places) others 4 refl in
    ap (from_be_bytes w32) front ∙ mark_number places fits

-- what begins as a header has its mark
pub mark_first : (places : ℕ) (bytes more others : List ℕ) (h : EpochHeader) → FitsPlaces places → 4 ≤ length bytes →
    bytes ++ more ≡ header_bytes places h ++ others → announced_length bytes ≡ header_mark places
mark_first places bytes more others h fits le e =
    mark_front places bytes more (after_mark h ++ others) fits le
    (e ∙ append_assoc (mark places) (after_mark h) others)

-- a header that is told
pub header_written : (places : ℕ) (h : EpochHeader) → is_untold places h ≡ false →
    header_spelling places h ≡ header_bytes places h
header_written places h e = ap (λ b. if b then [] else header_bytes places h) e

-- one that is untold
pub header_unwritten : (places : ℕ) (h : EpochHeader) → is_untold places h ≡ true → header_spelling places h ≡ []
header_unwritten places h e = ap (λ b. if b then [] else header_bytes places h) e

pub frame_no_header : PacketsFit → (places : ℕ) (m : Message) (h : EpochHeader) (more others : List ℕ) →
    FitsPlaces places → FitsMessage m → frame_spelling m ++ more ≡ header_bytes places h ++ others → ⊥
frame_no_header fit places m h more others fits f e =
    let bytes = frame_spelling m in
    let least : 4 ≤ length bytes = omega (arith, frame_length m) in
    let said = announced_is fit bytes more more m least f refl in
    let most : length (packet_spelling m) ≤ FRAME_BYTES = (fit m f).1 in
    let is_mark = mark_first places bytes more others h fits least e in
    omega (arith, said.0, most, is_mark, (mark_high places fits).0)

pub frames_begin_no_header : PacketsFit → FramesBeginNoHeader
frames_begin_no_header fit places m h more others fits f is e =
    frame_no_header fit places m h more others fits f (e ∙ ap (λ t. t ++ others) (header_written places h is))

-- a purpose has one number

pub purpose_back : (p : Purpose) → purpose_of (purpose_number p) ≡ Some p
purpose_back Step = refl
purpose_back Ask = refl
purpose_back Tell = refl

purpose_one : (p q : Purpose) → purpose_number p ≡ purpose_number q → p ≡ q
purpose_one p q e =
    let f : Some p ≡ Some q = sym (purpose_back p) ∙ ap purpose_of e ∙ purpose_back q in cc

and_left : (b c : Bool) → (b && c) ≡ true → b ≡ true
and_left true c e = refl
and_left false c e = e

and_right : (b c : Bool) → (b && c) ≡ true → c ≡ true
and_right true c e = e
and_right false c e = absurd (let stuck : ⊥ = cc in stuck)

pub first_is : (h : EpochHeader) → is_first h ≡ true → h ≡ record { epoch = 0; purpose = Step }
first_is h e =
    let epoch = eqb-true h.epoch 0 (and_left (h.epoch == 0) (purpose_number h.purpose == STEP) e) in
    let purpose = purpose_one h.purpose Step (eqb-true (purpose_number h.purpose) STEP
    (and_right (h.epoch == 0) (purpose_number h.purpose == STEP) e)) in
    ap (λ n. record { epoch = n; purpose = h.purpose }) epoch
    ∙ ap (λ p. record { epoch = 0; purpose = p }) purpose

pub untold_is_first : (places : ℕ) (h : EpochHeader) → is_untold places h ≡ true → is_first h ≡ true
untold_is_first places h e = and_right (places == LOG_ENTRIES) (is_first h) e

pub untold_places : (places : ℕ) (h : EpochHeader) → is_untold places h ≡ true → places ≡ LOG_ENTRIES
untold_places places h e = eqb-true places LOG_ENTRIES (and_left (places == LOG_ENTRIES) (is_first h) e)

-- bytes begin with one header that is told

pub written_one : (places : ℕ) (g h : EpochHeader) (r s : List ℕ) → FitsHeader g → FitsHeader h →
    header_bytes places g ++ r ≡ header_bytes places h ++ s → (g ≡ h) × (r ≡ s)
written_one places g h r s f k e =
    let whole : mark places ++ (after_mark g ++ r) ≡ mark places ++ (after_mark h ++ s) =
    sym (append_assoc (mark places) (after_mark g) r) ∙ e ∙ append_assoc (mark places) (after_mark h) s in
    let cut : after_mark g ++ r ≡ after_mark h ++ s =
    append_cancel_left (mark places) (after_mark g ++ r) (after_mark h ++ s) whole in
    let number : purpose_number g.purpose ≡ purpose_number h.purpose = cc in
    let epochs : long g.epoch ++ r ≡ long h.epoch ++ s = cc in
    let longs : long g.epoch ≡ long h.epoch = sym (take_at (long g.epoch) r 8 refl) ∙ ap (take 8) epochs
    ∙ take_at (long h.epoch) s 8 refl in
    let epoch : g.epoch ≡ h.epoch = sym (from_be_bytes-to_be_bytes_8 g.epoch f) ∙ ap (from_be_bytes w64) longs
    ∙ from_be_bytes-to_be_bytes_8 h.epoch k in
    let purpose = purpose_one g.purpose h.purpose number in
    let same : g ≡ h = ap (λ e. record { epoch = e; purpose = g.purpose }) epoch
    ∙ ap (λ p. record { epoch = h.epoch; purpose = p }) purpose in (
      same,
      sym (drop_at (long g.epoch) r 8 refl) ∙ ap (drop 8) epochs ∙ drop_at (long h.epoch) s 8 refl,
    )

-- what it is for bytes to have a header, where it is known whether that is untold
abbrev Has : ℕ → Bool → EpochHeader → List ℕ → Type 0
Has places untold h bytes = MatchBool untold (HasNoHeader places bytes)
    ((rest : List ℕ) × (bytes ≡ header_bytes places h ++ rest))

one_as : (places : ℕ) (g h : EpochHeader) (bytes : List ℕ) (b c : Bool) → is_untold places g ≡ b →
    is_untold places h ≡ c → FitsHeader g → FitsHeader h → Has places b g bytes → Has places c h bytes → g ≡ h
one_as places g h bytes true true e d f k p q =
    first_is g (untold_is_first places g e) ∙ sym (first_is h (untold_is_first places h d))
one_as places g h bytes true false e d f k p q = absurd (p h q.0 d k q.1)
one_as places g h bytes false true e d f k p q = absurd (q g p.0 e f p.1)
one_as places g h bytes false false e d f k p q = (written_one places g h p.0 q.0 f k (sym p.1 ∙ q.1)).0

pub headers_are_one : HeadersAreOne
headers_are_one places g h bytes f k p q =
    one_as places g h bytes (is_untold places g) (is_untold places h) refl refl f k p q

-- the frames of packets begin as no header does
pub frames_no_header : PacketsFit → (places : ℕ) (ms : List Message) (h : EpochHeader) (others : List ℕ) →
    FitsPlaces places → AreFit ms → frames_spelling ms ≡ header_bytes places h ++ others → ⊥
frames_no_header fit places [] h others fits f e = let stuck : ⊥ = cc in stuck
frames_no_header fit places (m ∷ ms) h others fits f e =
    frame_no_header fit places m h (frames_spelling ms) others fits f.0
    (sym (flat_map-cons frame_spelling m ms) ∙ e)

written_as : PacketsFit → (places : ℕ) (h : EpochHeader) (ms : List Message) (b : Bool) → is_untold places h ≡ b →
    FitsPlaces places → AreFit ms → Has places b h (header_spelling places h ++ frames_spelling ms)
written_as fit places h ms true e fits f = λ g others other k is.
    frames_no_header fit places ms g others fits f
    (sym (ap (λ t. t ++ frames_spelling ms) (header_unwritten places h e)) ∙ is)
written_as fit places h ms false e fits f =
    (frames_spelling ms, ap (λ t. t ++ frames_spelling ms) (header_written places h e))

pub headers_written : PacketsFit → HeadersAreWritten
headers_written fit places h ms fits f = written_as fit places h ms (is_untold places h) refl fits f

-- frames are of one list of packets
frames_one : FramesBeginNone → (ms ns : List Message) → AreFit ms → AreFit ns →
    frames_spelling ms ≡ frames_spelling ns → ms ≡ ns
frames_one law [] [] f g h = refl
frames_one law [] (n ∷ ns) f g h =
    let e : length (frame_spelling n ++ frames_spelling ns) ≡ 0 =
    ap length (sym (flat_map-cons frame_spelling n ns) ∙ sym h) in
    absurd (omega (arith, e, length-append (frame_spelling n) (frames_spelling ns), frame_length n))
frames_one law (m ∷ ms) [] f g h =
    let e : length (frame_spelling m ++ frames_spelling ms) ≡ 0 =
    ap length (sym (flat_map-cons frame_spelling m ms) ∙ h) in
    absurd (omega (arith, e, length-append (frame_spelling m) (frames_spelling ms), frame_length m))
frames_one law (m ∷ ms) (n ∷ ns) f g h =
    let one = law m n (frame_spelling m) (frame_spelling n) (frames_spelling ms) (frames_spelling ns)
    (record { fits = f.0; spelling = refl }) (record { fits = g.0; spelling = refl })
    (sym (flat_map-cons frame_spelling m ms) ∙ h ∙ flat_map-cons frame_spelling n ns) in
    let others = frames_one law ms ns f.1 g.1 one.2 in
    ap (λ t. t ∷ ms) one.0 ∙ ap (λ t. n ∷ t) others

-- what comes after a header
after_header : (places : ℕ) (g h : EpochHeader) (ms ns : List Message) → g ≡ h →
    header_spelling places g ++ frames_spelling ms ≡ header_spelling places h ++ frames_spelling ns →
    frames_spelling ms ≡ frames_spelling ns
after_header places g h ms ns same e =
    let of_one : header_spelling places h ++ frames_spelling ms ≡ header_spelling places h ++ frames_spelling ns =
    ap (λ x. header_spelling places x ++ frames_spelling ms) (sym same) ∙ e in
    append_cancel_left (header_spelling places h) (frames_spelling ms) (frames_spelling ns) of_one

pub streams_are_one : FramesBeginNone → PacketsFit → StreamsAreOne
streams_are_one law fit places g h ms ns fits f k am an e =
    let same : g ≡ h = headers_are_one places g h (header_spelling places g ++ frames_spelling ms) f k
    (headers_written fit places g ms fits am)
    (subst (HasHeader places h) (sym e) (headers_written fit places h ns fits an)) in
    (same, frames_one law ms ns am an (after_header places g h ms ns same e))
