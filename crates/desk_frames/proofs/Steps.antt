-- One step of the frame that stands open.
use Rattle.std.proofs.Common.{◌≡◌, ℕ, ◌+◌, ◌-◌, ◌<◌, ◌≤◌, ◌⊎◌, inl, inr, Bool, true, false, cond}
use Rattle.std.proofs.Common.{List, [], ◌∷◌, ◌++◌, length, take, drop, Option, Some, None, refl, sym, ap, subst, ◌∙◌}
use Rattle.std.proofs.Common.{append_assoc, append-nil, arith}
use Rattle.std.specs.Prelude.{nat_le, Ok, Err}
use Rattle.std.specs.Int.{w32, to_be_bytes, from_be_bytes}
use Rattle.std.proofs.lemmas.Bool.Decides.{nat_tests}
use Rattle.std.proofs.lemmas.List.{length-append, take_at, drop_at, take_all, take-append-drop, take-append-le}
use Rattle.std.proofs.lemmas.List.{length-take-le}
use Rattle.std.proofs.lemmas.Nat.{be_bytes_4, from_be_bytes-to_be_bytes_4}
use Rattle.desk_types.specs.declared.command.Entry.{Entry}
use Rattle.desk_types.specs.declared.limits.TheConstants.{FRAME_BYTES}
use Rattle.desk_types.specs.declared.packet.Message.{Message}
use Rattle.desk_codec.specs.declared.TheConstants.{HEAD_BYTES}
use Rattle.desk_codec.specs.declared.fault.Lack.TheVariants.{Needs}
use Rattle.desk_codec.specs.declared.start.PacketStart.{PacketStart}
use Rattle.desk_codec.specs.Entries.{BeginsNoEntry, EntryNeeds}
use Rattle.desk_codec.specs.Packets.{PacketOf, begun}
use Rattle.desk_codec.specs.Ranges.{FitsMessage, IsPacketLength, is_packet_length}
use Rattle.desk_codec.specs.Spelling.{SpellsEntry, entry_spelling, packet_spelling, frame_spelling}
use Rattle.desk_codec.specs.Starts.{NoStart, front_head, front_start, start_spelling}
use Rattle.desk_codec.proofs.Entries.{needs_none}
use Rattle.desk_codec.proofs.Forms.{IsBytes, IsBytes-take, and_parts}
use Rattle.desk_codec.proofs.Fronts.{ok_err}
use Rattle.desk_codec.proofs.Leads.{no_entry, only_these, short_none, short_start, these_are}
use Rattle.desk_codec.proofs.Packets.{packet_length}
use Rattle.desk_codec.proofs.Starts.{start_is_front}
use Rattle.desk_codec.proofs.Wholes.{begun_with}
use Rattle.desk_frames.specs.declared.frame.FrameStage.{FrameStage}
use Rattle.desk_frames.specs.declared.frame.FrameStage.TheVariants as stages
use Rattle.desk_frames.specs.Frame.{FrameState, IsOpen, Stands, position, AfterPart, Arrives, Moved, in_frame}
use Rattle.desk_frames.specs.Frame.{Awaits, Covers, stage_after_length}
use Rattle.desk_frames.specs.Stream.{Standing, Open, Doomed, Stopped, Holds, BeginsNone, announced_length, IsPartial}
use Rattle.desk_frames.proofs.Cuttings.{bad_longer}
use Rattle.desk_frames.proofs.FirstFrames.{announced_is, bad_length}

announced_back : (announced : ℕ) (b : List ℕ) → announced ≤ FRAME_BYTES →
    announced_length (in_frame announced b) ≡ announced
announced_back announced b le = ap (from_be_bytes w32) (take_at (to_be_bytes w32 announced) b 4 refl)
    ∙ from_be_bytes-to_be_bytes_4 announced (omega (arith, le))

-- no packet of so many bytes begins so
abbrev pub NoneOf : ℕ → List ℕ → Type 0
NoneOf announced b = (m : Message) (more others : List ℕ) → FitsMessage m → length (packet_spelling m) ≡ announced →
    b ++ more ≡ packet_spelling m ++ others → ⊥

none_frame : (announced : ℕ) (b : List ℕ) → announced ≤ FRAME_BYTES → NoneOf announced b →
    BeginsNone (in_frame announced b)
none_frame announced b le none m more others f h =
    let four : 4 ≤ length (in_frame announced b) = omega (arith, length-append (to_be_bytes w32 announced) b) in
    let t = announced_is packet_length (in_frame announced b) more others m four f h in
    let d : drop 4 (in_frame announced b) ≡ b = drop_at (to_be_bytes w32 announced) b 4 refl in
    none m more others f (sym t.0 ∙ announced_back announced b le) (ap (λ r. r ++ more) (sym d) ∙ t.1)

-- bytes of a whole frame, which spell no packet
whole_none : (announced : ℕ) (b : List ℕ) → length b ≡ announced →
    ((m : Message) → FitsMessage m → b ≡ packet_spelling m → ⊥) →
    NoneOf announced b
whole_none announced b n none m more others f len h =
    none m f (sym (take_at b more announced n) ∙ ap (take announced) h ∙ take_at (packet_spelling m) others announced
    len)

-- less than a whole frame is there
pub partial_at : (announced : ℕ) (b x : List ℕ) → IsPacketLength announced → length b + length x < announced →
    IsPartial (in_frame announced b ++ x)
partial_at announced b x range lt =
    let w = in_frame announced b ++ x in
    let same : w ≡ in_frame announced (b ++ x) = append_assoc (to_be_bytes w32 announced) b x in
    let back : announced_length w ≡ announced = ap announced_length same ∙ announced_back announced (b ++ x) range.1 in
    let len : length w ≡ 4 + length (b ++ x) = ap length same ∙ length-append (to_be_bytes w32 announced) (b ++ x) in
    let less : length w < 4 + announced = omega (arith, len, length-append b x, lt) in
    inr (subst IsPacketLength (sym back) range, subst (λ (k : ℕ). length w < 4 + k) (sym back) less)

-- after a start or an entry

module _ (announced left : ℕ) (f : PacketStart) (es : List Entry) (more : ℕ) (o : IsOpen announced left f es more) where
  abbrev b : List ℕ
  b = begun f es

  -- bytes of an entry that begins no packet
  pub none_begins : (x : List ℕ) → 0 < more → BeginsNoEntry f.head.version (take left x) →
      BeginsNone (in_frame announced (b ++ x))
  none_begins x some none = none_frame announced (b ++ x) o.range.1 (λ m rest others fits len h.
      let again : (b ++ take left x) ++ (drop left x ++ rest) ≡ (b ++ x) ++ rest =
      sym (append_assoc (b ++ take left x) (drop left x) rest)
      ∙ ap (λ r. r ++ rest) (append_assoc b (take left x) (drop left x) ∙ ap (λ r. b ++ r) (take-append-drop left x)) in
      no_entry f es more o.has (take left x) some none m (drop left x ++ rest) others fits (again ∙ h))

  short_of : (y : List ℕ) → 0 < more → length y ≡ left → EntryNeeds y → NoneOf announced (b ++ y)
  short_of y some n needs = whole_none announced (b ++ y) (omega (arith, length-append b y, n, o.sum))
      (λ m fits h. short_none f es more o.has y some needs m fits h)

  -- an entry that is not whole with the frame's last byte
  pub short_begins : (x : List ℕ) → 0 < more → left ≤ length x → EntryNeeds (take left x) →
      BeginsNone (in_frame announced (b ++ take left x))
  short_begins x some le needs = none_frame announced (b ++ take left x) o.range.1
      (short_of (take left x) some (length-take-le left x le) needs)

  pub goes_short : 0 < more → left ≡ 0 → AfterPart announced f es None stages.Stopped es
  goes_short some none = record {
    arrives = none_frame announced b o.range.1
        (subst (NoneOf announced) (append-nil b) (short_of [] some (sym none) (inl (omega arith))));
    stands = tt;
    keeps = λ a. absurd a;
  }

  -- the packet is whole
  pub goes_whole : (m : Message) (now : List Entry) → more ≡ 0 → left ≡ 0 → now ≡ [] → PacketOf f es (Some m) →
      AfterPart announced f es (Some m) stages.Length now
  unfolding frame_spelling
  goes_whole m now all none is p =
      let len : length (packet_spelling m) ≡ announced = ap length p.1 ∙ omega (arith, o.sum, none) in
      let same : b ++ [] ≡ packet_spelling m ++ [] = ap (λ r. r ++ []) (sym p.1) in
      record {
        arrives = (
          p.0,
          refl,
          ap (λ k. to_be_bytes w32 k ++ b) (sym len)
              ∙ ap (λ r. to_be_bytes w32 (length (packet_spelling m)) ++ r) (sym p.1),
        );
        stands = is;
        keeps = (only_these f es more o.has all m [] [] p.0 same).1;
      }

  -- bytes are left over
  pub goes_over : (now : List Entry) → more ≡ 0 → 0 < left → AfterPart announced f es None (stages.Doomed left) now
  goes_over now none some =
      let never : NoneOf announced b = λ n rest others fits len h.
      let whole = these_are f es more o.has none n rest others fits h in
      omega (arith, len, ap length whole, o.sum, some) in
      let back : announced_length (in_frame announced b) ≡ announced = announced_back announced b o.range.1 in
      let size : length (in_frame announced b) ≡ 4 + length b = length-append (to_be_bytes w32 announced) b in
      record {
        arrives = (
          none_frame announced b o.range.1 never,
          omega (arith, size),
          subst IsPacketLength (sym back) o.range,
          some,
          omega (arith, size, o.sum, back),
        );
        stands = some;
        keeps = λ a. absurd a;
      }

  -- no packet has them
  pub goes_nowhere : (now : List Entry) → more ≡ 0 → PacketOf f es None →
      AfterPart announced f es None stages.Stopped now
  goes_nowhere now none p =
      let never : NoneOf announced b = λ n rest others fits len h.
      let same = only_these f es more o.has none n rest others fits h in
      p n fits same.0 same.1 in
      record { arrives = none_frame announced b o.range.1 never; stands = tt; keeps = λ a. absurd a }

-- by the frame, as the code has it

abbrev pub MovesTo : FrameState → List ℕ → FrameState → Type 0
MovesTo f x g = (bytes : List ℕ) → Holds (position f []) bytes → Holds (position g []) (bytes ++ x)

standing_at : (f : FrameState) (p : FrameStage) → f.stage ≡ p →
    position f [] ≡ position (record { stage = p; entries = f.entries }) []
standing_at f p e = ap (λ (p : FrameStage). position (record { stage = p; entries = f.entries }) []) e

-- a frame stands as what it is seen as
pub stands_seen : (f g : FrameState) → g ≡ f → Stands g.stage g.entries → Stands f.stage f.entries
stands_seen f g e stands = subst (λ (k : FrameState). Stands k.stage k.entries) e stands

-- what came after some bytes of the frame
arrives_moved : (f g : FrameState) (announced : ℕ) (front y x : List ℕ) (packet : Option Message) →
    position f [] ≡ Open (in_frame announced front ++ []) → front ++ x ≡ y →
    Arrives (in_frame announced y) packet (position g []) → Moved (position f []) x packet (position g [])
arrives_moved f g announced front y x packet old whole = of packet
  where
    is : (bytes : List ℕ) → Holds (position f []) bytes → bytes ++ x ≡ in_frame announced y
    is bytes hold =
        let h : Holds (Open (in_frame announced front ++ [])) bytes =
        subst (λ (s : Standing). Holds s bytes) old hold in
        ap (λ r. r ++ x) (h.0 ∙ append-nil (in_frame announced front)) ∙ append_assoc (to_be_bytes w32 announced)
        front x
        ∙ ap (in_frame announced) whole

    of : (packet : Option Message) → Arrives (in_frame announced y) packet (position g []) →
        Moved (position f []) x packet (position g [])
    of None a = λ bytes hold. subst (Holds (position g [])) (sym (is bytes hold)) a
    of (Some m) a = (a.0, a.1, λ bytes hold. is bytes hold ∙ a.2)

-- the bytes that are the frame's are those that are there
front_same : (left n : ℕ) (bytes : List ℕ) → n ≤ length (take left bytes) → take n (take left bytes) ≡ take n bytes
front_same left n bytes le =
    sym (take-append-le n (take left bytes) (drop left bytes) le) ∙ ap (take n) (take-append-drop left bytes)

pub front_within : (left n : ℕ) (bytes : List ℕ) → n ≤ length (take left bytes) → n ≤ length bytes
front_within left n bytes le = omega (
  arith,
  le,
  ap length (take-append-drop left bytes),
  length-append (take left bytes) (drop left bytes),
)

-- no more waited than is taken
short_by : (n k : ℕ) → (n ≤ k → ⊥) → k ≤ n
short_by n k none = of (nat_le n k) refl
  where
    of : (z : Bool) → nat_le n k ≡ z → k ≤ n
    of true z = absurd (none (grind (arith, nat_tests, z)))
    of false z = grind (arith, nat_tests, z)

module _ (announced left : ℕ) (s : PacketStart) (more : ℕ) (f : FrameState)
    (e : f.stage ≡ stages.Entries announced left s more) (stands : Stands f.stage f.entries) where
  pub is_open : IsOpen announced left s f.entries more × (0 < more) × (0 < left)
  is_open = subst (λ (p : FrameStage). Stands p f.entries) e stands

  old_is : position f [] ≡ Open (in_frame announced (begun s f.entries) ++ [])
  old_is = standing_at f (stages.Entries announced left s more) e

  waits : (x : List ℕ) → Awaits f.stage x → EntryNeeds x × (length x < left)
  waits x a = subst (λ (p : FrameStage). Awaits p x) e a

  pub entry_moves : (g : FrameState) (entry : Entry) (n : ℕ) (bytes : List ℕ) (packet : Option Message) →
      n ≤ length (take left bytes) → SpellsEntry entry (take n (take left bytes)) →
      AfterPart announced s (f.entries ++ entry ∷ []) packet g.stage g.entries →
      Moved (position f []) (take n bytes) packet (position g [])
  entry_moves g entry n bytes packet le spells beyond =
      arrives_moved f g announced (begun s f.entries) (begun s (f.entries ++ entry ∷ [])) (take n bytes) packet old_is
      (ap (λ r. begun s f.entries ++ r) (sym (front_same left n bytes le) ∙ spells.spelling)
      ∙ sym (begun_with s f.entries entry)) beyond.arrives

  pub entry_covers : (entry : Entry) (n : ℕ) (bytes : List ℕ) → n ≤ length (take left bytes) →
      SpellsEntry entry (take n (take left bytes)) → Covers f.stage bytes n
  entry_covers entry n bytes le spells x y is a = short_by n (length x) (λ few.
      let front : take n x ≡ entry_spelling entry =
      sym (take-append-le n x y few) ∙ ap (take n) (sym is) ∙ sym (front_same left n bytes le) ∙ spells.spelling in
      needs_none x (drop n x) entry (waits x a).0 spells.fits
      (sym (take-append-drop n x) ∙ ap (λ r. r ++ drop n x) front))

  pub stops_none : (x : List ℕ) (now : List Entry) → BeginsNoEntry s.head.version (take left x) →
      MovesTo f (take (length x) x) (record { stage = stages.Stopped; entries = now })
  stops_none x now none =
      arrives_moved f (record { stage = stages.Stopped; entries = now }) announced (begun s f.entries)
      (begun s f.entries ++ x) (take (length x) x) None old_is
      (ap (λ r. begun s f.entries ++ r) (take_all (length x) x (omega arith)))
      (none_begins announced left s f.entries more is_open.0 x is_open.1 none)

  pub stops_short : (x : List ℕ) (now : List Entry) → left ≤ length x → EntryNeeds (take left x) →
      MovesTo f (take left x) (record { stage = stages.Stopped; entries = now })
  stops_short x now le needs =
      arrives_moved f (record { stage = stages.Stopped; entries = now }) announced (begun s f.entries)
      (begun s f.entries ++ take left x) (take left x) None old_is refl
      (short_begins announced left s f.entries more is_open.0 x is_open.1 le needs)

  pub left_covers : (bytes : List ℕ) → Covers f.stage bytes left
  left_covers bytes x y is a = omega (arith, (waits x a).1)

module _ (announced : ℕ) (f : FrameState) (e : f.stage ≡ stages.Start announced) (stands : Stands f.stage f.entries)
  where
    pub starts : (f.entries ≡ []) × IsPacketLength announced
    starts = subst (λ (p : FrameStage). Stands p f.entries) e stands

    start_is : position f [] ≡ Open (in_frame announced [] ++ [])
    start_is = standing_at f (stages.Start announced) e

    start_waits : (x : List ℕ) → Awaits f.stage x → (front_start x ≡ Err Needs) × (length x < announced)
    start_waits x a = subst (λ (p : FrameStage). Awaits p x) e a

    pub start_moves : (g : FrameState) (s : PacketStart) (n : ℕ) (bytes : List ℕ) (packet : Option Message) →
        n ≤ length (take announced bytes) → take n (take announced bytes) ≡ start_spelling s →
        AfterPart announced s f.entries packet g.stage g.entries →
        Moved (position f []) (take n bytes) packet (position g [])
    start_moves g s n bytes packet le is beyond =
        arrives_moved f g announced [] (begun s f.entries) (take n bytes) packet start_is
        (sym (front_same announced n bytes le) ∙ is ∙ sym (append-nil (start_spelling s))
        ∙ ap (begun s) (sym starts.0)) beyond.arrives

    pub start_covers : (s : PacketStart) (n : ℕ) (bytes : List ℕ) → n ≤ length (take announced bytes) →
        take n (take announced bytes) ≡ start_spelling s → front_start (start_spelling s) ≡ Ok (s, []) →
        Covers f.stage bytes n
    start_covers s n bytes le front reads x y is a = short_by n (length x) (λ few.
        let begins : take n x ≡ start_spelling s =
        sym (take-append-le n x y few) ∙ ap (take n) (sym is) ∙ sym (front_same announced n bytes le) ∙ front in
        let whole : x ≡ start_spelling s ++ drop n x =
        sym (take-append-drop n x) ∙ ap (λ r. r ++ drop n x) begins in
        ok_err (s, drop n x) Needs (sym (start_is_front.found (start_spelling s) (drop n x) (s, []) reads)
        ∙ ap front_start (sym whole) ∙ (start_waits x a).0))

    pub start_none : (x : List ℕ) (now : List Entry) → NoStart (take announced x) →
        MovesTo f (take (length x) x) (record { stage = stages.Stopped; entries = now })
    start_none x now none =
        arrives_moved f (record { stage = stages.Stopped; entries = now }) announced [] x (take (length x) x) None
        start_is
        (take_all (length x) x (omega arith)) (none_frame announced x starts.1.1 (λ m more others fits len h.
        none m (drop announced x ++ more) others fits
        (sym (append_assoc (take announced x) (drop announced x) more) ∙ ap (λ r. r ++ more)
        (take-append-drop announced x) ∙ h)))

    pub start_short : (x : List ℕ) (now : List Entry) → announced ≤ length x →
        front_start (take announced x) ≡ Err Needs →
        MovesTo f (take announced x) (record { stage = stages.Stopped; entries = now })
    start_short x now le needs =
        arrives_moved f (record { stage = stages.Stopped; entries = now }) announced [] (take announced x)
        (take announced x) None
        start_is refl (none_frame announced (take announced x) starts.1.1
        (whole_none announced (take announced x) (length-take-le announced x le)
        (λ m fits h. short_start (take announced x) needs m fits h)))

    pub announced_covers : (bytes : List ℕ) → Covers f.stage bytes announced
    announced_covers bytes x y is a = omega (arith, (start_waits x a).1)

-- all of the bytes are taken
pub all_covers : (p : FrameStage) (bytes : List ℕ) → Covers p bytes (length bytes)
all_covers p bytes x y is a = omega (arith, ap length is, length-append x y)

-- a start and an entry have bytes
pub start_some : (s : PacketStart) → 0 < length (start_spelling s)
unfolding start_spelling
start_some s = omega arith

pub entry_some : (entry : Entry) → 0 < length (entry_spelling entry)
unfolding entry_spelling
entry_some entry = omega arith

pub some_taken : (n : ℕ) (bytes x : List ℕ) → n ≤ length bytes → take n bytes ≡ x → 0 < length x → 0 < n
some_taken n bytes x le is some = omega (arith, length-take-le n bytes le, ap length is, some)

-- the length of a frame

module _ (f : FrameState) (begins : f.stage ≡ stages.Length) (stands : Stands f.stage f.entries) (bytes : List ℕ)
    (n : 4 ≤ length bytes) (h : IsBytes bytes) where
  abbrev announced : ℕ
  announced = announced_length bytes

  abbrev x : List ℕ
  x = take 4 bytes

  none : f.entries ≡ []
  none = subst (λ (p : FrameStage). Stands p f.entries) begins stands

  old_begins : position f [] ≡ Open []
  old_begins = standing_at f stages.Length begins

  announced_bytes : in_frame announced [] ≡ x
  announced_bytes = append-nil (to_be_bytes w32 announced)
      ∙ be_bytes_4 x announced (length-take-le 4 bytes n) (IsBytes-take 4 bytes h) refl

  abbrev at : FrameStage → FrameState
  at p = record { stage = p; entries = f.entries }

  abbrev LengthMoves : FrameStage → Type 0
  LengthMoves p = MovesTo f x (at p) × Stands p f.entries

  from_old : (p : FrameStage) → ((b : List ℕ) → Holds (Open []) b → Holds (position (at p) []) (b ++ x)) →
      MovesTo f x (at p)
  from_old p moved = subst (λ (old : Standing). Moved old x None (position (at p) [])) (sym old_begins) moved

  moves_in : (b : Bool) → is_packet_length announced ≡ b → LengthMoves (cond b (stages.Start announced) stages.Stopped)
  moves_in true c =
      let p = and_parts (nat_le HEAD_BYTES announced) (nat_le announced FRAME_BYTES) c in
      let least : HEAD_BYTES ≤ announced = grind (arith, nat_tests, p.0) in
      let most : announced ≤ FRAME_BYTES = grind (arith, nat_tests, p.1) in (
        from_old (stages.Start announced) (λ b hold. (
          ap (λ r. r ++ x) hold.0 ∙ sym announced_bytes ∙ sym (append-nil (in_frame announced [])),
          partial_at announced [] [] (least, most) (omega (arith, least)),
        )),
        (none, (least, most)),
      )
  moves_in false c =
      let out : (announced_length x < HEAD_BYTES) ⊎ (FRAME_BYTES < announced_length x) =
      subst (λ (k : ℕ). (k < HEAD_BYTES) ⊎ (FRAME_BYTES < k)) (sym same) (out_of (nat_le HEAD_BYTES announced) refl) in
      let bad : BeginsNone x =
      bad_length packet_length x (omega (arith, length-take-le 4 bytes n)) out in (
        from_old stages.Stopped (λ b hold. subst BeginsNone (sym (ap (λ r. r ++ x) hold.0)) bad),
        tt,
      )
    where
      same : announced_length x ≡ announced
      same = ap (from_be_bytes w32) (take_all 4 x (omega (arith, length-take-le 4 bytes n)))

      out_of : (b : Bool) → nat_le HEAD_BYTES announced ≡ b → (announced < HEAD_BYTES) ⊎ (FRAME_BYTES < announced)
      out_of false d = inl (grind (arith, nat_tests, d))
      out_of true d =
          let high : nat_le announced FRAME_BYTES ≡ false = rw d at c in
          inr (grind (arith, nat_tests, high))

  pub length_moves : (p : FrameStage) → p ≡ stage_after_length announced → LengthMoves p
  length_moves p is = subst LengthMoves (sym is) (moves_in (is_packet_length announced) refl)

  pub length_covers : Covers f.stage bytes 4
  length_covers y z is a =
      let lt : length y < 4 = subst (λ (p : FrameStage). Awaits p y) begins a in
      omega (arith, lt)

-- bytes of a frame that no packet begins

module _ (left : ℕ) (f : FrameState) (e : f.stage ≡ stages.Doomed left) (x : List ℕ) where
  doomed_bytes : (bytes : List ℕ) → Holds (position f []) bytes → Holds (Doomed left) bytes
  doomed_bytes bytes hold = subst (λ (s : Standing). Holds s bytes) (standing_at f (stages.Doomed left) e) hold

  pub passes_on : (now : List Entry) → length x < left →
      MovesTo f (take (length x) x) (record { stage = stages.Doomed (left - length x); entries = now })
  passes_on now lt bytes hold =
      let h = doomed_bytes bytes hold in
      let same : announced_length (bytes ++ x) ≡ announced_length bytes =
      ap (from_be_bytes w32) (take-append-le 4 bytes x h.1) in
      let len : length (bytes ++ x) ≡ length bytes + length x = length-append bytes x in
      subst (λ r. Holds (Doomed (left - length x)) (bytes ++ r)) (sym (take_all (length x) x (omega arith))) (
        bad_longer bytes x h.0,
        omega (arith, len, h.1),
        subst IsPacketLength (sym same) h.2,
        omega (arith, lt),
        omega (arith, len, same, lt, h.4),
      )

  pub passes_end : (now : List Entry) →
      MovesTo f (take (length x) x) (record { stage = stages.Stopped; entries = now })
  passes_end now bytes hold = bad_longer bytes (take (length x) x) (doomed_bytes bytes hold).0

-- where no byte is there, more are needed
pub awaits_nothing : (p : FrameStage) (es : List Entry) → Stands p es → Awaits p []
unfolding front_start front_head
awaits_nothing stages.Length es o = omega arith
awaits_nothing (stages.Start announced) es o = (refl, omega (arith, o.1.0))
awaits_nothing (stages.Entries announced left s more) es o = (inl (omega arith), o.2)
awaits_nothing (stages.Doomed left) es o = refl
awaits_nothing stages.Stopped es o = refl
