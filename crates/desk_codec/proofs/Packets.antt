-- The packet of a start and entries.
use Rattle.std.proofs.Common.{◌≡◌, ℕ, zero, suc, ◌<◌, ◌≤◌, ◌||◌, Bool, true, false, eqb, List, [], ◌∷◌, ◌++◌, length}
use Rattle.std.proofs.Common.{drop, refl, sym, ap, subst, ◌∙◌, append-nil, arith, lit≤, Some, None}
use Rattle.std.specs.Prelude.{nat_lt}
use Rattle.std.specs.List.{flat_map, list_any}
use Rattle.std.proofs.lemmas.Bool.Decides.{nat_tests}
use Rattle.std.proofs.lemmas.List.{length-append, nil_from_length}
use Rattle.desk_types.specs.declared.command.Entry.{Entry}
use Rattle.desk_types.specs.declared.packet.Message.{Message}
use Rattle.desk_types.specs.declared.packet.Message.TheVariants.{Prepare, PrepareOk, Commit, StartViewChange}
use Rattle.desk_types.specs.declared.packet.Message.TheVariants.{DoViewChange, StartView, GetState, NewState}
use Rattle.desk_types.specs.Packet.{IsInRange}
use Rattle.desk_codec.specs.declared.start.PacketStart.{PacketStart}
use Rattle.desk_codec.specs.Packets.{rebuilt, PacketOf}
use Rattle.desk_codec.specs.Ranges.{FitsEntries, FitsMessage, FitsParts, IsPacketLength}
use Rattle.desk_codec.specs.Reading.{is_message_kind, kind_of_number}
use Rattle.desk_codec.specs.Spelling.{entry_spelling, packet_spelling, spelling_in, frame_spelling}
use Rattle.desk_codec.specs.Spelling.{SpellsFrame, AreOne, FramesBeginNone}
use Rattle.desk_codec.specs.Starts.{FitsKind, start_of, start_in, start_spelling, start_with, tells_new_place}
use Rattle.desk_codec.specs.Version.{entries_of, is_new_entry, is_new_place, places_of, version_by, version_of}
use Rattle.desk_codec.proofs.Entries.{entry_length, log_length}
use Rattle.desk_codec.proofs.Fronts.{same_ok}
use Rattle.desk_codec.proofs.Leads.{begins_so, count_in, entries, entries_fit, version_in}
use Rattle.desk_codec.proofs.Starts.{packet_reads, parts_in}

-- kinds

no_kind : (k : ℕ) → ((n : ℕ) → 1 ≤ n → n ≤ 8 → eqb k n ≡ false) → is_message_kind k ≡ false
unfolding kind_of_number
no_kind k other =
    rw (
      other 1 (lit≤ tt) (lit≤ tt),
      other 2 (lit≤ tt) (lit≤ tt),
      other 3 (lit≤ tt) (lit≤ tt),
      other 4 (lit≤ tt) (lit≤ tt),
      other 5 (lit≤ tt) (lit≤ tt),
      other 6 (lit≤ tt) (lit≤ tt),
      other 7 (lit≤ tt) (lit≤ tt),
      other 8 (lit≤ tt) (lit≤ tt),
    ) refl

pub kinds_between : (k : ℕ) → is_message_kind k ≡ true → (1 ≤ k) × (k ≤ 8)
kinds_between k is = (low (nat_lt k 1) refl, high (nat_lt 8 k) refl)
  where
    low : (b : Bool) → nat_lt k 1 ≡ b → 1 ≤ k
    low true t =
        let lt : k < 1 = grind (arith, nat_tests, t) in
        let none : false ≡ true = sym (no_kind k (λ n least most. grind (arith, nat_tests, lt, least))) ∙ is in
        absurd (let no : ⊥ = cc in no)
    low false t = grind (arith, nat_tests, t)

    high : (b : Bool) → nat_lt 8 k ≡ b → k ≤ 8
    high true t =
        let lt : 8 < k = grind (arith, nat_tests, t) in
        let none : false ≡ true = sym (no_kind k (λ n least most. grind (arith, nat_tests, lt, most))) ∙ is in
        absurd (let no : ⊥ = cc in no)
    high false t = grind (arith, nat_tests, t)

-- what holds of each kind
by_kind : (P : ℕ → Type 0) → P 1 → P 2 → P 3 → P 4 → P 5 → P 6 → P 7 → P 8 → (k : ℕ) → is_message_kind k ≡ true → P k
by_kind P a b c d e f g h k is = of k (kinds_between k is).0 (kinds_between k is).1
  where
    of : (k : ℕ) → 1 ≤ k → k ≤ 8 → P k
    of zero low high = absurd (omega (arith, low))
    of (suc zero) low high = a
    of (suc (suc zero)) low high = b
    of (suc (suc (suc zero))) low high = c
    of (suc (suc (suc (suc zero)))) low high = d
    of (suc (suc (suc (suc (suc zero))))) low high = e
    of (suc (suc (suc (suc (suc (suc zero)))))) low high = f
    of (suc (suc (suc (suc (suc (suc (suc zero))))))) low high = g
    of (suc (suc (suc (suc (suc (suc (suc (suc zero)))))))) low high = h
    of (suc (suc (suc (suc (suc (suc (suc (suc (suc k))))))))) low high = absurd (omega (arith, high))

-- the message has the fields and the entries

pub record Has (f : PacketStart) (es : List Entry) : Type 0 where
  pub start : start_in f.head.version (rebuilt f es) ≡ f
  pub all : entries_of (rebuilt f es) ≡ es

of_none : (es : List Entry) → length es ≡ 0 → [] ≡ es
of_none [] n = refl
of_none (e ∷ es) n = absurd (omega (arith, n))

module _ (version from view a b n : ℕ) (es : List Entry) where
  abbrev of_kind : ℕ → ℕ → ℕ → PacketStart
  of_kind k b i = start_with (record { version = version; kind = k; from = from; view = view }) a b i

  abbrev with_kind : ℕ → PacketStart
  with_kind k = of_kind k b n

  abbrev Rebuilds : ℕ → Type 0
  Rebuilds k = FitsKind (with_kind k) → length es ≡ n → Has (with_kind k) es

  one : (es : List Entry) → length es ≡ 1 → 1 ≡ n → Has (with_kind 1) es
  unfolding rebuilt start_in
  one [] len c = absurd (omega (arith, len))
  one (e ∷ []) len c = record { start = ap (of_kind 1 b) c; all = refl }
  one (e ∷ d ∷ es) len c = absurd (omega (arith, len))

  rebuilds : (k : ℕ) → is_message_kind k ≡ true → Rebuilds k
  unfolding rebuilt start_in
  rebuilds = by_kind Rebuilds
      (λ made len. one es (len ∙ sym (made.count refl)) (made.count refl))
      (λ made len. rw (sym (made.second refl), sym (made.count refl))
      (record { start = refl; all = of_none es (len ∙ sym (made.count refl)) }))
      (λ made len. rw (sym (made.second refl), sym (made.count refl))
      (record { start = refl; all = of_none es (len ∙ sym (made.count refl)) }))
      (λ made len. rw (sym (made.first refl), sym (made.second refl), sym (made.count refl))
      (record { start = refl; all = of_none es (len ∙ sym (made.count refl)) }))
      (λ made len. record { start = ap (of_kind 5 b) len; all = refl })
      (λ made len. rw (sym (made.second refl)) (record { start = ap (of_kind 6 0) len; all = refl }))
      (λ made len. rw (sym (made.second refl), sym (made.count refl))
      (record { start = refl; all = of_none es (len ∙ sym (made.count refl)) }))
      (λ made len. record { start = ap (of_kind 8 b) len; all = refl })

pub has : (f : PacketStart) (es : List Entry) → FitsKind f → length es ≡ f.count → Has f es
has f es made len =
    rebuilds f.head.version f.head.from f.head.view f.first f.second f.count es f.head.kind made.known made len

-- the places that a message tells
start_places : (version : ℕ) (m : Message) → tells_new_place (start_in version m) ≡ list_any is_new_place (places_of m)
unfolding tells_new_place start_in
start_places version (Prepare from view place commit entry) = refl
start_places version (PrepareOk from view place) = refl
start_places version (Commit from view commit) = refl
start_places version (StartViewChange from view) = refl
start_places version (DoViewChange from view normal commit log) = refl
start_places version (StartView from view commit log) = refl
start_places version (GetState from view base) = refl
start_places version (NewState from view base commit entries) = refl

-- a message is what its fields and entries make
again : (version : ℕ) (m : Message) → rebuilt (start_in version m) (entries_of m) ≡ m
unfolding rebuilt start_in
again version (Prepare from view place commit entry) = refl
again version (PrepareOk from view place) = refl
again version (Commit from view commit) = refl
again version (StartViewChange from view) = refl
again version (DoViewChange from view normal commit log) = refl
again version (StartView from view commit log) = refl
again version (GetState from view base) = refl
again version (NewState from view base commit entries) = refl

-- the version of a message
version_is : (version : ℕ) (m : Message) (f : PacketStart) (es : List Entry) → start_in version m ≡ f → entries_of m ≡
    es →
    version_of m ≡ version_by (tells_new_place f || list_any is_new_entry es)
version_is version m f es start all =
    ap (λ b. version_by (b || list_any is_new_entry (entries_of m))) (sym (start_places version m))
    ∙ ap (λ (g : PacketStart). version_by (tells_new_place g || list_any is_new_entry (entries_of m))) start
    ∙ ap (λ (ds : List Entry). version_by (tells_new_place f || list_any is_new_entry ds)) all

-- in another version there is none
pub other_version : (f : PacketStart) (es : List Entry) →
    (f.head.version ≡ version_by (tells_new_place f || list_any is_new_entry es) → ⊥) → PacketOf f es None
other_version f es other m fits start all =
    other (sym (ap (λ (g : PacketStart). g.head.version) start) ∙ version_in m (version_of m)
    ∙ version_is (version_of m) m f es start all)

-- out of its ranges there is none
pub out_of_range : (f : PacketStart) (es : List Entry) → (IsInRange (rebuilt f es) → ⊥) → PacketOf f es None
out_of_range f es out m fits start all =
    let same : rebuilt f es ≡ m =
    ap (λ (g : PacketStart). rebuilt g es) (sym start) ∙ ap (rebuilt (start_of m)) (sym all) ∙ again (version_of m) m in
    out (subst IsInRange (sym same) fits.range)

parts_of : (version : ℕ) (m : Message) → IsInRange m → (start_in version m).head.from < 256 → FitsEntries
    (entries_of m) →
    FitsParts m
unfolding start_in
parts_of version (Prepare from view place commit entry) r n e = (n, e.0)
parts_of version (PrepareOk from view place) r n e = n
parts_of version (Commit from view commit) r n e = n
parts_of version (StartViewChange from view) r n e = n
parts_of version (DoViewChange from view normal commit log) r n e = (n, (e, r.3))
parts_of version (StartView from view commit log) r n e = (n, (e, r.2))
parts_of version (GetState from view base) r n e = n
parts_of version (NewState from view base commit entries) r n e = (n, (e, omega (arith, r.2)))

-- the packet
pub packet_is : (f : PacketStart) (es : List Entry) → FitsKind f → FitsEntries es → length es ≡ f.count →
    f.head.version ≡ version_by (tells_new_place f || list_any is_new_entry es) → IsInRange (rebuilt f es) →
    PacketOf f es (Some (rebuilt f es))
unfolding packet_spelling
packet_is f es made fit len version range =
    let m = rebuilt f es in
    let h = has f es made len in
    let own : version_of m ≡ f.head.version = version_is f.head.version m f es h.start h.all ∙ sym version in
    let from : (start_in f.head.version m).head.from < 256 =
    subst (λ (g : PacketStart). g.head.from < 256) (sym h.start) made.from in (
      record { range = range; parts = parts_of f.head.version m range from (subst FitsEntries (sym h.all) fit) },
      ap (λ v. spelling_in v m) own ∙ parts_in f.head.version m
          ∙ ap (λ (g : PacketStart). start_spelling g ++ flat_map entry_spelling (entries_of m)) h.start
          ∙ ap (λ (ds : List Entry). start_spelling f ++ flat_map entry_spelling ds) h.all,
    )

-- lengths

pub packet_length : (m : Message) → FitsMessage m → IsPacketLength (length (packet_spelling m))
unfolding packet_spelling spelling_in
packet_length (Prepare from view place commit entry) f =
    let le = entry_length entry f.parts.1 in
    (omega arith, omega (arith, le))
packet_length (PrepareOk from view place) f = (omega arith, omega arith)
packet_length (Commit from view commit) f = (omega arith, omega arith)
packet_length (StartViewChange from view) f = (omega arith, omega arith)
packet_length (DoViewChange from view normal commit log) f =
    let le = log_length log f.parts.1.0 in
    (omega arith, omega (arith, le, f.parts.1.1))
packet_length (StartView from view commit log) f =
    let le = log_length log f.parts.1.0 in
    (omega arith, omega (arith, le, f.parts.1.1))
packet_length (GetState from view base) f = (omega arith, omega arith)
packet_length (NewState from view base commit entries) f =
    let le = log_length entries f.parts.1.0 in
    (omega arith, omega (arith, le, f.parts.1.1))

-- laws

-- no packet begins another
packets_begin_none : (m n : Message) (r s : List ℕ) → FitsMessage m → FitsMessage n →
    packet_spelling m ++ r ≡ packet_spelling n ++ s → (m ≡ n) × (r ≡ s)
packets_begin_none m n r s f g h =
    let same = same_ok (start_of m, entries (entries_of m) ++ r) (start_of n, entries (entries_of n) ++ s)
    (sym (packet_reads (packet_spelling m) r r m f refl) ∙ packet_reads (packet_spelling m) r s n g h) in
    let start : start_of m ≡ start_of n = ap (λ (p : PacketStart × List ℕ). p.0) same in
    let count : length (entries_of m) ≡ length (entries_of n) =
    sym (count_in (version_of m) m) ∙ ap (λ (g : PacketStart). g.count) start ∙ count_in (version_of n) n in
    let more = begins_so (entries_of m) (entries_of n) r s (entries_fit m f) (entries_fit n g)
    (omega (arith, count)) (ap (λ (p : PacketStart × List ℕ). p.1) same) in
    let none : more.0 ≡ [] =
    nil_from_length more.0 (omega (arith, count, ap length more.1, length-append (entries_of m) more.0)) in
    let all : entries_of n ≡ entries_of m =
    more.1 ∙ ap (λ (es : List Entry). entries_of m ++ es) none ∙ append-nil (entries_of m) in (
      sym (again (version_of m) m) ∙ ap (rebuilt (start_of m)) (sym all)
          ∙ ap (λ (g : PacketStart). rebuilt g (entries_of n)) start ∙ again (version_of n) n,
      more.2 ∙ ap (λ (es : List Entry). entries es ++ s) none,
    )

frames_same : (m n : Message) (r s : List ℕ) → FitsMessage m → FitsMessage n →
    frame_spelling m ++ r ≡ frame_spelling n ++ s → (m ≡ n) × (r ≡ s)
unfolding frame_spelling
frames_same m n r s f g h = packets_begin_none m n r s f g (ap (drop 4) h)

pub frames_begin_none : FramesBeginNone
frames_begin_none m n x y r s p q h =
    let same : frame_spelling m ++ r ≡ frame_spelling n ++ s =
    ap (λ z. z ++ r) (sym p.spelling) ∙ h ∙ ap (λ z. z ++ s) q.spelling in
    let both = frames_same m n r s p.fits q.fits same in
    (both.0, p.spelling ∙ ap frame_spelling both.0 ∙ sym q.spelling, both.1)

pub frames_are_one : AreOne SpellsFrame
frames_are_one m n x y s t = (
  (λ is. s.spelling ∙ ap frame_spelling is ∙ sym t.spelling),
  (λ is. (frames_begin_none m n x y [] [] s t (ap (λ z. z ++ []) is)).0),
)
