-- Which packets bytes begin, by what came of their start and their entries.
use Rattle.std.proofs.Common.{◌≡◌, ℕ, ◌≤◌, ◌<◌, ◌||◌, not, Bool, true, false, eqb, List, [], ◌∷◌, ◌++◌, length}
use Rattle.std.proofs.Common.{refl, sym, ap, subst, ◌∙◌, append_assoc, append-nil, arith}
use Rattle.std.specs.Prelude.{Err}
use Rattle.std.specs.List.{flat_map, list_any}
use Rattle.std.proofs.lemmas.List.{length-append, nil_from_length}
use Rattle.std.proofs.lemmas.List.Concat.{flat_map-cons}
use Rattle.desk_types.specs.declared.command.Entry.{Entry}
use Rattle.desk_types.specs.declared.packet.Message.{Message}
use Rattle.desk_types.specs.declared.packet.Message.TheVariants.{Prepare, PrepareOk, Commit, StartViewChange}
use Rattle.desk_types.specs.declared.packet.Message.TheVariants.{DoViewChange, StartView, GetState, NewState}
use Rattle.desk_codec.specs.declared.fault.Lack.TheVariants.{Needs}
use Rattle.desk_codec.specs.declared.start.PacketStart.{PacketStart}
use Rattle.desk_codec.specs.Entries.{is_entry_in, EntryNeeds, BeginsNoEntry}
use Rattle.desk_codec.specs.Packets.{HasBegun, begun}
use Rattle.desk_codec.specs.Ranges.{FitsEntries, FitsMessage}
use Rattle.desk_codec.specs.Spelling.{entry_spelling, packet_spelling}
use Rattle.desk_codec.specs.Starts.{front_start, start_spelling, start_of, start_in, NoStart}
use Rattle.desk_codec.specs.Version.{entries_of, is_new_entry, is_new_place, places_of, version_by, version_of}
use Rattle.desk_codec.proofs.Entries.{entries_begin_none, needs_none}
use Rattle.desk_codec.proofs.Fronts.{same_ok, ok_err}
use Rattle.desk_codec.proofs.Starts.{start_is_front, packet_parts, packet_reads}

abbrev pub entries : List Entry → List ℕ
entries es = flat_map entry_spelling es

-- the entries of a packet fit
pub entries_fit : (m : Message) → FitsMessage m → FitsEntries (entries_of m)
entries_fit (Prepare from view place commit entry) f = (f.parts.1, tt)
entries_fit (PrepareOk from view place) f = tt
entries_fit (Commit from view commit) f = tt
entries_fit (StartViewChange from view) f = tt
entries_fit (DoViewChange from view normal commit log) f = f.parts.1.0
entries_fit (StartView from view commit log) f = f.parts.1.0
entries_fit (GetState from view base) f = tt
entries_fit (NewState from view base commit entries) f = f.parts.1.0

-- a packet's start tells how many they are
pub count_in : (version : ℕ) (m : Message) → (start_in version m).count ≡ length (entries_of m)
unfolding start_in
count_in version (Prepare from view place commit entry) = refl
count_in version (PrepareOk from view place) = refl
count_in version (Commit from view commit) = refl
count_in version (StartViewChange from view) = refl
count_in version (DoViewChange from view normal commit log) = refl
count_in version (StartView from view commit log) = refl
count_in version (GetState from view base) = refl
count_in version (NewState from view base commit entries) = refl

-- some entries, and others that begin so: they are the first of them
pub begins_so : (es ds : List Entry) (x rest : List ℕ) → FitsEntries es → FitsEntries ds → length es ≤ length ds →
    entries es ++ x ≡ entries ds ++ rest → (os : List Entry) × (ds ≡ es ++ os) × (x ≡ entries os ++ rest)
begins_so [] ds x rest f g le h = (ds, refl, h)
begins_so (e ∷ es) [] x rest f g le h = absurd (omega (arith, le))
begins_so (e ∷ es) (d ∷ ds) x rest f g le h =
    let left : entries (e ∷ es) ++ x ≡ entry_spelling e ++ (entries es ++ x) =
    ap (λ r. r ++ x) (flat_map-cons entry_spelling e es) ∙ append_assoc (entry_spelling e) (entries es) x in
    let right : entries (d ∷ ds) ++ rest ≡ entry_spelling d ++ (entries ds ++ rest) =
    ap (λ r. r ++ rest) (flat_map-cons entry_spelling d ds) ∙ append_assoc (entry_spelling d) (entries ds) rest in
    let one = entries_begin_none e d (entry_spelling e) (entry_spelling d) (entries es ++ x) (entries ds ++ rest)
    (record { fits = f.0; spelling = refl }) (record { fits = g.0; spelling = refl }) (sym left ∙ h ∙ right) in
    let more = begins_so es ds x rest f.1 g.1 (omega (arith, le)) one.2 in
    (more.0, ap (λ e. e ∷ ds) (sym one.0) ∙ ap (λ r. e ∷ r) more.1, more.2)

-- a packet that begins so
pub record LeadsTo (f : PacketStart) (es : List Entry) (x more others : List ℕ) (m : Message) : Type 0 where
  pub start : start_of m ≡ f
  pub last : List Entry
  pub all : entries_of m ≡ es ++ last
  pub rest : x ++ more ≡ entries last ++ others

pub leads : (f : PacketStart) (es : List Entry) (left : ℕ) (x more others : List ℕ) (m : Message) →
    HasBegun f es left → FitsMessage m → (begun f es ++ x) ++ more ≡ packet_spelling m ++ others →
    LeadsTo f es x more others m
leads f es left x more others m has fits h =
    let s = start_spelling f in
    let after = entries es ++ (x ++ more) in
    let regrouped : (begun f es ++ x) ++ more ≡ s ++ after =
    append_assoc (begun f es) x more ∙ append_assoc s (entries es) (x ++ more) in
    let same = same_ok (start_of m, entries (entries_of m) ++ others) (f, after)
    (sym (packet_reads (begun f es ++ x) more others m fits h) ∙ ap front_start regrouped
    ∙ start_is_front.found s after (f, []) has.reads) in
    let start : start_of m ≡ f = ap (λ (p : PacketStart × List ℕ). p.0) same in
    let count : f.count ≡ length (entries_of m) =
    sym (ap (λ (g : PacketStart). g.count) start) ∙ count_in (version_of m) m in
    let both = begins_so es (entries_of m) (x ++ more) others has.fit (entries_fit m fits)
    (omega (arith, has.count, count)) (sym (ap (λ (p : PacketStart × List ℕ). p.1) same)) in
    record { start = start; last = both.0; all = both.1; rest = both.2 }

-- a packet's entries are those of its version

or_true : (b : Bool) → (b || true) ≡ true
or_true true = refl
or_true false = refl

needed_two : (new any places : Bool) → (new ≡ true → any ≡ true) → (eqb (version_by (places || any)) 2 || not new) ≡
    true
needed_two true any places h =
    subst (λ (a : Bool). (eqb (version_by (places || a)) 2 || not true) ≡ true) (sym (h refl)) (two places)
  where
    two : (places : Bool) → (eqb (version_by (places || true)) 2 || not true) ≡ true
    two true = refl
    two false = refl
needed_two false any places h = or_true (eqb (version_by (places || any)) 2)

any_new : (es : List Entry) (e : Entry) (ds : List Entry) → is_new_entry e ≡ true →
    list_any is_new_entry (es ++ e ∷ ds) ≡ true
any_new [] e ds is = rw is refl
any_new (d ∷ es) e ds is = rw (any_new es e ds is) (or_true (is_new_entry d))

in_version : (places : Bool) (es : List Entry) (e : Entry) (ds : List Entry) →
    is_entry_in (version_by (places || list_any is_new_entry (es ++ e ∷ ds))) e ≡ true
in_version places es e ds =
    needed_two (is_new_entry e) (list_any is_new_entry (es ++ e ∷ ds)) places (any_new es e ds)

-- how many entries of a packet are to come
last_count : (f : PacketStart) (es : List Entry) (left : ℕ) (x more others : List ℕ) (m : Message) →
    HasBegun f es left → (l : LeadsTo f es x more others m) → length l.last ≡ left
last_count f es left x more others m has l =
    let count : f.count ≡ length (entries_of m) =
    sym (ap (λ (g : PacketStart). g.count) l.start) ∙ count_in (version_of m) m in
    omega (arith, has.count, count, ap length l.all, length-append es l.last)

-- and its version
pub version_in : (m : Message) (version : ℕ) → (start_in version m).head.version ≡ version
unfolding start_in
version_in (Prepare from view place commit entry) version = refl
version_in (PrepareOk from view place) version = refl
version_in (Commit from view commit) version = refl
version_in (StartViewChange from view) version = refl
version_in (DoViewChange from view normal commit log) version = refl
version_in (StartView from view commit log) version = refl
version_in (GetState from view base) version = refl
version_in (NewState from view base commit entries) version = refl

last_fit : (es ds : List Entry) → FitsEntries (es ++ ds) → FitsEntries ds
last_fit [] ds f = f
last_fit (e ∷ es) ds f = last_fit es ds f.1

module _ (f : PacketStart) (es : List Entry) (left : ℕ) (has : HasBegun f es left) where
  -- no entry begins so, and one is to come: no packet begins so
  pub no_entry : (x : List ℕ) → 0 < left → BeginsNoEntry f.head.version x → NoStart (begun f es ++ x)
  no_entry x some none m more others fits h =
      let l = leads f es left x more others m has fits h in
      let n = last_count f es left x more others m has l in
      of l.last l.all l.rest (omega (arith, some, n)) l.start
    where
      of : (last : List Entry) → entries_of m ≡ es ++ last → x ++ more ≡ entries last ++ others → 0 < length last →
          start_of m ≡ f → ⊥
      of [] all rest some start = omega (arith, some)
      of (e ∷ last) all rest some start =
          let fit : FitsEntries (e ∷ last) = last_fit es (e ∷ last) (subst FitsEntries all (entries_fit m fits)) in
          let version : version_of m ≡ f.head.version =
          sym (version_in m (version_of m)) ∙ ap (λ (g : PacketStart). g.head.version) start in
          let can : is_entry_in (version_of m) e ≡ true =
          subst (λ (ds : List Entry).
          is_entry_in (version_by (list_any is_new_place (places_of m) || list_any is_new_entry ds)) e ≡ true)
          (sym all) (in_version (list_any is_new_place (places_of m)) es e last) in
          none e more (entries last ++ others) fit.0 (subst (λ (v : ℕ). is_entry_in v e ≡ true) version can)
          (rest ∙ ap (λ r. r ++ others) (flat_map-cons entry_spelling e last)
          ∙ append_assoc (entry_spelling e) (entries last) others)

  -- an entry is to come, and is not whole in the last bytes
  pub short_none : (x : List ℕ) → 0 < left → EntryNeeds x → (m : Message) → FitsMessage m →
      begun f es ++ x ≡ packet_spelling m → ⊥
  short_none x some needs m fits h =
      let l = leads f es left x [] [] m has fits (ap (λ r. r ++ []) h) in
      let n = last_count f es left x [] [] m has l in
      of l.last (omega (arith, some, n)) (last_fit es l.last (subst FitsEntries l.all (entries_fit m fits)))
      (sym (append-nil x) ∙ l.rest ∙ append-nil (entries l.last))
    where
      of : (ds : List Entry) → 0 < length ds → FitsEntries ds → x ≡ entries ds → ⊥
      of [] lt fit is = omega (arith, lt)
      of (d ∷ ds) lt fit is = needs_none x (entries ds) d needs fit.0 (is ∙ flat_map-cons entry_spelling d ds)

  -- all entries are there: a packet that begins so has no others
  pub only_these : left ≡ 0 → (m : Message) (rest others : List ℕ) → FitsMessage m →
      begun f es ++ rest ≡ packet_spelling m ++ others → (start_of m ≡ f) × (entries_of m ≡ es)
  only_these none m rest others fits h =
      let again : (begun f es ++ []) ++ rest ≡ packet_spelling m ++ others =
      ap (λ r. r ++ rest) (append-nil (begun f es)) ∙ h in
      let l = leads f es left [] rest others m has fits again in
      let n = last_count f es left [] rest others m has l in
      (l.start, l.all ∙ ap (λ (ds : List Entry). es ++ ds) (nil_from_length l.last (n ∙ none)) ∙ append-nil es)

  pub these_are : left ≡ 0 → (m : Message) (rest others : List ℕ) → FitsMessage m →
      begun f es ++ rest ≡ packet_spelling m ++ others → packet_spelling m ≡ begun f es
  these_are none m rest others fits h =
      let same = only_these none m rest others fits h in
      packet_parts m ∙ ap (λ (g : PacketStart). begun g (entries_of m)) same.0 ∙ ap (begun f) same.1

-- a packet whose start is not there with its last byte
pub short_start : (x : List ℕ) → front_start x ≡ Err Needs → (m : Message) → FitsMessage m → x ≡ packet_spelling m → ⊥
short_start x needs m fits h =
    ok_err _ Needs (sym (packet_reads x [] [] m fits (ap (λ r. r ++ []) h)) ∙ ap front_start (append-nil x) ∙ needs)
