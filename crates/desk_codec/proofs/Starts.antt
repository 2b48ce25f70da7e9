-- What a packet begins with.
use Rattle.std.proofs.Common.{◌≡◌, ℕ, ◌+◌, ◌-◌, ◌^◌, ◌≤◌, ◌<◌, Bool, true, false, cond, ltb, List, [], ◌∷◌, ◌++◌}
use Rattle.std.proofs.Common.{length, take, drop, Some, refl, sym, ap, subst, ◌∙◌, append_assoc, append-nil, arith}
use Rattle.std.specs.Prelude.{Result, Ok, Err, nat_le, ◌&&◌}
use Rattle.std.specs.List.{flat_map, list_any}
use Rattle.std.specs.Int.{Width, w32, w64, byte_len, from_be_bytes, to_be_bytes}
use Rattle.std.proofs.lemmas.Bool.{le-ltb, and_from}
use Rattle.std.proofs.lemmas.Bool.Decides.{nat_tests}
use Rattle.std.proofs.lemmas.List.{length-append, take_at, drop_at}
use Rattle.std.proofs.lemmas.List.Concat.{flat_map-cons}
use Rattle.desk_types.specs.declared.packet.Message.{Message}
use Rattle.desk_types.specs.declared.packet.Message.TheVariants.{Prepare, PrepareOk, Commit, StartViewChange}
use Rattle.desk_types.specs.declared.packet.Message.TheVariants.{DoViewChange, StartView, GetState, NewState}
use Rattle.desk_types.specs.Packet.{IsView, is_view, is_log_length}
use Rattle.desk_types.specs.declared.limits.TheConstants.{LOG_ENTRIES}
use Rattle.desk_codec.specs.Ranges.{FitsMessage}
use Rattle.desk_codec.specs.Reading.{first_number, is_message_kind, kind_of_number}
use Rattle.desk_codec.specs.Spelling.{entry_spelling, packet_spelling, spelling_in, log_spelling}
use Rattle.desk_codec.specs.Spelling as spelling
use Rattle.desk_codec.specs.Version.{entries_of, is_version, is_place_in, is_new_entry, version_by, version_of}
use Rattle.desk_codec.specs.Version.{needs_two}
use Rattle.desk_codec.proofs.Forms.{IsBytes, IsBytes-rest}
use Rattle.desk_codec.proofs.Fields.{IsWide, wide32, wide64, exact_number}
use Rattle.desk_codec.specs.declared.fault.Lack.{Lack}
use Rattle.desk_codec.specs.declared.fault.Lack.TheVariants.{Needs, NoSpelling}
use Rattle.desk_codec.specs.declared.start.PacketHead.{PacketHead}
use Rattle.desk_codec.specs.declared.start.PacketStart.{PacketStart}
use Rattle.desk_codec.specs.Fronts.{FrontReader, ◌>>=◌, front_byte, front_number, front_long, front_checked}
use Rattle.desk_codec.specs.Fronts.{front_maybe}
use Rattle.desk_codec.specs.Starts.{front_head, front_start, front_first_number, front_second_number, front_entry_count}
use Rattle.desk_codec.specs.Starts.{start_with, has_first_number, has_second_number, has_entry_count, lone_entries}
use Rattle.desk_codec.specs.Starts.{is_first_number, is_entry_count, if_there, head_spelling, start_spelling, start_of}
use Rattle.desk_codec.specs.Starts.{start_in, tells_new_place, NoStart, FrontStart, FitsKind}
use Rattle.desk_codec.proofs.Versions.{one_announced, two_announced, state_announced}
use Rattle.desk_codec.proofs.Fronts.{IsFront, then_is_front, test_is_front, checked_is_front, maybe_is_front}
use Rattle.desk_codec.proofs.Fronts.{byte_is_front, number_is_front, bind_ok, wide_ok, same_ok, found_as}

-- they are fronts

head_is_front : IsFront 11 front_head
unfolding front_head
head_is_front = then_is_front (checked_is_front _ byte_is_front)
    (λ version. then_is_front (checked_is_front _ byte_is_front) (λ kind.
    then_is_front byte_is_front (λ from. then_is_front (checked_is_front _ (number_is_front w64))
    (λ view. test_is_front true _))))

first_is_front : (h : PacketHead) → IsFront 8 (front_first_number h)
unfolding front_first_number
first_is_front h = maybe_is_front (has_first_number h.kind) 0
    (checked_is_front (is_first_number h) (number_is_front w64))

second_is_front : (h : PacketHead) → IsFront 8 (front_second_number h)
unfolding front_second_number
second_is_front h = maybe_is_front (has_second_number h.kind) 0
    (checked_is_front (is_place_in h.version) (number_is_front w64))

count_is_front : (h : PacketHead) (a b : ℕ) → IsFront 4 (front_entry_count h a b)
unfolding front_entry_count
count_is_front h a b = maybe_is_front (has_entry_count h.kind) (lone_entries h.kind)
    (checked_is_front (is_entry_count h a b) (number_is_front w32))

pub start_is_front : IsFront 31 front_start
unfolding front_start
start_is_front = then_is_front head_is_front (λ h. then_is_front (first_is_front h)
    (λ a. then_is_front (second_is_front h) (λ b.
    then_is_front (count_is_front h a b) (λ n. test_is_front true (start_with h a b n)))))

-- what was read was spelled so

-- a value that bytes begin with
pub record Takes {A : Type 0} (put : A → List ℕ) (bytes : List ℕ) (x : A × List ℕ) : Type 0 where
  pub parts : bytes ≡ put x.0 ++ x.1
  pub rest_bytes : IsBytes x.1

abbrev TakesBy : {A : Type 0} → (A → List ℕ) → FrontReader A → Type 0
TakesBy {A = A} put a = (bytes : List ℕ) (x : A × List ℕ) → IsBytes bytes → a bytes ≡ Ok x → Takes put bytes x

byte_takes : TakesBy (λ b. b ∷ []) front_byte
byte_takes [] x h e = absurd cc
byte_takes (b ∷ rest) x h e = subst (Takes (λ b. b ∷ []) (b ∷ rest)) (same_ok (b, rest) x e)
    (record { parts = refl; rest_bytes = IsBytes-rest b rest h })

number_takes : (w : Width) (limit : ℕ) → IsWide w limit → TakesBy (to_be_bytes w) (front_number w)
number_takes w limit wide bytes x h e =
    let n = byte_len w in
    let p = wide_ok (ltb (length bytes) n) (from_be_bytes w (take n bytes), drop n bytes) x e in
    let some : first_number w bytes ≡ Some x = rw p.0 (ap (λ (q : ℕ × List ℕ). Some q) p.1) in
    let t = (exact_number w limit wide).takes bytes x h some in
    record { parts = t.parts; rest_bytes = t.rest_bytes }

checked_ok : {A : Type 0} (b : Bool) (x y : A × List ℕ) →
    cond {A = Result (A × List ℕ) Lack} b (Ok (x.0, x.1)) (Err NoSpelling) ≡ Ok y → (b ≡ true) × (x ≡ y)
checked_ok true x y e = (refl, same_ok x y e)
checked_ok false x y e = absurd cc

checked_takes : {A : Type 0} {put : A → List ℕ} {a : FrontReader A} (test : A → Bool) → TakesBy put a →
    TakesBy put (front_checked test a)
checked_takes {A = A} {put = put} {a = a} test t bytes y h e =
    let p = bind_ok (a bytes) (λ x. cond (test x.0) (Ok (x.0, x.1)) (Err NoSpelling)) y e in
    subst (Takes put bytes) (checked_ok (test p.0.0) p.0 y p.2).1 (t bytes p.0 h p.1)

maybe_takes : {A : Type 0} {put : A → List ℕ} {a : FrontReader A} (there : Bool) (other : A) → TakesBy put a →
    TakesBy (λ x. if_there there (put x)) (front_maybe there other a)
maybe_takes true other t bytes y h e = let p = t bytes y h e in record { parts = p.parts; rest_bytes = p.rest_bytes }
maybe_takes {A = A} {put = put} false other t bytes y h e =
    subst (Takes (λ (x : A). []) bytes) (same_ok (other, bytes) y e) (record { parts = refl; rest_bytes = h })

head_takes : TakesBy head_spelling front_head
unfolding front_head
head_takes bytes x h e =
    let a = bind_ok (front_checked is_version front_byte bytes) _ x e in
    let b = bind_ok (front_checked is_message_kind front_byte a.0.1) _ x a.2 in
    let c = bind_ok (front_byte b.0.1) _ x b.2 in
    let d = bind_ok (front_checked is_view front_long c.0.1) _ x c.2 in
    let s = checked_takes is_version byte_takes bytes a.0 h a.1 in
    let t = checked_takes is_message_kind byte_takes a.0.1 b.0 s.rest_bytes b.1 in
    let u = byte_takes b.0.1 c.0 t.rest_bytes c.1 in
    let v = checked_takes is_view (number_takes w64 (2 ^ 64) wide64) c.0.1 d.0 u.rest_bytes d.1 in
    subst (Takes head_spelling bytes) (same_ok _ x d.2) (record {
      parts = s.parts ∙ ap (λ r. a.0.0 ∷ r) (t.parts ∙ ap (λ r. b.0.0 ∷ r) (u.parts ∙ ap (λ r. c.0.0 ∷ r) v.parts));
      rest_bytes = v.rest_bytes;
    })

pub start_takes : TakesBy start_spelling front_start
unfolding front_start start_spelling front_first_number front_second_number front_entry_count
start_takes bytes x h e =
    let a = bind_ok (front_head bytes) _ x e in
    let hd = a.0.0 in
    let b = bind_ok (front_first_number hd a.0.1) _ x a.2 in
    let c = bind_ok (front_second_number hd b.0.1) _ x b.2 in
    let d = bind_ok (front_entry_count hd b.0.0 c.0.0 c.0.1) _ x c.2 in
    let fields = start_with hd b.0.0 c.0.0 d.0.0 in
    let s = head_takes bytes a.0 h a.1 in
    let long_takes = number_takes w64 (2 ^ 64) wide64 in
    let t = maybe_takes (has_first_number hd.kind) 0 (checked_takes (is_first_number hd) long_takes) a.0.1 b.0
    s.rest_bytes b.1 in
    let u = maybe_takes (has_second_number hd.kind) 0 (checked_takes (is_place_in hd.version) long_takes)
    b.0.1 c.0 t.rest_bytes c.1 in
    let v = maybe_takes (has_entry_count hd.kind) (lone_entries hd.kind)
    (checked_takes (is_entry_count hd b.0.0 c.0.0) (number_takes w32 (2 ^ 32) wide32)) c.0.1 d.0 u.rest_bytes d.1 in
    let first = if_there (has_first_number hd.kind) (spelling.long b.0.0) in
    let second = if_there (has_second_number hd.kind) (spelling.long c.0.0) in
    let count = if_there (has_entry_count hd.kind) (to_be_bytes w32 d.0.0) in
    let numbers : a.0.1 ≡ (first ++ (second ++ count)) ++ d.0.1 =
    t.parts ∙ ap (λ r. first ++ r) (u.parts ∙ ap (λ r. second ++ r) v.parts ∙ sym (append_assoc second count d.0.1))
    ∙ sym (append_assoc first (second ++ count) d.0.1) in
    subst (Takes start_spelling bytes) (same_ok (fields, d.0.1) x d.2) (record {
      parts = s.parts ∙ ap (λ r. head_spelling hd ++ r) numbers
          ∙ sym (append_assoc (head_spelling hd) (first ++ (second ++ count)) d.0.1);
      rest_bytes = v.rest_bytes;
    })

-- what is spelled so is read

abbrev pub IfElse : Bool → Type 0 → Type 0 → Type 0
IfElse true P Q = P
IfElse false P Q = Q

-- the fields of a packet are within their ranges
pub record InRange (f : PacketStart) : Type 0 where
  pub version : is_version f.head.version ≡ true
  pub kind : is_message_kind f.head.kind ≡ true
  pub view : IsView f.head.view
  pub first : IfElse (has_first_number f.head.kind) ((f.first < 2 ^ 64) × (is_first_number f.head f.first ≡ true))
      (0 ≡ f.first)
  pub second : IfElse (has_second_number f.head.kind)
      ((f.second < 2 ^ 64) × (is_place_in f.head.version f.second ≡ true))
      (0 ≡ f.second)
  pub count : IfElse (has_entry_count f.head.kind)
      ((f.count < 2 ^ 32) × (is_entry_count f.head f.first f.second f.count ≡ true))
      (lone_entries f.head.kind ≡ f.count)

number_again : (w : Width) (limit : ℕ) → IsWide w limit → (n : ℕ) (rest : List ℕ) → n < limit →
    front_number w (to_be_bytes w n ++ rest) ≡ Ok (n, rest)
number_again w limit wide n rest lt =
    let bytes = to_be_bytes w n in
    let len = wide.len n in
    let enough : ltb (length (bytes ++ rest)) (byte_len w) ≡ false =
    le-ltb _ _ (omega (arith, length-append bytes rest)) in
    rw (enough, take_at bytes rest (byte_len w) len, drop_at bytes rest (byte_len w) len, wide.again n lt) refl

-- a number that is there, in its range, or none
maybe_again : (w : Width) (limit : ℕ) → IsWide w limit → (there : Bool) (test : ℕ → Bool) (other n : ℕ)
    (rest : List ℕ) → IfElse there ((n < limit) × (test n ≡ true)) (other ≡ n) →
    front_maybe there other (front_checked test (front_number w)) (if_there there (to_be_bytes w n) ++ rest) ≡ Ok
    (n, rest)
maybe_again w limit wide true test other n rest h = rw (number_again w limit wide n rest h.0, h.1) refl
maybe_again w limit wide false test other n rest h = rw h refl

view_test : (view : ℕ) → IsView view → is_view view ≡ true
view_test view le = grind (arith, nat_tests, le)

head_again : (h : PacketHead) (rest : List ℕ) → is_version h.version ≡ true → is_message_kind h.kind ≡ true →
    IsView h.view → front_head (head_spelling h ++ rest) ≡ Ok (h, rest)
unfolding front_head
head_again h rest version kind view =
    rw (version, kind, number_again w64 (2 ^ 64) wide64 h.view rest (omega (arith, view)), view_test h.view view) refl

pub start_again : (f : PacketStart) (rest : List ℕ) → InRange f → front_start (start_spelling f ++ rest) ≡ Ok (f, rest)
unfolding front_start start_spelling front_first_number front_second_number front_entry_count
start_again f rest r =
    let h = f.head in
    let first = if_there (has_first_number h.kind) (spelling.long f.first) in
    let second = if_there (has_second_number h.kind) (spelling.long f.second) in
    let count = if_there (has_entry_count h.kind) (to_be_bytes w32 f.count) in
    let regrouped : (head_spelling h ++ (first ++ (second ++ count))) ++ rest
    ≡ head_spelling h ++ (first ++ (second ++ (count ++ rest))) =
    append_assoc (head_spelling h) (first ++ (second ++ count)) rest
    ∙ ap (λ r. head_spelling h ++ r) (append_assoc first (second ++ count) rest
    ∙ ap (λ r. first ++ r) (append_assoc second count rest)) in
    let a = maybe_again w64 (2 ^ 64) wide64 (has_first_number h.kind) (is_first_number h) 0 f.first
    (second ++ (count ++ rest)) r.first in
    let b = maybe_again w64 (2 ^ 64) wide64 (has_second_number h.kind) (is_place_in h.version) 0 f.second
    (count ++ rest)
    r.second in
    let c = maybe_again w32 (2 ^ 32) wide32 (has_entry_count h.kind) (is_entry_count h f.first f.second)
    (lone_entries h.kind) f.count rest
    r.count in
    ap front_start regrouped
    ∙ rw (head_again h (first ++ (second ++ (count ++ rest))) r.version r.kind r.view, a, b, c) refl

-- a packet is what stands before its entries, and they
pub parts_in : (version : ℕ) (m : Message) →
    spelling_in version m ≡ start_spelling (start_in version m) ++ flat_map entry_spelling (entries_of m)
unfolding spelling_in start_spelling start_in log_spelling
parts_in version (Prepare from view place commit entry) = rw (flat_map-cons entry_spelling entry [], append-nil) refl
parts_in version (PrepareOk from view place) = refl
parts_in version (Commit from view commit) = refl
parts_in version (StartViewChange from view) = refl
parts_in version (DoViewChange from view normal commit log) = refl
parts_in version (StartView from view commit log) = refl
parts_in version (GetState from view base) = refl
parts_in version (NewState from view base commit entries) = refl

pub packet_parts : (m : Message) →
    packet_spelling m ≡ start_spelling (start_of m) ++ flat_map entry_spelling (entries_of m)
unfolding packet_spelling
packet_parts m = parts_in (version_of m) m

-- the ranges of packets

known_version : (two : Bool) → is_version (version_by two) ≡ true
known_version true = refl
known_version false = refl

ranges_in : (version : ℕ) → is_version version ≡ true → (m : Message) → version ≡ version_of m → FitsMessage m →
    InRange (start_in version m)
unfolding start_in is_first_number is_entry_count tells_new_place kind_of_number
ranges_in version known (Prepare from view place commit entry) has f =
    let announced = two_announced version place commit (list_any is_new_entry (entry ∷ [])) has f.range.2 f.range.3 in
    let some : nat_le 1 place ≡ true = grind (arith, nat_tests, f.range.1) in
    record {
      version = known;
      kind = refl;
      view = f.range.0;
      first = (omega (arith, f.range.2), and_from (nat_le 1 place) (is_place_in version place) some announced.0);
      second = (omega (arith, f.range.3), announced.1);
      count = refl;
    }
ranges_in version known (PrepareOk from view place) has f = record {
  version = known;
  kind = refl;
  view = f.range.0;
  first = (omega (arith, f.range.1), one_announced version place false has f.range.1);
  second = refl;
  count = refl;
}
ranges_in version known (Commit from view commit) has f = record {
  version = known;
  kind = refl;
  view = f.range.0;
  first = (omega (arith, f.range.1), one_announced version commit false has f.range.1);
  second = refl;
  count = refl;
}
ranges_in version known (StartViewChange from view) has f = record {
  version = known;
  kind = refl;
  view = f.range;
  first = refl;
  second = refl;
  count = refl;
}
ranges_in version known (DoViewChange from view normal commit log) has f =
    let n = length log in
    let le : commit ≤ LOG_ENTRIES = omega (arith, f.range.2, f.range.3) in
    let announced = two_announced version commit n (list_any is_new_entry log) has le f.range.3 in
    let a : ltb normal view ≡ true = grind (arith, nat_tests, f.range.1) in
    let b : nat_le commit n ≡ true = grind (arith, nat_tests, f.range.2) in
    record {
      version = known;
      kind = refl;
      view = f.range.0;
      first = (omega (arith, f.range.0, f.range.1), a);
      second = (omega (arith, le), announced.0);
      count = (omega (arith, f.range.3), and_from (nat_le commit n) (is_place_in version n) b announced.1);
    }
ranges_in version known (StartView from view commit log) has f =
    let n = length log in
    let le : commit ≤ LOG_ENTRIES = omega (arith, f.range.1, f.range.2) in
    let announced = two_announced version commit n (list_any is_new_entry log) has le f.range.2 in
    let b : nat_le commit n ≡ true = grind (arith, nat_tests, f.range.1) in
    record {
      version = known;
      kind = refl;
      view = f.range.0;
      first = (omega (arith, le), announced.0);
      second = refl;
      count = (omega (arith, f.range.2), and_from (nat_le commit n) (is_place_in version n) b announced.1);
    }
ranges_in version known (GetState from view base) has f = record {
  version = known;
  kind = refl;
  view = f.range.0;
  first = (omega (arith, f.range.1), one_announced version base false has f.range.1);
  second = refl;
  count = refl;
}
ranges_in version known (NewState from view base commit entries) has f =
    let n = length entries in
    let lb : base ≤ LOG_ENTRIES = omega (arith, f.range.2) in
    let lc : commit ≤ LOG_ENTRIES = omega (arith, f.range.1, f.range.2) in
    let announced = state_announced version base commit n (list_any is_new_entry entries) has lc f.range.2 in
    let l : is_log_length base ≡ true = grind (arith, nat_tests, lb) in
    let b : nat_le commit (base + n) ≡ true = grind (arith, nat_tests, f.range.1) in
    record {
      version = known;
      kind = refl;
      view = f.range.0;
      first = (omega (arith, lb), announced.0);
      second = (omega (arith, lc), announced.1);
      count = (
        omega (arith, f.range.2),
        and_from (is_log_length base) (is_place_in version (base + n) && nat_le commit (base + n)) l
            (and_from (is_place_in version (base + n)) (nat_le commit (base + n)) announced.2 b),
      );
    }

-- what a packet begins with is read, whatever comes after it
pub packet_start : (m : Message) (rest : List ℕ) → FitsMessage m →
    front_start (start_spelling (start_of m) ++ rest) ≡ Ok (start_of m, rest)
packet_start m rest f =
    start_again (start_of m) rest (ranges_in (version_of m) (known_version (needs_two m)) m refl f)

-- the start of a packet that bytes begin, as far as they are there
pub packet_reads : (bytes more others : List ℕ) (m : Message) → FitsMessage m →
    bytes ++ more ≡ packet_spelling m ++ others →
    front_start (bytes ++ more) ≡ Ok (start_of m, flat_map entry_spelling (entries_of m) ++ others)
packet_reads bytes more others m f h =
    ap front_start (h ∙ ap (λ r. r ++ others) (packet_parts m)
    ∙ append_assoc (start_spelling (start_of m)) (flat_map entry_spelling (entries_of m)) others)
    ∙ packet_start m (flat_map entry_spelling (entries_of m) ++ others) f

-- what was found is of a kind

maybe_none : {A : Type 0} (a : FrontReader A) (there : Bool) (other : A) (bytes : List ℕ) (y : A × List ℕ) →
    front_maybe there other a bytes ≡ Ok y → there ≡ false → other ≡ y.0
maybe_none a true other bytes y e is = absurd cc
maybe_none {A = A} a false other bytes y e is = ap (λ (p : A × List ℕ). p.0) (same_ok (other, bytes) y e)

first_below : (b : ℕ) (rest : List ℕ) → IsBytes (b ∷ rest) → b < 256
first_below b rest h = h 0

head_made : (bytes : List ℕ) (x : PacketHead × List ℕ) → IsBytes bytes → front_head bytes ≡ Ok x →
    (is_message_kind x.0.kind ≡ true) × (x.0.from < 256)
unfolding front_head
head_made bytes x h e =
    let a = bind_ok (front_checked is_version front_byte bytes) _ x e in
    let b = bind_ok (front_checked is_message_kind front_byte a.0.1) _ x a.2 in
    let c = bind_ok (front_byte b.0.1) _ x b.2 in
    let d = bind_ok (front_checked is_view front_long c.0.1) _ x c.2 in
    let s = checked_takes is_version byte_takes bytes a.0 h a.1 in
    let t = checked_takes is_message_kind byte_takes a.0.1 b.0 s.rest_bytes b.1 in
    let u = byte_takes b.0.1 c.0 t.rest_bytes c.1 in
    let k = bind_ok (front_byte a.0.1) (λ y. cond (is_message_kind y.0) (Ok (y.0, y.1)) (Err NoSpelling)) b.0 b.1 in
    let known = checked_ok (is_message_kind k.0.0) k.0 b.0 k.2 in
    let kind : is_message_kind b.0.0 ≡ true = ap (λ (p : ℕ × List ℕ). is_message_kind p.0) (sym known.1) ∙ known.0 in
    let from : c.0.0 < 256 = first_below c.0.0 c.0.1 (subst IsBytes u.parts t.rest_bytes) in
    subst (λ (p : PacketHead × List ℕ). (is_message_kind p.0.kind ≡ true) × (p.0.from < 256)) (same_ok _ x d.2)
    (kind, from)

pub start_made : (bytes : List ℕ) (x : PacketStart × List ℕ) → IsBytes bytes → front_start bytes ≡ Ok x → FitsKind x.0
unfolding front_start front_first_number front_second_number front_entry_count
start_made bytes x h e =
    let a = bind_ok (front_head bytes) _ x e in
    let hd = a.0.0 in
    let b = bind_ok (front_first_number hd a.0.1) _ x a.2 in
    let c = bind_ok (front_second_number hd b.0.1) _ x b.2 in
    let d = bind_ok (front_entry_count hd b.0.0 c.0.0 c.0.1) _ x c.2 in
    let fields = start_with hd b.0.0 c.0.0 d.0.0 in
    let k = head_made bytes a.0 h a.1 in
    subst (λ (p : PacketStart × List ℕ). FitsKind p.0) (same_ok (fields, d.0.1) x d.2) (record {
      known = k.0;
      from = k.1;
      first = maybe_none (front_checked (is_first_number hd) front_long) (has_first_number hd.kind) 0 a.0.1 b.0 b.1;
      second = maybe_none (front_checked (is_place_in hd.version) front_long) (has_second_number hd.kind) 0 b.0.1 c.0
          c.1;
      count = maybe_none (front_checked (is_entry_count hd b.0.0 c.0.0) (front_number w32)) (has_entry_count hd.kind)
          (lone_entries hd.kind) c.0.1 d.0 d.1;
    })

-- what was found reads again
pub reads_of : (bytes : List ℕ) (f : PacketStart) (rest : List ℕ) → IsBytes bytes → front_start bytes ≡ Ok (f, rest) →
    front_start (start_spelling f) ≡ Ok (f, [])
reads_of bytes f rest h e =
    let t = start_is_front.back bytes (f, rest) e in
    let s = start_takes bytes (f, rest) h e in
    let same : t.used ≡ start_spelling f = ends_same t.used (start_spelling f) rest (sym t.parts ∙ s.parts) in
    ap front_start (sym same ∙ sym (append-nil t.used)) ∙ t.again []
  where
    ends_same : (xs ys zs : List ℕ) → xs ++ zs ≡ ys ++ zs → xs ≡ ys
    ends_same xs ys zs e =
        let n : length xs ≡ length ys = omega (arith, ap length e, length-append xs zs, length-append ys zs) in
        sym (take_at xs zs (length xs) refl) ∙ ap (take (length xs)) e ∙ take_at ys zs (length xs) (sym n)

-- what the answers say

pub no_start : (bytes : List ℕ) → front_start bytes ≡ Err NoSpelling → NoStart bytes
no_start bytes e m more others f h =
    let both : found_as _ ≡ Err NoSpelling = sym (packet_reads bytes more others m f h) ∙ start_is_front.never bytes
    more e in
    absurd cc

module _ (bytes : List ℕ) (f : PacketStart) (rest : List ℕ) (h : IsBytes bytes)
    (read : front_start bytes ≡ Ok (f, rest))
  where
    pub start_shorter : length rest ≤ length bytes
    start_shorter =
        let t = start_takes bytes (f, rest) h read in
        let n : length bytes ≡ length (start_spelling f ++ rest) = ap length t.parts in
        omega (arith, n, length-append (start_spelling f) rest)

    pub start_found : take (length bytes - length rest) bytes ≡ start_spelling f
    start_found =
        let t = start_takes bytes (f, rest) h read in
        let n : length bytes ≡ length (start_spelling f ++ rest) = ap length t.parts in
        let k : length (start_spelling f) ≡ length bytes - length rest =
        omega (arith, n, length-append (start_spelling f) rest) in
        ap (take (length bytes - length rest)) t.parts ∙ take_at (start_spelling f) rest _ k

pub start_lacks : (bytes : List ℕ) (lack : Lack) → front_start bytes ≡ Err lack → FrontStart bytes (Err lack)
start_lacks bytes Needs e = let lt = start_is_front.needs bytes e in (e, omega (arith, lt))
start_lacks bytes NoSpelling e = no_start bytes e
