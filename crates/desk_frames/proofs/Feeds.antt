-- Steps one after the other.
use Rattle.std.proofs.Common.{◌≡◌, ℕ, ◌+◌, ◌<◌, ◌≤◌, inl, inr, Bool, true, false, List, [], ◌∷◌, ◌++◌}
use Rattle.std.proofs.Common.{length, take, drop, Some, None, refl, sym, ap, subst, ◌∙◌, append_assoc, append-nil}
use Rattle.std.proofs.Common.{arith, Result, Ok, Err, IfOk, OnErr}
use Rattle.std.specs.Prelude.{nat_le}
use Rattle.std.proofs.lemmas.Bool.Decides.{nat_tests}
use Rattle.std.proofs.lemmas.List.{length-append, take-append-drop, take-append-le, take_at, length-take-le, take_all}
use Rattle.std.proofs.lemmas.List.Concat.{flat_map-append, flat_map-cons}
use Rattle.desk_types.specs.declared.command.Entry.{Entry}
use Rattle.desk_types.specs.declared.packet.Message.{Message}
use Rattle.desk_codec.specs.Packets.{begun}
use Rattle.desk_codec.specs.Spelling.{frame_spelling}
use Rattle.desk_codec.proofs.Entries.{head_small}
use Rattle.desk_codec.proofs.Starts.{start_is_front}
use Rattle.desk_frames.specs.declared.cutter.TheConstants.{ROOM_BYTES}
use Rattle.desk_frames.specs.declared.frame.FrameStage.{FrameStage}
use Rattle.desk_frames.specs.declared.frame.FrameStage.TheVariants as stages
use Rattle.desk_frames.specs.Frame.{FrameState, Stands, position, Moved, IsFront, PreservedAt}
use Rattle.desk_frames.specs.Frame.{PreservedAll, PreservedWith}
use Rattle.desk_frames.specs.Frame.{SoFar, GoesOn, HasCut, StillPreserved, Awaits, front_entries, in_frame}
use Rattle.desk_frames.specs.Stream.{Standing, Open, Doomed, Holds, Came, frames_spelling}
use Rattle.desk_frames.specs.Whole.{log_in}
use Rattle.desk_frames.proofs.Cuttings.{AreFit-append, bad_longer}
use Rattle.desk_frames.proofs.Keeping.{front_self}
use Rattle.desk_frames.proofs.Steps.{partial_at}

preserved_none : (es : List Entry) (ms : List Message) (f g : FrameState) →
    ((ds : List Entry) → PreservedAt ds f.stage f.entries → PreservedWith ds None g) → PreservedAll es ms f →
    PreservedAll es ms g
preserved_none es [] f g keeps k = keeps es k
preserved_none es (m ∷ ms) f g keeps k = k

preserved_some : (es : List Entry) (ms : List Message) (m : Message) (f g : FrameState) →
    ((ds : List Entry) → PreservedAt ds f.stage f.entries → PreservedWith ds (Some m) g) → PreservedAll es ms f →
    PreservedAll es (ms ++ m ∷ []) g
preserved_some es [] m f g keeps k = keeps es k
preserved_some es (q ∷ ms) m f g keeps k = k

pub goes_none : (f g : FrameState) (ms : List Message) (x : List ℕ) → Moved (position f []) x None (position g []) →
    ((ds : List Entry) → PreservedAt ds f.stage f.entries → PreservedWith ds None g) → GoesOn f ms x g ms
goes_none f g ms x moved keeps old es done s = record {
  came = (
    s.came.0,
    λ bytes h.
        let p = s.came.1 bytes h in (
          p.0 ++ x,
          sym (append_assoc bytes done x) ∙ ap (λ r. r ++ x) p.1 ∙ append_assoc (frames_spelling ms) p.0 x,
          moved p.0 p.2,
        ),
  );
  keeps = preserved_none es ms f g keeps s.keeps;
}

pub begins_partial : Holds (Open []) []
begins_partial = (refl, inl (omega arith))

pub goes_some : (f g : FrameState) (ms : List Message) (m : Message) (x : List ℕ) →
    Moved (position f []) x (Some m) (position g []) →
    ((ds : List Entry) → PreservedAt ds f.stage f.entries → PreservedWith ds (Some m) g) →
    GoesOn f ms x g (ms ++ m ∷ [])
goes_some f g ms m x moved keeps old es done s = record {
  came = (
    AreFit-append ms (m ∷ []) s.came.0 (moved.0, tt),
    λ bytes h.
        let p = s.came.1 bytes h in
        let one : frames_spelling (m ∷ []) ≡ frame_spelling m =
        flat_map-cons frame_spelling m [] ∙ append-nil (frame_spelling m) in
        let all : frames_spelling (ms ++ m ∷ []) ≡ frames_spelling ms ++ frame_spelling m =
        flat_map-append frame_spelling ms (m ∷ []) ∙ ap (λ r. frames_spelling ms ++ r) one in (
          [],
          sym (append_assoc bytes done x) ∙ ap (λ r. r ++ x) p.1 ∙ append_assoc (frames_spelling ms) p.0 x
              ∙ ap (λ r. frames_spelling ms ++ r) (moved.2 p.0 p.2) ∙ sym all
              ∙ sym (append-nil (frames_spelling (ms ++ m ∷ []))),
          subst (λ (s : Standing). Holds s []) (sym moved.1) begins_partial,
        ),
  );
  keeps = preserved_some es ms m f g keeps s.keeps;
}

pub goes_goes : (f g k : FrameState) (ms ns os : List Message) (x y : List ℕ) → GoesOn f ms x g ns →
    GoesOn g ns y k os →
    GoesOn f ms (x ++ y) k os
goes_goes f g k ms ns os x y a b old es done s =
    subst (λ (d : List ℕ). SoFar old es d os k) (append_assoc done x y) (b old es (done ++ x) (a old es done s))

pub goes_nowhere : (f : FrameState) (ms : List Message) → GoesOn f ms [] f ms
goes_nowhere f ms old es done s = subst (λ (d : List ℕ). SoFar old es d ms f) (sym (append-nil done)) s

-- memory was refused for the packet, and its entries were taken back
pub still_back : (f g h : FrameState) (ms ns : List Message) (m : Message) →
    ((ds : List Entry) → PreservedAt ds f.stage f.entries → PreservedWith ds (Some m) g) → h.entries ≡ log_in m →
    ns ≡ ms →
    StillPreserved f ms h ns
still_back f g h ms ns m keeps e d old es done s = rw d (of ms s.keeps)
  where
    of : (ms : List Message) → PreservedAll es ms f → IsFront es (front_entries ms h.entries)
    of [] k = rw e (keeps es k)
    of (q ∷ ms) k = k

-- memory was refused further on
pub still_on : (f g k : FrameState) (ms ns os : List Message) (x : List ℕ) → GoesOn f ms x g ns →
    StillPreserved g ns k os →
    StillPreserved f ms k os
still_on f g k ms ns os x goes preserved old es done s = preserved old es (done ++ x) (goes old es done s)

pub on_err_is : {A E : Type 0} (r : Result A E) {P : Type 0} → P → OnErr r P
on_err_is (Ok x) p = tt
on_err_is (Err e) p = p

abbrev pub at_stage : FrameState → FrameStage → FrameState
at_stage f p = record { stage = p; entries = f.entries }

-- the fields of bytes, one after the other

pub cut_none : (bytes : List ℕ) (f : FrameState) (ms : List Message) → HasCut bytes f ms bytes f ms
cut_none bytes f ms = ([], refl, goes_nowhere f ms)

pub cut_field : (bytes rest x y : List ℕ) (n : ℕ) (f g k : FrameState) (ms ns os : List Message) →
    HasCut bytes f ms rest g ns → GoesOn g ns x k os → x ≡ take n rest → y ≡ drop n rest → HasCut bytes f ms y k os
cut_field bytes rest x y n f g k ms ns os cut goes front back =
    let whole : rest ≡ x ++ y =
    sym (take-append-drop n rest) ∙ ap (λ r. r ++ drop n rest) (sym front) ∙ ap (λ r. x ++ r) (sym back) in (
      cut.0 ++ x,
      cut.1 ∙ ap (λ r. cut.0 ++ r) whole ∙ sym (append_assoc cut.0 x y),
      goes_goes f g k ms ns os cut.0 x cut.2 goes,
    )

-- more bytes are needed
pub cut_waits : (bytes rest : List ℕ) (f g k : FrameState) (ms ns os : List Message) → HasCut bytes f ms rest g ns →
    k ≡ g → os ≡ ns → HasCut bytes f ms rest k os
cut_waits bytes rest f g k ms ns os cut is same = rw (is, same) cut

-- a field that came in two pieces, and those after it
pub cut_joined : (waited piece left : List ℕ) (n : ℕ) (f g k : FrameState) (ms ns os : List Message) →
    GoesOn f ms (waited ++ take n piece) g ns → HasCut (drop n piece) g ns left k os →
    HasCut (waited ++ piece) f ms left k os
cut_joined waited piece left n f g k ms ns os goes cut =
    let field = waited ++ take n piece in (
      field ++ cut.0,
      ap (λ r. waited ++ r) (sym (take-append-drop n piece))
          ∙ sym (append_assoc waited (take n piece) (drop n piece)) ∙ ap (λ r. field ++ r) cut.1
          ∙ sym (append_assoc field cut.0 left),
      goes_goes f g k ms ns os field cut.0 goes cut.2,
    )

-- the bytes in the room and those of the piece after them
pub room_joined : (waited front tail room : List ℕ) (n : ℕ) → room ≡ (waited ++ front) ++ tail →
    length waited + length front ≡ n → take n room ≡ waited ++ front
room_joined waited front tail room n e len =
    ap (take n) e ∙ take_at (waited ++ front) tail n (length-append waited front ∙ len)

-- all that waited is taken, and so many bytes of the piece
pub taken_joined : (waited piece front : List ℕ) (m n count : ℕ) → front ≡ take m piece → length waited + n ≡ count →
    count ≤ length (waited ++ front) → take count (waited ++ front) ≡ waited ++ take n piece
taken_joined waited piece front m n count is sum le =
    let all : piece ≡ front ++ drop m piece =
    sym (take-append-drop m piece) ∙ ap (λ r. r ++ drop m piece) (sym is) in
    let fits : n ≤ length piece =
    omega (arith, sum, le, length-append waited front, ap length all, length-append front (drop m piece)) in
    sym (take-append-le count (waited ++ front) (drop m piece) le)
    ∙ ap (take count) (append_assoc waited front (drop m piece)
    ∙ ap (λ r. waited ++ r) (sym all ∙ sym (take-append-drop n piece))
    ∙ sym (append_assoc waited (take n piece) (drop n piece)))
    ∙ take_at (waited ++ take n piece) (drop n piece) count
    (omega (arith, length-append waited (take n piece), length-take-le n piece fits, sum))

-- where room is left the piece is all there
pub all_front : (m : ℕ) (piece : List ℕ) → length (take m piece) < m → take m piece ≡ piece
all_front m piece lt = of (nat_le (length piece) m) refl
  where
    of : (z : Bool) → nat_le (length piece) m ≡ z → take m piece ≡ piece
    of true z = take_all m piece (grind (arith, nat_tests, z))
    of false z =
        let le : m ≤ length piece = grind (arith, nat_tests, z) in
        absurd (omega (arith, lt, length-take-le m piece le))

pub ok_joined : {E : Type 0} (r : Result ℕ E) (waited piece field beyond room : List ℕ) (n : ℕ)
    (f g k : FrameState) (ms ns os : List Message) → GoesOn f ms field g ns → field ≡ waited ++ take n piece →
    beyond ≡ drop n piece → IfOk r (λ left. HasCut beyond g ns (take left room) k os) →
    IfOk r (λ left. HasCut (waited ++ piece) f ms (take left room) k os)
ok_joined (Ok left) waited piece field beyond room n f g k ms ns os goes whole rest cut =
    cut_joined waited piece (take left room) n f g k ms ns os
    (subst (λ (x : List ℕ). GoesOn f ms x g ns) whole goes)
    (subst (λ (x : List ℕ). HasCut x g ns (take left room) k os) rest cut)
ok_joined (Err e) waited piece field beyond room n f g k ms ns os goes whole rest cut = tt

-- from the field that waited to the one that waits

-- what waits stands after what was taken
waiting_apart : (f : FrameState) (x bytes : List ℕ) → Stands f.stage f.entries → Awaits f.stage x →
    Holds (position f x) bytes → (before : List ℕ) × (bytes ≡ before ++ x) × Holds (position f []) before
waiting_apart f x bytes = of f.stage
  where
    of : (p : FrameStage) → Stands p f.entries → Awaits p x → Holds (position (at_stage f p) x) bytes →
        (before : List ℕ) × (bytes ≡ before ++ x) × Holds (position (at_stage f p) []) before
    of stages.Length o a h = ([], h.0, begins_partial)
    of (stages.Start announced) o a h =
        let w = in_frame announced [] in
        (w, h.0, (sym (append-nil w), partial_at announced [] [] o.1 (omega (arith, o.1.0))))
    of (stages.Entries announced left s more) o a h =
        let w = in_frame announced (begun s f.entries) in (
          w,
          h.0,
          (
            sym (append-nil w),
            partial_at announced (begun s f.entries) [] o.0.range
                (omega (arith, o.0.sum, o.2)),
          ),
        )
    of (stages.Doomed left) o a h = (bytes, sym (append-nil bytes) ∙ ap (λ r. bytes ++ r) (sym a), h)
    of stages.Stopped o a h = (bytes, sym (append-nil bytes) ∙ ap (λ r. bytes ++ r) (sym a), h)

waiting_after : (f : FrameState) (x rest : List ℕ) → Stands f.stage f.entries → Awaits f.stage x →
    Holds (position f []) rest → Holds (position f x) (rest ++ x)
waiting_after f x rest = of f.stage
  where
    of : (p : FrameStage) → Stands p f.entries → Awaits p x → Holds (position (at_stage f p) []) rest →
        Holds (position (at_stage f p) x) (rest ++ x)
    of stages.Length o a h = (ap (λ r. r ++ x) h.0, inl a)
    of (stages.Start announced) o a h =
        let w = in_frame announced [] in
        (ap (λ r. r ++ x) (h.0 ∙ append-nil w), partial_at announced [] x o.1 (omega (arith, a.1)))
    of (stages.Entries announced left s more) o a h =
        let w = in_frame announced (begun s f.entries) in (
          ap (λ r. r ++ x) (h.0 ∙ append-nil w),
          partial_at announced (begun s f.entries) x o.0.range
              (omega (arith, o.0.sum, a.1)),
        )
    of (stages.Doomed left) o a h = subst (Holds (Doomed left)) (sym (ap (λ r. rest ++ r) a ∙ append-nil rest)) h
    of stages.Stopped o a h = bad_longer rest x h

-- nothing of the piece was taken yet
from_here : (f : FrameState) → Stands f.stage f.entries → SoFar (position f []) f.entries [] [] f
from_here f o = record {
  came = (tt, λ bytes h. (bytes, append-nil bytes, h));
  keeps = λ a. front_self f.entries;
}

pub came_all : (f g : FrameState) (waited piece waits : List ℕ) (ms : List Message) → Stands f.stage f.entries →
    Stands g.stage g.entries → Awaits f.stage waited → Awaits g.stage waits →
    HasCut (waited ++ piece) f [] waits g ms → Came (position f waited) piece ms (position g waits)
came_all f g waited piece waits ms o p a b cut =
    let x = cut.0 in
    let e = cut.1 in
    let goes = cut.2 in
    let so = goes (position f []) f.entries [] (from_here f o) in (
      so.came.0,
      (λ bytes h.
          let apart = waiting_apart f waited bytes o a h in
          let came = so.came.1 apart.0 apart.2 in (
            came.0 ++ waits,
            ap (λ r. r ++ piece) apart.1 ∙ append_assoc apart.0 waited piece ∙ ap (λ r. apart.0 ++ r) e
                ∙ sym (append_assoc apart.0 x waits) ∙ ap (λ r. r ++ waits) came.1
                ∙ append_assoc (frames_spelling ms) came.0 waits,
            waiting_after g waits came.0 p b came.2,
          )),
    )

-- the entries that stood first are all there
pub preserved_count : (f g : FrameState) (ms : List Message) → Stands f.stage f.entries → StillPreserved f [] g ms →
    (length f.entries ≤ length (front_entries ms g.entries))
    × (take (length f.entries) (front_entries ms g.entries) ≡ f.entries)
preserved_count f g ms o preserved =
    let front = preserved (position f []) f.entries [] (from_here f o) in
    let len : length (front_entries ms g.entries) ≡ length (f.entries ++ front.0) = ap length (sym front.1) in (
      omega (arith, len, length-append f.entries front.0),
      ap (take (length f.entries)) (sym front.1) ∙ take_at f.entries front.0 (length f.entries) refl,
    )

-- what waits has room
pub awaits_room : (p : FrameStage) (x : List ℕ) → Awaits p x → length x < ROOM_BYTES
awaits_room stages.Length x a = omega (arith, a)
awaits_room (stages.Start announced) x a = omega (arith, start_is_front.needs x a.0)
awaits_room (stages.Entries announced left s more) x a = elim a.0 [
  | inl few ↦ omega (arith, few)
  | inr h ↦ let small = head_small x h.0 h.1 in omega (arith, h.2, small)
]
awaits_room (stages.Doomed left) x a = omega (arith, ap length a)
awaits_room stages.Stopped x a = omega (arith, ap length a)

pub came_taken : (f g : FrameState) (room before after piece : List ℕ) (n k : ℕ) (ms ns : List Message) →
    Stands f.stage f.entries → Stands g.stage g.entries → Awaits f.stage (take n room) →
    Awaits g.stage (take k after) → before ≡ room → ns ≡ [] →
    HasCut (take n before ++ piece) f ns (take k after) g ms →
    Came (position f (take n room)) piece ms (position g (take k after))
came_taken f g room before after piece n k ms ns o p a b same none cut =
    came_all f g (take n room) piece (take k after) ms o p a b
    (subst (λ (x : List ℕ). HasCut (take n x ++ piece) f [] (take k after) g ms) same
    (subst (λ (x : List Message). HasCut (take n before ++ piece) f x (take k after) g ms) none cut))

-- it stands as it did
pub stands_same : (f g h : FrameState) (ms : List Message) (p : FrameStage) (n : ℕ) (x y : List ℕ) →
    Stands f.stage f.entries → StillPreserved f [] g ms → p ≡ f.stage → n ≡ length f.entries →
    h ≡ record { stage = p; entries = take n (front_entries ms g.entries) } → x ≡ y → position h x ≡ position f y
stands_same f g h ms p n x y o preserved stage count is same =
    let all : take n (front_entries ms g.entries) ≡ f.entries =
    ap (λ i. take i (front_entries ms g.entries)) count ∙ (preserved_count f g ms o preserved).1 in
    let back : h ≡ f =
    is ∙ ap (λ (q : FrameStage). record { stage = q; entries = take n (front_entries ms g.entries) }) stage
    ∙ ap (λ (es : List Entry). record { stage = f.stage; entries = es }) all in
    ap (λ (i : FrameState). position i x) back ∙ ap (λ (z : List ℕ). position f z) same
