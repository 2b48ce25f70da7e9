-- What was read of a stream, and what came of it.
use Rattle.std.proofs.Common.{◌≡◌, ◌≢◌, ◌⊎◌, inl, inr, ℕ, ◌+◌, ◌-◌, ◌<◌, List, [], ◌∷◌, ◌++◌, Option, Some, Ok}
use Rattle.std.proofs.Common.{Err, refl, sym, ap, subst, ◌∙◌, append_assoc, append-nil, arith}
use Rattle.std.proofs.iter.Next.{Yields-more}
use Rattle.std.proofs.lemmas.List.Concat.{flat_map-append}
use Rattle.std.proofs.KnownBytes.{Consumes-trans, Consumes-nil, Consumes-kept}
use Rattle.std.specs.Iterator.{Yields}
use Rattle.std.specs.Vec.Iter.{into_iter_items, into_iter_steps}
use Rattle.std.specs.declared.vec.IntoIter.{IntoIter}
use Rattle.std.specs.Io.KnownBytes.{Consumes}
use Rattle.desk_types.specs.declared.limits.TheConstants.{STREAM_READS}
use Rattle.desk_types.specs.declared.packet.Message.{Message}
use Rattle.desk_types.specs.declared.refusal.Refusal.{Refusal}
use Rattle.desk_types.specs.declared.refusal.Refusal.TheVariants as refusals
use Rattle.desk_codec.specs.Spelling.{PacketsFit, frame_spelling}
use Rattle.desk_frames.specs.Reading.{ReaderState, ReadOnce, end_answer}
use Rattle.desk_frames.specs.Received.{ForFirst, HasReceived, HasNoFrame}
use Rattle.desk_frames.specs.Stream.{AreFit, frames_spelling, BeginsNone, Standing, Open, Doomed, Stopped, Holds}
use Rattle.desk_frames.proofs.Cuttings.{AreFit-append, stays_bad, holds_none}

pub frames_append : (xs ys : List Message) →
    frames_spelling (xs ++ ys) ≡ frames_spelling xs ++ frames_spelling ys
frames_append xs ys = flat_map-append frame_spelling xs ys

first_fit : (ms ns : List Message) → AreFit (ms ++ ns) → AreFit ms
first_fit [] ns h = tt
first_fit (m ∷ ms) ns h = (h.0, first_fit ms ns h.1)

-- What was read after a rest makes with it the frames of these packets and another rest.
pub record HasCome (input left : Option (List ℕ)) (rest : List ℕ) (packets : List Message) (new : List ℕ) : Type 0 where
  pub piece : List ℕ
  pub taken : Consumes input left piece
  pub fit : AreFit packets
  pub parts : rest ++ piece ≡ frames_spelling packets ++ new

-- at the beginning of a stream
pub received_nothing : (input : Option (List ℕ)) (Done : List Message → Type 0) → Done [] →
    HasReceived input input Done []
received_nothing input Done none = record { packets = []; fit = tt; read = Consumes-nil input; done = none }

-- What was done was done as another word says that follows.
pub received_as : (input left : Option (List ℕ)) (Done Then : List Message → Type 0) (rest : List ℕ) →
    ((packets : List Message) → Done packets → Then packets) → HasReceived input left Done rest →
    HasReceived input left Then rest
received_as input left Done Then rest then h =
    record { packets = h.packets; fit = h.fit; read = h.read; done = then h.packets h.done }

-- packets came, and more was read before them
module _ (input now left : Option (List ℕ)) (Done Next Both : List Message → Type 0) (rest after : List ℕ)
    (ms : List Message) (both : (ps qs : List Message) → Done ps → Next qs → Both (ps ++ qs))
    (h : HasReceived input now Done rest) (come : HasCome now left rest ms after) where
  -- of which the first were answered
  pub received_first : (k : ForFirst Next ms) → HasReceived input left Both (frames_spelling k.others ++ after)
  received_first k =
      let ps = h.packets in
      let first = ps ++ k.first in
      let parts : ps ++ ms ≡ first ++ k.others =
      ap (λ t. ps ++ t) k.packets_are ∙ sym (append_assoc ps k.first k.others) in
      let spelling : (frames_spelling ps ++ rest) ++ come.piece
      ≡ frames_spelling first ++ (frames_spelling k.others ++ after)
      = append_assoc (frames_spelling ps) rest come.piece ∙ ap (λ t. frames_spelling ps ++ t) come.parts
      ∙ sym (append_assoc (frames_spelling ps) (frames_spelling ms) after)
      ∙ ap (λ t. t ++ after) (sym (frames_append ps ms) ∙ ap frames_spelling parts ∙ frames_append first k.others)
      ∙ append_assoc (frames_spelling first) (frames_spelling k.others) after in
      record {
        packets = first;
        fit = first_fit first k.others (subst AreFit parts (AreFit-append ps ms h.fit come.fit));
        read = subst (Consumes input left) spelling
            (Consumes-trans input now left (frames_spelling ps ++ rest) come.piece h.read come.taken);
        done = both ps k.first h.done k.done;
      }

  -- all of which were answered
  pub received_more : Next ms → HasReceived input left Both after
  received_more next =
      received_first (record { first = ms; others = []; packets_are = sym (append-nil ms); done = next })

-- nothing whole came
come_none : (left after : Option (List ℕ)) (rest piece : List ℕ) → Consumes left after piece →
    HasCome left after rest [] (rest ++ piece)
come_none left after rest piece c = record { piece = piece; taken = c; fit = tt; parts = refl }

-- nothing came
pub come_nothing : (left after : Option (List ℕ)) (rest : List ℕ) → Consumes left after [] →
    HasCome left after rest [] rest
come_nothing left after rest c = record { piece = []; taken = c; fit = tt; parts = append-nil rest }

-- the end of a stream gives no packets
end_gives_none : (s : Standing) (ms : List Message) → Ok (Some ms) ≢ end_answer s
end_gives_none Stopped ms e = cc
end_gives_none (Open []) ms e = cc
end_gives_none (Open (b ∷ rest)) ms e = cc
end_gives_none (Doomed left) ms e = cc

-- a fault is told at the end only where no frame begins the rest
end_begins_none : (s : Standing) (rest : List ℕ) → Holds s rest → Err refusals.FrameFault ≡ end_answer s →
    BeginsNone rest
end_begins_none Stopped rest h e = h
end_begins_none (Open []) rest h e = absurd (let no : ⊥ = cc in no)
end_begins_none (Open (b ∷ more)) rest h e = absurd (let no : ⊥ = cc in no)
end_begins_none (Doomed left) rest h e = absurd (let no : ⊥ = cc in no)

-- what the end of a stream refuses
end_refuses : (s : Standing) (r : Refusal) → Err r ≡ end_answer s →
    (r ≡ refusals.FrameFault) ⊎ (r ≡ refusals.ReadFault)
end_refuses Stopped r e = inl cc
end_refuses (Open []) r e = absurd (let no : ⊥ = cc in no)
end_refuses (Open (b ∷ more)) r e = inr cc
end_refuses (Doomed left) r e = inr cc

-- Reading was refused: by which refusal, and how what was read stands after the last packet.
pub record IsReadRefused (left after : Option (List ℕ)) (rest : List ℕ) (r : Refusal) : Type 0 where
  pub which : (r ≡ refusals.WantOfMemory) ⊎ (r ≡ refusals.FrameFault) ⊎ (r ≡ refusals.ReadFault)
  pub others : List ℕ
  pub come : HasCome left after rest [] others
  pub bad : r ≡ refusals.FrameFault → BeginsNone others
  pub part : r ≡ refusals.ReadFault → HasNoFrame others

-- one read more leaves fewer
pub fewer_left : (old new : ReaderState) → (old.reads < STREAM_READS → new.reads ≡ old.reads + 1) →
    old.reads < STREAM_READS → STREAM_READS - new.reads < STREAM_READS - old.reads
fewer_left old new counted most = let one = counted most in omega (arith, one, most)

-- one read, by a reader that stands after a rest
module _ (left after : Option (List ℕ)) (old new : ReaderState) (rest : List ℕ) (holds : Holds old.standing rest) where
  -- packets
  pub come_packets : (ms : List Message) → ReadOnce left after old (Ok (Some ms)) new →
      (others : List ℕ) × HasCome left after rest ms others × Holds new.standing others × (new.waiting ≡ [])
  come_packets ms (inl (piece, some, taken, fed)) =
      let more = fed.0.2.1 rest holds in
      (more.0, record { piece = piece; taken = taken; fit = fed.0.2.0; parts = more.1 }, more.2, fed.1)
  come_packets ms (inr (inl h)) = absurd (end_gives_none old.standing ms h.0)
  come_packets ms (inr (inr h)) = absurd (let e = h.0 in let no : ⊥ = cc in no)

  -- a fault
  pub come_refused : PacketsFit → (r : Refusal) → ReadOnce left after old (Err r) new → IsReadRefused left after rest r
  come_refused fit r (inl (piece, some, taken, (inl want, waits))) =
      let want_is = want.0 in
      record {
        which = inl want_is;
        others = rest ++ piece;
        come = come_none left after rest piece taken;
        bad = λ e. absurd (let no : ⊥ = cc in no);
        part = λ e. absurd (let no : ⊥ = cc in no);
      }
  come_refused fit r (inl (piece, some, taken, (inr bad, waits))) =
      let bad_is = bad.0 in
      record {
        which = inr (inl bad_is);
        others = rest ++ piece;
        come = come_none left after rest piece taken;
        bad = λ e. stays_bad old.standing rest piece holds (bad.2 rest holds);
        part = λ e. absurd (let no : ⊥ = cc in no);
      }
  come_refused fit r (inr (inl h)) = record {
    which = inr (end_refuses old.standing r h.0);
    others = rest;
    come = come_nothing left after rest h.1;
    bad = λ e. end_begins_none old.standing rest holds (ap Err (sym e) ∙ h.0);
    part = λ e. holds_none fit old.standing rest holds;
  }
  come_refused fit r (inr (inr h)) =
      let fault = h.0 in
      let is : r ≡ refusals.ReadFault = cc in
      record {
        which = inr (inr is);
        others = rest;
        come = come_nothing left after rest (Consumes-kept left left after [] (Consumes-nil left) h.1);
        bad = λ e. absurd (let no : ⊥ = cc in no);
        part = λ e. holds_none fit old.standing rest holds;
      }

-- what an iterator of a vector has given is a front of its items
pub given_front : {X A : Type 0} (s : IntoIter X A) (xs : List X) (t : IntoIter X A) → Yields into_iter_steps s xs t →
    into_iter_items s ≡ xs ++ into_iter_items t
given_front s [] t y = ap into_iter_items y
given_front s (x ∷ xs) t y = y.1.0 ∙ ap (λ ys. x ∷ ys) (given_front y.0 xs t y.2)

-- the items of a vector: those that its iterator gave before, this one, and those after it
pub parts_of : {X A : Type 0} (items : List X) (s : IntoIter X A) (xs : List X) (t : IntoIter X A) (x : X)
    (u : IntoIter X A) → into_iter_items s ≡ items → Yields into_iter_steps s xs t → into_iter_steps t (Some x) u →
    items ≡ xs ++ ((x ∷ []) ++ into_iter_items u)
parts_of items s xs t x u is yielded step =
    sym is ∙ given_front s (xs ++ x ∷ []) u (Yields-more into_iter_steps s xs t x u yielded step)
    ∙ append_assoc xs (x ∷ []) (into_iter_items u)

-- the first of some packets, after others, and others after them
pub first_more : (Next Both : List Message → Type 0) (all ps qs others : List Message) → all ≡ ps ++ (qs ++ others) →
    ((ms : List Message) → Next ms → Both (ps ++ ms)) → ForFirst Next qs → ForFirst Both all
first_more Next Both all ps qs others is both k = record {
  first = ps ++ k.first;
  others = k.others ++ others;
  packets_are = is ∙ ap (λ t. ps ++ (t ++ others)) k.packets_are
      ∙ ap (λ t. ps ++ t) (append_assoc k.first k.others others)
      ∙ sym (append_assoc ps k.first (k.others ++ others));
  done = both k.first k.done;
}
