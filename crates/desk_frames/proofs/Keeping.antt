-- The entries that stood before a step.
use Rattle.std.proofs.Common.{◌≡◌, List, [], ◌∷◌, ◌++◌, length, Option, Some, None, refl, sym, ap, subst, ◌∙◌}
use Rattle.std.proofs.Common.{append_assoc, append-nil, arith}
use Rattle.std.proofs.lemmas.List.{length-append}
use Rattle.desk_types.specs.declared.command.Entry.{Entry}
use Rattle.desk_types.specs.declared.packet.Message.{Message}
use Rattle.desk_types.specs.declared.packet.Message.TheVariants.{Prepare, PrepareOk, Commit, StartViewChange}
use Rattle.desk_types.specs.declared.packet.Message.TheVariants.{DoViewChange, StartView, GetState, NewState}
use Rattle.desk_codec.specs.Version.{entries_of}
use Rattle.desk_frames.specs.Frame.{FrameState, HasEntries, IsAwaited, IsFront, PreservedAt, PreservedWith}
use Rattle.desk_frames.specs.Whole.{log_in}

front_front : (xs ys zs : List Entry) → IsFront xs ys → IsFront ys zs → IsFront xs zs
front_front xs ys zs p q = (p.0 ++ q.0, sym (append_assoc xs p.0 q.0) ∙ ap (λ r. r ++ q.0) p.1 ∙ q.1)

pub front_self : (xs : List Entry) → IsFront xs xs
front_self xs = ([], append-nil xs)

-- a packet with one entry had none before
lone_front : (es ds : List Entry) (e d : Entry) → IsFront es ds → d ∷ [] ≡ ds ++ e ∷ [] → IsFront es []
lone_front [] ds e d f h = front_self []
lone_front (y ∷ ys) ds e d f h =
    absurd (omega (arith, ap length h, length-append ds (e ∷ []), ap length f.1, length-append (y ∷ ys) f.0))

no_entry_more : (ds : List Entry) (e : Entry) → [] ≡ ds ++ e ∷ [] → ⊥
no_entry_more ds e h = omega (arith, ap length h, length-append ds (e ∷ []))

log_front : (m : Message) (es ds : List Entry) (e : Entry) → IsFront es ds → entries_of m ≡ ds ++ e ∷ [] →
    IsFront es (log_in m)
log_front (Prepare from view place commit entry) es ds e f h = lone_front es ds e entry f h
log_front (PrepareOk from view place) es ds e f h = absurd (no_entry_more ds e h)
log_front (Commit from view commit) es ds e f h = absurd (no_entry_more ds e h)
log_front (StartViewChange from view) es ds e f h = absurd (no_entry_more ds e h)
log_front (GetState from view base) es ds e f h = absurd (no_entry_more ds e h)
log_front (DoViewChange from view normal commit log) es ds e f h =
    front_front es ds log f (e ∷ [], sym h)
log_front (StartView from view commit log) es ds e f h = front_front es ds log f (e ∷ [], sym h)
log_front (NewState from view base commit entries) es ds e f h = front_front es ds entries f (e ∷ [], sym h)

-- an entry came
pub entry_keeps : (f g : FrameState) (e : Entry) (packet : Option Message) → IsAwaited f.stage →
    HasEntries (f.entries ++ e ∷ []) packet g.stage g.entries → (es : List Entry) → PreservedAt es f.stage f.entries →
    PreservedWith es packet g
entry_keeps f g e packet a has es k = of packet has
  where
    of : (packet : Option Message) → HasEntries (f.entries ++ e ∷ []) packet g.stage g.entries →
        PreservedWith es packet g
    of None has = λ b. front_front es (f.entries ++ e ∷ []) g.entries
        (front_front es f.entries (f.entries ++ e ∷ []) (k a) (e ∷ [], refl)) (has b)
    of (Some m) has = log_front m es f.entries e (k a) has

nil_front : (es ds : List Entry) → IsFront es [] → IsFront es ds
nil_front [] ds f = (ds, refl)
nil_front (y ∷ ys) ds f = absurd (omega (arith, ap length f.1, length-append (y ∷ ys) f.0))

-- a start came, before which there was no entry
pub start_keeps : (f g : FrameState) (packet : Option Message) → IsAwaited f.stage → f.entries ≡ [] →
    HasEntries f.entries packet g.stage g.entries → (es : List Entry) → PreservedAt es f.stage f.entries →
    PreservedWith es packet g
start_keeps f g packet a none has es k = of packet has
  where
    of : (packet : Option Message) → HasEntries f.entries packet g.stage g.entries → PreservedWith es packet g
    of None has = λ b. front_front es f.entries g.entries (k a) (has b)
    of (Some m) has = nil_front es (log_in m) (subst (IsFront es) none (k a))
