-- What a stream of packets puts into a mailbox.
use Rattle.std.proofs.Common.{map, ◌≡◌, ◌⊎◌, inl, inr, ℕ, Bool, true, false, List, [], ◌∷◌, ◌++◌, Option}
use Rattle.std.proofs.Common.{sym, ap, subst, ◌∙◌, append_assoc, append-nil}
use Rattle.std.proofs.lemmas.List.{map-append}
use Rattle.std.proofs.lemmas.List.Elements.{filter-append}
use Rattle.std.proofs.KnownBytes.{Consumes-nil, Consumes-trans}
use Rattle.std.specs.List.{filter}
use Rattle.desk_types.specs.declared.packet.Message.{Message}
use Rattle.desk_types.specs.declared.refusal.Refusal.{Refusal}
use Rattle.desk_types.specs.declared.refusal.Refusal.TheVariants as refusals
use Rattle.desk_frames.specs.Received.{ForFirst}
use Rattle.desk_frames.specs.Stream.{AreFit, BeginsNone, frames_spelling}
use Rattle.desk_frames.proofs.Cuttings.{AreFit-append}
use Rattle.desk_frames.proofs.Receiving.{HasCome, IsReadRefused, frames_append}
use Rattle.desk_mailbox.specs.declared.item.Item.{Item}
use Rattle.desk_peers.specs.declared.header.EpochHeader.{EpochHeader}
use Rattle.desk_peers.specs.Incoming.{is_put, item_under, HasPut, HasPutOf, HasPutOne}
use Rattle.desk_peers.specs.Incoming.{HasFramesAfter, EndsFrames}

-- packets were put after others
all_more : (h : EpochHeader) (a b c : List Item) (ps qs : List Message) → HasPut h a b ps → HasPut h b c qs →
    HasPut h a c (ps ++ qs)
all_more h a b c ps qs e k =
    k ∙ ap (λ t. t ++ map (item_under h) qs) e
    ∙ append_assoc a (map (item_under h) ps) (map (item_under h) qs)
    ∙ ap (λ t. a ++ t) (sym (map-append (item_under h) ps qs))

first_fit : (ms ns : List Message) → AreFit (ms ++ ns) → AreFit ms
first_fit [] ns h = tt
first_fit (m ∷ ms) ns h = (h.0, first_fit ms ns h.1)

module _ (h : EpochHeader) (from : Option ℕ) where
  -- nothing was put
  pub put_none : (a : List Item) → HasPutOf h from a a []
  put_none a = sym (append-nil a)

  -- packets were put after others
  pub put_more : (a b c : List Item) (ps qs : List Message) → HasPutOf h from a b ps →
      HasPutOf h from b c qs → HasPutOf h from a c (ps ++ qs)
  put_more a b c ps qs e k =
      subst (HasPut h a c) (sym (filter-append (is_put h from) ps qs))
      (all_more h a b c (filter (is_put h from) ps) (filter (is_put h from) qs) e k)

  -- one packet more was put
  pub put_one : (a b c : List Item) (ps : List Message) (p : Message) (put : Bool) →
      HasPutOf h from a b ps → HasPutOne h from b c p put → put ≡ true → HasPutOf h from a c (ps ++ p ∷ [])
  put_one a b c ps p put e k is = put_more a b c ps (p ∷ []) e (subst (HasPutOne h from b c p) is k)

  -- the keeper had ended before this packet
  pub put_first : (a b c : List Item) (all ps others : List Message) (p : Message) (put : Bool) →
      all ≡ ps ++ ((p ∷ []) ++ others) → HasPutOf h from a b ps → HasPutOne h from b c p put → put ≡ false →
      ForFirst (HasPutOf h from a c) all
  put_first a b c all ps others p put is e k ended = record {
    first = ps;
    others = p ∷ others;
    packets_are = is;
    done = subst (HasPutOne h from b c p) ended k ∙ e;
  }

-- frames that go on after these bytes
module _ (h : EpochHeader) (from : Option ℕ) (bytes : List ℕ) (input now left : Option (List ℕ))
    (a b c : List Item) (rest after : List ℕ) (ms : List Message)
    (k : HasFramesAfter bytes input now (HasPutOf h from a b) rest) (come : HasCome now left rest ms after) where
  -- the first of which were put
  takes_some : (f : ForFirst (HasPutOf h from b c) ms) →
      HasFramesAfter bytes input left (HasPutOf h from a c) (frames_spelling f.others ++ after)
  takes_some f =
      let ps = k.packets in
      let first = ps ++ f.first in
      let parts : ps ++ ms ≡ first ++ f.others =
      ap (λ t. ps ++ t) f.packets_are ∙ sym (append_assoc ps f.first f.others) in
      let spelling : (frames_spelling ps ++ rest) ++ come.piece
      ≡ frames_spelling first ++ (frames_spelling f.others ++ after)
      = append_assoc (frames_spelling ps) rest come.piece ∙ ap (λ t. frames_spelling ps ++ t) come.parts
      ∙ sym (append_assoc (frames_spelling ps) (frames_spelling ms) after)
      ∙ ap (λ t. t ++ after) (sym (frames_append ps ms) ∙ ap frames_spelling parts ∙ frames_append first f.others)
      ∙ append_assoc (frames_spelling first) (frames_spelling f.others) after in
      record {
        packets = first;
        fit = first_fit first f.others (subst AreFit parts (AreFit-append ps ms k.fit come.fit));
        piece = k.piece ++ come.piece;
        read = Consumes-trans input now left k.piece come.piece k.read come.taken;
        parts = sym (append_assoc bytes k.piece come.piece) ∙ ap (λ t. t ++ come.piece) k.parts ∙ spelling;
        done = put_more h from a b c ps f.first k.done f.done;
      }

  -- all of which were put
  pub takes_more : HasPutOf h from b c ms → HasFramesAfter bytes input left (HasPutOf h from a c) after
  takes_more put =
      takes_some (record { first = ms; others = []; packets_are = sym (append-nil ms); done = put })

  -- the keeper has ended
  pub takes_first : (r : Refusal) → r ≡ refusals.NodeStopped → ForFirst (HasPutOf h from b c) ms →
      EndsFrames h from r bytes input left a c
  takes_first r stopped f = record {
    rest = frames_spelling f.others ++ after;
    followed = takes_some f;
    frame_fault = λ e. absurd (let none : ⊥ = cc in none);
    read_fault = λ e. absurd (let none : ⊥ = cc in none);
  }

-- nothing was read after these bytes
pub begins : (h : EpochHeader) (from : Option ℕ) (bytes : List ℕ) (input : Option (List ℕ)) (a : List Item) →
    HasFramesAfter bytes input input (HasPutOf h from a a) bytes
begins h from bytes input a = record {
  packets = [];
  fit = tt;
  piece = [];
  read = Consumes-nil input;
  parts = append-nil bytes;
  done = put_none h from a;
}

-- they begin no frame, or were not taken
pub ends_at_start : (h : EpochHeader) (from : Option ℕ) (bytes : List ℕ) (input : Option (List ℕ))
    (a : List Item) (r : Refusal) →
    (r ≡ refusals.WantOfMemory) ⊎ ((r ≡ refusals.FrameFault) × BeginsNone bytes) →
    EndsFrames h from r bytes input input a a
ends_at_start h from bytes input a r (inl want) = record {
  rest = bytes;
  followed = begins h from bytes input a;
  frame_fault = λ e. absurd (let none : ⊥ = cc in none);
  read_fault = λ e. absurd (let none : ⊥ = cc in none);
}
ends_at_start h from bytes input a r (inr bad) = record {
  rest = bytes;
  followed = begins h from bytes input a;
  frame_fault = λ e. bad.1;
  read_fault = λ e. absurd (let fault = bad.0 in let none : ⊥ = cc in none);
}

-- reading was refused
pub ends_by_read : (h : EpochHeader) (from : Option ℕ) (bytes : List ℕ) (input now left : Option (List ℕ))
    (a b : List Item) (rest : List ℕ) (r : Refusal) →
    HasFramesAfter bytes input now (HasPutOf h from a b) rest → IsReadRefused now left rest r →
    EndsFrames h from r bytes input left a b
ends_by_read h from bytes input now left a b rest r k refused = record {
  rest = refused.others;
  followed = takes_more h from bytes input now left a b b rest refused.others [] k refused.come (put_none h from b);
  frame_fault = refused.bad;
  read_fault = refused.part;
}
