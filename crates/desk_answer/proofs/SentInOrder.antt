-- What was sent for packets, one after the other.
use Rattle.std.proofs.Common.{map, ◌≡◌, ℕ, ◌+◌, ◌<◌, List, [], ◌∷◌, ◌++◌, length, get_or, take, drop}
use Rattle.std.proofs.Common.{Option, sym, ap, subst, ◌∙◌, append_assoc, append-nil, take-append-drop}
use Rattle.std.proofs.KnownBytes.{Appends-trans}
use Rattle.std.proofs.lemmas.List.{map_more, map-append}
use Rattle.std.proofs.lemmas.List.Concat.{flat_map-cons}
use Rattle.std.specs.Io.KnownBytes.{Appends}
use Rattle.desk_types.specs.declared.packet.Message.{Message}
use Rattle.desk_codec.specs.Spelling.{frame_spelling}
use Rattle.desk_frames.specs.Stream.{frames_spelling}
use Rattle.desk_frames.proofs.Receiving.{frames_append}
use Rattle.desk_node.specs.NodeValue.{NodeValue}
use Rattle.desk_output.specs.Prefixes.{AppendsPrefix}
use Rattle.desk_answer.specs.AnswerStream.{HasSent, HasSentButLast}
use Rattle.desk_answer.proofs.StepsInOrder.{stepped_nothing, stepped_more}

-- a prefix of the last of two texts is written
pub prefix_after : (a b c : Option (List ℕ)) (xs ys : List ℕ) → Appends a b xs → AppendsPrefix b c ys →
    AppendsPrefix a c (xs ++ ys)
prefix_after a b c xs ys p q = (
  xs ++ q.0,
  q.1,
  ap (λ t. xs ++ t) q.2 ∙ sym (append_assoc xs q.0 q.1),
  Appends-trans a b c xs q.0 p q.3,
)

pub sent_nothing : (Writes : List ℕ → Type 0) (a : NodeValue) → Writes [] → HasSent Writes a a []
sent_nothing Writes a none = record { sent = []; stepped = stepped_nothing a; written = none }

-- What was written as one relation asks was written as another does that follows from it.
pub sent_as : (Writes Then : List ℕ → Type 0) (a b : NodeValue) (packets : List Message) →
    ((text : List ℕ) → Writes text → Then text) → HasSent Writes a b packets → HasSent Then a b packets
sent_as Writes Then a b packets then h =
    record { sent = h.sent; stepped = h.stepped; written = then (frames_spelling h.sent) h.written }

-- packets after others
module _ (First Next Both : List ℕ → Type 0) (joined : (xs ys : List ℕ) → First xs → Next ys → Both (xs ++ ys))
    (a b : NodeValue) (ps : List Message) (h : HasSent First a b ps) where
  pub sent_more : (c : NodeValue) (qs : List Message) → HasSent Next b c qs → HasSent Both a c (ps ++ qs)
  sent_more c qs k = record {
    sent = h.sent ++ k.sent;
    stepped = stepped_more a b c ps qs h.sent k.sent h.stepped k.stepped;
    written = subst Both (sym (frames_append h.sent k.sent))
        (joined (frames_spelling h.sent) (frames_spelling k.sent) h.written k.written);
  }

  pub but_last_more : (c d : NodeValue) (qs : List Message) → HasSentButLast Next b c d qs →
      HasSentButLast Both a c d (ps ++ qs)
  but_last_more c d qs k = record {
    first = ps ++ k.first;
    last = k.last;
    packets_are = ap (λ t. ps ++ t) k.packets_are ∙ sym (append_assoc ps k.first (k.last ∷ []));
    sent = sent_more c k.first k.sent;
    more = k.more;
    stepped = k.stepped;
  }

-- a prefix of a text is one of a longer text
prefix_longer : (a b : Option (List ℕ)) (xs ys : List ℕ) → AppendsPrefix a b xs → AppendsPrefix a b (xs ++ ys)
prefix_longer a b xs ys p = (p.0, p.1 ++ ys, ap (λ t. t ++ ys) p.2 ∙ append_assoc p.0 p.1 ys, p.3)

-- a packet of a list, with its receiver, and those before it
module _ (a b c : Option (List ℕ)) (xs : List (ℕ × Message)) (i : ℕ) (x : ℕ × Message) (within : i < length xs)
    (is : x ≡ get_or xs i x) (h : Appends a b (frames_spelling (map (λ sent. sent.1) (take i xs)))) where
  one_more : frames_spelling (map (λ sent. sent.1) (take (i + 1) xs))
      ≡ frames_spelling (map (λ sent. sent.1) (take i xs)) ++ frame_spelling x.1
  one_more =
      let before = map (λ (sent : ℕ × Message). sent.1) (take i xs) in
      ap frames_spelling (map_more (λ (sent : ℕ × Message). sent.1) xs i x within
      ∙ ap (λ (y : ℕ × Message). before ++ y.1 ∷ []) (sym is))
      ∙ frames_append before (x.1 ∷ [])
      ∙ ap (λ t. frames_spelling before ++ t) (flat_map-cons frame_spelling x.1 [] ∙ append-nil (frame_spelling x.1))

  pub wrote_more : Appends b c (frame_spelling x.1) →
      Appends a c (frames_spelling (map (λ sent. sent.1) (take (i + 1) xs)))
  wrote_more k = subst (Appends a c) (sym one_more) (Appends-trans a b c _ (frame_spelling x.1) h k)

  pub wrote_part : AppendsPrefix b c (frame_spelling x.1) →
      AppendsPrefix a c (frames_spelling (map (λ sent. sent.1) xs))
  wrote_part k =
      let f = λ (sent : ℕ × Message). sent.1 in
      let whole : frames_spelling (map f xs)
      ≡ frames_spelling (map f (take (i + 1) xs)) ++ frames_spelling (map f (drop (i + 1) xs)) =
      ap (λ (ys : List (ℕ × Message)). frames_spelling (map f ys)) (sym (take-append-drop (i + 1) xs))
      ∙ ap frames_spelling (map-append f (take (i + 1) xs) (drop (i + 1) xs))
      ∙ frames_append (map f (take (i + 1) xs)) (map f (drop (i + 1) xs)) in
      let first = subst (AppendsPrefix a c) (sym one_more) (prefix_after a b c _ (frame_spelling x.1) h k) in
      subst (AppendsPrefix a c) (sym whole) (prefix_longer a c _ _ first)
