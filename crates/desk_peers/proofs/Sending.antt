-- One packet over a link.
use Rattle.std.proofs.Common.{◌≡◌, inl, inr, ℕ, Bool, true, List, [], ◌++◌, Option, None, Result, Ok, Err, OnErr}
use Rattle.std.proofs.Common.{sym, ap, ◌∙◌, subst, append_assoc, append-nil, if◌then◌else◌}
use Rattle.std.proofs.KnownBytes.{Appends-trans}
use Rattle.std.specs.Io.KnownBytes.{Appends}
use Rattle.desk_output.specs.Prefixes.{AppendsPrefix}
use Rattle.desk_types.specs.declared.epoch_packet.EpochPacket.{EpochPacket}
use Rattle.desk_codec.specs.Spelling.{frame_spelling}
use Rattle.desk_peers.specs.declared.header.EpochHeader.{EpochHeader}
use Rattle.desk_peers.specs.Headers.{header_of, header_spelling}
use Rattle.desk_peers.specs.Links.{StartsEmpty, LinkState, text_for, IsSentOver, IsSentOnce}

-- what is true is true of a fault
pub on_err : {A E : Type 0} {P : Type 0} (r : Result A E) → P → OnErr r P
on_err (Ok a) p = tt
on_err (Err e) p = p

-- what goes over a connection for a packet, of whose header another is known
pub text_by : (places : ℕ) (is_new : Bool) (p : EpochPacket) (h : EpochHeader) → h ≡ header_of p →
    (if is_new then header_spelling places h else []) ++ frame_spelling p.packet ≡ text_for places is_new p
text_by places is_new p h e = ap (λ x. (if is_new then header_spelling places x else []) ++ frame_spelling p.packet) e

-- a prefix of a text is one of a longer text
pub prefix_longer : (old new : Option (List ℕ)) (a b : List ℕ) → AppendsPrefix old new a →
    AppendsPrefix old new (a ++ b)
prefix_longer old new a b (prefix, rest, is, wrote) =
    (prefix, rest ++ b, ap (λ t. t ++ b) is ∙ append_assoc prefix rest b, wrote)

-- a text was written, and a prefix of another
pub prefix_after : (old mid new : Option (List ℕ)) (a b : List ℕ) → Appends old mid a → AppendsPrefix mid new b →
    AppendsPrefix old new (a ++ b)
prefix_after old mid new a b h (prefix, rest, is, wrote) = (
  a ++ prefix,
  rest,
  ap (λ t. a ++ t) is ∙ sym (append_assoc a prefix rest),
  Appends-trans old mid new a prefix h wrote,
)

-- all of a text was written
pub prefix_whole : (old new : Option (List ℕ)) (a : List ℕ) → Appends old new a → AppendsPrefix old new a
prefix_whole old new a h = (a, [], sym (append-nil a), h)

-- over a new connection
pub sent_new : (places : ℕ) (p : EpochPacket) (link : LinkState) (closed : Option (List (List ℕ)))
    (held : Option (List ℕ)) (sent : Bool) (new : LinkState) →
    IsSentOver (header_of p) (text_for places true p) closed held sent new →
    closed ≡ link.closed → link.current ≡ None → StartsEmpty link.closed held → IsSentOnce places p link sent new
sent_new places p link closed held sent new h same none empty =
    inr (inl (held, none, empty, subst (λ c. IsSentOver (header_of p) (text_for places true p) c held sent new) same h))
