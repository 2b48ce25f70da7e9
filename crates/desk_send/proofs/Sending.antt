-- Lines that were sent, one after the other.
use Rattle.std.proofs.Common.{ℕ, suc, List, [], ◌∷◌, Option, Some, None, IfSome}
use Rattle.std.proofs.Common.{refl, ap, ◌∙◌}
use Rattle.std.proofs.KnownBytes.{Appends-nil, Appends-trans, Consumes-nil, Consumes-trans}
use Rattle.std.proofs.lemmas.List.Elements.{All-nil, All-cons}
use Rattle.desk_types.specs.declared.refusal.Refusal.{Refusal}
use Rattle.desk_lines.specs.Lines.{lines_of, spoken}
use Rattle.desk_output.specs.Joined.{joined}
use Rattle.desk_lines.specs.Served.{Serves, Served, BreaksOff}
use Rattle.desk_send.specs.Replies.{IsReplyLine}
use Rattle.desk_send.specs.Exchanges.{Traffic, request, Exchanged, GivesUp, Conversed, Sent, SentInPart}

-- nothing was sent
conversed_none : (a : Traffic) → Conversed a [] [] a
conversed_none a = record {
  asked = Appends-nil a.sent;
  reported = Consumes-nil a.left;
  whole = All-nil IsReplyLine;
  each = refl;
  same = refl;
}

-- one more line was sent before the others
conversed_more : (a b c : Traffic) (line reply : List ℕ) (lines replies : List (List ℕ)) → Exchanged a line reply b →
    Conversed b lines replies c → Conversed a (line ∷ lines) (reply ∷ replies) c
conversed_more a b c line reply lines replies e k = record {
  asked = Appends-trans a.sent b.sent c.sent (request line) _ e.asked k.asked;
  reported = Consumes-trans a.left b.left c.left reply (joined replies) e.reported k.reported;
  whole = All-cons IsReplyLine reply replies e.whole k.whole;
  each = ap suc k.each;
  same = k.same ∙ e.same;
}

conversed : (a b : Traffic) (lines replies : List (List ℕ)) → Serves Exchanged a lines replies b →
    Conversed a lines replies b
conversed a b [] [] h = rw h (conversed_none a)
conversed a b (line ∷ lines) (reply ∷ replies) h =
    conversed_more a h.0 b line reply lines replies h.1 (conversed h.0 b lines replies h.2)
conversed a b [] (reply ∷ replies) h = absurd h
conversed a b (line ∷ lines) [] h = absurd h

pub sent : (input : Option (List ℕ)) (a b : Traffic) (s t : Option (List ℕ)) →
    IfSome input (λ text. Served Exchanged a s (lines_of text) b t) →
    IfSome input (λ text. Sent a s (lines_of text) b t)
sent None a b s t h = tt
sent (Some text) a b s t h = (h.0, conversed a b (spoken (lines_of text)) h.0 h.1, h.2)

pub sent_in_part : (r : Refusal) (input : Option (List ℕ)) (a b : Traffic) (s t : Option (List ℕ)) →
    IfSome input (λ text. BreaksOff Exchanged GivesUp r a s (lines_of text) b t) →
    IfSome input (λ text. SentInPart r a s (lines_of text) b t)
sent_in_part r None a b s t h = tt
sent_in_part r (Some text) a b s t h = (
  h.0,
  h.1,
  h.3.0,
  h.3.1,
  h.2,
  conversed a h.3.1 (spoken h.0) h.3.0 h.3.2,
  h.3.3,
  h.3.4,
)
