-- Lines that are written in parts.
use Rattle.std.proofs.Common.{◌≡◌, ℕ, List, ◌++◌, Option, OnOk, codes, refl, sym, subst}
use Rattle.std.specs.Prelude.{Result, decimal}
use Rattle.std.proofs.KnownBytes.{Appends-trans}
use Rattle.std.proofs.lemmas.Result.{on_ok_weaker}
use Rattle.std.specs.Io.KnownBytes.{Appends}
use Rattle.desk_events.specs.Events.{why_word, door_word}
use Rattle.desk_events.specs.Lines.{event_members}
use Rattle.desk_events.specs.declared.event.Door.{Door}
use Rattle.desk_events.specs.declared.event.Event.{Event}
use Rattle.desk_events.specs.declared.event.Event.TheVariants as events
use Rattle.desk_events.specs.declared.event.Why.{Why}

-- a text is written after another
pub wrote_both : {T E : Type 0} (a b c : Option (List ℕ)) (xs ys : List ℕ) (r : Result T E) → Appends a b xs →
    OnOk r (Appends b c ys) → OnOk r (Appends a c (xs ++ ys))
wrote_both a b c xs ys r h k = on_ok_weaker r (Appends-trans a b c xs ys h) k

-- the members of an event were written, where it is that one
pub wrote_members : {T E : Type 0} (a b : Option (List ℕ)) (r : Result T E) (event is : Event) → event ≡ is →
    OnOk r (Appends a b (event_members is)) → OnOk r (Appends a b (event_members event))
wrote_members a b r event is same wrote = subst (λ e. OnOk r (Appends a b (event_members e))) (sym same) wrote

-- the members of a link that is down, where the word is that for why
pub link_down_is : (to : ℕ) (why : Why) (word : List ℕ) → word ≡ why_word why →
    codes "\"to\":" ++ (decimal to ++ (codes ",\"why\":\"" ++ (word ++ codes "\"}\n")))
    ≡ event_members (events.LinkDown to why)
link_down_is to why word same = rw same refl

-- the members of who was refused, where the words are those for the port and for why
pub refused_is : (at : Door) (why : Why) (door word : List ℕ) → door ≡ door_word at → word ≡ why_word why →
    codes "\"at\":\"" ++ (door ++ (codes "\",\"why\":\"" ++ (word ++ codes "\"}\n")))
    ≡ event_members (events.Refused at why)
refused_is at why door word same is = rw (same, is) refl

-- a text was written, which is this one
pub wrote_text : {T E : Type 0} (a b : Option (List ℕ)) (r : Result T E) (text is : List ℕ) → text ≡ is →
    OnOk r (Appends a b text) → OnOk r (Appends a b is)
wrote_text a b r text is same wrote = subst (λ t. OnOk r (Appends a b t)) same wrote
