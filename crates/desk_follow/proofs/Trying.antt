-- Tries, one after the other.
use Rattle.std.proofs.Common.{◌≡◌, ◌≢◌, ◌∙◌, ℕ, Bool, List, [], ◌∷◌, ◌++◌, Option, Some, refl, sym, ap}
use Rattle.std.proofs.Common.{append-nil, append_assoc}
use Rattle.std.proofs.lemmas.List.{map-append}
use Rattle.desk_lines.specs.declared.buffer.LineBuffer.{LineBuffer}
use Rattle.desk_lines.specs.Holding.{HoldsLine}
use Rattle.desk_send.specs.Exchanges.{request}
use Rattle.desk_send.proofs.Requests.{request_is}
use Rattle.desk_follow.specs.declared.nodes.NodeReply.{NodeReply}
use Rattle.desk_follow.specs.Readings.{course_of}
use Rattle.desk_follow.specs.Tries.{Try, GrowsByTry, LeadsTo, Tried, Answered, came_of, course_by, node_after, tries_of}
use Rattle.desk_follow.specs.declared.course.Course.TheVariants as courses

grows_twice : (a b c xs ys : List Try) → b ≡ a ++ xs → c ≡ b ++ ys → c ≡ a ++ (xs ++ ys)
grows_twice a b c xs ys g h = h ∙ ap (λ l. l ++ ys) g ∙ append_assoc a xs ys

-- one more try, which sends the line on
leads_on : (count : ℕ) (key : Bool) (asked : List ℕ) (first next : ℕ) (tries : List Try) (came : Option (List ℕ)) →
    LeadsTo count key asked first tries next → course_by count came ≢ courses.Final →
    LeadsTo count key asked first
    (tries ++ record { node = next; is_keyed = key; asked = asked; came = came } ∷ []) (node_after count next came)
leads_on count key asked first next [] came h again = (h, refl, refl, again, ap (λ n. node_after count n came) h)
leads_on count key asked first next (t ∷ tries) came h again =
    (h.0, h.1, h.2, h.3, leads_on count key asked (node_after count first t.came) next tries came h.4 again)

-- nothing was tried yet
pub none : (count node : ℕ) (key : Bool) (old : List Try) (line : List ℕ) → Tried count key old node line old node
none count node key old line = ([], sym (append-nil old), refl)

pub more : (count first node next : ℕ) (key : Bool) (a b c : List Try) (line : List ℕ) (came : Option (List ℕ)) →
    Tried count key a first line b node → GrowsByTry b c node key line came → course_by count came ≢ courses.Final →
    next ≡ node_after count node came → Tried count key a first line c next
more count first node next key a b c line came t g again is = rw is (
  t.0 ++ record { node = node; is_keyed = key; asked = request line; came = came } ∷ [],
  grows_twice a b c t.0 _ t.1 g,
  leads_on count key (request line) first node t.0 came t.2 again,
)

pub final : (count first node : ℕ) (key : Bool) (a b c : List Try) (line reply : List ℕ) →
    Tried count key a first line b node → GrowsByTry b c node key line (Some reply) →
    course_of count reply ≡ courses.Final → Answered count key a first line reply c node
final count first node key a b c line reply t g is = (t.0, grows_twice a b c t.0 _ t.1 g, t.2, is)

-- what a log notes of a line that it holds is one more try
pub noted : (old new : List (LineBuffer × NodeReply)) (line : LineBuffer) (came : NodeReply) (text : List ℕ) →
    new ≡ old ++ (line, came) ∷ [] → HoldsLine line text →
    GrowsByTry (tries_of old) (tries_of new) came.node came.is_keyed text (came_of came.reply)
noted old new line came text is h = rw (is, ← request_is line.bytes.items line.is_long text h) (map-append _ old _)
