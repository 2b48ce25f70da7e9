-- What nodes were asked, and what came of it.
use Rattle.std.specs.Prelude.{◌≡◌, ◌≢◌, ◌⊎◌, ℕ, ◌+◌, ◌<◌, ◌==◌, Bool, true, false, List, [], ◌∷◌, ◌++◌, Option}
use Rattle.std.specs.Prelude.{Some, None, map}
use Rattle.std.specs.Prelude.{Result, Ok, Err, String, string_bytes, if◌then◌else◌}
use Rattle.std.specs.Io.KnownBytes.{Appends, Consumes}
use Rattle.desk_types.specs.declared.refusal.Refusal.{Refusal}
use Rattle.desk_types.specs.declared.refusal.Refusal.TheVariants as refusals
use Rattle.desk_output.specs.Prefixes.{AppendsPrefix}
use Rattle.desk_lines.specs.declared.buffer.LineBuffer.{LineBuffer}
use Rattle.desk_send.specs.Exchanges.{request}
use Rattle.desk_send.specs.Replies.{IsReplyLine}
use Rattle.desk_follow.specs.declared.course.Course.{Course}
use Rattle.desk_follow.specs.declared.course.Course.TheVariants as courses
use Rattle.desk_follow.specs.declared.nodes.NoReply.{NoReply}
use Rattle.desk_follow.specs.declared.nodes.NodeReply.{NodeReply}
use Rattle.desk_follow.specs.Readings.{course_of}

-- What a node was asked, as the bytes that are sent for a line, whether that goes out after a handshake alone, and its
-- reply, where one came.
pub record Try : Type 0 where
  pub node : ℕ
  pub is_keyed : Bool
  pub asked : List ℕ
  pub came : Option (List ℕ)

-- the reply, where one came
abbrev pub came_of : {A : Type 0} → Result (String A) NoReply → Option (List ℕ)
came_of (Ok reply) = Some (string_bytes reply)
came_of (Err fault) = None

-- what is sent for a line, of which a buffer holds this
abbrev pub held_request : LineBuffer → List ℕ
held_request line = line.bytes.items ++ (if line.is_long then 32 ∷ 10 ∷ [] else 10 ∷ [])

-- the tries that lines and what came of each tell, in order
abbrev pub tries_of : List (LineBuffer × NodeReply) → List Try
tries_of entries =
    map (λ e. record {
      node = e.1.node;
      is_keyed = e.1.is_keyed;
      asked = held_request e.0;
      came = came_of e.1.reply;
    }) entries

-- what is done about the line then; it is asked again where no reply came
abbrev pub course_by : ℕ → Option (List ℕ) → Course
course_by count None = courses.Later
course_by count (Some reply) = course_of count reply

-- the node after a node; after the last it is the first
abbrev pub following_node : ℕ → ℕ → ℕ
following_node count node = if node + 1 == count then 0 else node + 1

-- where a line goes that is asked again: to another node that was named as the primary, or else to the node after
abbrev pub node_by : ℕ → ℕ → Course → ℕ
node_by count node (courses.At primary) = if primary == node then following_node count node else primary
node_by count node courses.Later = following_node count node
node_by count node courses.Final = node

-- where a line goes after a try
abbrev pub node_after : ℕ → ℕ → Option (List ℕ) → ℕ
node_after count node came = node_by count node (course_by count came)

-- These bytes were asked in each try, one after the other, each after a handshake where nodes have a key: first of one
-- node, then where the try before sends the line. None had a final reply. The last sends the line to the other node.
abbrev pub LeadsTo : ℕ → Bool → List ℕ → ℕ → List Try → ℕ → Type 0
LeadsTo count has_key asked first [] next = next ≡ first
LeadsTo count has_key asked first (t ∷ tries) next =
    (t.node ≡ first) × (t.is_keyed ≡ has_key) × (t.asked ≡ asked) × (course_by count t.came ≢ courses.Final)
    × LeadsTo count has_key asked (node_after count first t.came) tries next

-- the tries grow by one, in which a node was asked this line, after a handshake where nodes have a key
abbrev pub GrowsByTry : List Try → List Try → ℕ → Bool → List ℕ → Option (List ℕ) → Type 0
GrowsByTry old new node has_key line came =
    new ≡ old ++ record { node = node; is_keyed = has_key; asked = request line; came = came } ∷ []

-- Nodes were asked this line alone, in the order that replies say, each after a handshake where they have a key. None
-- gave a final reply.
abbrev pub Tried : ℕ → Bool → List Try → ℕ → List ℕ → List Try → ℕ → Type 0
Tried count has_key old first line new next =
    (tries : List Try) × (new ≡ old ++ tries) × LeadsTo count has_key (request line) first tries next

-- Nodes were asked this line alone, in the order that replies say, each after a handshake where they have a key. The
-- last gave this reply, which is final, and none before did.
abbrev pub Answered : ℕ → Bool → List Try → ℕ → List ℕ → List ℕ → List Try → ℕ → Type 0
Answered count has_key old first line reply new last =
    (tries : List Try)
    × (new ≡ old
    ++ (tries ++ record { node = last; is_keyed = has_key; asked = request line; came = Some reply } ∷ []))
    × LeadsTo count has_key (request line) first tries last × (course_of count reply ≡ courses.Final)

-- Why a line is given up, and whether that is noted: memory was refused, or the time for its tries is over.
abbrev pub GivenUp : Refusal → Bool → Type 0
GivenUp refusal is_late =
    ((refusal ≡ refusals.WantOfMemory) × (is_late ≡ false)) ⊎ ((refusal ≡ refusals.ReadFault) × (is_late ≡ true))

-- the primary that is named is of the group
abbrev pub IsWithin : ℕ → Course → Type 0
IsWithin count (courses.At node) = node < count
IsWithin count other = Unit {0}

-- The line went out as a request, and the reply is the next line that came.
pub record RepliesOver (old new left : Option (List ℕ)) (line reply : List ℕ) : Type 0 where
  pub rest : Option (List ℕ)
  pub asked : Appends old new (request line)
  pub reported : Consumes left rest reply
  pub whole : IsReplyLine reply

-- A prefix of what is sent for the line went out, and no reply line came.
pub record BreaksOver (old new left : Option (List ℕ)) (line : List ℕ) : Type 0 where
  pub came : List ℕ
  pub rest : Option (List ℕ)
  pub asked : AppendsPrefix old new (request line)
  pub reported : Consumes left rest came
  pub none : IsReplyLine came → ⊥
