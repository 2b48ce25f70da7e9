-- Answers that carry a reply: each is that of a committed place.
use Rattle.std.proofs.Common.{◌≡◌, ℕ, zero, suc, ◌+◌, ◌-◌, ◌≤◌, List, [], ◌∷◌, ◌++◌, take, Option, Some, None, refl}
use Rattle.std.proofs.Common.{sym, ◌∙◌, arith}
use Rattle.std.specs.List.{AllByRecursion}
use Rattle.desk_types.specs.declared.command.Entry.{Entry}
use Rattle.desk_types.specs.declared.outcome.Outcome.{Outcome}
use Rattle.desk_types.specs.declared.outcome.Outcome.TheVariants.{Document, Command, Node, Board}
use Rattle.desk_types.specs.declared.reply.Reply.{Reply}
use Rattle.desk_log.specs.Entries.{IsLogPrefix, entry_at}
use Rattle.desk_log.specs.SavedValue.{SavedValue}
use Rattle.desk_board.specs.Log.{reply_at}
use Rattle.desk_world.specs.Agreement.{IsReplyAt}
use Rattle.desk_log.proofs.Prefixes.{prefix_take}
use Rattle.desk_log.proofs.Places.{entry_at-prefix, entry_at_within}
use Rattle.desk_world.proofs.FirstEntries.{take-same, entry_at-take}
use Rattle.desk_node.specs.Answers.{answer_of, answer_at, answers_after}

-- An answer with a reply is that of a place that the node has committed.
abbrev pub IsCommittedAnswer : List ℕ → SavedValue → Outcome → Type 0
IsCommittedAnswer domain s (Document refusal) = Unit {0}
IsCommittedAnswer domain s (Command client number reply) =
    (place : ℕ) × IsReplyAt domain (take s.commit s.log) client number place reply
IsCommittedAnswer domain s (Node client number refusal) = Unit {0}
IsCommittedAnswer domain s (Board client shown) = Unit {0}

abbrev pub AreCommittedAnswers : List ℕ → SavedValue → List Outcome → Type 0
AreCommittedAnswers domain s answers = AllByRecursion (IsCommittedAnswer domain s) answers

-- replies of a prefix

pub reply_at-prefix : (domain : List ℕ) (xs ys : List Entry) (place : ℕ) (e : Entry) → IsLogPrefix xs ys →
    entry_at xs place ≡ Some e → reply_at domain xs place ≡ reply_at domain ys place
reply_at-prefix domain xs ys place e f h =
    let k : entry_at ys place ≡ Some e = entry_at-prefix xs ys place e f h in
    let same : take (place - 1) xs ≡ take (place - 1) ys =
    take-same (place - 1) xs ys (omega (arith, (entry_at_within xs place e h).1)) f in
    rw (h, k, same) refl

pub IsReplyAt-later : (domain : List ℕ) (xs ys : List Entry) (client number place : ℕ) (reply : Reply) →
    IsLogPrefix xs ys →
    IsReplyAt domain xs client number place reply → IsReplyAt domain ys client number place reply
IsReplyAt-later domain xs ys client number place reply f r = record {
  entry = r.entry;
  stands = entry_at-prefix xs ys place r.entry f r.stands;
  client_is = r.client_is;
  number_is = r.number_is;
  reply_is = sym (reply_at-prefix domain xs ys place r.entry f r.stands) ∙ r.reply_is;
}

-- An answer stays that of a committed place.
pub IsCommittedAnswer-later : (domain : List ℕ) (s t : SavedValue) (answer : Outcome) →
    IsLogPrefix (take s.commit s.log) (take t.commit t.log) → IsCommittedAnswer domain s answer →
    IsCommittedAnswer domain t answer
IsCommittedAnswer-later domain s t (Document refusal) f a = tt
IsCommittedAnswer-later domain s t (Command client number reply) f a =
    (a.0, IsReplyAt-later domain (take s.commit s.log) (take t.commit t.log) client number a.0 reply f a.1)
IsCommittedAnswer-later domain s t (Node client number refusal) f a = tt
IsCommittedAnswer-later domain s t (Board client shown) f a = tt

-- answers that a step gives

-- The answer to the entry of a committed place is that of this place.
pub answer_at-answered : (domain : List ℕ) (s : SavedValue) (place : ℕ) → place ≤ s.commit →
    AreCommittedAnswers domain s (answer_at domain s.log place)
answer_at-answered domain s place l = by_entry (entry_at s.log place) refl (reply_at domain s.log place) refl
  where
    by_entry : (o : Option Entry) → entry_at s.log place ≡ o → (r : Option Reply) → reply_at domain s.log place ≡ r →
        AreCommittedAnswers domain s (answer_of o r)
    by_entry None h r k = tt
    by_entry (Some e) h None k = tt
    by_entry (Some e) h (Some reply) k =
        let here : entry_at (take s.commit s.log) place ≡ Some e = entry_at-take s.commit s.log place l ∙ h in
        let same : reply_at domain (take s.commit s.log) place ≡ reply_at domain s.log place =
        reply_at-prefix domain (take s.commit s.log) s.log place e (prefix_take s.commit s.log) here in
        ((place, record { entry = e; stands = here; client_is = refl; number_is = refl; reply_is = same ∙ k }), tt)

all_append : (domain : List ℕ) (s : SavedValue) (xs ys : List Outcome) → AreCommittedAnswers domain s xs →
    AreCommittedAnswers domain s ys → AreCommittedAnswers domain s (xs ++ ys)
all_append domain s [] ys a b = b
all_append domain s (x ∷ xs) ys a b = (a.0, all_append domain s xs ys a.1 b)

-- So are the answers to the entries of committed places.
pub answers_after-answered : (domain : List ℕ) (s : SavedValue) (old count : ℕ) → old + count ≤ s.commit →
    AreCommittedAnswers domain s (answers_after domain s.log old count)
answers_after-answered domain s old zero l = tt
answers_after-answered domain s old (suc count) l =
    all_append domain s (answers_after domain s.log old count) (answer_at domain s.log (old + suc count))
    (answers_after-answered domain s old count (omega arith))
    (answer_at-answered domain s (old + suc count) l)
