-- The members of a reply line, as they are read.
use Rattle.std.proofs.Common.{◌≡◌, ℕ, List, [], ◌∷◌, ◌++◌, Option, None, Some, true, false, refl, sym, ap, ◌∙◌}
use Rattle.std.proofs.Common.{append_assoc}
use Rattle.std.specs.Prelude.{codes, decimal}
use Rattle.json.specs.Print.{escape_byte}
use Rattle.serde_json.specs.Written.{members_text}
use Rattle.desk_types.specs.Lists.{split_at}
use Rattle.desk_eido.specs.ReplyLine.{Content, count, ReplyMember, json_members, optional_count}
use Rattle.desk_follow.specs.Readings.{after_prefix, key_of, past_member, past_value, course_by_members}
use Rattle.desk_follow.specs.Readings.{course_by_number}
use Rattle.desk_follow.specs.declared.course.Course.{Course}
use Rattle.desk_follow.proofs.Prefixes.{after_itself}
use Rattle.desk_follow.proofs.Commas.{split_number}

-- the bytes of these members, to the end of the line
abbrev pub reported : List ReplyMember → List ℕ
reported ms = members_text false (json_members ms) ++ 10 ∷ []

-- what is done by a reply with these members
abbrev pub reported_course : ℕ → List ReplyMember → Course
reported_course nodes ms = course_by_members nodes (reported ms) (after_prefix (key_of (codes "node")) (reported ms))

-- members after the numbers that may stand before a refusal's
abbrev pub with_head : Option ℕ → Option ℕ → List ReplyMember → List ReplyMember
with_head number place ms = optional_count (codes "number") number ++ (optional_count (codes "place") place ++ ms)

-- a number and what stands after it
reported_number : (n : ℕ) (m : ReplyMember) (ms : List ReplyMember) →
    reported ((codes "number", count n) ∷ m ∷ ms) ≡ key_of (codes "number") ++ (decimal n ++ 44 ∷ reported (m ∷ ms))
unfolding escape_byte
reported_number n m ms = ap (λ l. key_of (codes "number") ++ l) (append_assoc (decimal n) _ (10 ∷ []))

reported_place : (n : ℕ) (m : ReplyMember) (ms : List ReplyMember) →
    reported ((codes "place", count n) ∷ m ∷ ms) ≡ key_of (codes "place") ++ (decimal n ++ 44 ∷ reported (m ∷ ms))
unfolding escape_byte
reported_place n m ms = ap (λ l. key_of (codes "place") ++ l) (append_assoc (decimal n) _ (10 ∷ []))

reported_node : (n : ℕ) (m : ReplyMember) (ms : List ReplyMember) →
    reported ((codes "node", count n) ∷ m ∷ ms) ≡ key_of (codes "node") ++ (decimal n ++ 44 ∷ reported (m ∷ ms))
unfolding escape_byte
reported_node n m ms = ap (λ l. key_of (codes "node") ++ l) (append_assoc (decimal n) _ (10 ∷ []))

reported_refusal : (n : ℕ) (ms : List ReplyMember) →
    reported ((codes "refusal", count n) ∷ ms)
    ≡ key_of (codes "refusal") ++ (decimal n ++ (members_text true (json_members ms) ++ 10 ∷ []))
unfolding escape_byte
reported_refusal n ms = ap (λ l. key_of (codes "refusal") ++ l) (append_assoc (decimal n) _ (10 ∷ []))

past_own : (name : List ℕ) (n : ℕ) (rest : List ℕ) → past_member name (key_of name ++ (decimal n ++ 44 ∷ rest)) ≡ rest
past_own name n rest = rw (after_itself (key_of name) (decimal n ++ 44 ∷ rest), split_number n rest) refl

-- the member after a number
pub past_number : (n : ℕ) (m : ReplyMember) (ms : List ReplyMember) →
    past_member (codes "number") (reported ((codes "number", count n) ∷ m ∷ ms)) ≡ reported (m ∷ ms)
past_number n m ms =
    ap (past_member (codes "number")) (reported_number n m ms) ∙ past_own (codes "number") n (reported (m ∷ ms))

pub past_place : (n : ℕ) (m : ReplyMember) (ms : List ReplyMember) →
    past_member (codes "place") (reported ((codes "place", count n) ∷ m ∷ ms)) ≡ reported (m ∷ ms)
past_place n m ms = ap (past_member (codes "place")) (reported_place n m ms) ∙ past_own (codes "place") n
    (reported (m ∷ ms))

-- a place is no number, and a refusal is neither
other_place : (c : Content) (ms : List ReplyMember) →
    past_member (codes "number") (reported ((codes "place", c) ∷ ms)) ≡ reported ((codes "place", c) ∷ ms)
unfolding escape_byte
other_place c ms = refl

other_number : (c : Content) (ms : List ReplyMember) →
    past_member (codes "number") (reported ((codes "refusal", c) ∷ ms)) ≡ reported ((codes "refusal", c) ∷ ms)
unfolding escape_byte
other_number c ms = refl

refusal_place : (c : Content) (ms : List ReplyMember) →
    past_member (codes "place") (reported ((codes "refusal", c) ∷ ms)) ≡ reported ((codes "refusal", c) ∷ ms)
unfolding escape_byte
refusal_place c ms = refl

-- a refusal after the numbers before it
pub past_head : (number place : Option ℕ) (c : Content) (ms : List ReplyMember) →
    past_member (codes "place") (past_member (codes "number")
    (reported (with_head number place ((codes "refusal", c) ∷ ms))))
    ≡ reported ((codes "refusal", c) ∷ ms)
past_head None None c ms = ap (past_member (codes "place")) (other_number c ms) ∙ refusal_place c ms
past_head (Some n) None c ms =
    ap (past_member (codes "place")) (past_number n (codes "refusal", c) ms) ∙ refusal_place c ms
past_head None (Some p) c ms =
    ap (past_member (codes "place")) (other_place (count p) ((codes "refusal", c) ∷ ms))
    ∙ past_place p (codes "refusal", c) ms
past_head (Some n) (Some p) c ms =
    ap (past_member (codes "place")) (past_number n (codes "place", count p) ((codes "refusal", c) ∷ ms))
    ∙ past_place p (codes "refusal", c) ms

-- no primary is told
pub no_node : (number place : Option ℕ) (c : Content) (ms : List ReplyMember) →
    after_prefix (key_of (codes "node")) (reported (with_head number place ((codes "refusal", c) ∷ ms))) ≡ None
unfolding escape_byte
no_node None None c ms = refl
no_node (Some n) None c ms = refl
no_node None (Some p) c ms = refl
no_node (Some n) (Some p) c ms = refl

-- what is done is told by the refusal's number
pub by_number : (nodes : ℕ) (number place : Option ℕ) (k : ℕ) (ms : List ReplyMember) →
    reported_course nodes (with_head number place ((codes "refusal", count k) ∷ ms))
    ≡ course_by_number (Some (decimal k ++ (members_text true (json_members ms) ++ 10 ∷ [])))
by_number nodes number place k ms =
    let text = reported (with_head number place ((codes "refusal", count k) ∷ ms)) in
    let rest = decimal k ++ (members_text true (json_members ms) ++ 10 ∷ []) in
    ap (course_by_members nodes text) (no_node number place (count k) ms)
    ∙ ap (λ l. course_by_number (after_prefix (key_of (codes "refusal")) l))
    (past_head number place (count k) ms ∙ reported_refusal k ms)
    ∙ ap course_by_number (after_itself (key_of (codes "refusal")) rest)

-- the primary that is told, and what stands after it
pub primary_reported : (number place : Option ℕ) (k : ℕ) (c : Content) (ms : List ReplyMember) →
    reported ((codes "node", count k) ∷ with_head number place ((codes "refusal", c) ∷ ms))
    ≡ key_of (codes "node") ++ (decimal k ++ 44 ∷ reported (with_head number place ((codes "refusal", c) ∷ ms)))
primary_reported None None k c ms = reported_node k (codes "refusal", c) ms
primary_reported (Some n) None k c ms = reported_node k (codes "number", count n) ((codes "refusal", c) ∷ ms)
primary_reported None (Some p) k c ms = reported_node k (codes "place", count p) ((codes "refusal", c) ∷ ms)
primary_reported (Some n) (Some p) k c ms =
    reported_node k (codes "number", count n) ((codes "place", count p) ∷ (codes "refusal", c) ∷ ms)
