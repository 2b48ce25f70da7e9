-- The line of a reply's members.
use Rattle.std.proofs.Common.{◌≡◌, ℕ, ◌+◌, ◌<◌, List, [], ◌∷◌, ◌++◌, length, get_or, take, map, pos, negsuc}
use Rattle.std.proofs.Common.{refl, sym, ap, ◌∙◌, append_assoc}
use Rattle.std.specs.List.{flat_map}
use Rattle.std.proofs.lemmas.List.{map_more, flat_map_more}
use Rattle.std.specs.Prelude.{codes}
use Rattle.json.specs.Print.{print}
use Rattle.json.specs.Token.{Token, begin_object, end_object, begin_array, end_array, key}
use Rattle.json.specs.Token as token
use Rattle.json.specs.Tree.{json_tokens, items_tokens, members_tokens}
use Rattle.serde_json.specs.Data.{string, object, Members}
use Rattle.serde_json.specs.View.{items_of}
use Rattle.serde_json.specs.Written.{outline, items_outline, members_outline, compact_text}
use Rattle.serde_json.proofs.Texts.{print-outline}
use Rattle.desk_types.specs.Refusal.{refusal_number}
use Rattle.desk_types.specs.declared.refusal.Refusal.{Refusal}
use Rattle.desk_eido.specs.ReplyLine.{Content, count, seconds, text, texts, rows, data_of, ReplyMember, json_members}
use Rattle.desk_types.specs.declared.list.ListedIncident.{ListedIncident}
use Rattle.desk_types.specs.declared.show.ShownIncident.{ShownIncident}
use Rattle.desk_eido.specs.ReplyLine.{first_details, last_details, refusal_members, incident_members}
use Rattle.desk_eido.specs.ReplyLine.{optional_member, merged_into, first_values, noted_values}
use Rattle.desk_eido.specs.ReplyLine.{place_values, last_values, listed_incident_members}
use Rattle.desk_eido.specs.Writing.{content_tokens, with_content, with_all, row_tokens}

texts_are : (ts : List (List ℕ)) →
    items_tokens (items_outline (items_of (map string ts))) ≡ map token.string ts ++ end_array ∷ []
texts_are [] = refl
texts_are (t ∷ ts) = ap (λ (rest : List Token). token.string t ∷ rest) (texts_are ts)

rows_are : (rs : List Members) →
    items_tokens (items_outline (items_of (map object rs))) ≡ flat_map row_tokens rs ++ end_array ∷ []
rows_are [] = refl
rows_are (r ∷ rs) =
    ap (λ (rest : List Token). row_tokens r ++ rest) (rows_are rs)
    ∙ sym (append_assoc (row_tokens r) (flat_map row_tokens rs) (end_array ∷ []))

-- the tokens of the JSON value that a member holds
content_is : (x : Content) → json_tokens (outline (data_of x)) ≡ content_tokens x
content_is (count n) = refl
content_is (seconds (pos n)) = refl
content_is (seconds (negsuc n)) = refl
content_is (text t) = refl
content_is (texts ts) = ap (λ (rest : List Token). begin_array ∷ rest) (texts_are ts)
content_is (rows rs) = ap (λ (rest : List Token). begin_array ∷ rest) (rows_are rs)

-- the tokens of the object, from some member on
all_is : (ms : List ReplyMember) (ts : List Token) →
    with_all ms ts ++ end_object ∷ [] ≡ ts ++ members_tokens (members_outline (json_members ms))
all_is [] ts = refl
all_is (m ∷ ms) ts =
    let rest = members_tokens (members_outline (json_members ms)) in
    all_is ms (with_content m.0 m.1 ts) ∙ append_assoc ts (key m.0 ∷ content_tokens m.1) rest
    ∙ ap (λ (x : List Token). ts ++ (key m.0 ∷ (x ++ rest))) (sym (content_is m.1))

-- the tokens of a row, after what stands in an array
pub row_is : (ms : List ReplyMember) (ts : List Token) →
    with_all ms (ts ++ begin_object ∷ []) ++ end_object ∷ [] ≡ ts ++ row_tokens (json_members ms)
row_is ms ts =
    all_is ms (ts ++ begin_object ∷ [])
    ∙ append_assoc ts (begin_object ∷ []) (members_tokens (members_outline (json_members ms)))

-- the rows of the first values, as a loop goes on
module _ {A : Type 0} (row : A → Members) (xs : List A) (i : ℕ) (x : A) (within : i < length xs)
    (is : x ≡ get_or xs i x) where
  pub rows_more : (before ts new : List Token) → ts ≡ before ++ flat_map row_tokens (map row (take i xs))
      → new ≡ ts ++ row_tokens (row x) → new ≡ before ++ flat_map row_tokens (map row (take (i + 1) xs))
  rows_more before ts new old more =
      more ∙ ap (λ (l : List Token). l ++ row_tokens (row x)) old
      ∙ flat_map_more row_tokens before (map row (take i xs)) (row x)
      ∙ ap (λ y. before ++ flat_map row_tokens (map row (take i xs) ++ row y ∷ [])) is
      ∙ ap (λ (rs : List Members). before ++ flat_map row_tokens rs) (sym (map_more row xs i x within))

-- what stands there once the object is closed
pub object_is : (ms : List ReplyMember) →
    print (with_all ms (begin_object ∷ []) ++ end_object ∷ []) ≡ compact_text (object (json_members ms))
object_is ms = ap print (all_is ms (begin_object ∷ [])) ∙ print-outline (object (json_members ms))

-- some members, and those after them
pub with_both : (ms ns : List ReplyMember) (ts : List Token) →
    with_all (ms ++ ns) ts ≡ with_all ns (with_all ms ts)
with_both [] ns ts = refl
with_both (m ∷ ms) ns ts = with_both ms ns (with_content m.0 m.1 ts)

-- a refusal, with the members that stand before its number and after it
pub refusal_is : (r : Refusal) (before after : List ReplyMember) (ts : List Token) →
    with_all (last_details r) (with_all after (with_content (codes "refusal") (count (refusal_number r))
    (with_all before (with_all (first_details r) ts))))
    ≡ with_all (refusal_members r before after) ts
refusal_is r before after ts =
    let number : ReplyMember = (codes "refusal", count (refusal_number r)) in
    let first = with_all (first_details r) ts in
    sym (
    with_both (first_details r) (before ++ (number ∷ (after ++ last_details r))) ts
    ∙ with_both before (number ∷ (after ++ last_details r)) first
    ∙ with_both after (last_details r) (with_content number.0 number.1 (with_all before first))
    )

-- the four parts of an incident
pub incident_is : (client place : ℕ) (i : ShownIncident) (stand_by : List (List ℕ)) (ts : List Token) →
    with_all (last_values i stand_by) (with_all (place_values client place i)
    (with_all (noted_values i) (with_all (first_values i) ts)))
    ≡ with_all (incident_members client place i stand_by) ts
incident_is client place i stand_by ts =
    sym (with_both (optional_member (codes "into") (merged_into i.state)) _ _)

-- the parts of an incident of a list
pub listed_is : (l : ListedIncident) (ts : List Token) →
    with_all (last_values l.incident l.stand_by) (with_content (codes "opened") (seconds l.incident.opened)
    (with_all (noted_values l.incident) (with_all (first_values l.incident) ts)))
    ≡ with_all (listed_incident_members l) ts
listed_is l ts = sym (with_both (optional_member (codes "into") (merged_into l.incident.state)) _ _)
