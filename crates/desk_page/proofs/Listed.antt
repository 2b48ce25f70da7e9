-- The place of a list and of a show, as it is read of the reply line that tells it.
use Rattle.std.proofs.Common.{◌≡◌, ℕ, ◌^◌, ◌<◌, List, [], ◌∷◌, ◌++◌, Option, None, Some, option_map, map, refl, ap, ◌∙◌}
use Rattle.std.proofs.Common.{append_assoc, sym, Bool, true, false, length}
use Rattle.std.specs.Prelude.{◌==◌, ◌&&◌, codes, decimal, if◌then◌else◌}
use Rattle.json.specs.Print.{escape_byte}
use Rattle.serde_json.specs.Data.{Data, string, array, object}
use Rattle.serde_json.specs.View.{items_of}
use Rattle.serde_json.specs.Written.{compact_text}
use Rattle.desk_types.specs.declared.list.ListedIncident.{ListedIncident}
use Rattle.desk_types.specs.declared.list.ListedUnit.{ListedUnit}
use Rattle.desk_types.specs.declared.outcome.Outcome.TheVariants as outcomes
use Rattle.desk_types.specs.declared.show.Shown.TheVariants as shows
use Rattle.desk_types.specs.declared.show.ShownIncident.{ShownIncident}
use Rattle.desk_types.proofs.Bytes.{and_parts, and_both}
use Rattle.desk_eido.specs.ReplyLine.{ReplyMember, count, seconds, texts, data_of, json_members, line_of}
use Rattle.desk_eido.specs.ReplyLine.{first_values, last_values}
use Rattle.desk_eido.specs.ReplyLine.{listed_incident_members, listed_unit_members, merged_into, noted_values}
use Rattle.desk_eido.specs.ReplyLine.{optional_member, optional_rows, optional_texts}
use Rattle.desk_follow.specs.Places.{number_before, place_by_value}
use Rattle.desk_follow.proofs.Commas.{split_number}
use Rattle.desk_follow.proofs.Members.{reported}
use Rattle.desk_follow.proofs.Placed.{number_is}
use Rattle.desk_page.specs.Reported.{place_listed, place_shown, place_in_reply}
use Rattle.desk_page.proofs.Quiet.{quiet, quiet-append, name_fine, names_fine, items_fine, members_fine}
use Rattle.desk_page.proofs.Quiet.{data_quiet, decimal_calm}
use Rattle.desk_page.proofs.Skipped.{skipped}

-- members one after the other
fine_both : (xs ys : List ReplyMember) → members_fine (json_members xs) ≡ true → members_fine (json_members ys) ≡ true →
    members_fine (json_members (xs ++ ys)) ≡ true
fine_both [] ys h k = k
fine_both (m ∷ xs) ys h k =
    let parts = and_parts (name_fine m.0) (names_fine (data_of m.1) && members_fine (json_members xs)) h in
    let more = and_parts (names_fine (data_of m.1)) (members_fine (json_members xs)) parts.1 in
    and_both _ _ parts.0 (and_both _ _ more.0 (fine_both xs ys more.1 k))

texts_fine : (ts : List (List ℕ)) → items_fine (items_of (map string ts)) ≡ true
texts_fine [] = refl
texts_fine (t ∷ ts) = texts_fine ts

into_fine : (into : Option (List ℕ)) → members_fine (json_members (optional_member (codes "into") into)) ≡ true
unfolding escape_byte
into_fine None = refl
into_fine (Some id) = refl

first_fine : (i : ShownIncident) → members_fine (json_members (first_values i)) ≡ true
unfolding escape_byte
first_fine i = and_both _ _ (texts_fine i.calls) (into_fine (merged_into i.state))

noted_fine : (i : ShownIncident) → members_fine (json_members (noted_values i)) ≡ true
unfolding escape_byte
noted_fine i = and_both _ _ (texts_fine i.links) refl

unless_none : (is_empty : Bool) (ms : List ReplyMember) → members_fine (json_members ms) ≡ true →
    members_fine (json_members (if is_empty then [] else ms)) ≡ true
unless_none true ms h = refl
unless_none false ms h = h

stand_by_fine : (ts : List (List ℕ)) → members_fine (json_members (optional_texts (codes "stand_by") ts)) ≡ true
unfolding escape_byte
stand_by_fine ts = unless_none (length ts == 0) ((codes "stand_by", texts ts) ∷ []) (and_both _ _ (texts_fine ts) refl)

last_fine : (i : ShownIncident) (stand_by : List (List ℕ)) →
    members_fine (json_members (last_values i stand_by)) ≡ true
unfolding escape_byte
last_fine i stand_by =
    fine_both (optional_texts (codes "stand_by") stand_by) _ (stand_by_fine stand_by)
    (and_both _ _ (texts_fine i.units) refl)

listed_fine : (l : ListedIncident) → members_fine (json_members (listed_incident_members l)) ≡ true
unfolding escape_byte
listed_fine l =
    fine_both (first_values l.incident) _ (first_fine l.incident)
    (fine_both (noted_values l.incident)
    ((codes "opened", seconds l.incident.opened) ∷ last_values l.incident l.stand_by) (noted_fine l.incident)
    (last_fine l.incident l.stand_by))

-- the incidents of a list
abbrev rows_of : List ListedIncident → Data
rows_of ls = array (items_of (map object (map (λ l. json_members (listed_incident_members l)) ls)))

rows_fine : (ls : List ListedIncident) → names_fine (rows_of ls) ≡ true
rows_fine [] = refl
rows_fine (l ∷ ls) = and_both _ _ (listed_fine l) (rows_fine ls)

abbrev rows_text : List ListedIncident → List ℕ
rows_text ls = compact_text (rows_of ls)

-- what a list has up to where the next part begins
abbrev next_part : ℕ → List ℕ
next_part n = codes ",\"next\":" ++ decimal n

-- what a list has behind its place
abbrev rest_of : ℕ → Option (List ListedUnit) → List ℕ
rest_of client units =
    reported ((codes "session", count client)
    ∷ optional_rows (codes "units") (option_map (map (λ l. json_members (listed_unit_members l))) units))

-- and from the word that it is answered by
abbrev placed : ℕ → ℕ → Option (List ListedUnit) → List ℕ
placed client at units = codes "\"ok\":\"list\",\"place\":" ++ (decimal at ++ 44 ∷ rest_of client units)

reported_last : (client at : ℕ) (ls : List ListedIncident) (units : Option (List ListedUnit)) →
    line_of (outcomes.Board client (shows.List at ls None units))
    ≡ codes "{\"incidents\":" ++ (rows_text ls ++ 44 ∷ placed client at units)
unfolding escape_byte
reported_last client at ls units =
    ap (λ l. codes "{\"incidents\":" ++ l) (append_assoc (rows_text ls) _ (10 ∷ [])
    ∙ ap (λ l. rows_text ls ++ 44 ∷ (codes "\"ok\":\"list\",\"place\":" ++ l)) (append_assoc (decimal at) _ (10 ∷ [])))

reported_part : (client at n : ℕ) (ls : List ListedIncident) (units : Option (List ListedUnit)) →
    line_of (outcomes.Board client (shows.List at ls (Some n) units))
    ≡ codes "{\"incidents\":" ++ ((rows_text ls ++ next_part n) ++ 44 ∷ placed client at units)
unfolding escape_byte
reported_part client at n ls units =
    ap (λ l. codes "{\"incidents\":" ++ l) (append_assoc (rows_text ls) _ (10 ∷ [])
    ∙ ap (λ l. rows_text ls ++ (codes ",\"next\":" ++ l)) (append_assoc (decimal n) _ (10 ∷ [])
    ∙ ap (λ l. decimal n ++ 44 ∷ (codes "\"ok\":\"list\",\"place\":" ++ l)) (append_assoc (decimal at) _ (10 ∷ [])))
    ∙ sym (append_assoc (rows_text ls) (next_part n) (44 ∷ placed client at units)))

rows_quiet : (ls : List ListedIncident) → quiet 0 (rows_text ls) ≡ true
rows_quiet ls = data_quiet (rows_of ls) (rows_fine ls)

part_quiet : (ls : List ListedIncident) (n : ℕ) → quiet 0 ((rows_text ls ++ next_part n) ++ 44 ∷ []) ≡ true
part_quiet ls n =
    quiet-append 0 (rows_text ls ++ next_part n) (44 ∷ [])
    (quiet-append 0 (rows_text ls) (next_part n) (rows_quiet ls) (decimal_calm n).0) refl

-- the place after text before which the mark does not stand
place_after : (client at : ℕ) (text : List ℕ) (units : Option (List ListedUnit)) → at < 2 ^ 64 →
    quiet 0 (text ++ 44 ∷ []) ≡ true →
    place_listed (codes "{\"incidents\":" ++ (text ++ 44 ∷ placed client at units)) ≡ Some at
unfolding place_in_reply
place_after client at text units fits calm =
    ap place_by_value
    (skipped (codes "\"list\",\"place\":") 0 (codes "{\"incidents\":" ++ text) (placed client at units) calm)
    ∙ ap number_before (split_number at (rest_of client units)) ∙ number_is at fits

pub list_place : (client at : ℕ) (ls : List ListedIncident) (next : Option ℕ) (units : Option (List ListedUnit)) →
    at < 2 ^ 64 → place_listed (line_of (outcomes.Board client (shows.List at ls next units))) ≡ Some at
list_place client at ls None units fits =
    ap place_listed (reported_last client at ls units)
    ∙ place_after client at (rows_text ls) units fits (quiet-append 0 (rows_text ls) (44 ∷ []) (rows_quiet ls) refl)
list_place client at ls (Some n) units fits =
    ap place_listed (reported_part client at n ls units)
    ∙ place_after client at (rows_text ls ++ next_part n) units fits (part_quiet ls n)

-- what a show of the board has behind its place
abbrev shown_rest : ℕ → ℕ → List ℕ
shown_rest client units = reported ((codes "session", count client) ∷ (codes "units", count units) ∷ [])

reported_show : (client at incidents units : ℕ) →
    line_of (outcomes.Board client (shows.Board at incidents units))
    ≡ codes "{\"incidents\":" ++ (decimal incidents
    ++ 44 ∷ (codes "\"ok\":\"board\",\"place\":" ++ (decimal at ++ 44 ∷ shown_rest client units)))
unfolding escape_byte
reported_show client at incidents units =
    ap (λ l. codes "{\"incidents\":" ++ l) (append_assoc (decimal incidents) _ (10 ∷ [])
    ∙ ap (λ l. decimal incidents ++ 44 ∷ (codes "\"ok\":\"board\",\"place\":" ++ l)) (append_assoc (decimal at) _
    (10 ∷ [])))

pub show_place : (client at incidents units : ℕ) → at < 2 ^ 64 →
    place_shown (line_of (outcomes.Board client (shows.Board at incidents units))) ≡ Some at
unfolding place_in_reply
show_place client at incidents units fits =
    ap place_shown (reported_show client at incidents units)
    ∙ ap place_by_value (skipped (codes "\"board\",\"place\":") 0 (codes "{\"incidents\":" ++ decimal incidents)
    (codes "\"ok\":\"board\",\"place\":" ++ (decimal at ++ 44 ∷ shown_rest client units))
    (quiet-append 0 (decimal incidents) (44 ∷ []) (decimal_calm incidents).0 refl))
    ∙ ap number_before (split_number at (shown_rest client units)) ∙ number_is at fits
