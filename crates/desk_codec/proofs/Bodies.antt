-- Bodies are exact.
use Rattle.std.proofs.Common.{◌≡◌, ℕ, ◌+◌, ◌≤◌, List, [], ◌∷◌, ◌++◌, length, Option, Some, None}
use Rattle.std.proofs.Common.{refl, sym, ap, subst, ◌∙◌, arith, lit<, lit≤}
use Rattle.std.specs.Prelude.{IfSome}
use Rattle.std.proofs.lemmas.List.{length-append}
use Rattle.desk_types.specs.Numbers.{status_number, verb_number, verb_of_number}
use Rattle.desk_types.specs.declared.command.Command.{Command}
use Rattle.desk_types.specs.declared.command.Command.TheVariants.{Open, AddCall, Link, Unlink, Merge, Split, Clear}
use Rattle.desk_types.specs.declared.command.Command.TheVariants.{Reopen, Note, SignOn, SignOff, Assign, SetStatus}
use Rattle.desk_types.specs.declared.command.Command.TheVariants.{Release, StandBy, StandDown, Replace}
use Rattle.desk_types.specs.declared.limits.TheConstants.{KIND_BYTES, SITE_BYTES, NOTE_BYTES, UNIT_BYTES, BODY_BYTES}
use Rattle.desk_types.specs.declared.parts.IdKind.{IdKind}
use Rattle.desk_types.specs.declared.parts.IdKind.TheVariants as kinds
use Rattle.desk_types.specs.declared.verb.Verb.{Verb}
use Rattle.desk_types.specs.declared.verb.Verb.TheVariants as verbs
use Rattle.desk_types.proofs.Numbered.{verb_has}
use Rattle.desk_codec.specs.Ranges.{FitsText, FitsUnit, FitsIdentifier, FitsIncident, FitsCall, FitsCommand}
use Rattle.desk_codec.specs.Spelling.{short_text, optional_text, body_spelling, BodiesFit}
use Rattle.desk_codec.specs.Reading.{Reader, mapped, first_text, first_incident, first_call, first_optional}
use Rattle.desk_codec.specs.Reading.{first_open, first_add_call, first_link, first_unlink, first_merge, first_split}
use Rattle.desk_codec.specs.Reading.{first_clear, first_reopen, first_note, first_sign_on, first_sign_off, first_assign}
use Rattle.desk_codec.specs.Reading.{first_set_status, first_release, first_stand_by, first_stand_down}
use Rattle.desk_codec.specs.Reading.{first_replace, first_of_verb, first_body}
use Rattle.desk_codec.proofs.Forms.{IsBytes, IsBytes-rest, bind_some, Takes, Exact, and_then, takes_as, again_as}
use Rattle.desk_codec.proofs.Fields.{exact_seconds, exact_text, exact_unit, unit_length, exact_identifier, exact_node}
use Rattle.desk_codec.proofs.Fields.{exact_optional, exact_token, FitsOptional, exact_status}
use Rattle.desk_codec.proofs.Identifiers.{canonical_length}

exact_kind : Exact short_text (FitsText KIND_BYTES) (first_text KIND_BYTES)
exact_kind = exact_text KIND_BYTES (lit< tt)

exact_site : Exact short_text (FitsText SITE_BYTES) (first_text SITE_BYTES)
exact_site = exact_text SITE_BYTES (lit< tt)

exact_note : Exact short_text (FitsText NOTE_BYTES) (first_text NOTE_BYTES)
exact_note = exact_text NOTE_BYTES (lit< tt)

exact_incident : Exact short_text FitsIncident first_incident
exact_incident = exact_identifier kinds.Incident

exact_call : Exact short_text FitsCall first_call
exact_call = exact_identifier kinds.Call

exact_optional_incident : Exact optional_text (λ o. IfSome o FitsIncident) (first_optional kinds.Incident)
exact_optional_incident = exact_optional kinds.Incident

exact_optional_call : Exact optional_text (λ o. IfSome o FitsCall) (first_optional kinds.Call)
exact_optional_call = exact_optional kinds.Call

-- what is read after a verb's number was spelled so
abbrev TakesVerb : Verb → Reader Command → Type 0
TakesVerb verb get = (bytes : List ℕ) (x : Command × List ℕ) → IsBytes bytes → get bytes ≡ Some x →
    Takes body_spelling FitsCommand (verb_number verb ∷ bytes) x.0 x.1

made_takes : {A : Type 0} {pa : A → List ℕ} {Fa : A → Type 0} {ga : Reader A} (verb : Verb) (f : A → Command) →
    Exact pa Fa ga → ((x : A) → body_spelling (f x) ≡ verb_number verb ∷ pa x) →
    ((x : A) → Fa x → FitsCommand (f x)) → TakesVerb verb (mapped f ga)
made_takes verb f ea spelled fits bytes x h e =
    let m = takes_as f ea bytes x h e in
    let t = m.2 in
    let begins = verb_number verb in
    let parts : begins ∷ bytes ≡ body_spelling (f m.0) ++ x.1 =
    ap (λ r. begins ∷ r) t.parts ∙ ap (λ s. s ++ x.1) (sym (spelled m.0)) in
    subst (λ (c : Command). Takes body_spelling FitsCommand (begins ∷ bytes) c x.1) (sym m.1)
    (record { parts = parts; fits = fits m.0 t.fits; rest_bytes = t.rest_bytes })

verb_takes : (verb : Verb) → TakesVerb verb (first_of_verb verb)
unfolding body_spelling first_of_verb first_open first_add_call first_link first_unlink first_merge first_split
    first_clear first_reopen first_note first_sign_on first_sign_off first_assign first_set_status first_release
    first_stand_by first_stand_down first_replace
verb_takes verbs.Open bytes x h e =
    made_takes verbs.Open (λ x. Open x.0 x.1.0 x.1.1.0 x.1.1.1.0 x.1.1.1.1)
    (and_then exact_seconds (and_then exact_kind
    (and_then exact_site (and_then exact_optional_incident exact_optional_call))))
    (λ x. refl) (λ x f. (f.0, f.1.0, f.1.1.0, f.1.1.1.0, f.1.1.1.1)) bytes x h e
verb_takes verbs.AddCall bytes x h e =
    made_takes verbs.AddCall (λ x. AddCall x.0 x.1.0 x.1.1)
    (and_then exact_seconds (and_then exact_incident exact_call)) (λ x. refl) (λ x f. (f.0, f.1.0, f.1.1)) bytes x h e
verb_takes verbs.Link bytes x h e =
    made_takes verbs.Link (λ x. Link x.0 x.1.0 x.1.1)
    (and_then exact_seconds (and_then exact_incident exact_incident)) (λ x. refl) (λ x f. (f.0, f.1.0, f.1.1))
    bytes x h e
verb_takes verbs.Unlink bytes x h e =
    made_takes verbs.Unlink (λ x. Unlink x.0 x.1.0 x.1.1)
    (and_then exact_seconds (and_then exact_incident exact_incident)) (λ x. refl) (λ x f. (f.0, f.1.0, f.1.1))
    bytes x h e
verb_takes verbs.Merge bytes x h e =
    made_takes verbs.Merge (λ x. Merge x.0 x.1.0 x.1.1)
    (and_then exact_seconds (and_then exact_incident exact_incident)) (λ x. refl) (λ x f. (f.0, f.1.0, f.1.1))
    bytes x h e
verb_takes verbs.Split bytes x h e =
    made_takes verbs.Split (λ x. Split x.0 x.1.0 x.1.1.0 x.1.1.1.0 x.1.1.1.1)
    (and_then exact_seconds (and_then exact_incident (and_then exact_call (and_then exact_kind exact_site))))
    (λ x. refl) (λ x f. (f.0, f.1.0, f.1.1.0, f.1.1.1.0, f.1.1.1.1)) bytes x h e
verb_takes verbs.Clear bytes x h e =
    made_takes verbs.Clear (λ x. Clear x.0 x.1) (and_then exact_seconds exact_incident)
    (λ x. refl) (λ x f. f) bytes x h e
verb_takes verbs.Reopen bytes x h e =
    made_takes verbs.Reopen (λ x. Reopen x.0 x.1) (and_then exact_seconds exact_incident)
    (λ x. refl) (λ x f. f) bytes x h e
verb_takes verbs.Note bytes x h e =
    made_takes verbs.Note (λ x. Note x.0 x.1.0 x.1.1)
    (and_then exact_seconds (and_then exact_incident exact_note)) (λ x. refl) (λ x f. (f.0, f.1.0, f.1.1)) bytes x h e
verb_takes verbs.SignOn bytes x h e =
    made_takes verbs.SignOn (λ x. SignOn x.0 x.1) (and_then exact_seconds exact_unit)
    (λ x. refl) (λ x f. f) bytes x h e
verb_takes verbs.SignOff bytes x h e =
    made_takes verbs.SignOff (λ x. SignOff x.0 x.1) (and_then exact_seconds exact_unit)
    (λ x. refl) (λ x f. f) bytes x h e
verb_takes verbs.Assign bytes x h e =
    made_takes verbs.Assign (λ x. Assign x.0 x.1.0 x.1.1)
    (and_then exact_seconds (and_then exact_unit exact_incident)) (λ x. refl) (λ x f. (f.0, f.1.0, f.1.1)) bytes x h e
verb_takes verbs.SetStatus bytes x h e =
    made_takes verbs.SetStatus (λ x. SetStatus x.0 x.1.0 x.1.1)
    (and_then exact_seconds (and_then exact_unit exact_status)) (λ x. refl) (λ x f. (f.0, f.1.0)) bytes x h e
verb_takes verbs.Release bytes x h e =
    made_takes verbs.Release (λ x. Release x.0 x.1) (and_then exact_seconds exact_unit)
    (λ x. refl) (λ x f. f) bytes x h e
verb_takes verbs.StandBy bytes x h e =
    made_takes verbs.StandBy (λ x. StandBy x.0 x.1.0 x.1.1)
    (and_then exact_seconds (and_then exact_unit exact_incident)) (λ x. refl) (λ x f. (f.0, f.1.0, f.1.1)) bytes x h e
verb_takes verbs.StandDown bytes x h e =
    made_takes verbs.StandDown (λ x. StandDown x.0 x.1) (and_then exact_seconds exact_unit)
    (λ x. refl) (λ x f. f) bytes x h e
verb_takes verbs.Replace bytes x h e =
    made_takes verbs.Replace (λ x. Replace x.0 x.1.0 x.1.1)
    (and_then exact_seconds (and_then exact_node exact_token)) (λ x. refl) (λ x f. (f.0, f.1.0, f.1.1)) bytes x h e

body_takes : (bytes : List ℕ) (x : Command × List ℕ) → IsBytes bytes → first_body bytes ≡ Some x →
    Takes body_spelling FitsCommand bytes x.0 x.1
unfolding first_body
body_takes [] x h e = absurd cc
body_takes (b ∷ bytes) x h e =
    let a = bind_some (verb_of_number b) (λ verb. first_of_verb verb bytes) x e in
    rw (verb_has b a.0 a.1) (verb_takes a.0 bytes x (IsBytes-rest b bytes h) a.2)

body_again : (c : Command) (rest : List ℕ) → FitsCommand c → first_body (body_spelling c ++ rest) ≡ Some (c, rest)
unfolding first_body body_spelling verb_of_number first_of_verb first_open first_add_call first_link first_unlink
    first_merge first_split first_clear first_reopen first_note first_sign_on first_sign_off first_assign
    first_set_status first_release first_stand_by first_stand_down first_replace
body_again (Open at kind site incident call) rest f =
    again_as (λ x. Open x.0 x.1.0 x.1.1.0 x.1.1.1.0 x.1.1.1.1)
    (and_then exact_seconds (and_then exact_kind
    (and_then exact_site (and_then exact_optional_incident exact_optional_call))))
    (at, (kind, (site, (incident, call)))) rest (f.0, (f.1, (f.2, (f.3, f.4))))
body_again (AddCall at incident call) rest f =
    again_as (λ x. AddCall x.0 x.1.0 x.1.1) (and_then exact_seconds (and_then exact_incident exact_call))
    (at, (incident, call)) rest (f.0, (f.1, f.2))
body_again (Link at incident other) rest f =
    again_as (λ x. Link x.0 x.1.0 x.1.1) (and_then exact_seconds (and_then exact_incident exact_incident))
    (at, (incident, other)) rest (f.0, (f.1, f.2))
body_again (Unlink at incident other) rest f =
    again_as (λ x. Unlink x.0 x.1.0 x.1.1) (and_then exact_seconds (and_then exact_incident exact_incident))
    (at, (incident, other)) rest (f.0, (f.1, f.2))
body_again (Merge at incident into) rest f =
    again_as (λ x. Merge x.0 x.1.0 x.1.1) (and_then exact_seconds (and_then exact_incident exact_incident))
    (at, (incident, into)) rest (f.0, (f.1, f.2))
body_again (Split at incident call kind site) rest f =
    again_as (λ x. Split x.0 x.1.0 x.1.1.0 x.1.1.1.0 x.1.1.1.1)
    (and_then exact_seconds (and_then exact_incident (and_then exact_call (and_then exact_kind exact_site))))
    (at, (incident, (call, (kind, site)))) rest (f.0, (f.1, (f.2, (f.3, f.4))))
body_again (Clear at incident) rest f =
    again_as (λ x. Clear x.0 x.1) (and_then exact_seconds exact_incident)
    (at, incident) rest f
body_again (Reopen at incident) rest f =
    again_as (λ x. Reopen x.0 x.1) (and_then exact_seconds exact_incident)
    (at, incident) rest f
body_again (Note at incident note) rest f =
    again_as (λ x. Note x.0 x.1.0 x.1.1) (and_then exact_seconds (and_then exact_incident exact_note))
    (at, (incident, note)) rest (f.0, (f.1, f.2))
body_again (SignOn at unit) rest f =
    again_as (λ x. SignOn x.0 x.1) (and_then exact_seconds exact_unit)
    (at, unit) rest f
body_again (SignOff at unit) rest f =
    again_as (λ x. SignOff x.0 x.1) (and_then exact_seconds exact_unit)
    (at, unit) rest f
body_again (Assign at unit incident) rest f =
    again_as (λ x. Assign x.0 x.1.0 x.1.1) (and_then exact_seconds (and_then exact_unit exact_incident))
    (at, (unit, incident)) rest (f.0, (f.1, f.2))
body_again (SetStatus at unit status) rest f =
    again_as (λ x. SetStatus x.0 x.1.0 x.1.1) (and_then exact_seconds (and_then exact_unit exact_status))
    (at, (unit, status)) rest (f.0, (f.1, tt))
body_again (Release at unit) rest f =
    again_as (λ x. Release x.0 x.1) (and_then exact_seconds exact_unit)
    (at, unit) rest f
body_again (StandBy at unit incident) rest f =
    again_as (λ x. StandBy x.0 x.1.0 x.1.1) (and_then exact_seconds (and_then exact_unit exact_incident))
    (at, (unit, incident)) rest (f.0, (f.1, f.2))
body_again (StandDown at unit) rest f =
    again_as (λ x. StandDown x.0 x.1) (and_then exact_seconds exact_unit)
    (at, unit) rest f
body_again (Replace at node token) rest f =
    again_as (λ x. Replace x.0 x.1.0 x.1.1) (and_then exact_seconds (and_then exact_node exact_token))
    (at, (node, token)) rest (f.0, (f.1, f.2))

pub exact_body : Exact body_spelling FitsCommand first_body
exact_body = record { takes = body_takes; again = body_again }

-- lengths

identifier_length : (kind : IdKind) (t : List ℕ) → FitsIdentifier kind t → length (short_text t) ≤ 233
identifier_length kind t f = let le = canonical_length kind t f.0 in omega (arith, le)

optional_length : (kind : IdKind) (o : Option (List ℕ)) → FitsOptional kind o → length (optional_text o) ≤ 234
optional_length kind None f = lit≤ tt
optional_length kind (Some t) f = let le = canonical_length kind t f.0 in omega (arith, le)

text_length : (most : ℕ) (t : List ℕ) → FitsText most t → length (short_text t) ≤ 1 + most
text_length most t f = omega (arith, f.1)

name_length : (t : List ℕ) → FitsUnit t → length (short_text t) ≤ 1 + UNIT_BYTES
name_length t f = let le = unit_length t f.0 in omega (arith, le)

-- a body is within its limit
pub body_length : (c : Command) → FitsCommand c → length (body_spelling c) ≤ BODY_BYTES
unfolding body_spelling
body_length (Open at kind site incident call) f =
    let kind_length = text_length KIND_BYTES kind f.1 in
    let site_length = text_length SITE_BYTES site f.2 in
    let incident_length = optional_length kinds.Incident incident f.3 in
    let call_length = optional_length kinds.Call call f.4 in
    let kind_first = length-append (short_text kind)
    (short_text site ++ (optional_text incident ++ (optional_text call))) in
    let site_first = length-append (short_text site) (optional_text incident ++ (optional_text call)) in
    let incident_first = length-append (optional_text incident) (optional_text call) in
    omega (arith, kind_length, site_length, incident_length, call_length, kind_first, site_first, incident_first)
body_length (AddCall at incident call) f =
    let incident_length = identifier_length kinds.Incident incident f.1 in
    let call_length = identifier_length kinds.Call call f.2 in
    let incident_first = length-append (short_text incident) (short_text call) in
    omega (arith, incident_length, call_length, incident_first)
body_length (Link at incident other) f =
    let incident_length = identifier_length kinds.Incident incident f.1 in
    let other_length = identifier_length kinds.Incident other f.2 in
    let incident_first = length-append (short_text incident) (short_text other) in
    omega (arith, incident_length, other_length, incident_first)
body_length (Unlink at incident other) f =
    let incident_length = identifier_length kinds.Incident incident f.1 in
    let other_length = identifier_length kinds.Incident other f.2 in
    let incident_first = length-append (short_text incident) (short_text other) in
    omega (arith, incident_length, other_length, incident_first)
body_length (Merge at incident into) f =
    let incident_length = identifier_length kinds.Incident incident f.1 in
    let into_length = identifier_length kinds.Incident into f.2 in
    let incident_first = length-append (short_text incident) (short_text into) in
    omega (arith, incident_length, into_length, incident_first)
body_length (Split at incident call kind site) f =
    let incident_length = identifier_length kinds.Incident incident f.1 in
    let call_length = identifier_length kinds.Call call f.2 in
    let kind_length = text_length KIND_BYTES kind f.3 in
    let site_length = text_length SITE_BYTES site f.4 in
    let incident_first = length-append (short_text incident)
    (short_text call ++ (short_text kind ++ (short_text site))) in
    let call_first = length-append (short_text call) (short_text kind ++ (short_text site)) in
    let kind_first = length-append (short_text kind) (short_text site) in
    omega (arith, incident_length, call_length, kind_length, site_length, incident_first, call_first, kind_first)
body_length (Clear at incident) f =
    let incident_length = identifier_length kinds.Incident incident f.1 in
    omega (arith, incident_length)
body_length (Reopen at incident) f =
    let incident_length = identifier_length kinds.Incident incident f.1 in
    omega (arith, incident_length)
body_length (Note at incident note) f =
    let incident_length = identifier_length kinds.Incident incident f.1 in
    let note_length = text_length NOTE_BYTES note f.2 in
    let incident_first = length-append (short_text incident) (short_text note) in
    omega (arith, incident_length, note_length, incident_first)
body_length (SignOn at unit) f =
    let unit_length = name_length unit f.1 in
    omega (arith, unit_length)
body_length (SignOff at unit) f =
    let unit_length = name_length unit f.1 in
    omega (arith, unit_length)
body_length (Assign at unit incident) f =
    let unit_length = name_length unit f.1 in
    let incident_length = identifier_length kinds.Incident incident f.2 in
    let unit_first = length-append (short_text unit) (short_text incident) in
    omega (arith, unit_length, incident_length, unit_first)
body_length (SetStatus at unit status) f =
    let unit_length = name_length unit f.1 in
    let unit_first = length-append (short_text unit) (status_number status ∷ []) in
    omega (arith, unit_length, unit_first)
body_length (Release at unit) f =
    let unit_length = name_length unit f.1 in
    omega (arith, unit_length)
body_length (StandBy at unit incident) f =
    let unit_length = name_length unit f.1 in
    let incident_length = identifier_length kinds.Incident incident f.2 in
    let unit_first = length-append (short_text unit) (short_text incident) in
    omega (arith, unit_length, incident_length, unit_first)
body_length (StandDown at unit) f =
    let unit_length = name_length unit f.1 in
    omega (arith, unit_length)
body_length (Replace at node token) f = lit≤ tt

-- a body has its verb's number
body_begins : (c : Command) → 1 ≤ length (body_spelling c)
unfolding body_spelling
body_begins (Open at kind site incident call) = omega arith
body_begins (AddCall at incident call) = omega arith
body_begins (Link at incident other) = omega arith
body_begins (Unlink at incident other) = omega arith
body_begins (Merge at incident into) = omega arith
body_begins (Split at incident call kind site) = omega arith
body_begins (Clear at incident) = omega arith
body_begins (Reopen at incident) = omega arith
body_begins (Note at incident note) = omega arith
body_begins (SignOn at unit) = omega arith
body_begins (SignOff at unit) = omega arith
body_begins (Assign at unit incident) = omega arith
body_begins (SetStatus at unit status) = omega arith
body_begins (Release at unit) = omega arith
body_begins (StandBy at unit incident) = omega arith
body_begins (StandDown at unit) = omega arith
body_begins (Replace at node token) = omega arith

pub body_fits : BodiesFit
body_fits c f = (body_begins c, body_length c f)
