-- One member of a document: what it says, or the first thing wrong with it.
use Rattle.std.specs.Prelude.{◌≡◌, ◌≢◌, ℕ, ℤ, pos, ◌==◌, ◌&&◌, nat_le, if◌then◌else◌, List, length}
use Rattle.std.specs.Prelude.{Option, Some, None, option_map, Result, Ok, Err, codes}
use Rattle.std.specs.Int.{int_div_euclid}
use Rattle.std.specs.Option.{ok_or}
use Rattle.std.specs.Result.{result_ok}
use Rattle.std.specs.Str.{bytes_eq}
use Rattle.jiff.specs.Words.{parse_timestamp}
use Rattle.desk_types.specs.declared.limits.TheConstants.{LAST_NUMBER, LAST_TOKEN}
use Rattle.desk_types.specs.declared.list.ListedState.{ListedState}
use Rattle.desk_types.specs.declared.list.ListedState.TheVariants as listed
use Rattle.desk_types.specs.declared.parts.IdKind.{IdKind}
use Rattle.desk_types.specs.declared.refusal.Member.{Member}
use Rattle.desk_types.specs.declared.refusal.Member.TheVariants as members
use Rattle.desk_types.specs.declared.refusal.Refusal.{Refusal}
use Rattle.desk_types.specs.declared.refusal.Refusal.TheVariants.{Missing, WrongKind, OutOfRange, BadIdentifier}
use Rattle.desk_types.specs.declared.refusal.Refusal.TheVariants.{BadTime, WantOfMemory}
use Rattle.desk_types.specs.declared.show.Status.{Status}
use Rattle.desk_types.specs.declared.show.Status.TheVariants as statuses
use Rattle.desk_types.specs.Identifier.{Parts, canonical, is_same_kind}
use Rattle.desk_types.specs.NumberRange.{is_node_number}
use Rattle.desk_types.specs.Reading.{reading}
use Rattle.desk_types.specs.UnitName.{is_unit_name}
use Rattle.desk_eido.specs.Seen.{Seen, SeenMembers}
use Rattle.desk_eido.specs.Seen as seen

-- one reading after another, up to the first refusal
infixl 10 ◌>>=◌
abbrev pub ◌>>=◌ : {A B : Type 0} → Result A Refusal → (A → Result B Refusal) → Result B Refusal
(Ok x) >>= f = f x
(Err e) >>= f = Err e

-- what a function returned, seen by view, is this reading, unless memory was refused
abbrev pub GivesResult : {X Y : Type 0} → (X → Y) → Result X Refusal → Result Y Refusal → Type 0
GivesResult view (Ok x) read = read ≡ Ok (view x)
GivesResult view (Err e) read = e ≢ WantOfMemory → read ≡ Err e

-- what is seen of a member, if it is there
unfoldable pub seen_at : Member → SeenMembers → Result Seen Refusal
seen_at m d = ok_or (d m) (Missing m)

-- the text, where a text is seen
abbrev pub as_text : Member → Seen → Result (List ℕ) Refusal
as_text m (seen.text t) = Ok t
as_text m (seen.natural n) = Err (WrongKind m)
as_text m seen.negative = Err (WrongKind m)
as_text m seen.other = Err (WrongKind m)

-- the value of a member, which has to be there and to be a text
unfoldable pub member_text : Member → SeenMembers → Result (List ℕ) Refusal
member_text m d = seen_at m d >>= as_text m

-- the whole number, where one is seen; a negative one is out of every range
abbrev pub as_natural : Member → Seen → Result ℕ Refusal
as_natural m (seen.text t) = Err (WrongKind m)
as_natural m (seen.natural n) = Ok n
as_natural m seen.negative = Err (OutOfRange m)
as_natural m seen.other = Err (WrongKind m)

-- the whole number that a member is
unfoldable pub natural_at : Member → SeenMembers → Result ℕ Refusal
natural_at m d = seen_at m d >>= as_natural m

-- a value, where its size is 1 to most
abbrev pub in_size : {A : Type 0} → Member → ℕ → ℕ → A → Result A Refusal
in_size m most size x = if nat_le 1 size && nat_le size most then Ok x else Err (OutOfRange m)

-- the number of a client or of a request that a member is
abbrev pub member_number_at : Member → SeenMembers → Result ℕ Refusal
member_number_at m d = natural_at m d >>= (λ n. in_size m LAST_NUMBER n n)

-- whose request it is, by the member `session`
unfoldable pub client_at : SeenMembers → Result ℕ Refusal
client_at d = member_number_at members.Session d

-- the client's number of the request
unfoldable pub request_number_at : SeenMembers → Result ℕ Refusal
request_number_at d = member_number_at members.Number d

-- the number of a node in its group, where a whole number is one
abbrev pub node_number_of : Member → ℕ → Result ℕ Refusal
node_number_of m n = if is_node_number n then Ok n else Err (OutOfRange m)

-- the number of a node in its group, by the member `node`
unfoldable pub node_number_at : SeenMembers → Result ℕ Refusal
node_number_at d = natural_at members.Node d >>= node_number_of members.Node

-- the token of a node, by the member `token`
unfoldable pub token_at : SeenMembers → Result ℕ Refusal
token_at d = natural_at members.Token d >>= (λ n. in_size members.Token LAST_TOKEN n n)

-- the text of 1 to most bytes that a member is
unfoldable pub bounded_at : ℕ → Member → SeenMembers → Result (List ℕ) Refusal
bounded_at most m d = member_text m d >>= (λ t. in_size m most (length t) t)

-- the whole seconds since 1970 of the instant that a text names, rounded down
unfoldable pub seconds_of : List ℕ → Option ℤ
seconds_of text = option_map (λ n. int_div_euclid n (pos 1_000_000_000)) (result_ok (parse_timestamp text))

-- the instant that a member names
unfoldable pub instant_at : Member → SeenMembers → Result ℤ Refusal
instant_at m d = member_text m d >>= (λ t. ok_or (seconds_of t) (BadTime m))

-- the name of a unit, where it is seen under a member
unfoldable pub unit_seen : Member → Seen → Result (List ℕ) Refusal
unit_seen m s = as_text m s >>= (λ t. if is_unit_name t then Ok t else Err (OutOfRange m))

-- the unit that a member names
unfoldable pub unit_at : Member → SeenMembers → Result (List ℕ) Refusal
unit_at m d = seen_at m d >>= unit_seen m

-- the status of a word
unfoldable pub status_of : List ℕ → Option Status
status_of word =
    if bytes_eq word (codes "available") then Some statuses.Available
    else if bytes_eq word (codes "dispatched") then Some statuses.Dispatched
    else if bytes_eq word (codes "en_route") then Some statuses.EnRoute
    else if bytes_eq word (codes "on_scene") then Some statuses.OnScene
    else if bytes_eq word (codes "transporting") then Some statuses.Transporting
    else if bytes_eq word (codes "at_facility") then Some statuses.AtFacility
    else if bytes_eq word (codes "out_of_service") then Some statuses.OutOfService else None

-- the status that a member names
unfoldable pub status_at : Member → SeenMembers → Result Status Refusal
status_at m d = member_text m d >>= (λ t. ok_or (status_of t) (OutOfRange m))

-- the canonical text of parts of this kind
abbrev pub id_of_parts : IdKind → Option Parts → Option (List ℕ)
id_of_parts kind None = None
id_of_parts kind (Some p) = if is_same_kind p.kind kind then Some (canonical p) else None

-- The canonical text of the identifier of this kind that a text spells. It is read from left to right: that a text
-- reads as parts exactly where the grammar spells them is the law of `desk_types::laws::identifiers`.
unfoldable pub id_of : IdKind → List ℕ → Option (List ℕ)
id_of kind text = id_of_parts kind (reading text)

-- the identifier of this kind, where it is seen under a member
unfoldable pub id_seen : IdKind → Member → Seen → Result (List ℕ) Refusal
id_seen kind m s = as_text m s >>= (λ t. ok_or (id_of kind t) (BadIdentifier m))

-- the identifier of this kind that a member names
unfoldable pub identifier_at : IdKind → Member → SeenMembers → Result (List ℕ) Refusal
identifier_at kind m d = seen_at m d >>= id_seen kind m

-- the identifier of this kind, where anything is seen under a member
abbrev pub optional_id_seen : IdKind → Member → Option Seen → Result (Option (List ℕ)) Refusal
optional_id_seen kind m None = Ok None
optional_id_seen kind m (Some s) = id_seen kind m s >>= (λ id. Ok (Some id))

-- the identifier of this kind that a member names, if there is the member
unfoldable pub optional_id_at : IdKind → Member → SeenMembers → Result (Option (List ℕ)) Refusal
optional_id_at kind m d = optional_id_seen kind m (d m)

-- the state of which incidents are listed, by its word
unfoldable pub listed_state_of : List ℕ → Option ListedState
listed_state_of word =
    if bytes_eq word (codes "open") then Some listed.Open
    else if bytes_eq word (codes "cleared") then Some listed.Cleared
    else if bytes_eq word (codes "merged") then Some listed.Merged else None

-- the same, where it is seen under a member
unfoldable pub listed_state_seen : Member → Seen → Result ListedState Refusal
listed_state_seen m s = as_text m s >>= (λ t. ok_or (listed_state_of t) (OutOfRange m))

-- the same of what may be seen; where nothing is seen, incidents of any state are listed
abbrev pub optional_state : Member → Option Seen → Result ListedState Refusal
optional_state m None = Ok listed.Any
optional_state m (Some s) = listed_state_seen m s

-- the state that a member names, if there is the member
unfoldable pub listed_state_at : Member → SeenMembers → Result ListedState Refusal
listed_state_at m d = optional_state m (d m)

-- a place of the log, where it is seen under a member; the first place is 1
unfoldable pub place_seen : Member → Seen → Result ℕ Refusal
place_seen m s = as_natural m s >>= (λ n. if n == 0 then Err (OutOfRange m) else Ok n)

-- a place, where anything is seen under a member
abbrev pub optional_place : Member → Option Seen → Result (Option ℕ) Refusal
optional_place m None = Ok None
optional_place m (Some s) = place_seen m s >>= (λ place. Ok (Some place))

-- the place that a member tells, if there is the member
unfoldable pub optional_place_at : Member → SeenMembers → Result (Option ℕ) Refusal
optional_place_at m d = optional_place m (d m)
