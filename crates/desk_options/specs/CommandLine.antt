-- What a command line asks for. The words are those after the program's name.
use Rattle.std.specs.Prelude.{◌≡◌, ◌⊎◌, ◌<◌, ◌≤◌, ℕ, pos, List, [], Option, Some, None, Bool, true, false, codes}
use Rattle.std.specs.Prelude.{slice_get, option_map, string_bytes}
use Rattle.std.specs.Str.{str_to_ascii_lowercase}
use Rattle.std.specs.Str.Parse.{IsNumeral, signed_digits_value, without_leading_sign}
use Rattle.clap.specs.Matches.{found_of}
use Rattle.clap.specs.Walk.{Row, Rule, Text, rows_of, first_of, one_of}
use Rattle.clap.specs.Faults.{fault_of}
use Rattle.clap.specs.Simple.{App, new_app, new_rule, with_rule, matches_of}
use Rattle.clap.specs.declared.builder.action.ArgAction.TheVariants.{SetTrue}
use Rattle.clap.specs.declared.builder.value_parser.ValueParser.TheVariants.{Signed}
use Rattle.clap.specs.declared.parser.matches.ArgMatches.{ArgMatches}
use Rattle.desk_types.specs.Group.{IsGroupSize}
use Rattle.desk_types.specs.Identifier.{IsDomain}
use Rattle.desk_types.specs.declared.limits.TheConstants.{LAST_PLACE, LAST_TOKEN, LOG_ENTRIES}
use Rattle.desk_types.specs.declared.owner.Owner.{Owner}
use Rattle.desk_options.specs.declared.command_line.OptionsFault.{OptionsFault}
use Rattle.desk_options.specs.declared.command_line.OptionsFault.TheVariants.{WantOfMemory, Refused}
use Rattle.desk_options.specs.declared.command_line.choice.AnswerOptions.{AnswerOptions}
use Rattle.desk_options.specs.declared.command_line.choice.ClusterOptions.{ClusterOptions}
use Rattle.desk_options.specs.declared.command_line.choice.FollowOptions.{FollowOptions}
use Rattle.desk_options.specs.declared.command_line.choice.LogOptions.{LogOptions}
use Rattle.desk_options.specs.declared.command_line.choice.Options.{Options}
use Rattle.desk_options.specs.declared.command_line.choice.Options.TheVariants.{Replay, World, Answer, Serve}
use Rattle.desk_options.specs.declared.command_line.choice.Options.TheVariants.{Cluster, Send, Status, Page, Log}
use Rattle.desk_options.specs.declared.command_line.choice.Options.TheVariants.{Version}
use Rattle.desk_options.specs.declared.command_line.choice.PageOptions.{PageOptions}
use Rattle.desk_options.specs.declared.command_line.choice.ReplayOptions.{ReplayOptions}
use Rattle.desk_options.specs.declared.command_line.choice.SendOptions.{SendOptions}
use Rattle.desk_options.specs.declared.command_line.choice.ServeOptions.{ServeOptions}
use Rattle.desk_options.specs.declared.command_line.choice.StatusOptions.{StatusOptions}
use Rattle.desk_options.specs.declared.command_line.choice.WorldOptions.{WorldOptions}
use Rattle.desk_options.specs.declared.command_line.port.TheConstants.{LEAST_PORT, MOST_GROUP_PORT, MOST_SESSION_PORT}
use Rattle.desk_options.specs.declared.command_line.port.TheConstants.{MOST_PORT}
use Rattle.desk_options.specs.declared.command_line.send.TheConstants.{MOST_SECONDS, USUAL_SECONDS}

-- an option of this name, `--NAME VALUE`, which has to be given
abbrev pub text_rule : Text → Rule
text_rule name = record (new_rule name) { long = Some name; required = true }

-- the same, of a whole number from one to another
abbrev pub number_rule : Text → ℕ → ℕ → Rule
number_rule name least most = record (text_rule name) { parser = Some (Signed (pos least) (pos most)) }

-- the same, of a whole number that fits a byte
abbrev pub byte_rule : Text → Rule
byte_rule name = number_rule name 0 255

-- `--domain DOMAIN`
abbrev pub domain_rule : Rule
domain_rule = text_rule (codes "domain")

-- `--node NODE`
abbrev pub node_rule : Rule
node_rule = byte_rule (codes "node")

-- `--file FILE`
abbrev pub file_rule : Rule
file_rule = text_rule (codes "file")

-- `--nodes NODES`
abbrev pub nodes_rule : Rule
nodes_rule = byte_rule (codes "nodes")

-- `--port PORT`, up to so many
abbrev pub port_rule : ℕ → Rule
port_rule most = number_rule (codes "port") LEAST_PORT most

-- the command `replay --domain DOMAIN`
abbrev pub replay_app : App
replay_app = with_rule (new_app (codes "replay")) domain_rule

-- the command `world --nodes NODES --domain DOMAIN`
abbrev pub world_app : App
world_app = with_rule (with_rule (new_app (codes "world")) nodes_rule) domain_rule

-- the command `answer --node NODE --nodes NODES --domain DOMAIN --file FILE`
abbrev pub answer_app : App
answer_app =
    with_rule (with_rule (with_rule (with_rule (new_app (codes "answer")) node_rule) nodes_rule) domain_rule) file_rule

-- an option that may be left out
abbrev pub optional_rule : Rule → Rule
optional_rule rule = record rule { required = false }

-- an option of any text that may be left out
abbrev pub text_option_rule : Text → Rule
text_option_rule name = optional_rule (text_rule name)

-- a command with `--hosts HOSTS`, `--key FILE` and `--client-key FILE`, which may be left out
abbrev pub with_hosts : App → App
with_hosts app = with_rule (with_rule (with_rule app (text_option_rule (codes "hosts")))
    (text_option_rule (codes "key"))) (text_option_rule (codes "client-key"))

-- an option of this name, `--NAME`, which has no value and may be left out
abbrev pub flag_rule : Text → Rule
flag_rule name = record (new_rule name) { long = Some name; action = Some SetTrue }

-- `--epoch-places PLACES`, which may be left out
abbrev pub epoch_places_rule : Rule
epoch_places_rule = optional_rule (number_rule (codes "epoch-places") 1 LOG_ENTRIES)

-- `--member TOKEN`, which may be left out
abbrev pub member_rule : Rule
member_rule = optional_rule (number_rule (codes "member") 1 LAST_TOKEN)

-- a command with `--next`, `--epoch-places PLACES` and `--member TOKEN`, which may be left out
abbrev pub with_epochs : App → App
with_epochs app = with_rule (with_rule (with_rule app (flag_rule (codes "next"))) epoch_places_rule) member_rule

-- the command `serve --node NODE --nodes NODES --domain DOMAIN --port PORT --file FILE --log`, over epochs and on
-- several hosts
abbrev pub serve_app : App
serve_app = with_hosts (with_epochs (with_rule
    (with_rule (with_rule (with_rule (with_rule (with_rule (new_app (codes "serve")) node_rule) nodes_rule) domain_rule)
    (port_rule MOST_GROUP_PORT)) file_rule) (flag_rule (codes "log"))))

-- the command `cluster --nodes NODES --domain DOMAIN --port PORT --epoch-places PLACES`
abbrev pub cluster_app : App
cluster_app = with_rule
    (with_rule (with_rule (with_rule (new_app (codes "cluster")) nodes_rule) domain_rule) (port_rule MOST_GROUP_PORT))
    epoch_places_rule

-- `--seconds SECONDS`, which may be left out
abbrev pub seconds_rule : Rule
seconds_rule = optional_rule (number_rule (codes "seconds") 1 MOST_SECONDS)

-- the command `send --port PORT`, or `send --port PORT --nodes NODES --seconds SECONDS`, with `--host HOST` or on
-- several hosts
abbrev pub send_app : App
send_app = with_hosts (with_rule (with_rule (with_rule (with_rule (new_app (codes "send"))
    (port_rule MOST_SESSION_PORT)) (optional_rule nodes_rule)) seconds_rule) (text_option_rule (codes "host")))

-- the command `status --port PORT --nodes NODES`, on several hosts
abbrev pub status_app : App
status_app = with_hosts (with_rule (with_rule (new_app (codes "status")) (port_rule MOST_GROUP_PORT)) nodes_rule)

-- `--listen PORT`
abbrev pub listen_rule : Rule
listen_rule = number_rule (codes "listen") LEAST_PORT MOST_PORT

-- the command `page --port PORT --nodes NODES --listen PORT --seconds SECONDS`, on several hosts
abbrev pub page_app : App
page_app = with_hosts
    (with_rule (with_rule (with_rule (with_rule (new_app (codes "page")) (port_rule MOST_GROUP_PORT)) nodes_rule)
    listen_rule) seconds_rule)

-- `--from PLACE`, which may be left out
abbrev pub from_rule : Rule
from_rule = optional_rule (number_rule (codes "from") 1 LAST_PLACE)

-- the command `log --file FILE --from PLACE`
abbrev pub log_app : App
log_app = with_rule (with_rule (new_app (codes "log")) file_rule) from_rule

-- A command accepts the words, of which the first is its name.
abbrev pub Accepts : App → List Text → Type 0
Accepts app words = fault_of app words ≡ []

-- what was found is what the command makes of the words
abbrev pub HasValues : App → List Text → ArgMatches → Type 0
HasValues app words m = rows_of (found_of m) ≡ matches_of app words

-- the domain that was found is this, in lower case
pub record FindsDomain (rows : List Row) (domain : List ℕ) : Type 0 where
  pub text : Text
  pub given : first_of (codes "domain") rows ≡ Some text
  pub valid : IsDomain text
  pub lower : domain ≡ str_to_ascii_lowercase text

-- The text spells this number of nodes, 3 or 5.
pub record SpellsNodes (text : List ℕ) (nodes : ℕ) : Type 0 where
  pub numeral : IsNumeral 10 (without_leading_sign text)
  pub value : signed_digits_value 10 text ≡ pos nodes
  pub few : IsGroupSize nodes

-- the number of nodes that was found is this
pub record FindsNodes (rows : List Row) (nodes : ℕ) : Type 0 where
  pub text : Text
  pub given : first_of (codes "nodes") rows ≡ Some text
  pub spelled : SpellsNodes text nodes

-- The text spells the number of a node among so many, which are numbered from 0.
pub record SpellsNode (text : List ℕ) (nodes node : ℕ) : Type 0 where
  pub numeral : IsNumeral 10 (without_leading_sign text)
  pub value : signed_digits_value 10 text ≡ pos node
  pub below : node < nodes

-- the node's number that was found is this
pub record FindsNode (rows : List Row) (nodes node : ℕ) : Type 0 where
  pub text : Text
  pub given : first_of (codes "node") rows ≡ Some text
  pub spelled : SpellsNode text nodes node

-- the owner that was found is this: the node, the number of nodes and the domain
pub record FindsOwner (rows : List Row) (owner : Owner) : Type 0 where
  pub nodes : FindsNodes rows owner.n
  pub node : FindsNode rows owner.n owner.id
  pub domain : FindsDomain rows owner.domain

-- the file that was found is this
abbrev pub FindsFile : List Row → List ℕ → Type 0
FindsFile rows file = first_of (codes "file") rows ≡ Some file

-- the text that was found for an option is this, or there is none
abbrev pub FindsText : List Row → Text → Option Text → Type 0
FindsText rows name text = text ≡ first_of name rows

-- that a flag was found is this, by the text that the parser has for it
pub record FindsFlag (rows : List Row) (name : Text) (is : Bool) : Type 0 where
  pub none : one_of name rows ≡ None → is ≡ false
  pub given : one_of name rows ≡ Some (codes "true") → is ≡ true
  pub other : one_of name rows ≡ Some (codes "false") → is ≡ false

-- the key of sessions: that of clients, or else that of nodes
abbrev pub session_key : Option Text → Option Text → Option Text
session_key None key = key
session_key (Some client_key) key = Some client_key

-- the file that was found for the key of sessions is this, or there is none
abbrev pub FindsSessionKey : List Row → Option Text → Type 0
FindsSessionKey rows name = name ≡ session_key (first_of (codes "client-key") rows) (first_of (codes "key") rows)

-- the port is one from the least that a command line may give to so many
abbrev pub IsPort : ℕ → ℕ → Type 0
IsPort most port = (LEAST_PORT ≤ port) × (port ≤ most)

-- The text spells this port, which may be given.
pub record SpellsPort (text : List ℕ) (most port : ℕ) : Type 0 where
  pub numeral : IsNumeral 10 (without_leading_sign text)
  pub value : signed_digits_value 10 text ≡ pos port
  pub range : IsPort most port

-- the port that was found is this
pub record FindsPort (rows : List Row) (most port : ℕ) : Type 0 where
  pub text : Text
  pub given : first_of (codes "port") rows ≡ Some text
  pub spelled : SpellsPort text most port

-- the port that was found for browsers is this
pub record FindsListen (rows : List Row) (port : ℕ) : Type 0 where
  pub text : Text
  pub given : first_of (codes "listen") rows ≡ Some text
  pub spelled : SpellsPort text MOST_PORT port

-- The text spells this number, from 1 to the greatest that may be given.
pub record SpellsUpTo (text : List ℕ) (greatest number : ℕ) : Type 0 where
  pub numeral : IsNumeral 10 (without_leading_sign text)
  pub value : signed_digits_value 10 text ≡ pos number
  pub least : 1 ≤ number
  pub most : number ≤ greatest

-- The text spells so many seconds, which may be given.
abbrev pub SpellsSeconds : List ℕ → ℕ → Type 0
SpellsSeconds text seconds = SpellsUpTo text MOST_SECONDS seconds

-- the seconds are those that a text spells, or the usual ones where there is none
abbrev pub AreSeconds : Option (List ℕ) → ℕ → Type 0
AreSeconds None seconds = seconds ≡ USUAL_SECONDS
AreSeconds (Some text) seconds = SpellsSeconds text seconds

-- the seconds that were found are these
abbrev pub FindsSeconds : List Row → ℕ → Type 0
FindsSeconds rows seconds = AreSeconds (first_of (codes "seconds") rows) seconds

-- The text spells this place, which may be given.
abbrev pub SpellsPlace : List ℕ → ℕ → Type 0
SpellsPlace text place = SpellsUpTo text LAST_PLACE place

-- the place is the one that a text spells, or the first where there is none
abbrev pub IsFrom : Option (List ℕ) → ℕ → Type 0
IsFrom None place = place ≡ 1
IsFrom (Some text) place = SpellsPlace text place

-- the place that was found to begin with is this
abbrev pub FindsFrom : List Row → ℕ → Type 0
FindsFrom rows place = IsFrom (first_of (codes "from") rows) place

-- an epoch has as many places as a text spells, or the most where there is none
abbrev pub AreEpochPlaces : Option (List ℕ) → ℕ → Type 0
AreEpochPlaces None places = places ≡ LOG_ENTRIES
AreEpochPlaces (Some text) places = SpellsUpTo text LOG_ENTRIES places

-- the number of places of an epoch that was found is this
abbrev pub FindsEpochPlaces : List Row → ℕ → Type 0
FindsEpochPlaces rows places = AreEpochPlaces (first_of (codes "epoch-places") rows) places

-- there is a token where there is a text, which spells it
abbrev pub IsMember : Option (List ℕ) → Option ℕ → Type 0
IsMember None token = token ≡ None
IsMember (Some text) None = ⊥
IsMember (Some text) (Some token) = SpellsUpTo text LAST_TOKEN token

-- the token that was found is this, or there is none
abbrev pub FindsMember : List Row → Option ℕ → Type 0
FindsMember rows token = IsMember (first_of (codes "member") rows) token

-- a group that was found to be followed is this
abbrev pub AreFollowOptions : List Row → FollowOptions → Type 0
AreFollowOptions rows group = FindsNodes rows group.nodes × FindsSeconds rows group.seconds

-- a group is followed, which is this
abbrev pub IsFollowed : List Row → Option FollowOptions → Type 0
IsFollowed rows None = ⊥
IsFollowed rows (Some group) = AreFollowOptions rows group

-- The group that was found is this. There is none where neither a number of nodes nor seconds are given.
abbrev pub FindsGroup : List Row → Option FollowOptions → Type 0
FindsGroup rows None = (first_of (codes "nodes") rows ≡ None) × (first_of (codes "seconds") rows ≡ None)
FindsGroup rows (Some group) = AreFollowOptions rows group

-- the greatest port that may be given: of a group that is followed, its first, and else that of a node's sessions
abbrev pub most_port : Option FollowOptions → ℕ
most_port None = MOST_SESSION_PORT
most_port (Some group) = MOST_GROUP_PORT

-- `replay` is the first word, its command accepts the words, and the domain is the one that it finds there.
pub record AsksReplay (words : List Text) (options : ReplayOptions) : Type 0 where
  pub first : slice_get words 0 ≡ Some (codes "replay")
  pub accepts : Accepts replay_app words
  pub finds : FindsDomain (matches_of replay_app words) options.domain

-- `world` is the first word, its command accepts the words, and the number of nodes and the domain are those that it
-- finds there.
pub record AsksWorld (words : List Text) (options : WorldOptions) : Type 0 where
  pub first : slice_get words 0 ≡ Some (codes "world")
  pub accepts : Accepts world_app words
  pub finds_nodes : FindsNodes (matches_of world_app words) options.nodes
  pub finds : FindsDomain (matches_of world_app words) options.domain

-- `answer` is the first word, its command accepts the words, and the owner and the file are those that it finds there.
pub record AsksAnswer (words : List Text) (options : AnswerOptions) : Type 0 where
  pub first : slice_get words 0 ≡ Some (codes "answer")
  pub accepts : Accepts answer_app words
  pub finds_owner : FindsOwner (matches_of answer_app words) options.owner
  pub finds_file : FindsFile (matches_of answer_app words) (string_bytes options.file)

-- `serve` is the first word, its command accepts the words, and the owner, the port, the file, the hosts, the keys,
-- whether there is a log and whether a second file is made, the places of an epoch and the token are those that it
-- finds there.
pub record AsksServe (words : List Text) (options : ServeOptions) : Type 0 where
  pub first : slice_get words 0 ≡ Some (codes "serve")
  pub accepts : Accepts serve_app words
  pub finds_owner : FindsOwner (matches_of serve_app words) options.owner
  pub finds_port : FindsPort (matches_of serve_app words) MOST_GROUP_PORT options.port
  pub finds_file : FindsFile (matches_of serve_app words) (string_bytes options.file)
  pub finds_hosts : FindsText (matches_of serve_app words) (codes "hosts")
      (option_map (λ t. string_bytes t) options.hosts)
  pub finds_key : FindsText (matches_of serve_app words) (codes "key") (option_map (λ t. string_bytes t) options.key)
  pub finds_client_key : FindsSessionKey (matches_of serve_app words)
      (option_map (λ t. string_bytes t) options.client_key)
  pub finds_log : FindsFlag (matches_of serve_app words) (codes "log") options.log
  pub finds_next : FindsFlag (matches_of serve_app words) (codes "next") options.next
  pub finds_epoch_places : FindsEpochPlaces (matches_of serve_app words) options.epoch_places
  pub finds_member : FindsMember (matches_of serve_app words) options.member

-- `cluster` is the first word, its command accepts the words, and the number of nodes, the domain, the port and the
-- places of an epoch are those that it finds there.
pub record AsksCluster (words : List Text) (options : ClusterOptions) : Type 0 where
  pub first : slice_get words 0 ≡ Some (codes "cluster")
  pub accepts : Accepts cluster_app words
  pub finds_nodes : FindsNodes (matches_of cluster_app words) options.nodes
  pub finds : FindsDomain (matches_of cluster_app words) options.domain
  pub finds_port : FindsPort (matches_of cluster_app words) MOST_GROUP_PORT options.port
  pub finds_epoch_places : FindsEpochPlaces (matches_of cluster_app words) options.epoch_places

-- `send` is the first word, its command accepts the words, and the group, the port, the hosts and the key are those
-- that it finds there.
pub record AsksSend (words : List Text) (options : SendOptions) : Type 0 where
  pub first : slice_get words 0 ≡ Some (codes "send")
  pub accepts : Accepts send_app words
  pub finds_group : FindsGroup (matches_of send_app words) options.group
  pub finds_port : FindsPort (matches_of send_app words) (most_port options.group) options.port
  pub finds_host : FindsText (matches_of send_app words) (codes "host") (option_map (λ t. string_bytes t) options.host)
  pub finds_hosts : FindsText (matches_of send_app words) (codes "hosts")
      (option_map (λ t. string_bytes t) options.hosts)
  pub finds_key : FindsSessionKey (matches_of send_app words) (option_map (λ t. string_bytes t) options.key)

-- `status` is the first word, its command accepts the words, and the number of nodes, the port, the hosts and the key
-- are those that it finds there.
pub record AsksStatus (words : List Text) (options : StatusOptions) : Type 0 where
  pub first : slice_get words 0 ≡ Some (codes "status")
  pub accepts : Accepts status_app words
  pub finds_nodes : FindsNodes (matches_of status_app words) options.nodes
  pub finds_port : FindsPort (matches_of status_app words) MOST_GROUP_PORT options.port
  pub finds_hosts : FindsText (matches_of status_app words) (codes "hosts")
      (option_map (λ t. string_bytes t) options.hosts)
  pub finds_key : FindsSessionKey (matches_of status_app words) (option_map (λ t. string_bytes t) options.key)

-- `page` is the first word, its command accepts the words, and the number of nodes, the ports, the seconds, the hosts
-- and the key are those that it finds there.
pub record AsksPage (words : List Text) (options : PageOptions) : Type 0 where
  pub first : slice_get words 0 ≡ Some (codes "page")
  pub accepts : Accepts page_app words
  pub finds_nodes : FindsNodes (matches_of page_app words) options.nodes
  pub finds_port : FindsPort (matches_of page_app words) MOST_GROUP_PORT options.port
  pub finds_listen : FindsListen (matches_of page_app words) options.listen
  pub finds_seconds : FindsSeconds (matches_of page_app words) options.seconds
  pub finds_hosts : FindsText (matches_of page_app words) (codes "hosts")
      (option_map (λ t. string_bytes t) options.hosts)
  pub finds_key : FindsSessionKey (matches_of page_app words) (option_map (λ t. string_bytes t) options.key)

-- `log` is the first word, its command accepts the words, and the file and the place are those that it finds there.
pub record AsksLog (words : List Text) (options : LogOptions) : Type 0 where
  pub first : slice_get words 0 ≡ Some (codes "log")
  pub accepts : Accepts log_app words
  pub finds_file : FindsFile (matches_of log_app words) (string_bytes options.file)
  pub finds_from : FindsFrom (matches_of log_app words) options.from

-- `--version` or `-V` is the first word
abbrev pub AsksVersion : List Text → Type 0
AsksVersion words = (slice_get words 0 ≡ Some (codes "--version")) ⊎ (slice_get words 0 ≡ Some (codes "-V"))

-- the words ask for this
abbrev pub AsksFor : List Text → Options → Type 0
AsksFor words (Replay options) = AsksReplay words options
AsksFor words (World options) = AsksWorld words options
AsksFor words (Answer options) = AsksAnswer words options
AsksFor words (Serve options) = AsksServe words options
AsksFor words (Cluster options) = AsksCluster words options
AsksFor words (Send options) = AsksSend words options
AsksFor words (Status options) = AsksStatus words options
AsksFor words (Page options) = AsksPage words options
AsksFor words (Log options) = AsksLog words options
AsksFor words Version = AsksVersion words

-- there is nothing that the words ask for
abbrev pub AskForNothing : List Text → Type 0
AskForNothing words = (options : Options) → AsksFor words options → ⊥

-- this holds where the words are refused, other than for want of memory
abbrev pub OnRefused : OptionsFault → Type 0 → Type 0
OnRefused WantOfMemory P = Unit {0}
OnRefused (Refused text) P = P
