-- What a command line asks for, where its first word is known.
use Rattle.std.proofs.Common.{◌≡◌, ℕ, ℤ, pos, negsuc, List, [], ◌∷◌, Option, Some, None, map, option_map, codes, get_or}
use Rattle.std.proofs.Common.{◌+◌, ◌*◌, length, eqb, eq-eqb, false, refl, sym, ap, subst, inl, inr}
use Rattle.std.proofs.lemmas.Bool.{false≢true}
use Rattle.std.proofs.Common.{◌∙◌}
use Rattle.std.specs.List.{slice_get}
use Rattle.std.specs.Str.{bytes_eq}
use Rattle.std.proofs.lemmas.Slice.Eq.{bytes_eq-Decides}
use Rattle.std.proofs.lemmas.Option.{same_Some, none-some}
use Rattle.std.specs.Str.Parse.{signed_digits_value}
use Rattle.clap.specs.Walk.{Text, Row, first_of}
use Rattle.desk_types.specs.Identifier.{IsDomain}
use Rattle.desk_types.specs.declared.owner.Owner.{Owner}
use Rattle.desk_options.specs.declared.command_line.OptionsFault.{OptionsFault}
use Rattle.desk_options.specs.declared.command_line.OptionsFault.TheVariants.{WantOfMemory, Refused}
use Rattle.desk_options.specs.declared.command_line.choice.AnswerOptions.{AnswerOptions}
use Rattle.desk_options.specs.declared.command_line.choice.ClusterOptions.{ClusterOptions}
use Rattle.desk_options.specs.declared.command_line.choice.FollowOptions.{FollowOptions}
use Rattle.desk_options.specs.declared.command_line.choice.Options.TheVariants.{Replay, World, Answer, Serve}
use Rattle.desk_options.specs.declared.command_line.choice.Options.TheVariants.{Cluster, Send, Status, Page, Log}
use Rattle.desk_options.specs.declared.command_line.choice.Options.TheVariants.{Version}
use Rattle.desk_options.specs.declared.command_line.choice.LogOptions.{LogOptions}
use Rattle.desk_options.specs.declared.command_line.choice.PageOptions.{PageOptions}
use Rattle.desk_options.specs.declared.command_line.choice.ReplayOptions.{ReplayOptions}
use Rattle.desk_options.specs.declared.command_line.choice.SendOptions.{SendOptions}
use Rattle.desk_options.specs.declared.command_line.choice.ServeOptions.{ServeOptions}
use Rattle.desk_options.specs.declared.command_line.choice.StatusOptions.{StatusOptions}
use Rattle.desk_options.specs.declared.command_line.choice.WorldOptions.{WorldOptions}
use Rattle.desk_options.specs.CommandLine.{FindsDomain, SpellsNodes, FindsNodes, AsksReplay, AsksWorld, AskForNothing}
use Rattle.desk_options.specs.CommandLine.{SpellsNode, FindsNode, FindsOwner, FindsFile, AsksAnswer, OnRefused}
use Rattle.desk_options.specs.CommandLine.{SpellsPort, FindsPort, AsksServe, AsksCluster, AsksSend, AsksStatus}
use Rattle.desk_options.specs.CommandLine.{SpellsSeconds, AreSeconds, FindsSeconds, FindsGroup, AreFollowOptions}
use Rattle.desk_options.specs.CommandLine.{IsFollowed, AsksVersion, AsksPage, AsksLog, FindsListen}
use Rattle.desk_options.specs.CommandLine.{SpellsPlace, IsFrom, FindsFrom}
use Rattle.desk_options.specs.CommandLine.{SpellsUpTo, AreEpochPlaces, FindsEpochPlaces, IsMember, FindsMember}
use Rattle.desk_options.specs.CommandLine.{most_port}
use Rattle.desk_types.specs.declared.limits.TheConstants.{LAST_TOKEN, LOG_ENTRIES}
use Rattle.desk_options.specs.declared.command_line.send.TheConstants.{USUAL_SECONDS}
use Rattle.desk_options.specs.declared.command_line.port.TheConstants.{MOST_PORT}

pub on_refused : {P Q : Type 0} (fault : OptionsFault) → (P → Q) → OnRefused fault P → OnRefused fault Q
on_refused WantOfMemory f p = tt
on_refused (Refused text) f p = f p

pub always_refused : {P : Type 0} (fault : OptionsFault) → P → OnRefused fault P
always_refused WantOfMemory p = tt
always_refused (Refused text) p = p

pub refused_by_memory : (P : Type 0) (fault : OptionsFault) → fault ≡ WantOfMemory → OnRefused fault P
refused_by_memory P fault is = subst (λ f. OnRefused f P) (sym is) tt

-- the words of the subcommands differ in their lengths, or in their first bytes

abbrev key : Text → ℕ
key word = get_or word 0 0 + 1000 * length word

unlike : (words : List Text) (one other : Text) → eqb (key one) (key other) ≡ false →
    slice_get words 0 ≡ Some one → slice_get words 0 ≡ Some other → ⊥
unlike words one other differ first second =
    let same = same_Some one other (sym first ∙ second) in
    false≢true (sym differ ∙ eq-eqb (key one) (key other) (ap key same))

unlike_version : (words : List Text) (one : Text) → eqb (key one) (key (codes "--version")) ≡ false →
    eqb (key one) (key (codes "-V")) ≡ false → slice_get words 0 ≡ Some one → AsksVersion words → ⊥
unlike_version words one differs differ first (inl asked) = unlike words one (codes "--version") differs first asked
unlike_version words one differs differ first (inr asked) = unlike words one (codes "-V") differ first asked

pub no_replay : (words : List Text) → slice_get words 0 ≡ Some (codes "replay") →
    ((options : ReplayOptions) → AsksReplay words options → ⊥) → AskForNothing words
no_replay words first none (Replay options) asks = none options asks
no_replay words first none (World options) asks = unlike words (codes "replay") (codes "world") refl first asks.first
no_replay words first none (Answer options) asks = unlike words (codes "replay") (codes "answer") refl first asks.first
no_replay words first none (Serve options) asks = unlike words (codes "replay") (codes "serve") refl first asks.first
no_replay words first none (Cluster options) asks =
    unlike words (codes "replay") (codes "cluster") refl first asks.first
no_replay words first none (Send options) asks = unlike words (codes "replay") (codes "send") refl first asks.first
no_replay words first none (Status options) asks = unlike words (codes "replay") (codes "status") refl first asks.first
no_replay words first none (Page options) asks = unlike words (codes "replay") (codes "page") refl first asks.first
no_replay words first none (Log options) asks = unlike words (codes "replay") (codes "log") refl first asks.first
no_replay words first none Version asks = unlike_version words (codes "replay") refl refl first asks

pub no_world : (words : List Text) → slice_get words 0 ≡ Some (codes "world") →
    ((options : WorldOptions) → AsksWorld words options → ⊥) → AskForNothing words
no_world words first none (Replay options) asks = unlike words (codes "world") (codes "replay") refl first asks.first
no_world words first none (World options) asks = none options asks
no_world words first none (Answer options) asks = unlike words (codes "world") (codes "answer") refl first asks.first
no_world words first none (Serve options) asks = unlike words (codes "world") (codes "serve") refl first asks.first
no_world words first none (Cluster options) asks = unlike words (codes "world") (codes "cluster") refl first asks.first
no_world words first none (Send options) asks = unlike words (codes "world") (codes "send") refl first asks.first
no_world words first none (Status options) asks = unlike words (codes "world") (codes "status") refl first asks.first
no_world words first none (Page options) asks = unlike words (codes "world") (codes "page") refl first asks.first
no_world words first none (Log options) asks = unlike words (codes "world") (codes "log") refl first asks.first
no_world words first none Version asks = unlike_version words (codes "world") refl refl first asks

pub no_answer : (words : List Text) → slice_get words 0 ≡ Some (codes "answer") →
    ((options : AnswerOptions) → AsksAnswer words options → ⊥) → AskForNothing words
no_answer words first none (Replay options) asks = unlike words (codes "answer") (codes "replay") refl first asks.first
no_answer words first none (World options) asks = unlike words (codes "answer") (codes "world") refl first asks.first
no_answer words first none (Answer options) asks = none options asks
no_answer words first none (Serve options) asks = unlike words (codes "answer") (codes "serve") refl first asks.first
no_answer words first none (Cluster options) asks =
    unlike words (codes "answer") (codes "cluster") refl first asks.first
no_answer words first none (Send options) asks = unlike words (codes "answer") (codes "send") refl first asks.first
no_answer words first none (Status options) asks = unlike words (codes "answer") (codes "status") refl first asks.first
no_answer words first none (Page options) asks = unlike words (codes "answer") (codes "page") refl first asks.first
no_answer words first none (Log options) asks = unlike words (codes "answer") (codes "log") refl first asks.first
no_answer words first none Version asks = unlike_version words (codes "answer") refl refl first asks

pub no_serve : (words : List Text) → slice_get words 0 ≡ Some (codes "serve") →
    ((options : ServeOptions) → AsksServe words options → ⊥) → AskForNothing words
no_serve words first none (Replay options) asks = unlike words (codes "serve") (codes "replay") refl first asks.first
no_serve words first none (World options) asks = unlike words (codes "serve") (codes "world") refl first asks.first
no_serve words first none (Answer options) asks = unlike words (codes "serve") (codes "answer") refl first asks.first
no_serve words first none (Serve options) asks = none options asks
no_serve words first none (Cluster options) asks = unlike words (codes "serve") (codes "cluster") refl first asks.first
no_serve words first none (Send options) asks = unlike words (codes "serve") (codes "send") refl first asks.first
no_serve words first none (Status options) asks = unlike words (codes "serve") (codes "status") refl first asks.first
no_serve words first none (Page options) asks = unlike words (codes "serve") (codes "page") refl first asks.first
no_serve words first none (Log options) asks = unlike words (codes "serve") (codes "log") refl first asks.first
no_serve words first none Version asks = unlike_version words (codes "serve") refl refl first asks

pub no_cluster : (words : List Text) → slice_get words 0 ≡ Some (codes "cluster") →
    ((options : ClusterOptions) → AsksCluster words options → ⊥) → AskForNothing words
no_cluster words first none (Replay options) asks =
    unlike words (codes "cluster") (codes "replay") refl first asks.first
no_cluster words first none (World options) asks = unlike words (codes "cluster") (codes "world") refl first asks.first
no_cluster words first none (Answer options) asks =
    unlike words (codes "cluster") (codes "answer") refl first asks.first
no_cluster words first none (Serve options) asks = unlike words (codes "cluster") (codes "serve") refl first asks.first
no_cluster words first none (Cluster options) asks = none options asks
no_cluster words first none (Send options) asks = unlike words (codes "cluster") (codes "send") refl first asks.first
no_cluster words first none (Status options) asks =
    unlike words (codes "cluster") (codes "status") refl first asks.first
no_cluster words first none (Page options) asks = unlike words (codes "cluster") (codes "page") refl first asks.first
no_cluster words first none (Log options) asks = unlike words (codes "cluster") (codes "log") refl first asks.first
no_cluster words first none Version asks = unlike_version words (codes "cluster") refl refl first asks

pub no_send : (words : List Text) → slice_get words 0 ≡ Some (codes "send") →
    ((options : SendOptions) → AsksSend words options → ⊥) → AskForNothing words
no_send words first none (Replay options) asks = unlike words (codes "send") (codes "replay") refl first asks.first
no_send words first none (World options) asks = unlike words (codes "send") (codes "world") refl first asks.first
no_send words first none (Answer options) asks = unlike words (codes "send") (codes "answer") refl first asks.first
no_send words first none (Serve options) asks = unlike words (codes "send") (codes "serve") refl first asks.first
no_send words first none (Cluster options) asks = unlike words (codes "send") (codes "cluster") refl first asks.first
no_send words first none (Send options) asks = none options asks
no_send words first none (Status options) asks = unlike words (codes "send") (codes "status") refl first asks.first
no_send words first none (Page options) asks = unlike words (codes "send") (codes "page") refl first asks.first
no_send words first none (Log options) asks = unlike words (codes "send") (codes "log") refl first asks.first
no_send words first none Version asks = unlike_version words (codes "send") refl refl first asks

pub no_status : (words : List Text) → slice_get words 0 ≡ Some (codes "status") →
    ((options : StatusOptions) → AsksStatus words options → ⊥) → AskForNothing words
no_status words first none (Replay options) asks = unlike words (codes "status") (codes "replay") refl first asks.first
no_status words first none (World options) asks = unlike words (codes "status") (codes "world") refl first asks.first
no_status words first none (Answer options) asks = unlike words (codes "status") (codes "answer") refl first asks.first
no_status words first none (Serve options) asks = unlike words (codes "status") (codes "serve") refl first asks.first
no_status words first none (Cluster options) asks =
    unlike words (codes "status") (codes "cluster") refl first asks.first
no_status words first none (Send options) asks = unlike words (codes "status") (codes "send") refl first asks.first
no_status words first none (Status options) asks = none options asks
no_status words first none (Page options) asks = unlike words (codes "status") (codes "page") refl first asks.first
no_status words first none (Log options) asks = unlike words (codes "status") (codes "log") refl first asks.first
no_status words first none Version asks = unlike_version words (codes "status") refl refl first asks

pub no_page : (words : List Text) → slice_get words 0 ≡ Some (codes "page") →
    ((options : PageOptions) → AsksPage words options → ⊥) → AskForNothing words
no_page words first none (Replay options) asks = unlike words (codes "page") (codes "replay") refl first asks.first
no_page words first none (World options) asks = unlike words (codes "page") (codes "world") refl first asks.first
no_page words first none (Answer options) asks = unlike words (codes "page") (codes "answer") refl first asks.first
no_page words first none (Serve options) asks = unlike words (codes "page") (codes "serve") refl first asks.first
no_page words first none (Cluster options) asks = unlike words (codes "page") (codes "cluster") refl first asks.first
no_page words first none (Send options) asks = unlike words (codes "page") (codes "send") refl first asks.first
no_page words first none (Status options) asks = unlike words (codes "page") (codes "status") refl first asks.first
no_page words first none (Page options) asks = none options asks
no_page words first none (Log options) asks = unlike words (codes "page") (codes "log") refl first asks.first
no_page words first none Version asks = unlike_version words (codes "page") refl refl first asks

pub no_log : (words : List Text) → slice_get words 0 ≡ Some (codes "log") →
    ((options : LogOptions) → AsksLog words options → ⊥) → AskForNothing words
no_log words first none (Replay options) asks = unlike words (codes "log") (codes "replay") refl first asks.first
no_log words first none (World options) asks = unlike words (codes "log") (codes "world") refl first asks.first
no_log words first none (Answer options) asks = unlike words (codes "log") (codes "answer") refl first asks.first
no_log words first none (Serve options) asks = unlike words (codes "log") (codes "serve") refl first asks.first
no_log words first none (Cluster options) asks = unlike words (codes "log") (codes "cluster") refl first asks.first
no_log words first none (Send options) asks = unlike words (codes "log") (codes "send") refl first asks.first
no_log words first none (Status options) asks = unlike words (codes "log") (codes "status") refl first asks.first
no_log words first none (Page options) asks = unlike words (codes "log") (codes "page") refl first asks.first
no_log words first none (Log options) asks = none options asks
no_log words first none Version asks = unlike_version words (codes "log") refl refl first asks

-- a first word that is another one
pub other_word : (words : List Text) (one other : Text) → slice_get words 0 ≡ Some one → false ≡ bytes_eq one other →
    slice_get words 0 ≡ Some other → ⊥
other_word words one other first differ second =
    let same = same_Some one other (sym first ∙ second) in
    false≢true (differ ∙ (bytes_eq-Decides one other).1 same)

pub no_version : (words : List Text) → (slice_get words 0 ≡ Some (codes "--version") → ⊥) →
    (slice_get words 0 ≡ Some (codes "-V") → ⊥) → AsksVersion words → ⊥
no_version words long short (inl asked) = long asked
no_version words long short (inr asked) = short asked

pub no_command : (words : List Text) →
    (slice_get words 0 ≡ Some (codes "replay") → ⊥) →
    (slice_get words 0 ≡ Some (codes "world") → ⊥) →
    (slice_get words 0 ≡ Some (codes "answer") → ⊥) →
    (slice_get words 0 ≡ Some (codes "serve") → ⊥) →
    (slice_get words 0 ≡ Some (codes "cluster") → ⊥) →
    (slice_get words 0 ≡ Some (codes "send") → ⊥) →
    (slice_get words 0 ≡ Some (codes "status") → ⊥) →
    (slice_get words 0 ≡ Some (codes "page") → ⊥) →
    (slice_get words 0 ≡ Some (codes "log") → ⊥) →
    (AsksVersion words → ⊥) →
    AskForNothing words
no_command words replay world answer serve cluster send status page log other (Replay options) asks = replay asks.first
no_command words replay world answer serve cluster send status page log other (World options) asks = world asks.first
no_command words replay world answer serve cluster send status page log other (Answer options) asks = answer asks.first
no_command words replay world answer serve cluster send status page log other (Serve options) asks = serve asks.first
no_command words replay world answer serve cluster send status page log other (Cluster options) asks =
    cluster asks.first
no_command words replay world answer serve cluster send status page log other (Send options) asks = send asks.first
no_command words replay world answer serve cluster send status page log other (Status options) asks = status asks.first
no_command words replay world answer serve cluster send status page log other (Page options) asks = page asks.first
no_command words replay world answer serve cluster send status page log other (Log options) asks = log asks.first
no_command words replay world answer serve cluster send status page log other Version asks = other asks

-- There is no word.
pub no_word : (words : List Text) → slice_get words 0 ≡ None → AskForNothing words
no_word words none =
    let never = λ (other : Text) (is : slice_get words 0 ≡ Some other). none-some other (sym none ∙ is) in
    no_command words (never (codes "replay")) (never (codes "world")) (never (codes "answer")) (never (codes "serve"))
    (never (codes "cluster")) (never (codes "send")) (never (codes "status"))
    (never (codes "page")) (never (codes "log")) (no_version words (never (codes "--version")) (never (codes "-V")))

pub first-map : {A B : Type 0} (f : A → B) (xs : List A) → slice_get (map f xs) 0 ≡ option_map f (slice_get xs 0)
first-map f [] = refl
first-map f (x ∷ xs) = refl

-- the nodes and the domain among what was found

pub nodes_in : (rows : List Row) (text : List ℕ) (nodes : ℕ) → first_of (codes "nodes") rows ≡ Some text →
    SpellsNodes text nodes → FindsNodes rows nodes
nodes_in rows text nodes given spelled = record { text = text; given = given; spelled = spelled }

pub no_nodes_in : (rows : List Row) (text : List ℕ) → first_of (codes "nodes") rows ≡ Some text →
    ((nodes : ℕ) → SpellsNodes text nodes → ⊥) → (nodes : ℕ) → FindsNodes rows nodes → ⊥
no_nodes_in rows text given none nodes finds =
    none nodes (subst (λ t. SpellsNodes t nodes) (same_Some _ _ (sym finds.given ∙ given)) finds.spelled)

pub no_nodes : (rows : List Row) → first_of (codes "nodes") rows ≡ None → (nodes : ℕ) → FindsNodes rows nodes → ⊥
no_nodes rows given nodes finds = none-some finds.text (sym given ∙ finds.given)

pub no_domain_in : (rows : List Row) (text : List ℕ) → first_of (codes "domain") rows ≡ Some text →
    (IsDomain text → ⊥) → (domain : List ℕ) → FindsDomain rows domain → ⊥
no_domain_in rows text given bad domain finds =
    bad (subst IsDomain (same_Some _ _ (sym finds.given ∙ given)) finds.valid)

pub no_domain : (rows : List Row) → first_of (codes "domain") rows ≡ None → (domain : List ℕ) →
    FindsDomain rows domain → ⊥
no_domain rows given domain finds = none-some finds.text (sym given ∙ finds.given)

-- the node and the file among what was found

pub node_in : (rows : List Row) (text : List ℕ) (nodes node : ℕ) → first_of (codes "node") rows ≡ Some text →
    SpellsNode text nodes node → FindsNode rows nodes node
node_in rows text nodes node given spelled = record { text = text; given = given; spelled = spelled }

pub no_node_in : (rows : List Row) (text : List ℕ) (nodes : ℕ) → first_of (codes "node") rows ≡ Some text →
    ((node : ℕ) → SpellsNode text nodes node → ⊥) → (node : ℕ) → FindsNode rows nodes node → ⊥
no_node_in rows text nodes given none node finds =
    none node (subst (λ t. SpellsNode t nodes node) (same_Some _ _ (sym finds.given ∙ given)) finds.spelled)

pub no_node : (rows : List Row) (nodes : ℕ) → first_of (codes "node") rows ≡ None → (node : ℕ) →
    FindsNode rows nodes node → ⊥
no_node rows nodes given node finds = none-some finds.text (sym given ∙ finds.given)

abbrev magnitude : ℤ → ℕ
magnitude (pos n) = n
magnitude (negsuc n) = n

same_nodes : (rows : List Row) (a b : ℕ) → FindsNodes rows a → FindsNodes rows b → a ≡ b
same_nodes rows a b x y = ap magnitude (sym x.spelled.value
    ∙ ap (signed_digits_value 10) (same_Some _ _ (sym x.given ∙ y.given)) ∙ y.spelled.value)

-- no node among so many, where the number of nodes is the one that was found
no_node_among : (rows : List Row) (found : ℕ) → FindsNodes rows found →
    ((node : ℕ) → FindsNode rows found node → ⊥) →
    (nodes node : ℕ) → FindsNodes rows nodes → FindsNode rows nodes node → ⊥
no_node_among rows found is none nodes node finds_nodes finds =
    none node (subst (λ n. FindsNode rows n node) (same_nodes rows nodes found finds_nodes is) finds)

-- no owner, where there is not each of its parts

pub no_owner_nodes : (rows : List Row) → ((nodes : ℕ) → FindsNodes rows nodes → ⊥) → (owner : Owner) →
    FindsOwner rows owner → ⊥
no_owner_nodes rows none owner finds = none owner.n finds.nodes

pub no_owner_node : (rows : List Row) (found : ℕ) → FindsNodes rows found →
    ((node : ℕ) → FindsNode rows found node → ⊥) → (owner : Owner) → FindsOwner rows owner → ⊥
no_owner_node rows found is none owner finds = no_node_among rows found is none owner.n owner.id finds.nodes finds.node

pub no_owner_domain : (rows : List Row) → ((domain : List ℕ) → FindsDomain rows domain → ⊥) → (owner : Owner) →
    FindsOwner rows owner → ⊥
no_owner_domain rows none owner finds = none owner.domain finds.domain

pub no_file : (rows : List Row) → first_of (codes "file") rows ≡ None → (file : List ℕ) → FindsFile rows file → ⊥
no_file rows given file finds = none-some file (sym given ∙ finds)

-- the port among what was found

pub port_in : (rows : List Row) (text : List ℕ) (most port : ℕ) → first_of (codes "port") rows ≡ Some text →
    SpellsPort text most port → FindsPort rows most port
port_in rows text most port given spelled = record { text = text; given = given; spelled = spelled }

pub no_port_in : (rows : List Row) (text : List ℕ) (most : ℕ) → first_of (codes "port") rows ≡ Some text →
    ((port : ℕ) → SpellsPort text most port → ⊥) → (port : ℕ) → FindsPort rows most port → ⊥
no_port_in rows text most given none port finds =
    none port (subst (λ t. SpellsPort t most port) (same_Some _ _ (sym finds.given ∙ given)) finds.spelled)

pub no_port : (rows : List Row) (most : ℕ) → first_of (codes "port") rows ≡ None → (port : ℕ) →
    FindsPort rows most port → ⊥
no_port rows most given port finds = none-some finds.text (sym given ∙ finds.given)

-- the port for browsers among what was found

pub listen_in : (rows : List Row) (text : List ℕ) (port : ℕ) → first_of (codes "listen") rows ≡ Some text →
    SpellsPort text MOST_PORT port → FindsListen rows port
listen_in rows text port given spelled = record { text = text; given = given; spelled = spelled }

pub no_listen_in : (rows : List Row) (text : List ℕ) → first_of (codes "listen") rows ≡ Some text →
    ((port : ℕ) → SpellsPort text MOST_PORT port → ⊥) → (port : ℕ) → FindsListen rows port → ⊥
no_listen_in rows text given none port finds =
    none port (subst (λ t. SpellsPort t MOST_PORT port) (same_Some _ _ (sym finds.given ∙ given)) finds.spelled)

pub no_listen : (rows : List Row) → first_of (codes "listen") rows ≡ None → (port : ℕ) → FindsListen rows port → ⊥
no_listen rows given port finds = none-some finds.text (sym given ∙ finds.given)

-- the seconds and the group among what was found

pub seconds_in : (rows : List Row) (text : List ℕ) (seconds : ℕ) → first_of (codes "seconds") rows ≡ Some text →
    SpellsSeconds text seconds → FindsSeconds rows seconds
seconds_in rows text seconds given spelled = subst (λ t. AreSeconds t seconds) (sym given) spelled

pub no_seconds_in : (rows : List Row) (text : List ℕ) → first_of (codes "seconds") rows ≡ Some text →
    ((seconds : ℕ) → SpellsSeconds text seconds → ⊥) → (seconds : ℕ) → FindsSeconds rows seconds → ⊥
no_seconds_in rows text given none seconds finds = none seconds (subst (λ t. AreSeconds t seconds) given finds)

pub usual_seconds : (rows : List Row) → first_of (codes "seconds") rows ≡ None → FindsSeconds rows USUAL_SECONDS
usual_seconds rows given = subst (λ t. AreSeconds t USUAL_SECONDS) (sym given) refl

-- the place to begin with among what was found

pub from_in : (rows : List Row) (text : List ℕ) (place : ℕ) → first_of (codes "from") rows ≡ Some text →
    SpellsPlace text place → FindsFrom rows place
from_in rows text place given spelled = subst (λ t. IsFrom t place) (sym given) spelled

pub no_from_in : (rows : List Row) (text : List ℕ) → first_of (codes "from") rows ≡ Some text →
    ((place : ℕ) → SpellsPlace text place → ⊥) → (place : ℕ) → FindsFrom rows place → ⊥
no_from_in rows text given none place finds = none place (subst (λ t. IsFrom t place) given finds)

pub first_place : (rows : List Row) → first_of (codes "from") rows ≡ None → FindsFrom rows 1
first_place rows given = subst (λ t. IsFrom t 1) (sym given) refl

-- the places of an epoch among what was found

pub epoch_places_in : (rows : List Row) (text : List ℕ) (places : ℕ) →
    first_of (codes "epoch-places") rows ≡ Some text → SpellsUpTo text LOG_ENTRIES places →
    FindsEpochPlaces rows places
epoch_places_in rows text places given spelled = subst (λ t. AreEpochPlaces t places) (sym given) spelled

pub no_epoch_places_in : (rows : List Row) (text : List ℕ) → first_of (codes "epoch-places") rows ≡ Some text →
    ((places : ℕ) → SpellsUpTo text LOG_ENTRIES places → ⊥) → (places : ℕ) → FindsEpochPlaces rows places → ⊥
no_epoch_places_in rows text given none places finds = none places (subst (λ t. AreEpochPlaces t places) given finds)

pub most_epoch_places : (rows : List Row) → first_of (codes "epoch-places") rows ≡ None →
    FindsEpochPlaces rows LOG_ENTRIES
most_epoch_places rows given = subst (λ t. AreEpochPlaces t LOG_ENTRIES) (sym given) refl

-- the token among what was found

pub member_in : (rows : List Row) (text : List ℕ) (token : ℕ) → first_of (codes "member") rows ≡ Some text →
    SpellsUpTo text LAST_TOKEN token → FindsMember rows (Some token)
member_in rows text token given spelled = subst (λ t. IsMember t (Some token)) (sym given) spelled

pub no_member_in : (rows : List Row) (text : List ℕ) → first_of (codes "member") rows ≡ Some text →
    ((token : ℕ) → SpellsUpTo text LAST_TOKEN token → ⊥) → (token : Option ℕ) → FindsMember rows token → ⊥
no_member_in rows text given none None finds = subst (λ t. IsMember t None) given finds
no_member_in rows text given none (Some token) finds =
    none token (subst (λ t. IsMember t (Some token)) given finds)

pub no_token : (rows : List Row) → first_of (codes "member") rows ≡ None → FindsMember rows None
no_token rows given = subst (λ t. IsMember t None) (sym given) refl

pub some_seconds : (rows : List Row) (text : List ℕ) → first_of (codes "seconds") rows ≡ Some text →
    first_of (codes "seconds") rows ≡ None → ⊥
some_seconds rows text given none = none-some text (sym none ∙ given)

pub group_alone : (rows : List Row) (group : Option FollowOptions) → first_of (codes "nodes") rows ≡ None →
    (group ≡ None) × (first_of (codes "seconds") rows ≡ None) → FindsGroup rows group
group_alone rows group given none = subst (FindsGroup rows) (sym none.0) (given, none.1)

pub no_group_alone : (rows : List Row) → first_of (codes "nodes") rows ≡ None →
    (first_of (codes "seconds") rows ≡ None → ⊥) → (group : Option FollowOptions) → FindsGroup rows group → ⊥
no_group_alone rows given some None finds = some finds.1
no_group_alone rows given some (Some group) finds = no_nodes rows given group.nodes finds.0

pub group_in : (rows : List Row) (group : Option FollowOptions) → IsFollowed rows group → FindsGroup rows group
group_in rows None followed = absurd followed
group_in rows (Some group) followed = followed

pub no_group_in : (rows : List Row) (text : List ℕ) → first_of (codes "nodes") rows ≡ Some text →
    ((group : FollowOptions) → AreFollowOptions rows group → ⊥) → (group : Option FollowOptions) →
    FindsGroup rows group → ⊥
no_group_in rows text given none None finds = none-some text (sym finds.0 ∙ given)
no_group_in rows text given none (Some group) finds = none group finds

pub no_followed_nodes : (rows : List Row) → ((nodes : ℕ) → FindsNodes rows nodes → ⊥) → (group : FollowOptions) →
    AreFollowOptions rows group → ⊥
no_followed_nodes rows none group follows = none group.nodes follows.0

pub no_followed_seconds : (rows : List Row) → ((seconds : ℕ) → FindsSeconds rows seconds → ⊥) →
    (group : FollowOptions) → AreFollowOptions rows group → ⊥
no_followed_seconds rows none group follows = none group.seconds follows.1

same_most : (rows : List Row) (a b : Option FollowOptions) → FindsGroup rows a → FindsGroup rows b →
    most_port a ≡ most_port b
same_most rows None None x y = refl
same_most rows None (Some b) x y = absurd (no_nodes rows x.0 b.nodes y.0)
same_most rows (Some a) None x y = absurd (no_nodes rows y.0 a.nodes x.0)
same_most rows (Some a) (Some b) x y = refl

-- no port among those of the group that was found
pub no_group_port : (rows matches : List Row) (most : ℕ) (found : Option FollowOptions) → rows ≡ matches →
    FindsGroup rows found → most ≡ most_port found → ((port : ℕ) → FindsPort rows most port → ⊥) →
    (options : SendOptions) → FindsGroup matches options.group →
    FindsPort matches (most_port options.group) options.port → ⊥
no_group_port rows matches most found same is most_is none options group port =
    let group' = subst (λ r. FindsGroup r options.group) (sym same) group in
    let port' = subst (λ r. FindsPort r (most_port options.group) options.port) (sym same) port in
    none options.port (subst (λ m. FindsPort rows m options.port)
    (same_most rows options.group found group' is ∙ sym most_is) port')
