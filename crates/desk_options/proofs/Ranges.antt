-- The ranges of what words ask for.
use Rattle.std.proofs.Common.{◌≡◌, ◌≤◌, ℕ, List, Option, None, Some, codes, arith, subst, sym}
use Rattle.clap.specs.Simple.{matches_of}
use Rattle.clap.specs.Walk.{Row, first_of}
use Rattle.desk_options.specs.CommandLine.{AreEpochPlaces, AreSeconds, IsFrom, IsMember, AsksFor, FindsGroup}
use Rattle.desk_options.specs.CommandLine.{cluster_app, log_app, page_app, send_app, serve_app}
use Rattle.desk_options.specs.Host.{AreInRange, AsksHost, FitsEpoch, IsFollowInRange, IsMemberInRange, IsRunInRange}
use Rattle.desk_types.specs.declared.limits.TheConstants.{LAST_PLACE, LOG_ENTRIES}
use Rattle.desk_options.specs.declared.command_line.choice.FollowOptions.{FollowOptions}
use Rattle.desk_options.specs.declared.command_line.choice.Options.{Options}
use Rattle.desk_options.specs.declared.command_line.choice.Options.TheVariants as asked
use Rattle.desk_options.specs.declared.command_line.send.TheConstants.{MOST_SECONDS, USUAL_SECONDS}
use Rattle.desk_options.specs.declared.host.HostRun.{HostRun}
use Rattle.desk_options.specs.declared.host.HostRun.TheVariants.{Answer, Serve, Cluster, Send, Status, Page, Log}

seconds_range : (given : Option (List ℕ)) (seconds : ℕ) → AreSeconds given seconds →
    (1 ≤ seconds) × (seconds ≤ MOST_SECONDS)
seconds_range None seconds usual = let is : seconds ≡ USUAL_SECONDS = usual in (omega arith, omega arith)
seconds_range (Some text) seconds spelled = (spelled.least, spelled.most)

place_range : (given : Option (List ℕ)) (place : ℕ) → IsFrom given place → (1 ≤ place) × (place ≤ LAST_PLACE)
place_range None place first = let is : place ≡ 1 = first in (omega arith, omega arith)
place_range (Some text) place spelled = (spelled.least, spelled.most)

epoch_range : (given : Option (List ℕ)) (places : ℕ) → AreEpochPlaces given places → FitsEpoch places
epoch_range None places most = let is : places ≡ LOG_ENTRIES = most in (omega arith, omega arith)
epoch_range (Some text) places spelled = (spelled.least, spelled.most)

member_range : (given : Option (List ℕ)) (token : Option ℕ) → IsMember given token → IsMemberInRange token
member_range None token none = subst IsMemberInRange (sym none) tt
member_range (Some text) None spelled = absurd spelled
member_range (Some text) (Some token) spelled = (spelled.least, spelled.most)

followed_range : (rows : List Row) (group : Option FollowOptions) → FindsGroup rows group → IsFollowInRange group
followed_range rows None finds = tt
followed_range rows (Some group) finds =
    let range = seconds_range (first_of (codes "seconds") rows) group.seconds finds.1 in
    (finds.0.spelled.few, range.0, range.1)

-- a run that needs files or sockets
pub run_in_range : (words : List (List ℕ)) (run : HostRun) → AsksHost words run → IsRunInRange run
run_in_range words (Answer options) asks = (asks.finds_owner.nodes.spelled.few, asks.finds_owner.node.spelled.below)
run_in_range words (Serve options) asks = (
  asks.finds_owner.nodes.spelled.few,
  asks.finds_owner.node.spelled.below,
  asks.finds_port.spelled.range,
  epoch_range (first_of (codes "epoch-places") (matches_of serve_app words)) options.epoch_places
      asks.finds_epoch_places,
  member_range (first_of (codes "member") (matches_of serve_app words)) options.member asks.finds_member,
)
run_in_range words (Cluster options) asks = (
  asks.finds_nodes.spelled.few,
  asks.finds_port.spelled.range,
  epoch_range (first_of (codes "epoch-places") (matches_of cluster_app words)) options.epoch_places
      asks.finds_epoch_places,
)
run_in_range words (Send options) asks =
    (asks.finds_port.spelled.range, followed_range (matches_of send_app words) options.group asks.finds_group)
run_in_range words (Status options) asks = (asks.finds_nodes.spelled.few, asks.finds_port.spelled.range)
run_in_range words (Page options) asks =
    let given = first_of (codes "seconds") (matches_of page_app words) in
    let range = seconds_range given options.seconds asks.finds_seconds in (
      asks.finds_nodes.spelled.few,
      asks.finds_port.spelled.range,
      asks.finds_listen.spelled.range,
      range.0,
      range.1,
    )
run_in_range words (Log options) asks =
    place_range (first_of (codes "from") (matches_of log_app words)) options.from asks.finds_from

-- all that words ask for
pub in_range : (words : List (List ℕ)) (options : Options) → AsksFor words options → AreInRange options
in_range words (asked.Replay options) asks = tt
in_range words (asked.World options) asks = asks.finds_nodes.spelled.few
in_range words (asked.Answer options) asks = run_in_range words (Answer options) asks
in_range words (asked.Serve options) asks = run_in_range words (Serve options) asks
in_range words (asked.Cluster options) asks = run_in_range words (Cluster options) asks
in_range words (asked.Send options) asks = run_in_range words (Send options) asks
in_range words (asked.Status options) asks = run_in_range words (Status options) asks
in_range words (asked.Page options) asks = run_in_range words (Page options) asks
in_range words (asked.Log options) asks = run_in_range words (Log options) asks
in_range words asked.Version asks = tt
