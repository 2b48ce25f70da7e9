use Rattle.std.proofs.Common.{◌≡◌, ◌<◌, ◌≤◌, ◌+◌, true, rules, arith}
use Rattle.desk_epoch_node.specs.Does.{node_in_view}
use Rattle.desk_epoch_node.specs.EpochValue.{EpochValue, has_next}
use Rattle.desk_epoch_node.specs.Replacements.{standing_after}
use Rattle.desk_epoch_node.proofs.Beginnings.{kept_next}
use Rattle.desk_epoch_node.proofs.epoch_node.EpochNode.begin.Goals as goal

pub invariant_of-self : goal.invariant_of-self
invariant_of-self c =
    let e = c.self.inside in
    let old : EpochValue = record {
      epoch = e.epoch;
      past = e.past;
      most = e.most;
      token = e.token;
      node = e.node;
    } in
    let member = c.member-member.result in
    let domain = c.domain.result.now in
    let more : e.past.length < c.args.past.length = search (rules, arith) in
    let within : c.args.past.length ≤ e.past.length + e.most = search (rules, arith) in
    let next : has_next old ≡ true = search rules in
    let is : c.replace-node.new.dest ≡ node_in_view domain member.id member.n c.match-standing.view = search rules in
    let n_is : member.n ≡ e.node.n = search rules in
    let stands : c.standing_after-standing.result ≡ standing_after c.args.past.replacements member.id e.token =
    search rules in
    kept_next domain old e.cut c.first_cut-self-inside.result e.standing c.standing_after-standing.result c.args.past
    c.replace-node.new.dest member.id member.n c.match-standing.view c.self.invariant more within next
    c.first_cut-self-inside.ensures is n_is stands
