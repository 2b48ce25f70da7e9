use Rattle.std.proofs.Common.{◌≡◌, ◌≤◌, ◌+◌, List, length, sym, ap, subst, rules, arith}
use Rattle.desk_types.specs.declared.command.Entry.{Entry}
use Rattle.desk_types.specs.declared.limits.TheConstants.{LOG_ENTRIES}
use Rattle.desk_epoch_node.specs.Does.{whole_log}
use Rattle.desk_epoch_node.proofs.Rests.{IsTakenRest, rest_taken}
use Rattle.desk_epoch_node.proofs.epoch_node.EpochNode.begin_with_rest.Goals as goal

pub replace_after-requires-clause-prefix : goal.replace_after-requires-clause-prefix
replace_after-requires-clause-prefix c =
    let e = c.args.self.now in
    let r : IsTakenRest e c.args.base c.args.entries = rest_taken e c.args.base c.args.entries c.requires.rest in
    let same : c.in_ok-log.log ≡ e.node.saved.log = search rules in
    subst (λ (es : List Entry). c.args.base ≤ length es) (sym same) r.within

pub replace_after-requires-clause-room : goal.replace_after-requires-clause-room
replace_after-requires-clause-room c =
    let e = c.args.self.now in
    let r : IsTakenRest e c.args.base c.args.entries = rest_taken e c.args.base c.args.entries c.requires.rest in
    let items : c.into_vec.result.items ≡ c.args.entries = search rules in
    let most : e.most ≤ LOG_ENTRIES = search (rules, arith, c.self.invariant.place.most_within) in
    omega (arith, r.most, most, ap (λ (es : List Entry). length es) items)

pub begin-requires-clause-longer : goal.begin-requires-clause-longer
begin-requires-clause-longer c =
    let e = c.args.self.now in
    let r : IsTakenRest e c.args.base c.args.entries = rest_taken e c.args.base c.args.entries c.requires.rest in
    let some : 1 ≤ e.most = search (rules, arith, c.self.invariant.place.least) in
    let whole : c.entries.result.now ≡ whole_log e c.args.base c.args.entries = search rules in
    let long : c.in_ok-past.past.length ≡ e.past.length + length c.entries.result.now = search rules in
    omega (arith, long, ap (λ (es : List Entry). length es) whole, r.long, r.least some)
