use Rattle.std.proofs.Common.{arith}
use Rattle.desk_naming.proofs.NodeAt.{none_compares, differs_compares, compares_both, compares_neither}
use Rattle.desk_naming.proofs.check.compares_slot.Goals as goal

pub returns-in_default : goal.returns-in_default
returns-in_default c =
    let look = rw c.in_default.is at c.get.ensures.lookup in
    differs_compares c.args.nodes.now c.args.at c.in_default.field-0.now look.3 (λ slot one e. grind arith)

pub returns-then-is_slot : goal.returns-then-is_slot
returns-then-is_slot c =
    let arm = c.in-Some-Binary-Compare-Eq-Binary-default-default in
    let look =
    rw (arm.is, arm.field-0-is, arm.field-0-0-is, arm.field-0-0-0-is, arm.field-0-0-1-is) at c.get.ensures.lookup in
    compares_both c.args.nodes.now c.args.at arm.a arm.b c.is_slot.result c.is_one.result look.3
    c.is_slot.ensures c.if-is_slot.true c.is_one.ensures

pub returns-else-is_slot : goal.returns-else-is_slot
returns-else-is_slot c =
    let arm = c.in-Some-Binary-Compare-Eq-Binary-default-default in
    let look =
    rw (arm.is, arm.field-0-is, arm.field-0-0-is, arm.field-0-0-0-is, arm.field-0-0-1-is) at c.get.ensures.lookup in
    compares_neither c.args.nodes.now c.args.at arm.a arm.b c.is_slot.result look.3
    c.is_slot.ensures c.if-is_slot.false

pub returns-in_default-2 : goal.returns-in_default-2
returns-in_default-2 c =
    let look = rw c.in_default.is at c.get.ensures.lookup in
    differs_compares c.args.nodes.now c.args.at c.in_default.field-0.now look.3 (λ slot one e. grind arith)

pub returns-in_default-3 : goal.returns-in_default-3
returns-in_default-3 c =
    let look = rw c.in_default.is at c.get.ensures.lookup in
    differs_compares c.args.nodes.now c.args.at c.in_default.field-0.now look.3 (λ slot one e. grind arith)

pub returns-in_default-4 : goal.returns-in_default-4
returns-in_default-4 c =
    let look = rw c.in_default.is at c.get.ensures.lookup in
    differs_compares c.args.nodes.now c.args.at c.in_default.field-0.now look.3 (λ slot one e. grind arith)

pub returns-in_default-5 : goal.returns-in_default-5
returns-in_default-5 c =
    let look = rw c.in_default.is at c.get.ensures.lookup in
    none_compares c.args.nodes.now c.args.at look.3
