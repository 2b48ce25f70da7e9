use Rattle.std.proofs.Common.{arith}
use Rattle.sqlite_schema.specs.declared.code.Op.TheVariants.{Column}
use Rattle.desk_naming.proofs.NodeAt.{none_at, differs_at, column_there, column_elsewhere}
use Rattle.desk_naming.proofs.check.is_slot.Goals as goal

pub returns-in_default : goal.returns-in_default
returns-in_default c =
    let look = rw c.in_default.is at c.get.ensures.lookup in
    differs_at c.args.nodes.now c.args.at c.in_default.field-0.now (Column 1 0) look.3 (λ e. grind arith)

pub returns-in_default-2 : goal.returns-in_default-2
returns-in_default-2 c =
    let look = rw c.in_default.is at c.get.ensures.lookup in none_at c.args.nodes.now c.args.at (Column 1 0) look.3

pub returns-then-slot-eq1 : goal.returns-then-slot-eq1
returns-then-slot-eq1 c =
    let arm = c.in-Some-Column in
    let look = rw (arm.is, arm.field-0-is) at c.get.ensures.lookup in
    column_there c.args.nodes.now c.args.at arm.slot arm.place look.3 c.if-slot-eq1.true

pub returns-else-slot-eq1 : goal.returns-else-slot-eq1
returns-else-slot-eq1 c =
    let arm = c.in-Some-Column in
    let look = rw (arm.is, arm.field-0-is) at c.get.ensures.lookup in
    column_elsewhere c.args.nodes.now c.args.at arm.slot arm.place look.3 c.if-slot-eq1.false
