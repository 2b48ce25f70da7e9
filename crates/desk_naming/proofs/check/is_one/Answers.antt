use Rattle.std.proofs.Common.{arith, pos}
use Rattle.sqlite_value.specs.declared.value.Value.TheVariants.{Int}
use Rattle.sqlite_schema.specs.declared.code.Op.TheVariants.{Literal}
use Rattle.desk_naming.proofs.NodeAt.{none_at, differs_at}
use Rattle.desk_naming.proofs.check.is_one.Goals as goal

pub returns-in_default : goal.returns-in_default
returns-in_default c =
    let look = rw c.in_default.is at c.get.ensures.lookup in
    differs_at c.args.nodes.now c.args.at c.in_default.field-0.now (Literal (Int (pos 1))) look.3 (λ e. grind arith)

pub returns-in_default-2 : goal.returns-in_default-2
returns-in_default-2 c =
    let look = rw c.in_default.is at c.get.ensures.lookup in
    differs_at c.args.nodes.now c.args.at c.in_default.field-0.now (Literal (Int (pos 1))) look.3 (λ e. grind arith)

pub returns-in_default-3 : goal.returns-in_default-3
returns-in_default-3 c =
    let look = rw c.in_default.is at c.get.ensures.lookup in
    none_at c.args.nodes.now c.args.at (Literal (Int (pos 1))) look.3
