use Rattle.std.proofs.Common.{rules, ◌≡◌, refl}
use Rattle.sqlite_value.specs.Order.{column}
use Rattle.sqlite_value.specs.declared.value.Value.TheVariants.{Text}
use Rattle.desk_naming.proofs.EightColumns.{eight_are, number_is}
use Rattle.desk_saved.proofs.rows.own_in.Goals as goal

pub returns : goal.returns
returns c width =
    let row = c.args.row.now in
    let e4 : column row 4 ≡ Text c.args.domain.now = search rules in
    eight_are row width (number_is _ _ _ _ _ c.in-Some.is c.in_ok-slot.ensures c.if-slot-ne1.false)
    (number_is _ _ _ _ _ c.in-Some-2.is c.in_ok-version.ensures c.if-version-wanted.false)
    (number_is _ _ _ _ _ c.in-Some-3.is c.in_ok-own_id.ensures c.if-own_id-id.false)
    (number_is _ _ _ _ _ c.in-Some-4.is c.in_ok-own_n.ensures c.if-own_n-n.false)
    e4
    (number_is _ _ _ _ _ c.in-Some-6.is c.in_ok-view.ensures refl)
    (number_is _ _ _ _ _ c.in-Some-7.is c.in_ok-normal.ensures refl)
    (number_is _ _ _ _ _ c.in-Some-8.is c.in_ok-commit.ensures refl)
