use Rattle.std.proofs.Common.{rules, ◌≡◌, ◌∙◌, ◌∷◌, [], pos, refl}
use Rattle.sqlite_value.specs.Order.{column}
use Rattle.sqlite_value.specs.declared.value.Value.TheVariants.{Int, Text}
use Rattle.desk_naming.proofs.EightColumns.{of_eight}
use Rattle.desk_naming.proofs.named.owner_in.Goals as goal

pub returns : goal.returns
returns c width =
    let row = c.args.row.now in
    let e0 : column row 0 ≡ Int (pos 1) = search rules in
    let e1 : column row 1 ≡ Int (pos c.in-Some-2.version) = search rules in
    let e2 : column row 2 ≡ Int (pos c.in-Some-3.id) = search rules in
    let e3 : column row 3 ≡ Int (pos c.in-Some-4.n) = search rules in
    let e4 : column row 4 ≡ Text c.in-Some-5.domain = search rules in
    (column row 5 ∷ column row 6 ∷ column row 7 ∷ [], of_eight row width ∙ rw (e0, e1, e2, e3, e4) refl)
