use Rattle.std.proofs.Common.{◌≡◌, List, IfOk, subst, FitsSigned, rules}
use Rattle.std.specs.Int.{w64}
use Rattle.std.proofs.lemmas.Int.{to_z-of_z}
use Rattle.json.specs.Token.{Token}
use Rattle.desk_eido.proofs.Written.{listed_is}
use Rattle.desk_eido.proofs.listed.ListedIncidentRow.with_members.Goals as goal

pub returns : goal.returns
returns c =
    let range : FitsSigned w64 c.args.self.now.incident.opened = search rules in
    subst (λ (ts : List Token). IfOk c.with_last_values.result (λ w. w ≡ ts)) (listed_is c.args.self.now c.args.row)
    (rw (
      c.as_slice.ensures,
      c.in_ok-row-2.ensures,
      to_z-of_z w64 c.args.self.now.incident.opened range,
      c.in_ok-row.ensures,
      c.in_ok-with_first_values.ensures,
    ) at c.with_last_values.ensures)
