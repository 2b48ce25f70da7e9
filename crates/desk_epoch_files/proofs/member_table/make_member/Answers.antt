use Rattle.std.proofs.Common.{rules, ◌≡◌, IfOk, subst}
use Rattle.std.specs.Prelude.{MatchOption}
use Rattle.desk_epoch_files.specs.Members.{HasNoMemberTable, ShowsMember}
use Rattle.desk_epoch_files.proofs.Members.{equal_rows}
use Rattle.desk_epoch_files.proofs.member_table.make_member.Goals as goal

pub returns-in-Ok-Some-clause-made : goal.returns-in-Ok-Some-clause-made
returns-in-Ok-Some-clause-made g c clean =
    let before = c.make_table.new.connection in
    let after = c.table_row.new.connection in
    let found = c.in-Ok-Some.found in
    let token : found.token ≡ c.args.row.now.token = search rules in
    let places : found.places ≡ c.args.row.now.places = search rules in
    let shown = subst (λ r. IfOk r (λ f. MatchOption f (HasNoMemberTable g.S.Store before after)
    (ShowsMember g.S.Store before after))) c.in-Ok-Some.is (c.table_row.ensures.found clean) in (
      before,
      subst (λ row. ShowsMember g.S.Store before after row) (equal_rows found c.args.row.now token places)
          (subst (λ f. MatchOption f (HasNoMemberTable g.S.Store before after) (ShowsMember g.S.Store before after))
          c.in-Ok-Some.field-0-is shown),
    )
