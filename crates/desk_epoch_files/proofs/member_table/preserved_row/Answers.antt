use Rattle.std.proofs.Common.{inr, subst}
use Rattle.std.specs.Prelude.{MatchOption}
use Rattle.sqlite.specs.Held.{state}
use Rattle.desk_naming.specs.Named.{NamesNobody, NamesOwner}
use Rattle.desk_epoch_files.specs.Members.{HasNoMemberTable, ShowsMember}
use Rattle.desk_epoch_files.proofs.member_table.preserved_row.Goals as goal

pub returns-in-Ok-Some-named_owner-clause-found : goal.returns-in-Ok-Some-named_owner-clause-found
returns-in-Ok-Some-named_owner-clause-found g c clean =
    let found = c.args.connection.now in
    let asked = c.table_row.new.connection in
    let owner = c.in-Ok-Some-named_owner in
    inr (
      c.by_default.ensures,
      (
        asked,
        subst (λ f. MatchOption f (HasNoMemberTable g.S.Store found asked) (ShowsMember g.S.Store found asked))
            c.in-Ok-None.field-0-is (c.in-Ok-None.ensures.found (c.named_owner.ensures.keeps.0 clean)),
        owner.field-0-0,
        subst (λ f. MatchOption f (NamesNobody (state g.S.Store asked).now)
            (λ o. NamesOwner (state g.S.Store asked).now o)) owner.field-0-is (owner.ensures.found clean),
      ),
    )

pub returns-in-Ok-None-named_owner-clause-found : goal.returns-in-Ok-None-named_owner-clause-found
returns-in-Ok-None-named_owner-clause-found g c clean =
    let found = c.args.connection.now in
    let asked = c.table_row.new.connection in
    let nobody = c.in-Ok-None-named_owner in (
      asked,
      subst (λ f. MatchOption f (HasNoMemberTable g.S.Store found asked) (ShowsMember g.S.Store found asked))
          c.in-Ok-None.field-0-is (c.in-Ok-None.ensures.found (c.named_owner.ensures.keeps.0 clean)),
      subst (λ f. MatchOption f (NamesNobody (state g.S.Store asked).now)
          (λ o. NamesOwner (state g.S.Store asked).now o)) nobody.field-0-is (nobody.ensures.found clean),
    )
