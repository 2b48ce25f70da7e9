use Rattle.std.proofs.Common.{rules, ◌≡◌, refl, subst}
use Rattle.desk_file.specs.Names.{name_in_epoch}
use Rattle.desk_epoch_files.proofs.epoch_files.open_file.Goals as goal

pub returns-in-Ok-open_state-clause-held : goal.returns-in-Ok-open_state-clause-held
returns-in-Ok-open_state-clause-held g c =
    let found = c.in-Ok-open.connection in
    let name : c.as_str-2.result.now ≡ name_in_epoch c.args.file.now c.args.epoch = search rules in (
      found,
      c.is_there.ensures.same _ found (subst (λ at. g.D.NamedDatabases.may_open c.is_there.new.self at found) name
          c.in-Ok-open.ensures.opened),
      c.in-Ok-open_state.store,
      c.in-Ok-open_state.ensures.opened,
      refl,
    )
