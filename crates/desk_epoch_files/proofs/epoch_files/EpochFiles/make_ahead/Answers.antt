use Rattle.std.proofs.Common.{◌≡◌, rules, string_bytes, subst}
use Rattle.desk_file.specs.Names.{name_in_epoch}
use Rattle.desk_epoch_files.specs.Causes.{BlamesFile}
use Rattle.desk_epoch_files.proofs.epoch_files.EpochFiles.make_ahead.Goals as goal

pub returns-in-Ok-clause-made : goal.returns-in-Ok-clause-made
returns-in-Ok-clause-made g c =
    let made = c.in-Ok.ensures.made in
    let file : c.as_str-file.result.now ≡ string_bytes c.args.self.now.file = search rules in (
      made.0,
      subst (λ at. g.D.NamedDatabases.may_open c.args.self.now.databases (name_in_epoch at c.args.epoch) made.0) file
          made.1,
      made.2,
    )

pub returns-in-Err-clause-other : goal.returns-in-Err-clause-other
returns-in-Err-clause-other g c blames =
    let named = subst (λ error. BlamesFile error.cause) c.new.ensures blames in
    let other = c.in-Err.ensures.other named in
    let file : c.as_str-file.result.now ≡ string_bytes c.args.self.now.file = search rules in (
      other.0,
      subst (λ at. g.D.NamedDatabases.may_open c.args.self.now.databases (name_in_epoch at c.args.epoch) other.0) file
          other.1,
      other.2,
    )
