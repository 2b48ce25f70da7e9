use Rattle.std.proofs.Common.{◌≡◌, rules, IfSome, Some, string_bytes, sym, subst}
use Rattle.desk_epoch_files.specs.Causes.{BlamesMember}
use Rattle.desk_epoch_files.specs.Members.{MayBeStartedOtherwise}
use Rattle.desk_epoch_files.proofs.epoch_files.EpochFiles.start_member.Goals as goal

pub returns-in-Ok-clause-starts : goal.returns-in-Ok-clause-starts
returns-in-Ok-clause-starts g c =
    let starts = c.in-Ok.ensures.starts in
    let file : c.as_str-file.result.now ≡ string_bytes c.args.self.now.file = search rules in (
      starts.0,
      subst (λ at. g.D.NamedDatabases.may_open c.args.self.now.databases at starts.0) file starts.1,
      starts.2,
    )

pub returns-in-Err-clause-other : goal.returns-in-Err-clause-other
returns-in-Err-clause-other g c =
    let old = c.args.self.now in
    let may_open = g.D.NamedDatabases.may_open old.databases in
    let file : c.as_str-file.result.now ≡ string_bytes old.file = search rules in
    let is : c.fail.new.self.error ≡ Some c.new.result = search rules in
    subst (λ e. IfSome e (λ error. BlamesMember error.cause →
    MayBeStartedOtherwise g.D.Pages.Store c.args.given old.most may_open (string_bytes old.file))) (sym is)
    (λ blames.
    let other = c.in-Err.ensures.other (subst (λ error. BlamesMember error.cause) c.new.ensures blames) in
    (other.0, subst (λ at. may_open at other.0) file other.1, other.2))
