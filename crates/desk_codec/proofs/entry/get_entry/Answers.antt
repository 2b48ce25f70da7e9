use Rattle.std.proofs.Common.{refl, inr, subst}
use Rattle.desk_codec.specs.Entries.{FrontEntry}
use Rattle.desk_codec.proofs.Entries.{front_none}
use Rattle.desk_codec.proofs.entry.get_entry.Goals as goal

pub returns-in-Ok-Err-clause-refused : goal.returns-in-Ok-Err-clause-refused
returns-in-Ok-Err-clause-refused c = inr (
  refl,
  front_none c.args.bytes.now c.in-Ok-Err.field-0-0
      (subst (FrontEntry 2 c.args.bytes.now) c.in-Ok-Err.field-0-is c.in-Ok-Err.ensures),
)
