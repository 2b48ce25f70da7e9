use Rattle.std.proofs.Common.{◌≡◌, true, subst}
use Rattle.desk_status.specs.Levels.{is_majority_level}
use Rattle.desk_sockets.proofs.status.show_status.Goals as goal

pub returns-in-Ok-clause-done : goal.returns-in-Ok-clause-done
returns-in-Ok-clause-done c = λ done. (
  c.in-Ok.answers.items,
  c.in-Ok.ensures,
  subst (λ answers. is_majority_level answers ≡ true) c.as_slice.ensures.value (c.status_of.ensures.done done),
)
