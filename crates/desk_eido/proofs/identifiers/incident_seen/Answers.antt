use Rattle.std.proofs.Common.{refl}
use Rattle.desk_types.specs.declared.parts.IdKind.TheVariants.{Incident}
use Rattle.desk_eido.specs.Members.{id_seen}
use Rattle.desk_eido.proofs.Spellings.{id_found, id_refused}
use Rattle.desk_eido.proofs.identifiers.incident_seen.Goals as goal

pub returns-in-Ok : goal.returns-in-Ok
unfolding id_seen
returns-in-Ok c = rw (c.in_ok-text_seen.ensures, id_found Incident _ _ c.in-Ok.ensures.found) refl

pub returns-in-Err-BadIdentifier : goal.returns-in-Err-BadIdentifier
unfolding id_seen
returns-in-Err-BadIdentifier c =
    λ k. rw (
      c.in_ok-text_seen.ensures,
      id_refused Incident _ _ _ _ c.in-Err-BadIdentifier.field-0-is
          c.in-Err-BadIdentifier.ensures.refused,
    ) refl
