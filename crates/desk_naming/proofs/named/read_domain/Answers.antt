use Rattle.desk_naming.proofs.DomainText.{domain_utf8}
use Rattle.desk_naming.proofs.named.read_domain.Goals as goal

pub returns-in_default : goal.returns-in_default
returns-in_default c low domain lower is =
    (rw c.in_default.is at c.in_ok-text.ensures) low (domain, is, domain_utf8 domain lower)
