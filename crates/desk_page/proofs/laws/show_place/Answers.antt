use Rattle.desk_page.proofs.Listed.{show_place}
use Rattle.desk_page.proofs.laws.show_place.Goals as goal

pub returns : goal.returns
returns c = λ client at incidents units fits. show_place client at incidents units fits
