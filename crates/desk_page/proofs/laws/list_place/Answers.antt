use Rattle.desk_page.proofs.Listed.{list_place}
use Rattle.desk_page.proofs.laws.list_place.Goals as goal

pub returns : goal.returns
returns c = λ client at incidents next units fits. list_place client at incidents next units fits
