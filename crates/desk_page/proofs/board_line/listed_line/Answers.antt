use Rattle.std.proofs.Common.{◌∙◌, sym, ap, subst}
use Rattle.desk_page.specs.Reported.{place_listed}
use Rattle.desk_page.specs.Boards.{IsListed}
use Rattle.desk_page.proofs.board_line.listed_line.Goals as goal

pub invariant_of-result : goal.invariant_of-result
invariant_of-result g c = record {
  reported = ap place_listed (c.in-Ok.ensures.ok ∙ sym c.as_slice.ensures.value) ∙ sym c.in-Some.ensures;
  given = ∣ subst (IsListed g.D.Handler.answers) (sym c.in-Ok.ensures.ok) c.requires ∣₁;
}
