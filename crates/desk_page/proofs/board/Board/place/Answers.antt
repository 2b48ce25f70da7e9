use Rattle.desk_page.proofs.board.Board.place.Goals as goal

pub returns-in-Some-clause-listed : goal.returns-in-Some-clause-listed
returns-in-Some-clause-listed g c = (c.in-Some.line.text, c.in-Some.line.reported, c.in-Some.line.given)
