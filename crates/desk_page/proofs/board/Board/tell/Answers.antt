use Rattle.std.proofs.Common.{◌∙◌, ℕ, List, true, false, ap}
use Rattle.desk_page.specs.Boards.{last_of, rises}
use Rattle.desk_page.proofs.Rising.{below, last_of-push, next_is, rises-push}
use Rattle.desk_page.proofs.board.Board.tell.Goals as goal

pub invariant_of-drop : goal.invariant_of-drop
invariant_of-drop g c =
    let self = c.args.self.now in
    let reported = self.reported.items in
    let next : ℕ × List ℕ = (c.args.line.place, c.args.line.text) in
    record {
      rises = ap rises c.and-reported.ensures
          ∙ rises-push reported next self.rises
          (below _ _ reported self.latest c.args.line.place c.place.result self.last c.place.ensures.latest
          c.if-not-is_above.ensures);
      last = ap last_of c.and-reported.ensures ∙ last_of-push reported next;
    }

pub returns-then-not-is_above-clause-next : goal.returns-then-not-is_above-clause-next
returns-then-not-is_above-clause-next g c =
    let self = c.args.self.now in
    next_is _ _ self.reported.items self.latest c.args.line.place c.place.result false self.last c.place.ensures.latest
    c.if-not-is_above.ensures

pub returns-clause-next : goal.returns-clause-next
returns-clause-next g c =
    let self = c.args.self.now in
    next_is _ _ self.reported.items self.latest c.args.line.place c.place.result true self.last c.place.ensures.latest
    c.if-not-is_above.ensures
