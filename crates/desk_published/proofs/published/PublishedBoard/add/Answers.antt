use Rattle.std.proofs.Common.{◌≡◌, ◌∷◌, ◌++◌, [], ap, ◌∙◌}
use Rattle.desk_published.specs.Requests.{request_id}
use Rattle.desk_published.proofs.Executed.{one_more, request_more}
use Rattle.desk_published.proofs.published.PublishedBoard.add.Goals as goal

pub invariant_of-self-2 : goal.invariant_of-self-2
invariant_of-self-2 g c =
    let old = c.self.inside in
    let entry = c.args.entry.now in
    let all : c.copy.result ≡ old.history ++ entry ∷ [] = c.copy.ensures ∙ c.if-not-is_other_and.ensures in
    let board = one_more old.board c.execute.new.board g.B.BoardName.domain old.history entry c.len-place.result
    c.self.invariant.0 c.len-place.ensures c.if-not-execute.ensures in
    let pushed = c.push_reserved.ensures.items
    ∙ ap (λ r. c.reserve.new.self.items ++ r ∷ []) c.request_id.ensures
    ∙ ap (λ w. w ++ request_id entry ∷ []) c.reserve.ensures.items in
    rw all (
      board,
      request_more old.history old.requests.items c.push_reserved.new.self.items entry
          c.self.invariant.1 pushed,
    )
