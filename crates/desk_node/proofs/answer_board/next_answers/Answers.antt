use Rattle.std.proofs.Common.{ℕ, List, arith, subst}
use Rattle.desk_board.specs.PrefixBoard.{IsPrefixBoard}
use Rattle.desk_node.proofs.NextAnswers.{answers_one_more}
use Rattle.desk_node.proofs.answer_board.next_answers.Goals as goal

pub loop-done-preserved : goal.loop-done-preserved
loop-done-preserved c =
    let so_far = c.loop-done.invariant in
    let next = c.in_ok-next_answer.ensures in
    record {
      prefix = subst (λ (domain : List ℕ). IsPrefixBoard domain c.next_answer.new.board c.args.log.now)
          so_far.prefix.domain_is next.prefix;
      count = omega (arith, next.count, so_far.count);
      so_far = answers_one_more _ _ _ _ _ _ _ _ _ so_far.prefix.domain_is so_far.count so_far.so_far next.answer
          c.in_ok-push.ensures.items;
    }
