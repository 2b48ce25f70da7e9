use Rattle.std.proofs.Common.{◌∙◌}
use Rattle.desk_file.proofs.answering.answer_opened.Goals as goal

pub returns-clause-answers : goal.returns-clause-answers
returns-clause-answers g c = record {
  answered = c.answer_database-connection.result.connection;
  ok = rw c.over.ensures.outcome c.answer_database-connection.ensures.ok;
  err = rw c.over.ensures.outcome c.answer_database-connection.ensures.err;
  same = λ other. c.over.ensures.same (λ is. other (c.over.ensures.outcome ∙ is));
  read = c.over.ensures.read;
}
