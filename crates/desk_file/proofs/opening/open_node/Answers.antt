use Rattle.desk_file.proofs.opening.open_node.Goals as goal

pub returns-in-Err-clause-unopened : goal.returns-in-Err-clause-unopened
returns-in-Err-clause-unopened g c = record {
  refusal = c.in-Err.field-0.refusal;
  ends = c.over.ensures.outcome;
  left = c.in-Err.field-0.connection;
  unopened = c.in-Err.ensures.refused;
  same = λ other. c.over.ensures.same (λ is. other (let it = is in cc));
  read = c.over.ensures.read;
}
