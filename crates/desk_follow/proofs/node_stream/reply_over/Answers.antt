use Rattle.desk_follow.proofs.node_stream.reply_over.Goals as goal

pub returns-in-Ok-clause-ok : goal.returns-in-Ok-clause-ok
returns-in-Ok-clause-ok g c = λ text h. record {
  rest = g.B.Read.remaining c.exchange_line.new.reader;
  asked = c.in-Ok.ensures.asked text h;
  reported = c.in-Ok.ensures.reported.0;
  whole = c.in-Ok.ensures.reported.1;
}

pub returns-clause-broken : goal.returns-clause-broken
returns-clause-broken g c = λ text h is. record {
  came = c.in-Err-Broken.ensures.none.0;
  rest = g.B.Read.remaining c.exchange_line.new.reader;
  asked = c.in-Err-Broken.ensures.part text h;
  reported = c.in-Err-Broken.ensures.none.1;
  none = c.in-Err-Broken.ensures.none.2 c.in-Err-Broken.field-0-is;
}
