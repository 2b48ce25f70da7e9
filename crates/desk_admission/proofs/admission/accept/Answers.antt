use Rattle.std.proofs.Common.{inr, subst}
use Rattle.std.specs.Io.KnownBytes.{Appends}
use Rattle.desk_output.specs.Prefixes.{AppendsPrefix}
use Rattle.desk_output.proofs.Prefixes.{whole_prefix}
use Rattle.desk_admission.proofs.admission.accept.Goals as goal

pub returns-in-Err-send-clause-err : goal.returns-in-Err-send-clause-err
returns-in-Err-send-clause-err g c = inr record {
  hello = c.in-Ok.hello;
  left = g.I.Read.remaining c.read_hello.new.input;
  heard = c.in-Ok.ensures.read;
  is_for = c.in-Ok.ensures.endpoint;
  sent = subst (AppendsPrefix (g.O.Write.contents c.args.output.now) (g.O.Write.contents c.send.new.output))
      c.challenge.ensures c.in-Err-send.ensures.err;
}

pub returns-in-Err-read_proof-clause-err : goal.returns-in-Err-read_proof-clause-err
returns-in-Err-read_proof-clause-err g c = inr record {
  hello = c.in-Ok.hello;
  left = g.I.Read.remaining c.read_hello.new.input;
  heard = c.in-Ok.ensures.read;
  is_for = c.in-Ok.ensures.endpoint;
  sent = whole_prefix _ _ _
      (subst (Appends (g.O.Write.contents c.args.output.now) (g.O.Write.contents c.send.new.output))
      c.challenge.ensures c.in_default.ensures.ok);
}
