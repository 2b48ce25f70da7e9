use Rattle.std.proofs.Common.{refl, sym}
use Rattle.std.proofs.lemmas.Bool.{false≢true}
use Rattle.desk_file.proofs.ended.close_file.Goals as goal

pub returns-in-Ok : goal.returns-in-Ok
returns-in-Ok g c =
    let left = c.in-Ok.ensures.ok in record {
      closed = rw c.in-Some.is (
        c.in-Ok.files,
        refl,
        record { last = left.0; left = left.1; closed = left.2; whole = λ _. c.in-Ok.ensures.copied },
      );
    }

pub returns-in-Err : goal.returns-in-Err
returns-in-Err g c = record {
  closed = rw c.in-Some.is (
    c.close.result,
    refl,
    record {
      last = c.in-Err.store;
      left = sym c.close.ensures;
      closed = c.in-Err.ensures.err.0;
      whole = λ is _. absurd (false≢true is);
    },
  );
}
