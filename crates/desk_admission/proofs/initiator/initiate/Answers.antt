use Rattle.std.proofs.Common.{inl, inr, subst}
use Rattle.std.specs.Io.KnownBytes.{Appends}
use Rattle.std.proofs.KnownBytes.{Appends-trans}
use Rattle.desk_output.specs.Prefixes.{AppendsPrefix}
use Rattle.desk_output.proofs.Prefixes.{whole_prefix}
use Rattle.desk_admission.specs.Handshake.{HasAnswered, HasProved}
use Rattle.desk_admission.proofs.Prefixed.{prefix_after}
use Rattle.desk_admission.proofs.initiator.initiate.Goals as goal

pub returns-in-Err-read_challenge-clause-err : goal.returns-in-Err-read_challenge-clause-err
returns-in-Err-read_challenge-clause-err g c = inl (whole_prefix _ _ _
    (subst (Appends (g.O.Write.contents c.args.output.now) (g.O.Write.contents c.send.new.output))
    c.hello-hello.ensures c.in_default.ensures.ok))

pub returns-in-Err-send-clause-err : goal.returns-in-Err-send-clause-err
returns-in-Err-send-clause-err g c =
    let block = c.args.key.now.block.value in
    let input = g.I.Read.remaining c.args.input.now in
    let left = g.I.Read.remaining c.read_challenge.new.input in
    let first = g.O.Write.contents c.args.output.now in
    let second = g.O.Write.contents c.send.new.output in
    let last = g.O.Write.contents c.send-2.new.output in
    let answered : HasAnswered block c.hello-hello.result input left first last = record {
      nonce = c.in-Ok.nonce;
      heard = c.in-Ok.ensures;
      sent = prefix_after first second last _ _ c.in_default.ensures.ok
          (subst (AppendsPrefix second last) c.initiator_proof.ensures c.in-Err-send.ensures.err);
    } in
    inr (subst (λ h. HasAnswered block h input left first last) c.hello-hello.ensures answered)

pub returns-clause-ok : goal.returns-clause-ok
returns-clause-ok g c =
    let block = c.args.key.now.block.value in
    let input = g.I.Read.remaining c.args.input.now in
    let left = g.I.Read.remaining c.read_challenge.new.input in
    let first = g.O.Write.contents c.args.output.now in
    let second = g.O.Write.contents c.send.new.output in
    let last = g.O.Write.contents c.send-2.new.output in
    let receiving = c.initiator_keys.result.receiving.block.value in
    let sending = c.initiator_keys.result.sending.block.value in
    let proved : HasProved block c.hello-hello.result input left first last receiving sending = record {
      nonce = c.in-Ok.nonce;
      heard = c.in-Ok.ensures;
      sent = Appends-trans first second last _ _ c.in_default.ensures.ok
          (subst (Appends second last) c.initiator_proof.ensures c.in_default-send.ensures.ok);
      receiving_is = c.initiator_keys.ensures.receiving;
      sending_is = c.initiator_keys.ensures.sending;
    } in
    subst (λ h. HasProved block h input left first last receiving sending) c.hello-hello.ensures proved
