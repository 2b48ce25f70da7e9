use Rattle.std.proofs.Common.{◌≡◌, ℕ, List, [], ◌++◌, ap, subst, sym, ◌∙◌}
use Rattle.std.specs.Io.KnownBytes.{Appends, Consumes, prepend_known}
use Rattle.desk_key.specs.Hmac.{key_block}
use Rattle.desk_records.specs.Streams.{opened_bytes}
use Rattle.desk_admission.specs.Handshake.{challenge_bytes, initiator_proof, toward_acceptor, toward_initiator}
use Rattle.desk_admission.proofs.Prefixed.{front_came}
use Rattle.desk_admission.proofs.streams.admit.Goals as goal

pub returns : goal.returns
returns g c =
    let end = c.in_ok-end.end in
    let hello = end.hello in
    let nonce = c.args.nonce.now in
    let block = key_block c.args.port.now.key.bytes in
    let came = g.I.Read.remaining c.args.input in
    let left = g.I.Read.remaining c.accept.new.input in
    let first = g.O.Write.contents c.args.output in
    let last = g.O.Write.contents c.accept.new.output in
    let key : end.key.value.block.value ≡ block = c.in_ok-end.ensures.key ∙ c.for_tags-key.ensures in
    let proof : end.proof ≡ initiator_proof block hello nonce =
    end.proved ∙ ap (λ b. initiator_proof b hello end.nonce) key
    ∙ ap (λ n. initiator_proof block hello n) c.in_ok-end.ensures.nonce in
    let receiving : c.into_keys.result.receiving.block.value ≡ toward_acceptor block hello nonce =
    c.into_keys.ensures.receiving ∙ ap (λ b. toward_acceptor b hello end.nonce) key
    ∙ ap (λ n. toward_acceptor block hello n) c.in_ok-end.ensures.nonce in
    let sending : c.into_keys.result.sending.block.value ≡ toward_initiator block hello nonce =
    c.into_keys.ensures.sending ∙ ap (λ b. toward_initiator b hello end.nonce) key
    ∙ ap (λ n. toward_initiator block hello n) c.in_ok-end.ensures.nonce in
    record {
      admitted = record {
        hello = hello;
        left = left;
        heard = subst (λ p. Consumes came left (hello ++ p)) proof c.in_ok-end.ensures.read;
        is_for = c.in_ok-end.ensures.hello;
        from_is = c.from_node-from.ensures;
        given_is = c.in_ok-input.ensures.opened ∙ ap (λ b. opened_bytes b 0 [] [] left) receiving;
      };
      sent = record {
        hello = hello;
        left = prepend_known end.proof left;
        heard = front_came came left hello end.proof c.in_ok-end.ensures.read;
        is_for = c.in_ok-end.ensures.hello;
        sent = subst (λ o. Appends first (g.O.Write.contents o) (challenge_bytes block hello c.args.nonce.now))
            (sym c.in_ok-input.ensures.inner)
            (subst (λ b. Appends first last (challenge_bytes b hello c.args.nonce.now)) c.for_tags-key.ensures
            c.in_ok-end.ensures.sent);
        sealing_is = c.in_ok-input.ensures.sealed ∙ sending;
      };
    }
