use Rattle.std.proofs.Common.{◌≡◌, ℕ, List, [], ◌++◌, ap, subst, sym, ◌∙◌}
use Rattle.std.specs.Io.KnownBytes.{Appends, Consumes}
use Rattle.desk_key.specs.Hmac.{key_block}
use Rattle.desk_records.specs.Streams.{opened_bytes}
use Rattle.desk_admission.specs.Handshake.{challenge_bytes, hello_bytes, initiator_proof}
use Rattle.desk_admission.specs.Handshake.{toward_acceptor, toward_initiator}
use Rattle.desk_admission.proofs.streams.dial.Goals as goal

pub returns : goal.returns
returns g c =
    let proved = c.in_ok-keys.ensures.ok in
    let hello = hello_bytes c.args.port.now.endpoint c.args.from c.args.nonce.now in
    let block = key_block c.args.port.now.key.bytes in
    let came = g.I.Read.remaining c.args.input in
    let left = g.I.Read.remaining c.initiate.new.input in
    let first = g.O.Write.contents c.args.output in
    let last = g.O.Write.contents c.initiate.new.output in
    let key : c.for_tags-key.result.block.value ≡ block = c.for_tags-key.ensures in
    let receiving : c.in_ok-keys.keys.receiving.block.value ≡ toward_initiator block hello proved.nonce =
    proved.receiving_is ∙ ap (λ b. toward_initiator b hello proved.nonce) key in
    let sending : c.in_ok-keys.keys.sending.block.value ≡ toward_acceptor block hello proved.nonce =
    proved.sending_is ∙ ap (λ b. toward_acceptor b hello proved.nonce) key in
    record {
      challenged = record {
        nonce = proved.nonce;
        left = left;
        heard = subst (λ b. Consumes came left (challenge_bytes b hello proved.nonce)) key proved.heard;
        given_is = c.in_ok-input.ensures.opened ∙ ap (λ b. opened_bytes b 0 [] [] left) receiving;
        sent = subst (λ o. Appends first (g.O.Write.contents o) (hello ++ initiator_proof block hello proved.nonce))
            (sym c.in_ok-input.ensures.inner)
            (subst (λ b. Appends first last (hello ++ initiator_proof b hello proved.nonce)) key proved.sent);
        sealing_is = c.in_ok-input.ensures.sealed ∙ sending;
      };
      sealed = (proved.nonce, c.in_ok-input.ensures.sealed ∙ sending);
    }
