use Rattle.std.proofs.Common.{subst}
use Rattle.desk_key.specs.Hmac.{key_block}
use Rattle.desk_key.specs.declared.key.Key.{Key}
use Rattle.desk_admission.specs.Handshake.{hello_bytes}
use Rattle.desk_admission.specs.Streams.{SealsToward}
use Rattle.desk_admission.specs.declared.endpoint.TheConstants.{CLIENT}
use Rattle.desk_follow.proofs.node_stream.proved.Goals as goal

pub returns-in-Ok : goal.returns-in-Ok
returns-in-Ok g c = record {
  sealed = (
    c.of_sessions.result,
    c.in_ok-nonce.nonce,
    c.of_sessions.ensures.role,
    c.of_sessions.ensures.nodes.2,
    subst (λ (key : Key). SealsToward (key_block key.bytes) (hello_bytes c.of_sessions.result CLIENT
        c.in_ok-nonce.nonce) c.in-Ok.output.key.block.value) c.copy.ensures c.in-Ok.ensures.sealed,
  );
}
