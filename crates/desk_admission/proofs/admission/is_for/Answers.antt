use Rattle.std.proofs.Common.{◌≡◌, true, ap, subst, sym, ◌∙◌}
use Rattle.desk_admission.specs.Handshake.{hello_bytes, may_dial}
use Rattle.desk_admission.proofs.admission.is_for.Goals as goal

pub returns : goal.returns
returns c e =
    let endpoint = c.args.endpoint.now in
    let nonce = c.nonce_of.result in
    record {
      nonce = nonce;
      hello_is = c.are_same_hellos.ensures.same e ∙ c.hello.ensures
          ∙ ap (λ from. hello_bytes endpoint from nonce) c.named_in-from.ensures;
      dials = subst (λ from. may_dial endpoint from ≡ true) c.named_in-from.ensures
          (sym c.may_dial.ensures ∙ c.if-not-may_dial.false);
    }
