use Rattle.std.proofs.Common.{◌≡◌, ◌++◌, length, replicate, rules, arith, ap, ◌∙◌}
use Rattle.desk_key.proofs.Filling.{two_parts}
use Rattle.desk_admission.proofs.exchange.challenge.Goals as goal

pub returns : goal.returns
returns c =
    let first = c.copy_from_slice.new.self in
    let second = c.copy_from_slice-2.new.self in
    let long : length c.copy_from_slice.new.self ≡ 32 = search rules in
    two_parts first second (replicate 32 0) 32 32 long (omega arith)
    ∙ ap (λ l. l ++ second) c.copy_from_slice.ensures.after
    ∙ ap (λ l. c.args.nonce.now ++ l) (c.copy_from_slice-2.ensures.after ∙ c.acceptor_proof-proof.ensures)
