use Rattle.std.proofs.Common.{◌++◌, length, drop, replicate, ap, ◌∙◌}
use Rattle.std.proofs.lemmas.List.{drop-replicate}
use Rattle.desk_key.proofs.hmac.fill_block.Goals as goal

pub returns : goal.returns
returns c =
    let n = length c.args.bytes.now in
    ap (λ l. l ++ drop n (replicate 64 0)) c.copy_from_slice.ensures.after
    ∙ ap (λ l. c.args.bytes.now ++ l) (drop-replicate n 64 0)
