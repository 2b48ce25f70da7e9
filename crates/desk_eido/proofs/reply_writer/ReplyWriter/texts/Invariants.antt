use Rattle.std.proofs.Common.{◌≡◌, ◌++◌, map, take}
use Rattle.json.specs.Token.{string}
use Rattle.desk_eido.proofs.reply_writer.ReplyWriter.texts.Given as goal

-- the items so far are written after what stood there
abbrev pub invariant-loop-item : goal.invariant-loop-item
invariant-loop-item g l =
    (l.out.tokens ≡ l.initial.out.tokens ++ map (λ x. string (g.T.Named.text x)) (take l.item-index l.items))
    × (l.out.before ≡ l.initial.out.before)
