use Rattle.std.proofs.Common.{◌≡◌, ◌++◌, map, take}
use Rattle.std.specs.List.{flat_map}
use Rattle.desk_eido.specs.ReplyLine.{json_members}
use Rattle.desk_eido.specs.Writing.{row_tokens}
use Rattle.desk_eido.proofs.reply_writer.ReplyWriter.each_row.Given as goal

-- the rows so far are written after what stood there
abbrev pub invariant-loop-item : goal.invariant-loop-item
invariant-loop-item g l =
    l.reply
    ≡ l.initial.reply
    ++ flat_map row_tokens (map (λ x. json_members (g.T.Row.members x)) (take l.item-index l.items))
