use Rattle.std.proofs.Common.{◌≡◌, ◌∙◌, insert, ap, sym, nat_lt}
use Rattle.std.specs.List.{position_or_len}
use Rattle.desk_index.proofs.PlaceLists.{insert_place-at}
use Rattle.desk_index.proofs.places.put_place.Goals as goal

pub returns-clause-items : goal.returns-clause-items
returns-clause-items c =
    let at : c.index_for-index.result ≡ position_or_len (nat_lt c.args.place) c.args.list.now.items =
    c.index_for-index.ensures.place ∙ ap (position_or_len (nat_lt c.args.place)) c.deref.ensures.value in
    c.insert_within.ensures.items ∙ ap (λ i. insert c.args.list.now.items i c.args.place) at
    ∙ sym (insert_place-at c.args.place c.args.list.now.items)
