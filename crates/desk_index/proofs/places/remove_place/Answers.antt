use Rattle.std.proofs.Common.{◌≡◌, ◌∙◌, ap, sym, position, nat_eq, Some, None}
use Rattle.desk_index.proofs.WithoutFirst.{remove-position, remove_key-none}
use Rattle.desk_index.proofs.places.remove_place.Goals as goal

pub returns-in-Some-clause-items : goal.returns-in-Some-clause-items
returns-in-Some-clause-items c =
    let at : position (nat_eq c.args.place) c.args.list.now.items ≡ Some c.in-Some.index =
    ap (position (nat_eq c.args.place)) (sym c.deref.ensures.value) ∙ (sym c.index_of-index.ensures ∙ c.in-Some.is) in
    c.remove.ensures.items ∙ remove-position (nat_eq c.args.place) c.args.list.now.items c.in-Some.index at

pub returns-in_default-clause-items : goal.returns-in_default-clause-items
returns-in_default-clause-items c =
    let at : position (nat_eq c.args.place) c.args.list.now.items ≡ None =
    ap (position (nat_eq c.args.place)) (sym c.deref.ensures.value)
    ∙ (sym c.index_of-index.ensures ∙ c.in_default.is) in
    sym (remove_key-none (nat_eq c.args.place) c.args.list.now.items at)
