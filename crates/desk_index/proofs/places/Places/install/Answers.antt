use Rattle.std.proofs.Common.{◌≡◌, ◌∙◌, ◌≤◌, sym, subst, nat_eq, Some, vec_capacity, arith}
use Rattle.std.specs.Map.{lookup}
use Rattle.desk_index.proofs.IndexChanges.{at_in-set, cond_same, room_of-set, fits-set, has_list-set}
use Rattle.desk_index.proofs.places.Places.install.Goals as goal

pub returns-in-Some-clause-lists : goal.returns-in-Some-clause-lists
returns-in-Some-clause-lists c n =
    let there : lookup (nat_eq c.args.number) c.args.self.now.lists.entries ≡ Some c.index_mut.result.now =
    sym c.in-Some.ensures.value ∙ c.index_mut.ensures.value in
    at_in-set (λ l. l) c.args.self.now.lists.entries c.args.number c.in-Some.index c.index_mut.result.now
    c.install_list.new.list
    (sym c.in-Some.ensures.index) there c.install_list.ensures.items n
    ∙ cond_same (nat_eq c.args.number n) _

pub returns-in-Some-clause-room : goal.returns-in-Some-clause-room
returns-in-Some-clause-room c =
    let there : lookup (nat_eq c.args.number) c.args.self.now.lists.entries ≡ Some c.index_mut.result.now =
    sym c.in-Some.ensures.value ∙ c.index_mut.ensures.value in
    subst (λ r. vec_capacity c.args.room ≤ r)
    (sym (room_of-set c.args.self.now.lists.entries c.args.number c.in-Some.index c.index_mut.result.now
    c.install_list.new.list
    (sym c.in-Some.ensures.index) there)) c.install_list.ensures.room

pub returns-in-Some-clause-fits : goal.returns-in-Some-clause-fits
returns-in-Some-clause-fits c n h =
    let there : lookup (nat_eq c.args.number) c.args.self.now.lists.entries ≡ Some c.index_mut.result.now =
    sym c.in-Some.ensures.value ∙ c.index_mut.ensures.value in
    fits-set c.args.self.now.lists.entries c.args.number c.in-Some.index c.index_mut.result.now
    c.install_list.new.list
    (sym c.in-Some.ensures.index) there c.install_list.ensures.items
    (omega (arith, c.requires.room, c.install_list.ensures.room)) n h

pub returns-in-Some-clause-preserved : goal.returns-in-Some-clause-preserved
returns-in-Some-clause-preserved c n =
    let there : lookup (nat_eq c.args.number) c.args.self.now.lists.entries ≡ Some c.index_mut.result.now =
    sym c.in-Some.ensures.value ∙ c.index_mut.ensures.value in
    has_list-set c.args.self.now.lists.entries c.args.number c.in-Some.index c.index_mut.result.now
    c.install_list.new.list
    (sym c.in-Some.ensures.index) there n
