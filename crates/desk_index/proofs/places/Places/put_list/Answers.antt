use Rattle.std.proofs.Common.{◌≡◌, ◌∙◌, Some, nat_eq, refl, sym}
use Rattle.std.specs.Map.{lookup}
use Rattle.desk_index.proofs.IndexChanges.{at_in-set, has_list-set}
use Rattle.desk_index.proofs.places.Places.put_list.Goals as goal

pub returns-in-Some-clause-lists : goal.returns-in-Some-clause-lists
returns-in-Some-clause-lists c n =
    let there : lookup (nat_eq c.args.number) c.args.self.now.lists.entries ≡ Some c.index_mut.result.now =
    sym c.in-Some.ensures.value ∙ c.index_mut.ensures.value in
    at_in-set (λ _. c.args.list.items) c.args.self.now.lists.entries c.args.number c.in-Some.index
    c.index_mut.result.now c.args.list (sym c.in-Some.ensures.index) there refl n

pub returns-in-Some-clause-there : goal.returns-in-Some-clause-there
returns-in-Some-clause-there c n =
    let there : lookup (nat_eq c.args.number) c.args.self.now.lists.entries ≡ Some c.index_mut.result.now =
    sym c.in-Some.ensures.value ∙ c.index_mut.ensures.value in
    has_list-set c.args.self.now.lists.entries c.args.number c.in-Some.index c.index_mut.result.now
    c.args.list (sym c.in-Some.ensures.index) there n
