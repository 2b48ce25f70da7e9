use Rattle.std.proofs.Common.{◌≡◌, ◌∙◌, ℕ, length, ap, sym, is_some, nat_eq, Some, [], vec_capacity}
use Rattle.std.proofs.Common.{Vec, Global, arith}
use Rattle.std.proofs.lemmas.Result.{on_ok_weaker}
use Rattle.std.specs.Option.{option_map_or}
use Rattle.std.specs.Map.{lookup}
use Rattle.indexmap.specs.IndexMap.{set_value_at}
use Rattle.desk_index.specs.Places.{at_in, room_in}
use Rattle.desk_index.proofs.IndexChanges.{at_in-set, room_in-set, room_of-set, has_list-set, cond_same}
use Rattle.desk_index.proofs.places.Places.reserve.Goals as goal

pub returns-in-Some-clause-lists : goal.returns-in-Some-clause-lists
returns-in-Some-clause-lists c n =
    let there : lookup (nat_eq c.args.number) c.args.self.now.lists.entries ≡ Some c.index_mut.result.now =
    sym c.in-Some.ensures.value ∙ c.index_mut.ensures.value in
    at_in-set (λ l. l) c.args.self.now.lists.entries c.args.number c.in-Some.index c.index_mut.result.now
    c.grow.new.list
    (sym c.in-Some.ensures.index) there c.grow.ensures.items n
    ∙ cond_same (nat_eq c.args.number n) _

pub returns-in-Some-clause-room : goal.returns-in-Some-clause-room
returns-in-Some-clause-room c n =
    let there : lookup (nat_eq c.args.number) c.args.self.now.lists.entries ≡ Some c.index_mut.result.now =
    sym c.in-Some.ensures.value ∙ c.index_mut.ensures.value in
    room_in-set c.args.self.now.lists.entries c.args.number c.in-Some.index c.index_mut.result.now c.grow.new.list
    (sym c.in-Some.ensures.index) there c.grow.ensures.room n

pub returns-in-Some-clause-preserved : goal.returns-in-Some-clause-preserved
returns-in-Some-clause-preserved c n h =
    let there : lookup (nat_eq c.args.number) c.args.self.now.lists.entries ≡ Some c.index_mut.result.now =
    sym c.in-Some.ensures.value ∙ c.index_mut.ensures.value in
    has_list-set c.args.self.now.lists.entries c.args.number c.in-Some.index c.index_mut.result.now c.grow.new.list
    (sym c.in-Some.ensures.index) there n ∙ h

pub returns-in-Some-clause-there : goal.returns-in-Some-clause-there
returns-in-Some-clause-there c =
    let there : lookup (nat_eq c.args.number) c.args.self.now.lists.entries ≡ Some c.index_mut.result.now =
    sym c.in-Some.ensures.value ∙ c.index_mut.ensures.value in
    on_ok_weaker c.grow.result (λ _. has_list-set c.args.self.now.lists.entries c.args.number c.in-Some.index
    c.index_mut.result.now c.grow.new.list
    (sym c.in-Some.ensures.index) there c.args.number ∙ ap (λ o. is_some o) there) c.grow.ensures.grown

pub returns-in-Some-clause-grown : goal.returns-in-Some-clause-grown
returns-in-Some-clause-grown c =
    let there : lookup (nat_eq c.args.number) c.args.self.now.lists.entries ≡ Some c.index_mut.result.now =
    sym c.in-Some.ensures.value ∙ c.index_mut.ensures.value in
    let same : at_in c.args.number
    (set_value_at c.args.self.now.lists.entries c.in-Some.index c.grow.new.list) ≡ c.grow.new.list.items =
    at_in-set (λ l. l) c.args.self.now.lists.entries c.args.number c.in-Some.index c.index_mut.result.now
    c.grow.new.list
    (sym c.in-Some.ensures.index) there c.grow.ensures.items
    c.args.number
    ∙ cond_same (nat_eq c.args.number c.args.number) _
    ∙ ap (λ o. option_map_or (λ (v : Vec ℕ Global). v.items) o []) there
    ∙ sym c.grow.ensures.items in
    let long : length (at_in c.args.number
    (set_value_at c.args.self.now.lists.entries c.in-Some.index c.grow.new.list)) ≡ length c.grow.new.list.items =
    ap length same in
    let room : room_in c.args.number
    (set_value_at c.args.self.now.lists.entries c.in-Some.index c.grow.new.list) ≡ vec_capacity c.grow.new.list =
    room_of-set c.args.self.now.lists.entries c.args.number c.in-Some.index c.index_mut.result.now c.grow.new.list
    (sym c.in-Some.ensures.index) there in
    on_ok_weaker c.grow.result (λ more. omega (arith, long, room, more)) c.grow.ensures.grown
