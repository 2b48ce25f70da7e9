use Rattle.std.proofs.Common.{◌∙◌, ◌∷◌, [], map, nat_eq, refl, ap}
use Rattle.std.proofs.lemmas.List.{map-append}
use Rattle.desk_incidents.specs.CallTable.{pair_of}
use Rattle.desk_incidents.specs.Calls.{is_of}
use Rattle.desk_index.specs.Slots.{places}
use Rattle.desk_incidents.proofs.CallEntries.{places-popped, listed-same}
use Rattle.desk_incidents.proofs.call_table.Calls.pop.Goals as goal

pub invariant_of-self : goal.invariant_of-self
invariant_of-self c q =
    places-popped (is_of q) (map pair_of c.pop.new.self.entries) (pair_of (c.in-Some._call, c.in-Some.number))
    (nat_eq c.in-Some.number q) _ _
    (c.self.invariant q ∙ ap (λ fs. places (is_of q) 0 (map pair_of fs)) c.in-Some.ensures.entries
    ∙ ap (places (is_of q) 0) (map-append pair_of c.pop.new.self.entries ((c.in-Some._call, c.in-Some.number) ∷ [])))
    refl (c.pop-in-Some.ensures.lists q)

pub returns-in-Some-clause-preserved : goal.returns-in-Some-clause-preserved
returns-in-Some-clause-preserved c =
    listed-same c.self.inside.index.lists.entries c.pop-in-Some.new.self.lists.entries c.pop-in-Some.ensures.there
    c.args.self.now.listed (ap (λ v. v.listed) c.self.view_is)
