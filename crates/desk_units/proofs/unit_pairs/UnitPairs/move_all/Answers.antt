use Rattle.std.proofs.Common.{◌≡◌, ◌∙◌, ◌==◌, ℕ, List, [], Option, length, map, cond, sym, ap}
use Rattle.std.proofs.Common.{subst, arith}
use Rattle.std.proofs.lemmas.Bool.{ne_eqb}
use Rattle.desk_index.specs.Places.{at_in, is_listed}
use Rattle.desk_index.specs.Slots.{live}
use Rattle.desk_units.specs.declared.unit.UnitPair.{UnitPair}
use Rattle.desk_units.specs.Checks.{units_of}
use Rattle.desk_index.specs.MergedList.{merged}
use Rattle.desk_units.specs.NameTable.{IsNameTable}
use Rattle.desk_units.specs.PairTable.{PairsValue, IsPairTable}
use Rattle.desk_units.specs.Verbs.{pair_after_merge}
use Rattle.desk_units.proofs.MovedPairs.{live-merged, placed-merged}
use Rattle.desk_index.proofs.IndexChanges.{has_list-listed}
use Rattle.desk_units.proofs.PairTables.{units-counted}
use Rattle.desk_units.proofs.unit_pairs.UnitPairs.move_all.Goals as goal

pub merged_list-list-requires : goal.merged_list-list-requires
merged_list-list-requires c =
    let one : length c.at.result.now ≡ length (units_of c.args.to c.args.self.now.pairs) =
    ap (λ (ks : List ℕ). length ks) c.at.ensures
    ∙ units-counted c.args.to c.self.inside.slots.items c.self.inside.of_incident.lists.entries
    c.args.self.now.pairs c.self.invariant.placed (ap (λ (v : PairsValue). v.pairs) c.self.view_is) in
    let other : length c.at-2.result.now ≡ length (units_of c.args.from c.args.self.now.pairs) =
    ap (λ (ks : List ℕ). length ks) c.at-2.ensures
    ∙ units-counted c.args.from c.self.inside.slots.items c.self.inside.of_incident.lists.entries
    c.args.self.now.pairs c.self.invariant.placed (ap (λ (v : PairsValue). v.pairs) c.self.view_is) in
    omega (arith, one, other, c.requires.room)

pub put_list-requires : goal.put_list-requires
put_list-requires c =
    has_list-listed c.args.to c.self.inside.of_incident.lists.entries
    ∙ ap (is_listed c.args.to) (ap (λ (v : PairsValue). v.listed) c.self.view_is) ∙ c.requires.there

pub move_slots-requires-clause-all : goal.move_slots-requires-clause-all
move_slots-requires-clause-all c =
    let other : (c.args.to == c.args.from) ≡ _ = ne_eqb c.args.to c.args.from (λ e. c.requires.apart (sym e)) in
    c.at-3.ensures ∙ c.put_list.ensures.lists c.args.from
    ∙ ap (λ t. cond t c.merged_list-list.result.items (at_in c.args.from c.self.inside.of_incident.lists.entries)) other
    ∙ c.self.invariant.placed c.args.from

pub invariant_of-self : goal.invariant_of-self
invariant_of-self c =
    let list : c.merged_list-list.result.items ≡ merged (at_in c.args.to c.self.inside.of_incident.lists.entries)
    (at_in c.args.from c.self.inside.of_incident.lists.entries) =
    c.merged_list-list.ensures
    ∙ ap (λ (ks : List ℕ). merged ks c.at-2.result.now) c.at.ensures
    ∙ ap (merged (at_in c.args.to c.self.inside.of_incident.lists.entries)) c.at-2.ensures in
    subst (λ (xs : List (Option UnitPair)). IsPairTable xs c.self.inside.by_unit.entries
    c.drop_list.new.of_incident.lists.entries) (sym c.move_slots.ensures.slots)
    (record {
      named = subst (λ (xs : List (Option UnitPair)). IsNameTable (λ p. p.unit) xs c.self.inside.by_unit.entries)
          c.move_slots.ensures.slots (c.move_slots.ensures.named c.self.inside.by_unit.entries c.self.invariant.named);
      placed = placed-merged c.self.inside.slots.items c.self.inside.of_incident.lists.entries
          c.drop_list.new.of_incident.lists.entries c.args.from c.args.to c.merged_list-list.result.items
          c.self.invariant.placed c.requires.apart list
          (λ n. c.drop_list.ensures n
          ∙ ap (λ (ks : List ℕ). cond (c.args.from == n) [] ks) (c.put_list.ensures.lists n));
    })

pub returns : goal.returns
returns c =
    ap live c.move_slots.ensures.slots ∙ live-merged c.args.from c.args.to c.self.inside.slots.items
    ∙ ap (λ (ps : List UnitPair). map (pair_after_merge c.args.from c.args.to) ps)
    (ap (λ (v : PairsValue). v.pairs) c.self.view_is)
