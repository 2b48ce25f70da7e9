use Rattle.std.proofs.Common.{◌≡◌, ◌∙◌, ◌++◌, ◌∷◌, [], ℕ, List, length, map, nat_eq, false, refl, sym, ap}
use Rattle.std.specs.List.{list_any}
use Rattle.std.specs.Str.{bytes_eq}
use Rattle.std.proofs.lemmas.List.{map-append, length-map}
use Rattle.indexmap.specs.IndexMap.{insert_entry}
use Rattle.desk_incidents.specs.declared.incident.HasCall.{HasCall}
use Rattle.desk_incidents.specs.CallTable.{pair_of}
use Rattle.desk_incidents.specs.Calls.{is_call, is_of}
use Rattle.desk_index.specs.Slots.{places}
use Rattle.desk_incidents.proofs.CallEntries.{insert_entry-new, places-last, listed-preserved}
use Rattle.desk_incidents.proofs.call_table.Calls.push.Goals as goal

pub invariant_of-self-2 : goal.invariant_of-self-2
invariant_of-self-2 c q =
    let es : List (List ℕ × ℕ) = c.self.inside.table.entries in
    let absent : list_any (is_call c.args.call) (map pair_of c.self.inside.table.entries) ≡ false =
    ap (λ (ps : List HasCall). list_any (is_call c.args.call) ps) (ap (λ v. v.pairs) c.self.view_is) ∙ c.requires in
    let grown : c.insert_within.new.table.entries ≡ c.self.inside.table.entries ++ (c.args.call, c.args.number) ∷ [] =
    c.insert_within.ensures ∙ ap (λ fs. insert_entry bytes_eq fs c.args.call c.args.number)
    c.in_ok-reserve.ensures.entries
    ∙ insert_entry-new c.args.call c.args.number c.self.inside.table.entries absent in
    let long : c.len-place.result ≡ length (map pair_of c.self.inside.table.entries) =
    c.len-place.ensures.len ∙ ap (λ (fs : List (List ℕ × ℕ)). length fs) c.in_ok-reserve.ensures.entries
    ∙ sym (length-map c.self.inside.table.entries pair_of) in
    places-last (is_of q) (map pair_of c.self.inside.table.entries) (pair_of (c.args.call, c.args.number))
    (nat_eq c.args.number q) c.len-place.result
    _ _ (c.reserve-2.ensures.lists q ∙ c.self.invariant q) refl long (c.push.ensures.lists q)
    ∙ ap (places (is_of q) 0) (sym (map-append pair_of c.self.inside.table.entries
    ((c.args.call, c.args.number) ∷ [])))
    ∙ ap (λ fs. places (is_of q) 0 (map pair_of fs)) (sym grown)

pub returns-clause-ok : goal.returns-clause-ok
returns-clause-ok c =
    let absent : list_any (is_call c.args.call) (map pair_of c.self.inside.table.entries) ≡ false =
    ap (λ (ps : List HasCall). list_any (is_call c.args.call) ps) (ap (λ v. v.pairs) c.self.view_is) ∙ c.requires in
    let grown : c.insert_within.new.table.entries ≡ c.self.inside.table.entries ++ (c.args.call, c.args.number) ∷ [] =
    c.insert_within.ensures ∙ ap (λ fs. insert_entry bytes_eq fs c.args.call c.args.number)
    c.in_ok-reserve.ensures.entries
    ∙ insert_entry-new c.args.call c.args.number c.self.inside.table.entries absent in
    ap (map pair_of) grown ∙ map-append pair_of c.self.inside.table.entries ((c.args.call, c.args.number) ∷ [])
    ∙ ap (λ (ps : List HasCall). ps ++ record { incident = c.args.number; call = c.args.call } ∷ [])
    (ap (λ v. v.pairs) c.self.view_is)

pub returns-in_err-reserve-2-clause-preserved : goal.returns-in_err-reserve-2-clause-preserved
returns-in_err-reserve-2-clause-preserved c =
    listed-preserved c.self.inside.index.lists.entries c.reserve-2.new.self.lists.entries c.reserve-2.ensures.preserved
    c.args.self.now.listed (ap (λ v. v.listed) c.self.view_is)

pub returns-clause-preserved : goal.returns-clause-preserved
returns-clause-preserved c =
    listed-preserved c.self.inside.index.lists.entries c.push.new.self.lists.entries
    (λ n h. c.push.ensures.there n ∙ c.reserve-2.ensures.preserved n h) c.args.self.now.listed
    (ap (λ v. v.listed) c.self.view_is)
