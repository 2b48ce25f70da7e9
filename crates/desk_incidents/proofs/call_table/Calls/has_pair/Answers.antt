use Rattle.std.proofs.Common.{◌∙◌, ◌&&◌, ◌==◌, List, ℕ, Option, false, sym, ap}
use Rattle.std.specs.List.{list_any}
use Rattle.std.specs.Option.{option_map_or}
use Rattle.desk_incidents.specs.declared.incident.HasCall.{HasCall}
use Rattle.desk_incidents.specs.Calls.{is_call, is_of}
use Rattle.desk_incidents.proofs.MovedCalls.{pair-any}
use Rattle.desk_incidents.proofs.call_table.Calls.has_pair.Goals as goal

pub returns-in-None : goal.returns-in-None
returns-in-None c =
    ap (λ (o : Option ℕ). option_map_or (λ k. k == c.args.number) o false) c.in-None.ensures.value
    ∙ sym (pair-any c.args.call.now c.args.number c.self.inside.table.entries c.len.ensures.unique)
    ∙ ap (λ (ps : List HasCall). list_any (λ h. is_of c.args.number h && is_call c.args.call.now h) ps)
    (ap (λ v. v.pairs) c.self.view_is)

pub returns-in-Some : goal.returns-in-Some
returns-in-Some c =
    ap (λ (o : Option ℕ). option_map_or (λ k. k == c.args.number) o false) c.in-Some.ensures.value
    ∙ sym (pair-any c.args.call.now c.args.number c.self.inside.table.entries c.len.ensures.unique)
    ∙ ap (λ (ps : List HasCall). list_any (λ h. is_of c.args.number h && is_call c.args.call.now h) ps)
    (ap (λ v. v.pairs) c.self.view_is)
