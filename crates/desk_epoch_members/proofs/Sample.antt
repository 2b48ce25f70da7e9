-- The premises hold of a desk at first, one of whose three nodes is away: what is said is not said of nothing. A
-- request that names another in its place is served, and that one acts.
use Rattle.std.proofs.Common.{◌≡◌, ℕ, zero, suc, Bool, true, ◌==◌, if◌then◌else◌, List, [], ◌∷◌}
use Rattle.std.proofs.Common.{length, Some, refl, sym, ap, ◌∙◌, arith}
use Rattle.std.proofs.lemmas.Bool.{false≢true}
use Rattle.std.proofs.lemmas.Option.{none-some}
use Rattle.desk_types.specs.declared.command.Entry.{Entry}
use Rattle.desk_types.specs.Group.{IsGroup}
use Rattle.desk_log.specs.Entries.{entry_at}
use Rattle.desk_log.specs.Laws.{IsNewNumber}
use Rattle.desk_node.specs.State.{State}
use Rattle.desk_world.specs.World.{world, node_of_world}
use Rattle.desk_epochs.specs.Histories.{has_ended}
use Rattle.desk_epochs.specs.NeverStuck.{CanAsk}
use Rattle.desk_epoch_members.specs.NeverStuck.{AreNextLogs, CanAskMembers, LeadsAtUp, acting_up}
use Rattle.desk_epoch_members.specs.Tokens.{Desk, Rules, acts_in, ending_of, first_desk}
use Rattle.desk_epoch_members.proofs.NeverStuck.{first_node, named_nodes_act}

-- Each entry names token 5 for number 2, and so ends its epoch.
abbrev rules : Rules
rules = record { most = 1; named = λ e. Some (record { node = 2; token = 5 }) }

-- The first node of number 2 is away; the one with token 5 is up.
abbrev up : ℕ → ℕ → Bool
up number token = token == (if number == 2 then 5 else 0)

nothing_there : (place : ℕ) (f : Entry) → entry_at [] place ≡ Some f → ⊥
nothing_there zero f there = none-some f there
nothing_there (suc k) f there = none-some f there

new_first : (log : List Entry) (entry : Entry) → log ≡ [] → IsNewNumber log entry
new_first [] entry e place f found there = absurd (none-some place found)
new_first (x ∷ xs) entry e place f found there =
    let none : suc (length xs) ≡ 0 = ap (λ (es : List Entry). length es) e in absurd (omega (arith, none))

asks_first : (domain : List ℕ) (entry : Entry) → CanAsk 3 (acting_up rules up []) (world domain 3 []) entry
asks_first domain entry = record {
  majority = omega arith;
  number = λ i l on.
      new_first (node_of_world (world domain 3 []) i).saved.log entry
      (ap (λ (node : State). node.saved.log) (first_node domain 3 i));
  views = λ i l.
      let view : (node_of_world (world domain 3 []) i).saved.view ≡ 0 =
      ap (λ (node : State). node.saved.view) (first_node domain 3 i) in
      omega (arith, view);
}

no_end : (domain : List ℕ) (i : ℕ) →
    has_ended (ending_of rules).ends 1 (node_of_world (world domain 3 []) i).saved.log ≡ true → ⊥
no_end domain i over =
    false≢true
    (sym (ap (λ (node : State). has_ended (ending_of rules).ends 1 node.saved.log) (first_node domain 3 i)) ∙ over)

can_ask : (domain : List ℕ) (entry : Entry) → CanAskMembers domain rules (λ epoch. 3) up first_desk entry
can_ask domain entry = record {
  number = 0;
  token = 0;
  is_up = refl;
  furthest = λ i t on. omega arith;
  asks = asks;
  is_new = λ f place there same. absurd (nothing_there place f there);
}
  where
    asks : (logs : List (List Entry)) → AreNextLogs domain rules (λ epoch. 3) up first_desk [] logs →
        CanAsk 3 (acting_up rules up logs) (world domain 3 []) entry
    asks [] all = asks_first domain entry
    asks (log ∷ logs) all = absurd (no_end domain (all.0).number (all.0).over)

is_group : IsGroup 3
is_group = record { odd = refl; least = omega arith }

-- So another is named in its place, and acts.
is_replaced : (domain : List ℕ) (entry : Entry) → (more : ℕ) × (later : Desk)
    × LeadsAtUp domain rules (λ epoch. 3) up more first_desk later
    × (acts_in rules later 2 5 ≡ true)
is_replaced domain entry =
    let r = named_nodes_act domain rules (λ epoch. 3) 0 first_desk up entry
    (record { least = omega arith; most_within = omega arith }) (λ epoch. is_group) refl (can_ask domain entry)
    (record { node = 2; token = 5 })
    refl refl in
    (r.0, r.1, r.2, r.3)
