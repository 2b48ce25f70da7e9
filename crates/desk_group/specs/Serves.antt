-- That the definition of a group's run has runs in it.
use Rattle.std.specs.Prelude.{◌≡◌, ◌<◌, ℕ, List, [], ◌∷◌}
use Rattle.desk_types.specs.declared.command.Entry.{Entry}
use Rattle.desk_mailbox.specs.declared.item.Item.{Item}
use Rattle.desk_group.specs.Group.{Keepers, Act, Takes, WasHanded, Happens, Runs, started_group, committed}

-- In every group each node can take each item, where its packet was handed out for that node.
abbrev pub EachItemIsTaken : Type 0
EachItemIsTaken = (domain : List ℕ) (n i : ℕ) (g : Keepers) (item : Item) → i < n → WasHanded g.handed i item →
    (new : Keepers) × Happens domain n g (Takes i (item ∷ [])) new

-- Three nodes commit an entry that is asked for.
abbrev pub Serves : Type 0
Serves = (domain : List ℕ) (entry : Entry) → (acts : List Act) × (g : Keepers)
    × Runs domain 3 (started_group domain 3) acts g × (committed g 0 ≡ entry ∷ [])
