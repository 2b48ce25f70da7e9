-- The saved state of a node in a database, as its callers see it.
use Rattle.std.specs.Prelude.{Bool, ℕ, List, refl}
use Rattle.std.specs.Coded.{Coded, code_by, coded×, coded_ℕ, coded_bool, coded_list}
use Rattle.sqlite.specs.Held.{Held, held_code}
use Rattle.desk_types.specs.declared.command.Entry.{Entry}
use Rattle.desk_types.specs.contracts.command.Entry as entry
use Rattle.desk_log.specs.SavedValue.{SavedValue}
use Rattle.desk_types.specs.declared.owner.Owner.{Owner}
use Rattle.desk_types.specs.contracts.owner.Owner as owner

-- the connection to the database, whose state it keeps, the state that it saved last, and whether it answers
-- `NodeStopped` for good
pub record StoreValue (S : Type 0) : Type 0 where
  pub connection : Held S
  pub owner : Owner
  pub last : SavedValue
  pub stopped : Bool

-- a saved state has a code, as its parts have
abbrev pub saved_code : Coded SavedValue
saved_code = code_by (ℕ × (ℕ × (List Entry × ℕ)))
    (coded× coded_ℕ (coded× coded_ℕ (coded× (coded_list entry.the_row.coded) coded_ℕ)))
    (λ s. (s.view, (s.normal, (s.log, s.commit))))
    (λ p. record { view = p.0; normal = p.1.0; log = p.1.1.0; commit = p.1.1.1 })
    (λ _. refl)

-- and so has the whole, over a store that has one
abbrev pub store_code : {S : Type 0} → Coded S → Coded (StoreValue S)
store_code {S} store = code_by (Held S × (Owner × (SavedValue × Bool)))
    (coded× (held_code store) (coded× owner.the_row.coded (coded× saved_code coded_bool)))
    (λ v. (v.connection, (v.owner, (v.last, v.stopped))))
    (λ p. record { connection = p.0; owner = p.1.0; last = p.1.1.0; stopped = p.1.1.1 })
    (λ _. refl)
