-- Whether the first epoch of a node is over.
use Rattle.std.proofs.Common.{ℤ, Bool, IsTrue, Result, Ok, Err, IfOk}
use Rattle.sqlite_trees.specs.declared.store.Store.{Ghosts}
use Rattle.sqlite.specs.Held.{Held}
use Rattle.desk_types.specs.declared.refusal.Refusal.{Refusal}
use Rattle.desk_file.specs.EpochEnd.{ShowsEnd}

-- what is shown for these places is shown for some
pub shown_for_some : {S : Type 0} (g : Ghosts S) (places : ℤ) (before after : Held S) (r : Result Bool Refusal) →
    IfOk r (λ ends. IsTrue ends → ShowsEnd g places before after) →
    IfOk r (λ ended. IsTrue ended → (some : ℤ) × (other : Held S) × ShowsEnd g some other after)
shown_for_some g places before after (Ok ends) shows = λ is. (places, before, shows is)
shown_for_some g places before after (Err refusal) shows = shows
