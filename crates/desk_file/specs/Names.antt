-- The names of a node's files.
use Rattle.std.specs.Prelude.{ℕ, List, ◌∷◌, ◌++◌, ◌==◌, if◌then◌else◌, decimal}

-- the name of the file of an epoch: that of the first epoch's, and for each other one a dot and its number after it
abbrev pub name_in_epoch : List ℕ → ℕ → List ℕ
name_in_epoch file epoch = if epoch == 0 then file else file ++ (46 ∷ decimal epoch)
