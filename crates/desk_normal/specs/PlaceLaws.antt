-- What the acknowledged place is, said of all places at once.
use Rattle.std.specs.Prelude.{◌≡◌, ◌≤◌, ◌⊎◌, ℕ, List}
use Rattle.desk_log.specs.Quorum.{faults}
use Rattle.desk_normal.specs.Acknowledgements.{votes, acknowledged_place}

-- As many nodes other than node i acknowledged the place as may fail.
abbrev pub HasVotes : ℕ → ℕ → List ℕ → ℕ → Type 0
HasVotes i n places place = faults n ≤ votes i n places place

-- The place has the votes, or is 0.
abbrev pub IsVoted : ℕ → ℕ → List ℕ → ℕ → Type 0
IsVoted i n places place = (place ≡ 0) ⊎ HasVotes i n places place

-- The place is at most len and has the votes, or is 0; and no greater one up to len has them.
pub record IsGreatest (i n : ℕ) (places : List ℕ) (len place : ℕ) : Type 0 where
  pub within : place ≤ len
  pub voted : IsVoted i n places place
  pub greatest : (other : ℕ) → other ≤ len → HasVotes i n places other → other ≤ place

abbrev pub AcknowledgedIsGreatest : Type 0
AcknowledgedIsGreatest = (i n : ℕ) (places : List ℕ) (len : ℕ) →
    IsGreatest i n places len (acknowledged_place i n places len)
