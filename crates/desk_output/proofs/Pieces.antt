-- Pieces that reads give of known bytes.
use Rattle.std.proofs.Common.{◌≡◌, ℕ, List, [], take, Option}
use Rattle.std.specs.Io.KnownBytes.{Consumes, IsAtEnd}

-- a read that gave nothing
pub read_none : (left rest : Option (List ℕ)) (count : ℕ) (room : List ℕ) → Consumes left rest (take count room) →
    (count ≡ 0 → IsAtEnd rest) → count ≡ 0 → Consumes left rest [] × IsAtEnd rest
read_none left rest count room gave end none = (rw none at gave, end none)
