-- What comes of the opening of a past epoch's store.
use Rattle.std.specs.Prelude.{ℕ, Option}

-- What opened it, its epoch, and the store, where it was opened.
pub record PastStoreValue (P S : Type 0) : Type 0 where
  pub past : P
  pub epoch : ℕ
  pub store : Option S
