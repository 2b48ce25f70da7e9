-- That a hasher of SHA-256 holds a message has one proof at most.
use Rattle.std.specs.Prelude.{ℕ, List}
use Rattle.std.specs.Coded.{Coded-set, ×_prop, coded_ℕ, coded_list}
use Rattle.sha2.specs.Hashers.{Holds256}
use Rattle.sha2.specs.Sha256.{Holds}
use Rattle.sha2.specs.declared.Sha256.{Sha256}

-- A hasher holds a message by equations alone.
pub Holds256-prop : (hasher : Sha256) (message : List ℕ) → IsProp (Holds256 hasher message)
unfolding Holds
Holds256-prop hasher message = ×_prop (Coded-set coded_ℕ _ _)
    (×_prop (Coded-set (coded_list coded_ℕ) _ _) (Coded-set (coded_list coded_ℕ) _ _))
