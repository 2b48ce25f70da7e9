-- Lines that were followed to their end.
use Rattle.std.proofs.Common.{ℕ, List, Option, None, Some, Ok, Err}
use Rattle.std.specs.Prelude.{Result, OnOk, IsOk, IfSome}

for_some : {S : Type 0} (Serves : List ℕ → S → Type 0) (read : Option (List ℕ)) (last : S) →
    IfSome read (λ text. Serves text last) → IfSome read (λ text. (new : S) × Serves text new)
for_some Serves None last h = tt
for_some Serves (Some text) last h = (last, h)

-- where it ended well, there is a follower that they led to
pub followed : {S T E : Type 0} (Serves : List ℕ → S → Type 0) (read : Option (List ℕ)) (r : Result T E) (last : S) →
    IsOk r → OnOk r (IfSome read (λ text. Serves text last)) → IfSome read (λ text. (new : S) × Serves text new)
followed Serves read (Ok x) last is h = for_some Serves read last h
followed Serves read (Err e) last is h = absurd (cc)
