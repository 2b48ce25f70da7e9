-- What a writer of a board has noted.
use Rattle.std.proofs.Common.{◌≡◌, ◌∙◌, ◌++◌, ℕ, List, length, take, sym, ap}
use Rattle.std.proofs.Math.Seq.{take-append_seam, take-length}
use Rattle.desk_published.specs.Writer.{EqualsPrefix, followed_by}

-- all that was noted stands before what comes after it
pub noted_before : {A : Type 0} (base : ℕ) (noted entries : List A) → base ≡ length noted →
    EqualsPrefix noted (followed_by base noted entries)
noted_before base noted entries is =
    rw is (sym (ap (λ l. take (length noted) (l ++ entries)) (take-length noted) ∙ take-append_seam noted entries))
