-- What is left of a reader with a buffer.
use Rattle.std.proofs.Common.{◌≡◌, ◌∙◌, ℕ, List, [], Option, None, Some, refl, ap}
use Rattle.std.specs.Prelude.{◌==◌, if◌then◌else◌}
use Rattle.std.specs.Io.KnownBytes.{prepend_known}
use Rattle.std.specs.Io.Buffered.{reader_buffer, reader_capacity, reader_inner, reader_remaining}
use Rattle.std.specs.declared.io.buffered.BufReader.{BufReader}

nothing_before : (known : Option (List ℕ)) → prepend_known [] known ≡ known
nothing_before None = refl
nothing_before (Some bytes) = refl

-- of one that has read nothing yet it is what is left of the reader inside
pub nothing_read : {T A : Type 0} (remaining : T → Option (List ℕ)) (r : BufReader T A) (inner : T) →
    reader_inner r ≡ inner → reader_buffer r ≡ [] → reader_capacity r ≡ 8192 →
    reader_remaining remaining r ≡ remaining inner
nothing_read remaining r inner is empty capacity =
    ap (λ n. if n == 0 then None else prepend_known (reader_buffer r) (remaining r.inner)) capacity
    ∙ ap (λ bytes. prepend_known bytes (remaining r.inner)) empty
    ∙ ap (λ i. prepend_known [] (remaining i)) is ∙ nothing_before (remaining inner)
