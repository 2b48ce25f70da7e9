-- Sessions that have asked nothing.
use Rattle.std.proofs.Common.{◌≡◌, ℕ, ◌+◌, List, [], ◌∷◌, ◌++◌, replicate, ap, ◌∙◌}
use Rattle.std.proofs.lemmas.List.{replicate_more}
use Rattle.desk_threads.specs.Waiting.{SessionValue, idle}

-- one more of them
pub idle_more : (old new : List SessionValue) (k : ℕ) → old ≡ replicate k idle → new ≡ old ++ idle ∷ [] →
    new ≡ replicate (k + 1) idle
idle_more old new k same more = more ∙ ap (λ l. l ++ idle ∷ []) same ∙ replicate_more k idle
