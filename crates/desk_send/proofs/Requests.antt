-- What is sent for a line, from what was kept of it.
use Rattle.std.proofs.Common.{◌≡◌, ℕ, Bool, true, false, List, [], ◌∷◌, ◌++◌, cond, refl, ap}
use Rattle.desk_lines.specs.Lines.{HasCome}
use Rattle.desk_lines.proofs.LinesSoFar.{is_whole}
use Rattle.desk_send.specs.Exchanges.{request}

pub request_is : (preserved : List ℕ) (is_long : Bool) (line : List ℕ) → HasCome preserved is_long line →
    preserved ++ cond is_long (32 ∷ 10 ∷ []) (10 ∷ []) ≡ request line
request_is preserved true line h = rw (← h.long_is) (ap (λ l. l ++ 32 ∷ 10 ∷ []) h.preserved_is)
request_is preserved false line h =
    rw (← h.long_is) (ap (λ l. l ++ 10 ∷ []) (is_whole preserved false line refl h))
