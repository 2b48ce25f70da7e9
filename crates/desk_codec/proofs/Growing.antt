-- Bytes that were put last.
use Rattle.std.proofs.Common.{◌≡◌, ℕ, List, [], ◌++◌, length, take, sym, ap, ◌∙◌, append_assoc, append-nil}
use Rattle.std.proofs.Common.{Result, Ok, Err}
use Rattle.std.specs.Prelude.{OnOk}
use Rattle.std.proofs.lemmas.List.{take_at}
use Rattle.desk_codec.specs.Growing.{Grows}

-- nothing was put
pub grows_none : (old new : List ℕ) → new ≡ old → Grows old new
grows_none old new e = record { more = []; parts = e ∙ sym (append-nil old) }

-- what begins with more than the old bytes
pub grows_after : (old more new : List ℕ) → Grows (old ++ more) new → Grows old new
grows_after old more new g = record { more = more ++ g.more; parts = g.parts ∙ append_assoc old more g.more }

-- bytes that were put one after another, or not
pub ruleset grows_rules = (grows_after, grows_none)

-- what was put is taken back
pub grows_back : (old new : List ℕ) (n : ℕ) → Grows old new → n ≡ length old → take n new ≡ old
grows_back old new n g e = ap (take n) g.parts ∙ take_at old g.more n (sym e)

-- what was put in two parts
pub put_after : {A E : Type 0} (result : Result A E) (old between new first second : List ℕ) →
    between ≡ old ++ first → OnOk result (new ≡ between ++ second) → OnOk result (new ≡ old ++ (first ++ second))
put_after (Ok x) old between new first second e f =
    f ∙ ap (λ r. r ++ second) e ∙ append_assoc old first second
put_after (Err x) old between new first second e f = tt
