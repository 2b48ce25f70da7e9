-- A prefix of a log, in the two words for it.
use Rattle.std.specs.Prelude.{List, [], ◌∷◌}
use Rattle.std.proofs.Common.{refl}
use mathlib.Core.List.{IsPrefix}
use Rattle.desk_types.specs.declared.command.Entry.{Entry}
use Rattle.desk_log.specs.Entries.{IsLogPrefix}

pub begins : (xs ys : List Entry) → IsLogPrefix xs ys → IsPrefix xs ys
begins [] ys h = (ys, refl)
begins (x ∷ xs) [] h = absurd h
begins (x ∷ xs) (y ∷ ys) h =
    let r = begins xs ys h.1 in
    (r.0, cc (h.0, r.1))
