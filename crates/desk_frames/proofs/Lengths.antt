-- A length out of range is never waited for.
use Rattle.std.proofs.Common.{◌≡◌, ◌≢◌, inl, inr, ℕ, ◌≤◌, List, length, refl, sym, subst, ◌∙◌, arith}
use Rattle.std.proofs.lemmas.List.{append_cancel_left}
use Rattle.desk_codec.specs.Ranges.{IsPacketLength}
use Rattle.desk_frames.specs.Stream.{Standing, Open, Doomed, Stopped, Holds, IsPartial, frames_spelling}
use Rattle.desk_frames.specs.Stream.{announced_length}
use Rattle.desk_frames.specs.Lengths.{WaitsForGoodLengths}

partial_good : (rest : List ℕ) → IsPartial rest → 4 ≤ length rest → IsPacketLength (announced_length rest)
partial_good rest (inl lt) le = absurd (omega (arith, lt, le))
partial_good rest (inr p) le = p.0

held_good : (standing : Standing) (rest : List ℕ) → Holds standing rest → standing ≢ Stopped → 4 ≤ length rest →
    IsPacketLength (announced_length rest)
held_good (Open preserved) rest h go le = partial_good rest (subst IsPartial (sym h.0) h.1) le
held_good (Doomed left) rest h go le = h.2
held_good Stopped rest h go le = absurd (go refl)

pub waits_for_good : WaitsForGoodLengths
waits_for_good old new bytes piece rest ms h fed go e le =
    let more = fed.2.1 bytes h in
    let same : more.0 ≡ rest = append_cancel_left (frames_spelling ms) more.0 rest (sym more.1 ∙ e) in
    held_good new rest (subst (Holds new) same more.2) go le
