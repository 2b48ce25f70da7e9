use Rattle.std.proofs.Common.{◌≡◌, ◌-◌, ℕ, List, [], ◌∷◌, ◌++◌, length, sym, ap, ◌∙◌, arith}
use Rattle.std.proofs.lemmas.List.{with_items_is}
use Rattle.desk_codec.specs.Spelling.{frame_spelling}
use Rattle.desk_frames.proofs.Building.{whole_length, length_written}
use Rattle.desk_frames.proofs.FirstFrames.{frame_length}
use Rattle.desk_frames.proofs.output.frame_bytes.Goals as goal

pub returns : goal.returns
returns c =
    let m = c.args.packet.now in
    let room = c.extend_from_slice.new.self.items in
    let whole = c.put_packet.new.out in
    let new = c.put.new.room in
    let zeros : List ℕ = 0 ∷ 0 ∷ 0 ∷ 0 ∷ [] in
    let four : length room ≡ 4 =
    ap length c.in_ok-extend_from_slice.ensures.items ∙ ap (λ xs. length (xs ++ zeros)) c.new-out.ensures.items in
    let put = c.in_ok-put_packet.ensures.ok in
    let written : new ≡ frame_spelling m =
    length_written m room whole.items four put (c.len-count.result - 4) c.to_be_bytes.result new
    (omega (arith, c.len-count.ensures)) c.to_be_bytes.ensures (rw c.as_mut_slice.ensures.value at c.put.ensures) in
    let len = ap length written ∙ frame_length m ∙ sym (whole_length m room whole.items four put) ∙ sym whole.ok.0 in
    with_items_is whole new len ∙ written
