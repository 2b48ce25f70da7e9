-- A frame whose length is written once its packet stands after it.
use Rattle.std.proofs.Common.{◌≡◌, ℕ, ◌+◌, ◌-◌, List, ◌++◌, length, take, drop, ap, ◌∙◌, arith}
use Rattle.std.specs.Int.{w32, to_be_bytes}
use Rattle.std.proofs.lemmas.List.{length-append, drop_at}
use Rattle.desk_types.specs.declared.packet.Message.{Message}
use Rattle.desk_codec.specs.Spelling.{packet_spelling, frame_spelling}

module _ (m : Message) (room whole : List ℕ) (four : length room ≡ 4) (put : whole ≡ room ++ packet_spelling m) where
  pub whole_length : length whole ≡ 4 + length (packet_spelling m)
  whole_length = ap length put ∙ length-append room (packet_spelling m) ∙ ap (λ k. k + length (packet_spelling m)) four

  -- the length was written over the four bytes
  pub length_written : (count : ℕ) (bytes new : List ℕ) → count ≡ length whole - 4 → bytes ≡ to_be_bytes w32 count →
      new ≡ take 0 whole ++ (bytes ++ drop (0 + length bytes) whole) → new ≡ frame_spelling m
  unfolding frame_spelling
  length_written count bytes new counted are e =
      let p = packet_spelling m in
      let n : count ≡ length p = omega (arith, counted, whole_length) in
      let beyond : drop 4 whole ≡ p = ap (drop 4) put ∙ drop_at room p 4 four in
      e ∙ ap (λ (b : List ℕ). b ++ drop (0 + length b) whole) are ∙ ap (λ r. to_be_bytes w32 count ++ r) beyond
      ∙ ap (λ k. to_be_bytes w32 k ++ p) n
