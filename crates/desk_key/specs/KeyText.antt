-- The text by which a file spells a key.
use Rattle.std.specs.Prelude.{◌≡◌, ℕ, Bool, true, List, take, drop, Ok, ◌==◌, ◌||◌}
use Rattle.std.specs.List.{list_all}
use Rattle.hex.specs.Hex.{decode_sized}

-- whether a byte is a space, a tab, or of an end of a line
abbrev pub is_blank : ℕ → Bool
is_blank byte = byte == 32 || byte == 9 || byte == 13 || byte == 10

-- whether all bytes are zero
abbrev pub is_zeros : List ℕ → Bool
is_zeros bytes = list_all (λ byte. byte == 0) bytes

-- The text is 64 hexadecimal digits, which spell these 32 bytes, and then blanks alone.
pub record IsKeyText (text bytes : List ℕ) : Type 0 where
  pub digits : decode_sized (take 64 text) 32 ≡ Ok bytes
  pub rest : list_all is_blank (drop 64 text) ≡ true
