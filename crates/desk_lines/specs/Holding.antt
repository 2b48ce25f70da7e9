-- What a line buffer holds.
use Rattle.std.specs.Prelude.{ℕ, List}
use Rattle.desk_lines.specs.declared.buffer.LineBuffer.{LineBuffer}
use Rattle.desk_lines.specs.Lines.{HasCome}

-- It holds this much of a line.
abbrev pub HoldsLine : LineBuffer → List ℕ → Type 0
HoldsLine buffer line = HasCome buffer.bytes.items buffer.is_long line
