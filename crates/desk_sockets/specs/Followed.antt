-- What is written for the lines that are sent to a group.
use Rattle.std.specs.Prelude.{ℕ, List, Option}
use Rattle.desk_lines.specs.Lines.{lines_of}
use Rattle.desk_lines.specs.Served.{Served}

-- The lines of a text that are not skipped were answered, and exactly the answers written.
abbrev pub IsAnswered : {S : Type 0} → (S → List ℕ → List ℕ → S → Type 0) → S → Option (List ℕ) → List ℕ →
    Option (List ℕ) → Type 0
IsAnswered {S} answers old out text out' = (new : S) × Served answers old out (lines_of text) new out'
