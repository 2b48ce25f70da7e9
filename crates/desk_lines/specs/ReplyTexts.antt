-- What is written for a line.
use Rattle.std.specs.Prelude.{ℕ, List, string_bytes}
use Rattle.desk_types.specs.declared.outcome.Outcome.TheVariants as outcomes
use Rattle.desk_types.specs.declared.refusal.Refusal.TheVariants as refusals
use Rattle.desk_eido.specs.ReplyLine.{line_of}
use Rattle.desk_lines.specs.declared.handler.ReplyText.{ReplyText}
use Rattle.desk_lines.specs.declared.handler.ReplyText.TheVariants as replies

-- the bytes of a reply
abbrev pub bytes_of : ReplyText → List ℕ
bytes_of (replies.Line text) = string_bytes text
bytes_of replies.WantOfMemory = line_of (outcomes.Document refusals.WantOfMemory)
