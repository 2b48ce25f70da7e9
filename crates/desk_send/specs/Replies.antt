-- The reply lines of a node.
use Rattle.std.specs.Prelude.{◌≡◌, ◌≤◌, ℕ, Bool, true, false, List, [], ◌∷◌, ◌++◌, length, Option}
use Rattle.std.specs.Io.KnownBytes.{Consumes}
use Rattle.std.specs.Str.{IsUtf8}
use Rattle.desk_lines.specs.Lines.{IsOneLine}
use Rattle.desk_send.specs.declared.fault.NodeFault.{NodeFault}
use Rattle.desk_send.specs.declared.fault.NodeFault.TheVariants as faults
use Rattle.desk_send.specs.declared.reply.TheConstants.{REPLY_BYTES}

-- a line and its newline
abbrev pub IsWholeLine : List ℕ → Type 0
IsWholeLine text = (line : List ℕ) × (text ≡ line ++ 10 ∷ []) × IsOneLine line

-- a line with its newline, or a part of a line that has none
abbrev pub EndsAs : Bool → List ℕ → Type 0
EndsAs true run = IsWholeLine run
EndsAs false run = IsOneLine run

-- A line with its newline that is UTF-8 and no longer than a reply may be.
pub record IsReplyLine (text : List ℕ) : Type 0 where
  pub whole : IsWholeLine text
  pub fits : length text ≤ REPLY_BYTES
  pub is_text : IsUtf8 text

-- Some bytes were read. Where that is the node's fault, they are no reply line.
abbrev pub ReadsNone : NodeFault → Option (List ℕ) → Option (List ℕ) → Type 0
ReadsNone fault old new =
    (came : List ℕ) × Consumes old new came × (fault ≡ faults.Broken → IsReplyLine came → ⊥)
