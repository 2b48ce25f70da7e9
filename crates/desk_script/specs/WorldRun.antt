-- What a run of a group of nodes over a script reads and writes.
use Rattle.std.specs.Prelude.{◌≡◌, ℕ, List, Option, Some, None}
use Rattle.std.specs.Io.KnownBytes.{Appends}
use Rattle.desk_types.specs.declared.refusal.Refusal.TheVariants as refusals
use Rattle.desk_log.specs.SavedValue.{SavedValue}
use Rattle.desk_world.specs.Report.{OutputValue, IsReport}
use Rattle.desk_lines.specs.Lines.{lines_of}
use Rattle.desk_lines.specs.FailedCalls.{NoneFailed, IsStreamsFault, IsWant}
use Rattle.desk_output.specs.Prefixes.{AppendsPrefix}
use Rattle.desk_script.specs.ReportText.{report_text}
use Rattle.desk_script.specs.Script.{first_no_event, events_of}
use Rattle.desk_script.specs.declared.world.WorldFault.{WorldFault}
use Rattle.desk_script.specs.declared.world.WorldFault.TheVariants.{NoEvent, Refused}
use Rattle.desk_types.specs.Refusal.{IsStreamFault}

-- Each line of the input is blank or an event, and the text is that of the report of n new nodes, whose desk has this
-- domain, through these events.
pub record IsWorldText (domain : List ℕ) (n : ℕ) (input text : List ℕ) : Type 0 where
  pub events_alone : first_no_event (lines_of input) ≡ None
  pub outputs : List OutputValue
  pub nodes : List SavedValue
  pub report : IsReport domain n (events_of (lines_of input)) outputs nodes
  pub text_is : text ≡ report_text outputs nodes

-- known bytes grow by that text
abbrev pub AppendsWorld : Option (List ℕ) → Option (List ℕ) → List ℕ → ℕ → List ℕ → Type 0
AppendsWorld old new domain n input = (text : List ℕ) × IsWorldText domain n input text × Appends old new text

-- known bytes grow by a prefix of it
abbrev pub AppendsWorldPrefix : Option (List ℕ) → Option (List ℕ) → List ℕ → ℕ → List ℕ → Type 0
AppendsWorldPrefix old new domain n input =
    (text : List ℕ) × IsWorldText domain n input text × AppendsPrefix old new text

-- The first line of the input that is no event has this number, where the fault names one.
abbrev pub IsNoEventOf : List ℕ → WorldFault → Type 0
IsNoEventOf input (NoEvent line) = first_no_event (lines_of input) ≡ Some line
IsNoEventOf input (Refused refusal) = Unit {0}

-- this holds where the fault is a line that is no event
abbrev pub OnNoEvent : WorldFault → Type 0 → Type 0
OnNoEvent (NoEvent line) P = P
OnNoEvent (Refused refusal) P = Unit {0}

-- what ends a run early: a line that is no event, want of memory, or a fault of reading or writing
abbrev pub IsWorldFault : WorldFault → Type 0
IsWorldFault (NoEvent line) = Unit {0}
IsWorldFault (Refused refusal) = IsStreamFault refusal

-- No call failed where a line is no event; else the fault is that of the one call that failed, where one did.
abbrev pub IsWorldStreamsFault : WorldFault → Option ℕ → Option ℕ → Option ℕ → Option ℕ → Type 0
IsWorldStreamsFault (NoEvent line) reads reads' writes writes' = NoneFailed reads reads' writes writes'
IsWorldStreamsFault (Refused refusal) reads reads' writes writes' =
    IsStreamsFault IsWant refusal reads reads' writes writes'

-- what ends the reading of a script early: a line that is no event, or want of memory
abbrev pub IsScriptFault : WorldFault → Type 0
IsScriptFault (NoEvent line) = Unit {0}
IsScriptFault (Refused refusal) = refusal ≡ refusals.WantOfMemory
