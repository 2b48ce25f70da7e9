-- The text of a run, where the input is known.
use Rattle.std.proofs.Common.{◌≡◌, ℕ, List, Option, None, Some, IfSome, inr, refl, subst}
use Rattle.desk_log.specs.SavedValue.{SavedValue}
use Rattle.desk_world.specs.Report.{OutputValue, IsReport}
use Rattle.desk_lines.specs.Lines.{lines_of}
use Rattle.desk_output.specs.Prefixes.{AppendsPrefix}
use Rattle.desk_script.specs.ReportText.{report_text}
use Rattle.desk_script.specs.Script.{first_no_event, events_of}
use Rattle.desk_script.specs.WorldRun.{AppendsWorldPrefix, IsScriptFault, IsWorldStreamsFault}
use Rattle.desk_script.specs.declared.world.WorldFault.{WorldFault}
use Rattle.desk_script.specs.declared.world.WorldFault.TheVariants as faults

-- what was read is the input
pub of_input : (input : Option (List ℕ)) (bytes : List ℕ) (P : List ℕ → Type 0) →
    IfSome input (λ xs. bytes ≡ xs) → P bytes → IfSome input P
of_input None bytes P same h = tt
of_input (Some xs) bytes P same h = subst P same h

pub world_prefix : (input old new : Option (List ℕ)) (domain : List ℕ) (n : ℕ) (bytes text : List ℕ)
    (outputs : List OutputValue) (nodes : List SavedValue) → IfSome input (λ xs. bytes ≡ xs) →
    first_no_event (lines_of bytes) ≡ None → IsReport domain n (events_of (lines_of bytes)) outputs nodes →
    text ≡ report_text outputs nodes → AppendsPrefix old new text →
    IfSome input (λ xs. AppendsWorldPrefix old new domain n xs)
world_prefix input old new domain n bytes text outputs nodes same alone report is written =
    of_input input bytes (λ xs. AppendsWorldPrefix old new domain n xs) same (
      text,
      record {
        events_alone = alone;
        outputs = outputs;
        nodes = nodes;
        report = report;
        text_is = is;
      },
      written,
    )

-- the reading of a script ended early, where no call failed
pub script_calls : (fault : WorldFault) (reads reads' writes : Option ℕ) → IsScriptFault fault → reads' ≡ reads →
    IsWorldStreamsFault fault reads reads' writes writes
script_calls (faults.NoEvent line) reads reads' writes script read = (read, refl)
script_calls (faults.Refused refusal) reads reads' writes want read = inr (read, inr (want, refl))
