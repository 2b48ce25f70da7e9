-- What is printed to standard error where words are refused, and where a program does not run what they ask for.
use Rattle.std.specs.Prelude.{◌≡◌, ◌++◌, ℕ, List, codes, string_bytes, ⊤}
use Rattle.desk_types.specs.declared.refusal.Refusal.TheVariants as refusals
use Rattle.desk_output.specs.Printing.{printed_line}
use Rattle.desk_output.specs.declared.printing.TheConstants.{FAILED, REFUSED}
use Rattle.desk_options.specs.declared.command_line.OptionsFault.{OptionsFault}
use Rattle.desk_options.specs.declared.command_line.OptionsFault.TheVariants as options

-- a refusal of words by this text; of one for which there is no memory, that is the fault
abbrev pub IsRefusalBy : List ℕ → OptionsFault → Type 0
IsRefusalBy text options.WantOfMemory = ⊤
IsRefusalBy text (options.Refused printed) = string_bytes printed ≡ text

-- what is printed where there are no options
abbrev pub printed_text : OptionsFault → List ℕ
printed_text options.WantOfMemory = printed_line refusals.WantOfMemory
printed_text (options.Refused text) = string_bytes text

-- and the exit status
abbrev pub options_status : OptionsFault → ℕ
options_status options.WantOfMemory = FAILED
options_status (options.Refused text) = REFUSED

-- the line that tells which commands a program runs
abbrev pub unserved_line : List ℕ → List ℕ
unserved_line commands = codes "desk: this program runs " ++ (commands ++ codes " alone\n")
