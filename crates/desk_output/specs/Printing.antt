-- What is printed to standard error about faults and refusals.
use Rattle.std.specs.Prelude.{ℕ, List, ◌++◌, Option, codes, decimal, flat_map}
use Rattle.desk_types.specs.Refusal.{refusal_number, name_of}
use Rattle.desk_types.specs.declared.refusal.Refusal.{Refusal}
use Rattle.desk_output.specs.Prefixes.{AppendsPrefix}
use Rattle.desk_output.specs.declared.printing.LinePart.{LinePart}
use Rattle.desk_output.specs.declared.printing.LinePart.TheVariants as parts

-- the line that tells a fault, by its number and its name
unfoldable pub printed_line : Refusal → List ℕ
printed_line refusal =
    codes "desk: " ++ (decimal (refusal_number refusal) ++ (codes " " ++ (name_of refusal ++ codes "\n")))

-- the bytes of a part of a line
abbrev pub part_text : LinePart → List ℕ
part_text (parts.Text text) = text.now
part_text (parts.Number number) = decimal number

-- the bytes of parts, one after the other
abbrev pub parts_text : List LinePart → List ℕ
parts_text line = flat_map part_text line

-- known bytes grow by a prefix of the line of the fault
abbrev pub PrintsLine : Option (List ℕ) → Option (List ℕ) → Refusal → Type 0
PrintsLine old new refusal = AppendsPrefix old new (printed_line refusal)

-- known bytes grow by a prefix of a text that begins with the line of the fault
abbrev pub PrintsFirst : Option (List ℕ) → Option (List ℕ) → Refusal → Type 0
PrintsFirst old new refusal = (more : List ℕ) × AppendsPrefix old new (printed_line refusal ++ more)
