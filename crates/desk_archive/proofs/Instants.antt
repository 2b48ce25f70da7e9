-- The text that a printer gives to an instant.
use Rattle.std.proofs.Common.{◌≡◌, ◌∙◌, ℕ, ℤ, List, None, false, refl, ap}
use Rattle.jiff_core.specs.declared.timestamp.Timestamp.{Timestamp}
use Rattle.jiff_fmt.specs.Printer.{options, IsTimestampText}
use Rattle.jiff_fmt.specs.declared.temporal.printer.DateTimePrinter.{DateTimePrinter}
use Rattle.desk_archive.specs.Document.{IsInstantText, nanoseconds}

pub instant_printed : (p : DateTimePrinter) (t : Timestamp) (text : List ℕ) (seconds : ℤ)
    → options p ≡ (false, 84, None) → t.nanosecond ≡ nanoseconds seconds → IsTimestampText p t text
    → IsInstantText seconds text
instant_printed p t text seconds o is h =
    let lower : p.lowercase ≡ false = ap (λ x. x.0) o in
    let separator : p.separator ≡ 84 = ap (λ x. x.1) o in
    let precision : p.precision ≡ None = ap (λ x. x.2) o in
    (h.0, h.1 ∙ is, h.2 ∙ rw (lower, separator, precision) refl)
