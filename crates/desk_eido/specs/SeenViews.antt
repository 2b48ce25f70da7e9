-- What the code sees of a value, as the definitions name it.
use Rattle.desk_eido.specs.declared.seen.Seen.TheVariants as variants
use Rattle.desk_eido.specs.declared.seen.Seen.{Seen}
use Rattle.desk_eido.specs.Seen as seen

-- a value seen in the code
abbrev pub seen_view : Seen → seen.Seen
seen_view (variants.Text t) = seen.text t.now
seen_view (variants.Natural n) = seen.natural n
seen_view variants.Negative = seen.negative
seen_view variants.Other = seen.other
