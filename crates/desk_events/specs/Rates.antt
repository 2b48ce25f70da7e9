-- How many events of each kind get a line in one second.
use Rattle.std.specs.Prelude.{◌≡◌, ℕ, ◌+◌, ◌-◌, ◌^◌, ◌==◌, min, nat_lt, Bool, if◌then◌else◌, replicate}
use Rattle.std.specs.Prelude.{slice_index, slice_set}
use Rattle.desk_events.specs.declared.event.TheConstants.{KINDS}
use Rattle.desk_events.specs.declared.rates.EventRates.{EventRates}
use Rattle.desk_events.specs.declared.rates.TheConstants.{EVENTS_A_SECOND}

-- no event has come in this second
abbrev pub new_rates : ℕ → EventRates
new_rates second = record { second = second; announced = replicate KINDS 0; suppressed = 0 }

-- how many events got no line before this second
abbrev pub suppressed_before : ℕ → EventRates → ℕ
suppressed_before second rates = if second == rates.second then 0 else rates.suppressed

-- the counts in this second
abbrev pub rates_in : ℕ → EventRates → EventRates
rates_in second rates = if second == rates.second then rates else new_rates second

-- An event of a kind gets a line where fewer of its kind have got one than may.
abbrev pub is_announced : ℕ → EventRates → Bool
is_announced kind rates = nat_lt (slice_index rates.announced kind) EVENTS_A_SECOND

-- the counts, where so many more events got no line
abbrev pub with_suppressed : ℕ → EventRates → EventRates
with_suppressed count rates = record rates { suppressed = min (rates.suppressed + count) (2 ^ 64 - 1) }

-- the counts with one more event of a kind
abbrev pub after_event : ℕ → EventRates → EventRates
after_event kind rates =
    if is_announced kind rates
    then record rates { announced = slice_set rates.announced kind (slice_index rates.announced kind + 1) }
    else with_suppressed 1 rates

-- the counts, where it was written how many events got no line
abbrev pub without_suppressed : EventRates → EventRates
without_suppressed rates = record rates { suppressed = 0 }

-- As many lines of each kind were written in the second.
abbrev pub HaveAnnouncedSame : EventRates → EventRates → Type 0
HaveAnnouncedSame old new = without_suppressed new ≡ without_suppressed old
