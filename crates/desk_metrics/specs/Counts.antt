-- What the counts of the page's server are after each thing that is counted.
use Rattle.std.specs.Prelude.{ℕ, ◌+◌, ◌-◌, ◌^◌, ◌==◌, nat_le, min, Bool, map, if◌then◌else◌}
use Rattle.desk_metrics.specs.declared.counts.Counts.{Counts}
use Rattle.desk_metrics.specs.declared.counts.CommandOutcome.{CommandOutcome}
use Rattle.desk_metrics.specs.declared.counts.CommandOutcome.TheVariants as outcomes
use Rattle.desk_metrics.specs.declared.latency.Bucket.{Bucket}
use Rattle.desk_metrics.specs.declared.latency.Latency.{Latency}
use Rattle.desk_metrics.specs.declared.status.StatusCount.{StatusCount}

-- so many more, up to the greatest word
abbrev pub count_more : ℕ → ℕ → ℕ
count_more count n = min (count + n) (2 ^ 64 - 1)

abbrev pub next_count : ℕ → ℕ
next_count count = count_more count 1

-- one more, where that is so
abbrev pub counted : ℕ → Bool → ℕ
counted count is = if is then next_count count else count

-- a bucket counts what took no longer than its bound
abbrev pub observed : ℕ → Bucket → Bucket
observed microseconds bucket = record bucket { count = counted bucket.count (nat_le microseconds bucket.bound) }

-- how long texts took, with one that took so long
abbrev pub latency_after : ℕ → Latency → Latency
latency_after microseconds latency = record latency {
  buckets = map (observed microseconds) latency.buckets;
  count = next_count latency.count;
  microseconds = count_more latency.microseconds microseconds;
}

-- the counts with one more text that a browser sent for nodes, by what became of it
abbrev pub after_outcome : CommandOutcome → Counts → Counts
after_outcome outcomes.Done counts = record counts { done = next_count counts.done }
after_outcome outcomes.Refused counts = record counts { refused = next_count counts.refused }
after_outcome outcomes.Unanswered counts = record counts { unanswered = next_count counts.unanswered }
after_outcome outcomes.Busy counts = record counts { busy = next_count counts.busy }

-- the count of a status, with one more answer
abbrev pub counted_status : ℕ → StatusCount → StatusCount
counted_status status row = record row { count = counted row.count (status == row.status) }
