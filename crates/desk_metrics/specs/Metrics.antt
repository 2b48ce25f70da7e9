-- The metrics of a page's server, in Prometheus' text exposition format 0.0.4.
use Rattle.std.specs.Prelude.{ℕ, ◌+◌, List, [], ◌∷◌, ◌++◌, codes, decimal, flat_map, Option, Some, None}
use Rattle.desk_metrics.specs.declared.counts.Counts.{Counts}
use Rattle.desk_metrics.specs.declared.latency.Bucket.{Bucket}
use Rattle.desk_metrics.specs.declared.latency.Latency.{Latency}
use Rattle.desk_metrics.specs.declared.status.StatusCount.{StatusCount}

-- 1 where a node shows a place, and 0 where it is down
abbrev pub up_value : Option ℕ → ℕ
up_value None = 0
up_value (Some place) = 1

-- the sample of a metric, of a node
abbrev pub node_sample : List ℕ → ℕ → ℕ → List ℕ
node_sample name node value =
    name ++ (codes "{node=\"" ++ (decimal node ++ (codes "\"} " ++ (decimal value ++ codes "\n"))))

-- the sample that says whether a node is up
abbrev pub up_line : ℕ → Option ℕ → List ℕ
up_line node place = node_sample (codes "desk_page_node_up") node (up_value place)

-- the sample of a node's place; a node that is down has none
abbrev pub place_line : ℕ → Option ℕ → List ℕ
place_line node None = []
place_line node (Some place) = node_sample (codes "desk_page_node_place") node place

-- the lines of nodes that are numbered from one on
abbrev pub samples_from : (ℕ → Option ℕ → List ℕ) → ℕ → List (Option ℕ) → List ℕ
samples_from line node [] = []
samples_from line node (place ∷ places) = line node place ++ samples_from line (node + 1) places

abbrev pub up_head : List ℕ
up_head =
    codes "# HELP desk_page_node_up Whether a node showed its board when it was asked last.\n"
    ++ codes "# TYPE desk_page_node_up gauge\n"

abbrev pub place_head : List ℕ
place_head =
    codes "# HELP desk_page_node_place The place in the log of the board that a node showed last.\n"
    ++ codes "# TYPE desk_page_node_place gauge\n"

-- which nodes are up, and their places
abbrev pub nodes_text : List (Option ℕ) → List ℕ
nodes_text places =
    up_head ++ (samples_from up_line 0 places ++ (place_head ++ samples_from place_line 0 places))

-- how many texts browsers sent for nodes, by what became of them
abbrev pub commands_text : Counts → List ℕ
commands_text counts =
    codes "# HELP desk_page_commands_total Requests to /command from this page, by outcome.\n"
    ++ (codes "# TYPE desk_page_commands_total counter\n"
    ++ (codes "desk_page_commands_total{outcome=\"done\"} " ++ (decimal counts.done
    ++ (codes "\ndesk_page_commands_total{outcome=\"refused\"} " ++ (decimal counts.refused
    ++ (codes "\ndesk_page_commands_total{outcome=\"unanswered\"} " ++ (decimal counts.unanswered
    ++ (codes "\ndesk_page_commands_total{outcome=\"busy\"} " ++ (decimal counts.busy
    ++ codes "\n")))))))))

-- the sample that says how many took at most so many seconds
abbrev pub bucket_line : Bucket → List ℕ
bucket_line bucket =
    codes "desk_page_command_duration_seconds_bucket{le=\""
    ++ (bucket.le.now ++ (codes "\"} " ++ (decimal bucket.count ++ codes "\n")))

abbrev pub latency_head : List ℕ
latency_head =
    codes "# HELP desk_page_command_duration_seconds How long requests to /command from this page took.\n"
    ++ codes "# TYPE desk_page_command_duration_seconds histogram\n"

-- all of them; a sum of microseconds is written in seconds, as in `1500e-6`
abbrev pub latency_sums : Latency → List ℕ
latency_sums latency =
    codes "desk_page_command_duration_seconds_bucket{le=\"+Inf\"} " ++ (decimal latency.count
    ++ (codes "\ndesk_page_command_duration_seconds_sum " ++ (decimal latency.microseconds
    ++ (codes "e-6\ndesk_page_command_duration_seconds_count " ++ (decimal latency.count ++ codes "\n")))))

-- how long they took
abbrev pub latency_text : Latency → List ℕ
latency_text latency = latency_head ++ (flat_map bucket_line latency.buckets ++ latency_sums latency)

-- how many connections of browsers are open
abbrev pub connections_text : ℕ → List ℕ
connections_text connections =
    codes "# HELP desk_page_connections Connections of browsers that are open.\n"
    ++ (codes "# TYPE desk_page_connections gauge\n"
    ++ (codes "desk_page_connections " ++ (decimal connections ++ codes "\n")))

-- the sample that says how many requests were refused by a status
abbrev pub refused_line : StatusCount → List ℕ
refused_line row =
    codes "desk_page_refused_requests_total{status=\""
    ++ (decimal row.status ++ (codes "\"} " ++ (decimal row.count ++ codes "\n")))

abbrev pub refused_head : List ℕ
refused_head =
    codes "# HELP desk_page_refused_requests_total Requests that were refused, by the status of the answer.\n"
    ++ codes "# TYPE desk_page_refused_requests_total counter\n"

-- how many requests were refused
abbrev pub refused_text : List StatusCount → List ℕ
refused_text rows = refused_head ++ flat_map refused_line rows

-- The whole text: each metric with what it is, its type and its samples.
abbrev pub metrics_text : List (Option ℕ) → Counts → List ℕ
metrics_text places counts =
    nodes_text places
    ++ (commands_text counts
    ++ (latency_text counts.latency
    ++ (connections_text counts.connections ++ refused_text counts.statuses)))
