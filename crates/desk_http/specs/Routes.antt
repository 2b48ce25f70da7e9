-- What a request asks for.
use Rattle.std.specs.Prelude.{ℕ, not, List, codes, if◌then◌else◌}
use Rattle.http.specs.declared.request.Parts.{Parts}
use Rattle.http_uri.specs.Uri.{uri_path}
use Rattle.desk_http.specs.declared.asked.Asked.{Asked}
use Rattle.desk_http.specs.declared.asked.Asked.TheVariants as asks
use Rattle.desk_http.specs.Texts.{same}
use Rattle.desk_http.specs.Heads.{has_own_host}

-- what a path asks for
abbrev pub asked_by_path : List ℕ → Asked
asked_by_path path =
    if same path (codes "/") then asks.Index
    else if same path (codes "/page.css") then asks.Style
    else if same path (codes "/page.js") then asks.Script
    else if same path (codes "/icon.svg") then asks.Icon
    else if same path (codes "/board") then asks.Board
    else if same path (codes "/metrics") then asks.Metrics
    else if same path (codes "/command") then asks.Command
    else asks.Absent

-- what is asked for by a method; commands are posted, and all else is got
abbrev pub asked_by_method : Asked → List ℕ → Asked
asked_by_method asks.Absent method = asks.Absent
asked_by_method asks.Command method = if same method (codes "POST") then asks.Command else asks.WrongMethod
asked_by_method other method = if same method (codes "GET") then other else asks.WrongMethod

-- what a head asks for
abbrev pub asked_in : Parts → Asked
asked_in head =
    if not (has_own_host head) then asks.OtherHost
    else asked_by_method (asked_by_path (uri_path head.uri)) head.method
