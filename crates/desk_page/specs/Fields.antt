-- The fields of an answer, before those that hold the browser to this site.
use Rattle.std.specs.Prelude.{◌≡◌, ◌⊎◌, ℕ, ◌==◌, Bool, true, false, List, [], ◌∷◌, ◌++◌, codes, decimal}
use Rattle.std.specs.Prelude.{if◌then◌else◌, Option}
use Rattle.http1.specs.Fields.{Header}
use Rattle.httpdate.specs.declared.date.HttpDate.{HttpDate}
use Rattle.httpdate.specs.Date.{date_text}
use Rattle.desk_http.specs.declared.asked.Asked.{Asked}
use Rattle.desk_http.specs.declared.asked.Asked.TheVariants as asks
use Rattle.desk_page.specs.Groups.{group_text}

-- the field that says what a text is
abbrev pub kind_fields : List ℕ → List Header
kind_fields kind = (codes "content-type", kind) ∷ []

abbrev pub json_fields : List Header
json_fields = kind_fields (codes "application/json")

abbrev pub index_fields : List Header
index_fields = kind_fields (codes "text/html; charset=utf-8")

abbrev pub style_fields : List Header
style_fields = kind_fields (codes "text/css; charset=utf-8")

abbrev pub script_fields : List Header
script_fields = kind_fields (codes "text/javascript; charset=utf-8")

abbrev pub icon_fields : List Header
icon_fields = kind_fields (codes "image/svg+xml")

abbrev pub metrics_fields : List Header
metrics_fields = kind_fields (codes "text/plain; version=0.0.4; charset=utf-8")

-- a text is JSON where there is one, by its status
abbrev pub json_by : ℕ → List Header
json_by status = if status == 200 then json_fields else []

-- whether the nodes answer
abbrev pub live_text : Bool → List ℕ
live_text true = codes "1"
live_text false = codes "0"

-- which run of the server it is, whether the nodes answer, and their places
abbrev pub group_fields : ℕ → Bool → List (Option ℕ) → List Header
group_fields run is_live places =
    (codes "desk-of", decimal run) ∷ (codes "desk-live", live_text is_live)
    ∷ (codes "desk-nodes", group_text places) ∷ []

-- The fields of a board's answer, by its status, of this run and of some nodes.
abbrev pub AreBoardFields : ℕ → ℕ → List Header → Type 0
AreBoardFields run status fields =
    (is_live : Bool) × (places : List (Option ℕ)) × (fields ≡ group_fields run is_live places ++ json_by status)

-- The fields stay, or grow by a date.
abbrev pub AddsDate : List Header → List Header → Type 0
AddsDate old new = (new ≡ old) ⊎ ((date : HttpDate) × (new ≡ old ++ (codes "date", date_text date) ∷ []))

-- the fields of the answer to what is asked for, by its status
abbrev pub AreFields : Asked → ℕ → ℕ → List Header → Type 0
AreFields asks.Index run status fields = fields ≡ index_fields
AreFields asks.Style run status fields = fields ≡ style_fields
AreFields asks.Script run status fields = fields ≡ script_fields
AreFields asks.Icon run status fields = fields ≡ icon_fields
AreFields asks.Board run status fields = AreBoardFields run status fields
AreFields asks.Metrics run status fields = fields ≡ metrics_fields
AreFields asks.Command run status fields = fields ≡ json_by status
AreFields other run status fields = fields ≡ []
