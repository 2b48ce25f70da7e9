-- What the page's server answers.
use Rattle.std.specs.Prelude.{◌≡◌, ◌⊎◌, ℕ, true, false, List, [], ◌++◌, Option, Some, None}
use Rattle.http.specs.declared.request.Parts.{Parts}
use Rattle.http_uri.specs.Uri.{uri_query}
use Rattle.http1.specs.Fields.{Header}
use Rattle.http_server.specs.declared.response.Response.{Response}
use Rattle.http_server.specs.Response.{fields_of}
use Rattle.desk_http.specs.declared.asked.Asked.{Asked}
use Rattle.desk_http.specs.declared.asked.Asked.TheVariants as asks
use Rattle.desk_http.specs.Heads.{is_own_site}
use Rattle.desk_http.specs.Routes.{asked_in}
use Rattle.desk_http.specs.Policy.{policy_fields}
use Rattle.desk_page_files.specs.declared.index_html.TheConstants.{INDEX_HTML}
use Rattle.desk_page_files.specs.declared.page_css.TheConstants.{PAGE_CSS}
use Rattle.desk_page_files.specs.declared.page_js.TheConstants.{PAGE_JS}
use Rattle.desk_page_files.specs.declared.icon_svg.TheConstants.{ICON_SVG}
use Rattle.desk_metrics.specs.declared.counts.Counts.{Counts}
use Rattle.desk_metrics.specs.Metrics.{metrics_text}
use Rattle.desk_page.specs.Boards.{IsNewer, IsWritten}
use Rattle.desk_page.specs.Fields.{AddsDate, AreFields}
use Rattle.desk_page.specs.Query.{place_asked}

-- a status and a text are these
abbrev pub HasText : ℕ → List ℕ → ℕ → List ℕ → Type 0
HasText status text s t = (s ≡ status) × (t ≡ text)

-- the place of the board that the browser has, by its query, if there is one
abbrev pub place_by_query : ℕ → Option (List ℕ) → Option ℕ
place_by_query run None = None
place_by_query run (Some query) = place_asked run query

-- the text of the metrics of some nodes and counts
abbrev pub IsMetricsAnswer : ℕ → List ℕ → Type 0
IsMetricsAnswer s t = (places : List (Option ℕ)) × (counts : Counts) × HasText 200 (metrics_text places counts) s t

-- The fields are those for what is asked for, then the date, where the clock tells it, and then those that hold a
-- browser to this site.
abbrev pub HasFields : Asked → ℕ → Response → Type 0
HasFields asked run response =
    (fields dated : List Header) × AreFields asked run response.status fields × AddsDate fields dated
    × (fields_of response ≡ dated ++ policy_fields)

module _ {S : Type 0} (answers : S → List ℕ → List ℕ → S → Type 0) where
  -- There is no newer board; or this is one, which a handler gave.
  abbrev pub IsBoardAnswer : Option ℕ → ℕ → List ℕ → Type 0
  IsBoardAnswer after s t = HasText 204 [] s t ⊎ ((s ≡ 200) × IsNewer answers after t)

  -- A handler gave no replies; or these are its replies to the lines of a body.
  abbrev pub IsReplied : List ℕ → ℕ → List ℕ → Type 0
  IsReplied body s t = HasText 503 [] s t ⊎ ((s ≡ 200) × IsWritten answers body t)

  -- A body is forwarded where it is of this site's own page, and there alone.
  abbrev pub IsCommandAnswer : Parts → List ℕ → ℕ → List ℕ → Type 0
  IsCommandAnswer head body s t =
      ((is_own_site head ≡ false) × HasText 403 [] s t) ⊎ ((is_own_site head ≡ true) × IsReplied body s t)

  -- the status and the text answer what is asked for
  abbrev pub IsAnswer : Asked → ℕ → Parts → List ℕ → ℕ → List ℕ → Type 0
  IsAnswer asks.Index run head body s t = HasText 200 INDEX_HTML.now s t
  IsAnswer asks.Style run head body s t = HasText 200 PAGE_CSS.now s t
  IsAnswer asks.Script run head body s t = HasText 200 PAGE_JS.now s t
  IsAnswer asks.Icon run head body s t = HasText 200 ICON_SVG.now s t
  IsAnswer asks.Board run head body s t = IsBoardAnswer (place_by_query run (uri_query head.uri)) s t
  IsAnswer asks.Metrics run head body s t = IsMetricsAnswer s t
  IsAnswer asks.Command run head body s t = IsCommandAnswer head body s t
  IsAnswer asks.Absent run head body s t = HasText 404 [] s t
  IsAnswer asks.WrongMethod run head body s t = HasText 405 [] s t
  IsAnswer asks.OtherHost run head body s t = HasText 421 [] s t

  -- The response answers what the head asks for, and holds the browser to this site.
  abbrev pub AnswersHead : ℕ → Parts → List ℕ → Response → Type 0
  AnswersHead run head body response =
      IsAnswer (asked_in head) run head body response.status response.body.items
      × HasFields (asked_in head) run response
