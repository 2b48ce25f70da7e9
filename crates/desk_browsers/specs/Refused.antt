-- The status by which a connection refuses a request itself.
use Rattle.std.specs.Prelude.{ℕ, Option, Some, None, if◌then◌else◌}
use Rattle.http.specs.declared.error.Error.{Error}
use Rattle.http.specs.declared.error.Error.TheVariants as errors
use Rattle.http_uri.specs.Error.{is_too_long}
use Rattle.http1.specs.ReadError.{status_of}
use Rattle.http_server.specs.declared.state.State.{State}
use Rattle.http_server.specs.declared.state.State.TheVariants as states
use Rattle.http_server.specs.declared.state.Reason.TheVariants as reasons
use Rattle.http_server.specs.declared.state.Refusal.{Refusal}
use Rattle.http_server.specs.declared.state.Refusal.TheVariants as refusals

-- the status for a part of a head that is refused
abbrev pub part_code : Error → ℕ
part_code errors.HeaderName = 431
part_code errors.MaxSizeReached = 431
part_code (errors.Uri e) = if is_too_long e then 414 else 400
part_code other = 400

-- the status for a request that is refused
abbrev pub refusal_code : Refusal → ℕ
refusal_code (refusals.Unreadable e) = status_of e
refusal_code (refusals.InvalidPart e) = part_code e
refusal_code refusals.BodyTooLarge = 413
refusal_code refusals.UnknownCoding = 501
refusal_code (refusals.InvalidResponse e) = 500
refusal_code other = 400

-- the status by which the last request was refused, where one was
abbrev pub refused_in : State → Option ℕ
refused_in (states.Closing (reasons.Refused refusal)) = Some (refusal_code refusal)
refused_in other = None
