-- Lines with which the connection of a browser begins. None of them is a document.
use Rattle.std.specs.Prelude.{◌≡◌, ℕ, ◌==◌, ◌&&◌, ◌||◌, not, Bool, false, true, List, [], ◌∷◌, length, take, nat_lt}
use Rattle.std.specs.Prelude.{Option, Some, None, codes, eqb}
use Rattle.std.specs.Char.{is_ascii_alphanumeric}
use Rattle.std.specs.List.{list_all, list_any, starts_with}
use Rattle.desk_types.specs.Identifier.{is_empty}
use Rattle.desk_types.specs.Lists.{split_at}
use Rattle.desk_types.specs.declared.limits.TheConstants.{LINE_BYTES}
use Rattle.desk_types.specs.declared.refusal.Refusal.{Refusal}
use Rattle.desk_types.specs.declared.refusal.Refusal.TheVariants as refusals
use Rattle.desk_sessions.specs.Lines.{AnswersLine}
use Rattle.desk_sessions.specs.Sessions.{SessionStanding}

-- a byte of an HTTP method: a letter, a digit or one of these signs (RFC 9110, sections 5.6.2 and 9.1)
abbrev pub is_method_byte : ℕ → Bool
is_method_byte b = is_ascii_alphanumeric b || list_any (λ sign. sign == b) (codes "!#$%&'*+-.^_`|~")

-- a method is made of these bytes
abbrev pub is_method : List ℕ → Bool
is_method bytes = not (is_empty bytes) && list_all is_method_byte bytes

-- what stands after a target and a space begins as a version does
abbrev pub has_version : Option (List ℕ × List ℕ) → Bool
has_version None = false
has_version (Some parts) = starts_with eqb parts.1 (codes "HTTP/")

-- What stands before a space is a method, and what stands after it a target and a version. Of a line that is cut the
-- end is not known.
abbrev pub begins_request : Bool → Option (List ℕ × List ℕ) → Bool
begins_request is_cut None = false
begins_request is_cut (Some parts) = is_method parts.0 && (is_cut || has_version (split_at 32 parts.1))

-- the bytes begin as a record of a TLS handshake does
abbrev pub is_handshake : List ℕ → Bool
is_handshake bytes = starts_with eqb bytes (22 ∷ 3 ∷ [])

-- The line, or what is left of one that is cut, is an HTTP request line, or begins as a TLS handshake does.
abbrev pub is_of_browser : Bool → List ℕ → Bool
is_of_browser is_cut bytes = begins_request is_cut (split_at 32 bytes) || is_handshake bytes

-- A browser's connection begins with this line. It is cut where it is too long.
abbrev pub is_browser_line : List ℕ → Bool
is_browser_line line = is_of_browser (nat_lt LINE_BYTES (length line)) (take LINE_BYTES line)

-- the first of the lines is one with which a browser's connection begins
abbrev pub IsBrowserFirst : List (List ℕ) → Type 0
IsBrowserFirst [] = ⊥
IsBrowserFirst (line ∷ lines) = is_browser_line line ≡ true

-- a line is answered that is none of a browser
abbrev pub AnswersOwnLine : List ℕ → SessionStanding → List ℕ → List ℕ → SessionStanding → Type 0
AnswersOwnLine domain old line text new = (is_browser_line line ≡ false) × AnswersLine domain old line text new

-- At a line of a browser a session ends by a fault of reading, and is as it was.
abbrev pub EndsAtBrowserLine : {S : Type 0} → S → List ℕ → Refusal → S → Type 0
EndsAtBrowserLine old line refusal new = (is_browser_line line ≡ true) × (refusal ≡ refusals.ReadFault) × (new ≡ old)
