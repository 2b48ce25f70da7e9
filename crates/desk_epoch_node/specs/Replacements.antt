-- Which node acts under a number, by the replacements that entries name.
use Rattle.std.specs.Prelude.{ℕ, Bool, ◌&&◌, ◌||◌, ◌==◌, if◌then◌else◌, List, [], ◌∷◌, Option, Some, None}
use Rattle.std.specs.List.{list_any}
use Rattle.std.specs.Option.{is_some}
use Rattle.desk_types.specs.declared.command.Command.{Command}
use Rattle.desk_types.specs.declared.command.Command.TheVariants.{Replace}
use Rattle.desk_types.specs.declared.command.Entry.{Entry}
use Rattle.desk_epoch_node.specs.declared.replacement.Replacement.{Replacement}
use Rattle.desk_epoch_node.specs.declared.standing.Standing.{Standing}
use Rattle.desk_epoch_node.specs.declared.standing.Standing.TheVariants.{Acts, Awaits, Replaced}

-- the replacement that a command names, if it names one
abbrev pub replacement_of : Command → Option Replacement
replacement_of (Replace at node token) = Some (record { node = node; token = token })
replacement_of _ = None

-- what an entry names for the epochs after its own
unfoldable pub named_by : Entry → Option Replacement
named_by e = replacement_of e.command

-- whether an entry ends its epoch
abbrev pub ends_epoch : Entry → Bool
ends_epoch e = is_some (named_by e)

abbrev pub with_replacement : Option Replacement → List Replacement → List Replacement
with_replacement None rs = rs
with_replacement (Some r) rs = r ∷ rs

-- the replacements that entries name, in their order
abbrev pub replacements : List Entry → List Replacement
replacements [] = []
replacements (e ∷ es) = with_replacement (named_by e) (replacements es)

-- the token of a number after one replacement more
abbrev pub token_with : ℕ → ℕ → Replacement → ℕ
token_with number token r = if r.node == number then r.token else token

-- the token of a number after replacements, from the one that it had before them
abbrev pub token_after : ℕ → ℕ → List Replacement → ℕ
token_after number token [] = token
token_after number token (r ∷ rs) = token_after number (token_with number token r) rs

-- The token of a number: 0 until another is named for it.
abbrev pub token_of : List Replacement → ℕ → ℕ
token_of rs number = token_after number 0 rs

-- whether the token was named for the number
abbrev pub names_token : ℕ → ℕ → List Replacement → Bool
names_token number token rs = list_any (λ r. r.node == number && r.token == token) rs

-- What a node does under its number: it acts where the number has its token. Where the number had it before, and has
-- another one, the node is replaced.
abbrev pub standing_after : List Replacement → ℕ → ℕ → Standing
standing_after rs number token =
    if token_of rs number == token then Acts
    else if token == 0 || names_token number token rs then Replaced
    else Awaits
