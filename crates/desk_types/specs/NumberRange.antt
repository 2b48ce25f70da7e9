-- The ranges of the numbers of clients, requests and nodes, and of tokens.
use Rattle.std.specs.Prelude.{◌≤◌, ◌<◌, ℕ, Bool, ◌&&◌, nat_le, nat_lt}
use Rattle.desk_types.specs.declared.limits.TheConstants.{LAST_NUMBER, LAST_TOKEN, MOST_NODES}

-- A client or a request can have the number.
abbrev pub FitsNumber : ℕ → Type 0
FitsNumber n = (1 ≤ n) × (n ≤ LAST_NUMBER)

-- whether a client or a request can have the number
abbrev pub is_number : ℕ → Bool
is_number n = nat_le 1 n && nat_le n LAST_NUMBER

-- A node can have the number in its group.
abbrev pub FitsNodeNumber : ℕ → Type 0
FitsNodeNumber n = n < MOST_NODES

-- whether a node can have the number in its group
abbrev pub is_node_number : ℕ → Bool
is_node_number n = nat_lt n MOST_NODES

-- A token can be the number.
abbrev pub FitsToken : ℕ → Type 0
FitsToken n = (1 ≤ n) × (n ≤ LAST_TOKEN)

-- whether a token can be the number
abbrev pub is_token : ℕ → Bool
is_token n = nat_le 1 n && nat_le n LAST_TOKEN
