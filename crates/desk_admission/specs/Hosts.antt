-- Where the nodes of a group are.
use Rattle.std.specs.Prelude.{ℕ, List, Option, None, Some, ◌==◌, slice_get, String, string_bytes}
use Rattle.std.specs.List.{slice_split}
use Rattle.desk_admission.specs.declared.address.TheConstants.{LOOPBACK}

-- the hosts of a text, which has commas between them
abbrev pub named_hosts : List ℕ → List (List ℕ)
named_hosts text = slice_split (λ b. b == 44) text

-- a host where one is named, else the address of this host alone
abbrev pub or_loopback : Option (List ℕ) → List ℕ
or_loopback None = LOOPBACK.now
or_loopback (Some host) = host

-- The host of a node: of the hosts that are given, if they are, that at its place.
abbrev pub host_of : {A : Type 0} → Option (String A) → ℕ → List ℕ
host_of None node = LOOPBACK.now
host_of (Some hosts) node = or_loopback (slice_get (named_hosts (string_bytes hosts)) node)
