-- Which hosts may be given.
use Rattle.std.specs.Prelude.{◌≡◌, ◌≢◌, ◌⊎◌, ◌==◌, ℕ, Bool, false, List, [], All, length, Option, Some, None, ⊤}
use Rattle.std.specs.Prelude.{◌&&◌, ◌||◌, ◌∷◌, nat_eq, is_some, String, string_bytes}
use Rattle.std.specs.List.{before_first, list_all, slice_split, starts_with}
use Rattle.std.specs.Net.Addr.{IsCanonicalOf, IsLoopbackV4, IsLoopbackV6, IsUnspecifiedV4, IsUnspecifiedV6, MatchIp}
use Rattle.std.specs.Net.Grammar.{IsIpText}
use Rattle.std.specs.declared.net.ip_addr.IpAddr.{IpAddr}
use Rattle.desk_options.specs.declared.command_line.choice.FollowOptions.{FollowOptions}
use Rattle.desk_options.specs.declared.host.HostRun.{HostRun}
use Rattle.desk_options.specs.declared.host.HostRun.TheVariants.{Answer, Serve, Cluster, Send, Status, Page, Log}

-- the hosts of a text, which has commas between them
abbrev pub hosts_in : List ℕ → List (List ℕ)
hosts_in text = slice_split (λ b. b == 44) text

-- It spells an address of the host itself alone.
abbrev pub IsLoopbackText : List ℕ → Type 0
IsLoopbackText text = (ip : IpAddr) × IsIpText text ip × MatchIp ip IsLoopbackV4 IsLoopbackV6

-- Canonical is the IPv4 address that an IPv6 address maps, where it does, and else the same address.
abbrev pub IsUnmapped : IpAddr → IpAddr → Type 0
IsUnmapped ip canonical = MatchIp ip (λ _. canonical ≡ ip) (λ a. IsCanonicalOf a canonical)

-- It is not `0.0.0.0` or `::`, and maps neither.
abbrev pub IsOfHost : IpAddr → Type 0
IsOfHost ip = (a : IpAddr) × IsUnmapped ip a × (MatchIp a IsUnspecifiedV4 IsUnspecifiedV6 → ⊥)

-- the byte is one of `0`, `.`, `x` and `X`
abbrev pub is_of_zeros : ℕ → Bool
is_of_zeros b = (b == 48) || (b == 46) || (b == 120) || (b == 88)

-- It begins with a zero, and numbers of it are all zero, in eights or sixteens too: hosts read it as `0.0.0.0`.
abbrev pub spells_zeros : List ℕ → Bool
spells_zeros text = starts_with nat_eq text (48 ∷ []) && list_all is_of_zeros text

-- the text without the scope that an address may end with, as in `fe80::1%eth0`
abbrev pub without_scope : List ℕ → List ℕ
without_scope text = before_first (λ b. b == 37) text

-- It spells an address of a host, with a scope or without, or is no address, but a name.
abbrev pub IsHostText : List ℕ → Type 0
IsHostText text = ((ip : IpAddr) × IsIpText (without_scope text) ip × IsOfHost ip)
    ⊎ ((text ≢ []) × (spells_zeros text ≡ false) × ((ip : IpAddr) → IsIpText (without_scope text) ip → ⊥))

-- They are hosts, and without a key on loopback.
abbrev pub AreHosts : Bool → List (List ℕ) → Type 0
AreHosts has_key hosts = All IsHostText hosts × (has_key ≡ false → All IsLoopbackText hosts)

-- The hosts that are given, if they are, are as many as nodes, and may be given.
abbrev pub AreAllowed : {A : Type 0} → Bool → ℕ → Option (String A) → Type 0
AreAllowed has_key nodes None = ⊤
AreAllowed has_key nodes (Some text) =
    AreHosts has_key (hosts_in (string_bytes text)) × (length (hosts_in (string_bytes text)) ≡ nodes)

-- A node that lines are sent to is at one host; a group that is followed is at as many as it has nodes.
abbrev pub IsSentToAllowed : {A : Type 0} → Bool → Option FollowOptions → Option (String A) → Option (String A) →
    Type 0
IsSentToAllowed has_key None host hosts = (hosts ≡ None) × AreAllowed has_key 1 host
IsSentToAllowed has_key (Some group) host hosts = (host ≡ None) × AreAllowed has_key group.nodes hosts

-- the hosts of a run may be given
abbrev pub HasAllowedHosts : HostRun → Type 0
HasAllowedHosts (Answer options) = ⊤
HasAllowedHosts (Serve options) = AreAllowed (is_some options.key) options.owner.n options.hosts
HasAllowedHosts (Cluster options) = ⊤
HasAllowedHosts (Send options) = IsSentToAllowed (is_some options.key) options.group options.host options.hosts
HasAllowedHosts (Status options) = AreAllowed (is_some options.key) options.nodes options.hosts
HasAllowedHosts (Page options) = AreAllowed (is_some options.key) options.nodes options.hosts
HasAllowedHosts (Log options) = ⊤
