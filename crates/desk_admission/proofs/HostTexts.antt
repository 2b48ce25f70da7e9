-- The host of a node, by how its text was looked at.
use Rattle.std.proofs.Common.{◌≡◌, ◌∙◌, ℕ, List, Option, Some, None, String, ap, slice_get, sym}
use Rattle.std.specs.Prelude.{string_bytes}
use Rattle.desk_admission.specs.declared.address.TheConstants.{LOOPBACK}
use Rattle.desk_admission.specs.Hosts.{named_hosts, host_of, or_loopback}

-- it is that at its place in the text that was given
pub host_at : {A : Type 0} (given : Option (String A)) (text : String A) (bytes : List ℕ) (node : ℕ) →
    given ≡ Some text → bytes ≡ string_bytes text →
    or_loopback (slice_get (named_hosts bytes) node) ≡ host_of given node
host_at given text bytes node g b =
    ap (λ t. or_loopback (slice_get (named_hosts t) node)) b ∙ sym (ap (λ o. host_of o node) g)

-- it is this host where no text was given
pub loopback_at : {A : Type 0} (given : Option (String A)) (node : ℕ) → given ≡ None →
    LOOPBACK.now ≡ host_of given node
loopback_at given node g = sym (ap (λ o. host_of o node) g)
