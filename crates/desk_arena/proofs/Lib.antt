mod Shown
mod RawParts
mod Leases
mod Made
mod Writes
mod NodeBytes
mod InBlockLemmas
