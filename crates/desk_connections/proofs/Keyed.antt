-- Ports with keys.
use Rattle.std.proofs.Common.{◌≡◌, ◌+◌, ◌<◌, ◌^◌, ℕ, Option, None, Some, IfSome, arith, sym, subst}
use Rattle.desk_types.specs.declared.limits.TheConstants.{SESSION_PORTS}
use Rattle.desk_admission.specs.declared.endpoint.Endpoint.{Endpoint}
use Rattle.desk_admission.specs.declared.streams.KeyedPort.{KeyedPort}

-- what is so of an endpoint is so of a port that has it
pub bound_by : (keyed : Option KeyedPort) (endpoint : Endpoint) (P : Endpoint → Type 0) →
    IfSome keyed (λ k. k.endpoint ≡ endpoint) → P endpoint → IfSome keyed (λ k. P k.endpoint)
bound_by None endpoint P h p = tt
bound_by (Some k) endpoint P h p = subst P (sym h) p

-- a port of nodes fits where that of sessions does
pub first_fits : (port : ℕ) → port + SESSION_PORTS < 2 ^ 16 → port < 2 ^ 16
first_fits port fits = omega (arith, fits)
