-- The faults that are reported where a port is refused.
use Rattle.desk_types.specs.declared.refusal.Refusal.{Refusal}
use Rattle.desk_types.specs.declared.refusal.Refusal.TheVariants as refusals
use Rattle.desk_connections.specs.declared.ports.PortRefused.{PortRefused}
use Rattle.desk_connections.specs.declared.ports.PortRefused.TheVariants as ports

-- the fault that is reported where a port is refused
abbrev pub refused_fault : PortRefused → Refusal
refused_fault ports.WantOfMemory = refusals.WantOfMemory
refused_fault _ = refusals.ReadFault
