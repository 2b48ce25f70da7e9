-- The faults that are reported where a file gives no key.
use Rattle.desk_types.specs.declared.refusal.Refusal.{Refusal}
use Rattle.desk_types.specs.declared.refusal.Refusal.TheVariants as refusals
use Rattle.desk_file.specs.declared.keys.NoKey.{NoKey}
use Rattle.desk_file.specs.declared.keys.NoKey.TheVariants as no_keys

-- the fault that is reported of a file that gives no key
abbrev pub no_key_fault : NoKey → Refusal
no_key_fault no_keys.Unread = refusals.ReadFault
no_key_fault no_keys.Shared = refusals.WrongFile
no_key_fault no_keys.Text = refusals.WrongFile
