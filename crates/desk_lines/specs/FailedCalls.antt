-- The calls of a run's streams that failed, where these are counted, and the fault that ended the run.
use Rattle.std.specs.Prelude.{◌≡◌, ◌⊎◌, ◌+◌, ◌%◌, ◌^◌, ℕ, List, Option}
use Rattle.std.specs.Option.{option_map}
use Rattle.desk_types.specs.declared.refusal.Refusal.{Refusal}
use Rattle.desk_types.specs.declared.refusal.Refusal.TheVariants as refusals

-- a known count after one more call that failed; it begins again after its greatest value
abbrev pub count_after_failure : Option ℕ → Option ℕ
count_after_failure count = option_map (λ n. (n + 1) % 2 ^ 64) count

-- No read failed, and no write, by the counts of those that failed, before and after.
abbrev pub NoneFailed : Option ℕ → Option ℕ → Option ℕ → Option ℕ → Type 0
NoneFailed reads reads' writes writes' = (reads' ≡ reads) × (writes' ≡ writes)

-- One write failed, and the fault is `WriteFault`; or none did, and it is another fault that can have ended the run.
abbrev pub IsWritersFault : (Refusal → Type 0) → Refusal → Option ℕ → Option ℕ → Type 0
IsWritersFault IsOther fault writes writes' =
    ((fault ≡ refusals.WriteFault) × (writes' ≡ count_after_failure writes)) ⊎ (IsOther fault × (writes' ≡ writes))

-- One read failed and no write, and the fault is `ReadFault`; or no read did, and it is the writer's.
abbrev pub IsStreamsFault : (Refusal → Type 0) → Refusal → Option ℕ → Option ℕ → Option ℕ → Option ℕ → Type 0
IsStreamsFault IsOther fault reads reads' writes writes' =
    ((fault ≡ refusals.ReadFault) × (reads' ≡ count_after_failure reads) × (writes' ≡ writes))
    ⊎ ((reads' ≡ reads) × IsWritersFault IsOther fault writes writes')

-- the fault is want of memory
abbrev pub IsWant : Refusal → Type 0
IsWant fault = fault ≡ refusals.WantOfMemory

-- A handler of the type S can give up at a line.
module _ {S : Type 0} (gives_up : S → List ℕ → Refusal → S → Type 0) where
  -- It gave up at some line by this fault.
  abbrev pub GaveUp : Refusal → Type 0
  GaveUp fault = (old new : S) × (line : List ℕ) × gives_up old line fault new

  -- memory was refused to the driver, or the handler gave up
  abbrev pub IsWantOrHandlers : Refusal → Type 0
  IsWantOrHandlers fault = IsWant fault ⊎ GaveUp fault
