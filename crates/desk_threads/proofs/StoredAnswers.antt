-- What an answer says of the store.
use Rattle.std.proofs.Common.{◌≡◌, refl, Bool, true, false, not, sym, subst, Result, Ok, Err}
use Rattle.desk_types.specs.declared.refusal.Refusal.{Refusal}
use Rattle.desk_types.specs.declared.refusal.Refusal.TheVariants as refusals
use Rattle.desk_types.specs.Refusal.{is_want_of_memory, IsStoreRefusal, HasStored}
use Rattle.desk_log.proofs.KnownPrefix.{memory_no_store}
use Rattle.desk_threads.specs.Filed.{goes_on_after}

-- an answer is none of a store that failed where it is a value, and where what it was made of is none
pub stored_ok : {A : Type 0} (o : Result A Refusal) (x : A) → o ≡ Ok x → HasStored o
stored_ok o x e = subst HasStored (sym e) tt

pub stored_err : {A B : Type 0} (o : Result A Refusal) (p : Result B Refusal) (r : Refusal) → o ≡ Err r → p ≡ Err r →
    HasStored p → HasStored o
stored_err o p r e f h =
    let k : IsStoreRefusal r → ⊥ = subst HasStored f h in
    subst HasStored (sym e) k

pub stored_memory : {A : Type 0} (o : Result A Refusal) → o ≡ Err refusals.WantOfMemory → HasStored o
stored_memory o e = subst HasStored (sym e) (memory_no_store refusals.WantOfMemory refl)

-- a refusal that is told as one for want of memory is that
memory_is : (r : Refusal) → is_want_of_memory r ≡ true → r ≡ refusals.WantOfMemory
memory_is refusals.WantOfMemory is = refl
memory_is _ is = cc

-- where the keeper goes on, the store has not failed
pub stored_after : {A : Type 0} (o : Result A Refusal) (goes : Bool) → goes ≡ goes_on_after o → not goes ≡ false →
    HasStored o
stored_after (Ok x) goes is on = tt
stored_after (Err r) true is on = memory_no_store r (memory_is r (sym is))
stored_after (Err r) false is on = absurd (let none : ⊥ = cc in none)

-- what is not false is true
pub no_less : (b : Bool) → not b ≡ false → b ≡ true
no_less true is = refl
no_less false is = absurd (let none : ⊥ = cc in none)

-- after a refusal of the store the keeper stops
pub stops_after : (r : Refusal) (goes : Bool) → goes ≡ is_want_of_memory r → IsStoreRefusal r → goes ≡ false
stops_after r true is fault = absurd (memory_no_store r (memory_is r (sym is)) fault)
stops_after r false is fault = refl
