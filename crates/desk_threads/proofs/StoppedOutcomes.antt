-- What an outcome says of a keeper that stops at its refusals.
use Rattle.std.proofs.Common.{◌≡◌, ◌⊎◌, inl, inr, subst, sym, Bool, false, true, is_err}
use Rattle.std.proofs.Common.{Result, Ok, Err, OnOk, OnErr, IfErr}
use Rattle.desk_types.specs.declared.refusal.Refusal.{Refusal}
use Rattle.desk_types.specs.declared.refusal.Refusal.TheVariants as refusals
use Rattle.desk_types.specs.Refusal.{is_want_of_memory}

-- what follows from each outcome
pub by_outcome : {A E : Type 0} (r : Result A E) (P Q : Type 0) (S : E → Type 0) → OnOk r P → IfErr r S → (P → Q) →
    ((e : E) → S e → Q) → Q
by_outcome (Ok x) P Q S done refused f g = f done
by_outcome (Err e) P Q S done refused f g = g e refused

-- what was not refused was done
pub where_ok : {A E : Type 0} (r : Result A E) (P : Type 0) → is_err r ≡ false → OnOk r P → P
where_ok (Ok x) P goes done = done
where_ok (Err e) P goes done = absurd (let none : ⊥ = cc in none)

pub on_ok_map : {A E : Type 0} (r : Result A E) (P Q : Type 0) → (P → Q) → OnOk r P → OnOk r Q
on_ok_map (Ok x) P Q f done = f done
on_ok_map (Err e) P Q f done = tt

pub runs_on : {A E : Type 0} (r : Result A E) (stopped : Bool) → stopped ≡ is_err r → OnOk r (stopped ≡ false)
runs_on (Ok x) stopped is = is
runs_on (Err e) stopped is = tt

pub has_stopped : {A E : Type 0} (r : Result A E) (stopped : Bool) → stopped ≡ is_err r → OnErr r (stopped ≡ true)
has_stopped (Ok x) stopped is = tt
has_stopped (Err e) stopped is = is

-- what a refusal stops, the same one does
pub stopped_by : {R : Type 0} (stops : Refusal → R → R → Type 0) (r refusal : Refusal) (old new : R) → r ≡ refusal →
    stops refusal old new → stops r old new
stopped_by stops r refusal old new is by = subst (λ fault. stops fault old new) (sym is) by

-- a refusal that is no want of memory is one of the others
pub no_memory : (r : Refusal) (P : Type 0) → (r ≡ refusals.WantOfMemory) ⊎ P → is_want_of_memory r ≡ false → P
no_memory r P (inl memory) ends =
    let no : true ≡ false = subst (λ x. is_want_of_memory x ≡ false) memory ends in
    absurd (let none : ⊥ = cc in none)
no_memory r P (inr other) ends = other
