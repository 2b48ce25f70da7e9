use Rattle.std.proofs.Common.{rules, ◌≡◌, ◌∙◌, refl, inl, inr}
use Rattle.std.proofs.lemmas.Result.{err_from_is_err_and}
use Rattle.desk_types.specs.declared.refusal.Refusal.TheVariants as refusals
use Rattle.desk_saved.proofs.LoadOutcomes.{load_stopped, loaded, not_loaded, load_failed}
use Rattle.desk_saved.proofs.saved_state.SavedState.load.Goals as goal

pub returns-then-self : goal.returns-then-self
returns-then-self g c = rw (← c.self.view_is) (load_stopped g.S.Store _ c.if-self.true)

pub returns-in-Ok-Some : goal.returns-in-Ok-Some
returns-in-Ok-Some g c =
    let same : c.deref_mut.result.now ≡ c.self.inside.connection.value = search rules in
    rw (← c.self.view_is)
    (loaded g.S.Store _ c.if-self.false c.load_state.new.conn
    c.load_state.result (rw same at c.load_state.ensures.read) _
    (λ clean d schema.
    rw c.into_saved.ensures
    (rw c.in-Ok-Some.field-0-is at ((rw same at c.in-Ok-Some.ensures.found) clean d schema)))
    (rw same at c.in-Ok-Some.ensures.read.same))

pub returns-in-Ok-None : goal.returns-in-Ok-None
returns-in-Ok-None g c =
    let same : c.deref_mut.result.now ≡ c.self.inside.connection.value = search rules in
    rw (← c.self.view_is)
    (not_loaded g.S.Store _ c.if-self.false c.load_state.new.conn
    c.load_state.result (rw same at c.load_state.ensures.read)
    refusals.WrongFile (λ fault. let it = fault in cc) (inr refl)
    (λ _ clean d schema. rw c.in-Ok-None.field-0-is at
    ((rw same at c.in-Ok-None.ensures.found) clean d schema))
    (rw same at c.in-Ok-None.ensures.read.same))

pub returns-in_err-unless_of_memory-in-Err : goal.returns-in_err-unless_of_memory-in-Err
returns-in_err-unless_of_memory-in-Err g c =
    let same : c.deref_mut.result.now ≡ c.self.inside.connection.value = search rules in
    let p = err_from_is_err_and c.from_residual.result c.from_residual.ensures.1 in
    let is : p.0 ≡ refusals.WantOfMemory = search rules in
    rw (← c.self.view_is, p.1) (not_loaded g.S.Store _ c.if-self.false c.load_state.new.conn
    c.load_state.result (rw same at c.load_state.ensures.read) _
    (λ fault. let it = fault in let other = is in cc) (inl is)
    (λ wrong. absurd (let it = wrong in let other = is in cc))
    (λ clean stand. (rw same at c.in-Err.ensures.read.want_of_memory) clean stand (search rules)))

pub returns-in_ok-unless_of_memory-in-Err : goal.returns-in_ok-unless_of_memory-in-Err
returns-in_ok-unless_of_memory-in-Err g c =
    let same : c.deref_mut.result.now ≡ c.self.inside.connection.value = search rules in
    let is : c.in-Err.refusal ≡ refusals.StoreFault =
    elim c.in-Err.ensures.read.refused [
      | inl fault ↦ fault
      | inr want ↦
          let other = c.in_ok-unless_of_memory-in-Err.ensures.ok in absurd
          (other.1 (other.0 ∙ want))
    ] in
    rw (← c.self.view_is)
    (load_failed g.S.Store _ c.if-self.false c.load_state.new.conn
    c.load_state.result (rw same at c.load_state.ensures.read)
    (λ settled clean stand. (rw same at c.in-Err.ensures.read.store_fault) settled clean stand is)
    (λ clean stand. (rw same at c.in-Err.ensures.read.cause) clean stand is))
