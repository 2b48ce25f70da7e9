use Rattle.std.proofs.Common.{◌≡◌, Result, Err, ap, subst, ◌∙◌, arith}
use Rattle.std.proofs.lemmas.Result.{err_from_is_err_and}
use Rattle.serde_json.specs.Data.{Data}
use Rattle.desk_arena.specs.Contents.{Contents, room}
use Rattle.desk_types.specs.declared.refusal.Refusal.{Refusal}
use Rattle.desk_types.specs.declared.refusal.Refusal.TheVariants.{WantOfMemory}
use Rattle.desk_eido.specs.Members.{◌>>=◌}
use Rattle.desk_eido.specs.Reading.{CopiesAs, ReadsAs, ask_of, fitted_document, ask_on_line}
use Rattle.desk_eido.specs.Copied.{IsPartOf, no_name, with_copy}
use Rattle.desk_eido.proofs.Lines.{not_for_room, not_copied}
use Rattle.desk_eido.proofs.line.read_document.Goals as goal

-- what is refused before it is copied is refused
refused : (e : Refusal) (old new : Contents) (read : Result Data Refusal) → CopiesAs (Err e) old new read →
    ReadsAs (Err e) (read >>= ask_of)
refused WantOfMemory old new read h = tt
refused e old new read h = ap (λ r. r >>= ask_of) h

pub returns-in_err-id-clause-reads : goal.returns-in_err-id-clause-reads
unfolding ask_on_line
returns-in_err-id-clause-reads c =
    let p = err_from_is_err_and c.from_residual.result c.from_residual.ensures.1 in
    let all : room c.reset.new.self ≡ c.args.arena.now.capacity = ap room c.reset.ensures.emptied ∙ omega arith in
    rw (p.1, p.2) (subst (λ n. ReadsAs (Err c.in_err-id.field-0.0) (fitted_document n c.args.line.now >>= ask_of))
    all
    (refused _ _ _ _ c.in_err-id.ensures.copied))

pub returns-in_err-id-clause-begun : goal.returns-in_err-id-clause-begun
returns-in_err-id-clause-begun c = λ d h.
    subst (λ a. IsPartOf c.copy_document.new.arena (with_copy d no_name a)) c.reset.ensures.emptied
    (c.in_err-id.ensures.begun d h)

pub returns-in_err-id-clause-empty : goal.returns-in_err-id-clause-empty
returns-in_err-id-clause-empty c = λ r h.
    c.in_err-id.ensures.unchanged (not_for_room _ c.args.line.now r _ _ _ h c.in_err-id.ensures.copied)
    ∙ c.reset.ensures.emptied

pub returns-clause-begun : goal.returns-clause-begun
returns-clause-begun c = λ d h.
    subst (λ a. IsPartOf c.copy_document.new.arena (with_copy d no_name a)) c.reset.ensures.emptied
    (c.in_ok-id.ensures.begun d h)

pub returns-clause-empty : goal.returns-clause-empty
returns-clause-empty c = λ r h.
    absurd (not_copied _ c.args.line.now r _ h c.in_ok-id.ensures.copied.1)
