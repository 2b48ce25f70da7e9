use Rattle.std.proofs.Common.{rules, ◌≡◌, ◌++◌, ◌∷◌, [], subst, sym}
use Rattle.std.specs.List.{AllZip}
use Rattle.desk_replica.specs.Answers.{session_answers}
use Rattle.desk_threads.specs.Waiting.{HearsAll}
use Rattle.desk_threads.proofs.TurnTelling.{hears_one, hears_then}
use Rattle.desk_threads.proofs.waiting.WaitingSessions.hear.Goals as goal

pub returns-in-Some : goal.returns-in-Some
returns-in-Some g c =
    let all = session_answers c.parts-base.result.0 c.parts-base.result.1.now in
    let first = c.self.inside.sessions.items in
    let last = c.each_hears.new.sessions.items in
    let own : c.args.answers.now ≡ all ++ c.in-Some.answer.now ∷ [] = search rules in
    let same : first ≡ c.args.self.now = search rules in
    subst (λ s. AllZip (HearsAll c.args.answers.now) s last) same
    (subst (λ w. AllZip (HearsAll w) first last) (sym own)
    (hears_then all (c.in-Some.answer.now ∷ []) first c.each_hears_all.new.sessions.items last c.each_hears_all.ensures
    (hears_one c.in-Some.answer.now c.each_hears_all.new.sessions.items last c.each_hears.ensures)))
