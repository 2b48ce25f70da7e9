use Rattle.std.proofs.Common.{sym, ◌∙◌, codes}
use Rattle.std.proofs.lemmas.Result.{IfOk-weaker, IfErr-weaker}
use Rattle.clap.proofs.WalkLemmas.{first_value-rows}
use Rattle.clap.specs.Matches.{found_of}
use Rattle.clap.specs.Walk.{rows_of}
use Rattle.desk_options.proofs.Words.{on_refused, epoch_places_in, no_epoch_places_in, most_epoch_places}
use Rattle.desk_options.proofs.command_line.epochs.epoch_places_found.Goals as goal

pub returns-in-Some-clause-found : goal.returns-in-Some-clause-found
returns-in-Some-clause-found c =
    let given = sym (first_value-rows (found_of c.args.matches.now) (codes "epoch-places")) ∙ sym c.in-Some.ensures in
    IfOk-weaker c.number_of.result _ _ (λ n h. epoch_places_in (rows_of (found_of c.args.matches.now)) _ n given h)
    c.number_of.ensures.found

pub returns-in-Some-clause-refused : goal.returns-in-Some-clause-refused
returns-in-Some-clause-refused c =
    let given = sym (first_value-rows (found_of c.args.matches.now) (codes "epoch-places")) ∙ sym c.in-Some.ensures in
    IfErr-weaker c.number_of.result _ _
    (λ f h. on_refused f (no_epoch_places_in (rows_of (found_of c.args.matches.now)) _ given) h)
    c.number_of.ensures.refused

pub returns-in-None-clause-found : goal.returns-in-None-clause-found
returns-in-None-clause-found c =
    most_epoch_places (rows_of (found_of c.args.matches.now))
    (sym (first_value-rows (found_of c.args.matches.now) (codes "epoch-places")) ∙ sym c.in-None.ensures)
