use Rattle.std.proofs.Common.{inr, subst, sym, ◌∙◌}
use Rattle.std.proofs.KnownBytes.{Keeps-refl}
use Rattle.desk_options.specs.CommandLine.{AsksFor}
use Rattle.desk_options.specs.declared.command_line.choice.Options.TheVariants.{Replay, World, Version}
use Rattle.desk_options.specs.declared.host.HostRun.TheVariants as runs
use Rattle.desk_options.proofs.Ranges.{run_in_range}
use Rattle.desk_program.proofs.ReportedFaults.{reported_options_fault, reported_as, options_calls}
use Rattle.desk_program.proofs.run.run_words.Goals as goal

pub returns-in-Err-clause-printed : goal.returns-in-Err-clause-printed
returns-in-Err-clause-printed g c =
    reported_options_fault _ _ _ _ _ _ _ _ c.in-Err.fault c.options_end.ensures.end (Keeps-refl _) (Keeps-refl _)
    c.options_end.ensures.printed

pub returns-in-Replay-clause-printed : goal.returns-in-Replay-clause-printed
returns-in-Replay-clause-printed g c =
    reported_as _ _ _ _ _ (λ fault ends. inr (
      Replay c.in-Replay.options,
      subst (AsksFor _) (sym c.set_seed.ensures ∙ c.in-Replay.is) c.in-Ok.ensures.asked,
      ends,
    )) c.replay.ensures.printed

pub returns-in-World-clause-printed : goal.returns-in-World-clause-printed
returns-in-World-clause-printed g c =
    reported_as _ _ _ _ _ (λ fault ends. inr (
      World c.in-World.options,
      subst (AsksFor _) (sym c.set_seed.ensures ∙ c.in-World.is) c.in-Ok.ensures.asked,
      ends,
    )) c.world.ensures.printed

pub returns-in-Version-clause-printed : goal.returns-in-Version-clause-printed
returns-in-Version-clause-printed g c =
    reported_as _ _ _ _ _ (λ fault ends. inr (
      Version,
      subst (AsksFor _) (sym c.set_seed.ensures ∙ c.in-Version.is) c.in-Ok.ensures.asked,
      ends,
    )) (c.version.ensures.printed _ _)

pub returns-in-Err-clause-calls : goal.returns-in-Err-clause-calls
returns-in-Err-clause-calls g c = rw c.options_end.ensures.end (options_calls c.in-Err.fault _ _)

pub returns-in-Answer-clause-host_range : goal.returns-in-Answer-clause-host_range
returns-in-Answer-clause-host_range g c =
    run_in_range _ (runs.Answer c.in-Answer.options)
    (subst (AsksFor _) (sym c.set_seed.ensures ∙ c.in-Answer.is) c.in-Ok.ensures.asked)

pub returns-in-Serve-clause-host_range : goal.returns-in-Serve-clause-host_range
returns-in-Serve-clause-host_range g c =
    run_in_range _ (runs.Serve c.in-Serve.options)
    (subst (AsksFor _) (sym c.set_seed.ensures ∙ c.in-Serve.is) c.in-Ok.ensures.asked)

pub returns-in-Cluster-clause-host_range : goal.returns-in-Cluster-clause-host_range
returns-in-Cluster-clause-host_range g c =
    run_in_range _ (runs.Cluster c.in-Cluster.options)
    (subst (AsksFor _) (sym c.set_seed.ensures ∙ c.in-Cluster.is) c.in-Ok.ensures.asked)

pub returns-in-Send-clause-host_range : goal.returns-in-Send-clause-host_range
returns-in-Send-clause-host_range g c =
    run_in_range _ (runs.Send c.in-Send.options)
    (subst (AsksFor _) (sym c.set_seed.ensures ∙ c.in-Send.is) c.in-Ok.ensures.asked)

pub returns-in-Status-clause-host_range : goal.returns-in-Status-clause-host_range
returns-in-Status-clause-host_range g c =
    run_in_range _ (runs.Status c.in-Status.options)
    (subst (AsksFor _) (sym c.set_seed.ensures ∙ c.in-Status.is) c.in-Ok.ensures.asked)

pub returns-in-Page-clause-host_range : goal.returns-in-Page-clause-host_range
returns-in-Page-clause-host_range g c =
    run_in_range _ (runs.Page c.in-Page.options)
    (subst (AsksFor _) (sym c.set_seed.ensures ∙ c.in-Page.is) c.in-Ok.ensures.asked)

pub returns-in-Log-clause-host_range : goal.returns-in-Log-clause-host_range
returns-in-Log-clause-host_range g c =
    run_in_range _ (runs.Log c.in-Log.options)
    (subst (AsksFor _) (sym c.set_seed.ensures ∙ c.in-Log.is) c.in-Ok.ensures.asked)
