-- What a command becomes by the arguments that it gets.
use Rattle.std.proofs.Common.{◌≡◌, ◌∙◌, Result, Ok, Err, IfOk, ap, false, subst}
use Rattle.clap.specs.Built.{AddsArg}
use Rattle.clap.specs.Simple.{App, app_of, with_rule}
use Rattle.clap.specs.Walk.{Rule, rule_of}
use Rattle.clap.specs.declared.builder.arg.Arg.{Arg}
use Rattle.clap.specs.declared.builder.command.Command.{Command}
use Rattle.desk_options.specs.Commands.{AddsRule}

-- A command that gets an argument has its rule.
rule_added : (old new : Command) (a : Arg) (app : App) → app_of old ≡ app → a.global ≡ false → AddsArg old a new →
    app_of new ≡ with_rule app (rule_of a)
rule_added old new a app is local adds = adds.shape local ∙ ap (λ it. with_rule it (rule_of a)) is

in_result : {E : Type 0} (old : Command) (a : Arg) (app : App) (new : Result Command E) → app_of old ≡ app →
    a.global ≡ false → IfOk new (AddsArg old a) → IfOk new (λ c. app_of c ≡ with_rule app (rule_of a))
in_result old a app (Ok new) is local adds = rule_added old new a app is local adds
in_result old a app (Err refused) is local adds = tt

-- the same where memory may be refused
pub argument_added : {E : Type 0} (old : Result Command E) (command : Command) (a : Arg) (new : Result Command E) →
    old ≡ Ok command → a.global ≡ false → IfOk new (AddsArg command a) → AddsRule old (rule_of a) new
argument_added old command a new there local adds app is =
    in_result command a app new (subst (λ it. IfOk it (λ c. app_of c ≡ app)) there is) local adds

-- The rule of an argument may be told by another name.
pub rule_named : {E : Type 0} (old new : Result Command E) (of_argument rule : Rule) → of_argument ≡ rule →
    AddsRule old of_argument new → AddsRule old rule new
rule_named old new of_argument rule same adds = subst (λ it. AddsRule old it new) same adds
