-- What a command becomes by the arguments that it gets, and what it makes of words, where memory may be refused.
use Rattle.std.specs.Prelude.{◌≡◌, List, [], ◌∷◌, true, Result, IfOk, MatchResult}
use Rattle.clap.specs.Faults.{is_simple_and_free}
use Rattle.clap.specs.Simple.{App, app_of, with_rule}
use Rattle.clap.specs.Walk.{Rule, Text}
use Rattle.clap.specs.declared.builder.command.Command.{Command}
use Rattle.clap.specs.declared.parser.matches.ArgMatches.{ArgMatches}
use Rattle.desk_options.specs.CommandLine.{Accepts, HasValues, OnRefused}
use Rattle.desk_options.specs.declared.command_line.OptionsFault.{OptionsFault}

-- the rules of a command with those of a list after its own
abbrev pub with_rules : App → List Rule → App
with_rules app [] = app
with_rules app (rule ∷ rules) = with_rules (with_rule app rule) rules

-- Where there was memory for both, the second command has the rules of the first, and then these.
abbrev pub AddsRules : {E : Type 0} → Result Command E → List Rule → Result Command E → Type 0
AddsRules old rules new = (app : App) → IfOk old (λ c. app_of c ≡ app) → IfOk new (λ c. app_of c ≡ with_rules app rules)

-- the same of one rule
abbrev pub AddsRule : {E : Type 0} → Result Command E → Rule → Result Command E → Type 0
AddsRule old rule new = AddsRules old (rule ∷ []) new

-- Where there was memory for the command, and the definition of `clap` covers it, the words are accepted, and what was
-- found is what it makes of them; or they are refused, and not accepted.
abbrev pub ReadsWords : {E : Type 0} → Result Command E → List Text → Result ArgMatches OptionsFault → Type 0
ReadsWords command words result =
    (app : App) → is_simple_and_free app ≡ true → IfOk command (λ c. app_of c ≡ app) →
    MatchResult result (λ m. Accepts app words × HasValues app words m) (λ f. OnRefused f (Accepts app words → ⊥))
