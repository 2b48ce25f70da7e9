use Rattle.std.proofs.Common.{◌≡◌, ◌∙◌, rules, ap, Some}
use Rattle.desk_options.specs.CommandLine.{node_rule}
use Rattle.desk_options.proofs.command_line.answer.node_argument.Goals as goal

pub returns-clause-rule : goal.returns-clause-rule
returns-clause-rule c =
    let given = c.value_parser-2.ensures.given in
    let parser_is : c.value_parser-2.result.value_parser ≡ node_rule.parser =
    given.1 ∙ ap Some (given.2 ∙ c.value_parser.ensures) in
    search (rules, parser_is)
