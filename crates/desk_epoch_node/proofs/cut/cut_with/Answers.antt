use Rattle.std.proofs.Common.{◌≡◌, ◌+◌, List, [], ◌∷◌, ◌++◌, take, rules, sym, ap, subst, ◌∙◌, append-nil}
use Rattle.std.proofs.Common.{append_assoc, arith}
use Rattle.std.proofs.lemmas.List.{take_more}
use Rattle.desk_types.specs.declared.command.Entry.{Entry}
use Rattle.desk_epoch_node.specs.Ends.{IsCut}
use Rattle.desk_epoch_node.proofs.Cuts.{take_full}
use Rattle.desk_epoch_node.proofs.cut.cut_with.Goals as goal

pub loop-entry-init : goal.loop-entry-init
loop-entry-init c = (
  c.requires.short,
  λ before is. subst (λ (es : List Entry). IsCut c.args.most es c.args.first) (sym (append-nil before)) is,
)

pub cut_with_entry-cut-requires : goal.cut_with_entry-cut-requires
cut_with_entry-cut-requires c = record { short = c.loop-entry.invariant.0 }

pub loop-entry-preserved : goal.loop-entry-preserved
loop-entry-preserved c =
    let entries = c.args.entries.now in
    let i = c.loop-entry.entry-index in
    let e = c.entry-item.result in
    let more : take (i + 1) entries ≡ take i entries ++ e ∷ [] = search (rules, take_more) in (
      c.cut_with_entry-cut.ensures.short,
      λ before is. subst (λ (es : List Entry). IsCut c.args.most es c.cut_with_entry-cut.result)
          (append_assoc before (take i entries) (e ∷ []) ∙ ap (λ (es : List Entry). before ++ es) (sym more))
          (c.cut_with_entry-cut.ensures.cut (before ++ take i entries) (c.loop-entry.invariant.1 before is)),
    )

pub returns-clause-cut : goal.returns-clause-cut
returns-clause-cut c before is =
    let entries = c.args.entries.now in
    let all : take c.loop-entry.entry-index entries ≡ entries =
    take_full c.loop-entry.entry-index entries (search (rules, arith)) in
    subst (λ (es : List Entry). IsCut c.args.most (before ++ es) c.loop-entry.cut) all
    (c.loop-entry.invariant.1 before is)

pub returns-clause-short : goal.returns-clause-short
returns-clause-short c = c.loop-entry.invariant.0
