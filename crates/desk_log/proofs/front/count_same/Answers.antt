use Rattle.std.proofs.Common.{rules, ◌≡◌, ◌≢◌, get_or, sym, subst, ◌∙◌}
use Rattle.std.proofs.lemmas.List.{take_more_same}
use Rattle.desk_log.proofs.CommonPrefix.{ends_before}
use Rattle.desk_log.proofs.front.count_same.Goals as goal

pub returns-then-not-are_equal-clause-greatest : goal.returns-then-not-are_equal-clause-greatest
returns-then-not-are_equal-clause-greatest c k low below same =
    let a = c.index-first-i.result in
    let b = c.index-second-i.result in
    let unlike : a ≢ b = search rules in
    ends_before c.args.first.now c.args.second.now c.loop-i.i a b (search rules) (search rules) c.index-first-i.is
    c.index-second-i.is unlike k same

pub loop-i-preserved : goal.loop-i-preserved
loop-i-preserved c =
    let xs = c.args.first.now in
    let ys = c.args.second.now in
    let i = c.loop-i.i in
    let a = c.index-first-i.result in
    let equal : a ≡ c.index-second-i.result = search rules in
    let other : a ≡ get_or ys i a = subst (λ e. e ≡ get_or ys i e) (sym equal) c.index-second-i.is in
    take_more_same xs ys i a (search rules) (search rules) c.loop-i.invariant (sym c.index-first-i.is ∙ other)
