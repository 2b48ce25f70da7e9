use Rattle.std.proofs.Common.{◌≡◌, sym, subst, refl, length, []}
use Rattle.std.proofs.lemmas.Bool.{eqb-true}
use Rattle.std.proofs.lemmas.List.{nil_from_length}
use Rattle.desk_frames.specs.Frame.{Awaits, Stands}
use Rattle.desk_frames.specs.declared.frame.FrameStage.{FrameStage}
use Rattle.desk_frames.proofs.Steps.{awaits_nothing}
use Rattle.desk_frames.proofs.frame.OpenFrame.step.Goals as goal

pub returns-then-is_empty-clause-ok : goal.returns-then-is_empty-clause-ok
returns-then-is_empty-clause-ok c =
    let f = c.args.self.now in
    let none : c.args.bytes.now ≡ [] =
    nil_from_length c.args.bytes.now (eqb-true (length c.args.bytes.now) 0 (sym c.if-is_empty.ensures)) in
    let stands : Stands f.stage f.entries =
    subst (λ (p : FrameStage). Stands p f.entries) c.stage-stage.ensures.value c.stage-stage.ensures.stands in
    (refl, subst (Awaits f.stage) (sym none) (awaits_nothing f.stage f.entries stands))
