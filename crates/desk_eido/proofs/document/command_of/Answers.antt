use Rattle.std.proofs.Common.{Result, Ok, Err, ap, ◌∙◌, subst}
use Rattle.desk_types.specs.declared.refusal.Refusal.{Refusal}
use Rattle.desk_types.specs.declared.refusal.Refusal.TheVariants.{WantOfMemory}
use Rattle.desk_eido.specs.declared.ask.Ask.{Ask}
use Rattle.desk_eido.specs.Members.{GivesResult}
use Rattle.desk_eido.specs.Reading.{ReadsAs, ask_in, ask_of}
use Rattle.desk_eido.specs.Document.{placed_members}
use Rattle.desk_eido.proofs.Documents.{placed_members-with_copy}
use Rattle.desk_eido.proofs.document.command_of.Goals as goal

reads_as : (r read : Result Ask Refusal) → GivesResult (λ a. a) r read → ReadsAs r read
reads_as (Ok a) read h = h
reads_as (Err WantOfMemory) read h = tt
reads_as (Err e) read h = h (λ k. cc)

pub returns : goal.returns
unfolding ask_of
returns c = λ d h.
    let document_is = ap placed_members c.new.ensures ∙ placed_members-with_copy d _ _ c.requires h in
    subst (λ m. ReadsAs c.ask_in.result (ask_in m)) document_is (reads_as _ _ c.ask_in.ensures)
