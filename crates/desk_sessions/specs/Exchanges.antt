-- What a line was asked, and what came of it.
use Rattle.std.specs.Prelude.{◌≡◌, ◌⊎◌, List, [], ◌∷◌, ◌++◌, Option, Some, None, Result, Err}
use Rattle.desk_types.specs.declared.command.Entry.{Entry}
use Rattle.desk_types.specs.declared.refusal.Refusal.{Refusal}
use Rattle.desk_types.specs.declared.refusal.Refusal.TheVariants as refusals
use Rattle.desk_published.specs.declared.reported.ReportedWord.{ReportedWord}

-- a keeper's word, with what was published then
pub record Saying : Type 0 where
  pub word : ReportedWord
  pub published : List Entry

-- a request, and what came of it
pub record Exchange : Type 0 where
  pub entry : Entry
  pub answer : Result Saying Refusal

-- a word, reported with what was published
abbrev pub saying : ReportedWord → List Entry → Saying
saying word published = record { word = word; published = published }

-- a request with its answer
abbrev pub exchange : Entry → Result Saying Refusal → Exchange
exchange entry answer = record { entry = entry; answer = answer }

-- A list that is known grows by one at its end, and stays known.
abbrev pub GrowsByOne : {A : Type 0} → Option (List A) → Option (List A) → A → Type 0
GrowsByOne None new x = Unit {0}
GrowsByOne (Some xs) None x = ⊥
GrowsByOne (Some xs) (Some ys) x = ys ≡ xs ++ x ∷ []

-- The line was asked this once, and answered so. Where memory was refused it may not have been asked.
abbrev pub Asked : Option (List Exchange) → Option (List Exchange) → Entry → Result Saying Refusal → Type 0
Asked old new entry answer =
    GrowsByOne old new (exchange entry answer) ⊎ ((answer ≡ Err refusals.WantOfMemory) × (new ≡ old))

-- No word of a keeper came: it has ended, or memory was refused.
abbrev pub IsNoWord : Refusal → Type 0
IsNoWord r = (r ≡ refusals.NodeStopped) ⊎ (r ≡ refusals.WantOfMemory)
