-- What is written for the lines of an input.
use Rattle.std.specs.Prelude.{◌≡◌, ◌⊎◌, ℕ, Bool, List, [], ◌∷◌, ◌++◌, Option}
use Rattle.std.specs.Io.KnownBytes.{Appends}
use mathlib.Core.List.{IsPrefix}
use Rattle.desk_types.specs.declared.refusal.Refusal.{Refusal}
use Rattle.desk_types.specs.declared.refusal.Refusal.TheVariants as refusals
use Rattle.desk_output.specs.Joined.{joined}
use Rattle.desk_lines.specs.Lines.{lines_of, spoken, HasCome}

-- Known bytes grow by all the texts; or a write failed, and they grow by all but the last, and by a prefix of that one.
abbrev pub AppendsAlmost : Refusal → Option (List ℕ) → Option (List ℕ) → List (List ℕ) → Type 0
AppendsAlmost refusal old new texts =
    Appends old new (joined texts)
    ⊎ ((refusal ≡ refusals.WriteFault)
    × (done : List (List ℕ)) × (last prefix rest : List ℕ)
    × (texts ≡ done ++ last ∷ []) × (last ≡ prefix ++ rest) × Appends old new (joined done ++ prefix))

-- A handler of the type S answers a line by a text, and is then another.
module _ {S : Type 0} (answers : S → List ℕ → List ℕ → S → Type 0) where
  -- One text answers each line, in order, each from where the one before led.
  abbrev pub Serves : S → List (List ℕ) → List (List ℕ) → S → Type 0
  Serves old [] [] new = new ≡ old
  Serves old (line ∷ lines) (text ∷ texts) new = (mid : S) × answers old line text mid × Serves mid lines texts new
  Serves old [] (text ∷ texts) new = ⊥
  Serves old (line ∷ lines) [] new = ⊥

  -- The lines that are not skipped were answered, and the texts written.
  abbrev pub Served : S → Option (List ℕ) → List (List ℕ) → S → Option (List ℕ) → Type 0
  Served old out lines new out' =
      (texts : List (List ℕ)) × Serves old (spoken lines) texts new × Appends out out' (joined texts)

  -- Bytes came after this much of a line: these lines have ended and were answered, and this much of the next has come.
  abbrev pub Goes : S → Option (List ℕ) → List ℕ → List ℕ → List ℕ → Bool → S → Option (List ℕ) → Type 0
  Goes old out line bytes preserved is_long new out' =
      (lines : List (List ℕ)) × (next : List ℕ) × HasCome preserved is_long next
      × ((rest : List ℕ) → lines_of (line ++ (bytes ++ rest)) ≡ lines ++ lines_of (next ++ rest))
      × Served old out lines new out'

-- A handler that gives up at a line tells a refusal, and is then another.
module _ {S : Type 0} (answers : S → List ℕ → List ℕ → S → Type 0)
    (gives_up : S → List ℕ → Refusal → S → Type 0) where
  -- No more was asked; or one line, and the handler gave up at it by the refusal.
  abbrev pub Stops : Refusal → List (List ℕ) → S → S → Type 0
  Stops refusal [] old new = new ≡ old
  Stops refusal (line ∷ []) old new = gives_up old line refusal new
  Stops refusal (line ∷ next ∷ lines) old new = ⊥

  -- The first lines were answered. Then it ended by a refusal: there, or at the line that was asked after them.
  abbrev pub Ends : Refusal → S → Option (List ℕ) → List (List ℕ) → List (List ℕ) → S → Option (List ℕ) → Type 0
  Ends refusal old out first asked new out' =
      (texts : List (List ℕ)) × (last : S) × Serves answers old (spoken first) texts last
      × Stops refusal (spoken asked) last new × AppendsAlmost refusal out out' texts

  -- The first of these lines were answered, and it ended by a refusal there, or at the next, at which the handler gave
  -- up.
  abbrev pub BreaksOff : Refusal → S → Option (List ℕ) → List (List ℕ) → S → Option (List ℕ) → Type 0
  BreaksOff refusal old out lines new out' =
      (first asked : List (List ℕ)) × IsPrefix (first ++ asked) lines × Ends refusal old out first asked new out'

  -- It ended by a refusal while bytes came after this much of a line.
  abbrev pub Breaks : Refusal → S → Option (List ℕ) → List ℕ → List ℕ → S → Option (List ℕ) → Type 0
  Breaks refusal old out line bytes new out' =
      (first asked : List (List ℕ))
      × ((rest : List ℕ) → IsPrefix (first ++ asked) (lines_of (line ++ (bytes ++ rest))))
      × Ends refusal old out first asked new out'
