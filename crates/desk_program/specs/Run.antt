-- What a run of the program does to the standard input and output.
use Rattle.std.specs.Prelude.{◌≡◌, ◌≢◌, ◌⊎◌, ℕ, List, Option, Some, IfSome, ⊤}
use Rattle.std.specs.Io.KnownBytes.{Appends, Keeps, IsAtEnd}
use Rattle.desk_types.specs.declared.refusal.Refusal.{Refusal}
use Rattle.desk_types.specs.declared.refusal.Refusal.TheVariants as refusals
use Rattle.desk_lines.specs.Lines.{lines_of}
use Rattle.desk_options.specs.CommandLine.{AsksFor, AskForNothing}
use Rattle.desk_options.specs.declared.command_line.choice.Options.{Options}
use Rattle.desk_options.specs.declared.command_line.choice.Options.TheVariants.{Replay, World, Answer, Serve}
use Rattle.desk_options.specs.declared.command_line.choice.Options.TheVariants.{Cluster, Send, Status, Page, Log}
use Rattle.desk_options.specs.declared.command_line.choice.Options.TheVariants.{Version}
use Rattle.desk_options.specs.declared.command_line.choice.WorldOptions.{WorldOptions}
use Rattle.desk_options.specs.Version.{version_line}
use Rattle.desk_output.specs.Prefixes.{AppendsPrefix}
use Rattle.desk_replay.specs.Replay.{replay_text, AppendsReplies}
use Rattle.desk_script.specs.Script.{first_no_event}
use Rattle.desk_script.specs.WorldRun.{AppendsWorld, AppendsWorldPrefix}

-- known bytes grow by all that is asked for, on an input: reply lines, the text of a run of a group of nodes, or the
-- version; what needs files or sockets is none of this run's
abbrev pub AppendsAsked : Option (List ℕ) → Option (List ℕ) → Options → List ℕ → Type 0
AppendsAsked old new (Replay options) input = Appends old new (replay_text options.domain input)
AppendsAsked old new (World options) input = AppendsWorld old new options.domain options.nodes input
AppendsAsked old new (Answer options) input = ⊥
AppendsAsked old new (Serve options) input = ⊥
AppendsAsked old new (Cluster options) input = ⊥
AppendsAsked old new (Send options) input = ⊥
AppendsAsked old new (Status options) input = ⊥
AppendsAsked old new (Page options) input = ⊥
AppendsAsked old new (Log options) input = ⊥
AppendsAsked old new Version input = Appends old new version_line

-- they grow by a prefix of it
abbrev pub AppendsPart : Option (List ℕ) → Option (List ℕ) → Options → List ℕ → Type 0
AppendsPart old new (Replay options) input = AppendsPrefix old new (replay_text options.domain input)
AppendsPart old new (World options) input = AppendsWorldPrefix old new options.domain options.nodes input
AppendsPart old new (Answer options) input = ⊥
AppendsPart old new (Serve options) input = ⊥
AppendsPart old new (Cluster options) input = ⊥
AppendsPart old new (Send options) input = ⊥
AppendsPart old new (Status options) input = ⊥
AppendsPart old new (Page options) input = ⊥
AppendsPart old new (Log options) input = ⊥
AppendsPart old new Version input = AppendsPrefix old new version_line

-- Nothing is read for the version, and the whole input for anything else.
abbrev pub HasReadAsked : Options → Option (List ℕ) → Option (List ℕ) → Type 0
HasReadAsked Version input rest = Keeps input rest
HasReadAsked _ input rest = IsAtEnd rest

-- The version is written on any input, and anything else as the input has it.
abbrev pub WritesAsked : Options → Option (List ℕ) → Option (List ℕ) → Option (List ℕ) → Type 0
WritesAsked Version input old new = Appends old new version_line
WritesAsked options input old new = IfSome input (AppendsAsked old new options)

-- The words ask for something, what that takes of the input was read, and exactly what they ask for was written.
pub record IsDone (words : List (List ℕ)) (input rest old new : Option (List ℕ)) : Type 0 where
  pub options : Options
  pub asked : AsksFor words options
  pub end : HasReadAsked options input rest
  pub written : WritesAsked options input old new

-- The words ask for something, and a prefix of it was written.
pub record IsCutShort (words : List (List ℕ)) (input old new : Option (List ℕ)) : Type 0 where
  pub options : Options
  pub asked : AsksFor words options
  pub written : IfSome input (AppendsPart old new options)

-- a replay has written whole reply lines, and a run of a group of nodes nothing
abbrev pub WritesWhole : Options → Option (List ℕ) → Option (List ℕ) → Option (List ℕ) → Type 0
WritesWhole (Replay options) input old new = IfSome input (AppendsReplies old new options.domain)
WritesWhole (World options) input old new = Keeps old new
WritesWhole (Answer options) input old new = ⊥
WritesWhole (Serve options) input old new = ⊥
WritesWhole (Cluster options) input old new = ⊥
WritesWhole (Send options) input old new = ⊥
WritesWhole (Status options) input old new = ⊥
WritesWhole (Page options) input old new = ⊥
WritesWhole (Log options) input old new = ⊥
WritesWhole Version input old new = ⊥

-- A run of a group of nodes has read its whole input.
abbrev pub HasReadScript : Options → Option (List ℕ) → Type 0
HasReadScript (World options) rest = IsAtEnd rest
HasReadScript _ rest = ⊤

-- This fault can have ended what is asked for: what was written is whole, unless writing failed. Where it did, it is a
-- prefix of all that is asked for, and a script was read to its end before.
pub record IsAskedFault (options : Options) (input rest old new : Option (List ℕ)) (fault : Refusal) : Type 0 where
  pub whole : fault ≢ refusals.WriteFault → WritesWhole options input old new
  pub read : fault ≡ refusals.WriteFault → HasReadScript options rest
  pub part : fault ≡ refusals.WriteFault → IfSome input (AppendsPart old new options)

-- it can have ended what the words ask for; or memory was refused before that was known, and nothing was read and
-- nothing written
abbrev pub IsWordsFault : List (List ℕ) → Option (List ℕ) → Option (List ℕ) → Option (List ℕ) → Option (List ℕ)
    → Refusal → Type 0
IsWordsFault words input rest old new fault =
    ((fault ≡ refusals.WantOfMemory) × Keeps input rest × Keeps old new)
    ⊎ ((options : Options) × AsksFor words options × IsAskedFault options input rest old new fault)

-- a line of the input is no event
abbrev pub HasNoEvent : List ℕ → Type 0
HasNoEvent input = (line : ℕ) × (first_no_event (lines_of input) ≡ Some line)

-- The words ask for a run of a group of nodes, the whole input was read, and a line of it is no event.
pub record IsNoScript (words : List (List ℕ)) (input rest : Option (List ℕ)) : Type 0 where
  pub options : WorldOptions
  pub asked : AsksFor words (World options)
  pub end : IsAtEnd rest
  pub no_event : IfSome input HasNoEvent

-- the words ask for nothing, and nothing was read
abbrev pub IsUnasked : List (List ℕ) → Option (List ℕ) → Option (List ℕ) → Type 0
IsUnasked words input rest = AskForNothing words × Keeps input rest
