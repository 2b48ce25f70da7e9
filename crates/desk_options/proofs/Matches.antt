-- What a command finds in its words, and by what it refuses them, where its rules are known.
use Rattle.std.proofs.Common.{◌≡◌, List, [], Bool, true, false, ◌&&◌, inl, inr, refl, sym, subst}
use Rattle.std.proofs.lemmas.Bool.{false≢true}
use Rattle.clap.specs.Kinds.{HasKind, IsAmong, Kinds}
use Rattle.clap.specs.Faults.{fault_of, is_simple_and_free}
use Rattle.clap.specs.Simple.{App, HasMatchesOf}
use Rattle.clap.specs.Values.{kind_of}
use Rattle.clap.specs.Walk.{Text}
use Rattle.clap.specs.declared.error.Error.{Error}
use Rattle.clap.specs.declared.error.kind.ErrorKind.TheVariants as kind
use Rattle.clap.specs.declared.parser.matches.ArgMatches.{ArgMatches}
use Rattle.desk_options.specs.CommandLine.{Accepts, HasValues, OnRefused}
use Rattle.desk_options.specs.CommandLine.{replay_app, world_app, answer_app, serve_app, cluster_app, send_app}
use Rattle.desk_options.specs.CommandLine.{status_app, page_app, log_app}
use Rattle.desk_options.specs.declared.command_line.OptionsFault.{OptionsFault}
use Rattle.desk_options.specs.declared.command_line.OptionsFault.TheVariants.{WantOfMemory}
use Rattle.desk_options.proofs.Words.{always_refused}

first_true : (x y : Bool) → (x && y) ≡ true → x ≡ true
first_true true y e = refl
first_true false y e = absurd (false≢true e)

pub found_by : (app made : App) (words : List Text) (found : ArgMatches) → is_simple_and_free app ≡ true →
    made ≡ app → HasMatchesOf made words found → (is_simple_and_free made ≡ true → fault_of made words ≡ []) →
    Accepts app words × HasValues app words found
found_by app made words found simple same has accepts = (
  subst (λ a. is_simple_and_free a ≡ true → fault_of a words ≡ []) same accepts simple,
  (subst (λ a. HasMatchesOf a words found) same has (first_true _ _ simple)).0,
)

by_kind : (kinds : Kinds) (error : Error) (fault : OptionsFault) → HasKind kinds error →
    (kind_of error ≡ kind.OutOfMemory → fault ≡ WantOfMemory) → OnRefused fault (kinds ≡ [] → ⊥)
by_kind kinds error fault (inl memory) printed = subst (λ f. OnRefused f (kinds ≡ [] → ⊥)) (sym (printed memory)) tt
by_kind kinds error fault (inr among) printed =
    always_refused fault (λ none. subst (IsAmong (kind_of error)) none among)

pub refused_by : (app made : App) (words : List Text) (error : Error) (fault : OptionsFault) →
    is_simple_and_free app ≡ true → made ≡ app →
    (is_simple_and_free made ≡ true → HasKind (fault_of made words) error) →
    (kind_of error ≡ kind.OutOfMemory → fault ≡ WantOfMemory) → OnRefused fault (Accepts app words → ⊥)
refused_by app made words error fault simple same has printed =
    by_kind (fault_of app words) error fault
    (subst (λ a. is_simple_and_free a ≡ true → HasKind (fault_of a words) error) same has simple) printed

-- the definition of `clap` covers the commands

pub replay_is_simple : is_simple_and_free replay_app ≡ true
replay_is_simple = refl

pub world_is_simple : is_simple_and_free world_app ≡ true
world_is_simple = refl

pub answer_is_simple : is_simple_and_free answer_app ≡ true
answer_is_simple = refl

pub serve_is_simple : is_simple_and_free serve_app ≡ true
serve_is_simple = refl

pub cluster_is_simple : is_simple_and_free cluster_app ≡ true
cluster_is_simple = refl

pub send_is_simple : is_simple_and_free send_app ≡ true
send_is_simple = refl

pub status_is_simple : is_simple_and_free status_app ≡ true
status_is_simple = refl

pub page_is_simple : is_simple_and_free page_app ≡ true
page_is_simple = refl

pub log_is_simple : is_simple_and_free log_app ≡ true
log_is_simple = refl
