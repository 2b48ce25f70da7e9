-- Prefixes, in the three words for them, and what a read leaves.
use Rattle.std.proofs.Common.{◌≡◌, List, [], refl, sym, subst, ◌∙◌, append-nil, Option, Some, None, MatchOption}
use Rattle.std.proofs.Common.{Bool, true, false, MatchBool}
use mathlib.Core.List.{IsPrefix}
use Rattle.desk_types.specs.declared.command.Entry.{Entry}
use Rattle.desk_log.specs.SavedValue.{SavedValue, committed_entries}
use Rattle.desk_published.specs.Writer.{EqualsPrefix}
use Rattle.desk_published.proofs.PrefixEquations.{is_front}

-- a pass begins with the one before, whether the board was entered or not
pub read_goes_on : {T : Type 0} (o : Option T) (old new : List Entry) (P : T → Type 0) →
    MatchOption o (new ≡ old) (λ t. IsPrefix old new × P t) → IsPrefix old new
read_goes_on None old new P h = ([], append-nil old ∙ sym h)
read_goes_on (Some t) old new P h = h.0

-- what is published of a state that was given
pub shown_front : (shown : List Entry) (given saved : SavedValue) → given ≡ saved →
    IsPrefix shown (committed_entries given) → EqualsPrefix shown (committed_entries saved)
shown_front shown given saved same h =
    is_front shown (committed_entries saved) (subst (λ (s : SavedValue). IsPrefix shown (committed_entries s)) same h)

-- what has nothing begins each list
pub nothing_front : (front list : List Entry) → front ≡ [] → EqualsPrefix front list
nothing_front front list is = subst (λ (f : List Entry). EqualsPrefix f list) (sym is) refl

-- what a test says, where it is true, and where it is false
pub where_true : (b : Bool) (A B : Type 0) → MatchBool b A B → b ≡ true → A
where_true b A B reported is = subst (λ (x : Bool). MatchBool x A B) is reported

pub where_false : (b : Bool) (A B : Type 0) → MatchBool b A B → b ≡ false → B
where_false b A B reported is = subst (λ (x : Bool). MatchBool x A B) is reported

-- and both of it
pub where_either : (b : Bool) (A B : Type 0) → (b ≡ true → A) → (b ≡ false → B) → MatchBool b A B
where_either true A B f g = f refl
where_either false A B f g = g refl
