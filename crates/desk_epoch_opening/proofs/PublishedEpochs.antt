-- What is noted and published as epochs are opened.
use Rattle.std.proofs.Common.{◌≡◌, ◌≤◌, ◌+◌, ◌++◌, ◌∙◌, ℕ, List, [], ◌∷◌, length, take, refl, sym, ap, subst, arith}
use Rattle.std.proofs.Common.{append-nil, append_assoc, length-append, drop, take-append-drop, suc, true}
use mathlib.Core.List.{IsPrefix}
use Rattle.desk_types.specs.declared.command.Entry.{Entry}
use Rattle.desk_log.specs.SavedValue.{SavedValue}
use Rattle.desk_published.specs.Writer.{EqualsPrefix, followed_by}
use Rattle.desk_published.proofs.PrefixEquations.{is_front, is_prefix}
use Rattle.desk_epoch_node.specs.PastRows.{PastValue, StandFor}
use Rattle.desk_epoch_stores.specs.Starting.{MayHoldLogs, is_finished, saved_cut}
use Rattle.desk_epoch_opening.specs.Pasts.{past_in}

-- all of a list are its first ones
all_first : (base : ℕ) (noted : List Entry) → length noted ≡ base → noted ≡ take base noted
all_first base noted count = is_front noted noted ([], append-nil noted) ∙ ap (λ n. take n noted) count

-- what the writer has noted begins what it notes after it
pub noted_first : (base : ℕ) (noted entries : List Entry) → length noted ≡ base →
    EqualsPrefix noted (followed_by base noted entries)
noted_first base noted entries count =
    is_front noted (followed_by base noted entries)
    (entries, ap (λ front. front ++ entries) (all_first base noted count))

no_rest : (xs rest ys : List Entry) → xs ++ rest ≡ ys → length ys ≤ length xs → xs ≡ ys
no_rest xs [] ys e within = sym (append-nil xs) ∙ e
no_rest xs (r ∷ rest) ys e within = absurd (omega (arith, ap length e, length-append xs (r ∷ rest), within))

-- where all is published, all is noted and no more
pub all_noted : (base : ℕ) (noted now shown entries : List Entry) → length noted ≡ base →
    EqualsPrefix now (followed_by base noted entries) → IsPrefix shown now →
    shown ≡ followed_by base noted entries → (now ≡ noted ++ entries) × (shown ≡ now)
all_noted base noted now shown entries count begins held whole =
    let all : List Entry = followed_by base noted entries in
    let within = is_prefix now all begins in
    let same : shown ≡ now =
    no_rest shown held.0 now held.1 (omega (arith, ap length within.1, length-append now within.0, ap length whole)) in
    (sym same ∙ whole ∙ ap (λ front. front ++ entries) (sym (all_first base noted count)), same)

-- a part of the rest is noted after what was
pub part_more : (n : ℕ) (noted rest part after now all : List Entry) → part ≡ take n rest → after ≡ drop n rest →
    now ≡ noted ++ part → noted ++ rest ≡ all → now ++ after ≡ all
part_more n noted rest part after now all front back is before =
    ap (λ (list : List Entry). list ++ after) is ∙ append_assoc noted part after
    ∙ ap (λ (list : List Entry). noted ++ (list ++ after)) front
    ∙ ap (λ (list : List Entry). noted ++ (take n rest ++ list)) back
    ∙ ap (λ (list : List Entry). noted ++ list) (take-append-drop n rest) ∙ before

-- the past is the first of what is published after it
pub past_first : (p : PastValue) (past cut now : List Entry) → StandFor past p → now ≡ past ++ cut →
    past_in p now ≡ past
past_first p past cut now stands is =
    ap (λ (list : List Entry). take p.length list) is ∙ ap (λ n. take n (past ++ cut)) stands.length_is
    ∙ sym (is_front past (past ++ cut) (cut, refl))

-- so what is published is that past, and what is committed after it
pub past_followed : (p : PastValue) (past cut now : List Entry) → StandFor past p → now ≡ past ++ cut →
    now ≡ followed_by p.length now cut
past_followed p past cut now stands is =
    is ∙ ap (λ (list : List Entry). list ++ cut) (sym (past_first p past cut now stands is))

-- Past logs with that of an epoch that is over are those of the next epoch.
pub logs_on : (may_hold : ℕ → SavedValue → Type 0) (most given count epoch next : ℕ) (s : SavedValue)
    (before now : List Entry) → MayHoldLogs may_hold most epoch before → may_hold epoch s →
    is_finished given count s ≡ true → count ≡ length before → given ≡ most → next ≡ epoch + 1 →
    now ≡ before ++ saved_cut given s → MayHoldLogs may_hold most next now
logs_on may_hold most given count epoch next s before now logs held over counted same is noted =
    let at : suc epoch ≡ next = omega (arith, is) in
    subst (λ (e : ℕ). MayHoldLogs may_hold most e now) at (
      before,
      s,
      logs,
      held,
      subst (λ (n : ℕ). is_finished most n s ≡ true) counted
          (subst (λ (m : ℕ). is_finished m count s ≡ true) same over),
      noted ∙ ap (λ (m : ℕ). before ++ saved_cut m s) same,
    )
