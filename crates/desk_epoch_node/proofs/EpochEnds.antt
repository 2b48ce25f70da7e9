-- Where epochs end, and in which state the next one begins.
use Rattle.std.proofs.Common.{◌≡◌, ◌≤◌, ℕ, zero, suc, ◌+◌, true, false, ◌||◌, cond, List, [], ◌∷◌, ◌++◌}
use Rattle.std.proofs.Common.{length, take, refl, ap, ◌∙◌, sym, arith, rules, leb, ltb, Option, Some, None}
use Rattle.std.specs.Option.{is_some}
use Rattle.std.proofs.lemmas.Bool.{false≢true, le-leb, leb-true}
use Rattle.desk_types.specs.declared.command.Entry.{Entry}
use Rattle.desk_types.specs.declared.limits.TheConstants.{LAST_VIEW}
use Rattle.desk_log.specs.SavedValue.{in_view, initial_saved}
use Rattle.desk_node.specs.declared.event.Event.TheVariants as events
use Rattle.desk_node.specs.State.{State}
use Rattle.desk_node.specs.Rules.{node_step}
use Rattle.desk_view_change.specs.Rules.{on_suspect}
use Rattle.desk_epoch_node.specs.declared.replacement.Replacement.{Replacement}
use Rattle.desk_epoch_node.specs.Ends.{cut_of, reaches_end}
use Rattle.desk_epoch_node.specs.Laws.{EndsByCount, EndsByReplacement, SuspicionsLead}
use Rattle.desk_epoch_node.specs.Replacements.{named_by, replacements, with_replacement}
use Rattle.desk_epoch_node.proofs.Cuts.{same_tests}

-- no replacement is named by what names none
no_first : (o : Option Replacement) (rs : List Replacement) → with_replacement o rs ≡ [] →
    (is_some o ≡ false) × (rs ≡ [])
no_first None rs h = (refl, h)
no_first (Some r) rs h = absurd (some_none r rs h)
  where
    some_none : (r : Replacement) (rs : List Replacement) → r ∷ rs ≡ [] → ⊥
    some_none r rs h = omega (arith, ap (λ (xs : List Replacement). length xs) h)

ended_by_count : (k : ℕ) (log : List Entry) → replacements (take k log) ≡ [] →
    reaches_end k log ≡ leb k (length log)
ended_by_count zero log none = sym (le-leb zero (length log) (omega arith))
ended_by_count (suc k) [] none =
    same_tests false (leb (suc k) 0) (λ h. absurd (false≢true h))
    (λ h. absurd (omega (arith, leb-true (suc k) 0 h)))
ended_by_count (suc k) (e ∷ es) none =
    let p = no_first (named_by e) (replacements (take k es)) none in
    ap (λ b. b || reaches_end k es) p.0
    ∙ (ended_by_count k es p.1
    ∙ same_tests (leb k (length es)) (leb (suc k) (suc (length es)))
    (λ h. le-leb (suc k) (suc (length es)) (omega (arith, leb-true k (length es) h)))
    (λ h. le-leb k (length es) (omega (arith, leb-true (suc k) (suc (length es)) h))))

cut_by_count : (k : ℕ) (log : List Entry) → replacements (take k log) ≡ [] → cut_of k log ≡ take k log
cut_by_count zero [] none = refl
cut_by_count zero (e ∷ es) none = refl
cut_by_count (suc k) [] none = refl
cut_by_count (suc k) (e ∷ es) none =
    let p = no_first (named_by e) (replacements (take k es)) none in
    ap (λ (xs : List Entry). e ∷ xs)
    (ap (λ b. cond b [] (cut_of k es)) p.0 ∙ cut_by_count k es p.1)

pub ends_by_count : EndsByCount
ends_by_count most log none = (ended_by_count most log none, cut_by_count most log none)

pub ends_by_replacement : EndsByReplacement
ends_by_replacement zero before rest e none short ends = absurd (omega (arith, short))
ends_by_replacement (suc k) [] rest e none short ends = (
  ap (λ b. b || reaches_end k rest) ends,
  ap (λ (xs : List Entry). e ∷ xs) (ap (λ b. cond b [] (cut_of k rest)) ends),
)
ends_by_replacement (suc k) (x ∷ xs) rest e none short ends =
    let p = no_first (named_by x) (replacements xs) none in
    let q = ends_by_replacement k xs rest e p.1 (omega (arith, short)) ends in (
      ap (λ b. b || reaches_end k (xs ++ e ∷ rest)) p.0 ∙ q.0,
      ap (λ (es : List Entry). x ∷ es) (ap (λ b. cond b [] (cut_of k (xs ++ e ∷ rest))) p.0 ∙ q.1),
    )

-- one suspicion more leads to the next view
suspect_leads : (domain : List ℕ) (i n k : ℕ) → suc k ≤ LAST_VIEW →
    (node_step domain i n (record { saved = in_view k initial_saved; received = [] }) events.Suspect).node
    ≡ record { saved = in_view (suc k) initial_saved; received = [] }
unfolding node_step on_suspect
suspect_leads domain i n k h =
    let below : ltb k LAST_VIEW ≡ true = search (rules, arith) in
    let next : k + 1 ≡ suc k = omega arith in
    rw below (ap (λ v. record { saved = in_view v initial_saved; received = [] }) next)

pub suspicions_lead : SuspicionsLead
suspicions_lead domain i n zero h = refl
suspicions_lead domain i n (suc k) h =
    ap (λ (s : State). (node_step domain i n s events.Suspect).node)
    (suspicions_lead domain i n k (omega (arith, h)))
    ∙ suspect_leads domain i n k h
