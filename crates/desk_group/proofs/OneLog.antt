-- All that nodes publish is of one log.
use Rattle.std.proofs.Common.{◌≡◌, ℕ, ◌≤◌, ◌⊎◌, zero, suc, ◌<◌, List, [], ◌∷◌, ◌++◌, length, drop, refl, sym, ap}
use Rattle.std.proofs.Common.{◌∙◌, inl, inr, ⊎_elim, subst, arith, get_or}
use Rattle.std.proofs.lemmas.Bool.{cases_lt}
use Rattle.std.proofs.lemmas.List.{take-append-drop}
use Rattle.desk_types.specs.Group.{IsGroup}
use Rattle.desk_types.specs.declared.command.Entry.{Entry}
use Rattle.desk_log.specs.Entries.{IsLogPrefix}
use Rattle.desk_log.specs.SavedValue.{SavedValue, committed_entries}
use Rattle.desk_log.proofs.Prefixes.{prefix_refl, prefix_trans, take-prefix}
use Rattle.desk_node.specs.State.{State}
use Rattle.desk_world.specs.World.{World, first_world, first_state, world_from, node_of_world}
use Rattle.desk_group.specs.Group.{Keepers, Act, Runs, started_group, committed}
use Rattle.desk_group.specs.Agreement.{OneLog}
use Rattle.desk_group.proofs.GroupWorlds.{GoesOn, run_goes_on, first_stands}
use Rattle.desk_group.proofs.Published.{front, stays, committed_agrees, runs_on}

-- of the first nodes, one that has committed all that they have
record Longest (g : Keepers) (m : ℕ) : Type 0 where
  best : ℕ
  has : (i : ℕ) → i < m → IsLogPrefix (committed g i) (committed g best)

longest : (domain : List ℕ) (n : ℕ) (acts : List Act) (g : Keepers) → IsGroup n →
    Runs domain n (started_group domain n) acts g → (m : ℕ) → Longest g m
longest domain n acts g group l zero = record { best = 0; has = λ i small. absurd (omega (arith, small)) }
longest domain n acts g group l (suc m) =
    let b : Longest g m = longest domain n acts g group l m in
    ⊎_elim
    (λ f. record {
      best = b.best;
      has = λ i small. below b.best b.has (committed g b.best) i small (cases_lt i m) f (λ p. p);
    })
    (λ f. record {
      best = m;
      has = λ i small. below b.best b.has (committed g m) i small (cases_lt i m)
          (prefix_refl (committed g m)) (λ p. prefix_trans _ (committed g b.best) (committed g m) p f);
    })
    (committed_agrees domain n acts [] g g m b.best group l refl)
  where
    below : (best : ℕ) → ((i : ℕ) → i < m → IsLogPrefix (committed g i) (committed g best)) → (log : List Entry) →
        (i : ℕ) → i < suc m → (i < m) ⊎ (m ≤ i) → IsLogPrefix (committed g m) log →
        (IsLogPrefix (committed g i) (committed g best) → IsLogPrefix (committed g i) log) →
        IsLogPrefix (committed g i) log
    below best has log i small (inl l) last f = f (has i l)
    below best has log i small (inr l) last f =
        let same : m ≡ i = omega (arith, small, l) in
        subst (λ (k : ℕ). IsLogPrefix (committed g k) log) same last

past_end : {X : Type 0} (xs : List X) (i : ℕ) (d : X) → length xs ≤ i → get_or xs i d ≡ d
past_end [] i d l = refl
past_end (x ∷ xs) zero d l = absurd (omega (arith, l))
past_end (x ∷ xs) (suc i) d l = past_end xs i d (omega (arith, l))

-- who is no node of the group has committed nothing
none_past : (domain : List ℕ) (n : ℕ) (acts : List Act) (g : Keepers) (i : ℕ) →
    Runs domain n (started_group domain n) acts g → n ≤ i → committed g i ≡ []
none_past domain n acts g i l past =
    let a : GoesOn domain n (first_world n) g =
    run_goes_on domain n (started_group domain n) g (first_world n) acts (first_stands domain n) l in
    let w : World = world_from domain n (first_world n) a.events in
    let is : node_of_world w i ≡ first_state =
    past_end w.nodes i first_state (omega (arith, past, a.stands.count)) in
    ap (λ (s : SavedValue). committed_entries s) (a.stands.keepers i).saved_is
    ∙ ap (λ (s : State). committed_entries s.saved) is

all_within : (domain : List ℕ) (n : ℕ) (acts : List Act) (g : Keepers) → Runs domain n (started_group domain n) acts g →
    (b : Longest g n) → (i : ℕ) (list : List Entry) → IsLogPrefix list (committed g i) →
    IsLogPrefix list (committed g b.best)
all_within domain n acts g l b i list p =
    prefix_trans list (committed g i) (committed g b.best) p (by_node (cases_lt i n))
  where
    by_node : (i < n) ⊎ (n ≤ i) → IsLogPrefix (committed g i) (committed g b.best)
    by_node (inl small) = b.has i small
    by_node (inr past) = let none : committed g i ≡ [] = none_past domain n acts g i l past in
        subst (λ (log : List Entry). IsLogPrefix log (committed g b.best)) (sym none) tt

pub one_log : OneLog
one_log domain n first more early late group l m =
    let whole : Runs domain n (started_group domain n) (first ++ more) late =
    runs_on domain n first more (started_group domain n) early late l m in
    let a : Longest early n = longest domain n first early group l n in
    let b : Longest late n = longest domain n (first ++ more) late group whole n in
    let log : List Entry = committed early a.best in
    let end : List Entry = committed late b.best in
    let grows : IsLogPrefix log end =
    prefix_trans log (committed late a.best) end (stays domain n first more early late a.best group l m)
    (all_within domain n (first ++ more) late whole b a.best (committed late a.best)
    (prefix_refl (committed late a.best))) in
    let joined : log ++ drop (length log) end ≡ end =
    ap (λ (x : List Entry). x ++ drop (length log) end) (sym (take-prefix log end grows))
    ∙ take-append-drop (length log) end in (
      log,
      drop (length log) end,
      (λ i list p. all_within domain n first early l a i list (front list (committed early i) p)),
      (λ i list p. subst (λ (x : List Entry). IsLogPrefix list x) (sym joined)
          (all_within domain n (first ++ more) late whole b i list (front list (committed late i) p))),
    )
