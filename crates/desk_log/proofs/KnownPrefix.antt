-- A saved state that follows another by a step, and which refusals are the store's.
use Rattle.std.proofs.Common.{◌≡◌, inl, inr, ℕ, ◌≤◌, List, length, take, sym, ap, subst, ◌∙◌, arith}
use Rattle.std.proofs.lemmas.List.{length-take-le}
use Rattle.desk_types.specs.declared.command.Entry.{Entry}
use Rattle.desk_types.specs.declared.refusal.Refusal.{Refusal}
use Rattle.desk_types.specs.declared.refusal.Refusal.TheVariants as refusals
use Rattle.desk_types.specs.Refusal.{IsStoreRefusal}
use Rattle.desk_log.specs.Entries.{IsLogPrefix}
use Rattle.desk_log.specs.SavedValue.{SavedValue}
use Rattle.desk_log.proofs.Prefixes.{prefix_take, prefix_trans, length-prefix, take-prefix}

-- what was committed stays at the beginning of the log
front_preserved : (k m : ℕ) (old new : List Entry) → k ≤ length old → IsLogPrefix (take k old) (take m new) →
    (k ≤ length new) × (take k old ≡ take k new)
front_preserved k m old new within h =
    let there : IsLogPrefix (take k old) new = prefix_trans (take k old) (take m new) new h (prefix_take m new) in
    let n : length (take k old) ≡ k = length-take-le k old within in
    let most = length-prefix (take k old) new there in
    (omega (arith, n, most), sym (take-prefix (take k old) new there) ∙ ap (λ j. take j new) n)

-- A step keeps what was committed, so the log that was saved last and the log that is given begin with it.
pub front_after : (front : ℕ) (was old last new given : SavedValue) → front ≡ was.commit → front ≤ length was.log →
    was ≡ old → last ≡ old → given ≡ new → IsLogPrefix (take old.commit old.log) (take new.commit new.log) →
    ((front ≤ length last.log) × (front ≤ length given.log)) × (take front last.log ≡ take front given.log)
front_after front was old last new given e within is_old is_last is_new h =
    let k : front ≡ old.commit = e ∙ ap (λ (s : SavedValue). s.commit) is_old in
    let least : front ≤ length old.log = subst (λ (s : SavedValue). front ≤ length s.log) is_old within in
    let p = subst (λ (n : ℕ). IsLogPrefix (take n old.log) (take new.commit new.log)) (sym k) h in
    let f = front_preserved front new.commit old.log new.log least p in
    rw (is_last, is_new) ((least, f.0), f.1)

-- Want of memory is no refusal of the store.
pub memory_no_store : (r : Refusal) → r ≡ refusals.WantOfMemory → IsStoreRefusal r → ⊥
memory_no_store r e (inl fault) = cc
memory_no_store r e (inr stopped) = cc
