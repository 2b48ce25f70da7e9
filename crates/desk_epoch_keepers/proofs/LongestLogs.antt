-- Of the logs of nodes that agree, one is the longest: there is one log of which all are prefixes.
use Rattle.std.proofs.Common.{◌≡◌, ◌⊎◌, List, [], ◌++◌, length, drop, sym, ap, ◌∙◌, inl, inr, subst}
use Rattle.std.proofs.lemmas.List.{take-append-drop}
use Rattle.desk_types.specs.declared.command.Entry.{Entry}
use Rattle.desk_log.specs.Entries.{IsLogPrefix}
use Rattle.desk_log.proofs.Prefixes.{prefix_refl, prefix_trans, take-prefix}
use Rattle.desk_epoch_keepers.proofs.AgreeingLogs.{Agree}

-- All are prefixes of that of one node.
pub record HasLongest {N : Type 0} (logs : N → List Entry) : Type 0 where
  pub best : N
  pub has : (x : N) → IsLogPrefix (logs x) (logs best)

-- So it is where none has an entry,
pub none_longest : {N : Type 0} (logs : N → List Entry) (x : N) → ((y : N) → logs y ≡ []) → HasLongest logs
none_longest {N} logs x none = record {
  best = x;
  has = λ y. subst (λ (log : List Entry). IsLogPrefix log (logs x)) (sym (none y)) tt;
}

-- and stays so where logs go on, one of them at a time, and agree then.
pub longest_on : {N : Type 0} (old new : N → List Entry) (at : N) → HasLongest old →
    ((x : N) → (x ≡ at) ⊎ (new x ≡ old x)) → ((x : N) → IsLogPrefix (old x) (new x)) →
    ((x y : N) → Agree (new x) (new y)) → HasLongest new
longest_on {N} old new at b others grows agree = by_order (agree at b.best)
  where
    within : (end : N) → IsLogPrefix (new at) (new end) → IsLogPrefix (new b.best) (new end) → (x : N) →
        (x ≡ at) ⊎ (new x ≡ old x) → IsLogPrefix (new x) (new end)
    within end here there x (inl e) =
        subst (λ (y : N). IsLogPrefix (new y) (new end)) (sym e) here
    within end here there x (inr same) =
        subst (λ (log : List Entry). IsLogPrefix log (new end)) (sym same)
        (prefix_trans (old x) (old b.best) (new end) (b.has x)
        (prefix_trans (old b.best) (new b.best) (new end) (grows b.best) there))

    by_order : Agree (new at) (new b.best) → HasLongest new
    by_order (inl f) =
        record { best = b.best; has = λ x. within b.best f (prefix_refl (new b.best)) x (others x) }
    by_order (inr f) = record { best = at; has = λ x. within at (prefix_refl (new at)) f x (others x) }

-- The logs of nodes are prefixes of one log, and later of it with more entries after it.
pub record AreOfOneLog {N : Type 0} (early late : N → List Entry) : Type 0 where
  pub log : List Entry
  pub more : List Entry
  pub has : (x : N) → IsLogPrefix (early x) log
  pub has_later : (x : N) → IsLogPrefix (late x) (log ++ more)

pub of_one_log : {N : Type 0} (early late : N → List Entry) → HasLongest early → HasLongest late →
    ((x : N) → IsLogPrefix (early x) (late x)) → AreOfOneLog early late
of_one_log {N} early late a b grows =
    let log : List Entry = early a.best in
    let end : List Entry = late b.best in
    let on : IsLogPrefix log end = prefix_trans log (late a.best) end (grows a.best) (b.has a.best) in
    let joined : log ++ drop (length log) end ≡ end =
    ap (λ (x : List Entry). x ++ drop (length log) end) (sym (take-prefix log end on))
    ∙ take-append-drop (length log) end in
    record {
      log = log;
      more = drop (length log) end;
      has = a.has;
      has_later = λ x. subst (λ (es : List Entry). IsLogPrefix (late x) es) (sym joined) (b.has x);
    }
