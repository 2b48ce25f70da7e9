-- What a backup does with a Prepare and with a Commit, and the primary with a PrepareOk.
use Rattle.std.proofs.Common.{◌≡◌, ◌≢◌, ℕ, suc, ◌+◌, ◌-◌, ◌<◌, ◌≤◌, min, max, Bool, true, false, not, ◌&&◌}
use Rattle.std.proofs.Common.{◌||◌, List, [], ◌∷◌, ◌++◌, length, Some, refl, sym, ap, ◌∙◌, arith, inl, inr, ⊎_elim, eqb}
use Rattle.std.proofs.Common.{leb, ltb, subst}
use Rattle.std.specs.List.{Contains}
use Rattle.std.proofs.lemmas.Bool.{cases_lt, or_parts, or_cases, and_parts, and_left, eqb-true, eqb-false}
use Rattle.std.proofs.lemmas.Bool.{eq-eqb, ltb-false, not-true, not-false}
use Rattle.std.proofs.lemmas.List.{length_push}
use Rattle.std.proofs.lemmas.List.Elements.{Contains-append_cases, Contains-append_left}
use Rattle.desk_types.specs.declared.command.Entry.{Entry}
use Rattle.desk_types.specs.declared.packet.Message.{Message}
use Rattle.desk_types.specs.declared.packet.Message.TheVariants.{PrepareOk, Commit, GetState}
use Rattle.desk_log.specs.declared.answers.Answers.TheVariants as answers
use Rattle.desk_log.specs.Change.{Change, is_normal, leads, to_others, commit_up_to}
use Rattle.desk_log.specs.Entries.{IsLogPrefix, entry_at}
use Rattle.desk_log.specs.Quorum.{primary, is_from_primary, faults, tally}
use Rattle.desk_log.specs.SavedValue.{SavedValue, with_entry}
use Rattle.desk_normal.specs.Acknowledgements.{votes, acknowledged_place, places_with, places_with_packet}
use Rattle.desk_normal.specs.PlaceLaws.{IsVoted}
use Rattle.desk_normal.specs.Rules.{is_stray, is_ahead, commit_packets, on_prepare, commit_acknowledged, on_prepare_ok}
use Rattle.desk_normal.specs.Rules.{on_commit}
use Rattle.desk_node.specs.Heard.{Heard, heard_of, silence}
use Rattle.desk_node.specs.Rules.{step_of_change}
use Rattle.desk_node.specs.Said.{has_acked}
use Rattle.desk_world.specs.Views.{IsChosen}
use Rattle.desk_world.proofs.ViewLog.{has_begun, announced_start, announced_log}
use Rattle.desk_world.specs.World.{messages}
use Rattle.desk_log.proofs.Prefixes.{prefix_refl, prefix_trans, prefix_append, prefix_push, length-prefix}
use Rattle.desk_log.proofs.Prefixes.{take_take-prefix}
use Rattle.desk_log.proofs.Tallies.{tally_one_more, tally_le, tally_same}
use Rattle.desk_normal.proofs.Candidates.{acknowledged_is_greatest}
use Rattle.desk_node.proofs.HeardLists.{heard_append}
use Rattle.desk_node.proofs.Said.{acked_says}
use Rattle.desk_world.proofs.Packets.{Contains-one, SentOk, has_acked-sent, sent-has_acked, IsBacked, IsBacked-to}
use Rattle.desk_world.proofs.Packets.{IsBacked-max}
use Rattle.desk_world.proofs.CommittedAnswers.{answers_after-answered}
use Rattle.desk_world.proofs.NodeInvariants.{Nodes, NodeInvariant, PrepareHolds, CommitHolds, SavedLater}
use Rattle.desk_world.proofs.Invariant.{GroupInvariant}
use Rattle.desk_world.proofs.SafeSteps.{Fit, fit_others, fit_if, fit_asks, good_plain, Safe, good_safe, safe_if}
use Rattle.desk_world.proofs.SafeSteps.{safe_plain}
use Rattle.desk_world.proofs.SafeSteps.{safe_nothing, safe_one_packet}

-- the same view, with a log that is as long or longer, and with a backed commit
abbrev with_longer_log : SavedValue → List Entry → ℕ → SavedValue
with_longer_log s l k = record { view = s.view; normal = s.normal; log = l; commit = max s.commit (min k (length l)) }

with_longer_log_preserved : (n : ℕ) (ps : List Message) (i : ℕ) (s : SavedValue) → NodeInvariant n ps i s →
    (l : List Entry) →
    IsLogPrefix s.log l → IsLogPrefix l (announced_log ps s.normal) →
    (i ≡ primary n s.normal → l ≡ announced_log ps s.normal) → (k : ℕ) → IsBacked n ps s.normal k →
    NodeInvariant n ps i (with_longer_log s l k)
with_longer_log_preserved n ps i s own l longer within whole k p = record {
  order = own.order;
  within_log = omega (arith, own.within_log, length-prefix s.log l longer);
  begun = own.begun;
  starts = prefix_trans (announced_start ps s.normal) s.log l own.starts longer;
  within = within;
  whole = whole;
  backed = IsBacked-max n ps s.normal s.commit (min k (length l)) own.backed
      (IsBacked-to n ps s.normal s.normal k (min k (length l)) (omega arith) (omega arith) p);
}

with_longer_log_later : (s : SavedValue) (l : List Entry) (k : ℕ) → s.normal ≡ s.view → s.commit ≤ length s.log →
    IsLogPrefix s.log l → SavedLater s (with_longer_log s l k)
with_longer_log_later s l k e c f = record {
  view = omega arith;
  normal = omega arith;
  log = λ _. f;
  commit = omega arith;
  committed = take_take-prefix s.commit (max s.commit (min k (length l))) s.log l (omega arith) f;
  still = λ _ x. absurd (omega arith);
}

-- A node that is normal in a view may acknowledge a place up to its log's length.
pub fit_ok : (n : ℕ) (ps : List Message) (i : ℕ) (old new : SavedValue) (v m : ℕ) → new.view ≡ v → new.normal ≡ v →
    has_begun ps v ≡ true →
    m ≤ length (announced_log ps v) → m ≤ length new.log → Fit n ps i old new (PrepareOk i v m)
fit_ok n ps i old new v m ev en b lg ll = record {
  holds = λ after e. record {
    begun = b;
    within = lg;
    sender = inr (
      sym (ap (λ (x : SavedValue). x.normal) e ∙ en),
      omega
          (arith, ll, ap (λ (x : SavedValue). length x.log) e),
    );
  };
  here = (refl, sym ev);
}

-- Where a packet comes from the view's primary, which is another node, the node is not that primary.
pub from_another : (i n from w : ℕ) → not (is_from_primary i n from w) ≡ false → i ≢ primary n w
from_another i n from w t =
    let a = and_parts (eqb from (primary n w)) (not (eqb i (primary n w))) (not-false (is_from_primary i n from w) t) in
    eqb-false i (primary n w) (not-true (eqb i (primary n w)) a.1)

-- a packet from the primary of the view in which another node is normal
in_own : (i n from u v w : ℕ) → (ltb w v || not (is_from_primary i n from w)) ≡ false →
    (ltb v w || not (eqb u v)) ≡ false →
    (w ≡ v) × (u ≡ v) × (i ≢ primary n w)
in_own i n from u v w t y =
    let a = or_parts (ltb w v) (not (is_from_primary i n from w)) t in
    let c = or_parts (ltb v w) (not (eqb u v)) y in
    let lo : v ≤ w = ltb-false w v a.0 in
    let hi : w ≤ v = ltb-false v w c.0 in
    (omega arith, eqb-true u v (not-false (eqb u v) c.1), from_another i n from w a.1)

pub safe_prepare : (domain : List ℕ) (n : ℕ) (ps : List Message) (at : Nodes) (i from w m c : ℕ) (e : Entry) →
    GroupInvariant n ps at → PrepareHolds n ps from w m c e →
    Safe domain n ps at i (at i).received (on_prepare i n (at i).saved from w m c e)
unfolding on_prepare
safe_prepare domain n ps at i from w m c e k r =
    let s : SavedValue = (at i).saved in
    let own : NodeInvariant n ps i s = k.nodes i in
    safe_if (is_stray i n s from w) (λ _. safe_nothing domain n ps at i k) (λ t.
    safe_if (is_ahead s w) (λ _. safe_one_packet domain n ps at i from _ k (fit_asks n ps i s s i w s.commit)) (λ y.
    let here = in_own i n from s.normal s.view w t y in
    let wu : w ≡ s.normal = here.0 ∙ sym here.1 in
    let uw : s.normal ≡ w = sym wu in
    let apart : i ≡ primary n s.normal → ⊥ = λ q. here.2 (rw wu q) in
    let p : IsBacked n ps s.normal c = rw wu at r.backed in
    let started : has_begun ps w ≡ true = r.begun in
    safe_if (eqb m (length s.log + 1))
    (λ q.
    let next : m ≡ length s.log + 1 = eqb-true m (length s.log + 1) q in
    let place : m ≡ suc (length s.log) = omega arith in
    let stands : entry_at (announced_log ps s.normal) (suc (length s.log)) ≡ Some e = rw (wu, place) at r.stands in
    let l : List Entry = s.log ++ e ∷ [] in
    let longer : IsLogPrefix s.log l = prefix_append s.log (e ∷ []) in
    let within : IsLogPrefix l (announced_log ps s.normal) =
    prefix_push s.log (announced_log ps s.normal) e own.within stands in
    let long : length l ≤ length (announced_log ps w) =
    rw (← uw) (length-prefix l (announced_log ps s.normal) within) in
    let pushed : length l ≡ length s.log + 1 = length_push s.log e in
    let new : SavedValue = commit_up_to c (with_entry e s) in
    safe_plain domain n ps at i k new ((from, PrepareOk i w m) ∷ []) answers.Nothing
    (with_longer_log_later s l c here.1 own.within_log longer)
    (with_longer_log_preserved n ps i s own l longer within (λ z. absurd (apart z)) c p)
    (fit_ok n ps i s new w m (sym here.0) uw started (omega (arith, long, pushed)) (omega (arith, pushed)), tt) tt)
    (λ _.
    safe_if (leb m (length s.log))
    (λ _.
    let new : SavedValue = commit_up_to c s in
    let long : length s.log ≤ length (announced_log ps w) =
    rw (← uw) (length-prefix s.log (announced_log ps s.normal) own.within) in
    safe_plain domain n ps at i k new ((from, PrepareOk i w (length s.log)) ∷ []) answers.Nothing
    (with_longer_log_later s s.log c here.1 own.within_log (prefix_refl s.log))
    (with_longer_log_preserved n ps i s own s.log (prefix_refl s.log) own.within own.whole c p)
    (fit_ok n ps i s new w (length s.log) (sym here.0) uw started long (omega arith), tt) tt)
    (λ _. safe_one_packet domain n ps at i from _ k (fit_asks n ps i s s i w s.commit)))))

pub safe_commit : (domain : List ℕ) (n : ℕ) (ps : List Message) (at : Nodes) (i from w c : ℕ) → GroupInvariant n ps at →
    CommitHolds n ps from w c →
    Safe domain n ps at i (at i).received (on_commit i n (at i).saved from w c)
unfolding on_commit
safe_commit domain n ps at i from w c k r =
    let s : SavedValue = (at i).saved in
    let own : NodeInvariant n ps i s = k.nodes i in
    safe_if (is_stray i n s from w) (λ _. safe_nothing domain n ps at i k) (λ t.
    safe_if (is_ahead s w) (λ _. safe_one_packet domain n ps at i from _ k (fit_asks n ps i s s i w s.commit)) (λ y.
    let here = in_own i n from s.normal s.view w t y in
    let p : IsBacked n ps s.normal c = rw (here.0, ← here.1) at r.backed in
    let new : SavedValue = commit_up_to c s in
    let later : SavedLater s new = with_longer_log_later s s.log c here.1 own.within_log (prefix_refl s.log) in
    let preserved : NodeInvariant n ps i new = with_longer_log_preserved n ps i s own s.log
    (prefix_refl s.log) own.within own.whole c p in
    safe_if (ltb (length s.log) c)
    (λ _. safe_plain domain n ps at i k new ((from, GetState i w new.commit) ∷ []) answers.Nothing later preserved
    (fit_asks n ps i s new i w new.commit, tt) tt)
    (λ _. safe_plain domain n ps at i k new [] answers.Nothing later preserved tt tt)))

-- the normal primary of a view
pub leads_facts : (i n : ℕ) (s : SavedValue) → leads i n s ≡ true → (s.normal ≡ s.view) × (i ≡ primary n s.view)
leads_facts i n s t =
    let a = and_parts (is_normal s) (eqb i (primary n s.view)) t in
    (eqb-true s.normal s.view a.0, eqb-true i (primary n s.view) a.1)

taken_acked : (ps rs : List Message) → ((p : Message) → Contains rs p → Contains ps p) → (x m j : ℕ) →
    has_acked rs x m j ≡ true → has_acked ps x m j ≡ true
taken_acked ps rs taken x m j t =
    let o : SentOk rs x m j = has_acked-sent rs x m j t in
    sent-has_acked ps x m j (o.0, o.1, taken _ o.2)

-- Votes that are counted by places are counted by packets.
votes_said : (i n x m : ℕ) (rs : List Message) → 1 ≤ m →
    votes i n (heard_of n x rs).places m ≡ tally n (λ j. not (eqb j i) && has_acked rs x m j)
votes_said i n x m rs pos = tally_same n _ _ (λ j l. ap (λ b. not (eqb j i) && b) (acked_says n x j m rs l pos))

-- The node itself and as many others as may fail are a majority.
votes_chosen : (n : ℕ) (ps : List Message) (i x m : ℕ) (rs : List Message) → i < n → has_acked ps x m i ≡ true →
    ((p : Message) → Contains rs p → Contains ps p) →
    1 ≤ m → faults n ≤ votes i n (heard_of n x rs).places m → IsChosen n ps x m
votes_chosen n ps i x m rs small own taken pos h =
    let p : ℕ → Bool = λ j. not (eqb j i) && has_acked rs x m j in
    let off : p i ≡ false = and_left (not (eqb i i)) (has_acked rs x m i) (ap not (eq-eqb i i refl)) in
    record {
      quorum = omega (
        arith,
        h,
        votes_said i n x m rs pos,
        tally_one_more n i p small off,
        tally_le n
            (λ j. eqb j i || p j) (has_acked ps x m) each,
      );
    }
  where
    each : (j : ℕ) → (eqb j i || (not (eqb j i) && has_acked rs x m j)) ≡ true → has_acked ps x m j ≡ true
    each j t = ⊎_elim
        (λ a. rw (eqb-true j i a) own)
        (λ b. taken_acked ps rs taken x m j (and_parts (not (eqb j i)) (has_acked rs x m j) b).1)
        (or_cases (eqb j i) (not (eqb j i) && has_acked rs x m j) t)

votes_backed : (n : ℕ) (ps : List Message) (i x : ℕ) (rs : List Message) → i < n →
    ((p : Message) → Contains rs p → Contains ps p) → (len : ℕ) →
    ((m : ℕ) → 0 < m → m ≤ len → has_acked ps x m i ≡ true) → (k : ℕ) → k ≤ len →
    IsVoted i n (heard_of n x rs).places k → IsBacked n ps x k
votes_backed n ps i x rs small taken len own k l (inl z) = record { chosen = inl z }
votes_backed n ps i x rs small taken len own k l (inr h) = ⊎_elim
    (λ pos. record {
      chosen = inr (x, omega arith, votes_chosen n ps i x k rs small (own k pos l) taken (omega arith) h);
    })
    (λ none. record { chosen = inl (omega arith) })
    (cases_lt 0 k)

-- what was sent, with one more packet that was sent
pub taken_with : (ps rs : List Message) (p : Message) → ((q : Message) → Contains rs q → Contains ps q) →
    Contains ps p → (q : Message) → Contains (rs ++ p ∷ []) q → Contains ps q
taken_with ps rs p taken sent q c =
    ⊎_elim (λ a. taken q a) (λ b. rw (← Contains-one p q b) sent) (Contains-append_cases rs (p ∷ []) q c)

safe_acknowledged : (domain : List ℕ) (n : ℕ) (ps : List Message) (at : Nodes) (i : ℕ) → GroupInvariant n ps at →
    i < n → leads i n (at i).saved ≡ true → (p : Message) → Contains ps p →
    (places : List ℕ) → places ≡ (heard_of n (at i).saved.view ((at i).received ++ p ∷ [])).places →
    Safe domain n ps at i (at i).received (commit_acknowledged i n (at i).saved places (p ∷ []))
unfolding commit_acknowledged
safe_acknowledged domain n ps at i k small t p sent places e =
    let s : SavedValue = (at i).saved in
    let rs : List Message = (at i).received ++ p ∷ [] in
    let taken : (q : Message) → Contains rs q → Contains ps q = taken_with ps (at i).received p (k.taken i) sent in
    let own : NodeInvariant n ps i s = k.nodes i in
    let lead = leads_facts i n s t in
    let c : ℕ = acknowledged_place i n places (length s.log) in
    let new : SavedValue = commit_up_to c s in
    let announced : List (ℕ × Message) = to_others i n (Commit i new.view new.commit) in
    let change : Change = record {
      saved = new;
      taken = p ∷ [];
      packets = commit_packets i n new s.commit;
      answers =
          answers.Replies s.commit new.commit;
    } in
    let started : has_begun ps s.view ≡ true = rw lead.0 at own.begun in
    let whole : s.log ≡ announced_log ps s.view = own.whole (rw lead.0 lead.1) ∙ ap (announced_log ps) lead.0 in
    let mine : (m : ℕ) → 0 < m → m ≤ length s.log → has_acked ps s.view m i ≡ true = λ m pos l.
    ap (has_acked ps s.view m) lead.1 ∙ (k.views s.view started).own m pos (omega (arith, l, ap length whole)) in
    let counts : IsVoted i n (heard_of n s.view rs).places c =
    subst (λ (x : List ℕ). IsVoted i n x c) e (acknowledged_is_greatest i n places (length s.log)).voted in
    let backed : IsBacked n ps s.normal c =
    rw lead.0 (votes_backed n ps i s.view rs small taken (length s.log) mine c
    (acknowledged_is_greatest i n places (length s.log)).within counts) in
    let preserved : NodeInvariant n ps i new =
    with_longer_log_preserved n ps i s own s.log (prefix_refl s.log) own.within own.whole c backed in
    let holds : CommitHolds n ps i new.view new.commit =
    record { begun = started; leader = lead.1; backed = rw lead.0 at preserved.backed } in
    good_safe domain n ps at i (at i).received change k
    (good_plain domain n ps at i (step_of_change domain (at i).received change) k
    (with_longer_log_later s s.log c lead.0 own.within_log (prefix_refl s.log)) preserved
    (λ q a. Contains-append_left ps (messages (commit_packets i n new s.commit)) q (taken q a))
    (fit_if n ps i s new (ltb s.commit new.commit) announced
    (λ _. fit_others n ps i s new (Commit i new.view new.commit) (record { holds = λ _ _. holds; here = tt })))
    (answers_after-answered domain new s.commit (new.commit - s.commit) (omega arith)))

-- A PrepareOk of the node's view, as one more packet of the view.
pub places_said : (n from v m : ℕ) (rs : List Message) → places_with from m (heard_of n v rs).places
    ≡ (heard_of n v (rs ++ PrepareOk from v m ∷ [])).places
places_said n from v m rs =
    let on : eqb v v ≡ true = eq-eqb v v refl in
    let one : places_with_packet v (PrepareOk from v m) (heard_of n v rs).places
    ≡ places_with from m (heard_of n v rs).places = rw on refl in
    sym one ∙ ap (λ (h : Heard). h.places) (sym (heard_append v rs (PrepareOk from v m ∷ []) (silence n)))

pub safe_prepare_ok : (domain : List ℕ) (n : ℕ) (ps : List Message) (at : Nodes) (i from w m : ℕ) →
    GroupInvariant n ps at → i < n → Contains ps (PrepareOk from w m) →
    Safe domain n ps at i (at i).received
    (on_prepare_ok i n (at i).saved (heard_of n (max (at i).saved.view w) (at i).received).places from w m)
unfolding on_prepare_ok
safe_prepare_ok domain n ps at i from w m k small sent =
    let s : SavedValue = (at i).saved in
    safe_if (leads i n s && eqb w s.view && not (eqb from i))
    (λ t.
    let a = and_parts (leads i n s && eqb w s.view) (not (eqb from i)) t in
    let b = and_parts (leads i n s) (eqb w s.view) a.0 in
    let same : w ≡ s.view = eqb-true w s.view b.1 in
    let view : max s.view w ≡ s.view = omega arith in
    safe_acknowledged domain n ps at i k small b.0 (PrepareOk from w m) sent _
    (rw (view, same) (places_said n from s.view m (at i).received)))
    (λ _. safe_nothing domain n ps at i k)
