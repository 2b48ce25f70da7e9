-- What holds of each node and of each packet that was sent, and that it goes on holding.
use Rattle.std.proofs.Common.{◌≡◌, ℕ, ◌<◌, ◌≤◌, ◌⊎◌, true, List, ◌++◌, length, take, drop, Some, sym, ◌∙◌, arith, inl}
use Rattle.std.proofs.Common.{inr, ⊎_elim}
use Rattle.std.proofs.lemmas.Bool.{cases_lt}
use Rattle.desk_types.specs.declared.command.Entry.{Entry}
use Rattle.desk_types.specs.declared.packet.Message.{Message}
use Rattle.desk_types.specs.declared.packet.Message.TheVariants.{Prepare, PrepareOk, Commit, StartViewChange}
use Rattle.desk_types.specs.declared.packet.Message.TheVariants.{DoViewChange, StartView, GetState, NewState}
use Rattle.desk_log.specs.Entries.{IsLogPrefix, entry_at}
use Rattle.desk_log.specs.SavedValue.{SavedValue}
use Rattle.desk_log.proofs.Prefixes.{prefix_trans, length-prefix}
use Rattle.desk_log.proofs.Places.{entry_at-prefix}
use Rattle.desk_world.proofs.Packets.{IsBacked, IsBacked-more}
use Rattle.desk_world.proofs.Views.{view_grows}
use Rattle.desk_world.proofs.ViewLog.{has_begun, announced_start, announced_log}
use Rattle.desk_node.specs.State.{State}
use Rattle.desk_log.specs.Quorum.{primary}

-- each node's state, by its number
abbrev pub Nodes : Type 0
Nodes = ℕ → State

-- The log of node i lies between the start log and the log of its normal view, and is that log at the view's primary.
pub record NodeInvariant (n : ℕ) (ps : List Message) (i : ℕ) (s : SavedValue) : Type 0 where
  pub order : s.normal ≤ s.view
  pub within_log : s.commit ≤ length s.log
  pub begun : has_begun ps s.normal ≡ true
  pub starts : IsLogPrefix (announced_start ps s.normal) s.log
  pub within : IsLogPrefix s.log (announced_log ps s.normal)
  pub whole : i ≡ primary n s.normal → s.log ≡ announced_log ps s.normal
  pub backed : IsBacked n ps s.normal s.commit

-- A Prepare's entry stands at its place in the view's log.
pub record PrepareHolds (n : ℕ) (ps : List Message) (j w m k : ℕ) (e : Entry) : Type 0 where
  pub begun : has_begun ps w ≡ true
  pub leader : j ≡ primary n w
  pub stands : entry_at (announced_log ps w) m ≡ Some e
  pub backed : IsBacked n ps w k

-- Who sent a PrepareOk of a view has its log up to the place, or is normal in a later view.
pub record OkHolds (ps : List Message) (at : Nodes) (j x m : ℕ) : Type 0 where
  pub begun : has_begun ps x ≡ true
  pub within : m ≤ length (announced_log ps x)
  pub sender : (x < (at j).saved.normal) ⊎ ((x ≡ (at j).saved.normal) × (m ≤ length (at j).saved.log))

pub record CommitHolds (n : ℕ) (ps : List Message) (j w k : ℕ) : Type 0 where
  pub begun : has_begun ps w ≡ true
  pub leader : j ≡ primary n w
  pub backed : IsBacked n ps w k

-- A DoViewChange is of a view that its sender has left, or in which it has become normal, or it is the sender's state.
abbrev pub OfferStill : SavedValue → ℕ → ℕ → ℕ → List Entry → Type 0
OfferStill s w u c l = (w < s.view)
    ⊎ ((w ≡ s.view) × ((s.view ≤ s.normal) ⊎ ((u ≡ s.normal) × (c ≡ s.commit) × (l ≡ s.log))))

pub record OfferHolds (n : ℕ) (ps : List Message) (at : Nodes) (j w u c : ℕ) (l : List Entry) : Type 0 where
  pub older : u < w
  pub view_is : w ≤ (at j).saved.view
  pub still : OfferStill (at j).saved w u c l
  pub begun : has_begun ps u ≡ true
  pub starts : IsLogPrefix (announced_start ps u) l
  pub within : IsLogPrefix l (announced_log ps u)
  pub backed : IsBacked n ps u c

pub record StartHolds (n : ℕ) (ps : List Message) (j w c : ℕ) (l : List Entry) : Type 0 where
  pub later : 0 < w
  pub leader : j ≡ primary n w
  pub begun : has_begun ps w ≡ true
  pub log_is : l ≡ announced_start ps w
  pub backed : IsBacked n ps w c

-- A NewState's entries are the rest of a log of the view after a place.
pub record StateHolds (n : ℕ) (ps : List Message) (w b c : ℕ) (es : List Entry) : Type 0 where
  pub begun : has_begun ps w ≡ true
  pub log : List Entry
  pub starts : IsLogPrefix (announced_start ps w) log
  pub within : IsLogPrefix log (announced_log ps w)
  pub base : b ≤ length log
  pub rest : es ≡ drop b log
  pub backed : IsBacked n ps w c

abbrev pub MessageHolds : ℕ → List Message → Nodes → Message → Type 0
MessageHolds n ps at (Prepare j w m k e) = PrepareHolds n ps j w m k e
MessageHolds n ps at (PrepareOk j x m) = OkHolds ps at j x m
MessageHolds n ps at (Commit j w k) = CommitHolds n ps j w k
MessageHolds n ps at (StartViewChange j w) = w ≤ (at j).saved.view
MessageHolds n ps at (DoViewChange j w u c l) = OfferHolds n ps at j w u c l
MessageHolds n ps at (StartView j w c l) = StartHolds n ps j w c l
MessageHolds n ps at (GetState j w b) = Unit {0}
MessageHolds n ps at (NewState j w b c es) = StateHolds n ps w b c es

-- A node later: view, normal view and commit do not fall, a log of the same normal view grows, what is committed stays.
-- A node that is not normal in its view changes nothing else in it until it is.
pub record SavedLater (s t : SavedValue) : Type 0 where
  pub view : s.view ≤ t.view
  pub normal : s.normal ≤ t.normal
  pub log : s.normal ≡ t.normal → IsLogPrefix s.log t.log
  pub commit : s.commit ≤ t.commit
  pub committed : IsLogPrefix (take s.commit s.log) (take t.commit t.log)
  pub still : s.view ≡ t.view → s.normal < s.view →
      (t.view ≤ t.normal) ⊎ ((s.normal ≡ t.normal) × (s.commit ≡ t.commit) × (s.log ≡ t.log))

abbrev pub NodesLater : Nodes → Nodes → Type 0
NodesLater at later = (j : ℕ) → SavedLater (at j).saved (later j).saved

ok_later : (s t : SavedValue) (x m : ℕ) → SavedLater s t → (x < s.normal) ⊎ ((x ≡ s.normal) × (m ≤ length s.log)) →
    (x < t.normal) ⊎ ((x ≡ t.normal) × (m ≤ length t.log))
ok_later s t x m l (inl a) = inl (omega (arith, l.normal))
ok_later s t x m l (inr a) = ⊎_elim
    (λ up. inl (omega (arith, a.0)))
    (λ same.
    let e : s.normal ≡ t.normal = omega (arith, l.normal) in
    inr (a.0 ∙ e, omega (arith, a.1, length-prefix s.log t.log (l.log e))))
    (cases_lt s.normal t.normal)

still_later : (s t : SavedValue) (w u c : ℕ) (l : List Entry) → SavedLater s t → u < w → OfferStill s w u c l →
    OfferStill t w u c l
still_later s t w u c l x older (inl a) = inl (omega (arith, x.view))
still_later s t w u c l x older (inr (e, inl a)) = by_view (cases_lt s.view t.view)
  where
    by_view : (s.view < t.view) ⊎ (t.view ≤ s.view) → OfferStill t w u c l
    by_view (inl up) = inl (omega arith)
    by_view (inr same) = inr (omega (arith, x.view), inl (omega (arith, x.view, x.normal)))
still_later s t w u c l x older (inr (e, inr a)) = by_view (cases_lt s.view t.view)
  where
    by_still : s.view ≡ t.view → (t.view ≤ t.normal)
        ⊎ ((s.normal ≡ t.normal) × (s.commit ≡ t.commit) × (s.log ≡ t.log)) → OfferStill t w u c l
    by_still q (inl y) = inr (e ∙ q, inl y)
    by_still q (inr y) = inr (e ∙ q, inr (a.0 ∙ y.0, a.1 ∙ y.1, a.2 ∙ y.2))

    by_view : (s.view < t.view) ⊎ (t.view ≤ s.view) → OfferStill t w u c l
    by_view (inl up) = inl (omega arith)
    by_view (inr same) =
        let q : s.view ≡ t.view = omega (arith, x.view) in
        by_still q (x.still q (omega (arith, a.0)))

-- What holds of a packet holds when more packets are sent and nodes go on.
pub MessageHolds-later : (n : ℕ) (ps qs : List Message) (at later : Nodes) → NodesLater at later → (p : Message) →
    MessageHolds n ps at p → MessageHolds n (ps ++ qs) later p
MessageHolds-later n ps qs at later nl (Prepare j w m k e) r = record {
  begun = (view_grows ps qs w).begun r.begun;
  leader = r.leader;
  stands = entry_at-prefix (announced_log ps w) (announced_log (ps ++ qs) w) m e ((view_grows ps qs w).log r.begun)
      r.stands;
  backed = IsBacked-more n ps qs w k r.backed;
}
MessageHolds-later n ps qs at later nl (PrepareOk j x m) r = record {
  begun = (view_grows ps qs x).begun r.begun;
  within = omega (
    arith,
    r.within,
    length-prefix (announced_log ps x) (announced_log (ps ++ qs) x)
        ((view_grows ps qs x).log r.begun),
  );
  sender = ok_later (at j).saved (later j).saved x m (nl j) r.sender;
}
MessageHolds-later n ps qs at later nl (Commit j w k) r =
    record {
      begun = (view_grows ps qs w).begun r.begun;
      leader = r.leader;
      backed =
          IsBacked-more n ps qs w k r.backed;
    }
MessageHolds-later n ps qs at later nl (StartViewChange j w) r = omega (arith, r, (nl j).view)
MessageHolds-later n ps qs at later nl (DoViewChange j w u c l) r = record {
  older = r.older;
  view_is = omega (arith, r.view_is, (nl j).view);
  still = still_later (at j).saved (later j).saved w u c l (nl j) r.older r.still;
  begun = (view_grows ps qs u).begun r.begun;
  starts = rw ((view_grows ps qs u).start r.begun) r.starts;
  within = prefix_trans l (announced_log ps u) (announced_log (ps ++ qs) u) r.within ((view_grows ps qs u).log r.begun);
  backed = IsBacked-more n ps qs u c r.backed;
}
MessageHolds-later n ps qs at later nl (StartView j w c l) r = record {
  later = r.later;
  leader = r.leader;
  begun = (view_grows ps qs w).begun r.begun;
  log_is = r.log_is ∙ sym ((view_grows ps qs w).start r.begun);
  backed = IsBacked-more n ps qs w c r.backed;
}
MessageHolds-later n ps qs at later nl (GetState j w b) r = tt
MessageHolds-later n ps qs at later nl (NewState j w b c es) r = record {
  begun = (view_grows ps qs w).begun r.begun;
  log = r.log;
  starts = rw ((view_grows ps qs w).start r.begun) r.starts;
  within = prefix_trans r.log (announced_log ps w) (announced_log (ps ++ qs) w) r.within
      ((view_grows ps qs w).log r.begun);
  base = r.base;
  rest = r.rest;
  backed = IsBacked-more n ps qs w c r.backed;
}
