-- The queues to the nodes below a number.
use Rattle.std.proofs.Common.{map, ◌≡◌, ◌≢◌, ◌==◌, ℕ, zero, suc, ◌+◌, add-one, Bool, true, false, List, [], ◌∷◌, ◌++◌}
use Rattle.std.proofs.Common.{length, Option, None, Some, refl, sym, ap, subst, ◌∙◌, All, MatchBool}
use Rattle.std.proofs.lemmas.Bool.{eqb-false, ne_eqb}
use Rattle.std.proofs.lemmas.List.{map-append, length-append}
use Rattle.std.proofs.lemmas.List.Elements.{All-nil, All-push, All-weaker}
use Rattle.desk_types.specs.declared.epoch_packet.EpochPacket.{EpochPacket}
use Rattle.desk_types.specs.Lists.{others_below}
use Rattle.desk_mailbox.specs.declared.sender.Sender.{Sender}
use Rattle.desk_mailbox.specs.Ends.{put_by, SendsTo}
use Rattle.desk_peers.specs.declared.queues.PeerQueue.{PeerQueue}
use Rattle.desk_peers.specs.Queues.{end_to, put_in, put_to, Feeds, IsNewQueue, AddsQueue, AddsNode}

-- the queues to the other nodes below a number
pub record IsOpen (id node : ℕ) (ends : List (Option (Sender EpochPacket))) (queues : List PeerQueue) : Type 0 where
  pub nodes : map (λ (q : PeerQueue). q.node) queues ≡ others_below id node
  pub own : end_to ends id ≡ None
  pub count : length ends ≡ node
  pub feeds : All (Feeds ends) queues
  pub empty : (k : ℕ) → put_to ends k ≡ []
  pub new : All IsNewQueue queues

-- an end stays where it is, with one more after the others

end_preserved : (ends : List (Option (Sender EpochPacket))) (x : Option (Sender EpochPacket)) (k : ℕ)
    (s : Sender EpochPacket) → end_to ends k ≡ Some s → end_to (ends ++ x ∷ []) k ≡ Some s
end_preserved [] x k s e = absurd (let no : ⊥ = cc in no)
end_preserved (y ∷ ends) x zero s e = e
end_preserved (y ∷ ends) x (suc k) s e = end_preserved ends x k s e

end_else : (ends : List (Option (Sender EpochPacket))) (x : Option (Sender EpochPacket)) (k : ℕ) → length ends ≢ k →
    end_to (ends ++ x ∷ []) k ≡ end_to ends k
end_else [] x zero n = absurd (n refl)
end_else [] x (suc k) n = refl
end_else (y ∷ ends) x zero n = refl
end_else (y ∷ ends) x (suc k) n = end_else ends x k (λ e. n (ap suc e))

end_last : (ends : List (Option (Sender EpochPacket))) (x : Option (Sender EpochPacket)) →
    end_to (ends ++ x ∷ []) (length ends) ≡ x
end_last [] x = refl
end_last (y ∷ ends) x = end_last ends x

none_preserved : (ends : List (Option (Sender EpochPacket))) (k : ℕ) → end_to ends k ≡ None →
    end_to (ends ++ None ∷ []) k ≡ None
none_preserved [] zero e = refl
none_preserved [] (suc k) e = refl
none_preserved (y ∷ ends) zero e = e
none_preserved (y ∷ ends) (suc k) e = none_preserved ends k e

nothing_put : (ends : List (Option (Sender EpochPacket))) (x : Option (Sender EpochPacket)) → put_in x ≡ [] →
    ((k : ℕ) → put_to ends k ≡ []) → (k : ℕ) → put_to (ends ++ x ∷ []) k ≡ []
nothing_put [] x e h zero = e
nothing_put [] x e h (suc k) = refl
nothing_put (y ∷ ends) x e h zero = h 0
nothing_put (y ∷ ends) x e h (suc k) = nothing_put ends x e (λ j. h (suc j)) k

opens_nothing : (id : ℕ) → IsOpen id 0 [] []
opens_nothing id = record {
  nodes = refl;
  own = refl;
  count = refl;
  feeds = All-nil (Feeds []);
  empty = λ k. refl;
  new = All-nil IsNewQueue;
}

pub opens_new : (id : ℕ) (ends : List (Option (Sender EpochPacket))) (queues : List PeerQueue) → ends ≡ [] →
    queues ≡ [] → IsOpen id 0 ends queues
opens_new id ends queues e f = rw (e, f) (opens_nothing id)

-- a new queue was added
pub adds_queue : (id node : ℕ) (ends : List (Option (Sender EpochPacket))) (queues : List PeerQueue)
    (more_ends : List (Option (Sender EpochPacket))) (more_queues : List PeerQueue) → node ≢ id →
    AddsQueue node ends queues more_ends more_queues → AddsNode id node ends queues more_ends more_queues
adds_queue id node ends queues more_ends more_queues other h =
    subst (λ own. MatchBool own ((more_ends ≡ ends ++ None ∷ []) × (more_queues ≡ queues))
    (AddsQueue node ends queues more_ends more_queues)) (sym (ne_eqb node id other)) h

next_is_own : (id node : ℕ) → (node == id) ≡ true → others_below id (node + 1) ≡ others_below id node
next_is_own id node own = rw (add-one, own) refl

next_is_other : (id node : ℕ) → (node == id) ≡ false →
    others_below id (node + 1) ≡ others_below id node ++ node ∷ []
next_is_other id node other = rw (add-one, other) refl

-- one node more
module _ (id node : ℕ) (ends : List (Option (Sender EpochPacket))) (queues : List PeerQueue)
    (h : IsOpen id node ends queues) where
  -- which is this one itself
  opens_none : (node == id) ≡ true → IsOpen id (node + 1) (ends ++ None ∷ []) queues
  opens_none own = record {
    nodes = h.nodes ∙ sym (next_is_own id node own);
    own = none_preserved ends id h.own;
    count = length-append ends (None ∷ []) ∙ ap (λ n. n + 1) h.count;
    feeds = All-weaker (Feeds ends) (Feeds (ends ++ None ∷ []))
        (λ q f. (f.0, end_preserved ends None q.node f.0 f.1, f.2)) queues h.feeds;
    empty = nothing_put ends None refl h.empty;
    new = h.new;
  }

  -- which is another
  opens_queue : (node == id) ≡ false → (sender : Sender EpochPacket) (queue : PeerQueue) → queue.node ≡ node →
      SendsTo queue.taker sender → put_by sender ≡ [] → IsNewQueue queue →
      IsOpen id (node + 1) (ends ++ Some sender ∷ []) (queues ++ queue ∷ [])
  opens_queue other sender queue node_is sends none new =
      let more = ends ++ Some sender ∷ [] in
      record {
        nodes = map-append (λ (q : PeerQueue). q.node) queues (queue ∷ [])
            ∙ ap (λ ns. ns ++ queue.node ∷ []) h.nodes ∙ ap (λ n. others_below id node ++ n ∷ []) node_is
            ∙ sym (next_is_other id node other);
        own = end_else ends (Some sender) id (λ e. eqb-false node id other (sym h.count ∙ e)) ∙ h.own;
        count = length-append ends (Some sender ∷ []) ∙ ap (λ n. n + 1) h.count;
        feeds = All-push (Feeds more) queues queue
            (All-weaker (Feeds ends) (Feeds more) (λ q f. (f.0, end_preserved ends (Some sender) q.node f.0 f.1, f.2))
            queues h.feeds)
            (sender, ap (λ k. end_to more k) (node_is ∙ sym h.count) ∙ end_last ends (Some sender), sends);
        empty = nothing_put ends (Some sender) none h.empty;
        new = All-push IsNewQueue queues queue h.new new;
      }

  opens_as : (more_ends : List (Option (Sender EpochPacket))) (more_queues : List PeerQueue) (b : Bool) →
      (node == id) ≡ b → MatchBool b ((more_ends ≡ ends ++ None ∷ []) × (more_queues ≡ queues))
      (AddsQueue node ends queues more_ends more_queues) → IsOpen id (node + 1) more_ends more_queues
  opens_as more_ends more_queues true e k =
      rw (k.0, k.1) (opens_none e)
  opens_as more_ends more_queues false e k =
      rw (k.ends_are, k.queues_are)
      (opens_queue e k.sender k.queue k.node_is k.sends.0 k.sends.1 k.empty)

  pub opens_more : (more_ends : List (Option (Sender EpochPacket))) (more_queues : List PeerQueue) →
      AddsNode id node ends queues more_ends more_queues → IsOpen id (node + 1) more_ends more_queues
  opens_more more_ends more_queues k = opens_as more_ends more_queues (node == id) refl k
