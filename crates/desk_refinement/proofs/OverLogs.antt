-- The logs of past epochs are over, and a node stays the same member, whatever happens to nodes over epochs.
use Rattle.std.proofs.Common.{◌≡◌, ◌≢◌, ◌⊎◌, ◌+◌, ℕ, zero, suc, Bool, true, false, ◌&&◌, ◌||◌, if◌then◌else◌, leb}
use Rattle.std.proofs.Common.{eqb, List, [], ◌∷◌, ◌++◌, length, take, Some, None, slice_get, refl, sym, ap, ◌∙◌, inl}
use Rattle.std.proofs.Common.{inr, ⊎_elim, subst, arith, length-append}
use Rattle.std.proofs.lemmas.Bool.{and_parts, cases_eq, eq-eqb}
use Rattle.desk_types.specs.declared.command.Entry.{Entry}
use Rattle.desk_types.specs.declared.epoch_packet.EpochPacket.{EpochPacket}
use Rattle.desk_types.specs.declared.limits.TheConstants.{LAST_PLACE}
use Rattle.desk_types.specs.declared.packet.Message.{Message}
use Rattle.desk_node.specs.NodeValue.{IsSameNode, NodeValue}
use Rattle.desk_replica.specs.Owners.{owner_of_node}
use Rattle.desk_epochs.specs.Epochs.{joined_logs}
use Rattle.desk_epochs.specs.Histories.{epoch_log, has_ended}
use Rattle.desk_epochs.proofs.Histories.{over_same}
use Rattle.desk_epochs.proofs.RisingHistories.{cut_is_prefix}
use Rattle.desk_epoch_node.specs.declared.event.EpochEvent.{EpochEvent}
use Rattle.desk_epoch_node.specs.declared.step.EpochStep.{EpochStep}
use Rattle.desk_epoch_node.specs.Does.{BeginsAfter, is_due, whole_log}
use Rattle.desk_epoch_node.specs.Ends.{cut_of, is_whole, reaches_end}
use Rattle.desk_epoch_node.specs.EpochValue.{EpochValue, committed_cut, has_next, standing_of}
use Rattle.desk_epoch_node.specs.PastRows.{PastValue, StandFor}
use Rattle.desk_epoch_node.specs.Replacements.{ends_epoch}
use Rattle.desk_log.specs.Change.{keeps_committed}
use Rattle.desk_log.specs.SavedValue.{committed_entries}
use Rattle.desk_epoch_group.specs.Group.{EpochNodes, EpochAct, ActLeads, ActsLead, Begins, BeginsAndEnds, Meets}
use Rattle.desk_epoch_group.specs.Group.{MeetsAndEnds, NodeBecomes, StartsAgain, first_epoch_nodes}
use Rattle.desk_epoch_group.specs.Group.{logs_after, started_again}
use Rattle.desk_epoch_group.proofs.StepCases.{StepCase, step_case}
use Rattle.desk_epoch_members.specs.Nodes.{TokenActLeads, TokenActsLead, TokenNodes, first_token_nodes, nodes_with}
use Rattle.desk_epoch_keepers.proofs.Deeds.{has_one_more}
use Rattle.desk_epoch_keepers.proofs.GroupNodes.{first_stand}
use Rattle.desk_epoch_keepers.proofs.Moves.{HasLogs}

-- whether a log is whole, and after so many places and its own there are those of one epoch more
abbrev pub is_over : ℕ → ℕ → List Entry → Bool
is_over most before log = is_whole most log && leb (before + most + most) LAST_PLACE

-- So are these, one after the other.
abbrev pub AreOver : ℕ → ℕ → List (List Entry) → Type 0
AreOver most before [] = Unit {0}
AreOver most before (log ∷ logs) = (is_over most before log ≡ true) × AreOver most (before + length log) logs

over_push : (most before : ℕ) (logs : List (List Entry)) (log : List Entry) → AreOver most before logs →
    is_over most (before + length (joined_logs logs)) log ≡ true → AreOver most before (logs ++ log ∷ [])
over_push most before [] log all one =
    let same : before + 0 ≡ before = omega arith in
    (subst (λ k. is_over most k log ≡ true) same one, tt)
over_push most before (x ∷ xs) log all one =
    let same : before + length (x ++ joined_logs xs) ≡ (before + length x) + length (joined_logs xs) =
    omega (arith, length-append x (joined_logs xs)) in (
      all.0,
      over_push most (before + length x) xs log all.1 (subst (λ k. is_over most k log ≡ true) same one),
    )

over_last : (most before : ℕ) (logs : List (List Entry)) (log : List Entry) →
    AreOver most before (logs ++ log ∷ []) → is_over most (before + length (joined_logs logs)) log ≡ true
over_last most before [] log all =
    let same : before ≡ before + 0 = omega arith in
    subst (λ k. is_over most k log ≡ true) same all.0
over_last most before (x ∷ xs) log all =
    let same : (before + length x) + length (joined_logs xs) ≡ before + length (x ++ joined_logs xs) =
    omega (arith, length-append x (joined_logs xs)) in
    subst (λ k. is_over most k log ≡ true) same (over_last most (before + length x) xs log all.1)

over_at : (most before epoch : ℕ) (logs : List (List Entry)) (log : List Entry) → AreOver most before logs →
    slice_get logs epoch ≡ Some log → is_over most (before + length (joined_logs (take epoch logs))) log ≡ true
over_at most before epoch [] log all is = let no : None ≡ Some log = is in cc
over_at most before zero (x ∷ xs) log all is =
    let some : Some x ≡ Some log = is in
    let one : x ≡ log = cc in
    let same : before ≡ before + 0 = omega arith in
    subst (λ k. is_over most k log ≡ true) same (subst (λ (es : List Entry). is_over most before es ≡ true) one all.0)
over_at most before (suc epoch) (x ∷ xs) log all is =
    let first : List Entry = joined_logs (take epoch xs) in
    let same : (before + length x) + length first ≡ before + length (x ++ first) =
    omega (arith, length-append x first) in
    subst (λ k. is_over most k log ≡ true) same (over_at most (before + length x) epoch xs log all.1 is)

-- So it is after no places.

pub over_log : (most epoch : ℕ) (logs : List (List Entry)) (log : List Entry) → AreOver most 0 logs →
    slice_get logs epoch ≡ Some log → is_over most (length (joined_logs (take epoch logs))) log ≡ true
over_log most epoch logs log all is =
    let first : List Entry = joined_logs (take epoch logs) in
    let same : 0 + length first ≡ length first = omega arith in
    subst (λ k. is_over most k log ≡ true) same (over_at most 0 epoch logs log all is)

pub last_over : (most : ℕ) (logs : List (List Entry)) (log : List Entry) → AreOver most 0 (logs ++ log ∷ []) →
    is_over most (length (joined_logs logs)) log ≡ true
last_over most logs log all =
    let same : 0 + length (joined_logs logs) ≡ length (joined_logs logs) = omega arith in
    subst (λ k. is_over most k log ≡ true) same (over_last most 0 logs log all)

-- What is cut at the end of an epoch is whole.

ended_rest : (ends : Entry → Bool) (k : ℕ) (t : Bool) (xs : List Entry) → (t || has_ended ends k xs) ≡ true →
    (has_ended ends k xs ≡ true → has_ended ends k (epoch_log ends k xs) ≡ true) →
    (t || has_ended ends k (if t then [] else epoch_log ends k xs)) ≡ true
ended_rest ends k true xs o f = refl
ended_rest ends k false xs o f = f o

ended_cut : (ends : Entry → Bool) (k : ℕ) (xs : List Entry) → has_ended ends k xs ≡ true →
    has_ended ends k (epoch_log ends k xs) ≡ true
ended_cut ends zero xs o = refl
ended_cut ends (suc k) [] o = o
ended_cut ends (suc k) (x ∷ xs) o = ended_rest ends k (ends x) xs o (ended_cut ends k xs)

pub cut_is_whole : (most : ℕ) (xs : List Entry) → reaches_end most xs ≡ true → is_whole most (cut_of most xs) ≡ true
cut_is_whole most xs o =
    let cut : List Entry = cut_of most xs in
    let ended : reaches_end most cut ≡ true = ended_cut ends_epoch most xs o in
    let same : cut_of most cut ≡ cut = over_same ends_epoch most cut xs (cut_is_prefix ends_epoch most xs) ended in
    ap (λ b. b && eqb (length (cut_of most cut)) (length cut)) ended
    ∙ eq-eqb (length (cut_of most cut)) (length cut) (ap (λ (es : List Entry). length es) same)

-- The node has this number, and over logs behind it.
pub record HasOver (most i : ℕ) (value : EpochValue) (logs : List (List Entry)) : Type 0 where
  pub has : HasLogs most i value logs
  pub over : AreOver most 0 logs

-- The node is of the same owner, with the same token.
pub record SameMember (old new : EpochValue) : Type 0 where
  pub owner_is : owner_of_node new.node ≡ owner_of_node old.node
  pub token_is : new.token ≡ old.token
  pub most_is : new.most ≡ old.most

-- So is a node with one log more behind it.
one_more : (most i : ℕ) (logs : List (List Entry)) (log : List Entry) (old new : EpochValue)
    (packets : List (ℕ × Message)) → HasOver most i old logs → is_whole old.most log ≡ true → has_next old ≡ true →
    BeginsAfter (joined_logs logs) log old new packets → HasOver most i new (logs ++ log ∷ []) × SameMember old new
one_more most i logs log old new packets h whole next begins =
    let most_is : old.most ≡ most = h.has.most_is in
    let long : old.past.length ≡ 0 + length (joined_logs logs) = omega (arith, h.has.stand.length_is) in
    let is : is_over most (0 + length (joined_logs logs)) log ≡ true =
    subst (λ k. is_over most k log ≡ true) long
    (subst (λ k. is_over k old.past.length log ≡ true) most_is
    (ap (λ b. b && leb (old.past.length + old.most + old.most) LAST_PLACE) whole ∙ next)) in (
      record {
        has = has_one_more most i logs log old new h.has begins.past_is begins.epoch_is begins.most_is
            (ap (λ (k : NodeValue). k.id) begins.node_is);
        over = over_push most 0 logs log h.over is;
      },
      record {
        owner_is = ap (λ (k : NodeValue). owner_of_node k) begins.node_is;
        token_is = begins.token_is;
        most_is = begins.most_is;
      },
    )

same_node : (old new : NodeValue) → IsSameNode old new → owner_of_node new ≡ owner_of_node old
same_node old new same =
    ap (λ (i : ℕ). record { id = i; n = new.n; domain = new.domain }) same.id_is
    ∙ ap (λ (n : ℕ). record { id = old.id; n = n; domain = new.domain }) same.n_is
    ∙ ap (λ (d : List ℕ). record { id = old.id; n = old.n; domain = d }) same.domain_is

-- A step of a node.
step_over : (most i : ℕ) (logs : List (List Entry)) (old value : EpochValue) (event : EpochEvent) (step : EpochStep) →
    HasOver most i old logs → StepCase (joined_logs logs) logs old value event step →
    HasOver most i value (logs_after logs step) × SameMember old value
step_over most i logs old value event step h (inl stays) = (
  subst (λ (ls : List (List Entry)). HasOver most i value ls) (sym stays.logs_are)
      (subst (λ (v : EpochValue). HasOver most i v logs) (sym stays.value_is) h),
  record {
    owner_is = ap (λ (v : EpochValue). owner_of_node v.node) stays.value_is;
    token_is = ap (λ (v : EpochValue). v.token) stays.value_is;
    most_is = ap (λ (v : EpochValue). v.most) stays.value_is;
  },
)
step_over most i logs old value event step h (inr (inl own)) =
    let does = own.does in (
      subst (λ (s : EpochStep). HasOver most i value (logs_after logs s)) (sym own.step_is)
          (record {
            has = record {
              id_is = does.same.id_is ∙ h.has.id_is;
              most_is = does.most_is ∙ h.has.most_is;
              stand = subst (λ (p : PastValue). StandFor (joined_logs logs) p) (sym does.past_is) h.has.stand;
              epoch_is = does.epoch_is ∙ h.has.epoch_is;
            };
            over = h.over;
          }),
      record {
        owner_is = same_node old.node value.node does.same;
        token_is = does.token_is;
        most_is = does.most_is;
      },
    )
step_over most i logs old value event step h (inr (inr r)) =
    let whole : List Entry = whole_log old r.base r.entries in
    let p =
    and_parts (has_next old && leb r.base (length (committed_cut old)) && is_whole old.most whole)
    (keeps_committed old.node.saved whole) r.is_rest in
    let q = and_parts (has_next old && leb r.base (length (committed_cut old))) (is_whole old.most whole) p.0 in
    let next = and_parts (has_next old) (leb r.base (length (committed_cut old))) q.0 in
    let more =
    one_more most i logs r.log old value r.packets h
    (subst (λ (es : List Entry). is_whole old.most es ≡ true) (sym r.log_is) q.1) next.0 r.begins in (
      subst (λ (ls : List (List Entry)). HasOver most i value ls) (sym (r.logs_are logs)) more.0,
      more.1,
    )

-- A beginning where the node is due.
due_over : (most i : ℕ) (logs : List (List Entry)) (old new : EpochValue) (packets : List (ℕ × Message)) →
    HasOver most i old logs → is_due old ≡ true → BeginsAfter (joined_logs logs) (committed_cut old) old new packets →
    HasOver most i new (logs ++ committed_cut old ∷ []) × SameMember old new
due_over most i logs old new packets h due begins =
    let p = and_parts (reaches_end old.most (committed_entries old.node.saved)) (has_next old) due in
    one_more most i logs (committed_cut old) old new packets h
    (cut_is_whole old.most (committed_entries old.node.saved) p.0) p.1 begins

-- A node that is started again in an epoch of which it has saved nothing.
again_over : (most i : ℕ) (logs : List (List Entry)) (old new : EpochValue) →
    HasOver most i new logs × SameMember old new →
    HasOver most i (started_again new) logs × SameMember old (started_again new)
again_over most i logs old new (h, same) = (
  record {
    has = record {
      id_is = h.has.id_is;
      most_is = h.has.most_is;
      stand = h.has.stand;
      epoch_is = h.has.epoch_is;
    };
    over = h.over;
  },
  record { owner_is = same.owner_is; token_is = same.token_is; most_is = same.most_is },
)

-- So it is of all nodes of a group,
abbrev pub AllOver : ℕ → EpochNodes → Type 0
AllOver most g = (i : ℕ) → HasOver most i (g.values i) (g.logs i)

-- and each is the same member in a later one.
abbrev pub AllSame : EpochNodes → EpochNodes → Type 0
AllSame old new = (i : ℕ) → SameMember (old.values i) (new.values i)

same_still : (e : EpochValue) → SameMember e e
same_still e = record { owner_is = refl; token_is = refl; most_is = refl }

same_on : (a b c : EpochValue) → SameMember a b → SameMember b c → SameMember a c
same_on a b c p q = record {
  owner_is = q.owner_is ∙ p.owner_is;
  token_is = q.token_is ∙ p.token_is;
  most_is = q.most_is ∙ p.most_is;
}

becomes_over : (n most i : ℕ) (old new : EpochNodes) (value : EpochValue) (logs : List (List Entry))
    (packets : List (ℕ × EpochPacket)) → NodeBecomes n i old value logs packets new → AllOver most old →
    HasOver most i value logs × SameMember (old.values i) value → AllOver most new × AllSame old new
becomes_over n most i old new value logs packets b all (h, same) = (
  λ j. ⊎_elim (own j) (other j) (cases_eq j i),
  λ j. ⊎_elim (own_same j) (other_same j) (cases_eq j i),
)
  where
    own : (j : ℕ) → j ≡ i → HasOver most j (new.values j) (new.logs j)
    own j e =
        subst (λ k. HasOver most k (new.values k) (new.logs k)) (sym e)
        (subst (λ (v : EpochValue). HasOver most i v (new.logs i)) (sym b.value_is)
        (subst (λ (ls : List (List Entry)). HasOver most i value ls) (sym b.logs_are) h))

    other : (j : ℕ) → j ≢ i → HasOver most j (new.values j) (new.logs j)
    other j ne =
        subst (λ (v : EpochValue). HasOver most j v (new.logs j)) (sym (b.other_values j ne))
        (subst (λ (ls : List (List Entry)). HasOver most j (old.values j) ls) (sym (b.other_logs j ne)) (all j))

    own_same : (j : ℕ) → j ≡ i → SameMember (old.values j) (new.values j)
    own_same j e =
        subst (λ k. SameMember (old.values k) (new.values k)) (sym e)
        (subst (λ (v : EpochValue). SameMember (old.values i) v) (sym b.value_is) same)

    other_same : (j : ℕ) → j ≢ i → SameMember (old.values j) (new.values j)
    other_same j ne =
        subst (λ (v : EpochValue). SameMember (old.values j) v) (sym (b.other_values j ne)) (same_still (old.values j))

act_over : (n most : ℕ) (old new : EpochNodes) (act : EpochAct) → AllOver most old → ActLeads n old act new →
    AllOver most new × AllSame old new
act_over n most old new (Meets i event) all (value, step, sent, does, b) =
    becomes_over n most i old new value (logs_after (old.logs i) step) _ b all
    (step_over most i (old.logs i) (old.values i) value event step (all i)
    (step_case (joined_logs (old.logs i)) (old.logs i) (old.values i) value event step (standing_of (old.values i)) refl
    does))
act_over n most old new (Begins i) all (value, packets, due, b) =
    becomes_over n most i old new value (old.logs i ++ committed_cut (old.values i) ∷ []) _ b all
    (due_over most i (old.logs i) (old.values i) value packets (all i) due.due due.begins)
act_over n most old new (BeginsAndEnds i) all (value, packets, due, b) =
    becomes_over n most i old new (started_again value) (old.logs i ++ committed_cut (old.values i) ∷ []) [] b all
    (again_over most i (old.logs i ++ committed_cut (old.values i) ∷ []) (old.values i) value
    (due_over most i (old.logs i) (old.values i) value packets (all i) due.due due.begins))
act_over n most old new (MeetsAndEnds i event) all (value, step, sent, does, begun, b) =
    becomes_over n most i old new (started_again value) (logs_after (old.logs i) step) [] b all
    (again_over most i (logs_after (old.logs i) step) (old.values i) value
    (step_over most i (old.logs i) (old.values i) value event step (all i)
    (step_case (joined_logs (old.logs i)) (old.logs i) (old.values i) value event step (standing_of (old.values i)) refl
    does)))
act_over n most old new (StartsAgain i) all (value, starts, b) =
    let h = all i in
    becomes_over n most i old new value (old.logs i) [] b all (
      record {
        has = record {
          id_is = ap (λ (k : NodeValue). k.id) starts.node_is ∙ h.has.id_is;
          most_is = starts.most_is ∙ h.has.most_is;
          stand = starts.past_is;
          epoch_is = starts.epoch_is ∙ h.has.epoch_is;
        };
        over = h.over;
      },
      record {
        owner_is = ap (λ (k : NodeValue). owner_of_node k) starts.node_is;
        token_is = starts.token_is;
        most_is = starts.most_is;
      },
    )

pub acts_over : (n most : ℕ) (old new : EpochNodes) (acts : List EpochAct) → AllOver most old →
    ActsLead n old acts new → AllOver most new × AllSame old new
acts_over n most old new [] all same = (
  subst (λ (g : EpochNodes). AllOver most g) same all,
  subst (λ (g : EpochNodes). AllSame old g) same (λ i. same_still (old.values i)),
)
acts_over n most old new (act ∷ more) all (mid, one, rest) =
    let first = act_over n most old mid act all one in
    let last = acts_over n most mid new more first.0 rest in (
      last.0,
      λ i. same_on (old.values i) (mid.values i) (new.values i) (first.1 i) (last.1 i),
    )

pub first_over : (domain : List ℕ) (n most : ℕ) → AllOver most (first_epoch_nodes domain n most)
first_over domain n most i = record {
  has = record { id_is = refl; most_is = refl; stand = first_stand; epoch_is = refl };
  over = tt;
}

-- So it is of the nodes with each token.
abbrev pub AllOverByTokens : ℕ → TokenNodes → Type 0
AllOverByTokens most g = (t : ℕ) → AllOver most (nodes_with g t)

token_act_over : (n most token : ℕ) (old new : TokenNodes) (act : EpochAct) → AllOverByTokens most old →
    TokenActLeads n token old act new → AllOverByTokens most new
token_act_over n most token old new act all x t = by_token (cases_eq t token)
  where
    by_token : (t ≡ token) ⊎ (t ≢ token) → AllOver most (nodes_with new t)
    by_token (inl e) =
        subst (λ u. AllOver most (nodes_with new u)) (sym e)
        (act_over n most (nodes_with old token) (nodes_with new token) act (all token) x.leads).0
    by_token (inr ne) = λ i.
        subst (λ (v : EpochValue). HasOver most i v (new.logs i t)) (sym (x.other_values i t ne))
        (subst (λ (ls : List (List Entry)). HasOver most i (old.values i t) ls) (sym (x.other_logs i t ne)) (all t i))

pub token_acts_over : (n most : ℕ) (old new : TokenNodes) (acts : List (ℕ × EpochAct)) → AllOverByTokens most old →
    TokenActsLead n old acts new → AllOverByTokens most new
token_acts_over n most old new [] all same = subst (λ (g : TokenNodes). AllOverByTokens most g) same all
token_acts_over n most old new (act ∷ more) all (mid, one, rest) =
    token_acts_over n most mid new more (token_act_over n most act.0 old mid act.1 all one) rest

pub first_over_by_tokens : (domain : List ℕ) (n most : ℕ) → AllOverByTokens most (first_token_nodes domain n most)
first_over_by_tokens domain n most t i = record {
  has = record { id_is = refl; most_is = refl; stand = first_stand; epoch_is = refl };
  over = tt;
}
