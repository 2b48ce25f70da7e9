-- What holds of a desk whose nodes are replaced.
use Rattle.std.proofs.Common.{◌≡◌, ◌⊎◌, ℕ, zero, suc, ◌+◌, ◌≤◌, Bool, true, false, cond, List, [], ◌++◌, length}
use Rattle.std.proofs.Common.{take, drop, sym, ap, ◌∙◌, inl, inr, ⊎_elim, subst, arith}
use Rattle.std.proofs.lemmas.Bool.{eqb-true}
use Rattle.std.proofs.lemmas.List.{append-nil, take-append-drop}
use Rattle.std.proofs.lemmas.Option.{none-some}
use Rattle.desk_types.specs.declared.command.Entry.{Entry}
use Rattle.desk_types.specs.Group.{IsGroup}
use Rattle.desk_board.specs.Laws.{names}
use Rattle.desk_board.specs.Log.{board_of}
use Rattle.desk_board.proofs.IncidentNames.{names_stay}
use Rattle.desk_board.proofs.LogBoards.{board_of-consistent}
use Rattle.desk_log.specs.Entries.{IsLogPrefix, IsRising}
use Rattle.desk_log.proofs.Places.{entry_at-prefix}
use Rattle.desk_log.proofs.Prefixes.{prefix_append, prefix_refl, prefix_trans, prefixes_in_order}
use Rattle.desk_log.proofs.Rising.{rising_prefix}
use Rattle.desk_world.proofs.CommittedAnswers.{IsReplyAt-later}
use Rattle.desk_world.proofs.FirstEntries.{take-same}
use Rattle.desk_epochs.specs.Histories.{committed_in, epoch_log, history}
use Rattle.desk_epochs.specs.Epochs.{joined_logs}
use Rattle.desk_epochs.proofs.DeskNeverStuck.{history_is}
use Rattle.desk_epochs.proofs.EpochBoards.{one_reply}
use Rattle.desk_epochs.proofs.Epochs.{RunsGrow, all_new, history_same, past_more, past_one, past_same}
use Rattle.desk_epochs.proofs.Histories.{agree_from}
use Rattle.desk_epochs.proofs.RequestedHistories.{requested_from}
use Rattle.desk_epochs.proofs.RisingHistories.{nothing_rises, rise_from}
use Rattle.desk_epoch_members.specs.Agreement.{ArePastsWhole, OfTwo, OneActs, OwnBoardsAgree, OwnBoardsConsistent}
use Rattle.desk_epoch_members.specs.Agreement.{OwnEntriesRequested, OwnHistoriesAgree, OwnHistoriesRise}
use Rattle.desk_epoch_members.specs.Agreement.{OwnIdentifiersStay, OwnRepliesAgree}
use Rattle.desk_epoch_members.specs.Tokens.{Desk, Rules, acts_in, committed_here, ending_of, epoch_in}
use Rattle.desk_epoch_members.specs.Tokens.{own_history, named_token}
use Rattle.desk_epoch_members.proofs.WholePasts.{DeskHolds, desk_leads_grow, desk_leads_hold, desk_of, first_leads_hold}
use Rattle.desk_epoch_members.proofs.WholePasts.{holds_of}

pub pasts_are_whole : ArePastsWhole
pasts_are_whole domain rules sizes count d i t group l = (first_leads_hold domain rules sizes count d group l).pasts i t

-- Who acts has the token that its number has, which is one for all that have the same behind them.
pub one_acts : OneActs
one_acts domain rules sizes first more early late i t u group l m same one other =
    let h : DeskHolds domain rules sizes early = first_leads_hold domain rules sizes first early group l in
    let k : DeskHolds domain rules sizes late = desk_leads_hold domain rules sizes more early late group h m in
    let g : RunsGrow early.runs late.runs = desk_leads_grow domain rules sizes more early late m in
    let pasts : early.pasts i t ≡ late.pasts i u =
    past_one domain (ending_of rules) sizes late.runs group 0 (early.pasts i t) (late.pasts i u)
    (past_more domain (ending_of rules) sizes early.runs late.runs group g 0 (early.pasts i t) (h.pasts i t))
    (k.pasts i u) same in
    sym (eqb-true (named_token rules i 0 (joined_logs (early.pasts i t))) t one)
    ∙ (ap (λ (ls : List (List Entry)). named_token rules i 0 (joined_logs ls)) pasts
    ∙ eqb-true (named_token rules i 0 (joined_logs (late.pasts i u))) u other)

-- A node's history is the beginning of what its number has committed.

own_within : (domain : List ℕ) (rules : Rules) (sizes : ℕ → ℕ) (d : Desk) (i t : ℕ) →
    IsLogPrefix (own_history domain rules sizes d i t)
    (history domain (ending_of rules) sizes d.runs 0 (d.pasts i t) i)
own_within domain rules sizes d i t =
    let at : 0 + epoch_in d i t ≡ epoch_in d i t = omega arith in
    subst (λ (es : List Entry). IsLogPrefix (own_history domain rules sizes d i t) es)
    (sym (history_is domain (ending_of rules) sizes d.runs 0 (d.pasts i t) i
    ∙ ap (λ k. past ++ epoch_log (ending_of rules).ends rules.most (committed_in domain (sizes k) (d.runs k) i)) at))
    (by_acting (acts_in rules d i t))
  where
    past : List Entry
    past = joined_logs (d.pasts i t)

    own : List Entry
    own = epoch_log (ending_of rules).ends rules.most (committed_here domain sizes d i t)

    by_acting : (b : Bool) → IsLogPrefix (past ++ cond b own []) (past ++ own)
    by_acting true = prefix_refl (past ++ own)
    by_acting false =
        subst (λ (es : List Entry). IsLogPrefix es (past ++ own)) (sym (append-nil past)) (prefix_append past own)

abbrev Agree : List Entry → List Entry → Type 0
Agree xs ys = IsLogPrefix xs ys ⊎ IsLogPrefix ys xs

in_order : (xs ys zs : List Entry) → IsLogPrefix xs zs → IsLogPrefix ys zs → Agree xs ys
in_order xs ys zs f g = by_order (order (length xs) (length ys))
  where
    order : (a b : ℕ) → (a ≤ b) ⊎ (b ≤ a)
    order zero b = inl (omega arith)
    order (suc a) zero = inr (omega arith)
    order (suc a) (suc b) = ⊎_elim (λ h. inl (omega (arith, h))) (λ h. inr (omega (arith, h))) (order a b)

    by_order : (length xs ≤ length ys) ⊎ (length ys ≤ length xs) → Agree xs ys
    by_order (inl h) = inl (prefixes_in_order xs ys zs f g h)
    by_order (inr h) = inr (prefixes_in_order ys xs zs g f h)

agree_within : (xs ys zs ws : List Entry) → IsLogPrefix xs zs → IsLogPrefix ys ws → Agree zs ws → Agree xs ys
agree_within xs ys zs ws f g (inl h) = in_order xs ys ws (prefix_trans xs zs ws f h) g
agree_within xs ys zs ws f g (inr h) = in_order xs ys zs f (prefix_trans ys ws zs g h)

pub own_histories_agree : OwnHistoriesAgree
own_histories_agree domain rules sizes first more early late i t j u group l m =
    let h : DeskHolds domain rules sizes early = first_leads_hold domain rules sizes first early group l in
    let k : DeskHolds domain rules sizes late = desk_leads_hold domain rules sizes more early late group h m in
    let g : RunsGrow early.runs late.runs = desk_leads_grow domain rules sizes more early late m in
    let one : List Entry = history domain (ending_of rules) sizes early.runs 0 (early.pasts i t) i in
    let other : List Entry = history domain (ending_of rules) sizes late.runs 0 (late.pasts j u) j in
    let agree : Agree one other =
    subst (λ (log : List Entry). Agree one log)
    (sym (history_same domain (ending_of rules) sizes late.runs (λ e. early.runs e ++ g.more e) g.is 0 (late.pasts j u)
    j))
    (agree_from domain (ending_of rules) sizes early.runs g.more i j group 0 (early.pasts i t) (late.pasts j u)
    (h.pasts i t)
    (past_same domain (ending_of rules) sizes late.runs (λ e. early.runs e ++ g.more e) g.is 0 (late.pasts j u)
    (k.pasts j u))) in
    agree_within (own_history domain rules sizes early i t) (own_history domain rules sizes late j u) one other
    (own_within domain rules sizes early i t) (own_within domain rules sizes late j u) agree

rises_of : (domain : List ℕ) (rules : Rules) (sizes : ℕ → ℕ) (d : Desk) (i t : ℕ) →
    ((epoch : ℕ) → IsGroup (sizes epoch)) → DeskHolds domain rules sizes d →
    IsRising (own_history domain rules sizes d i t)
rises_of domain rules sizes d i t group h =
    rising_prefix (own_history domain rules sizes d i t)
    (history domain (ending_of rules) sizes d.runs 0 (d.pasts i t) i) (own_within domain rules sizes d i t)
    (rise_from domain (ending_of rules) sizes d.runs i group 0 [] (d.pasts i t) (h.pasts i t)
    (all_new domain (ending_of rules) sizes (desk_of d i t) group (holds_of domain rules sizes d i t h) [] (d.pasts i t)
    (h.pasts i t)) nothing_rises)

pub own_histories_rise : OwnHistoriesRise
own_histories_rise domain rules sizes count d i t group l =
    rises_of domain rules sizes d i t group (first_leads_hold domain rules sizes count d group l)

first_same : OfTwo (λ domain one other. (k : ℕ) → k ≤ length one → k ≤ length other → take k one ≡ take k other)
first_same domain rules sizes first more early late i t j u group l m k a b =
    ⊎_elim
    (λ f. take-same k _ _ a f)
    (λ f. sym (take-same k _ _ b f))
    (own_histories_agree domain rules sizes first more early late i t j u group l m)

pub own_boards_agree : OwnBoardsAgree
own_boards_agree domain rules sizes first more early late i t j u group l m k a b =
    ap (board_of domain) (first_same domain rules sizes first more early late i t j u group l m k a b)

pub own_identifiers_stay : OwnIdentifiersStay
own_identifiers_stay domain rules sizes first more early late i t j u group l m k a b =
    let other : List Entry = own_history domain rules sizes late j u in
    let stays = names_stay domain (take k other) (drop k other) in (
      stays.0,
      rw (first_same domain rules sizes first more early late i t j u group l m k a b)
          (ap (λ log. names (board_of domain log)) (sym (take-append-drop k other)) ∙ stays.1),
    )

pub own_replies_agree : OwnRepliesAgree
own_replies_agree domain rules sizes first more early late i t j u group l m client number p q r s a b =
    let one : List Entry = own_history domain rules sizes early i t in
    let other : List Entry = own_history domain rules sizes late j u in
    let h : DeskHolds domain rules sizes early = first_leads_hold domain rules sizes first early group l in
    let k : DeskHolds domain rules sizes late = desk_leads_hold domain rules sizes more early late group h m in
    ⊎_elim
    (λ f. one_reply domain other client number p q r s (rises_of domain rules sizes late j u group k)
    (IsReplyAt-later domain one other client number p r f a) b)
    (λ f. one_reply domain one client number p q r s (rises_of domain rules sizes early i t group h) a
    (IsReplyAt-later domain other one client number q s f b))
    (own_histories_agree domain rules sizes first more early late i t j u group l m)

pub own_boards_consistent : OwnBoardsConsistent
own_boards_consistent domain rules sizes count d i t group l k lower small = board_of-consistent domain _ lower small

pub own_entries_requested : OwnEntriesRequested
own_entries_requested domain rules sizes count d i t zero e group l there = absurd (none-some e there)
own_entries_requested domain rules sizes count d i t (suc k) e group l there =
    let h : DeskHolds domain rules sizes d = first_leads_hold domain rules sizes count d group l in
    requested_from domain (ending_of rules) sizes d.runs i e group 0 (d.pasts i t) k (h.pasts i t)
    (entry_at-prefix (own_history domain rules sizes d i t)
    (history domain (ending_of rules) sizes d.runs 0 (d.pasts i t) i) (suc k) e (own_within domain rules sizes d i t)
    there)
