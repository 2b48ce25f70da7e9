-- Whatever happens to a desk whose nodes are replaced, the logs behind its nodes are those of whole epochs.
use Rattle.std.proofs.Common.{◌≡◌, ◌≢◌, ◌⊎◌, ℕ, zero, suc, ◌+◌, List, [], ◌∷◌, ◌++◌, length, refl, sym, inl, inr}
use Rattle.std.proofs.Common.{⊎_elim, subst, arith, ◌∙◌}
use Rattle.std.proofs.lemmas.Bool.{cases_eq}
use Rattle.std.proofs.lemmas.List.{append-nil}
use Rattle.desk_types.specs.declared.command.Entry.{Entry}
use Rattle.desk_types.specs.Group.{IsGroup}
use Rattle.desk_world.specs.declared.world_event.WorldEvent.{WorldEvent}
use Rattle.desk_epochs.specs.Epochs.{Epochs, HappensIn}
use Rattle.desk_epochs.specs.Histories.{ArePast, IsWholeEpoch}
use Rattle.desk_epochs.proofs.Epochs.{Holds, NewAfter, NoRequest, RunsGrow, first_holds, grow_on, grow_same}
use Rattle.desk_epochs.proofs.Epochs.{happens_grow, happens_holds, new_more, past_more, past_next, past_push}
use Rattle.desk_epoch_members.specs.Tokens.{BeginsAtEnd, Deals, Desk, DeskLeads, HasOneMore, IsTold, Next, Rules}
use Rattle.desk_epoch_members.specs.Tokens.{ending_of, epoch_in, first_desk}

-- the desk of one node, which is node i of each number
abbrev pub desk_of : Desk → ℕ → ℕ → Epochs
desk_of d i t = record { runs = d.runs; pasts = λ j. d.pasts i t }

pub record DeskHolds (domain : List ℕ) (rules : Rules) (sizes : ℕ → ℕ) (d : Desk) : Type 0 where
  pub pasts : (i t : ℕ) → ArePast domain (ending_of rules) sizes d.runs 0 (d.pasts i t)
  pub asked : (epoch : ℕ) → NoRequest (d.runs epoch) ⊎ NewAfter domain (ending_of rules) sizes d.runs epoch

pub holds_of : (domain : List ℕ) (rules : Rules) (sizes : ℕ → ℕ) (d : Desk) (i t : ℕ) → DeskHolds domain rules sizes d →
    Holds domain (ending_of rules) sizes (desk_of d i t)
holds_of domain rules sizes d i t h = record { pasts = λ j. h.pasts i t; asked = h.asked }

first_desk_holds : (domain : List ℕ) (rules : Rules) (sizes : ℕ → ℕ) → DeskHolds domain rules sizes first_desk
first_desk_holds domain rules sizes =
    record { pasts = λ i t. tt; asked = (first_holds domain (ending_of rules) sizes).asked }

-- events

happens : (domain : List ℕ) (rules : Rules) (sizes : ℕ → ℕ) (old new : Desk) → (a : Deals domain rules sizes old new) →
    HappensIn (desk_of old a.number a.token) (desk_of new a.number a.token)
happens domain rules sizes old new a = record {
  node = a.number;
  event = a.event;
  is_new = a.is_new;
  here = a.here;
  there = a.there;
  pasts_are = λ j. a.pasts_are a.number a.token;
}

deals_grow : (domain : List ℕ) (rules : Rules) (sizes : ℕ → ℕ) (old new : Desk) → Deals domain rules sizes old new →
    RunsGrow old.runs new.runs
deals_grow domain rules sizes old new a =
    happens_grow (desk_of old a.number a.token) (desk_of new a.number a.token) (happens domain rules sizes old new a)

deals_hold : (domain : List ℕ) (rules : Rules) (sizes : ℕ → ℕ) (old new : Desk) →
    ((epoch : ℕ) → IsGroup (sizes epoch)) → DeskHolds domain rules sizes old →
    Deals domain rules sizes old new → DeskHolds domain rules sizes new
deals_hold domain rules sizes old new group h a = record {
  pasts = λ i t. subst (λ (ps : List (List Entry)). ArePast domain (ending_of rules) sizes new.runs 0 ps)
      (sym (a.pasts_are i t))
      (past_more domain (ending_of rules) sizes old.runs new.runs group (deals_grow domain rules sizes old new a) 0
      (old.pasts i t) (h.pasts i t));
  asked = (happens_holds domain (ending_of rules) sizes (desk_of old a.number a.token) (desk_of new a.number a.token)
      group (holds_of domain rules sizes old a.number a.token h) (happens domain rules sizes old new a)).asked;
}

-- beginnings

more_grow : (number token : ℕ) (log : List Entry) (old new : Desk) → HasOneMore number token log old new →
    RunsGrow old.runs new.runs
more_grow number token log old new m = record {
  more = λ epoch. [];
  is = λ epoch. m.runs_are epoch ∙ sym (append-nil (old.runs epoch));
}

more_holds : (domain : List ℕ) (rules : Rules) (sizes : ℕ → ℕ) (number token : ℕ) (log : List Entry) (old new : Desk) →
    ((epoch : ℕ) → IsGroup (sizes epoch)) → DeskHolds domain rules sizes old →
    HasOneMore number token log old new →
    IsWholeEpoch domain (ending_of rules) (sizes (epoch_in old number token)) (old.runs (epoch_in old number token))
    log → DeskHolds domain rules sizes new
more_holds domain rules sizes number token log old new group h m w = record {
  pasts = λ i t. by_node i t (cases_eq i number) (cases_eq t token);
  asked = λ epoch. ⊎_elim
      (λ none. inl (subst (λ (es : List WorldEvent). NoRequest es) (sym (m.runs_are epoch)) none))
      (λ b. inr (new_more domain (ending_of rules) sizes old.runs new.runs group grow epoch (m.runs_are epoch) b))
      (h.asked epoch);
}
  where
    grow : RunsGrow old.runs new.runs
    grow = more_grow number token log old new m

    stays : (i t : ℕ) → new.pasts i t ≡ old.pasts i t →
        ArePast domain (ending_of rules) sizes new.runs 0 (new.pasts i t)
    stays i t same =
        subst (λ (ps : List (List Entry)). ArePast domain (ending_of rules) sizes new.runs 0 ps) (sym same)
        (past_more domain (ending_of rules) sizes old.runs new.runs group grow 0 (old.pasts i t) (h.pasts i t))

    longer : ArePast domain (ending_of rules) sizes new.runs 0 (old.pasts number token ++ log ∷ [])
    longer =
        past_more domain (ending_of rules) sizes old.runs new.runs group grow 0 (old.pasts number token ++ log ∷ [])
        (past_push domain (ending_of rules) sizes old.runs 0 (old.pasts number token) log (h.pasts number token)
        (let e : length (old.pasts number token) ≡ 0 + length (old.pasts number token) = omega arith in
        subst (λ x. IsWholeEpoch domain (ending_of rules) (sizes x) (old.runs x) log) e w))

    by_node : (i t : ℕ) → (i ≡ number) ⊎ (i ≢ number) → (t ≡ token) ⊎ (t ≢ token) →
        ArePast domain (ending_of rules) sizes new.runs 0 (new.pasts i t)
    by_node i t (inl p) (inl q) =
        subst (λ x. ArePast domain (ending_of rules) sizes new.runs 0 (new.pasts x t)) (sym p)
        (subst (λ x. ArePast domain (ending_of rules) sizes new.runs 0 (new.pasts number x)) (sym q)
        (subst (λ (ps : List (List Entry)). ArePast domain (ending_of rules) sizes new.runs 0 ps) (sym m.here) longer))
    by_node i t (inr n) q = stays i t (m.there i t (inl n))
    by_node i t (inl p) (inr n) = stays i t (m.there i t (inr n))

begins_hold : (domain : List ℕ) (rules : Rules) (sizes : ℕ → ℕ) (old new : Desk) →
    ((epoch : ℕ) → IsGroup (sizes epoch)) → DeskHolds domain rules sizes old →
    BeginsAtEnd domain rules sizes old new → DeskHolds domain rules sizes new
begins_hold domain rules sizes old new group h b =
    more_holds domain rules sizes b.number b.token _ old new group h b.goes
    (record { node = b.number; over = b.over; log_is = refl })

told_holds : (domain : List ℕ) (rules : Rules) (sizes : ℕ → ℕ) (old new : Desk) →
    ((epoch : ℕ) → IsGroup (sizes epoch)) → DeskHolds domain rules sizes old →
    IsTold old new → DeskHolds domain rules sizes new
told_holds domain rules sizes old new group h t =
    let all : ArePast domain (ending_of rules) sizes old.runs 0 (t.before ++ t.log ∷ t.rest) =
    subst (λ (ps : List (List Entry)). ArePast domain (ending_of rules) sizes old.runs 0 ps) t.has
    (h.pasts t.from t.from_token) in
    let here : 0 + length t.before ≡ epoch_in old t.number t.token = omega (arith, t.next) in
    let whole : IsWholeEpoch domain (ending_of rules) (sizes (epoch_in old t.number t.token))
    (old.runs (epoch_in old t.number t.token)) t.log =
    subst (λ e. IsWholeEpoch domain (ending_of rules) (sizes e) (old.runs e) t.log) here
    (past_next domain (ending_of rules) sizes old.runs 0 t.before t.rest t.log all) in
    more_holds domain rules sizes t.number t.token t.log old new group h t.goes whole

-- all steps

next_desk_holds : (domain : List ℕ) (rules : Rules) (sizes : ℕ → ℕ) (old new : Desk) →
    ((epoch : ℕ) → IsGroup (sizes epoch)) → DeskHolds domain rules sizes old →
    Next domain rules sizes old new →
    DeskHolds domain rules sizes new
next_desk_holds domain rules sizes old new group h (inl a) = deals_hold domain rules sizes old new group h a
next_desk_holds domain rules sizes old new group h (inr (inl b)) = begins_hold domain rules sizes old new group h b
next_desk_holds domain rules sizes old new group h (inr (inr t)) = told_holds domain rules sizes old new group h t

next_desk_grows : (domain : List ℕ) (rules : Rules) (sizes : ℕ → ℕ) (old new : Desk) → Next domain rules sizes old new →
    RunsGrow old.runs new.runs
next_desk_grows domain rules sizes old new (inl a) = deals_grow domain rules sizes old new a
next_desk_grows domain rules sizes old new (inr (inl b)) = more_grow b.number b.token _ old new b.goes
next_desk_grows domain rules sizes old new (inr (inr t)) = more_grow t.number t.token t.log old new t.goes

pub desk_leads_hold : (domain : List ℕ) (rules : Rules) (sizes : ℕ → ℕ) (count : ℕ) (old new : Desk) →
    ((epoch : ℕ) → IsGroup (sizes epoch)) → DeskHolds domain rules sizes old →
    DeskLeads domain rules sizes count old new → DeskHolds domain rules sizes new
desk_leads_hold domain rules sizes zero old new group h l = subst (DeskHolds domain rules sizes) l h
desk_leads_hold domain rules sizes (suc count) old new group h l =
    desk_leads_hold domain rules sizes count l.0 new group (next_desk_holds domain rules sizes old l.0 group h l.1) l.2

pub desk_leads_grow : (domain : List ℕ) (rules : Rules) (sizes : ℕ → ℕ) (count : ℕ) (old new : Desk) →
    DeskLeads domain rules sizes count old new → RunsGrow old.runs new.runs
desk_leads_grow domain rules sizes zero old new l =
    subst (λ (d : Desk). RunsGrow old.runs d.runs) l (grow_same old.runs)
desk_leads_grow domain rules sizes (suc count) old new l =
    grow_on old.runs (l.0).runs new.runs (next_desk_grows domain rules sizes old l.0 l.1)
    (desk_leads_grow domain rules sizes count l.0 new l.2)

pub first_leads_hold : (domain : List ℕ) (rules : Rules) (sizes : ℕ → ℕ) (count : ℕ) (d : Desk) →
    ((epoch : ℕ) → IsGroup (sizes epoch)) → DeskLeads domain rules sizes count first_desk d →
    DeskHolds domain rules sizes d
first_leads_hold domain rules sizes count d group l =
    desk_leads_hold domain rules sizes count first_desk d group (first_desk_holds domain rules sizes) l
