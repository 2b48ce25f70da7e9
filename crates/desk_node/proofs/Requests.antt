-- What a client's request is answered.
use Rattle.std.proofs.Common.{◌≡◌, ◌≢◌, ◌∙◌, ℕ, Bool, true, false, cond, leb, List, []}
use Rattle.std.proofs.Common.{Result, Ok, Err, OnErr, refl, sym, ap, subst}
use Rattle.std.proofs.lemmas.Bool.{cond_both, leb-true}
use Rattle.desk_types.specs.declared.command.Entry.{Entry}
use Rattle.desk_types.specs.declared.outcome.Outcome.{Outcome}
use Rattle.desk_types.specs.declared.packet.Message.{Message}
use Rattle.desk_log.specs.Admission.{admission}
use Rattle.desk_log.specs.Change.{Change, nothing, leads}
use Rattle.desk_log.specs.declared.admission.Admission.{Admission}
use Rattle.desk_log.specs.declared.admission.Admission.TheVariants.{Append, Retry, Stale, Full}
use Rattle.desk_log.specs.declared.answers.Answers.{Answers}
use Rattle.desk_log.specs.declared.answers.Answers.TheVariants.{Nothing}
use Rattle.desk_log.specs.Makes.{Makes}
use Rattle.desk_log.specs.SavedValue.{SavedValue}
use Rattle.desk_log.proofs.Admitted.{retry_is_latest}
use Rattle.desk_normal.specs.Rules.{append_request, retry_request, admitted_request, on_request}
use Rattle.desk_node.specs.Answers.{IsAnswerable, outcomes_of}
use Rattle.desk_node.specs.Heard.{Heard, heard_after, heard_at}
use Rattle.desk_node.specs.HeldStep.{DoesRule}
use Rattle.desk_node.specs.NodeValue.{NodeValue}
use Rattle.desk_node.proofs.Silent.{heard_here}

-- The view stays, and nothing is taken in. Where there is an answer nothing changes, and the board has it.
record IsAnswered (s : SavedValue) (c : Change) : Type 0 where
  taken_is : c.taken ≡ []
  view_is : c.saved.view ≡ s.view
  answerable : IsAnswerable c.saved.log c.saved.commit c.answers
  unchanged : c.answers ≢ Nothing → c.saved ≡ s

answered_if : {s : SavedValue} (b : Bool) {x y : Change} → (b ≡ true → IsAnswered s x) → (b ≡ false → IsAnswered s y) →
    IsAnswered s (cond b x y)
answered_if {s} b {x} {y} h k = cond_both b x y (IsAnswered s) h k

nothing_answered : (s : SavedValue) → IsAnswered s (nothing s)
nothing_answered s = record { taken_is = refl; view_is = refl; answerable = tt; unchanged = λ no. refl }

retry_answered : (s : SavedValue) (e : Entry) (place : ℕ) → admission s.log e.client e.number ≡ Retry place →
    IsAnswered s (retry_request s place)
unfolding retry_request
retry_answered s e place h = answered_if (leb place s.commit)
    (λ t. record {
      taken_is = refl;
      view_is = refl;
      answerable = record {
        client = e.client;
        latest_is = retry_is_latest s.log e.client e.number place h;
        within = leb-true place s.commit t;
      };
      unchanged = λ no. refl;
    })
    (λ _. nothing_answered s)

admitted_answered : (i n : ℕ) (s : SavedValue) (e : Entry) (a : Admission) → admission s.log e.client e.number ≡ a →
    IsAnswered s (admitted_request i n s e a)
unfolding admitted_request append_request
admitted_answered i n s e Append h =
    record { taken_is = refl; view_is = refl; answerable = tt; unchanged = λ no. absurd (no refl) }
admitted_answered i n s e (Retry place) h = retry_answered s e place h
admitted_answered i n s e (Stale number) h =
    record { taken_is = refl; view_is = refl; answerable = tt; unchanged = λ no. refl }
admitted_answered i n s e Full h =
    record { taken_is = refl; view_is = refl; answerable = tt; unchanged = λ no. refl }

request_answered : (i n : ℕ) (s : SavedValue) (e : Entry) → IsAnswered s (on_request i n s e)
unfolding on_request
request_answered i n s e = answered_if (leads i n s)
    (λ _. admitted_answered i n s e (admission s.log e.client e.number) refl)
    (λ _. record { taken_is = refl; view_is = refl; answerable = tt; unchanged = λ no. refl })

-- The board of the committed entries has the answer.
pub request_answerable : (i n : ℕ) (s t : SavedValue) (e : Entry) (packets : List (ℕ × Message)) (reported : Answers)
    (commit : ℕ) (log : List Entry) → commit ≡ t.commit → log ≡ t.log → Makes (on_request i n s e) t packets reported →
    IsAnswerable log commit reported
request_answerable i n s t e packets reported commit log commit_is log_is made = rw (commit_is, log_is)
    (subst (λ (x : SavedValue). IsAnswerable x.log x.commit reported) (sym made.saved_is)
    (subst (λ (a : Answers). IsAnswerable (on_request i n s e).saved.log (on_request i n s e).saved.commit a)
    (sym made.answers_are) (request_answered i n s e).answerable))

-- Where there is an answer nothing changes.
pub request_unchanged : (i n : ℕ) (s t : SavedValue) (e : Entry) (packets : List (ℕ × Message)) (reported : Answers) →
    Makes (on_request i n s e) t packets reported → reported ≢ Nothing → t ≡ s
request_unchanged i n s t e packets reported made some =
    made.saved_is ∙ (request_answered i n s e).unchanged (λ q. some (made.answers_are ∙ q))

did_request : (old : NodeValue) (e : Entry) (new : NodeValue) (packets : List (ℕ × Message)) (reported : Answers)
    (answers : List Outcome) → Makes (on_request old.id old.n old.saved e) new.saved packets reported →
    new.heard ≡ old.heard → answers ≡ outcomes_of old.domain new.saved.log reported →
    DoesRule old (on_request old.id old.n old.saved e) new packets answers
did_request old e new packets reported answers made heard announced_is =
    let c : Change = on_request old.id old.n old.saved e in
    let a : IsAnswered old.saved c = request_answered old.id old.n old.saved e in
    record {
      saved_is = made.saved_is;
      heard_is = heard ∙ (heard_here old.n old.saved.view old.heard
          ∙ (ap (λ w. heard_at old.n old.saved.view w old.heard) (sym a.view_is)
          ∙ ap (λ ps. heard_after c.saved.view ps (heard_at old.n old.saved.view c.saved.view old.heard))
          (sym a.taken_is)));
      packets_are = made.packets_are;
      answers_are = announced_is ∙ (ap (λ (s : SavedValue). outcomes_of old.domain s.log reported) made.saved_is
          ∙ ap (outcomes_of old.domain c.saved.log) made.answers_are);
    }

-- The same, by equal parts of the node.
pub did_request_by : (old : NodeValue) (domain : List ℕ) (i n : ℕ) (s : SavedValue) (e : Entry) (new : NodeValue)
    (packets : List (ℕ × Message)) (reported : Answers) (log : List Entry) (answers : List Outcome) → i ≡ old.id →
    n ≡ old.n → s ≡ old.saved → domain ≡ old.domain → Makes (on_request i n s e) new.saved packets reported →
    new.heard ≡ old.heard → log ≡ new.saved.log → answers ≡ outcomes_of domain log reported →
    DoesRule old (on_request old.id old.n old.saved e) new packets answers
did_request_by old domain i n s e new packets reported log answers id_is n_is saved_is domain_is made heard log_is
    announced_is =
    did_request old e new packets reported answers
    (subst (λ (x : ℕ). Makes (on_request x old.n old.saved e) new.saved packets reported) id_is
    (subst (λ (x : ℕ). Makes (on_request i x old.saved e) new.saved packets reported) n_is
    (subst (λ (x : SavedValue). Makes (on_request i n x e) new.saved packets reported) saved_is made)))
    heard
    (announced_is ∙ (ap (λ d. outcomes_of d log reported) domain_is ∙ ap (λ l. outcomes_of old.domain l reported)
    log_is))

-- A node with the same parts is the same.
pub node_same : (old : NodeValue) (domain domain-new : List ℕ) (i n : ℕ) (s t : SavedValue) (heard : Heard) →
    record { domain = domain; id = i; n = n; saved = s; heard = heard } ≡ old → domain-new ≡ domain → t ≡ s →
    record { domain = domain-new; id = i; n = n; saved = t; heard = heard } ≡ old
node_same old domain domain-new i n s t heard e domain_is saved_is = rw (domain_is, saved_is) e

pub on_err_is : {A E : Type 0} (r : Result A E) {P : Type 0} → P → OnErr r P
on_err_is (Ok x) p = tt
on_err_is (Err x) p = p
