-- What a node sends again.
use Rattle.std.proofs.Common.{◌≡◌, ℕ, suc, ◌+◌, true, List, [], ◌∷◌, ◌++◌, length, drop, Some, refl, sym, ap, ◌∙◌}
use Rattle.std.proofs.Common.{arith}
use Rattle.std.specs.List.{slice_get}
use Rattle.std.proofs.lemmas.Bool.{eqb-true}
use Rattle.desk_types.specs.declared.command.Entry.{Entry}
use Rattle.desk_types.specs.declared.packet.Message.{Message}
use Rattle.desk_types.specs.declared.packet.Message.TheVariants.{Prepare, PrepareOk, Commit}
use Rattle.desk_log.specs.SavedValue.{SavedValue}
use Rattle.desk_log.specs.declared.answers.Answers.TheVariants as answers
use Rattle.desk_normal.specs.Rules.{normal_resend}
use Rattle.desk_log.proofs.Prefixes.{length-prefix}
use Rattle.desk_world.proofs.FirstEntries.{slice_get-drop}
use Rattle.desk_world.proofs.Packets.{IsBacked}
use Rattle.desk_world.proofs.ViewLog.{has_begun, announced_log}
use Rattle.desk_world.proofs.NodeInvariants.{Nodes, NodeInvariant, PrepareHolds, CommitHolds}
use Rattle.desk_world.proofs.Invariant.{GroupInvariant}
use Rattle.desk_world.proofs.SafeSteps.{AllSentFit, fit_append, fit_others, Safe, safe_if, safe_same, safe_one_packet}
use Rattle.desk_world.proofs.NormalSteps.{fit_ok, leads_facts}
use Rattle.desk_log.specs.Quorum.{primary}
use Rattle.desk_log.specs.Change.{is_normal, leads, to_others}
use Rattle.desk_normal.specs.Rules.{prepare_packets}

fit_prepares : (n : ℕ) (ps : List Message) (i : ℕ) (old : SavedValue) (new s : SavedValue) →
    has_begun ps s.view ≡ true → i ≡ primary n s.view → IsBacked n ps s.view s.commit →
    (m : ℕ) (es : List Entry) → ((k : ℕ) (x : Entry) → slice_get es k ≡ Some x →
    slice_get (announced_log ps s.view) (m + k) ≡ Some x) → AllSentFit n ps i old new (prepare_packets i n s (suc m) es)
fit_prepares n ps i old new s b l p m [] h = tt
fit_prepares n ps i old new s b l p m (e ∷ es) h =
    let here : m + 0 ≡ m = omega arith in
    let holds : PrepareHolds n ps i s.view (suc m) s.commit e =
    record { begun = b; leader = l; stands = rw here at (h 0 e refl); backed = p } in
    fit_append n ps i old new (to_others i n (Prepare i s.view (suc m) s.commit e))
    (prepare_packets i n s (suc (suc m)) es)
    (fit_others n ps i old new (Prepare i s.view (suc m) s.commit e) (record { holds = λ _ _. holds; here = tt }))
    (fit_prepares n ps i old new s b l p (suc m) es (λ k x q. let step : m + suc k ≡ suc m + k = omega arith in
    rw step at (h (suc k) x q)))

pub safe_normal_resend : (domain : List ℕ) (n : ℕ) (ps : List Message) (at : Nodes) (i : ℕ) → GroupInvariant n ps at →
    is_normal (at i).saved ≡ true →
    Safe domain n ps at i (at i).received (normal_resend i n (at i).saved)
unfolding normal_resend
safe_normal_resend domain n ps at i k t =
    let s : SavedValue = (at i).saved in
    let own : NodeInvariant n ps i s = k.nodes i in
    let e : s.normal ≡ s.view = eqb-true s.normal s.view t in
    safe_if (leads i n s)
    (λ y.
    let lead = leads_facts i n s y in
    let started : has_begun ps s.view ≡ true = rw lead.0 at own.begun in
    let whole : s.log ≡ announced_log ps s.view = own.whole (rw lead.0 lead.1) ∙ ap (announced_log ps) lead.0 in
    let p : IsBacked n ps s.view s.commit = rw lead.0 at own.backed in
    let sends : List (ℕ × Message) = prepare_packets i n s (suc s.commit) (drop s.commit s.log) in
    let tells : List (ℕ × Message) = to_others i n (Commit i s.view s.commit) in
    let one : AllSentFit n ps i s s sends = fit_prepares n ps i s s s started lead.1 p s.commit (drop s.commit s.log)
    (λ j x q. rw (← whole) (sym (slice_get-drop s.commit s.log j) ∙ q)) in
    let holds : CommitHolds n ps i s.view s.commit = record { begun = started; leader = lead.1; backed = p } in
    let two : AllSentFit n ps i s s tells =
    fit_others n ps i s s (Commit i s.view s.commit) (record { holds = λ _ _. holds; here = tt }) in
    safe_same domain n ps at i k (sends ++ tells) answers.Nothing (fit_append n ps i s s sends tells one two) tt)
    (λ _.
    safe_one_packet domain n ps at i (primary n s.view) (PrepareOk i s.view (length s.log)) k
    (fit_ok n ps i s s s.view (length s.log) refl e (rw e at own.begun)
    (rw e at (length-prefix s.log (announced_log ps s.normal) own.within)) (omega arith)))
