-- A node takes the log of a view, or hands its own over.
use Rattle.std.proofs.Common.{◌≡◌, ◌≢◌, ℕ, ◌<◌, ◌≤◌, ◌⊎◌, min, true, false, not, ◌&&◌, ◌||◌, List, [], ◌∷◌, length}
use Rattle.std.proofs.Common.{take, drop, refl, sym, ap, ◌∙◌, arith, inl, inr, eqb, leb, ltb}
use Rattle.std.proofs.lemmas.Bool.{cases_lt, or_parts, and_parts, and_from, eqb-true, eqb-false, eq-eqb, leb-true}
use Rattle.std.proofs.lemmas.Bool.{le-leb, ltb-false, false≢true}
use Rattle.std.proofs.lemmas.List.{length-take, take-append-drop}
use Rattle.desk_types.specs.declared.command.Entry.{Entry}
use Rattle.desk_types.specs.declared.packet.Message.{Message}
use Rattle.desk_types.specs.declared.packet.Message.TheVariants.{PrepareOk, NewState}
use Rattle.desk_log.specs.declared.answers.Answers.TheVariants as answers
use Rattle.desk_log.specs.Change.{is_normal, with_log, keeps_committed, adoption}
use Rattle.desk_log.specs.Entries.{IsLogPrefix}
use Rattle.desk_types.specs.Group.{IsGroup}
use Rattle.desk_log.specs.Quorum.{primary, is_from_primary}
use Rattle.desk_log.specs.SavedValue.{SavedValue}
use Rattle.desk_view_change.specs.Rules.{is_over, on_start_view}
use Rattle.desk_transfer.specs.Rules.{joined_log, is_no_longer, on_get_state, on_new_state}
use Rattle.desk_world.proofs.ViewLog.{has_begun, announced_start, announced_log}
use Rattle.desk_log.proofs.Prefixes.{prefix_refl, prefix_trans, length-prefix, prefixes_in_order, take-prefix}
use Rattle.desk_log.proofs.Prefixes.{take_take-prefix}
use Rattle.desk_log.proofs.KeepsCommitted.{keeps_committed-Decides}
use Rattle.desk_world.proofs.NodeInvariants.{Nodes, NodeInvariant, StartHolds, StateHolds, SavedLater}
use Rattle.desk_world.proofs.Invariant.{GroupInvariant}
use Rattle.desk_world.proofs.NormalSteps.{from_another, fit_ok}
use Rattle.desk_world.proofs.Packets.{IsBacked, IsBacked-to, IsBacked-max}
use Rattle.desk_world.proofs.SafeSteps.{Safe, safe_if, safe_plain, safe_nothing, safe_one_packet}
use Rattle.desk_world.proofs.ChosenPrefixes.{backed_prefix}
use Rattle.desk_world.proofs.ViewChange.{not_over}
use Rattle.desk_world.proofs.Views.{view_starts}

-- A node that is not the view's primary takes a log of the view.
safe_adoption : (domain : List ℕ) (n : ℕ) (ps : List Message) (at : Nodes) (i w c : ℕ) (l : List Entry) →
    GroupInvariant n ps at →
    (at i).saved.view ≤ w → i ≢ primary n w → has_begun ps w ≡ true → IsLogPrefix (announced_start ps w) l →
    IsLogPrefix l (announced_log ps w) → IsBacked n ps w c →
    keeps_committed (at i).saved l ≡ true → ((at i).saved.normal ≡ w → IsLogPrefix (at i).saved.log l) →
    Safe domain n ps at i (at i).received (adoption i n (at i).saved w c l)
unfolding adoption
safe_adoption domain n ps at i w c l k fresh ne b f h p fit same =
    let s : SavedValue = (at i).saved in
    let own : NodeInvariant n ps i s = k.nodes i in
    let new : SavedValue = with_log w l c s in
    let keeps = (keeps_committed-Decides s l).0 fit in
    let later : SavedLater s new = record {
      view = fresh;
      normal = omega (arith, own.order);
      log = same;
      commit = omega arith;
      committed = rw keeps.1 (take_take-prefix s.commit new.commit l l (omega arith) (prefix_refl l));
      still = λ _ _. inl (omega arith);
    } in
    let preserved : NodeInvariant n ps i new = record {
      order = omega arith;
      within_log = omega (arith, keeps.0);
      begun = b;
      starts = f;
      within = h;
      whole = λ e. absurd (ne e);
      backed = IsBacked-max n ps w s.commit (min c (length l))
          (IsBacked-to n ps s.normal w s.commit s.commit (omega (arith, own.order, fresh)) (omega arith) own.backed)
          (IsBacked-to n ps w w c (min c (length l)) (omega arith) (omega arith) p);
    } in
    safe_plain domain n ps at i k new ((primary n w, PrepareOk i w (length l)) ∷ []) answers.Nothing later preserved
    (fit_ok n ps i s new w (length l) refl refl b (length-prefix l (announced_log ps w) h) (omega arith), tt) tt

pub safe_start_view : (domain : List ℕ) (n : ℕ) (ps : List Message) (at : Nodes) (i from w c : ℕ) (l : List Entry) →
    GroupInvariant n ps at → StartHolds n ps from w c l →
    Safe domain n ps at i (at i).received (on_start_view i n (at i).saved from w c l)
unfolding on_start_view
safe_start_view domain n ps at i from w c l k r =
    let s : SavedValue = (at i).saved in
    safe_if (is_over s w || not (is_from_primary i n from w)) (λ _. safe_nothing domain n ps at i k) (λ t.
    let a = or_parts (is_over s w) (not (is_from_primary i n from w)) t in
    let o = not_over s.normal s.view w a.0 in
    safe_if (keeps_committed s l)
    (λ y. safe_adoption domain n ps at i w c l k o.0 (from_another i n from w a.1) r.begun
    (rw r.log_is (prefix_refl (announced_start ps w))) (rw r.log_is (view_starts ps w)) r.backed y
    (λ e. absurd (o.1 (k.nodes i).order e)))
    (λ _. safe_nothing domain n ps at i k))

-- The node's own entries up to a committed place, and those that were handed over, are the log that was handed over.
joined_is : (n : ℕ) (ps : List Message) (at : Nodes) (i w b c : ℕ) (es : List Entry) → IsGroup n →
    GroupInvariant n ps at →
    (r : StateHolds n ps w b c es) → (at i).saved.view ≤ w → b ≤ (at i).saved.commit →
    joined_log (at i).saved b es ≡ r.log
joined_is n ps at i w b c es group k r fresh l =
    let s : SavedValue = (at i).saved in
    let own : NodeInvariant n ps i s = k.nodes i in
    let mine : IsLogPrefix (take s.commit s.log) (announced_log ps w) =
    backed_prefix n ps at group k s.normal s.commit s.log own.begun own.within own.within_log own.backed w
    (omega (arith, own.order, fresh)) r.begun in
    let fewer : IsLogPrefix (take b s.log) (take s.commit s.log) =
    take_take-prefix b s.commit s.log s.log l (prefix_refl s.log) in
    let first : IsLogPrefix (take b s.log) (announced_log ps w) = prefix_trans _ _ _ fewer mine in
    let long : length (take b s.log) ≡ b = omega (arith, length-take b s.log, own.within_log) in
    let both : IsLogPrefix (take b s.log) r.log =
    prefixes_in_order (take b s.log) r.log (announced_log ps w) first r.within (omega (arith, r.base, long)) in
    let same : take b s.log ≡ take b r.log = sym (take-prefix (take b s.log) r.log both)
    ∙ ap (λ x. take x r.log) long in
    rw (same, r.rest) (take-append-drop b r.log)

pub safe_new_state : (domain : List ℕ) (n : ℕ) (ps : List Message) (at : Nodes) (i w b c : ℕ) (es : List Entry) →
    IsGroup n → GroupInvariant n ps at → StateHolds n ps w b c es →
    Safe domain n ps at i (at i).received (on_new_state i n (at i).saved w b c es)
unfolding on_new_state
safe_new_state domain n ps at i w b c es group k r =
    safe_if (ltb w s.view || eqb i (primary n w) || ltb s.commit b) (λ _. safe_nothing domain n ps at i k) (λ t.
    let a = or_parts (ltb w s.view || eqb i (primary n w)) (ltb s.commit b) t in
    let d = or_parts (ltb w s.view) (eqb i (primary n w)) a.0 in
    let fresh : s.view ≤ w = ltb-false w s.view d.0 in
    let same : l ≡ r.log = joined_is n ps at i w b c es group k r fresh (ltb-false s.commit b a.1) in
    safe_if (is_no_longer s w l) (λ _. safe_nothing domain n ps at i k) (λ longer.
    safe_if (keeps_committed s l)
    (λ y. safe_adoption domain n ps at i w c l k fresh (eqb-false i (primary n w) d.1) r.begun
    (rw same r.starts) (rw same r.within) r.backed y
    (λ e. by_length fresh e (cases_lt (length s.log) (length l)) longer (rw same r.within)))
    (λ _. safe_nothing domain n ps at i k)))
  where
    s : SavedValue
    s = (at i).saved

    l : List Entry
    l = joined_log s b es

    by_length : s.view ≤ w → s.normal ≡ w → (length s.log < length l) ⊎ (length l ≤ length s.log) →
        is_no_longer s w l ≡ false → IsLogPrefix l (announced_log ps w) → IsLogPrefix s.log l
    by_length v e (inl lt) t f = prefixes_in_order s.log l (announced_log ps w) (rw e at (k.nodes i).within) f
        (omega arith)
    by_length v e (inr ge) t f =
        let up : s.normal ≡ s.view = omega (arith, (k.nodes i).order, v, e) in
        let here : w ≡ s.view = omega (arith, up, e) in
        absurd (false≢true (sym t ∙ and_from (is_normal s && eqb w s.view) (leb (length l) (length s.log))
        (and_from (is_normal s) (eqb w s.view) (eq-eqb s.normal s.view up) (eq-eqb w s.view here))
        (le-leb (length l) (length s.log) ge)))

pub safe_get_state : (domain : List ℕ) (n : ℕ) (ps : List Message) (at : Nodes) (i from w b : ℕ) →
    GroupInvariant n ps at →
    Safe domain n ps at i (at i).received (on_get_state i (at i).saved from w b)
unfolding on_get_state
safe_get_state domain n ps at i from w b k =
    let s : SavedValue = (at i).saved in
    let own : NodeInvariant n ps i s = k.nodes i in
    safe_if (is_normal s && eqb w s.view && leb b (length s.log) && not (eqb from i))
    (λ t.
    let a = and_parts (is_normal s && eqb w s.view && leb b (length s.log)) (not (eqb from i)) t in
    let d = and_parts (is_normal s && eqb w s.view) (leb b (length s.log)) a.0 in
    let e : s.normal ≡ s.view = eqb-true s.normal s.view (and_parts (is_normal s) (eqb w s.view) d.0).0 in
    let state : StateHolds n ps s.view b s.commit (drop b s.log) = record {
      begun = rw e at own.begun;
      log = s.log;
      starts = rw e at own.starts;
      within = rw e at own.within;
      base = leb-true b (length s.log) d.1;
      rest = refl;
      backed = rw e at own.backed;
    } in
    safe_one_packet domain n ps at i from (NewState i s.view b s.commit (drop b s.log)) k
    (record { holds = λ _ _. state; here = tt }))
    (λ _. safe_nothing domain n ps at i k)
