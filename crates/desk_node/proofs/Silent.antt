-- The rules that take in nothing and answer nothing.
use Rattle.std.proofs.Common.{◌≡◌, ℕ, Bool, true, false, cond, not, ◌||◌, ◌&&◌, eqb, leb, ltb, List, [], length, refl}
use Rattle.std.proofs.Common.{◌+◌, ◌∙◌, sym, ap, arith}
use Rattle.std.proofs.lemmas.Bool.{cond_both, ltb-true}
use Rattle.desk_types.specs.declared.command.Entry.{Entry}
use Rattle.desk_types.specs.declared.limits.TheConstants.{LAST_VIEW}
use Rattle.desk_types.specs.declared.outcome.Outcome.{Outcome}
use Rattle.desk_types.specs.declared.packet.Message.{Message}
use Rattle.desk_log.specs.Change.{Change, nothing, change_after, is_normal, leads, keeps_committed, adoption}
use Rattle.desk_log.specs.declared.answers.Answers.{Answers}
use Rattle.desk_log.specs.declared.answers.Answers.TheVariants.{Nothing}
use Rattle.desk_log.specs.Makes.{Makes}
use Rattle.desk_log.specs.Quorum.{primary, is_from_primary, faults}
use Rattle.desk_log.specs.SavedValue.{SavedValue}
use Rattle.desk_normal.specs.Rules.{is_stray, is_ahead, on_prepare, on_commit, normal_resend}
use Rattle.desk_transfer.specs.Rules.{joined_log, is_no_longer, on_get_state, on_new_state}
use Rattle.desk_view_change.specs.Rules.{is_over, asker_count, on_start_view, on_suspect, view_change_resend}
use Rattle.desk_node.specs.Answers.{outcomes_of}
use Rattle.desk_node.specs.Heard.{Heard, heard_after, heard_at}
use Rattle.desk_node.specs.HeldStep.{DoesRule}
use Rattle.desk_node.specs.NodeValue.{NodeValue}
use Rattle.desk_node.specs.Rules.{on_resend}

pub record IsSilent (c : Change) : Type 0 where
  pub taken_is : c.taken ≡ []
  pub answers_are : c.answers ≡ Nothing

-- A node that did a silent rule, and kept of what it heard what is of its view.
pub did_silent : (old : NodeValue) (c : Change) (new : NodeValue) (packets : List (ℕ × Message)) (reported : Answers)
    (answers : List Outcome) → IsSilent c → Makes c new.saved packets reported →
    new.heard ≡ heard_at old.n old.saved.view new.saved.view old.heard → answers ≡ [] →
    DoesRule old c new packets answers
did_silent old c new packets reported answers q made heard none = record {
  saved_is = made.saved_is;
  heard_is = heard ∙ (ap (λ (s : SavedValue). heard_at old.n old.saved.view s.view old.heard) made.saved_is
      ∙ ap (λ ps. heard_after c.saved.view ps (heard_at old.n old.saved.view c.saved.view old.heard)) (sym q.taken_is));
  packets_are = made.packets_are;
  answers_are = none ∙ ap (outcomes_of old.domain c.saved.log) (sym q.answers_are);
}

here_case : (n v : ℕ) (h : Heard) (b : Bool) → ltb v v ≡ b → h ≡ heard_at n v v h
here_case n v h true e = absurd (omega (arith, ltb-true v v e))
here_case n v h false e = rw e refl

-- What was heard of the node's own view is what it holds.
pub heard_here : (n v : ℕ) (h : Heard) → h ≡ heard_at n v v h
heard_here n v h = here_case n v h (ltb v v) refl

-- The same, of a rule that leaves the node as it is.
pub did_plain : (node : NodeValue) (c : Change) (packets : List (ℕ × Message)) (reported : Answers)
    (answers : List Outcome) → IsSilent c → Makes c node.saved packets reported → answers ≡ [] →
    DoesRule node c node packets answers
did_plain node c packets reported answers q made none =
    did_silent node c node packets reported answers q made (heard_here node.n node.saved.view node.heard) none

silent_if : (b : Bool) {x y : Change} → IsSilent x → IsSilent y → IsSilent (cond b x y)
silent_if b {x} {y} h k = cond_both b x y IsSilent (λ _. h) (λ _. k)

nothing_silent : (s : SavedValue) → IsSilent (nothing s)
nothing_silent s = record { taken_is = refl; answers_are = refl }

pub prepare_silent : (i n : ℕ) (s : SavedValue) (from w m c : ℕ) (e : Entry) → IsSilent (on_prepare i n s from w m c e)
unfolding on_prepare
prepare_silent i n s from w m c e =
    silent_if (is_stray i n s from w) (nothing_silent s)
    (silent_if (is_ahead s w) (record { taken_is = refl; answers_are = refl })
    (silent_if (eqb m (length s.log + 1)) (record { taken_is = refl; answers_are = refl })
    (silent_if (leb m (length s.log)) (record { taken_is = refl; answers_are = refl })
    (record { taken_is = refl; answers_are = refl }))))

pub commit_silent : (i n : ℕ) (s : SavedValue) (from w k : ℕ) → IsSilent (on_commit i n s from w k)
unfolding on_commit
commit_silent i n s from w k =
    silent_if (is_stray i n s from w) (nothing_silent s)
    (silent_if (is_ahead s w) (record { taken_is = refl; answers_are = refl })
    (silent_if (ltb (length s.log) k) (record { taken_is = refl; answers_are = refl })
    (record { taken_is = refl; answers_are = refl })))

adoption_silent : (i n : ℕ) (s : SavedValue) (w c : ℕ) (l : List Entry) → IsSilent (adoption i n s w c l)
unfolding adoption
adoption_silent i n s w c l = record { taken_is = refl; answers_are = refl }

pub start_view_silent : (i n : ℕ) (s : SavedValue) (from w c : ℕ) (l : List Entry) →
    IsSilent (on_start_view i n s from w c l)
unfolding on_start_view
start_view_silent i n s from w c l =
    silent_if (is_over s w || not (is_from_primary i n from w)) (nothing_silent s)
    (silent_if (keeps_committed s l) (adoption_silent i n s w c l) (nothing_silent s))

pub suspect_silent : (i n : ℕ) (s : SavedValue) → IsSilent (on_suspect i n s)
unfolding on_suspect
suspect_silent i n s =
    silent_if (ltb s.view LAST_VIEW) (record { taken_is = refl; answers_are = refl }) (nothing_silent s)

pub get_state_silent : (i : ℕ) (s : SavedValue) (from w b : ℕ) → IsSilent (on_get_state i s from w b)
unfolding on_get_state
get_state_silent i s from w b =
    silent_if (is_normal s && eqb w s.view && leb b (length s.log) && not (eqb from i))
    (record { taken_is = refl; answers_are = refl }) (nothing_silent s)

pub new_state_silent : (i n : ℕ) (s : SavedValue) (w b c : ℕ) (es : List Entry) →
    IsSilent (on_new_state i n s w b c es)
unfolding on_new_state
new_state_silent i n s w b c es =
    silent_if (ltb w s.view || eqb i (primary n w) || ltb s.commit b) (nothing_silent s)
    (silent_if (is_no_longer s w (joined_log s b es)) (nothing_silent s)
    (silent_if (keeps_committed s (joined_log s b es)) (adoption_silent i n s w c (joined_log s b es))
    (nothing_silent s)))

pub ruleset silent_rules =
    (did_silent, prepare_silent, commit_silent, start_view_silent, suspect_silent, new_state_silent)

normal_resend_silent : (i n : ℕ) (s : SavedValue) → IsSilent (normal_resend i n s)
unfolding normal_resend
normal_resend_silent i n s =
    silent_if (leads i n s) (record { taken_is = refl; answers_are = refl })
    (record { taken_is = refl; answers_are = refl })

silent_sends : (b : Bool) {x y : Change} (ps : List (ℕ × Message)) → IsSilent x → IsSilent y →
    IsSilent (change_after [] ps (cond b x y))
silent_sends b {x} {y} ps h k = cond_both b x y (λ c. IsSilent (change_after [] ps c))
    (λ _. record { taken_is = h.taken_is; answers_are = h.answers_are })
    (λ _. record { taken_is = k.taken_is; answers_are = k.answers_are })

view_change_resend_silent : (i n : ℕ) (s : SavedValue) (askers : List Bool) →
    IsSilent (view_change_resend i n s askers)
unfolding view_change_resend
view_change_resend_silent i n s askers =
    silent_sends (leb (faults n) (asker_count i n askers) && not (eqb (primary n s.view) i)) _
    (record { taken_is = refl; answers_are = refl }) (nothing_silent s)

pub resend_silent : (i n : ℕ) (s : SavedValue) (h : Heard) → IsSilent (on_resend i n s h)
unfolding on_resend
resend_silent i n s h = silent_if (is_normal s) (normal_resend_silent i n s)
    (view_change_resend_silent i n s h.view_change.askers)
