-- What a primary's new entry makes of its view: the view's log has it last.
use Rattle.std.proofs.Common.{◌≡◌, ◌≢◌, ℕ, zero, suc, ◌+◌, ◌<◌, ◌≤◌, ◌⊎◌, true, List, [], ◌∷◌, ◌++◌, length, map, refl}
use Rattle.std.proofs.Common.{sym, ap, ◌∙◌, arith, inl, inr, ⊎_elim, eqb, false}
use Rattle.std.specs.List.{Contains}
use Rattle.std.proofs.lemmas.Bool.{cases_lt, cases_eq, ne_eqb, eq-eqb}
use Rattle.std.proofs.lemmas.List.{length_push}
use Rattle.desk_types.specs.declared.command.Entry.{Entry}
use Rattle.desk_types.specs.declared.limits.TheConstants.{LOG_ENTRIES}
use Rattle.desk_types.specs.declared.packet.Message.{Message}
use Rattle.desk_types.specs.declared.packet.Message.TheVariants.{Prepare, PrepareOk}
use Rattle.desk_types.specs.Lists.{others_below}
use Rattle.desk_log.specs.Laws.{IsNewNumber}
use Rattle.desk_log.proofs.Rising.{rising_with_one_more}
use Rattle.desk_world.proofs.ViewLog.{view_of, has_begun, announced_start, announced_log}
use Rattle.desk_world.specs.World.{messages}
use Rattle.desk_world.proofs.Packets.{Contains-none, Contains-cases, has_acked-more, has_acked-new}
use Rattle.desk_world.proofs.Views.{TellsNothingNew, view_same, view_longer}
use Rattle.desk_world.proofs.Invariant.{ViewInvariant}
use Rattle.desk_world.proofs.SafeSteps.{made_later}
use Rattle.desk_types.specs.Group.{IsGroup}
use Rattle.desk_log.specs.Quorum.{primary}
use Rattle.desk_node.specs.Said.{has_acked}
use Rattle.desk_log.specs.Change.{to_others}

-- Where there are two nodes, there is another one.
others_some : (i n : ℕ) → 2 ≤ n → 0 < length (others_below i n)
others_some i zero h = absurd (omega arith)
others_some i (suc zero) h = absurd (omega arith)
others_some i (suc (suc k)) h = by_last (cases_eq (suc k) i)
  where
    by_last : (suc k ≡ i) ⊎ (suc k ≢ i) → 0 < length (others_below i (suc (suc k)))
    by_last (inl e) =
        let here : eqb (suc k) i ≡ true = eq-eqb (suc k) i e in
        let below : eqb k i ≡ false = ne_eqb k i (λ q. omega arith) in
        let long : length (others_below i k ++ k ∷ []) ≡ length (others_below i k) + 1 =
        length_push (others_below i k) k in
        rw (here, below) (omega (arith, long))
    by_last (inr ne) =
        let here : eqb (suc k) i ≡ false = ne_eqb (suc k) i ne in
        let long : length (others_below i (suc k) ++ suc k ∷ []) ≡ length (others_below i (suc k)) + 1 =
        length_push (others_below i (suc k)) (suc k) in
        rw here (omega (arith, long))

-- The messages are one packet, at least once.
pub record Repeats (p : Message) (ms : List Message) : Type 0 where
  pub rest : List Message
  pub first : ms ≡ p ∷ rest
  pub same : (q : Message) → Contains rest q → q ≡ p

each_same : (p : Message) (js : List ℕ) (q : Message) → Contains (messages (map (λ j. (j, p)) js)) q → q ≡ p
each_same p [] q c = absurd (Contains-none q c)
each_same p (j ∷ js) q c = ⊎_elim (λ e. sym e) (λ r. each_same p js q r)
    (Contains-cases p (messages (map (λ j. (j, p)) js)) q c)

each_repeats : (p : Message) (js : List ℕ) → 0 < length js → Repeats p (messages (map (λ j. (j, p)) js))
each_repeats p [] h = absurd (omega arith)
each_repeats p (j ∷ js) h = record { rest = messages (map (λ j. (j, p)) js); first = refl; same = each_same p js }

pub others_repeat : (i n : ℕ) (p : Message) → IsGroup n → Repeats p (messages (to_others i n p))
unfolding to_others
others_repeat i n p group = each_repeats p (others_below i n) (others_some i n (omega (arith, group.least)))

pub others_same : (i n : ℕ) (p q : Message) → Contains (messages (to_others i n p)) q → q ≡ p
unfolding to_others
others_same i n p q c = each_same p (others_below i n) q c

-- The view has the entry last, and the others are as they were.
pub record Longer (ps qs : List Message) (v : ℕ) (e : Entry) : Type 0 where
  pub here : view_of (ps ++ qs) v ≡ record
      { begun = true; start = announced_start ps v; log = announced_log ps v ++ e ∷ [] }
  pub there : (w : ℕ) → w ≢ v → view_of (ps ++ qs) w ≡ view_of ps w

pub lengthens : (i n : ℕ) (ps : List Message) (v c : ℕ) (e : Entry) (ok : Message) → IsGroup n → has_begun ps v ≡ true →
    ok ≡ PrepareOk i v (length (announced_log ps v) + 1) →
    Longer ps (ok ∷ messages (to_others i n (Prepare i v (length (announced_log ps v) + 1) c e))) v e
lengthens i n ps v c e ok group b is = record {
  here = rw s.first (view_longer ps ok p s.rest v i v m i m c e is refl b refl s.same);
  there = λ w ne. view_same ps (ok ∷ messages (to_others i n p)) w
      (λ q k. tells w ne q (Contains-cases ok (messages (to_others i n p)) q k));
}
  where
    m : ℕ
    m = length (announced_log ps v) + 1

    p : Message
    p = Prepare i v m c e

    s : Repeats p (messages (to_others i n p))
    s = others_repeat i n p group

    tells : (w : ℕ) → w ≢ v → (q : Message) → (ok ≡ q) ⊎ Contains (messages (to_others i n p)) q →
        TellsNothingNew (view_of ps w) w q
    tells w ne q (inl x) = let at : q ≡ PrepareOk i v m = sym x ∙ is in rw at tt
    tells w ne q (inr x) =
        let old : TellsNothingNew (view_of ps w) w p = λ same. absurd (ne (sym same)) in
        rw (others_same i n p q x) old

-- what holds of the view that got the entry
pub longer_invariant : (n : ℕ) (ps qs : List Message) (v : ℕ) (e : Entry) → has_begun ps v ≡ true →
    ViewInvariant n ps v → announced_log (ps ++ qs) v ≡ announced_log ps v ++ e ∷ [] →
    IsNewNumber (announced_log ps v) e → length (announced_log ps v) < LOG_ENTRIES →
    has_acked qs v (length (announced_log ps v) + 1) (primary n v) ≡ true → ViewInvariant n (ps ++ qs) v
longer_invariant n ps qs v e b old is new room ack =
    let pushed : length (announced_log ps v ++ e ∷ []) ≡ length (announced_log ps v) + 1 =
    length_push (announced_log ps v) e in
    let long : length (announced_log (ps ++ qs) v) ≡ length (announced_log ps v) + 1 = ap length is ∙ pushed in
    record {
      made = λ pos. made_later n ps qs v b (old.made pos);
      own = λ m pos l. ⊎_elim
          (λ high. let at : m ≡ length (announced_log ps v) + 1 = omega arith in
          rw at (has_acked-new ps qs v (length (announced_log ps v) + 1) (primary n v) ack))
          (λ low. has_acked-more ps qs v m (primary n v) (old.own m pos low))
          (cases_lt (length (announced_log ps v)) m);
      rising = rw is ((rising_with_one_more (announced_log ps v) e).1 (old.rising, new));
      within = omega arith;
    }
